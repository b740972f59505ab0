-- What a client holds of a row under the Store's names, and what a call leaves that only reads.
use Rattle.std.specs.Prelude.{◌≡◌, ℕ, suc, ◌<◌, List, ◌++◌, Option, None, Result, IfErr, IsErrOf}
use Rattle.disk_trait.specs.Calls.{DiskState}
use Rattle.stab_base.specs.declared.chunk_name.ChunkName.{ChunkName}
use Rattle.held_value.specs.declared.slots.Slots.{Slots as HeldSlots}
use Rattle.held_value.specs.declared.local_name.LocalName.{LocalName}
use Rattle.step_tables.specs.Chunks.{flat}
use Rattle.step_tables.specs.ClientMoves.{TableDisk, Client, chunks_read, slots_at, top}
use Rattle.held_contents.specs.Reading.{chunks_shown, content_read}
use Rattle.held_contents.specs.Request.{known_in}
use Rattle.client_node.specs.declared.calls.held.RowHeld.{RowHeld}
use Rattle.client_node.specs.declared.fault.CallFault.{CallFault}
use Rattle.client_node.specs.declared.fault.CallFault.TheVariants.{Disk}
use Rattle.client_node.specs.declared.node.ClientNode.{ClientNode}
use Rattle.client_node.specs.Answers.{IsFault}
use Rattle.client_node.specs.Calls.{Stays}
use Rattle.client_node.specs.Node.{own_faults, LeavesEither, HasPlansBelow}

-- a row of an opened table: its chunks are those of what was read last, and behind them those of the row in conflict
abbrev pub row_held : List ℕ → TableDisk → RowHeld
row_held row opened = record {
  position = opened.position;
  chunk = opened.schema.chunk;
  read = top (slots_at opened row).conflict (slots_at opened row).shadow;
  held = flat (chunks_read opened.schema.chunk (slots_at opened row).shadow)
      ++ flat (chunks_read opened.schema.chunk (slots_at opened row).conflict);
}

-- the chunks of slots, where the names stand for this
abbrev pub chunks_named : (LocalName → List ℕ) → HeldSlots → List (Option ChunkName × List ℕ)
chunks_named meaning slots = flat (known_in (chunks_shown meaning (content_read slots.shadow)))
    ++ flat (known_in (chunks_shown meaning (content_read slots.conflict)))

-- Nothing has changed; or a disk has failed, and the node is down with the disk as it was. A crash at any moment of the
-- call leaves that disk.
pub record OnlyReads {D T : Type 0} (state : D → DiskState) (images : D → ℕ → List ℕ → Type 0) (s : Client)
    (old new : ClientNode D) (result : Result T CallFault) : Type 0 where
  pub kept : (IsErrOf result Disk → ⊥) → Stays state old new s
  pub fallen : IsErrOf result Disk → Stays state old new (record { disk = s.disk; agenda = None })
  pub counted : (IsErrOf result Disk → ⊥) → own_faults state new ≡ own_faults state old
  pub cause : IsErrOf result Disk → own_faults state old < own_faults state new
  pub only : IfErr result IsFault
  pub any_moment : LeavesEither state images old new s.disk s.disk
  pub plans : (n : ℕ) → HasPlansBelow state n old → HasPlansBelow state (suc n) new
