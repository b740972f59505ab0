-- What the three devices of a client hold, and what one write makes of it.
use Rattle.std.specs.Prelude.{◌≡◌, ◌⊎◌, ℕ, List, [], ◌∷◌, Option}
use Rattle.std.specs.BTreeMap.{insert_entry}
use Rattle.spare_map.specs.Late.{without}
use Rattle.stab_base.specs.declared.chunk_name.ChunkName.{ChunkName}
use Rattle.held_value.specs.declared.local_name.LocalName.{LocalName}
use Rattle.chunk_store.specs.Payload.{name_cmp}
use Rattle.chunk_store.specs.Standing.{chunk_in}
use Rattle.slot_store.specs.declared.held.RowSlots.{RowSlots}
use Rattle.slot_store.specs.declared.held.TableRecord.{TableRecord}
use Rattle.slot_store.specs.Data.{SlotData, with_slots, with_record}
use Rattle.plan_log.specs.declared.plan.Intend.{Intend}
use Rattle.plan_log.specs.declared.plan.Commit.{Commit}
use Rattle.plan_log.specs.Journal.{Journal as Planned, with_intend, with_commit, with_done}

-- a chunk stands under its local name: the plan in place of a version
abbrev pub chunk_of : LocalName → ChunkName
chunk_of name = record { version = name.plan; ordinal = name.ordinal }

abbrev pub local_of : ChunkName → LocalName
local_of name = record { plan = name.version; ordinal = name.ordinal }

-- the chunk of a local name
abbrev pub local_in : List (ChunkName × List ℕ) → LocalName → Option (List ℕ)
local_in map name = chunk_in map (chunk_of name)

-- what is planned, the slots of the rows and the records of the tables, and the chunks by name
pub record ClientDevs : Type 0 where
  pub chunks : List (ChunkName × List ℕ)
  pub held : SlotData
  pub journal : Planned

-- One write of one device. A vault is opened before its first write since a start, which changes nothing that it holds.
pub data Write : Type 0 where
  OpenJournal : Write
  OpenSlots : Write
  OpenChunks : Write
  PutIntend : Intend → Write
  PutChunk : LocalName → List ℕ → Write
  PutCommit : Commit → Write
  PutSlots : RowSlots → Write
  PutRecord : TableRecord → Write
  DropChunk : LocalName → Write
  PutDone : Write

abbrev pub changed_by : ClientDevs → Write → ClientDevs
changed_by d OpenJournal = d
changed_by d OpenSlots = d
changed_by d OpenChunks = d
changed_by d (PutIntend intend) =
    record { chunks = d.chunks; held = d.held; journal = with_intend d.journal intend }
changed_by d (PutChunk name bytes) =
    record { chunks = insert_entry name_cmp d.chunks (chunk_of name) bytes; held = d.held; journal = d.journal }
changed_by d (PutCommit commit) =
    record { chunks = d.chunks; held = d.held; journal = with_commit d.journal commit }
changed_by d (PutSlots row) = record { chunks = d.chunks; held = with_slots d.held row; journal = d.journal }
changed_by d (PutRecord table) = record { chunks = d.chunks; held = with_record d.held table; journal = d.journal }
changed_by d (DropChunk name) =
    record { chunks = without name_cmp d.chunks (chunk_of name); held = d.held; journal = d.journal }
changed_by d PutDone =
    record { chunks = d.chunks; held = d.held; journal = with_done d.journal d.journal.greatest }

-- after all of them, one after the other
abbrev pub changed_by_all : ClientDevs → List Write → ClientDevs
changed_by_all d [] = d
changed_by_all d (w ∷ ws) = changed_by_all (changed_by d w) ws

-- a crash inside a write leaves what was there before it or what is there after it
abbrev pub IsBeforeOrAfter : ClientDevs → Write → ClientDevs → Type 0
IsBeforeOrAfter d w left = (left ≡ d) ⊎ (left ≡ changed_by d w)
