-- The tables that a client opens, and how its declaration went.
use Rattle.std.specs.Prelude.{◌≡◌, ℕ, ◌<◌, List, [], ◌∷◌, Option, Some, None}
use Rattle.std.specs.Ordering.{nat_cmp}
use Rattle.std.specs.BTreeMap as tree
use Rattle.disk_trait.specs.Calls.{DiskState}
use Rattle.disk_trait.specs.Fuse.{inner_of}
use Rattle.vault.specs.Standing.{disk_of}
use Rattle.chunk_store.specs.Standing as chunks
use Rattle.slot_store.specs.Standing as slots
use Rattle.plan_log.specs.Standing as journals
use Rattle.row_value.specs.declared.schema.Schema.{Schema}
use Rattle.step_tables.specs.Messages.{Luck, Done}
use Rattle.client_node.specs.declared.node.ClientNode.{ClientNode}
use Rattle.journal_host.specs.Holds.{node_faults}

abbrev pub put_before : ℕ → Option Schema → List (ℕ × Schema) → List (ℕ × Schema)
put_before table None some = some
put_before table (Some schema) some = (table, schema) ∷ some

-- the declared ones among these tables, each with its schema
abbrev pub declared_among : tree.BTreeMap ℕ Schema → List ℕ → List (ℕ × Schema)
declared_among schemas [] = []
declared_among schemas (table ∷ tables) =
    put_before table (tree.get nat_cmp schemas table) (declared_among schemas tables)

-- How often the disks of a client have failed that was declared with this luck: just where one has failed since a node
-- was put on these disks is the luck that one does.
pub record HasJoinLuck {D : Type 0} (state : D → DiskState) (disks : D × D × D) (luck : Luck) (count : ℕ)
    : Type 0 where
  pub fresh : ClientNode D
  pub journal_is : inner_of (disk_of (journals.vault_of fresh.devs.journal)) ≡ disks.0
  pub slots_are : inner_of (disk_of (slots.vault_of fresh.devs.slots)) ≡ disks.1
  pub chunks_are : inner_of (disk_of (chunks.vault_of fresh.devs.chunks)) ≡ disks.2
  pub counted : luck ≡ Done → count ≡ node_faults state fresh
  pub cause : (luck ≡ Done → ⊥) → node_faults state fresh < count
