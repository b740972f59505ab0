-- What a declaration and a start do to a client's devices.
use Rattle.std.specs.Prelude.{◌≡◌, ℕ, ◌<◌, List, [], ◌∷◌, length, IfSome, Result, OnOk, IfErr, IsErrOf}
use Rattle.std.specs.Ordering.{nat_cmp}
use Rattle.std.specs.Map.{lookup}
use Rattle.std.specs.BTreeMap.{is_at}
use Rattle.disk_trait.specs.Calls.{DiskState}
use Rattle.row_value.specs.declared.schema.Schema.{Schema}
use Rattle.held_value.specs.declared.local_name.LocalName.{LocalName}
use Rattle.slot_store.specs.Data.{record_of}
use Rattle.plan_log.specs.Journal.{nothing_planned}
use Rattle.client_journal.specs.declared.devs.Journal.{Journal}
use Rattle.client_journal.specs.Agenda.{Runs, IsRedoing}
use Rattle.client_journal.specs.Asking.{AllLeave}
use Rattle.client_journal.specs.Devs.{ClientDevs}
use Rattle.client_journal.specs.NamedSlots.{NamedSlots}
use Rattle.client_journal.specs.Recover.{AreRecoveryWrites}
use Rattle.client_journal.specs.Redone.{redone}
use Rattle.client_journal.specs.Standing.{devs, writes_of, all_faults, AreUp, IsReady}
use Rattle.client_journal.specs.Unset.{KeepsUnset}
use Rattle.step_tables.specs.ClientMoves.{TableDisk}
use Rattle.step_tables.specs.Facts.{ClientRecovered}
use Rattle.journal_laws.specs.Holds.{StandsTable}
use Rattle.client_node.specs.declared.fault.CallFault.{CallFault}
use Rattle.client_node.specs.declared.fault.CallFault.TheVariants.{Disk}
use Rattle.client_node.specs.Answers.{IsFault}
use Rattle.client_node.specs.Looks.{IsNotDisk}
use Rattle.client_node.specs.Node.{to_open, facts_owed}
use Rattle.client_node.specs.declared.owed.Owed.{Owed}
use Rattle.client_node.specs.declared.owed.When.TheVariants.{AtEnd}

-- ---- a declaration

-- The devices hold the records of these tables and no row, no chunk and no plan.
pub record HoldRecords (d : ClientDevs) (tables : List (ℕ × TableDisk)) : Type 0 where
  pub chunks : d.chunks ≡ []
  pub rows : d.held.rows ≡ []
  pub last : d.held.last ≡ 0
  pub journal : d.journal ≡ nothing_planned
  pub records : (table : ℕ) → StandsTable (record_of d.held table) (lookup (is_at (nat_cmp table)) tables)
  pub no_rows : (table : ℕ) → IfSome (lookup (is_at (nat_cmp table)) tables) (λ opened. opened.rows ≡ [])

-- the disks failed where `Disk` is told, and only there; any other fault is one of memory; and the fuses are kept
pub record HasCause {D T : Type 0} (state : D → DiskState) (old new : Journal D) (result : Result T CallFault)
    : Type 0 where
  pub counted : IsNotDisk result → all_faults state new ≡ all_faults state old
  pub disk : IsErrOf result Disk → all_faults state old < all_faults state new
  pub only : IfErr result IsFault
  pub fuse : KeepsUnset state old new

-- The devices are those of these tables, and at rest.
pub record MakesTables {D : Type 0} (state : D → DiskState) (tables : List (ℕ × Schema)) (old new : Journal D)
    (result : Result (Unit {0}) CallFault) : Type 0 where
  pub holds : OnOk result (HoldRecords (devs state new) (to_open tables).tables)
  pub up : OnOk result (AreUp new)
  pub ready : OnOk result (IsReady state new [])
  pub idle : OnOk result (writes_of new ≡ [])
  pub cause : HasCause state old new result

-- ---- a start

-- The writes of a start are taken on; a crash at any moment leaves what was held.
pub record BeginsStart {D T : Type 0} (state : D → DiskState) (images : D → ℕ → List ℕ → Type 0) (old new : Journal D)
    (result : Result T CallFault) : Type 0 where
  pub writes : OnOk result (AreRecoveryWrites (devs state old) (writes_of new))
  pub ready : OnOk result (IsReady state new (writes_of new))
  pub up : OnOk result (AreUp new)
  pub same : OnOk result (devs state new ≡ devs state old)
  -- where the devices have named slots, they do so behind each of these writes, and stand for the same
  pub runs : OnOk result ((meaning : LocalName → List ℕ) → NamedSlots meaning (devs state old)
      → Runs (IsRedoing meaning (redone (devs state old))) (devs state new) (writes_of new))
  pub cause : HasCause state old new result
  pub leave : AllLeave state images old new

-- that the client has recovered is told with the last write
pub record OwesEnd (client : ℕ) (owed : Owed) : Type 0 where
  pub when : owed.when ≡ AtEnd
  pub facts : facts_owed owed ≡ ClientRecovered client ∷ []
  pub one : length owed.facts.items ≡ 1
  pub messages : owed.messages.items ≡ []
