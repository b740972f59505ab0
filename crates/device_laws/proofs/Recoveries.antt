-- The writes of a start are the tasks of the step table's recovery.
use Rattle.std.proofs.Common.{◌≡◌, ℕ, false, List, [], ◌∷◌, Option, Some, None, sym, subst}
use Rattle.std.specs.Prelude.{is_some}
use Rattle.stab_base.specs.declared.chunk_name.ChunkName.{ChunkName}
use Rattle.row_value.specs.declared.schema.Schema.{Schema}
use Rattle.status_log.specs.Entry.{Entry}
use Rattle.store_commit.specs.Devs.{Devs}
use Rattle.store_commit.specs.Agenda.{recovery_writes}
use Rattle.step_tables.specs.Chunks.{rising}
use Rattle.step_tables.specs.Store.{Stored}
use Rattle.step_tables.specs.Facts as facts
use Rattle.step_tables.specs.StoreMoves.{StoreDisk, recovering, reopening}
use Rattle.device_laws.specs.Stands.{Stands, Follows}
use Rattle.device_laws.proofs.Names.{among_rising, rising_among, different_rising}
use Rattle.device_laws.proofs.NamedDevices.{open_entry, none_open}
use Rattle.device_laws.proofs.Steps.{drops_follow}

pub open_follows : (schema : Schema) (d : Devs) (disk : StoreDisk) (store table : ℕ) (pending : Stored) → Stands schema d disk → disk.pending ≡ Some pending
    → Follows schema d (recovery_writes (rising disk.left) (is_some d.pending)) disk (recovering store table disk)
open_follows schema d disk store table pending st is =
    let e = open_entry schema d disk st pending is in
    let last = drops_follow schema (rising disk.left) d disk (facts.StoreRecovered store table ∷ []) [] st (different_rising disk.left)
    (λ name a. among_rising name disk.left a) (λ name a. rising_among name disk.left a) in
    subst (λ (o : Option Entry). Follows schema d (recovery_writes (rising disk.left) (is_some o)) disk (recovering store table disk)) (sym e.1)
    (st, tt, (st, tt, (st, tt, last)))

pub closed_follows : (schema : Schema) (d : Devs) (disk : StoreDisk) (store table : ℕ) → Stands schema d disk → disk.pending ≡ None
    → Follows schema d (recovery_writes (rising disk.left) (is_some d.pending)) disk (reopening store table)
closed_follows schema d disk store table st is =
    let n = none_open schema d disk st is in
    subst (λ (o : Option Entry). Follows schema d (recovery_writes (rising disk.left) (is_some o)) disk (reopening store table)) (sym n.0)
    (subst (λ (l : List ChunkName). Follows schema d (recovery_writes (rising l) false) disk (reopening store table)) (sym n.1) (st, tt, (st, tt, (st, tt, st))))
