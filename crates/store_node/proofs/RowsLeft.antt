-- What a crash leaves of the disk of the rows, as the rows of a disk of the step table.
use Rattle.std.proofs.Common.{◌≡◌, ◌⊎◌, inl, inr, ⊎_elim, ℕ, List, sym, subst}
use Rattle.disk_trait.specs.Calls.{DiskState}
use Rattle.vault.specs.Calls.{IsEither}
use Rattle.row_value.specs.declared.schema.Schema.{Schema}
use Rattle.row_store.specs.Data.{TableData}
use Rattle.store_commit.specs.declared.devs.TableDevs.{TableDevs}
use Rattle.store_commit.specs.Devs.{Devs}
use Rattle.store_commit.specs.Standing.{RowsLeave}
use Rattle.store_commit.proofs.Moments.{rows_weaker}
use Rattle.step_tables.specs.StoreMoves.{StoreDisk}
use Rattle.device_laws.specs.Stands.{Stands, HasRows}

-- rows that are those of one of two devices are those of one of two disks
pub has_either : (schema : Schema) (a b : Devs) (before after : StoreDisk) → Stands schema a before → Stands schema b after → (held : TableData) → IsEither a.held b.held held
    → HasRows schema held before ⊎ HasRows schema held after
has_either schema a b before after first second held either =
    ⊎_elim (λ is. inl (subst (λ (x : TableData). HasRows schema x before) (sym is) first.held)) (λ is. inr (subst (λ (x : TableData). HasRows schema x after) (sym is) second.held)) either

module _ {D : Type 0} (state : D → DiskState) (images : D → ℕ → List ℕ → Type 0) where
  -- of devices that stand for a disk the rows of that disk
  pub rows_of_disk : (schema : Schema) (d : Devs) (disk : StoreDisk) → Stands schema d disk → (old new : TableDevs D) → RowsLeave state images old new (λ held. held ≡ d.held)
      → RowsLeave state images old new (λ held. HasRows schema held disk ⊎ HasRows schema held disk)
  rows_of_disk schema d disk stands old new run =
      rows_weaker state images old new (λ held. held ≡ d.held) (λ held. HasRows schema held disk ⊎ HasRows schema held disk) run
      (λ held is. inl (subst (λ (x : TableData). HasRows schema x disk) (sym is) stands.held))
