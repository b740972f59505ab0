-- Which tables a client's devices hold where one is opened or closed: one more, or the same with a flag.
use Rattle.std.proofs.Common.{◌≡◌, ◌≢◌, ◌⊎◌, inl, inr, ⊎_elim, ℕ, Option, Some, None, refl, sym, ◌∙◌, ap}
use Rattle.step_tables.specs.ClientMoves.{TableDisk, TableChange, Opens, Closes, ClientDisk, table_at, with_table, opened_table, open_table, close_table, altered}
use Rattle.world_laws.proofs.Looks.{look_cases}
use Rattle.world_laws.proofs.Owners.{same_or_other}

-- the table behind a change of it
abbrev pub changed_in : TableChange → Option TableDisk → Option TableDisk
changed_in (Opens schema) None = Some (opened_table schema)
changed_in (Opens schema) (Some table) = Some table
changed_in Closes None = None
changed_in Closes (Some table) = Some (close_table table)

abbrev IsAt : ClientDisk → ClientDisk → ℕ → TableChange → ℕ → Type 0
IsAt d e n change q = ((q ≡ n) × (table_at e q ≡ changed_in change (table_at d n))) ⊎ ((q ≢ n) × (table_at e q ≡ table_at d q))

unchanged : (d : ClientDisk) (n : ℕ) (change : TableChange) (q : ℕ) → table_at d n ≡ changed_in change (table_at d n) → IsAt d d n change q
unchanged d n change q same = ⊎_elim (λ e. inl (e, ap (table_at d) e ∙ same)) (λ apart. inr (apart, refl)) (same_or_other q n)

pub altered_cases : (d : ClientDisk) (n : ℕ) (change : TableChange) (q : ℕ) → IsAt d (altered d n change) n change q
altered_cases d n (Opens schema) q = go (table_at d n) refl
  where
    go : (m : Option TableDisk) → table_at d n ≡ m → IsAt d (open_table d n schema m) n (Opens schema) q
    go None at = ⊎_elim (λ e. inl (e.0, e.1 ∙ sym (ap (changed_in (Opens schema)) at))) (λ e. inr e) (look_cases d.tables n (opened_table schema) q)
    go (Some table) at = unchanged d n (Opens schema) q (at ∙ sym (ap (changed_in (Opens schema)) at))
altered_cases d n Closes q = go (table_at d n) refl
  where
    go : (m : Option TableDisk) → table_at d n ≡ m → IsAt d (with_table d n m close_table) n Closes q
    go None at = unchanged d n Closes q (at ∙ sym (ap (changed_in Closes) at))
    go (Some table) at = ⊎_elim (λ e. inl (e.0, e.1 ∙ sym (ap (changed_in Closes) at))) (λ e. inr e) (look_cases d.tables n (close_table table) q)
