use Rattle.std.proofs.Common.{◌≡◌, ◌⊎◌, inl, inr, ℕ, Bool, true, false, cond, List, [], ◌∷◌, Option, Some, None, refl, subst, ⊎_elim, arith}
use Rattle.std.specs.Prelude.{reverse, if◌then◌else◌, ◌==◌}
use Rattle.std.specs.List.{find}
use Rattle.row_value.specs.declared.schema.Scheme.{Scheme}
use Rattle.row_value.specs.declared.schema.Scheme.TheVariants.{Strong, Causal, Eventual}
use Rattle.table_model.specs.declared.entry.Entry.{Entry}
use Rattle.table_model.specs.declared.line.Write.{Write}
use Rattle.table_model.specs.History.{same_row, current, version_of}
use Rattle.step_tables.specs.Members.{Among}
use Rattle.step_tables.specs.Sayings.{Said, RowHeard, no_row, row_wrote, row_acked, row_met, open_of, open_in}
use Rattle.step_tables.proofs.Lists.{among_here, among_cons, among_none, same_row_tells}
use Rattle.world_tables.specs.Sound.{shown_of, shown_by}
use Rattle.world_tables.specs.Settled.{IsUpTo}
use Rattle.world_laws.specs.Worked.{the_row, int, causal_conflict_written, said_by, schemes_of}
use Rattle.world_laws.proofs.a_conflict_is_settled.Goals as goal

abbrev said : Said
said = said_by causal_conflict_written

abbrev schemes : ℕ → Scheme
schemes = schemes_of causal_conflict_written

abbrev Here : ℕ → List ℕ → Type 0
Here client row = IsUpTo (current (said.history 1) row) (shown_of schemes said client 1 row)

-- a row whose lines say this; whether it is the row that was written is asked of the history and of the lines
abbrev Told : Bool → RowHeard → Type 0
Told a x = IsUpTo (version_of (find (λ (entry : Entry). a) (reverse (said.history 1)))) (shown_by said 1 x (open_in Causal (open_of x)))

abbrev write : ℕ → ℕ → Write
write client n = record { client = client; number = 1; table = 1; row = the_row; read = 0; content = int n }

-- what the lines say where the row is the one that was written
abbrev wrote : ℕ → ℕ → RowHeard
wrote client n = row_wrote (write client n) no_row

abbrev at_row : Bool → RowHeard → RowHeard → RowHeard
at_row b last before = if b then last else (if b then before else no_row)

none_told : (a b : Bool) (last before : RowHeard) → a ≡ false → b ≡ false → Told a (at_row b last before)
none_told true b last before p q = absurd cc
none_told false true last before p q = absurd cc
none_told false false last before p q = refl

first : (row : List ℕ) → Here 1 row
first row = ⊎_elim (λ t. subst (λ (r : List ℕ). Here 1 r) t.1 refl)
    (λ f. ⊎_elim (λ t. absurd (f.1 (let e = t.1 in cc)))
    (λ g. none_told (same_row the_row row) (same_row row the_row) (row_acked 1 1 (wrote 1 5)) (wrote 1 5) f.0 g.0) (same_row_tells row the_row)) (same_row_tells the_row row)

second : (row : List ℕ) → Here 2 row
second row = ⊎_elim (λ t. subst (λ (r : List ℕ). Here 2 r) t.1 refl)
    (λ f. ⊎_elim (λ t. absurd (f.1 (let e = t.1 in cc)))
    (λ g. none_told (same_row the_row row) (same_row row the_row) (row_met 1 1 (wrote 2 6)) (wrote 2 6) f.0 g.0) (same_row_tells row the_row)) (same_row_tells the_row row)

not_strong : (b : Bool) → (if b then Causal else Eventual) ≡ Strong → ⊥
not_strong true e = absurd cc
not_strong false e = absurd cc

pub returns : goal.returns
returns c = record {
  rows = λ client table a row.
      let P : ℕ × ℕ → Type 0 = λ p. IsUpTo (current (said.history p.1) row) (shown_of schemes said p.0 p.1 row) in
      ⊎_elim (λ e. subst P e (first row))
      (λ b. ⊎_elim (λ e. subst P e (second row)) (λ z. absurd (among_none _ z)) (among_cons _ _ _ b))
      (among_cons _ _ _ a);
  strong = λ client table row e. absurd (not_strong (1 == table) e);
}
