use Rattle.std.proofs.Common.{◌≡◌, ◌⊎◌, ℕ, Bool, true, false, [], ◌∷◌, refl, ap, inl, inr, ⊎_elim, arith}
use Rattle.std.specs.Prelude.{◌==◌, if◌then◌else◌}
use Rattle.row_value.specs.declared.schema.Scheme.{Scheme}
use Rattle.table_model.specs.declared.entry.Entry.{Entry}
use Rattle.table_model.specs.declared.line.Write.{Write}
use Rattle.step_tables.specs.Facts as facts
use Rattle.step_tables.specs.Members.{Among}
use Rattle.step_tables.specs.Sayings.{Said, nothing_said, hear_all}
use Rattle.step_tables.proofs.Lists.{among_here, among_next, among_cons, among_none}
use Rattle.world_tables.specs.Sound.{IsEntryAt, IsNew}
use Rattle.world_laws.specs.Worked.{the_row, int, wrote, entry_of, told_by_starts, starts_retell, schemes_of}
use Rattle.world_laws.proofs.Told.{nothing_told, in_sight}
use Rattle.world_laws.proofs.Lines.{FactsSaid, all_told}
use Rattle.world_laws.proofs.what_a_start_tells_again_is_sound.Goals as goal

abbrev g : ℕ → Scheme
g = schemes_of starts_retell

-- what was said before the entries
abbrev written : Said
written = hear_all nothing_said (facts.Client (wrote 1 1 0 5) ∷ facts.Redone (wrote 1 1 0 5) ∷ facts.Client (wrote 2 1 0 6) ∷ [])

abbrev first : Entry
first = entry_of 1 1 1 0

abbrev second : Entry
second = entry_of 2 2 1 0

abbrev of_write : ℕ → ℕ → Write
of_write client n = record { client = client; number = 1; table = 1; row = the_row; read = 0; content = int n }

first_is : IsNew g written 1 first
first_is = record {
  next = refl;
  write = of_write 1 5;
  written = record { told = refl; by = refl; table_is = refl; row_is = refl };
  once = λ table e a. absurd (among_none e a);
  rises = λ o a. absurd (among_none o a);
  over = inl refl;
  unlost = refl;
  standing = refl;
}

abbrev entered : Said
entered = hear_all written (facts.Accepted 1 first ∷ facts.Forward 1 first ∷ [])

-- there is no entry but the first
only : (table : ℕ) (e : Entry) → Among (entered.history table) e → first ≡ e
only table e a = by_test (table == 1) a
  where
    by_test : (b : Bool) → Among (if b then first ∷ [] else (if b then first ∷ [] else [])) e → first ≡ e
    by_test true here = ⊎_elim (λ same. same) (λ none. absurd (among_none e none)) (among_cons first [] e here)
    by_test false here = absurd (among_none e here)

second_is : IsNew g entered 1 second
second_is = record {
  next = refl;
  write = of_write 2 6;
  written = record { told = refl; by = refl; table_is = refl; row_is = refl };
  once = λ table e a client. absurd (let one = ap (λ (x : Entry). x.client) (only table e a) in omega arith);
  rises = λ o a client. absurd (let one = ap (λ (x : Entry). x.client) (only 1 o a) in omega arith);
  over = inl refl;
  unlost = refl;
  standing = refl;
}

-- behind both entries
module _ (s : Said) (both : s.history 1 ≡ first ∷ second ∷ []) where
  of_first : (e : Entry) × IsEntryAt s 1 the_row 1 e × (e.client ≡ 1) × (e.number ≡ 1)
  of_first = (first, record { stands = rw both (among_here first (second ∷ [])); row_is = refl; version_is = refl }, refl, refl)

  of_second : IsEntryAt s 1 the_row 2 second
  of_second = record { stands = rw both (among_next first (second ∷ []) second (among_here second [])); row_is = refl; version_is = refl }

said : FactsSaid g nothing_said told_by_starts
said = (
  inl (refl, refl),
  (
    inr (refl, refl),
    (
      inl (refl, refl),
      (
        inl first_is,
        (
          inr (refl, among_here first []),
          (
            inl second_is,
            (
              (of_first _ refl, inl (refl, omega arith)),
              (
                (second, of_second _ refl, inl (inl (omega arith))),
                ((of_first _ refl, inr (refl, refl)), ((second, of_second _ refl, inl (inr (refl, refl))), tt)),
              ),
            ),
          ),
        ),
      ),
    ),
  ),
)

pub returns : goal.returns
returns c = (
  in_sight g nothing_said nothing_told,
  refl,
  tt,
  (
    in_sight g nothing_said nothing_told,
    record { answer = facts.Done; counted = []; told = told_by_starts; lines_are = refl; form = tt; counts = refl; quiet = tt; is = tt },
    (tt, said),
    in_sight g (hear_all nothing_said told_by_starts) (all_told g nothing_said told_by_starts nothing_told said),
  ),
)
