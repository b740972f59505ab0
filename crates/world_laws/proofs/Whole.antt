-- What the fold of the lines says of a client and a row is what the whole list says.
use Rattle.std.proofs.Common.{◌≡◌, ◌⊎◌, inl, inr, ℕ, Bool, true, false, List, [], ◌∷◌, Option, Some, None, refl, sym, ap, ◌∙◌, arith}
use Rattle.std.specs.Prelude.{max, nat_lt, ◌==◌, ◌&&◌, ◌||◌, if◌then◌else◌}
use Rattle.std.specs.Option.{option_or}
use Rattle.std.proofs.lemmas.Bool.Decides.{nat_tests}
use Rattle.table_model.specs.declared.line.Write.{Write}
use Rattle.step_tables.specs.Facts.{Line}
use Rattle.step_tables.specs.Members.{put, put_at}
use Rattle.step_tables.specs.Sayings.{Saying, SaysNothing, SaysWrite, SaysEntry, SaysBack, SaysAck, SaysLoss, SaysConflict, SaysResolved, SaysRead, SaysPosition, says, RowHeard, Heard, own, Said}
use Rattle.step_tables.specs.Sayings.{nothing_said, hear, hear_lines}
use Rattle.step_tables.proofs.Lists.{same_row_tells}
use Rattle.world_tables.specs.Whole.{read_by, shadow_by, position_by, greatest, conflict_by, last_conflict}

module _ (client table : ℕ) (row : List ℕ) where
  abbrev pub Row : Said → RowHeard
  Row s = (s.heard client).at table row

  read_one : (s : Said) (x : Saying) → (Row (hear s x)).read ≡ max (Row s).read (read_by client table row x)
  read_one s (SaysAck c n t r v) = grind (arith, nat_tests, same_row_tells row r)
  read_one s (SaysConflict c n t r v) = grind (arith, nat_tests, same_row_tells row r)
  read_one s (SaysResolved c n t r v) = grind (arith, nat_tests, same_row_tells row r)
  read_one s (SaysRead c t r v) = grind (arith, nat_tests, same_row_tells row r)
  read_one s (SaysLoss c n t r v) = grind (arith, nat_tests, same_row_tells row r)
  read_one s (SaysWrite w) = grind (arith, nat_tests, same_row_tells row w.row)
  read_one s (SaysPosition c t p) = grind (arith, nat_tests)
  read_one s SaysNothing = grind arith
  read_one s (SaysEntry t e) = grind arith
  read_one s (SaysBack t v) = grind arith

  shadow_one : (s : Said) (x : Saying) → (Row (hear s x)).shadow ≡ max (Row s).shadow (shadow_by client table row x)
  shadow_one s (SaysAck c n t r v) = grind (arith, nat_tests, same_row_tells row r)
  shadow_one s (SaysConflict c n t r v) = grind (arith, nat_tests, same_row_tells row r)
  shadow_one s (SaysResolved c n t r v) = grind (arith, nat_tests, same_row_tells row r)
  shadow_one s (SaysRead c t r v) = grind (arith, nat_tests, same_row_tells row r)
  shadow_one s (SaysLoss c n t r v) = grind (arith, nat_tests, same_row_tells row r)
  shadow_one s (SaysWrite w) = grind (arith, nat_tests, same_row_tells row w.row)
  shadow_one s (SaysPosition c t p) = grind (arith, nat_tests)
  shadow_one s SaysNothing = grind arith
  shadow_one s (SaysEntry t e) = grind arith
  shadow_one s (SaysBack t v) = grind arith

  conflict_one : (n : ℕ) (s : Said) (x : Saying) → (Row (hear s x)).conflict n ≡ option_or (conflict_by client table row n x) ((Row s).conflict n)
  conflict_one n s (SaysAck c m t r v) = grind (arith, nat_tests, same_row_tells row r)
  conflict_one n s (SaysConflict c m t r v) = grind (arith, nat_tests, same_row_tells row r)
  conflict_one n s (SaysResolved c m t r v) = grind (arith, nat_tests, same_row_tells row r)
  conflict_one n s (SaysRead c t r v) = grind (arith, nat_tests, same_row_tells row r)
  conflict_one n s (SaysLoss c m t r v) = grind (arith, nat_tests, same_row_tells row r)
  conflict_one n s (SaysWrite w) = grind (arith, nat_tests, same_row_tells row w.row)
  conflict_one n s (SaysPosition c t p) = grind (arith, nat_tests)
  conflict_one n s SaysNothing = grind arith
  conflict_one n s (SaysEntry t e) = grind arith
  conflict_one n s (SaysBack t v) = grind arith

  read_on : (ls : List Line) (s : Said) → (Row (hear_lines s ls)).read ≡ max (Row s).read (greatest (read_by client table row) ls)
  read_on [] s = omega arith
  read_on (l ∷ ls) s = let one = read_one s (says l) in let rest = read_on ls (hear s (says l)) in omega arith

  shadow_on : (ls : List Line) (s : Said) → (Row (hear_lines s ls)).shadow ≡ max (Row s).shadow (greatest (shadow_by client table row) ls)
  shadow_on [] s = omega arith
  shadow_on (l ∷ ls) s = let one = shadow_one s (says l) in let rest = shadow_on ls (hear s (says l)) in omega arith

  or_or : (a b d : Option ℕ) → option_or a (option_or b d) ≡ option_or (option_or a b) d
  or_or None b d = refl
  or_or (Some x) b d = refl

  conflict_on : (n : ℕ) (ls : List Line) (s : Said) → (Row (hear_lines s ls)).conflict n ≡ option_or (last_conflict client table row n ls) ((Row s).conflict n)
  conflict_on n [] s = refl
  conflict_on n (l ∷ ls) s =
      conflict_on n ls (hear s (says l))
      ∙ (ap (λ (o : Option ℕ). option_or (last_conflict client table row n ls) o) (conflict_one n s (says l))
      ∙ or_or (last_conflict client table row n ls) (conflict_by client table row n (says l)) ((Row s).conflict n))

  pub read_is : (ls : List Line) → (Row (hear_lines nothing_said ls)).read ≡ greatest (read_by client table row) ls
  read_is ls = let k = read_on ls nothing_said in omega arith

  pub shadow_is : (ls : List Line) → (Row (hear_lines nothing_said ls)).shadow ≡ greatest (shadow_by client table row) ls
  shadow_is ls = let k = shadow_on ls nothing_said in omega arith

  or_none : (o : Option ℕ) → option_or o None ≡ o
  or_none None = refl
  or_none (Some x) = refl

  pub conflict_is : (n : ℕ) (ls : List Line) → (Row (hear_lines nothing_said ls)).conflict n ≡ last_conflict client table row n ls
  conflict_is n ls = conflict_on n ls nothing_said ∙ or_none (last_conflict client table row n ls)

module _ (client table : ℕ) where
  position_one : (s : Said) (x : Saying) → ((hear s x).heard client).position table ≡ max ((s.heard client).position table) (position_by client table x)
  position_one s (SaysAck c n t r v) = grind (arith, nat_tests)
  position_one s (SaysConflict c n t r v) = grind (arith, nat_tests)
  position_one s (SaysResolved c n t r v) = grind (arith, nat_tests)
  position_one s (SaysRead c t r v) = grind (arith, nat_tests)
  position_one s (SaysLoss c n t r v) = grind (arith, nat_tests)
  position_one s (SaysWrite w) = grind (arith, nat_tests)
  position_one s (SaysPosition c t p) = grind (arith, nat_tests)
  position_one s SaysNothing = grind arith
  position_one s (SaysEntry t e) = grind arith
  position_one s (SaysBack t v) = grind arith

  position_on : (ls : List Line) (s : Said) → ((hear_lines s ls).heard client).position table ≡ max ((s.heard client).position table) (greatest (position_by client table) ls)
  position_on [] s = omega arith
  position_on (l ∷ ls) s = let one = position_one s (says l) in let rest = position_on ls (hear s (says l)) in omega arith

  pub position_is : (ls : List Line) → ((hear_lines nothing_said ls).heard client).position table ≡ greatest (position_by client table) ls
  position_is ls = let k = position_on ls nothing_said in omega arith
