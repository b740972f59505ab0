-- The last write of each client on a row.
use Rattle.std.proofs.Common.{◌≡◌, ◌≢◌, ℕ, Bool, true, false, cond, List, [], ◌∷◌, ◌++◌, Option, Some, None, refl, sym, ◌∙◌, ap, arith, true≢false}
use Rattle.std.specs.Prelude.{◌==◌, ◌&&◌, nat_lt, filter, if◌then◌else◌}
use Rattle.std.specs.List.{find}
use Rattle.std.specs.Option.{option_or}
use Rattle.std.proofs.lemmas.Bool.Decides.{nat_tests}
use Rattle.std.proofs.lemmas.List.Folds.{find-append}
use Rattle.row_store.specs.declared.stored.LastWrite.{LastWrite}
use Rattle.store_commit.specs.Update.{with_last}
use Rattle.table_model.specs.History.{same_row}
use Rattle.table_model.specs.Last.{last_where}
use Rattle.step_tables.specs.Store.{Stored, current_of, is_of_row}
use Rattle.step_tables.specs.StoreMoves.{is_by, pair_of, yours_in}
use Rattle.step_tables.proofs.Lists.{among_last, last_some, last_where-push, same_row-refl}
use Rattle.device_laws.specs.Stands.{pair_or, pair_in}

-- ---- a list of last writes, with one more

find_all : {X : Type 0} (p r : X → Bool) (xs : List X) → ((x : X) → p x ≡ true → r x ≡ true) → find p (filter r xs) ≡ find p xs
find_all p r [] all = refl
find_all {X} p r (x ∷ xs) all = pick (r x) refl (p x) refl (find_all p r xs all)
  where
    pick : (a : Bool) → r x ≡ a → (b : Bool) → p x ≡ b → find p (filter r xs) ≡ find p xs → find p (cond a (x ∷ filter r xs) (filter r xs)) ≡ cond (p x) (Some x) (find p xs)
    pick true is b at more = ap (λ (o : Option X). cond (p x) (Some x) o) more
    pick false is true at more = absurd (true≢false (sym (all x at) ∙ is))
    pick false is false at more = more ∙ sym (ap (λ (t : Bool). cond t (Some x) (find p xs)) at)

find_none : {X : Type 0} (p r : X → Bool) (xs : List X) → ((x : X) → p x ≡ true → r x ≡ false) → find p (filter r xs) ≡ None
find_none p r [] none = refl
find_none {X} p r (x ∷ xs) none = pick (r x) refl (p x) refl (find_none p r xs none)
  where
    pick : (a : Bool) → r x ≡ a → (b : Bool) → p x ≡ b → find p (filter r xs) ≡ None → find p (cond a (x ∷ filter r xs) (filter r xs)) ≡ None
    pick true is true at more = absurd (true≢false (sym is ∙ none x at))
    pick true is false at more = ap (λ (t : Bool). cond t (Some x) (find p (filter r xs))) at ∙ more
    pick false is b at more = more

abbrev is_client : ℕ → LastWrite → Bool
is_client client last = last.client == client

module _ (lasts : List LastWrite) (last : LastWrite) (client : ℕ) where
  abbrev smaller : List LastWrite
  smaller = filter (λ (o : LastWrite). nat_lt o.client last.client) lasts

  abbrev greater : List LastWrite
  greater = filter (λ (o : LastWrite). nat_lt last.client o.client) lasts

  abbrev p : LastWrite → Bool
  p = is_client client

  or_none : (o : Option LastWrite) → option_or o None ≡ o
  or_none None = refl
  or_none (Some x) = refl

  found : find p (with_last lasts last) ≡ option_or (find p smaller) (cond (last.client == client) (Some last) (find p greater))
  found = find-append p smaller (last ∷ greater)

  found_own : last.client ≡ client → find p (with_last lasts last) ≡ Some last
  found_own same =
      let test : (last.client == client) ≡ true = grind (arith, nat_tests) in
      let none : find p smaller ≡ None = find_none p (λ (o : LastWrite). nat_lt o.client last.client) lasts (λ o at. grind (arith, nat_tests)) in
      found ∙ (ap (λ (o : Option LastWrite). option_or o (cond (last.client == client) (Some last) (find p greater))) none ∙ ap (λ (t : Bool). cond t (Some last) (find p greater)) test)

  found_other : last.client ≢ client → find p (with_last lasts last) ≡ find p lasts
  found_other other =
      let test : (last.client == client) ≡ false = grind (arith, nat_tests) in
      found ∙ (ap (λ (t : Bool). option_or (find p smaller) (cond t (Some last) (find p greater))) test ∙ side (nat_lt client last.client) refl)
    where
      side : (b : Bool) → nat_lt client last.client ≡ b → option_or (find p smaller) (find p greater) ≡ find p lasts
      side true less =
          let all : find p smaller ≡ find p lasts = find_all p (λ (o : LastWrite). nat_lt o.client last.client) lasts (λ o at. grind (arith, nat_tests)) in
          let none : find p greater ≡ None = find_none p (λ (o : LastWrite). nat_lt last.client o.client) lasts (λ o at. grind (arith, nat_tests)) in
          ap (λ (o : Option LastWrite). option_or (find p smaller) o) none ∙ (or_none (find p smaller) ∙ all)
      side false more =
          let all : find p greater ≡ find p lasts = find_all p (λ (o : LastWrite). nat_lt last.client o.client) lasts (λ o at. grind (arith, nat_tests)) in
          let none : find p smaller ≡ None = find_none p (λ (o : LastWrite). nat_lt o.client last.client) lasts (λ o at. grind (arith, nat_tests)) in
          ap (λ (o : Option LastWrite). option_or o (find p greater)) none ∙ all

  pub pair_put : pair_in (with_last lasts last) client ≡ (if last.client == client then pair_or (Some last) else pair_in lasts client)
  pair_put = split (last.client == client) refl
    where
      split : (b : Bool) → (last.client == client) ≡ b → pair_in (with_last lasts last) client ≡ (if b then pair_or (Some last) else pair_in lasts client)
      split true is = ap pair_or (found_own (grind (arith, nat_tests)))
      split false is = ap pair_or (found_other (grind (arith, nat_tests)))

-- ---- a client's last item on a row, with one item more

pub yours_own : (items : List Stored) (item : Stored) (client : ℕ)
    → yours_in (items ++ item ∷ []) client item.entry.row ≡ (if item.entry.client == client then pair_of (Some item) else yours_in items client item.entry.row)
yours_own items item client =
    ap pair_of (last_where-push (is_by client item.entry.row) items item)
    ∙ (ap (λ (t : Bool). pair_of (cond ((item.entry.client == client) && t) (Some item) (last_where (is_by client item.entry.row) items))) (same_row-refl item.entry.row)
    ∙ split (item.entry.client == client))
  where
    split : (b : Bool) → pair_of (cond (b && true) (Some item) (last_where (is_by client item.entry.row) items)) ≡ (if b then pair_of (Some item) else yours_in items client item.entry.row)
    split true = refl
    split false = refl

pub yours_other : (items : List Stored) (item : Stored) (client : ℕ) (row : List ℕ) → same_row item.entry.row row ≡ false → yours_in (items ++ item ∷ []) client row ≡ yours_in items client row
yours_other items item client row other =
    ap pair_of (last_where-push (is_by client row) items item)
    ∙ (ap (λ (t : Bool). pair_of (cond ((item.entry.client == client) && t) (Some item) (last_where (is_by client row) items))) other
    ∙ split (item.entry.client == client))
  where
    split : (b : Bool) → pair_of (cond (b && false) (Some item) (last_where (is_by client row) items)) ≡ yours_in items client row
    split true = refl
    split false = refl

behind : (a b : Bool) → a && b ≡ true → b ≡ true
behind true b h = h
behind false b h = absurd (true≢false (sym h))

-- on a row that isn't there no client has one
pub none_yours : (items : List Stored) (client : ℕ) (row : List ℕ) → current_of items row ≡ None → yours_in items client row ≡ pair_or None
none_yours items client row none = pick (last_where (is_by client row) items) refl
  where
    pick : (o : Option Stored) → last_where (is_by client row) items ≡ o → pair_of o ≡ pair_or None
    pick None is = refl
    pick (Some i) is =
        let k = among_last (is_by client row) items i is in
        let again = last_some (is_of_row row) items i k.0 (behind (i.entry.client == client) (same_row i.entry.row row) k.1) in
        let both : Some again.0 ≡ None = sym again.1 ∙ none in
        absurd cc
