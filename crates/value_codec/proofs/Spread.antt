-- Spellings of the items of a list, one behind the other, and what stood before them.
use Rattle.std.proofs.Common.{◌≡◌, ℕ, zero, suc, ◌+◌, ◌<◌, ◌≤◌, List, [], ◌∷◌, ◌++◌, length, take, get_or, Result, Ok, Err, refl, sym, ap, subst, ◌∙◌, arith, length-append}
use Rattle.std.specs.Prelude.{OnErr}
use Rattle.std.specs.Int.{w32, to_be_bytes}
use Rattle.std.specs.List.{flat_map}
use Rattle.std.proofs.lemmas.List.Concat.{flat_map-cons}
use Rattle.stab_base.proofs.Fields.{wide32}
use Rattle.value_codec.specs.Spelling.{list_spelling}

pub on_err : {T E : Type 0} (r : Result T E) (P : Type 0) → P → OnErr r P
on_err (Ok x) P p = tt
on_err (Err e) P p = p

front : (old more new : List ℕ) → take (length (old ++ more)) new ≡ old ++ more → take (length old) new ≡ old
front [] more new e = refl
front (x ∷ old) more [] e = absurd cc
front (x ∷ old) more (y ∷ new) e =
    let head : y ≡ x = cc in
    let tail : take (length (old ++ more)) new ≡ old ++ more = cc in
    ap (λ (n : ℕ). n ∷ take (length old) new) head ∙ ap (λ (l : List ℕ). x ∷ l) (front old more new tail)

-- what stood in front of a part that stays stays
pub front_stays : (old more mid new : List ℕ) (m k : ℕ) → m ≡ length mid → k ≡ length old → mid ≡ old ++ more → take m new ≡ mid → take k new ≡ old
front_stays old more mid new m k lm lk is e =
    let at_mid : take (length (old ++ more)) new ≡ old ++ more = subst (λ (l : List ℕ). take (length l) new ≡ l) is (subst (λ (n : ℕ). take n new ≡ mid) lm e) in
    subst (λ (n : ℕ). take n new ≡ old) (sym lk) (front old more new at_mid)

next_fits : {X : Type 0} (spell : X → List ℕ) (i : ℕ) (xs : List X) (d : X) → i < length xs → length (flat_map spell (take i xs)) + length (spell (get_or xs i d)) ≤ length (flat_map spell xs)
next_fits spell i [] d lt = absurd (omega arith)
next_fits spell zero (x ∷ xs) d lt = let e = ap length (flat_map-cons spell x xs) in omega (arith, e, length-append (spell x) (flat_map spell xs))
next_fits {X} spell (suc i) (x ∷ xs) d lt =
    let later : length (flat_map spell (take i xs)) + length (spell (get_or xs i d)) ≤ length (flat_map spell xs) = next_fits spell i xs d (omega arith) in
    omega (arith, later, length-append (spell x) (flat_map spell xs), length-append (spell x) (flat_map spell (take i xs)))

-- where an item has no room, the whole list has none
pub item_fits : {X : Type 0} (spell : X → List ℕ) (i : ℕ) (xs : List X) (item : X) (old mid : List ℕ) (had has m k : ℕ) → i < length xs → item ≡ get_or xs i item
    → mid ≡ old ++ (to_be_bytes w32 (length xs) ++ flat_map spell (take i xs)) → m ≡ length mid → k ≡ length old → had ≤ has → has < m + length (spell item) → had < k + length (list_spelling spell xs)
item_fits {X} spell i xs item old mid had has m k lt is so_far lm lk room full =
    let fits : length (flat_map spell (take i xs)) + length (spell item) ≤ length (flat_map spell xs) = subst (λ (y : X). length (flat_map spell (take i xs)) + length (spell y) ≤ length (flat_map spell xs)) (sym is) (next_fits spell i xs item lt) in
    let head : length (to_be_bytes w32 (length xs)) ≡ 4 = wide32.len (length xs) in
    let mid_len = ap length so_far ∙ length-append old (to_be_bytes w32 (length xs) ++ flat_map spell (take i xs)) in
    let part = length-append (to_be_bytes w32 (length xs)) (flat_map spell (take i xs)) in
    let all = length-append (to_be_bytes w32 (length xs)) (flat_map spell xs) in
    omega (arith, fits, head, mid_len, part, all, lm, lk, room, full)
