-- Reading items one after the other, as a loop does, and a text that is read byte by byte.
use Rattle.std.proofs.Common.{◌≡◌, ℕ, suc, ◌-◌, ◌+◌, ◌≤◌, ◌<◌, false, eqb, List, [], ◌∷◌, ◌++◌, length, get_or, drop, drop-cons, add-one, Result, Ok, Err, refl, sym, ap, ◌∙◌, append_assoc, arith}
use Rattle.std.proofs.lemmas.List.{append-nil, length-drop, nil_from_length}
use Rattle.std.proofs.lemmas.Bool.{ne_eqb}
use Rattle.value_codec.specs.declared.spell_fault.SpellFault.{SpellFault}
use Rattle.value_codec.specs.declared.spell_fault.SpellFault.TheVariants.{Bad, Memory}
use Rattle.value_codec.specs.Reading.{◌>>=◌, Fails, items_at, exactly_at}

-- what was read before, and what is still read
abbrev pub with_front : {X : Type 0} → List X → Result (List X × List ℕ) ℕ → Result (List X × List ℕ) ℕ
with_front front read = read >>= λ x. Ok (front ++ x.0, x.1)

regroup : {X : Type 0} (front : List X) (n : X) (read : Result (List X × List ℕ) ℕ) → with_front front (read >>= λ x. Ok (n ∷ x.0, x.1)) ≡ with_front (front ++ n ∷ []) read
regroup {X} front n (Ok x) = ap (λ (ns : List X). Ok (ns, x.1)) (simp append_assoc)
regroup front n (Err f) = refl

pub starts : {X : Type 0} (read : Result (List X × List ℕ) ℕ) → with_front [] read ≡ read
starts (Ok x) = refl
starts (Err f) = refl

pub goes_on : {S X : Type 0} (next : S → X → S) (item_at : S → List ℕ → Result (X × List ℕ) ℕ) (s : S) (front : List X) (count i : ℕ) (bytes : List ℕ) (x : X) (after : List ℕ)
    (total : Result (List X × List ℕ) ℕ) → i < count → item_at s bytes ≡ Ok (x, after)
    → with_front front (items_at next item_at s (count - i) bytes) ≡ total → with_front (front ++ x ∷ []) (items_at next item_at (next s x) (count - (i + 1)) after) ≡ total
unfolding items_at
goes_on next item_at s front count i bytes x after total lt h so_far =
    let k : count - i ≡ suc (count - (i + 1)) = omega arith in
    let one : with_front front (items_at next item_at s (count - i) bytes) ≡ with_front (front ++ x ∷ []) (items_at next item_at (next s x) (count - (i + 1)) after) = rw (k, h) (regroup front x (items_at next item_at (next s x) (count - (i + 1)) after)) in
    sym one ∙ so_far

pub ends : {S X : Type 0} (next : S → X → S) (item_at : S → List ℕ → Result (X × List ℕ) ℕ) (e : SpellFault) (all : List ℕ) (s : S) (front : List X) (count i : ℕ) (bytes : List ℕ)
    (total : Result (List X × List ℕ) ℕ) → i < count → Fails all e (item_at s bytes)
    → with_front front (items_at next item_at s (count - i) bytes) ≡ total → Fails all e total
unfolding items_at
ends next item_at Memory all s front count i bytes total lt h so_far = tt
ends next item_at (Bad at) all s front count i bytes total lt h so_far =
    let k : count - i ≡ suc (count - (i + 1)) = omega arith in
    let e : item_at s bytes ≡ Err (length all - at) = h.1 in
    let one : with_front front (items_at next item_at s (count - i) bytes) ≡ Err (length all - at) = rw (k, e) refl in
    (h.0, sym so_far ∙ one)

pub is_done : {S X : Type 0} (next : S → X → S) (item_at : S → List ℕ → Result (X × List ℕ) ℕ) (s : S) (front : List X) (count i : ℕ) (bytes : List ℕ) (total : Result (List X × List ℕ) ℕ) → count ≤ i
    → with_front front (items_at next item_at s (count - i) bytes) ≡ total → total ≡ Ok (front, bytes)
unfolding items_at
is_done {S} {X} next item_at s front count i bytes total le so_far =
    let k : count - i ≡ 0 = omega arith in
    let one : with_front front (items_at next item_at s (count - i) bytes) ≡ Ok (front, bytes) = rw k (ap (λ (ns : List X). Ok (ns, bytes)) (append-nil front)) in
    sym so_far ∙ one

-- ---- these bytes and no others

pub exactly_on : (text bytes : List ℕ) (i place : ℕ) (total : Result (List ℕ) ℕ) → i < length text → place < length bytes → get_or bytes place 0 ≡ get_or text i 0
    → exactly_at (drop i text) (drop place bytes) ≡ total → exactly_at (drop (i + 1) text) (drop (place + 1) bytes) ≡ total
unfolding exactly_at
exactly_on text bytes i place total lt room same so_far =
    let one : exactly_at (drop i text) (drop place bytes) ≡ exactly_at (drop (suc i) text) (drop (suc place) bytes) = rw (drop-cons text i 0 lt, drop-cons bytes place 0 room, same) (grind arith) in
    rw (add-one i, add-one place) (sym one ∙ so_far)

pub exactly_short : (text bytes : List ℕ) (i place : ℕ) (total : Result (List ℕ) ℕ) → i < length text → place ≡ length bytes
    → exactly_at (drop i text) (drop place bytes) ≡ total → total ≡ Err (length bytes - place)
unfolding exactly_at
exactly_short text bytes i place total lt at_end so_far =
    let nothing : drop place bytes ≡ [] = nil_from_length (drop place bytes) (omega (arith, length-drop place bytes)) in
    let one : exactly_at (drop i text) (drop place bytes) ≡ Err 0 = rw (drop-cons text i 0 lt, nothing) refl in
    let none : length bytes - place ≡ 0 = omega arith in
    rw none (sym so_far ∙ one)

pub exactly_other : (text bytes : List ℕ) (i place : ℕ) (total : Result (List ℕ) ℕ) → i < length text → place < length bytes → (get_or bytes place 0 ≡ get_or text i 0 → ⊥)
    → exactly_at (drop i text) (drop place bytes) ≡ total → total ≡ Err (length bytes - place)
unfolding exactly_at
exactly_other text bytes i place total lt room other so_far =
    let differs : eqb (get_or bytes place 0) (get_or text i 0) ≡ false = ne_eqb _ _ other in
    let one : exactly_at (drop i text) (drop place bytes) ≡ Err (suc (length (drop (suc place) bytes))) = rw (drop-cons text i 0 lt, drop-cons bytes place 0 room, differs) refl in
    let left : suc (length (drop (suc place) bytes)) ≡ length bytes - place = omega (arith, length-drop (suc place) bytes) in
    sym so_far ∙ one ∙ ap (λ (n : ℕ). Err n) left

pub exactly_done : (text bytes : List ℕ) (i : ℕ) (total : Result (List ℕ) ℕ) → length text ≤ i → exactly_at (drop i text) bytes ≡ total → total ≡ Ok bytes
unfolding exactly_at
exactly_done text bytes i total le so_far =
    let nothing : drop i text ≡ [] = nil_from_length (drop i text) (omega (arith, length-drop i text)) in
    let one : exactly_at (drop i text) bytes ≡ Ok bytes = rw nothing refl in
    sym so_far ∙ one
