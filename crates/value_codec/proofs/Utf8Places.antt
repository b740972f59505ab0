-- Reading a text byte by byte, as a loop does.
use Rattle.std.proofs.Common.{◌≡◌, ℕ, suc, ◌-◌, ◌+◌, ◌<◌, List, [], ◌∷◌, length, get_or, drop, drop-cons, add-one, Option, Some, None, Result, Ok, Err, refl, sym, ap, ◌∙◌, arith}
use Rattle.std.proofs.lemmas.List.{length-drop, nil_from_length}
use Rattle.value_codec.specs.declared.utf8.Inside.{Inside}
use Rattle.value_codec.specs.Utf8.{step, utf8_rest}

abbrev pub goes : ℕ → List ℕ → Option Inside → Result (List ℕ) ℕ
goes left rest None = Err (suc (length rest))
goes left rest (Some next) = utf8_rest next left rest

pub steps : (inside : Inside) (left b : ℕ) (rest : List ℕ) → utf8_rest inside (suc left) (b ∷ rest) ≡ goes left rest (step inside left b)
unfolding utf8_rest
steps inside left b rest = same (step inside left b) where
  same : (o : Option Inside) → elim o [ None ↦ Err (suc (length rest)) | Some next ↦ utf8_rest next left rest ] ≡ goes left rest o
  same None = refl
  same (Some next) = refl

pub moves : (inside next : Inside) (left b : ℕ) (rest : List ℕ) → step inside left b ≡ Some next → utf8_rest inside (suc left) (b ∷ rest) ≡ utf8_rest next left rest
moves inside next left b rest e = steps inside left b rest ∙ ap (goes left rest) e

pub refuses : (inside : Inside) (left b : ℕ) (rest : List ℕ) → step inside left b ≡ None → utf8_rest inside (suc left) (b ∷ rest) ≡ Err (suc (length rest))
refuses inside left b rest e = steps inside left b rest ∙ ap (goes left rest) e

at_byte : (inside : Inside) (left place : ℕ) (bytes : List ℕ) → 0 < left → place < length bytes
    → utf8_rest inside left (drop place bytes) ≡ utf8_rest inside (suc (left - 1)) (get_or bytes place 0 ∷ drop (suc place) bytes)
at_byte inside left place bytes some room =
    let k : left ≡ suc (left - 1) = omega arith in
    ap (λ (n : ℕ). utf8_rest inside n (drop place bytes)) k ∙ ap (λ (l : List ℕ). utf8_rest inside (suc (left - 1)) l) (drop-cons bytes place 0 room)

pub text_on : (inside next : Inside) (left place : ℕ) (bytes : List ℕ) (total : Result (List ℕ) ℕ) → 0 < left → place < length bytes → Some next ≡ step inside (left - 1) (get_or bytes place 0)
    → utf8_rest inside left (drop place bytes) ≡ total → utf8_rest next (left - 1) (drop (place + 1) bytes) ≡ total
text_on inside next left place bytes total some room is so_far =
    let one = at_byte inside left place bytes some room ∙ moves inside next (left - 1) (get_or bytes place 0) (drop (suc place) bytes) (sym is) in
    rw (add-one place) (sym one ∙ so_far)

pub text_short : (inside : Inside) (left place : ℕ) (bytes : List ℕ) (total : Result (List ℕ) ℕ) → 0 < left → place ≡ length bytes
    → utf8_rest inside left (drop place bytes) ≡ total → total ≡ Err (length bytes - place)
unfolding utf8_rest
text_short inside left place bytes total some at_end so_far =
    let k : left ≡ suc (left - 1) = omega arith in
    let nothing : drop place bytes ≡ [] = nil_from_length (drop place bytes) (omega (arith, length-drop place bytes)) in
    let one : utf8_rest inside left (drop place bytes) ≡ Err 0 = rw (k, nothing) refl in
    let none : length bytes - place ≡ 0 = omega arith in
    rw none (sym so_far ∙ one)

pub text_other : (inside : Inside) (left place : ℕ) (bytes : List ℕ) (total : Result (List ℕ) ℕ) → 0 < left → place < length bytes → None ≡ step inside (left - 1) (get_or bytes place 0)
    → utf8_rest inside left (drop place bytes) ≡ total → total ≡ Err (length bytes - place)
text_other inside left place bytes total some room is so_far =
    let one = at_byte inside left place bytes some room ∙ refuses inside (left - 1) (get_or bytes place 0) (drop (suc place) bytes) (sym is) in
    let after : suc (length (drop (suc place) bytes)) ≡ length bytes - place = omega (arith, length-drop (suc place) bytes) in
    sym so_far ∙ one ∙ ap (λ (n : ℕ). Err n) after

pub text_done : (inside : Inside) (left : ℕ) (bytes : List ℕ) (total : Result (List ℕ) ℕ) → left ≡ 0 → utf8_rest inside left bytes ≡ total → total ≡ Ok bytes
unfolding utf8_rest
text_done inside left bytes total none so_far = sym so_far ∙ ap (λ (n : ℕ). utf8_rest inside n bytes) none
