-- The lengths of an object's chunks.
use Rattle.std.proofs.Common.{◌≡◌, ℕ, suc, zero, ◌+◌, ◌*◌, ◌-◌, ◌<◌, ◌≤◌, List, [], ◌∷◌, ◌++◌, length, Option, Some, None, min, refl, sym, ◌∙◌, ap, subst, arith, length-append}
use Rattle.std.specs.Prelude.{slice_get}
use Rattle.std.specs.List.{concat}
use Rattle.std.proofs.lemmas.List.{append-nil}
use Rattle.chunker.specs.Cut.{HaveSize, IsCut}
use Rattle.chunker.specs.Sized.{len_at}

one_list : (a b : List ℕ) → Some a ≡ Some b → a ≡ b
one_list a b same = cc

-- behind one chunk of the size
next_len : (size total rest place : ℕ) → total ≡ size + rest → len_at size rest place ≡ len_at size total (place + 1)
next_len size total rest place is = let more : (place + 1) * size ≡ place * size + size = grind arith in omega (arith, more)

place_len : (size : ℕ) (chunks : List (List ℕ)) (place : ℕ) (chunk : List ℕ) → HaveSize size chunks → slice_get chunks place ≡ Some chunk → length chunk ≡ len_at size (length (concat chunks)) place
place_len size [] place chunk h is = absurd cc
place_len size (x ∷ []) zero chunk h is = let same = one_list x chunk is in let len : length (x ++ []) ≡ length x = ap length (append-nil x) in omega (arith, ap length same, len, h.1)
place_len size (x ∷ []) (suc place) chunk h is = absurd cc
place_len size (x ∷ y ∷ chunks) zero chunk h is = let same = one_list x chunk is in omega (arith, ap length same, length-append x (concat (y ∷ chunks)), h.0)
place_len size (x ∷ y ∷ chunks) (suc place) chunk h is =
    place_len size (y ∷ chunks) place chunk h.1 is
    ∙ (next_len size (length (concat (x ∷ y ∷ chunks))) (length (concat (y ∷ chunks))) place (omega (arith, length-append x (concat (y ∷ chunks)), h.0))
    ∙ ap (len_at size (length (concat (x ∷ y ∷ chunks)))) (omega arith))

pub its_len : (size : ℕ) (object : List ℕ) (chunks : List (List ℕ)) (place : ℕ) (chunk : List ℕ) → 0 < size → IsCut size object chunks → slice_get chunks place ≡ Some chunk → length chunk ≡ len_at size (length object) place
its_len size object chunks place chunk some cut is = place_len size chunks place chunk cut.sizes is ∙ ap (λ (o : List ℕ). len_at size (length o) place) cut.whole
