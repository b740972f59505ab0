-- The cut of the step tables is the one cut of an object.
use Rattle.std.proofs.Common.{◌≡◌, ℕ, zero, suc, ◌+◌, ◌<◌, ◌≤◌, List, [], ◌∷◌, ◌++◌, length, take, drop, refl, ◌∙◌, ap, arith, length-append}
use Rattle.std.specs.List.{concat}
use Rattle.std.proofs.lemmas.List.{length-take, length-drop, take-append-drop}
use Rattle.chunker.specs.Cut.{HaveSize, IsCut}
use Rattle.chunker.specs.Sized.{count_of}
use Rattle.chunker.proofs.Cuts.{counted}
use Rattle.step_tables.specs.Chunks.{cut_up_to, cut}

first_some : (size : ℕ) (piece : List ℕ) (pieces : List (List ℕ)) → 0 < size → HaveSize size (piece ∷ pieces) → 0 < length piece
first_some size piece [] some h = h.0
first_some size piece (next ∷ pieces) some h = omega (arith, some, h.0)

have_more : (size : ℕ) (object : List ℕ) (pieces : List (List ℕ)) → 0 < size → 0 < length object → HaveSize size pieces → concat pieces ≡ drop size object → HaveSize size (take size object ∷ pieces)
have_more size object [] some left h e = (omega (arith, length-take size object, some, left), omega (arith, length-take size object))
have_more size object (next ∷ pieces) some left h e =
    let first = first_some size next pieces some h in
    let whole : length (concat (next ∷ pieces)) ≡ length next + length (concat pieces) = length-append next (concat pieces) in
    let same : length (concat (next ∷ pieces)) ≡ length (drop size object) = ap length e in
    (omega (arith, length-take size object, length-drop size object, whole, same, first), h)

cut_up_to_is : (most size : ℕ) (object : List ℕ) → 0 < size → length object ≤ most → IsCut size object (cut_up_to most size object)
cut_up_to_is zero size [] some le = record { whole = refl; sizes = tt }
cut_up_to_is zero size (byte ∷ bytes) some le = absurd (omega (arith, le))
cut_up_to_is (suc most) size [] some le = record { whole = refl; sizes = tt }
cut_up_to_is (suc most) size (byte ∷ bytes) some le =
    let rest = cut_up_to_is most size (drop size (byte ∷ bytes)) some (omega (arith, length-drop size (byte ∷ bytes), le, some)) in
    record {
      whole = ap (λ (l : List ℕ). take size (byte ∷ bytes) ++ l) rest.whole ∙ take-append-drop size (byte ∷ bytes);
      sizes = have_more size (byte ∷ bytes) (cut_up_to most size (drop size (byte ∷ bytes))) some (omega arith) rest.sizes rest.whole;
    }

pub cut_is : (size : ℕ) (object : List ℕ) → 0 < size → IsCut size object (cut size object)
cut_is size object some = cut_up_to_is (length object) size object some (omega arith)

pub cut_count : (size : ℕ) (object : List ℕ) → 0 < size → length (cut size object) ≡ count_of size (length object)
cut_count size object some = counted size object (cut size object) some (cut_is size object some)
