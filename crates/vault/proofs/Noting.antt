-- One payload more.
use Rattle.std.proofs.Common.{◌≡◌, ℕ, ◌+◌, ◌<◌, List, [], ◌∷◌, ◌++◌, length, take, Some, ◌∙◌, ap, arith}
use Rattle.std.specs.Prelude.{slice_get}
use Rattle.std.proofs.lemmas.List.{take_more, length-take-le}
use Rattle.std.proofs.lemmas.Option.{get_or_from_slice_get, slice_get_within}

pub one_more : (ps : List (List ℕ)) (i : ℕ) (p : List ℕ) → slice_get ps i ≡ Some p → take (i + 1) ps ≡ take i ps ++ p ∷ []
one_more ps i p h = take_more ps i [] (slice_get_within ps i p h) ∙ ap (λ (q : List ℕ). take i ps ++ q ∷ []) (get_or_from_slice_get ps i p [] h)

pub so_many : (ps : List (List ℕ)) (i : ℕ) → i < length ps → length (take i ps) ≡ i
so_many ps i h = length-take-le i ps (omega arith)
