-- Lists one behind the other.
use Rattle.std.proofs.Common.{List, [], ◌∷◌, ◌++◌}
use Rattle.std.specs.List.{AllByRecursion}
use Rattle.step_tables.specs.Chunks.{flat}

module _ {X : Type 0} (P : X → Type 0) where
  front_all : (xs ys : List X) → AllByRecursion P (xs ++ ys) → AllByRecursion P xs
  front_all [] ys h = tt
  front_all (x ∷ xs) ys h = (h.0, front_all xs ys h.1)

  behind_all : (xs ys : List X) → AllByRecursion P (xs ++ ys) → AllByRecursion P ys
  behind_all [] ys h = h
  behind_all (x ∷ xs) ys h = behind_all xs ys h.1

  -- what holds of all holds of those of each list
  pub each_all : (lists : List (List X)) → AllByRecursion P (flat lists) → AllByRecursion (AllByRecursion P) lists
  each_all [] h = tt
  each_all (list ∷ lists) h = (front_all list (flat lists) h, each_all lists (behind_all list (flat lists) h))
