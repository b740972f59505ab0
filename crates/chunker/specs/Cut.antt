-- An object and the chunks that it is cut into.
use Rattle.std.specs.Prelude.{◌≡◌, ℕ, ◌<◌, ◌≤◌, List, [], ◌∷◌, length}
use Rattle.std.specs.List.{concat}

-- each chunk but the last has this size; the last isn't larger and isn't empty
abbrev pub HaveSize : ℕ → List (List ℕ) → Type 0
HaveSize size [] = Unit {0}
HaveSize size (chunk ∷ []) = (0 < length chunk) × (length chunk ≤ size)
HaveSize size (chunk ∷ next ∷ chunks) = (length chunk ≡ size) × HaveSize size (next ∷ chunks)

pub record IsCut (size : ℕ) (object : List ℕ) (chunks : List (List ℕ)) : Type 0 where
  pub whole : concat chunks ≡ object
  pub sizes : HaveSize size chunks
