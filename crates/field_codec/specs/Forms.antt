-- Spellings of numbers, options and lists.
use Rattle.std.specs.Prelude.{ℕ, ◌<◌, ◌≤◌, ◌^◌, Bool, true, false, List, [], ◌∷◌, length, Option, Some, None}
use Rattle.std.specs.List.{AllByRecursion}
use Rattle.std.specs.Int.{w32, w64, to_be_bytes}

-- ---- numbers

unfoldable pub four : ℕ → List ℕ
four n = to_be_bytes w32 n

unfoldable pub eight : ℕ → List ℕ
eight n = to_be_bytes w64 n

pub record IsBetween (low high n : ℕ) : Type 0 where
  pub least : low ≤ n
  pub most : n ≤ high

-- ---- options

abbrev pub IsOption : {X : Type 0} → (X → Type 0) → Option X → Type 0
IsOption P None = Unit {0}
IsOption P (Some x) = P x

-- the byte 0, or the byte 1 and a value
abbrev pub option_spelling : {X : Type 0} → (X → List ℕ) → Option X → List ℕ
option_spelling spelling None = 0 ∷ []
option_spelling spelling (Some x) = 1 ∷ spelling x

-- an option that holds a value exactly where one is to stand
abbrev pub IsOptionIf : {X : Type 0} → Bool → (X → Type 0) → Option X → Type 0
IsOptionIf true P None = ⊥
IsOptionIf true P (Some x) = P x
IsOptionIf false P None = Unit {0}
IsOptionIf false P (Some x) = ⊥

-- ---- lists

-- a list that four bytes can count, each of its items so
abbrev pub AreEach : {X : Type 0} → (X → Type 0) → List X → Type 0
AreEach P xs = (length xs < 2 ^ 32) × AllByRecursion P xs
