-- The first place at which no spelling goes on.
use Rattle.std.specs.Prelude.{◌≡◌, ℕ, ◌-◌, ◌≤◌, List, ◌∷◌, ◌++◌, length, drop, Result, Ok, Err}
use Rattle.value_codec.specs.declared.spell_fault.SpellFault.{SpellFault}
use Rattle.value_codec.specs.declared.spell_fault.SpellFault.TheVariants.{Bad, Memory}

-- The bytes in front of the place, which is so many bytes from the end, are the front of the spelling of a value that
-- has one. With the byte at the place, if there is one, they are the front of none.
pub record IsFirstBad {X : Type 0} (P : X → Type 0) (spell : X → List ℕ) (bytes : List ℕ) (left : ℕ) : Type 0 where
  pub front : List ℕ
  pub rest : List ℕ
  pub parts : bytes ≡ front ++ rest
  pub place : length rest ≡ left
  pub value : X
  pub more : List ℕ
  pub fits : P value
  pub goes_on : spell value ≡ front ++ more
  pub stops : (b : ℕ) (behind : List ℕ) → rest ≡ b ∷ behind → (x : X) (others : List ℕ) → P x
      → spell x ≡ front ++ b ∷ others → ⊥

-- what a function that reads from a place on answers where no value is spelled there
abbrev pub Refuses : {X R : Type 0} → (X → Type 0) → (X → List ℕ) → List ℕ → ℕ → Result R SpellFault → Type 0
Refuses P spell bytes from (Ok x) = Unit {0}
Refuses P spell bytes from (Err Memory) = Unit {0}
Refuses P spell bytes from (Err (Bad at)) =
    (at ≤ length bytes) × IsFirstBad P spell (drop from bytes) (length bytes - at)

-- a fault other than want of memory
abbrev pub TellsPlace : SpellFault → Type 0
TellsPlace Memory = ⊥
TellsPlace (Bad at) = Unit {0}
