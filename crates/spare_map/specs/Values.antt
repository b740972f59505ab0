-- The values of a map's entries.
use Rattle.std.specs.Prelude.{List, [], ◌∷◌}

-- each value has P
abbrev pub AllValues : {K V : Type 0} → (V → Type 0) → List (K × V) → Type 0
AllValues P [] = Unit {0}
AllValues P (e ∷ es) = P e.1 × AllValues P es

-- what g makes of each value, under the same key
abbrev pub with_values : {K V W : Type 0} → (V → W) → List (K × V) → List (K × W)
with_values g [] = []
with_values g (e ∷ es) = (e.0, g e.1) ∷ with_values g es
