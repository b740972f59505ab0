-- Members of lists, and maps that are functions.
use Rattle.std.specs.Prelude.{◌≡◌, ◌⊎◌, ℕ, ◌==◌, ◌&&◌, List, [], ◌∷◌, if◌then◌else◌}
use Rattle.table_model.specs.History.{same_row}

-- one of the values of a list
unfoldable pub Among : {X : Type 0} → List X → X → Type 0
Among [] x = ⊥
Among (y ∷ ys) x = (y ≡ x) ⊎ Among ys x

-- a map with one value changed
abbrev pub put : {X : Type 0} → (ℕ → X) → ℕ → X → ℕ → X
put m k v q = if q == k then v else m q

-- a map over the rows of tables with one value changed
abbrev pub put_at : {X : Type 0} → (ℕ → List ℕ → X) → ℕ → List ℕ → X → ℕ → List ℕ → X
put_at m table row v t r = if (t == table) && same_row r row then v else m t r
