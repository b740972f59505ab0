-- The last item of a list that passes a test.
use Rattle.std.specs.Prelude.{Bool, List, reverse, Option}
use Rattle.std.specs.List.{find}

abbrev pub last_where : {X : Type 0} → (X → Bool) → List X → Option X
last_where test xs = find test (reverse xs)
