-- The text of a row id.
use Rattle.std.specs.Prelude.{ℕ, ◌==◌, List, length, Option, None, if◌then◌else◌}
use Rattle.uuid.specs.Text.{parsed}

-- what a text names: the hyphenated form alone, which has 36 characters
abbrev pub row_of : List ℕ → Option (List ℕ)
row_of text = if length text == 36 then parsed text else None
