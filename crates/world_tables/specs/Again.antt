-- Which facts may tell again what was told before: those of a start, which can't know what was told.
use Rattle.std.specs.Prelude.{◌≡◌, ◌⊎◌, ℕ, ◌<◌, Bool, true, false}
use Rattle.step_tables.specs.Facts.{Fact, Line, AnswerLine, EntryLine, FactLine}
use Rattle.step_tables.specs.Facts as facts

abbrev pub may_repeat : Fact → Bool
may_repeat (facts.Redone fact) = true
may_repeat (facts.Forward table entry) = true
may_repeat other = false

abbrev pub is_again : Line → Bool
is_again (FactLine fact) = may_repeat fact
is_again other = false

-- a version is above what was read; told again, it is what was read
abbrev pub IsUp : Bool → ℕ → ℕ → Type 0
IsUp again read version = (read < version) ⊎ ((again ≡ true) × (read ≡ version))
