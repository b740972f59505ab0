-- A client resolves a conflict only where it was asked to, behind the last line that tells of the conflict.
use Rattle.std.specs.Prelude.{◌≡◌, ℕ, ◌==◌, Bool, true, false, ◌&&◌, ◌||◌, not, List, [], ◌∷◌}
use Rattle.table_model.specs.declared.event.Event.{Event}
use Rattle.table_model.specs.declared.event.Event.TheVariants as events
use Rattle.table_model.specs.History.{same_row}
use Rattle.step_tables.specs.Facts.{Answer, Line, AnswerLine}
use Rattle.step_tables.specs.Facts as facts
use Rattle.step_tables.specs.Sayings.{Saying, SaysConflict, SaysResolved, says}
use Rattle.world_tables.specs.Turns.{Turn}

-- whether a client was asked to resolve a row of a table
abbrev pub Asked : Type 0
Asked = ℕ → ℕ → List ℕ → Bool

abbrev pub nothing_asked : Asked
nothing_asked = λ client table row. false

-- an answer behind which a client may resolve what it was asked to: a number, or that a disk failed
abbrev pub lets_resolve : Answer → Bool
lets_resolve (facts.Number number) = true
lets_resolve (facts.Refuses facts.NoDevice) = true
lets_resolve other = false

-- an event so answered asks for one row, or for each row of a table
abbrev pub answered_asked : Event → Answer → Asked → Asked
answered_asked (events.Resolve client table row seen choice) answer asked =
    λ c t r. asked c t r || (lets_resolve answer && (c == client && (t == table && same_row r row)))
answered_asked (events.ResolveAll client table by) answer asked =
    λ c t r. asked c t r || (lets_resolve answer && (c == client && t == table))
answered_asked other answer asked = asked

-- a conflict that is told is to be asked for anew
abbrev pub said_asked : Saying → Asked → Asked
said_asked (SaysConflict client number table row version) asked =
    λ c t r. asked c t r && not (c == client && (t == table && same_row r row))
said_asked other asked = asked

-- behind a line of an event
abbrev pub line_asked : Event → Line → Asked → Asked
line_asked event (AnswerLine answer) asked = answered_asked event answer asked
line_asked event other asked = said_asked (says other) asked

abbrev pub lines_asked : Event → List Line → Asked → Asked
lines_asked event [] asked = asked
lines_asked event (line ∷ more) asked = lines_asked event more (line_asked event line asked)

-- what a line tells as resolved was asked for
abbrev pub IsAsked : Asked → Saying → Type 0
IsAsked asked (SaysResolved client number table row version) = asked client table row ≡ true
IsAsked asked other = Unit {0}

abbrev pub LinesAsked : Event → Asked → List Line → Type 0
LinesAsked event asked [] = Unit {0}
LinesAsked event asked (line ∷ more) =
    IsAsked asked (says line) × LinesAsked event (line_asked event line asked) more

abbrev pub AskedFrom : Asked → List Turn → Type 0
AskedFrom asked [] = Unit {0}
AskedFrom asked (turn ∷ turns) =
    LinesAsked turn.event asked turn.lines × AskedFrom (lines_asked turn.event turn.lines asked) turns

abbrev pub AreAsked : List Turn → Type 0
AreAsked turns = AskedFrom nothing_asked turns
