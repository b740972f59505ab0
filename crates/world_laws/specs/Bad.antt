-- Transcripts that aren't sound.
use Rattle.std.specs.Prelude.{ℕ, List, [], ◌∷◌, ◌++◌, length, map, Option, None}
use Rattle.row_value.specs.declared.schema.Scheme.{Scheme}
use Rattle.row_value.specs.declared.schema.Scheme.TheVariants.{Strong, Causal, Eventual}
use Rattle.table_model.specs.declared.event.Event.TheVariants as events
use Rattle.table_model.specs.declared.line.RowPair.{RowPair}
use Rattle.step_tables.specs.Facts.{ClientFact, Fact, Answer, Line, AnswerLine, PairLine, FactLine}
use Rattle.step_tables.specs.Facts as facts
use Rattle.world_tables.specs.Turns.{Turn}
use Rattle.world_laws.specs.Worked.{notes, int, the_row, turn, told, wrote, accepted}

-- a table of this scheme, a delivery that tells all this, and more
abbrev pub behind : Scheme → List Line → List Turn → List Turn
behind g lines more = turn (events.Table 1 (notes g)) [] ∷ turn (events.Deliver 0) (AnswerLine facts.Done ∷ lines)
    ∷ more

abbrev pub tells : Scheme → List Line → List Turn
tells g lines = behind g lines []

abbrev pub shows : Scheme → List Line → Answer → List Turn
shows g lines answer = behind g lines (turn (events.Show 1 1 the_row) (AnswerLine answer ∷ []) ∷ [])

-- the first version of a table is 2
abbrev pub skipped_version : List Turn
skipped_version = tells Causal (told (wrote 1 1 0 5) ∷ accepted 2 1 1 0 ∷ [])

-- a client's first write has number 2
abbrev pub skipped_number : List Turn
skipped_number = tells Causal (told (wrote 1 2 0 5) ∷ [])

-- a number told again with another content
abbrev pub renamed : List Turn
renamed = tells Causal (told (wrote 1 1 0 5) ∷ FactLine (facts.Redone (wrote 1 1 0 6)) ∷ [])

-- an entry of a write that nobody told
abbrev pub unwritten : List Turn
unwritten = tells Causal (accepted 1 1 1 0 ∷ [])

-- two entries of one write
abbrev pub twice : List Turn
twice = tells Causal (told (wrote 1 1 0 5) ∷ accepted 1 1 1 0 ∷ accepted 2 1 1 1 ∷ [])

-- an acknowledgement without an entry
abbrev pub unearned : List Turn
unearned = tells Causal (told (wrote 1 1 0 5) ∷ told (facts.Acked 1 1 1 the_row 1) ∷ [])

-- an entry over a version that isn't the row's last
abbrev pub outdated : List Turn
outdated = tells Causal (told (wrote 1 1 0 5) ∷ accepted 1 1 1 0 ∷ told (wrote 2 1 0 6) ∷ accepted 2 2 1 0 ∷ [])

-- an entry over another client's that its write's client hadn't read
abbrev pub unread : List Turn
unread = tells Causal (told (wrote 1 1 0 5) ∷ accepted 1 1 1 0 ∷ told (wrote 2 1 0 6) ∷ accepted 2 2 1 1 ∷ [])

-- in a strong table, an entry over its client's own, whose write hadn't read it
abbrev pub blind : List Turn
blind = tells Strong (told (wrote 1 1 0 5) ∷ accepted 1 1 1 0 ∷ told (wrote 1 2 0 6) ∷ accepted 2 1 2 1 ∷ [])

-- in an eventual table, an entry over a version that there isn't
abbrev pub groundless : List Turn
groundless = tells Eventual (told (wrote 1 1 0 5) ∷ accepted 1 1 1 7 ∷ [])

-- a write that tells a version that wasn't read
abbrev pub unseen : List Turn
unseen = tells Causal (told (wrote 1 1 3 5) ∷ [])

-- what was read falls
abbrev pub fallen : List Turn
fallen = tells Causal (told (wrote 1 1 0 5) ∷ accepted 1 1 1 0 ∷ told (wrote 1 2 0 6) ∷ accepted 2 1 2 1
    ∷ told (facts.New 2 1 the_row 2) ∷ told (facts.New 2 1 the_row 1) ∷ [])

-- a position past a row that wasn't read
abbrev pub past : List Turn
past = tells Causal (told (wrote 1 1 0 5) ∷ accepted 1 1 1 0 ∷ told (facts.Position 2 1 1) ∷ [])

-- a conflict with the client's own entry
abbrev pub selfish : Scheme → List Turn
selfish g = tells g (told (wrote 1 1 0 5) ∷ accepted 1 1 1 0 ∷ told (facts.Conflict 1 1 1 the_row 1) ∷ [])

-- an entry of a write that was told as a conflict
abbrev pub revived : List Turn
revived = tells Causal (told (wrote 1 1 0 5) ∷ accepted 1 1 1 0 ∷ told (wrote 2 1 0 6)
    ∷ told (facts.Conflict 2 1 1 the_row 1) ∷ accepted 2 2 1 1 ∷ [])

-- a refusal in a causal table
abbrev pub misplaced : List Turn
misplaced =
    tells Causal (told (wrote 1 1 0 5) ∷ accepted 1 1 1 0 ∷ told (wrote 2 1 0 6) ∷ told (facts.Refused 2 1 1 the_row 1)
    ∷ [])

-- a conflict resolved that no line names
abbrev pub settled : List Turn
settled = tells Causal (told (wrote 1 1 0 5) ∷ told (facts.Resolved 1 1 1 the_row 1) ∷ [])

-- a start that takes back a version that isn't the next
abbrev pub back : List Turn
back = tells Causal (FactLine (facts.Back 1 2) ∷ [])

-- nothing shown behind a write
abbrev pub lost : List Turn
lost = shows Causal (told (wrote 1 1 0 5) ∷ []) (facts.Refuses facts.NoRow)

-- the version of an entry with another content
abbrev pub stale : List Turn
stale = shows Causal (told (wrote 1 1 0 5) ∷ accepted 1 1 1 0 ∷ told (facts.Acked 1 1 1 the_row 1) ∷ [])
    (facts.Shows (facts.Clean 1 (int 6)))

-- the Store's row over an open write
abbrev pub over : List Turn
over = shows Causal (told (wrote 2 1 0 6) ∷ accepted 1 2 1 0 ∷ told (wrote 1 1 0 5)
    ∷ told (facts.Conflict 1 1 1 the_row 1) ∷ []) (facts.Shows (facts.Clean 1 (int 6)))

-- the rows in conflict of the first client, listed behind all this
abbrev pub lists : List Line → List RowPair → List Turn
lists lines pairs =
    behind Causal lines
    (turn (events.Conflicts 1 1) (AnswerLine (facts.Number (length pairs)) ∷ map PairLine pairs) ∷ [])

-- a write of the first client against the Store's row at version 1
abbrev pub met : List Line
met = told (wrote 2 1 0 6) ∷ accepted 1 2 1 0 ∷ told (wrote 1 1 0 5) ∷ told (facts.Conflict 1 1 1 the_row 1) ∷ []

abbrev pub pair_at : ℕ → RowPair
pair_at version = record { row = the_row; number = 1; version = version }

-- a row in conflict that isn't listed
abbrev pub unlisted : List Turn
unlisted = lists met []

-- a row that is listed, and not in conflict
abbrev pub peaceful : List Turn
peaceful = lists (told (wrote 1 1 0 5) ∷ []) (pair_at 1 ∷ [])

-- a row in conflict that is listed beside another version
abbrev pub beside : List Turn
beside = lists met (pair_at 2 ∷ [])

-- a row in conflict that is listed twice
abbrev pub relisted : List Turn
relisted = lists met (pair_at 1 ∷ pair_at 1 ∷ [])

-- a row in conflict that is listed and not counted
abbrev pub miscounted : List Turn
miscounted = behind Causal met
    (turn (events.Conflicts 1 1) (AnswerLine (facts.Number 0) ∷ PairLine (pair_at 1) ∷ []) ∷ [])

-- a strong write shown before its answer
abbrev pub early : List Turn
early = shows Strong (told (wrote 1 1 0 5) ∷ []) (facts.Shows (facts.Mine 1 (int 5)))

-- a strong write without its answer
abbrev pub strong_open : List Turn
strong_open = tells Strong (told (wrote 1 1 0 5) ∷ [])

-- an event without an answer, and one with two
abbrev pub silent : List Turn
silent = turn (events.Deliver 0) [] ∷ []

-- an answer of the Store's, with a fact behind it
abbrev pub noisy : List Turn
noisy = turn (events.StoreShow 1 the_row) (AnswerLine (facts.Refuses facts.NoTable) ∷ told (facts.Position 1 1 0) ∷ [])
    ∷ []

abbrev pub doubled : List Turn
doubled = turn (events.Deliver 0) (AnswerLine facts.Done ∷ AnswerLine facts.Done ∷ []) ∷ []

-- ---- facts told twice, and not by a start

abbrev pub twice_told : Scheme → List Line → Line → List Turn
twice_told g before line = tells g (before ++ line ∷ line ∷ [])

-- a write and its entry
abbrev pub entered : List Line
entered = told (wrote 1 1 0 5) ∷ accepted 1 1 1 0 ∷ []

-- and another client's write over nothing
abbrev pub contended : List Line
contended = told (wrote 1 1 0 5) ∷ accepted 1 1 1 0 ∷ told (wrote 2 1 0 6) ∷ []

abbrev pub wrote_twice : List Turn
wrote_twice = twice_told Causal [] (told (wrote 1 1 0 5))

abbrev pub accepted_twice : List Turn
accepted_twice = twice_told Causal (told (wrote 1 1 0 5) ∷ []) (accepted 1 1 1 0)

abbrev pub acked_twice : List Turn
acked_twice = twice_told Causal entered (told (facts.Acked 1 1 1 the_row 1))

-- an acknowledgement told again, below what was read since
abbrev pub acked_below : List Turn
acked_below = tells Causal (told (wrote 1 1 0 5) ∷ accepted 1 1 1 0 ∷ told (facts.Acked 1 1 1 the_row 1)
    ∷ told (wrote 1 2 1 6) ∷ accepted 2 1 2 1 ∷ told (facts.Acked 1 2 1 the_row 2)
    ∷ told (facts.Acked 1 1 1 the_row 1) ∷ [])

abbrev pub refused_twice : List Turn
refused_twice = twice_told Strong contended (told (facts.Refused 2 1 1 the_row 1))

abbrev pub conflict_twice : List Turn
conflict_twice = twice_told Causal contended (told (facts.Conflict 2 1 1 the_row 1))

abbrev pub resolved_twice : List Turn
resolved_twice = twice_told Causal (contended ++ told (facts.Conflict 2 1 1 the_row 1) ∷ [])
    (told (facts.Resolved 2 1 1 the_row 1))

abbrev pub new_twice : List Turn
new_twice = twice_told Causal entered (told (facts.New 2 1 the_row 1))

abbrev pub position_twice : List Turn
position_twice = twice_told Causal (entered ++ told (facts.New 2 1 the_row 1) ∷ []) (told (facts.Position 2 1 1))
