-- Worked scripts of a conflict that is resolved, with what they write.
use Rattle.std.specs.Prelude.{List, [], ◌∷◌, ◌++◌}
use Rattle.stab_base.specs.declared.node.Node.TheVariants as nodes
use Rattle.conflicts.specs.declared.pair.Choice.TheVariants as choices
use Rattle.table_model.specs.declared.event.Event.{Event}
use Rattle.table_model.specs.declared.event.Event.TheVariants as events
use Rattle.step_tables.specs.Facts.{Answer, AnswerLine, FactLine}
use Rattle.step_tables.specs.Facts as facts
use Rattle.step_tables.specs.Messages as lucks
use Rattle.world_tables.specs.Turns.{Turn, Happening}
use Rattle.world_laws.specs.Worked.{the_row, happens, turn, told, causal_conflict, causal_conflict_written}
use Rattle.world_laws.specs.WorkedCrashes.{done_so}

-- behind a causal conflict of the second client with version 1 it begins a phase
abbrev pub in_phase : List Happening → List Happening
in_phase more = causal_conflict ++ happens (events.BeginCr 2 1) ∷ more

abbrev pub in_phase_written : List Turn → List Turn
in_phase_written more = causal_conflict_written ++ turn (events.BeginCr 2 1) (AnswerLine facts.Done ∷ []) ∷ more

-- the first disk that an event reads fails
abbrev pub fails : Event → Happening
fails event = done_so (lucks.FailedBefore ∷ []) event

-- the second client asks for the next change; the Store can't take that, or the client its answer
abbrev pub untaken_pull : List Happening
untaken_pull = happens (events.Pull 2 1) ∷ fails (events.Deliver 6) ∷ []

abbrev pub untaken_answer : List Happening
untaken_answer = happens (events.Pull 2 1) ∷ happens (events.Deliver 6) ∷ fails (events.Deliver 7) ∷ []

-- its conflict is resolved: the Store's row stands
abbrev pub takes_theirs : Event
takes_theirs = events.Resolve 2 1 the_row 1 choices.Theirs

abbrev pub resolved : List Happening
resolved = in_phase (happens takes_theirs ∷ [])

-- it is told as resolved behind this event, answered so
abbrev pub resolved_by : Event → Answer → List Turn
resolved_by event answer =
    in_phase_written (turn event (AnswerLine answer ∷ told (facts.Resolved 2 1 1 the_row 1) ∷ []) ∷ [])

-- the commit of the resolving is done and takes the client down before it tells of it: its start tells of it again
abbrev pub resolved_late : List Happening
resolved_late =
    in_phase (done_so (lucks.Done ∷ lucks.FailedAfter ∷ []) takes_theirs
    ∷ happens (events.Start (nodes.Client 2))
    ∷ [])

-- with these turns between the resolving and the start
abbrev pub resolved_late_written : List Turn → List Turn
resolved_late_written between =
    in_phase_written (turn takes_theirs (AnswerLine (facts.Refuses facts.NoDevice) ∷ [])
    ∷ between
    ++ turn (events.Start (nodes.Client 2)) (AnswerLine facts.Done
    ∷ FactLine (facts.Redone (facts.Resolved 2 1 1 the_row 1))
    ∷ FactLine (facts.ClientRecovered 2) ∷ [])
    ∷ [])

-- the conflict is told again
abbrev pub conflict_again : Turn
conflict_again = turn (events.Deliver 5) (AnswerLine facts.Done ∷ told (facts.Conflict 2 1 1 the_row 1) ∷ [])
