-- Worked scripts of a client's crashes, failed reads and writes, and starts, with what they write.
use Rattle.std.specs.Prelude.{ℕ, List, [], ◌∷◌, ◌++◌, Some, None}
use Rattle.stab_base.specs.declared.node.Node.{Node}
use Rattle.stab_base.specs.declared.node.Node.TheVariants as nodes
use Rattle.stab_base.specs.declared.step.Step.{Step}
use Rattle.stab_base.specs.declared.step.Step.TheVariants as steps
use Rattle.row_value.specs.declared.schema.Scheme.TheVariants.{Eventual}
use Rattle.table_model.specs.declared.event.Event.{Event}
use Rattle.table_model.specs.declared.event.Event.TheVariants as events
use Rattle.step_tables.specs.ClientMoves.{Shape, no_shape}
use Rattle.step_tables.specs.Facts.{Answer, Line, AnswerLine, FactLine}
use Rattle.step_tables.specs.Facts as facts
use Rattle.step_tables.specs.Messages as lucks
use Rattle.world_tables.specs.World.{no_lucks}
use Rattle.world_tables.specs.Turns.{Turn, Happening}
use Rattle.world_laws.specs.Worked.{notes, int, the_row, happens, turn, told, wrote}
use Rattle.world_laws.specs.WorkedCrashes.{done_so}

abbrev pub the_client : Node
the_client = nodes.Client 1

abbrev pub joins : List Happening
joins =
    happens (events.Store 1)
    ∷ happens (events.Table 1 (notes Eventual))
    ∷ happens (events.Client 1 None (1 ∷ []))
    ∷ []

abbrev pub joins_written : List Turn
joins_written =
    turn (events.Store 1) []
    ∷ turn (events.Table 1 (notes Eventual)) []
    ∷ turn (events.Client 1 None (1 ∷ [])) []
    ∷ []

abbrev pub redone : Line
redone = FactLine (facts.Redone (wrote 1 1 0 5))

abbrev pub client_recovered : Line
client_recovered = FactLine (facts.ClientRecovered 1)

-- ---- a crash inside a plan's commit, in which so many calls of the disk pass

abbrev pub crash_in_commit : ℕ → List Happening
crash_in_commit calls =
    joins
    ++ happens (events.Hold the_client)
    ∷ happens (events.Write 1 1 the_row (int 5))
    ∷ happens (events.Crash the_client calls 0)
    ∷ happens (events.Show 1 1 the_row)
    ∷ happens (events.Start the_client)
    ∷ happens (events.Work the_client)
    ∷ happens (events.WorkAll the_client)
    ∷ happens (events.Show 1 1 the_row)
    ∷ []

abbrev pub crash_in_commit_written : ℕ → List Line → Step → ℕ → List Line → Answer → List Turn
crash_in_commit_written calls start step left last shown =
    joins_written
    ++ turn (events.Hold the_client) (AnswerLine facts.Done ∷ [])
    ∷ turn (events.Write 1 1 the_row (int 5)) (AnswerLine (facts.Number 1) ∷ [])
    ∷ turn (events.Crash the_client calls 0) (AnswerLine facts.Done ∷ [])
    ∷ turn (events.Show 1 1 the_row) (AnswerLine (facts.Refuses (facts.NodeDown the_client)) ∷ [])
    ∷ turn (events.Start the_client) (AnswerLine facts.Done ∷ start)
    ∷ turn (events.Work the_client) (AnswerLine (facts.Did step) ∷ [])
    ∷ turn (events.WorkAll the_client) (AnswerLine (facts.Number left) ∷ last)
    ∷ turn (events.Show 1 1 the_row) (AnswerLine shown ∷ [])
    ∷ []

-- the commit had landed: the start tells the write, which nothing told before
abbrev pub landed_commit_written : List Turn
landed_commit_written =
    crash_in_commit_written 4 (redone ∷ []) steps.SlotPut 1 (client_recovered ∷ [])
    (facts.Shows (facts.Mine 1 (int 5)))

-- it had not: there is no write, nor is there one in the start
abbrev pub lost_commit_written : List Turn
lost_commit_written = crash_in_commit_written 0 (client_recovered ∷ []) steps.Idle 0 [] (facts.Refuses facts.NoRow)

-- ---- a commit that lands and fails

abbrev pub failed_commit : List Happening
failed_commit =
    joins
    ++ done_so (lucks.Done ∷ lucks.FailedAfter ∷ []) (events.Write 1 1 the_row (int 5))
    ∷ happens (events.Show 1 1 the_row)
    ∷ happens (events.Start the_client)
    ∷ happens (events.Show 1 1 the_row)
    ∷ []

-- the client isn't on hold, so the start does the rest of the plan
abbrev pub failed_commit_written : List Turn
failed_commit_written =
    joins_written
    ++ turn (events.Write 1 1 the_row (int 5)) (AnswerLine (facts.Refuses facts.NoDevice) ∷ [])
    ∷ turn (events.Show 1 1 the_row) (AnswerLine (facts.Refuses (facts.NodeDown the_client)) ∷ [])
    ∷ turn (events.Start the_client) (AnswerLine facts.Done ∷ redone ∷ client_recovered ∷ [])
    ∷ turn (events.Show 1 1 the_row) (AnswerLine (facts.Shows (facts.Mine 1 (int 5))) ∷ [])
    ∷ []

-- ---- a declaration, a call and a start in which a disk fails

abbrev pub failed_reads : List Happening
failed_reads =
    happens (events.Store 1)
    ∷ happens (events.Table 1 (notes Eventual))
    ∷ done_so (lucks.FailedBefore ∷ []) (events.Client 1 None (1 ∷ []))
    ∷ happens (events.Show 1 1 the_row)
    ∷ happens (events.Start the_client)
    ∷ happens (events.Write 1 1 the_row (int 5))
    ∷ done_so (lucks.FailedBefore ∷ []) (events.Show 1 1 the_row)
    ∷ done_so (lucks.FailedBefore ∷ []) (events.Start the_client)
    ∷ happens (events.Start the_client)
    ∷ happens (events.Show 1 1 the_row)
    ∷ []

-- a start has no write, so it says at once that the client has recovered
abbrev pub failed_reads_written : List Turn
failed_reads_written =
    joins_written
    ++ turn (events.Show 1 1 the_row) (AnswerLine (facts.Refuses (facts.NodeDown the_client)) ∷ [])
    ∷ turn (events.Start the_client) (AnswerLine facts.Done ∷ client_recovered ∷ [])
    ∷ turn (events.Write 1 1 the_row (int 5)) (AnswerLine (facts.Number 1) ∷ told (wrote 1 1 0 5) ∷ [])
    ∷ turn (events.Show 1 1 the_row) (AnswerLine (facts.Refuses facts.NoDevice) ∷ [])
    ∷ turn (events.Start the_client) (AnswerLine (facts.Refuses facts.NoDevice) ∷ [])
    ∷ turn (events.Start the_client) (AnswerLine facts.Done ∷ client_recovered ∷ [])
    ∷ turn (events.Show 1 1 the_row) (AnswerLine (facts.Shows (facts.Mine 1 (int 5))) ∷ [])
    ∷ []

-- ---- a client's own writes, round those of its plan

abbrev pub shaped : Shape → Event → Happening
shaped shape event = record { event = event; lucks = record no_lucks { shape = shape } }

abbrev pub of_plan : ℕ → Shape
of_plan number = record {
  plan = number;
  before = steps.Intend ∷ steps.ChunkPut ∷ [];
  after = steps.ChunkDrop ∷ [];
  torn = None;
}

abbrev pub own_writes : List Happening
own_writes =
    joins
    ++ happens (events.Hold the_client)
    ∷ shaped (of_plan 1) (events.Write 1 1 the_row (int 5))
    ∷ happens (events.Work the_client)
    ∷ happens (events.Work the_client)
    ∷ shaped (of_plan 1) (events.Write 1 1 the_row (int 6))
    ∷ happens (events.Work the_client)
    ∷ happens (events.Crash the_client 0 0)
    ∷ shaped (record no_shape { before = steps.OpenJournal ∷ [] }) (events.Start the_client)
    ∷ happens (events.Work the_client)
    ∷ happens (events.WorkAll the_client)
    ∷ shaped (of_plan 2) (events.Write 1 1 the_row (int 6))
    ∷ happens (events.Work the_client)
    ∷ happens (events.Crash the_client 0 0)
    ∷ shaped (record no_shape { after = steps.ChunkDrop ∷ []; torn = Some (1, the_row) }) (events.Start the_client)
    ∷ happens (events.WorkAll the_client)
    ∷ happens (events.Show 1 1 the_row)
    ∷ []

-- The first plan is cut off behind its commit, and the start does the rest of it; the second before its commit, and the
-- start says whose row it was. A call beside a plan is refused by the plan's number.
abbrev pub own_writes_written : List Turn
own_writes_written =
    joins_written
    ++ turn (events.Hold the_client) (AnswerLine facts.Done ∷ [])
    ∷ turn (events.Write 1 1 the_row (int 5)) (AnswerLine (facts.Number 1) ∷ [])
    ∷ turn (events.Work the_client) (AnswerLine (facts.Did steps.Intend) ∷ [])
    ∷ turn (events.Work the_client) (AnswerLine (facts.Did steps.ChunkPut) ∷ [])
    ∷ turn (events.Write 1 1 the_row (int 6)) (AnswerLine (facts.Refuses (facts.Busy 1)) ∷ [])
    ∷ turn (events.Work the_client) (AnswerLine (facts.Did steps.Commit) ∷ told (wrote 1 1 0 5) ∷ [])
    ∷ turn (events.Crash the_client 0 0) (AnswerLine facts.Done ∷ [])
    ∷ turn (events.Start the_client) (AnswerLine facts.Done ∷ redone ∷ [])
    ∷ turn (events.Work the_client) (AnswerLine (facts.Did steps.OpenJournal) ∷ [])
    ∷ turn (events.WorkAll the_client) (AnswerLine (facts.Number 2) ∷ client_recovered ∷ [])
    ∷ turn (events.Write 1 1 the_row (int 6)) (AnswerLine (facts.Number 2) ∷ [])
    ∷ turn (events.Work the_client) (AnswerLine (facts.Did steps.Intend) ∷ [])
    ∷ turn (events.Crash the_client 0 0) (AnswerLine facts.Done ∷ [])
    ∷ turn (events.Start the_client) (AnswerLine facts.Done ∷ FactLine (facts.Torn 1 1 the_row) ∷ [])
    ∷ turn (events.WorkAll the_client) (AnswerLine (facts.Number 1) ∷ client_recovered ∷ [])
    ∷ turn (events.Show 1 1 the_row) (AnswerLine (facts.Shows (facts.Mine 1 (int 5))) ∷ [])
    ∷ []
