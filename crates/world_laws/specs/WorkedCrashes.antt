-- Worked scripts of holds, single writes, crashes, failed writes and starts of the Store, with what they write.
use Rattle.std.specs.Prelude.{ℕ, List, [], ◌∷◌, ◌++◌, None}
use Rattle.stab_base.specs.declared.chunk_name.ChunkName.{ChunkName}
use Rattle.stab_base.specs.declared.node.Node.TheVariants as nodes
use Rattle.stab_base.specs.declared.step.Step.{Step}
use Rattle.stab_base.specs.declared.step.Step.TheVariants as steps
use Rattle.row_value.specs.declared.content.Content.{Content}
use Rattle.row_value.specs.declared.schema.Schema.{Schema}
use Rattle.row_value.specs.declared.schema.Scheme.TheVariants.{Eventual}
use Rattle.table_model.specs.declared.event.Event.{Event}
use Rattle.table_model.specs.declared.event.Event.TheVariants as events
use Rattle.table_model.specs.declared.message_name.MessageName.TheVariants as names
use Rattle.step_tables.specs.Facts.{Line, AnswerLine, FactLine}
use Rattle.step_tables.specs.Facts as facts
use Rattle.step_tables.specs.Messages.{Luck}
use Rattle.step_tables.specs.Messages as lucks
use Rattle.world_tables.specs.World.{names_answer, no_lucks}
use Rattle.world_tables.specs.Turns.{Turn, Happening}
use Rattle.world_laws.specs.Worked.{notes, int, the_row, happens, turn, told, wrote_content, wrote, accepted, sent}
use Rattle.world_laws.specs.Worked.{the_store, pictures, object}

abbrev pub done_so : List Luck → Event → Happening
done_so lucks event = record { event = event; lucks = record no_lucks { calls = lucks } }

abbrev pub did : Step → Turn
did step = turn (events.Work the_store) (AnswerLine (facts.Did step) ∷ [])

abbrev pub forward : ℕ → ℕ → ℕ → ℕ → Line
forward version client number base = FactLine (facts.Forward 1 (record {
  row = the_row;
  version = version;
  client = client;
  number = number;
  base = base;
}))

abbrev pub recovered : Line
recovered = FactLine (facts.StoreRecovered 1 1)

-- a table of this schema, and a client's write that was sent
abbrev pub sends : Schema → Content → List Happening
sends schema content =
    happens (events.Store 1)
    ∷ happens (events.Table 1 schema)
    ∷ happens (events.Client 1 None (1 ∷ []))
    ∷ happens (events.Write 1 1 the_row content)
    ∷ happens (events.Sync 1 1)
    ∷ []

abbrev pub sends_written : Schema → Content → List Turn
sends_written schema content =
    turn (events.Store 1) []
    ∷ turn (events.Table 1 schema) []
    ∷ turn (events.Client 1 None (1 ∷ [])) []
    ∷ turn (events.Write 1 1 the_row content) (AnswerLine (facts.Number 1) ∷ told (wrote_content 1 1 0 content) ∷ [])
    ∷ turn (events.Sync 1 1) (AnswerLine (facts.Number 1) ∷ sent 0 (nodes.Client 1) the_store names.SyncRequest ∷ [])
    ∷ []

-- ---- a crash inside the row's put

-- so many calls of the disk pass
abbrev pub crash_in_put : ℕ → List Happening → List Happening
crash_in_put calls more =
    sends (notes Eventual) (int 5)
    ++ happens (events.Hold the_store)
    ∷ happens (events.Deliver 0)
    ∷ happens (events.Work the_store)
    ∷ happens (events.Crash the_store calls 0)
    ∷ happens (events.StoreShow 1 the_row)
    ∷ happens (events.Start the_store)
    ∷ happens (events.WorkAll the_store)
    ∷ happens (events.StoreShow 1 the_row)
    ∷ more

abbrev pub crash_in_put_written : ℕ → Line → Line → List Turn → List Turn
crash_in_put_written calls start shown more =
    sends_written (notes Eventual) (int 5)
    ++ turn (events.Hold the_store) (AnswerLine facts.Done ∷ [])
    ∷ turn (events.Deliver 0) (AnswerLine facts.Done ∷ [])
    ∷ did steps.LogOpen
    ∷ turn (events.Crash the_store calls 0) (AnswerLine facts.Done ∷ [])
    ∷ turn (events.StoreShow 1 the_row) (AnswerLine (facts.Refuses (facts.NodeDown the_store)) ∷ [])
    ∷ turn (events.Start the_store) (AnswerLine facts.Done ∷ start ∷ [])
    ∷ turn (events.WorkAll the_store) (AnswerLine (facts.Number 4) ∷ recovered ∷ [])
    ∷ turn (events.StoreShow 1 the_row) (shown ∷ [])
    ∷ more

-- the put had landed: the start goes forward, and the request that comes again is answered by its entry
abbrev pub landed_put : List Happening
landed_put =
    crash_in_put 4
    (happens (events.Deliver 0) ∷ happens (events.Free the_store) ∷ happens (events.Deliver 1) ∷ [])

abbrev pub landed_put_written : List Turn
landed_put_written =
    crash_in_put_written 4 (forward 1 1 1 0) (AnswerLine (facts.Stores 1 (int 5)))
    (turn (events.Deliver 0) (AnswerLine facts.Done ∷ sent 1 the_store (nodes.Client 1) names.SyncResponse ∷ [])
    ∷ turn (events.Free the_store) (AnswerLine facts.Done ∷ [])
    ∷ turn (events.Deliver 1) (AnswerLine facts.Done ∷ told (facts.Acked 1 1 1 the_row 1) ∷ [])
    ∷ [])

-- it had not: the start takes the version back, and the request that comes again is accepted with it
abbrev pub lost_put : List Happening
lost_put = crash_in_put 0 (happens (events.Free the_store) ∷ happens (events.Deliver 0) ∷ [])

abbrev pub lost_put_written : List Turn
lost_put_written =
    crash_in_put_written 0 (FactLine (facts.Back 1 1)) (AnswerLine (facts.Refuses facts.NoRow))
    (turn (events.Free the_store) (AnswerLine facts.Done ∷ [])
    ∷ turn (events.Deliver 0) (AnswerLine facts.Done ∷ accepted 1 1 1 0
    ∷ sent 1 the_store (nodes.Client 1) names.SyncResponse ∷ [])
    ∷ [])

-- ---- a Store of two tables

abbrev pub wrote_there : Line
wrote_there = told (facts.Wrote (record {
  client = 1;
  number = 2;
  table = 2;
  row = the_row;
  read = 0;
  content = int 6;
}))

-- both tables are inside an update, and the next write is that of the first: its row's put
abbrev pub two_tables : List Happening
two_tables =
    happens (events.Store 1)
    ∷ happens (events.Table 1 (notes Eventual))
    ∷ happens (events.Table 2 (notes Eventual))
    ∷ happens (events.Client 1 None (1 ∷ 2 ∷ []))
    ∷ happens (events.Write 1 1 the_row (int 5))
    ∷ happens (events.Write 1 2 the_row (int 6))
    ∷ happens (events.Sync 1 1)
    ∷ happens (events.Sync 1 2)
    ∷ happens (events.Hold the_store)
    ∷ happens (events.Deliver 1)
    ∷ happens (events.Work the_store)
    ∷ happens (events.Deliver 0)
    ∷ happens (events.Deliver 0)
    ∷ happens (events.Work the_store)
    ∷ happens (events.Free the_store)
    ∷ happens (events.Crash the_store 4 0)
    ∷ happens (events.Start the_store)
    ∷ happens (events.StoreShow 1 the_row)
    ∷ happens (events.StoreShow 2 the_row)
    ∷ []

abbrev pub two_tables_written : List Turn
two_tables_written =
    turn (events.Store 1) []
    ∷ turn (events.Table 1 (notes Eventual)) []
    ∷ turn (events.Table 2 (notes Eventual)) []
    ∷ turn (events.Client 1 None (1 ∷ 2 ∷ [])) []
    ∷ turn (events.Write 1 1 the_row (int 5)) (AnswerLine (facts.Number 1) ∷ told (wrote 1 1 0 5) ∷ [])
    ∷ turn (events.Write 1 2 the_row (int 6)) (AnswerLine (facts.Number 2) ∷ wrote_there ∷ [])
    ∷ turn (events.Sync 1 1) (AnswerLine (facts.Number 1) ∷ sent 0 (nodes.Client 1) the_store names.SyncRequest ∷ [])
    ∷ turn (events.Sync 1 2) (AnswerLine (facts.Number 1) ∷ sent 1 (nodes.Client 1) the_store names.SyncRequest ∷ [])
    ∷ turn (events.Hold the_store) (AnswerLine facts.Done ∷ [])
    ∷ turn (events.Deliver 1) (AnswerLine facts.Done ∷ [])
    ∷ did steps.LogOpen
    ∷ turn (events.Deliver 0) (AnswerLine facts.Done ∷ [])
    ∷ turn (events.Deliver 0) (AnswerLine (facts.Refuses (facts.Busy 1)) ∷ [])
    ∷ did steps.LogOpen
    ∷ turn (events.Free the_store) (AnswerLine facts.Done ∷ [])
    ∷ turn (events.Crash the_store 4 0) (AnswerLine facts.Done ∷ [])
    ∷ turn (events.Start the_store) (AnswerLine facts.Done ∷ forward 1 1 1 0 ∷ FactLine (facts.Back 2 1) ∷ recovered
    ∷ FactLine (facts.StoreRecovered 1 2) ∷ [])
    ∷ turn (events.StoreShow 1 the_row) (AnswerLine (facts.Stores 1 (int 5)) ∷ [])
    ∷ turn (events.StoreShow 2 the_row) (AnswerLine (facts.Refuses facts.NoRow) ∷ [])
    ∷ []

-- ---- failed device calls

-- the second write of a delivery fails: its first luck is that of what it reads
abbrev pub failed_put : List Happening
failed_put =
    sends (notes Eventual) (int 5)
    ++ done_so (lucks.Done ∷ lucks.Done ∷ lucks.FailedBefore ∷ []) (events.Deliver 0)
    ∷ happens (events.Deliver 0)
    ∷ happens (events.Start the_store)
    ∷ happens (events.Deliver 0)
    ∷ []

abbrev pub failed_put_written : List Turn
failed_put_written =
    sends_written (notes Eventual) (int 5)
    ++ turn (events.Deliver 0) (AnswerLine (facts.Refuses facts.NoDevice) ∷ [])
    ∷ turn (events.Deliver 0) (AnswerLine (facts.Refuses (facts.NodeDown the_store)) ∷ [])
    ∷ turn (events.Start the_store) (AnswerLine facts.Done ∷ FactLine (facts.Back 1 1) ∷ recovered ∷ [])
    ∷ turn (events.Deliver 0) (AnswerLine facts.Done ∷ accepted 1 1 1 0
    ∷ sent 1 the_store (nodes.Client 1) names.SyncResponse ∷ [])
    ∷ []

-- a disk fails when a table is declared
abbrev pub failed_declaration : List Happening
failed_declaration =
    happens (events.Store 1)
    ∷ done_so (lucks.FailedBefore ∷ []) (events.Table 1 (notes Eventual))
    ∷ happens (events.Client 1 None (1 ∷ []))
    ∷ happens (events.Write 1 1 the_row (int 5))
    ∷ happens (events.Sync 1 1)
    ∷ happens (events.Deliver 0)
    ∷ happens (events.Start the_store)
    ∷ happens (events.Deliver 0)
    ∷ []

abbrev pub failed_declaration_written : List Turn
failed_declaration_written =
    sends_written (notes Eventual) (int 5)
    ++ turn (events.Deliver 0) (AnswerLine (facts.Refuses (facts.NodeDown the_store)) ∷ [])
    ∷ turn (events.Start the_store) (AnswerLine facts.Done ∷ recovered ∷ [])
    ∷ turn (events.Deliver 0) (AnswerLine facts.Done ∷ accepted 1 1 1 0
    ∷ sent 1 the_store (nodes.Client 1) names.SyncResponse ∷ [])
    ∷ []

-- ---- chunks

-- an object of three chunks, of which two are put before a crash; another one inside the recovery, whose drop of the
-- second chunk is undone
abbrev pub crash_between_chunks : List Happening
crash_between_chunks =
    sends pictures (object 192)
    ++ happens (events.Hold the_store)
    ∷ happens (events.Deliver 0)
    ∷ happens (events.Work the_store)
    ∷ happens (events.Work the_store)
    ∷ happens (events.Work the_store)
    ∷ happens (events.Crash the_store 0 0)
    ∷ happens (events.Start the_store)
    ∷ happens (events.Work the_store)
    ∷ happens (events.Work the_store)
    ∷ happens (events.Work the_store)
    ∷ happens (events.Work the_store)
    ∷ happens (events.Crash the_store 1 0)
    ∷ happens (events.Start the_store)
    ∷ happens (events.WorkAll the_store)
    ∷ happens (events.Chunks 1)
    ∷ []

abbrev pub crash_between_chunks_written : List Turn
crash_between_chunks_written =
    sends_written pictures (object 192)
    ++ turn (events.Hold the_store) (AnswerLine facts.Done ∷ [])
    ∷ turn (events.Deliver 0) (AnswerLine facts.Done ∷ [])
    ∷ did steps.LogOpen
    ∷ did steps.ChunkPut
    ∷ did steps.ChunkPut
    ∷ turn (events.Crash the_store 0 0) (AnswerLine facts.Done ∷ [])
    ∷ turn (events.Start the_store) (AnswerLine facts.Done ∷ FactLine (facts.Back 1 1) ∷ [])
    ∷ did steps.OpenChunks
    ∷ did steps.OpenRows
    ∷ did steps.OpenLog
    ∷ did steps.ChunkDrop
    ∷ turn (events.Crash the_store 1 0) (AnswerLine facts.Done ∷ [])
    ∷ turn (events.Start the_store) (AnswerLine facts.Done ∷ FactLine (facts.Back 1 1) ∷ [])
    ∷ turn (events.WorkAll the_store) (AnswerLine (facts.Number 5) ∷ recovered ∷ [])
    ∷ turn (events.Chunks 1) (AnswerLine (facts.Number 0) ∷ [])
    ∷ []

-- all three chunks are put, and the row's put is at work: the luck of the disk decides
abbrev pub crash_behind_chunks : Luck → List Happening
crash_behind_chunks luck =
    sends pictures (object 192)
    ++ happens (events.Hold the_store)
    ∷ happens (events.Deliver 0)
    ∷ happens (events.Work the_store)
    ∷ happens (events.Work the_store)
    ∷ happens (events.Work the_store)
    ∷ happens (events.Work the_store)
    ∷ done_so (lucks.Done ∷ luck ∷ []) (events.Crash the_store 2 1)
    ∷ happens (events.Start the_store)
    ∷ happens (events.WorkAll the_store)
    ∷ happens (events.Chunks 1)
    ∷ []

abbrev pub crash_behind_chunks_written : Line → ℕ → List ChunkName → List Turn
crash_behind_chunks_written start count chunks =
    sends_written pictures (object 192)
    ++ turn (events.Hold the_store) (AnswerLine facts.Done ∷ [])
    ∷ turn (events.Deliver 0) (AnswerLine facts.Done ∷ [])
    ∷ did steps.LogOpen
    ∷ did steps.ChunkPut
    ∷ did steps.ChunkPut
    ∷ did steps.ChunkPut
    ∷ turn (events.Crash the_store 2 1) (AnswerLine facts.Done ∷ [])
    ∷ turn (events.Start the_store) (AnswerLine facts.Done ∷ start ∷ [])
    ∷ turn (events.WorkAll the_store) (AnswerLine (facts.Number count) ∷ recovered ∷ [])
    ∷ turn (events.Chunks 1) (AnswerLine (names_answer chunks) ∷ [])
    ∷ []

-- ---- transcripts that aren't sound

-- a crash that tells a fact
abbrev pub loud : List Turn
loud = turn (events.Crash the_store 0 0) (AnswerLine facts.Done ∷ recovered ∷ []) ∷ []

-- a single write that is answered without its name
abbrev pub nameless : List Turn
nameless = turn (events.Work the_store) (AnswerLine facts.Done ∷ []) ∷ []
