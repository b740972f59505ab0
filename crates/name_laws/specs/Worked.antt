-- Worked scripts of an object in place of another, whose drop of a chunk crashes or fails, or which keeps a chunk that
-- is gone, with what they write.
use Rattle.std.specs.Prelude.{List, [], ◌∷◌, ◌++◌, None}
use Rattle.stab_base.specs.declared.chunk_name.ChunkName.{ChunkName}
use Rattle.stab_base.specs.declared.node.Node.TheVariants as nodes
use Rattle.stab_base.specs.declared.step.Step.TheVariants as steps
use Rattle.table_model.specs.declared.event.Event.TheVariants as events
use Rattle.table_model.specs.declared.message_name.MessageName.TheVariants as names
use Rattle.step_tables.specs.Facts.{AnswerLine}
use Rattle.step_tables.specs.Facts as facts
use Rattle.step_tables.specs.Messages as lucks
use Rattle.world_tables.specs.Turns.{Turn, Happening}
use Rattle.world_laws.specs.Worked.{the_store, the_row, happens, turn, told, wrote_content, accepted, sent, pictures}
use Rattle.world_laws.specs.Worked.{object, named}
use Rattle.world_laws.specs.WorkedCrashes.{done_so, did, forward, recovered, sends, sends_written}

-- a second object that has the first one's first chunk is asked for
abbrev pub replaces : List Happening
replaces =
    sends pictures (object 65)
    ++ happens (events.Deliver 0)
    ∷ happens (events.Deliver 1)
    ∷ happens (events.Write 1 1 the_row (object 130))
    ∷ happens (events.Sync 1 1)
    ∷ []

abbrev pub replaces_written : List Turn
replaces_written =
    sends_written pictures (object 65)
    ++ turn (events.Deliver 0) (AnswerLine facts.Done ∷ accepted 1 1 1 0
    ∷ sent 1 the_store (nodes.Client 1) names.SyncResponse ∷ [])
    ∷ turn (events.Deliver 1) (AnswerLine facts.Done ∷ told (facts.Acked 1 1 1 the_row 1) ∷ [])
    ∷ turn (events.Write 1 1 the_row (object 130)) (AnswerLine (facts.Number 2)
    ∷ told (wrote_content 1 2 1 (object 130)) ∷ [])
    ∷ turn (events.Sync 1 1) (AnswerLine (facts.Number 1) ∷ sent 2 (nodes.Client 1) the_store names.SyncRequest ∷ [])
    ∷ []

-- the drop of the other one is undone by a crash
abbrev pub replaced : List Happening
replaced =
    replaces
    ++ happens (events.Hold the_store)
    ∷ happens (events.Deliver 2)
    ∷ happens (events.Work the_store)
    ∷ happens (events.Work the_store)
    ∷ happens (events.Work the_store)
    ∷ happens (events.Work the_store)
    ∷ happens (events.Crash the_store 1 0)
    ∷ happens (events.Start the_store)
    ∷ happens (events.Chunks 1)
    ∷ happens (events.WorkAll the_store)
    ∷ happens (events.Chunks 1)
    ∷ []

-- behind the start, where the Store isn't quiet, the chunk that was to be dropped is there; these are listed at the end
abbrev pub replaced_written : List ChunkName → List Turn
replaced_written listed =
    replaces_written
    ++ turn (events.Hold the_store) (AnswerLine facts.Done ∷ [])
    ∷ turn (events.Deliver 2) (AnswerLine facts.Done ∷ [])
    ∷ did steps.LogOpen
    ∷ did steps.ChunkPut
    ∷ did steps.ChunkPut
    ∷ turn (events.Work the_store) (AnswerLine (facts.Did steps.RowPut) ∷ accepted 2 1 2 1 ∷ [])
    ∷ turn (events.Crash the_store 1 0) (AnswerLine facts.Done ∷ [])
    ∷ turn (events.Start the_store) (AnswerLine facts.Done ∷ forward 2 1 2 1 ∷ [])
    ∷ turn (events.Chunks 1) (AnswerLine (facts.Names (named 1 0 ∷ named 1 1 ∷ named 2 0 ∷ named 2 1 ∷ [])) ∷ [])
    ∷ turn (events.WorkAll the_store) (AnswerLine (facts.Number 5) ∷ recovered ∷ [])
    ∷ turn (events.Chunks 1) (AnswerLine (facts.Names listed) ∷ [])
    ∷ []

-- the Store isn't on hold, and the drop fails: behind what it reads, four writes are done
abbrev pub failed_drop : List Happening
failed_drop =
    replaces
    ++ done_so (lucks.Done ∷ lucks.Done ∷ lucks.Done ∷ lucks.Done ∷ lucks.Done ∷ lucks.FailedBefore ∷ [])
    (events.Deliver 2)
    ∷ happens (events.Chunks 1)
    ∷ happens (events.Start the_store)
    ∷ happens (events.Chunks 1)
    ∷ []

abbrev pub failed_drop_written : List ChunkName → List Turn
failed_drop_written listed =
    replaces_written
    ++ turn (events.Deliver 2) (AnswerLine (facts.Refuses facts.NoDevice) ∷ accepted 2 1 2 1 ∷ [])
    ∷ turn (events.Chunks 1) (AnswerLine (facts.Refuses (facts.NodeDown the_store)) ∷ [])
    ∷ turn (events.Start the_store) (AnswerLine facts.Done ∷ forward 2 1 2 1 ∷ recovered ∷ [])
    ∷ turn (events.Chunks 1) (AnswerLine (facts.Names listed) ∷ [])
    ∷ []

-- ---- a chunk that is kept and gone

-- a second client has read the first object, and keeps the chunk that it has in common with its own; but the row has it
-- no more
abbrev pub keeps_what_is_gone : List Happening
keeps_what_is_gone =
    happens (events.Store 1)
    ∷ happens (events.Table 1 pictures)
    ∷ happens (events.Client 1 None (1 ∷ []))
    ∷ happens (events.Client 2 None (1 ∷ []))
    ∷ happens (events.Write 1 1 the_row (object 65))
    ∷ happens (events.Sync 1 1)
    ∷ happens (events.Deliver 0)
    ∷ happens (events.Deliver 1)
    ∷ happens (events.Pull 2 1)
    ∷ happens (events.Deliver 2)
    ∷ happens (events.Deliver 3)
    ∷ happens (events.Write 1 1 the_row (object 1))
    ∷ happens (events.Sync 1 1)
    ∷ happens (events.Deliver 4)
    ∷ happens (events.Write 2 1 the_row (object 130))
    ∷ happens (events.Sync 2 1)
    ∷ happens (events.Deliver 6)
    ∷ happens (events.Deliver 7)
    ∷ happens (events.Deliver 8)
    ∷ happens (events.Chunks 1)
    ∷ []

-- the Store answers that it needs all chunks, and the client sends its write once more; these are listed at the end
abbrev pub keeps_what_is_gone_written : List ChunkName → List Turn
keeps_what_is_gone_written listed =
    turn (events.Store 1) []
    ∷ turn (events.Table 1 pictures) []
    ∷ turn (events.Client 1 None (1 ∷ [])) []
    ∷ turn (events.Client 2 None (1 ∷ [])) []
    ∷ turn (events.Write 1 1 the_row (object 65)) (AnswerLine (facts.Number 1)
    ∷ told (wrote_content 1 1 0 (object 65)) ∷ [])
    ∷ turn (events.Sync 1 1) (AnswerLine (facts.Number 1) ∷ sent 0 (nodes.Client 1) the_store names.SyncRequest ∷ [])
    ∷ turn (events.Deliver 0) (AnswerLine facts.Done ∷ accepted 1 1 1 0
    ∷ sent 1 the_store (nodes.Client 1) names.SyncResponse ∷ [])
    ∷ turn (events.Deliver 1) (AnswerLine facts.Done ∷ told (facts.Acked 1 1 1 the_row 1) ∷ [])
    ∷ turn (events.Pull 2 1) (AnswerLine facts.Done ∷ sent 2 (nodes.Client 2) the_store names.PullRequest ∷ [])
    ∷ turn (events.Deliver 2) (AnswerLine facts.Done ∷ sent 3 the_store (nodes.Client 2) names.PullResponse ∷ [])
    ∷ turn (events.Deliver 3) (AnswerLine facts.Done ∷ told (facts.New 2 1 the_row 1) ∷ told (facts.Position 2 1 1)
    ∷ [])
    ∷ turn (events.Write 1 1 the_row (object 1)) (AnswerLine (facts.Number 2)
    ∷ told (wrote_content 1 2 1 (object 1)) ∷ [])
    ∷ turn (events.Sync 1 1) (AnswerLine (facts.Number 1) ∷ sent 4 (nodes.Client 1) the_store names.SyncRequest ∷ [])
    ∷ turn (events.Deliver 4) (AnswerLine facts.Done ∷ accepted 2 1 2 1
    ∷ sent 5 the_store (nodes.Client 1) names.SyncResponse ∷ [])
    ∷ turn (events.Write 2 1 the_row (object 130)) (AnswerLine (facts.Number 1)
    ∷ told (wrote_content 2 1 1 (object 130)) ∷ [])
    ∷ turn (events.Sync 2 1) (AnswerLine (facts.Number 1) ∷ sent 6 (nodes.Client 2) the_store names.SyncRequest ∷ [])
    ∷ turn (events.Deliver 6) (AnswerLine facts.Done ∷ sent 7 the_store (nodes.Client 2) names.SyncResponse ∷ [])
    ∷ turn (events.Deliver 7) (AnswerLine facts.Done ∷ sent 8 (nodes.Client 2) the_store names.SyncRequest ∷ [])
    ∷ turn (events.Deliver 8) (AnswerLine facts.Done ∷ accepted 3 2 1 1
    ∷ sent 9 the_store (nodes.Client 2) names.SyncResponse ∷ [])
    ∷ turn (events.Chunks 1) (AnswerLine (facts.Names listed) ∷ [])
    ∷ []

-- all three chunks of the last object are new
abbrev pub whole_names : List ChunkName
whole_names = named 3 0 ∷ named 3 1 ∷ named 3 2 ∷ []
