-- A worked script of a write that keeps a chunk which the row has no more, with what it writes.
use Rattle.std.specs.Prelude.{ℕ, List, [], ◌∷◌, map, None}
use Rattle.std.specs.List.{range_with_len}
use Rattle.stab_base.specs.declared.node.Node.TheVariants as nodes
use Rattle.row_value.specs.declared.content.Content.{Content}
use Rattle.row_value.specs.declared.content.Content.TheVariants.{Row}
use Rattle.table_model.specs.declared.event.Event.TheVariants as events
use Rattle.table_model.specs.declared.message_name.MessageName.TheVariants as names
use Rattle.step_tables.specs.Facts.{AnswerLine}
use Rattle.step_tables.specs.Facts as facts
use Rattle.world_tables.specs.World.{names_answer}
use Rattle.world_tables.specs.Turns.{Turn, Happening}
use Rattle.world_laws.specs.Worked.{the_row, happens, turn, told, wrote_content, accepted, sent}
use Rattle.world_laws.specs.Worked.{the_store, pictures, object, named}

-- so many bytes, all of them others
abbrev pub another_object : ℕ → Content
another_object len = Row [] (map (λ (place : ℕ). 66) (range_with_len 0 len) ∷ [])

-- The second client's object takes the place of the first one's, which writes again over what it had. It keeps the
-- first chunk, and the Store, which has that no more, asks for the whole. That answer is dropped where it comes again,
-- and the request that it refused is answered as accepted once the whole is. The next write keeps a chunk of that.
abbrev pub sent_whole : List Happening
sent_whole =
    happens (events.Store 1)
    ∷ happens (events.Table 1 pictures)
    ∷ happens (events.Client 1 None (1 ∷ []))
    ∷ happens (events.Client 2 None (1 ∷ []))
    ∷ happens (events.Write 1 1 the_row (object 65))
    ∷ happens (events.Sync 1 1)
    ∷ happens (events.Deliver 0)
    ∷ happens (events.Deliver 1)
    ∷ happens (events.Write 2 1 the_row (another_object 65))
    ∷ happens (events.Sync 2 1)
    ∷ happens (events.Deliver 2)
    ∷ happens (events.Deliver 3)
    ∷ happens (events.Chunks 1)
    ∷ happens (events.Write 1 1 the_row (object 130))
    ∷ happens (events.Sync 1 1)
    ∷ happens (events.Deliver 4)
    ∷ happens (events.Deliver 5)
    ∷ happens (events.Deliver 5)
    ∷ happens (events.Deliver 6)
    ∷ happens (events.Deliver 4)
    ∷ happens (events.Deliver 7)
    ∷ happens (events.Chunks 1)
    ∷ happens (events.Write 1 1 the_row (object 65))
    ∷ happens (events.Sync 1 1)
    ∷ happens (events.Deliver 9)
    ∷ happens (events.Chunks 1)
    ∷ []

abbrev pub sent_whole_written : List Turn
sent_whole_written =
    turn (events.Store 1) []
    ∷ turn (events.Table 1 pictures) []
    ∷ turn (events.Client 1 None (1 ∷ [])) []
    ∷ turn (events.Client 2 None (1 ∷ [])) []
    ∷ turn (events.Write 1 1 the_row (object 65)) (AnswerLine (facts.Number 1)
    ∷ told (wrote_content 1 1 0 (object 65)) ∷ [])
    ∷ turn (events.Sync 1 1) (AnswerLine (facts.Number 1) ∷ sent 0 (nodes.Client 1) the_store names.SyncRequest ∷ [])
    ∷ turn (events.Deliver 0) (AnswerLine facts.Done ∷ accepted 1 1 1 0
    ∷ sent 1 the_store (nodes.Client 1) names.SyncResponse ∷ [])
    ∷ turn (events.Deliver 1) (AnswerLine facts.Done ∷ told (facts.Acked 1 1 1 the_row 1) ∷ [])
    ∷ turn (events.Write 2 1 the_row (another_object 65)) (AnswerLine (facts.Number 1)
    ∷ told (wrote_content 2 1 0 (another_object 65)) ∷ [])
    ∷ turn (events.Sync 2 1) (AnswerLine (facts.Number 1) ∷ sent 2 (nodes.Client 2) the_store names.SyncRequest ∷ [])
    ∷ turn (events.Deliver 2) (AnswerLine facts.Done ∷ accepted 2 2 1 0
    ∷ sent 3 the_store (nodes.Client 2) names.SyncResponse ∷ [])
    ∷ turn (events.Deliver 3) (AnswerLine facts.Done ∷ told (facts.Acked 2 1 1 the_row 2) ∷ [])
    ∷ turn (events.Chunks 1) (AnswerLine (names_answer (named 2 0 ∷ named 2 1 ∷ [])) ∷ [])
    ∷ turn (events.Write 1 1 the_row (object 130)) (AnswerLine (facts.Number 2)
    ∷ told (wrote_content 1 2 1 (object 130)) ∷ [])
    ∷ turn (events.Sync 1 1) (AnswerLine (facts.Number 1) ∷ sent 4 (nodes.Client 1) the_store names.SyncRequest ∷ [])
    ∷ turn (events.Deliver 4) (AnswerLine facts.Done ∷ sent 5 the_store (nodes.Client 1) names.SyncResponse ∷ [])
    ∷ turn (events.Deliver 5) (AnswerLine facts.Done ∷ sent 6 (nodes.Client 1) the_store names.SyncRequest ∷ [])
    ∷ turn (events.Deliver 5) (AnswerLine facts.Done ∷ [])
    ∷ turn (events.Deliver 6) (AnswerLine facts.Done ∷ accepted 3 1 2 1
    ∷ sent 7 the_store (nodes.Client 1) names.SyncResponse ∷ [])
    ∷ turn (events.Deliver 4) (AnswerLine facts.Done ∷ sent 8 the_store (nodes.Client 1) names.SyncResponse ∷ [])
    ∷ turn (events.Deliver 7) (AnswerLine facts.Done ∷ told (facts.Acked 1 2 1 the_row 3) ∷ [])
    ∷ turn (events.Chunks 1) (AnswerLine (names_answer (named 3 0 ∷ named 3 1 ∷ named 3 2 ∷ [])) ∷ [])
    ∷ turn (events.Write 1 1 the_row (object 65)) (AnswerLine (facts.Number 3)
    ∷ told (wrote_content 1 3 3 (object 65)) ∷ [])
    ∷ turn (events.Sync 1 1) (AnswerLine (facts.Number 1) ∷ sent 9 (nodes.Client 1) the_store names.SyncRequest ∷ [])
    ∷ turn (events.Deliver 9) (AnswerLine facts.Done ∷ accepted 4 1 3 3
    ∷ sent 10 the_store (nodes.Client 1) names.SyncResponse ∷ [])
    ∷ turn (events.Chunks 1) (AnswerLine (names_answer (named 3 0 ∷ named 4 0 ∷ [])) ∷ [])
    ∷ []
