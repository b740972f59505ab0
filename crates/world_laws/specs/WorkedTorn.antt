-- A worked script of a row that a client asks for whole, with what it writes.
use Rattle.std.specs.Prelude.{List, [], ◌∷◌, None}
use Rattle.stab_base.specs.declared.node.Node.TheVariants as nodes
use Rattle.row_value.specs.declared.schema.Scheme.TheVariants.{Eventual}
use Rattle.table_model.specs.declared.event.Event.{Event}
use Rattle.table_model.specs.declared.event.Event.TheVariants as events
use Rattle.table_model.specs.declared.message_name.MessageName.TheVariants as names
use Rattle.step_tables.specs.Facts.{AnswerLine, FactLine}
use Rattle.step_tables.specs.Facts as facts
use Rattle.world_tables.specs.World.{no_lucks}
use Rattle.world_tables.specs.Turns.{Turn, Happening}
use Rattle.world_laws.specs.Worked.{the_store, notes, int, the_row, happens, turn, told, wrote, accepted, sent}

-- a pull at which the client tells the row as torn, and asks for it whole
abbrev pub asks_whole : Event → Happening
asks_whole event = record { event = event; lucks = record no_lucks { tears = the_row ∷ []; asks = the_row ∷ [] } }

-- The second client asks for the row whole. It reads it from the answer and asks for the next change; where the answer
-- comes again, it asks once more and nothing changes. Its position moves with the answer to its pull.
abbrev pub asked_whole : List Happening
asked_whole =
    happens (events.Store 1)
    ∷ happens (events.Table 1 (notes Eventual))
    ∷ happens (events.Client 1 None (1 ∷ []))
    ∷ happens (events.Client 2 None (1 ∷ []))
    ∷ happens (events.Write 1 1 the_row (int 5))
    ∷ happens (events.Sync 1 1)
    ∷ happens (events.Deliver 0)
    ∷ asks_whole (events.Pull 2 1)
    ∷ happens (events.Deliver 2)
    ∷ happens (events.Deliver 3)
    ∷ happens (events.Show 2 1 the_row)
    ∷ happens (events.Deliver 3)
    ∷ happens (events.Show 2 1 the_row)
    ∷ happens (events.Deliver 4)
    ∷ happens (events.Deliver 6)
    ∷ []

abbrev pub asked_whole_written : List Turn
asked_whole_written =
    turn (events.Store 1) []
    ∷ turn (events.Table 1 (notes Eventual)) []
    ∷ turn (events.Client 1 None (1 ∷ [])) []
    ∷ turn (events.Client 2 None (1 ∷ [])) []
    ∷ turn (events.Write 1 1 the_row (int 5)) (AnswerLine (facts.Number 1) ∷ told (wrote 1 1 0 5) ∷ [])
    ∷ turn (events.Sync 1 1) (AnswerLine (facts.Number 1) ∷ sent 0 (nodes.Client 1) the_store names.SyncRequest ∷ [])
    ∷ turn (events.Deliver 0) (AnswerLine facts.Done ∷ accepted 1 1 1 0
    ∷ sent 1 the_store (nodes.Client 1) names.SyncResponse ∷ [])
    ∷ turn (events.Pull 2 1) (AnswerLine facts.Done ∷ FactLine (facts.Torn 2 1 the_row)
    ∷ sent 2 (nodes.Client 2) the_store names.TornRowRequest ∷ [])
    ∷ turn (events.Deliver 2) (AnswerLine facts.Done ∷ sent 3 the_store (nodes.Client 2) names.TornRowResponse ∷ [])
    ∷ turn (events.Deliver 3) (AnswerLine facts.Done ∷ told (facts.New 2 1 the_row 1)
    ∷ sent 4 (nodes.Client 2) the_store names.PullRequest ∷ [])
    ∷ turn (events.Show 2 1 the_row) (AnswerLine (facts.Shows (facts.Clean 1 (int 5))) ∷ [])
    ∷ turn (events.Deliver 3) (AnswerLine facts.Done ∷ sent 5 (nodes.Client 2) the_store names.PullRequest ∷ [])
    ∷ turn (events.Show 2 1 the_row) (AnswerLine (facts.Shows (facts.Clean 1 (int 5))) ∷ [])
    ∷ turn (events.Deliver 4) (AnswerLine facts.Done ∷ sent 6 the_store (nodes.Client 2) names.PullResponse ∷ [])
    ∷ turn (events.Deliver 6) (AnswerLine facts.Done ∷ told (facts.Position 2 1 1) ∷ [])
    ∷ []
