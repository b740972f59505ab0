-- Worked scripts of edits of a row with an object, and of a client's link that is down, with what they write.
use Rattle.std.specs.Prelude.{ℕ, Bool, true, false, List, [], ◌∷◌, codes, None, pos}
use Rattle.stab_base.specs.declared.node.Node.TheVariants as nodes
use Rattle.row_value.specs.declared.content.Cell.TheVariants as cells
use Rattle.row_value.specs.declared.content.Content.{Content}
use Rattle.row_value.specs.declared.content.Content.TheVariants.{Gone, Row}
use Rattle.row_value.specs.declared.fit.FitFault.TheVariants as faults
use Rattle.row_value.specs.declared.schema.ColumnKind.TheVariants as kinds
use Rattle.row_value.specs.declared.schema.Schema.{Schema}
use Rattle.row_value.specs.declared.schema.Scheme.TheVariants.{Strong, Eventual}
use Rattle.row_edits.specs.declared.change.Value.TheVariants as values
use Rattle.row_edits.specs.declared.change.Edit.{Edit}
use Rattle.row_edits.specs.declared.change.Edit.TheVariants as edits
use Rattle.table_model.specs.declared.event.Event.TheVariants as events
use Rattle.table_model.specs.declared.message_name.MessageName.TheVariants as names
use Rattle.step_tables.specs.Facts.{Answer, AnswerLine}
use Rattle.step_tables.specs.Facts as facts
use Rattle.world_tables.specs.Turns.{Turn, Happening}
use Rattle.world_laws.specs.Worked.{the_store, notes, int, the_row, happens, turn, told, wrote_content, wrote}
use Rattle.world_laws.specs.Worked.{accepted, sent}

-- ---- an update, a patch and a delete in turn

-- a table of one number and one object
abbrev pub albums : Schema
albums = record {
  name = codes "albums";
  scheme = Eventual;
  chunk = 64;
  columns =
      record { name = codes "n"; kind = kinds.Int } ∷ record { name = codes "o"; kind = kinds.Object } ∷ [];
}

abbrev pub album : ℕ → List ℕ → Content
album n object = Row (cells.Int (pos n) ∷ []) (object ∷ [])

-- the number becomes this one
abbrev pub counted_as : ℕ → Edit
counted_as n = edits.Update (record { column = 0; value = values.Cell (cells.Int (pos n)) } ∷ [])

-- these bytes are put into the object from this place on
abbrev pub put_at : ℕ → List ℕ → Edit
put_at place bytes = edits.Patch (record { column = 1; at = place; bytes = bytes })

abbrev pub edits_in_turn : List Happening
edits_in_turn =
    happens (events.Store 1)
    ∷ happens (events.Table 1 albums)
    ∷ happens (events.Client 1 None (1 ∷ []))
    ∷ happens (events.Edit 1 1 the_row (counted_as 6))
    ∷ happens (events.Write 1 1 the_row (album 5 (65 ∷ 65 ∷ 65 ∷ [])))
    ∷ happens (events.Edit 1 1 the_row (counted_as 6))
    ∷ happens (events.Edit 1 1 the_row (put_at 2 (66 ∷ 66 ∷ [])))
    ∷ happens (events.Edit 1 1 the_row (put_at 5 (67 ∷ [])))
    ∷ happens (events.Sync 1 1)
    ∷ happens (events.Deliver 0)
    ∷ happens (events.Deliver 1)
    ∷ happens (events.Edit 1 1 the_row edits.Delete)
    ∷ happens (events.Edit 1 1 the_row edits.Delete)
    ∷ happens (events.Show 1 1 the_row)
    ∷ []

-- There is nothing to edit before the first write. The update leaves the object, and the patch the number; the patch
-- ends one byte behind the object's end, and one that begins behind it is refused. The delete is over the row that the
-- Store accepted, and then there is nothing to edit.
abbrev pub edits_in_turn_written : List Turn
edits_in_turn_written =
    turn (events.Store 1) []
    ∷ turn (events.Table 1 albums) []
    ∷ turn (events.Client 1 None (1 ∷ [])) []
    ∷ turn (events.Edit 1 1 the_row (counted_as 6)) (AnswerLine (facts.Refuses facts.NoRow) ∷ [])
    ∷ turn (events.Write 1 1 the_row (album 5 (65 ∷ 65 ∷ 65 ∷ []))) (AnswerLine (facts.Number 1)
    ∷ told (wrote_content 1 1 0 (album 5 (65 ∷ 65 ∷ 65 ∷ []))) ∷ [])
    ∷ turn (events.Edit 1 1 the_row (counted_as 6)) (AnswerLine (facts.Number 2)
    ∷ told (wrote_content 1 2 0 (album 6 (65 ∷ 65 ∷ 65 ∷ []))) ∷ [])
    ∷ turn (events.Edit 1 1 the_row (put_at 2 (66 ∷ 66 ∷ []))) (AnswerLine (facts.Number 3)
    ∷ told (wrote_content 1 3 0 (album 6 (65 ∷ 65 ∷ 66 ∷ 66 ∷ []))) ∷ [])
    ∷ turn (events.Edit 1 1 the_row (put_at 5 (67 ∷ []))) (AnswerLine
    (facts.Refuses (facts.Unfit (faults.BadObject 1 4))) ∷ [])
    ∷ turn (events.Sync 1 1) (AnswerLine (facts.Number 1) ∷ sent 0 (nodes.Client 1) the_store names.SyncRequest ∷ [])
    ∷ turn (events.Deliver 0) (AnswerLine facts.Done ∷ accepted 1 1 3 0
    ∷ sent 1 the_store (nodes.Client 1) names.SyncResponse ∷ [])
    ∷ turn (events.Deliver 1) (AnswerLine facts.Done ∷ told (facts.Acked 1 3 1 the_row 1) ∷ [])
    ∷ turn (events.Edit 1 1 the_row edits.Delete) (AnswerLine (facts.Number 4)
    ∷ told (wrote_content 1 4 1 Gone) ∷ [])
    ∷ turn (events.Edit 1 1 the_row edits.Delete) (AnswerLine (facts.Refuses facts.NoRow) ∷ [])
    ∷ turn (events.Show 1 1 the_row) (AnswerLine (facts.Shows (facts.Mine 4 Gone)) ∷ [])
    ∷ []

-- ---- a link that is down, and up again

abbrev pub cut_link : List Happening
cut_link =
    happens (events.Store 1)
    ∷ happens (events.Table 1 (notes Eventual))
    ∷ happens (events.Table 2 (notes Strong))
    ∷ happens (events.Client 1 None (1 ∷ 2 ∷ []))
    ∷ happens (events.Write 1 1 the_row (int 5))
    ∷ happens (events.Sync 1 1)
    ∷ happens (events.Deliver 0)
    ∷ happens (events.Link 1 false)
    ∷ happens (events.Sync 1 1)
    ∷ happens (events.Sync 1 3)
    ∷ happens (events.Pull 1 1)
    ∷ happens (events.Deliver 1)
    ∷ happens (events.Write 1 2 the_row (int 7))
    ∷ happens (events.Write 1 1 the_row (int 6))
    ∷ happens (events.Link 1 true)
    ∷ happens (events.Deliver 1)
    ∷ happens (events.Sync 1 1)
    ∷ happens (events.Pull 1 1)
    ∷ []

-- Where the link is down nothing is sent or taken, and no strong table is written; what is refused for want of a table
-- is refused so, and an eventual table is written. The packet that wasn't taken comes again once the link is up.
abbrev pub cut_link_written : List Turn
cut_link_written =
    turn (events.Store 1) []
    ∷ turn (events.Table 1 (notes Eventual)) []
    ∷ turn (events.Table 2 (notes Strong)) []
    ∷ turn (events.Client 1 None (1 ∷ 2 ∷ [])) []
    ∷ turn (events.Write 1 1 the_row (int 5)) (AnswerLine (facts.Number 1) ∷ told (wrote 1 1 0 5) ∷ [])
    ∷ turn (events.Sync 1 1) (AnswerLine (facts.Number 1) ∷ sent 0 (nodes.Client 1) the_store names.SyncRequest ∷ [])
    ∷ turn (events.Deliver 0) (AnswerLine facts.Done ∷ accepted 1 1 1 0
    ∷ sent 1 the_store (nodes.Client 1) names.SyncResponse ∷ [])
    ∷ turn (events.Link 1 false) (AnswerLine facts.Done ∷ [])
    ∷ turn (events.Sync 1 1) (AnswerLine (facts.Refuses facts.Offline) ∷ [])
    ∷ turn (events.Sync 1 3) (AnswerLine (facts.Refuses facts.NoTable) ∷ [])
    ∷ turn (events.Pull 1 1) (AnswerLine (facts.Refuses facts.Offline) ∷ [])
    ∷ turn (events.Deliver 1) (AnswerLine (facts.Refuses facts.Offline) ∷ [])
    ∷ turn (events.Write 1 2 the_row (int 7)) (AnswerLine (facts.Refuses facts.Offline) ∷ [])
    ∷ turn (events.Write 1 1 the_row (int 6)) (AnswerLine (facts.Number 2) ∷ told (wrote 1 2 0 6) ∷ [])
    ∷ turn (events.Link 1 true) (AnswerLine facts.Done ∷ [])
    ∷ turn (events.Deliver 1) (AnswerLine facts.Done ∷ told (facts.Acked 1 1 1 the_row 1) ∷ [])
    ∷ turn (events.Sync 1 1) (AnswerLine (facts.Number 1) ∷ sent 2 (nodes.Client 1) the_store names.SyncRequest ∷ [])
    ∷ turn (events.Pull 1 1) (AnswerLine facts.Done ∷ sent 3 (nodes.Client 1) the_store names.PullRequest ∷ [])
    ∷ []
