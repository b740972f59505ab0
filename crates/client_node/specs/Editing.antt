-- What an edit makes of what is shown of a row, or why it is refused.
use Rattle.std.specs.Prelude.{◌≡◌, ℕ, List, Option, Some, None, option_map, Result, Ok, Err}
use Rattle.row_value.specs.declared.content.Content.{Content}
use Rattle.row_value.specs.declared.content.Content.TheVariants.{Gone, Row}
use Rattle.row_value.specs.declared.fit.FitFault.{FitFault}
use Rattle.row_value.specs.declared.schema.Schema.{Schema}
use Rattle.row_edits.specs.declared.change.Edit.{Edit}
use Rattle.row_edits.specs.declared.edit.EditFault.{EditFault}
use Rattle.row_edits.specs.declared.edit.EditFault.TheVariants as edits
use Rattle.row_edits.specs.Edit.{edited_to}
use Rattle.held_value.specs.declared.local_name.LocalName.{LocalName}
use Rattle.held_value.specs.declared.slots.Slots.{Slots}
use Rattle.client_tables.specs.Shown.{shown_as, shown_content}
use Rattle.step_tables.specs.Facts.{Refusal}
use Rattle.step_tables.specs.Facts as facts
use Rattle.step_tables.specs.ClientMoves.{content_of}
use Rattle.journal_laws.specs.Moves.{shown_with}
use Rattle.journal_laws.specs.Whole.{whole}
use Rattle.client_node.specs.declared.fault.CallFault.{CallFault}
use Rattle.client_node.specs.declared.fault.CallFault.TheVariants.{Memory}
use Rattle.client_node.specs.Does.{refusal_in}
use Rattle.client_node.specs.Fault.{fit_fault_of}

abbrev pub edit_fault_of : EditFault → CallFault
edit_fault_of (edits.Fit fault) = fit_fault_of fault
edit_fault_of edits.Memory = Memory

-- the content that is shown of a row, whole
abbrev pub shown_whole : (LocalName → List ℕ) → Slots → Option Content
shown_whole meaning slots =
    option_map content_of (shown_with (shown_as slots) (option_map (whole meaning) (shown_content slots)))

abbrev pub made_or_unfit : Result Content FitFault → Result Content Refusal
made_or_unfit (Ok content) = Ok content
made_or_unfit (Err fault) = Err (facts.Unfit fault)

-- what an edit makes of the content that is shown: there is nothing to edit where nothing is shown, nor where a row is
-- shown that is gone
abbrev pub edited_over : Schema → Edit → Option Content → Result Content Refusal
edited_over schema edit None = Err facts.NoRow
edited_over schema edit (Some Gone) = Err facts.NoRow
edited_over schema edit (Some (Row some objects)) = made_or_unfit (edited_to schema some objects edit)

-- where a fault is a refusal of the step table, that is why no content was made
abbrev pub IsWhy : Result Content Refusal → CallFault → Type 0
IsWhy made e = (refusal : Refusal) → refusal_in e ≡ Some refusal → made ≡ Err refusal
