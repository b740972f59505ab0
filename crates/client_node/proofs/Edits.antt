-- What an edit makes of what is shown.
use Rattle.std.proofs.Common.{◌≡◌, ◌⊎◌, ⊎_elim, ℕ, List, Some, Ok, Err, refl, sym, ◌∙◌, ap}
use Rattle.std.specs.Prelude.{option_map}
use Rattle.row_value.specs.declared.content.Content.{Content}
use Rattle.row_value.specs.declared.content.Content.TheVariants.{Gone, Row}
use Rattle.row_value.specs.declared.content.Cell.{Cell}
use Rattle.row_value.specs.declared.fit.FitFault.{FitFault}
use Rattle.row_value.specs.declared.schema.Schema.{Schema}
use Rattle.row_edits.specs.declared.change.Edit.{Edit}
use Rattle.row_edits.specs.declared.edit.EditFault.{EditFault}
use Rattle.row_edits.specs.declared.edit.EditFault.TheVariants as edits
use Rattle.row_edits.specs.Edit.{edited_to}
use Rattle.held_value.specs.declared.local_name.LocalName.{LocalName}
use Rattle.held_value.specs.declared.slots.Slots.{Slots}
use Rattle.client_tables.specs.declared.shown.ShownAs.{ShownAs}
use Rattle.client_tables.specs.declared.shown.ShownAs.TheVariants.{Nothing}
use Rattle.client_tables.specs.Shown.{shown_as, shown_content}
use Rattle.step_tables.specs.Facts.{Refusal, Shown}
use Rattle.step_tables.specs.Facts as facts
use Rattle.step_tables.specs.ClientMoves.{content_of}
use Rattle.journal_laws.specs.Moves.{shown_with}
use Rattle.journal_laws.specs.Whole.{whole}
use Rattle.client_node.specs.declared.fault.CallFault.{CallFault}
use Rattle.client_node.specs.declared.fault.CallFault.TheVariants as call
use Rattle.client_node.specs.Answers.{IsFault}
use Rattle.client_node.specs.Editing.{edit_fault_of, shown_whole, made_or_unfit, edited_over, IsWhy}
use Rattle.client_node.specs.Fault.{fit_fault_of}
use Rattle.client_node.proofs.Pulls.{no_refusal, same_refusal}
use Rattle.client_node.proofs.WriteRefusals.{fit_refusal, fit_not_disk, fit_not_spent, fault_not_spent}

-- nothing is shown, or it wasn't read
pub not_shown : (schema : Schema) (edit : Edit) (meaning : LocalName → List ℕ) (slots : Slots) (e : CallFault) → ((e ≡ call.NoRow) × (shown_as slots ≡ Nothing)) ⊎ IsFault e
    → IsWhy (edited_over schema edit (shown_whole meaning slots)) e
not_shown schema edit meaning slots e why refusal is = ⊎_elim
    (λ none. ap (λ (a : ShownAs). edited_over schema edit (option_map content_of (shown_with a (option_map (whole meaning) (shown_content slots))))) none.1
    ∙ ap (λ (r : Refusal). Err r) (same_refusal e call.NoRow refusal facts.NoRow none.0 refl is))
    (λ fault. no_refusal e refusal fault is) why

pub gone_shown : (schema : Schema) (edit : Edit) (content : Content) → content ≡ Gone → IsWhy (edited_over schema edit (Some content)) call.NoRow
gone_shown schema edit content gone refusal is = ap (λ (x : Content). edited_over schema edit (Some x)) gone ∙ (let same : facts.NoRow ≡ refusal = cc in ap (λ (r : Refusal). Err r) same)

-- a row is shown
pub row_made : (schema : Schema) (edit : Edit) (content : Content) (some : List Cell) (objects : List (List ℕ)) → content ≡ Row some objects → (made : Content)
    → edited_to schema some objects edit ≡ Ok made → edited_over schema edit (Some content) ≡ Ok made
row_made schema edit content some objects row made is = ap (λ (x : Content). edited_over schema edit (Some x)) row ∙ ap made_or_unfit is

pub row_unmade : (schema : Schema) (edit : Edit) (content : Content) (some : List Cell) (objects : List (List ℕ)) → content ≡ Row some objects → (e : EditFault)
    → ((fault : FitFault) → e ≡ edits.Fit fault → edited_to schema some objects edit ≡ Err fault)
    → IsWhy (edited_over schema edit (Some content)) (edit_fault_of e)
row_unmade schema edit content some objects row (edits.Fit fault) why refusal is =
    ap (λ (x : Content). edited_over schema edit (Some x)) row
    ∙ (ap made_or_unfit (why fault refl) ∙ ap (λ (r : Refusal). Err r) (same_refusal (fit_fault_of fault) (fit_fault_of fault) refusal (facts.Unfit fault) refl (fit_refusal fault) is))
row_unmade schema edit content some objects row edits.Memory why refusal is = absurd cc

pub edit_not_disk : (e : EditFault) → edit_fault_of e ≡ call.Disk → ⊥
edit_not_disk (edits.Fit fault) is = fit_not_disk fault is
edit_not_disk edits.Memory is = cc

pub edit_not_spent : (e : EditFault) (last : ℕ) → edit_fault_of e ≡ call.Spent last → ⊥
edit_not_spent (edits.Fit fault) last is = fit_not_spent fault last is
edit_not_spent edits.Memory last is = cc

-- what was read is the content that is shown
pub read_whole_is : (meaning : LocalName → List ℕ) (slots : Slots) (what : Shown) → shown_with (shown_as slots) (option_map (whole meaning) (shown_content slots)) ≡ Some what
    → shown_whole meaning slots ≡ Some (content_of what)
read_whole_is meaning slots what is = ap (option_map content_of) is

pub unread_unspent : (slots : Slots) (e : CallFault) → ((e ≡ call.NoRow) × (shown_as slots ≡ Nothing)) ⊎ IsFault e → (last : ℕ) → e ≡ call.Spent last → ⊥
unread_unspent slots e why last is = ⊎_elim (λ none. let no : call.NoRow ≡ call.Spent last = sym none.0 ∙ is in cc) (λ fault. fault_not_spent e last fault is) why
