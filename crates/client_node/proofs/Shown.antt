-- What is shown of a row, as the step table shows it.
use Rattle.std.proofs.Common.{◌≡◌, ◌⊎◌, ⊎_elim, ℕ, List, [], ◌∷◌, Option, Some, None, Result, Ok, Err, refl, sym, ◌∙◌, ap, subst}
use Rattle.std.specs.Prelude.{option_map, ◌++◌, IfOk, IfErr}
use Rattle.row_value.specs.declared.content.Content.{Content}
use Rattle.table_model.specs.declared.line.Shown.{Shown}
use Rattle.table_model.specs.declared.line.Shown.TheVariants as shown
use Rattle.held_value.specs.declared.local_name.LocalName.{LocalName}
use Rattle.held_value.specs.declared.content.HeldContent.{HeldContent}
use Rattle.held_value.specs.declared.slots.Main.{Main}
use Rattle.held_value.specs.declared.slots.Shadow.{Shadow}
use Rattle.held_value.specs.declared.slots.Out.{Out}
use Rattle.held_value.specs.declared.slots.Slots.{Slots}
use Rattle.slot_store.specs.declared.held.TableRecord.{TableRecord}
use Rattle.client_tables.specs.declared.shown.ShownAs.{ShownAs}
use Rattle.client_tables.specs.declared.shown.ShownAs.TheVariants.{Nothing}
use Rattle.client_tables.specs.Shown.{shown_as, shown_content, shown_by, content_by}
use Rattle.client_journal.specs.Devs.{ClientDevs, local_in}
use Rattle.client_journal.specs.Names.{Has, names_of, names_in, names_of_shadow, names_of_out}
use Rattle.client_journal.specs.NamedSlots.{NamedSlots}
use Rattle.client_journal.specs.Redone.{redone}
use Rattle.step_tables.specs.Facts.{Answer, Refusal}
use Rattle.step_tables.specs.Facts as facts
use Rattle.step_tables.specs.ClientMoves.{Slots as TableSlots, TableDisk, ClientDisk, shown_in, show_answer, show_in, slots_at, slots_in, table_at, seen}
use Rattle.step_tables.specs.Lines.{shown_of}
use Rattle.journal_laws.specs.Moves.{shown_with}
use Rattle.journal_laws.specs.Whole.{whole, whole_slots}
use Rattle.journal_laws.proofs.Alike.{has_front}
use Rattle.journal_laws.proofs.Plans.{named_in}
use Rattle.client_node.specs.declared.fault.CallFault.{CallFault}
use Rattle.client_node.specs.declared.fault.CallFault.TheVariants as call
use Rattle.client_node.specs.Answers.{record_at, held_at, IsFault, IsAnswered}
use Rattle.client_node.specs.Node.{StandsFor}
use Rattle.client_node.proofs.Links.{opened_is, unopened_is, slots_are}
use Rattle.client_node.proofs.Pulls.{no_refusal, same_refusal}
use Rattle.held_contents.specs.Reading.{AreThere, AreThereIf}

-- ---- as the step table shows it

pub agrees : (meaning : LocalName → List ℕ) (m : Option Main) (s : Option Shadow) (o : Option Out) (k : Option Shadow) → let slots : Slots = record { main = m; shadow = s; out = o; conflict = k } in
    shown_with (shown_as slots) (option_map (whole meaning) (shown_content slots)) ≡ shown_in (whole_slots meaning slots).main (whole_slots meaning slots).conflict (whole_slots meaning slots).shadow
agrees meaning (Some m) s o (Some k) = refl
agrees meaning (Some m) s o None = refl
agrees meaning None (Some s) o k = refl
agrees meaning None None o k = refl

module _ (meaning : LocalName → List ℕ) (d : ClientDevs) (named : NamedSlots meaning d) (table : ℕ) (row : List ℕ) where
  name_there : (slots : Slots) → slots ≡ held_at d table row → (name : LocalName) → Has (names_in slots) name → local_in d.chunks name ≡ Some (meaning name)
  name_there slots is name has = named.there name (named_in (redone d) table row name (subst (λ (s : Slots). Has (names_in s) name) is has))

  shown_there : (m : Option Main) (s : Option Shadow) (o : Option Out) (k : Option Shadow) → let slots : Slots = record { main = m; shadow = s; out = o; conflict = k } in slots ≡ held_at d table row → AreThereIf meaning d (shown_content slots)
  shown_there (Some m) s o k is = λ name has. name_there (record { main = Some m; shadow = s; out = o; conflict = k }) is name (has_front (names_of m.content) (names_of_shadow s ++ (names_of_out o ++ names_of_shadow k)) name has)
  shown_there None (Some s) o k is = λ name has. name_there (record { main = None; shadow = Some s; out = o; conflict = k }) is name (has_front (names_of s.content) (names_of_out o ++ names_of_shadow k) name has)
  shown_there None None o k is = tt

  -- the chunks of what is shown are there
  pub there_shown : (slots : Slots) → slots ≡ held_at d table row → AreThereIf meaning d (shown_content slots)
  there_shown slots is = shown_there slots.main slots.shadow slots.out slots.conflict is

-- what is shown so is this content, whole
pub shown_so : (d : ClientDevs) (slots : Slots) (held : HeldContent) (content : Content) (how : ShownAs) → shown_as slots ≡ how → shown_content slots ≡ Some held
    → ((meaning : LocalName → List ℕ) → AreThere meaning d held → content ≡ whole meaning held) → (meaning : LocalName → List ℕ) → AreThereIf meaning d (shown_content slots)
    → shown_with (shown_as slots) (option_map (whole meaning) (shown_content slots)) ≡ shown_with how (Some content)
shown_so d slots held content how so is wholes meaning there =
    ap (λ (a : ShownAs). shown_with a (option_map (whole meaning) (shown_content slots))) so
    ∙ (ap (λ (o : Option HeldContent). shown_with how (option_map (whole meaning) o)) is
    ∙ ap (λ (x : Content). shown_with how (Some x)) (sym (wholes meaning (subst (λ (o : Option HeldContent). AreThereIf meaning d o) is there))))

abbrev says : Shown → Answer
says what = facts.Shows (shown_of what)

module _ (c : ℕ) (d : ClientDevs) (disk : ClientDisk) (st : StandsFor c d disk) (table : ℕ) (row : List ℕ) where
  abbrev answer : Answer
  answer = show_in row (table_at (seen disk) table)

  pub show_fault : (e : CallFault) → IsFault e → IsAnswered says answer (Err e)
  show_fault e fault refusal is = no_refusal e refusal fault is

  pub show_closed : (e : CallFault) → e ≡ call.NoTable → record_at d table ≡ None → IsAnswered says answer (Err e)
  show_closed e same none refusal is = ap (λ (o : Option TableDisk). show_in row o) (unopened_is c d disk st table none) ∙ ap (λ (r : Refusal). facts.Refuses r) (same_refusal e call.NoTable refusal facts.NoTable same refl is)

  module _ (found : TableRecord) (opened : record_at d table ≡ Some found) (slots : Slots) (is : slots ≡ held_at d table row) where
    -- what is shown, of whole slots
    shown_is : show_in row (table_at (seen disk) table) ≡ show_answer (shown_with (shown_as slots) (option_map (whole st.0) (shown_content slots)))
    shown_is =
        let at = opened_is c d disk st table found opened in
        let w : whole_slots st.0 slots ≡ slots_in (table_at (seen disk) table) row = ap (whole_slots st.0) is ∙ slots_are c d disk st table row in
        let here : whole_slots st.0 slots ≡ slots_at at.0 row = w ∙ ap (λ (o : Option TableDisk). slots_in o row) at.1 in
        ap (λ (o : Option TableDisk). show_in row o) at.1
        ∙ (ap (λ (x : TableSlots). show_answer (shown_in x.main x.conflict x.shadow)) (sym here)
        ∙ ap show_answer (sym (agrees st.0 slots.main slots.shadow slots.out slots.conflict)))

    pub show_row : (d' : ClientDevs) → d' ≡ d → (r : Result Shown CallFault)
        → IfOk r (λ what. (meaning : LocalName → List ℕ) → AreThereIf meaning d' (shown_content slots) → shown_with (shown_as slots) (option_map (whole meaning) (shown_content slots)) ≡ Some (shown_of what))
        → IfErr r (λ e. ((e ≡ call.NoRow) × (shown_as slots ≡ Nothing)) ⊎ IsFault e) → IsAnswered says answer r
    show_row d' same (Ok what) ok err =
        let there : AreThereIf st.0 d' (shown_content slots) = subst (λ (x : ClientDevs). AreThereIf st.0 x (shown_content slots)) (sym same) (there_shown st.0 d st.1.named table row slots is) in
        shown_is ∙ ap show_answer (ok st.0 there)
    show_row d' same (Err e) ok err = λ refusal was.
        ⊎_elim
        (λ none. shown_is ∙ (ap (λ (a : ShownAs). show_answer (shown_with a (option_map (whole st.0) (shown_content slots)))) none.1 ∙ ap (λ (r : Refusal). facts.Refuses r) (same_refusal e call.NoRow refusal facts.NoRow none.0 refl was)))
        (λ fault. no_refusal e refusal fault was) err
