-- The plan of a prepared resolution is one of the step table, and one that the devices take on.
use Rattle.std.proofs.Common.{◌≡◌, ℕ, ◌+◌, ◌<◌, ◌≤◌, List, [], ◌∷◌, ◌++◌, length, Option, Some, None, Ok, refl, sym, ◌∙◌, ap, subst, arith}
use Rattle.std.specs.Prelude.{◌^◌, map, option_map}
use Rattle.std.specs.List.{AllByRecursion}
use Rattle.stab_base.specs.declared.limits.TheConstants.{NUMBER_MAX}
use Rattle.row_value.specs.declared.content.Content.{Content}
use Rattle.row_value.specs.declared.schema.Scheme.TheVariants.{Eventual}
use Rattle.row_value.specs.Fit.{fit_of}
use Rattle.value_codec.specs.SchemaSpelling.{HasSchemaSpelling}
use Rattle.held_value.specs.declared.local_name.LocalName.{LocalName}
use Rattle.held_value.specs.declared.content.HeldContent.{HeldContent}
use Rattle.held_value.specs.declared.slots.Main.{Main as HeldMain}
use Rattle.held_value.specs.declared.slots.Shadow.{Shadow as HeldShadow}
use Rattle.held_value.specs.declared.slots.Slots.{Slots as HeldSlots}
use Rattle.slot_store.specs.declared.held.TableRecord.{TableRecord}
use Rattle.client_tables.specs.declared.change.Change.{Change}
use Rattle.client_tables.specs.declared.resolving.HeldChoice.{HeldChoice}
use Rattle.client_tables.specs.declared.resolving.HeldChoice.TheVariants as choices
use Rattle.client_tables.specs.Kept.{SlotEvent}
use Rattle.client_tables.specs.Kept as kept
use Rattle.client_tables.specs.Plan.{AreKnown, names_of_choice}
use Rattle.client_tables.specs.Shown.{shown_content}
use Rattle.client_tables.specs.Transitions.{resolved, resolved_row, resolved_main, by_choice}
use Rattle.client_journal.specs.Devs.{ClientDevs}
use Rattle.client_journal.specs.Names.{Has, names_of, names_in, names_of_shadow, names_of_out}
use Rattle.client_journal.specs.Plan.{chunk_most}
use Rattle.client_journal.specs.Redone.{redone}
use Rattle.step_tables.specs.Lines.{fact_of}
use Rattle.step_tables.specs.Travels.{send_of}
use Rattle.step_tables.specs.ClientMoves.{Slots, Plan, ClientDisk, table_at, slots_in, told, over_plan, theirs_plan}
use Rattle.journal_laws.specs.Moves.{PlansChange, HoldsChoice, plan_meaning}
use Rattle.journal_laws.specs.Whole.{whole, whole_slots, whole_main, whole_shadow}
use Rattle.journal_laws.proofs.Alike.{has_front}
use Rattle.journal_laws.proofs.Transitions.{mine_plans, new_plans, theirs_plans}
use Rattle.held_contents.specs.declared.holding.HeldNew.{HeldNew}
use Rattle.held_contents.specs.Reading.{chunks_shown}
use Rattle.plan_limits.specs.Fit.{HaveWords, IsFitChoice}
use Rattle.client_node.specs.declared.planning.Planned.{Planned}
use Rattle.client_node.specs.declared.waiting.Waiting.{Waiting}
use Rattle.client_node.specs.Answers.{record_at, held_at}
use Rattle.client_node.specs.Preparing.{HoldsNew, MakesChange}
use Rattle.client_node.specs.Readied.{IsIdleAt, IsReadied}
use Rattle.client_node.proofs.NewContents.{fit_new, lens_new, whole_new, known_new, small_new}
use Rattle.client_node.proofs.RowReady.{last_is, whole_now, whole_here, event_readied}
use Rattle.client_node.proofs.WritePlans.{made_for}

some_is : {X : Type 0} (a b : X) → Some a ≡ Some b → a ≡ b
some_is a b e = cc

module _ (c : ℕ) (d : ClientDevs) (w : Waiting) (disk : ClientDisk) (idle : IsIdleAt d c w disk) (table : ℕ) (row : List ℕ) (found : TableRecord) (opened : record_at d table ≡ Some found)
    (main : HeldMain) (main_is : (held_at d table row).main ≡ Some main) (x : HeldShadow) (conflict_is : (held_at d table row).conflict ≡ Some x) (size : length row ≡ 16) (planned : Planned) where
  abbrev slots : HeldSlots
  slots = held_at d table row

  abbrev there : Slots
  there = slots_in (table_at disk table) row

  abbrev meaning : List (List ℕ) → LocalName → List ℕ
  meaning given = plan_meaning idle.stands.0 (d.journal.greatest + 1) given

  -- what a resolution makes of the slots
  resolved_is : (number : ℕ) (choice : HeldChoice) → resolved slots number choice ≡ by_choice slots x main number choice
  resolved_is number choice =
      ap (λ (o : Option HeldShadow). resolved_row slots number choice o) conflict_is ∙ ap (λ (o : Option HeldMain). resolved_main slots x number choice o) main_is

  slots_whole : (given : List (List ℕ)) → whole_slots (meaning given) slots ≡ there
  slots_whole given = whole_now c d disk idle.stands idle.rests table row given

  -- the write and the Store's row, whole
  pub main_there : (given : List (List ℕ)) → there.main ≡ Some (whole_main (meaning given) main)
  main_there given = ap (λ (s : Slots). s.main) (sym (slots_whole given)) ∙ ap (option_map (whole_main (meaning given))) main_is

  pub row_there : (given : List (List ℕ)) → there.conflict ≡ Some (whole_shadow (meaning given) x)
  row_there given = ap (λ (s : Slots). s.conflict) (sym (slots_whole given)) ∙ ap (option_map (whole_shadow (meaning given))) conflict_is

  -- what the names of a content mean before the plan, and under it
  pub main_content : whole (meaning []) main.content ≡ whole idle.stands.0 main.content
  main_content =
      let here : there.main ≡ Some (whole_main idle.stands.0 main) =
      ap (λ (s : Slots). s.main) (sym (whole_here c d disk idle.stands idle.rests table row)) ∙ ap (option_map (whole_main idle.stands.0)) main_is in
      ap (λ m. m.content) (some_is (whole_main (meaning []) main) (whole_main idle.stands.0 main) (sym (main_there []) ∙ here))

  module _ (number last : ℕ) (word : number < 2 ^ 64) (least : disk.last ≤ last) (most : last ≤ NUMBER_MAX) (choice : HeldChoice) (given : List (List ℕ)) (behind : HeldSlots)
      (made : MakesChange slots (resolved slots number choice) given table last row planned) (behind_is : (by_choice slots x main number choice).slots ≡ Some behind)
      (fits : IsFitChoice (meaning given) (Some found) choice) (holds : HoldsChoice (meaning given) choice) (known : AreKnown slots (length given) (names_of_choice choice))
      (named : (ordinal : ℕ) → ordinal < length given → Has (names_in behind) (record { plan = 0; ordinal = ordinal })) (small : AllByRecursion (λ bytes. length bytes ≤ chunk_most) given) where
    choice_readied : (p : Plan) → p.table ≡ table → p.last ≡ last → p.position ≡ None → PlansChange (meaning given) c row slots (resolved slots number choice) p
        → map fact_of planned.facts.items ≡ told p → map send_of planned.messages.items ≡ [] → IsReadied d c idle.stands.0 disk planned p []
    choice_readied p p_table p_last p_position plans tells sends =
        event_readied c d disk idle.stands idle.rests table row found opened w idle.steady Eventual (kept.Resolve number choice) given (word, fits) holds (made.known Eventual slots (kept.Resolve number choice) (length given) known)
        made.made made.row_plan None tt last least most planned
        (made_for slots behind (resolved slots number choice) given table last row planned made (ap (λ (y : Change). y.slots) (resolved_is number choice) ∙ behind_is))
        size named small p p_table p_last p_position plans tells [] sends

  -- ---- a new write

  module _ (number : ℕ) (next : number ≡ (redone d).last + 1) (few : number ≤ NUMBER_MAX) where
    pub number_is : number ≡ disk.last + 1
    number_is = next ∙ ap (λ (k : ℕ). k + 1) (last_is c d disk idle.stands idle.rests)

    word : number < 2 ^ 64
    word = omega (arith, few)

    least : disk.last ≤ number
    least = let is = number_is in omega (arith, is)

    abbrev over : List (List ℕ) → Content → Plan
    over given content = over_plan c disk table row there (whole_main (meaning given) main) (whole_shadow (meaning given) x) content

    abbrev behind_with : HeldContent → HeldSlots
    behind_with content = record { main = Some (record { number = number; read = x.version; content = content }); shadow = Some x; out = slots.out; conflict = None }

    -- by the client's own write
    pub mine_readied : MakesChange slots (resolved slots number choices.Mine) [] table number row planned → map fact_of planned.facts.items ≡ told (over [] (whole (meaning []) main.content)) → map send_of planned.messages.items ≡ []
        → IsReadied d c idle.stands.0 disk planned (over [] (whole (meaning []) main.content)) []
    mine_readied made tells sends =
        let p = over [] (whole (meaning []) main.content) in
        let plans : PlansChange (meaning []) c row slots (resolved slots number choices.Mine) p =
        subst (λ (k : ℕ). PlansChange (meaning []) c row slots (resolved slots k choices.Mine) p) (sym number_is)
        (subst (λ (s : Slots). PlansChange (meaning []) c row slots (resolved slots (disk.last + 1) choices.Mine) (over_plan c disk table row s (whole_main (meaning []) main) (whole_shadow (meaning []) x) (whole (meaning []) main.content))) (slots_whole [])
        (mine_plans c (meaning []) disk table row slots main x main_is conflict_is)) in
        choice_readied number number word least few choices.Mine [] (behind_with main.content) made refl tt tt (λ name has. absurd cc) (λ ordinal less. absurd (omega (arith, less))) tt p refl (sym number_is) refl plans tells sends

    -- by another content
    module _ (schema : HasSchemaSpelling found.schema) (content : Content) (fits : fit_of found.schema content ≡ Ok tt) (words : HaveWords content) (new : HeldNew)
        (holds : HoldsNew found.schema.chunk (chunks_shown idle.stands.0 (shown_content (held_at d table row))) content new) where
      pub new_readied : MakesChange slots (resolved slots number (choices.New new.content)) new.brought table number row planned → map fact_of planned.facts.items ≡ told (over new.brought content) → map send_of planned.messages.items ≡ []
          → IsReadied d c idle.stands.0 disk planned (over new.brought content) []
      new_readied made tells sends =
          let g = new.brought in
          let p = over g content in
          let plans : PlansChange (meaning g) c row slots (resolved slots number (choices.New new.content)) p =
          subst (λ (k : ℕ). PlansChange (meaning g) c row slots (resolved slots k (choices.New new.content)) p) (sym number_is)
          (subst (λ (y : Content). PlansChange (meaning g) c row slots (resolved slots (disk.last + 1) (choices.New new.content)) (over g y)) (whole_new c d w disk idle table row found opened schema content fits words new holds)
          (subst (λ (s : Slots). PlansChange (meaning g) c row slots (resolved slots (disk.last + 1) (choices.New new.content)) (over_plan c disk table row s (whole_main (meaning g) main) (whole_shadow (meaning g) x) (whole (meaning g) new.content))) (slots_whole g)
          (new_plans c (meaning g) disk table row slots main x main_is conflict_is new.content))) in
          choice_readied number number word least few (choices.New new.content) g (behind_with new.content) made refl
          (fit_new c d w disk idle table row found opened schema content fits words new holds) (lens_new c d w disk idle table row found opened schema content fits words new holds)
          (known_new c d w disk idle table row found opened schema content fits words new holds)
          (λ ordinal less. has_front (names_of new.content) (names_of_shadow (Some x) ++ (names_of_out slots.out ++ [])) (record { plan = 0; ordinal = ordinal }) (holds.all_brought ordinal less))
          (small_new c d w disk idle table row found opened schema content fits words new holds) p refl (sym number_is) refl plans tells sends

  -- ---- by the Store's row

  pub theirs_readied : MakesChange slots (resolved slots 0 choices.Theirs) [] table (redone d).last row planned
      → map fact_of planned.facts.items ≡ told (theirs_plan c disk table row there (whole_main (meaning []) main) (whole_shadow (meaning []) x)) → map send_of planned.messages.items ≡ []
      → IsReadied d c idle.stands.0 disk planned (theirs_plan c disk table row there (whole_main (meaning []) main) (whole_shadow (meaning []) x)) []
  theirs_readied made tells sends =
      let p = theirs_plan c disk table row there (whole_main (meaning []) main) (whole_shadow (meaning []) x) in
      let makes : MakesChange slots (resolved slots 0 choices.Theirs) [] table disk.last row planned =
      subst (λ (k : ℕ). MakesChange slots (resolved slots 0 choices.Theirs) [] table k row planned) (last_is c d disk idle.stands idle.rests) made in
      let plans : PlansChange (meaning []) c row slots (resolved slots 0 choices.Theirs) p =
      subst (λ (y : Change). PlansChange (meaning []) c row slots y p) (resolved_is (disk.last + 1) choices.Theirs ∙ sym (resolved_is 0 choices.Theirs))
      (subst (λ (s : Slots). PlansChange (meaning []) c row slots (resolved slots (disk.last + 1) choices.Theirs) (theirs_plan c disk table row s (whole_main (meaning []) main) (whole_shadow (meaning []) x))) (slots_whole [])
      (theirs_plans c (meaning []) disk table row slots main x main_is conflict_is)) in
      choice_readied 0 disk.last (omega arith) (omega arith) idle.steady.few choices.Theirs [] (record { main = None; shadow = Some x; out = slots.out; conflict = None }) makes refl tt tt
      (λ name has. absurd cc) (λ ordinal less. absurd (omega (arith, less))) tt p refl refl refl plans tells sends
