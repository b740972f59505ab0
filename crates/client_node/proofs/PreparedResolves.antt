-- A resolution that is prepared, or why it isn't.
use Rattle.std.proofs.Common.{◌≡◌, ◌⊎◌, inl, inr, ⊎_elim, ℕ, ◌+◌, Bool, true, false, List, [], ◌∷◌, Option, Some, None, Result, Ok, Err, refl, sym, ◌∙◌, ap, subst, arith}
use Rattle.std.proofs.lemmas.Bool.Decides.{nat_tests}
use Rattle.std.specs.Prelude.{◌==◌, map, option_map, IfOk, IfErr}
use Rattle.disk_trait.specs.Calls.{DiskState}
use Rattle.row_value.specs.declared.content.Content.{Content}
use Rattle.row_value.specs.declared.fit.FitFault.{FitFault}
use Rattle.row_value.specs.declared.schema.Schema.{Schema}
use Rattle.row_value.specs.Fit.{fit_of}
use Rattle.value_codec.specs.SchemaSpelling.{HasSchemaSpelling}
use Rattle.conflicts.specs.declared.pair.Choice.{Choice}
use Rattle.conflicts.specs.declared.pair.Choice.TheVariants.{Mine, Theirs, New}
use Rattle.table_model.specs.declared.line.Fact.{Fact as Told}
use Rattle.held_value.specs.declared.slots.Main.{Main as HeldMain}
use Rattle.held_value.specs.declared.slots.Shadow.{Shadow as HeldShadow}
use Rattle.held_value.specs.declared.slots.Slots.{Slots as HeldSlots}
use Rattle.slot_store.specs.declared.held.TableRecord.{TableRecord}
use Rattle.client_tables.specs.declared.resolving.HeldChoice.TheVariants as choices
use Rattle.client_tables.specs.Transitions.{resolved}
use Rattle.client_journal.specs.declared.devs.Journal.{Journal}
use Rattle.client_journal.specs.Devs.{ClientDevs}
use Rattle.client_journal.specs.Plan.{plan_at_work}
use Rattle.client_journal.specs.Redone.{redone}
use Rattle.client_journal.specs.Standing.{devs, writes_of}
use Rattle.step_tables.specs.Facts.{Fact, Refusal, Number}
use Rattle.step_tables.specs.Facts as facts
use Rattle.step_tables.specs.Lines.{fact_of}
use Rattle.step_tables.specs.Travels.{send_of}
use Rattle.step_tables.specs.ClientMoves.{Slots, TableDisk, ClientDisk, ClientTask, ClientStep, Plan, Shape, table_at, slots_at, slots_in, seen as seen_disk, told, begun, over_plan, theirs_plan, over_fitting}
use Rattle.step_tables.specs.ClientMoves as moves
use Rattle.held_value.specs.declared.local_name.LocalName.{LocalName}
use Rattle.journal_laws.specs.Moves.{plan_meaning}
use Rattle.journal_laws.specs.Whole.{whole, whole_slots, whole_main, whole_shadow}
use Rattle.client_node.specs.declared.fault.CallFault.{CallFault}
use Rattle.client_node.specs.declared.fault.CallFault.TheVariants as call
use Rattle.client_node.specs.declared.preparing.OpenedRow.{OpenedRow}
use Rattle.client_node.specs.declared.preparing.Prepared.{Prepared}
use Rattle.client_node.specs.declared.waiting.Waiting.{Waiting}
use Rattle.client_node.specs.Answers.{record_at, held_at}
use Rattle.client_node.specs.Fault.{fit_fault_of}
use Rattle.client_node.specs.Node.{StandsFor}
use Rattle.client_node.specs.Preparing.{IsOpenedRow, IsCalled, MakesChange, IsSpent, Prepares, IsPrepared, wrote}
use Rattle.client_node.specs.Readied.{IsIdleAt}
use Rattle.client_node.specs.Resolving.{IsMineAgain, IsTheirsRead, IsNewOver, IsChosen, IsUnfitChoice, IsUnchosen, IsResolved, IsMoved, IsUnfit, IsUnresolved, resolved_told}
use Rattle.client_node.proofs.Links.{opened_is, unopened_is, slots_are}
use Rattle.client_node.proofs.NewContents.{holds_now}
use Rattle.client_node.proofs.Opened.{seen_rests}
use Rattle.client_node.proofs.Pulls.{same_refusal}
use Rattle.client_node.proofs.ResolvePlans.{main_there, row_there, main_content, number_is, mine_readied, new_readied, theirs_readied}
use Rattle.client_node.proofs.Resolves.{resolve_closed, resolve_busy, resolve_kept, resolve_none, resolve_moved, resolve_chosen}
use Rattle.client_node.proofs.SendPlans.{main_there as main_is_there}
use Rattle.client_node.proofs.WriteRefusals.{refuses, by_fault, by_spent, fit_refusal, fit_not_spent}

same_version : (a b : ℕ) → a ≡ b → (a == b) ≡ true
same_version a b is = grind (arith, nat_tests)

module _ {D : Type 0} (state : D → DiskState) (old : Journal D) (waiting : Waiting) (phase : ℕ → Bool) (linked : Bool) (c : ℕ) (table : ℕ) (row : List ℕ) (seen : ℕ) (choice : Choice) where
  abbrev here : ClientDevs
  here = devs state old

  abbrev move : moves.ClientMove
  move = moves.Resolve table row seen choice

  abbrev Is : Result Prepared CallFault → Type 0
  Is r = Prepares state old waiting phase linked c move r

  -- a table that isn't opened
  pub resolve_unopened : (e : CallFault) → e ≡ call.NoTable → record_at here table ≡ None → Is (Err e)
  resolve_unopened e same none = refuses state old waiting phase linked c move e
      (λ disk tasks shape k refusal is.
      resolve_closed phase linked c shape disk tasks table row seen choice (unopened_is c here disk k.stands table none) ∙ ap facts.Refuses (same_refusal e call.NoTable refusal facts.NoTable same refl is))
      (λ last is. let no : call.NoTable ≡ call.Spent last = sym same ∙ is in cc)

  module _ (found : TableRecord) (opened : record_at here table ≡ Some found) where
    module _ (disk : ClientDisk) (st : StandsFor c here disk) where
      abbrev is_at : (t : TableDisk) × (table_at (seen_disk disk) table ≡ Some t) × (found.schema ≡ t.schema)
      is_at = let at = opened_is c here disk st table found opened in (at.0, at.1, at.2.schema)

    -- while something is to be done
    pub resolve_waits : (e : CallFault) → (writes_of old ≡ [] → ⊥) → e ≡ call.Busy (plan_at_work here (writes_of old)) → Is (Err e)
    resolve_waits e busy same = refuses state old waiting phase linked c move e
        (λ disk tasks shape k refusal is.
        let at = is_at disk k.stands in
        resolve_busy phase linked c shape disk tasks table row seen choice at.0 at.1 (λ none. busy (k.tasks_are.some none))
        ∙ (ap (λ (n : ℕ). facts.Refuses (facts.Busy n)) k.work
        ∙ ap facts.Refuses (same_refusal e (call.Busy (plan_at_work here (writes_of old))) refusal (facts.Busy (plan_at_work here (writes_of old))) same refl is)))
        (λ last is. let no : call.Busy (plan_at_work here (writes_of old)) ≡ call.Spent last = sym same ∙ is in cc)

    module _ (none : writes_of old ≡ []) where
      -- outside a phase
      pub resolve_outside : (e : CallFault) → phase table ≡ false → e ≡ call.NotInResolution → Is (Err e)
      resolve_outside e closed same = refuses state old waiting phase linked c move e
          (λ disk tasks shape k refusal is.
          let at = is_at disk k.stands in
          resolve_kept phase linked c shape disk tasks table row seen choice at.0 at.1 (k.tasks_are.none none) closed ∙ ap facts.Refuses (same_refusal e call.NotInResolution refusal facts.NotInResolution same refl is))
          (λ last is. let no : call.NotInResolution ≡ call.Spent last = sym same ∙ is in cc)

      -- ---- in one

      module _ (opens : phase table ≡ true) (slots : HeldSlots) (is_here : slots ≡ held_at here table row) where
        -- the row's slots, whole
        whole_there : (disk : ClientDisk) (st : StandsFor c here disk) → whole_slots st.0 slots ≡ slots_at (is_at disk st).0 row
        whole_there disk st = ap (whole_slots st.0) is_here ∙ (slots_are c here disk st table row ∙ ap (λ (o : Option TableDisk). slots_in o row) (is_at disk st).1)

        main_in : (disk : ClientDisk) (st : StandsFor c here disk) (o : Option HeldMain) → slots.main ≡ o → (slots_at (is_at disk st).0 row).main ≡ option_map (whole_main st.0) o
        main_in disk st o is = ap (λ (s : Slots). s.main) (sym (whole_there disk st)) ∙ ap (option_map (whole_main st.0)) is

        row_in : (disk : ClientDisk) (st : StandsFor c here disk) (o : Option HeldShadow) → slots.conflict ≡ o → (slots_at (is_at disk st).0 row).conflict ≡ option_map (whole_shadow st.0) o
        row_in disk st o is = ap (λ (s : Slots). s.conflict) (sym (whole_there disk st)) ∙ ap (option_map (whole_shadow st.0)) is

        -- a row that isn't in conflict
        pub resolve_without : (e : CallFault) → (slots.main ≡ None) ⊎ (slots.conflict ≡ None) → e ≡ call.NoConflict → Is (Err e)
        resolve_without e without same = refuses state old waiting phase linked c move e
            (λ disk tasks shape k refusal is.
            let at = is_at disk k.stands in
            resolve_none phase linked c shape disk tasks table row seen choice at.0 at.1 (k.tasks_are.none none) opens
            (⊎_elim (λ no. inl (main_in disk k.stands None no)) (λ no. inr (row_in disk k.stands None no)) without)
            ∙ ap facts.Refuses (same_refusal e call.NoConflict refusal facts.NoConflict same refl is))
            (λ last is. let no : call.NoConflict ≡ call.Spent last = sym same ∙ is in cc)

        module _ (main : HeldMain) (main_is : slots.main ≡ Some main) (x : HeldShadow) (conflict_is : slots.conflict ≡ Some x) where
          -- one in conflict with another version
          pub resolve_other : (e : CallFault) → (x.version == seen) ≡ false → e ≡ call.Moved seen x.version → Is (Err e)
          resolve_other e other same = refuses state old waiting phase linked c move e
              (λ disk tasks shape k refusal is.
              let at = is_at disk k.stands in
              resolve_moved phase linked c shape disk tasks table row seen choice at.0 at.1 (k.tasks_are.none none) opens (whole_main k.stands.0 main) (main_in disk k.stands (Some main) main_is) (whole_shadow k.stands.0 x)
              (row_in disk k.stands (Some x) conflict_is) other
              ∙ ap facts.Refuses (same_refusal e (call.Moved seen x.version) refusal (facts.Moved seen x.version) same refl is))
              (λ last is. let no : call.Moved seen x.version ≡ call.Spent last = sym same ∙ is in cc)

  -- one whose content doesn't fit
  module _ (content : Content) (found : TableRecord) (opened : record_at here table ≡ Some found) (none : writes_of old ≡ []) (opens : phase table ≡ true) (slots : HeldSlots) (is_here : slots ≡ held_at here table row)
      (main : HeldMain) (main_is : slots.main ≡ Some main) (x : HeldShadow) (conflict_is : slots.conflict ≡ Some x) (same : x.version ≡ seen) where
    pub resolve_misfits : (e : CallFault) (fault : FitFault) → fit_of found.schema content ≡ Err fault → e ≡ fit_fault_of fault → Prepares state old waiting phase linked c (moves.Resolve table row seen (New content)) (Err e)
    resolve_misfits e fault fit told = refuses state old waiting phase linked c (moves.Resolve table row seen (New content)) e
        (λ disk tasks shape k refusal is.
        let at = is_at found opened disk k.stands in
        ap (λ (s : ClientStep). s.answer)
        (resolve_chosen phase linked c shape disk tasks table row seen (New content) at.0 at.1 (k.tasks_are.none none) opens (whole_main k.stands.0 main) (main_in found opened none opens slots is_here disk k.stands (Some main) main_is)
        (whole_shadow k.stands.0 x) (row_in found opened none opens slots is_here disk k.stands (Some x) conflict_is) (same_version x.version seen same)
        ∙ ap (λ (r : Result (Unit {0}) FitFault). over_fitting c shape disk table row (slots_at at.0 row) (whole_main k.stands.0 main) (whole_shadow k.stands.0 x) content r) (ap (λ (s : Schema). fit_of s content) (sym at.2) ∙ fit))
        ∙ ap facts.Refuses (same_refusal e (fit_fault_of fault) refusal (facts.Unfit fault) told (fit_refusal fault) is))
        (λ last is. fit_not_spent fault last (sym told ∙ is))

-- ---- one that is resolved

module _ {D : Type 0} (state : D → DiskState) (old : Journal D) (waiting : Waiting) (phase : ℕ → Bool) (linked : Bool) (c : ℕ) (at : OpenedRow) (is : IsOpenedRow (devs state old) at.table at.row at) (schema : HasSchemaSpelling at.opened.schema)
    (seen : ℕ) (none : writes_of old ≡ []) (opens : phase at.table ≡ true) (main : HeldMain) (main_is : at.slots.main ≡ Some main) (x : HeldShadow) (conflict_is : at.slots.conflict ≡ Some x) (same : x.version ≡ seen) (made : Prepared) where
  abbrev d : ClientDevs
  d = devs state old

  abbrev slots : HeldSlots
  slots = held_at d at.table at.row

  main_held : slots.main ≡ Some main
  main_held = ap (λ (s : HeldSlots). s.main) (sym is.slots) ∙ main_is

  row_held : slots.conflict ≡ Some x
  row_held = ap (λ (s : HeldSlots). s.conflict) (sym is.slots) ∙ conflict_is

  module _ (disk : ClientDisk) (i : IsIdleAt d c waiting disk) where
    abbrev there : Slots
    there = slots_in (table_at disk at.table) at.row

    opened_as : (t : TableDisk) × (table_at (seen_disk disk) at.table ≡ Some t) × (at.opened.schema ≡ t.schema)
    opened_as = let o = opened_is c d disk i.stands at.table at.opened is.opened in (o.0, o.1, o.2.schema)

    there_is : there ≡ slots_at opened_as.0 at.row
    there_is = ap (λ (o : Option TableDisk). slots_in o at.row) (ap (λ (e : ClientDisk). table_at e at.table) (sym (seen_rests c d disk i.stands i.rests)) ∙ opened_as.1)

    abbrev m : List (List ℕ) → LocalName → List ℕ
    m given = plan_meaning i.stands.0 (d.journal.greatest + 1) given

    main_at : (given : List (List ℕ)) → (slots_at opened_as.0 at.row).main ≡ Some (whole_main (m given) main)
    main_at given = ap (λ (s : Slots). s.main) (sym there_is) ∙ main_there c d waiting disk i at.table at.row at.opened is.opened main main_held x row_held is.size made.planned given

    row_at : (given : List (List ℕ)) → (slots_at opened_as.0 at.row).conflict ≡ Some (whole_shadow (m given) x)
    row_at given = ap (λ (s : Slots). s.conflict) (sym there_is) ∙ row_there c d waiting disk i at.table at.row at.opened is.opened main main_held x row_held is.size made.planned given

    abbrev told_of : ℕ → Content → List Fact
    told_of number content = map fact_of (resolved_told c at main x number content)

    -- by the client's own write
    mine_prepared : IsMineAgain d c at main x made → IsPrepared d phase linked c (moves.Resolve at.table at.row seen Mine) disk i.stands.0 made
    mine_prepared k =
        let content = whole (m []) main.content in
        let p : Plan = over_plan c disk at.table at.row there (whole_main (m []) main) (whole_shadow (m []) x) content in
        let makes : MakesChange slots (resolved slots made.number choices.Mine) [] at.table made.number at.row made.planned =
        subst (λ (s : HeldSlots). MakesChange s (resolved s made.number choices.Mine) [] at.table made.number at.row made.planned) is.slots k.makes in
        let given : made.number ≡ disk.last + 1 = number_is c d waiting disk i at.table at.row at.opened is.opened main main_held x row_held is.size made.planned made.number k.next k.few in
        let same_content : k.content ≡ content =
        k.whole_is i.stands.0 (main_is_there d c at.table at.row at.opened is.opened main main_held waiting disk i)
        ∙ sym (main_content c d waiting disk i at.table at.row at.opened is.opened main main_held x row_held is.size made.planned) in
        let tells : map fact_of made.planned.facts.items ≡ told p =
        ap (λ (l : List Told). map fact_of l) k.facts ∙ (ap (λ (n : ℕ). told_of n k.content) given ∙ ap (told_of (disk.last + 1)) same_content) in
        record {
          p = p;
          sends = [];
          readied = mine_readied c d waiting disk i at.table at.row at.opened is.opened main main_held x row_held is.size made.planned made.number k.next k.few makes tells (ap (map send_of) k.messages);
          step = λ shape.
              resolve_chosen phase linked c shape disk [] at.table at.row seen Mine opened_as.0 opened_as.1 refl opens (whole_main (m []) main) (main_at []) (whole_shadow (m []) x) (row_at []) (same_version x.version seen same)
              ∙ (ap (λ (s : Slots). begun shape disk (Number (disk.last + 1)) (over_plan c disk at.table at.row s (whole_main (m []) main) (whole_shadow (m []) x) content) []) (sym there_is)
              ∙ ap (λ (n : ℕ). begun shape disk (Number n) p []) (sym given));
        }

    -- by the Store's row
    theirs_prepared : IsTheirsRead d c at main x made → IsPrepared d phase linked c (moves.Resolve at.table at.row seen Theirs) disk i.stands.0 made
    theirs_prepared k =
        let p : Plan = theirs_plan c disk at.table at.row there (whole_main (m []) main) (whole_shadow (m []) x) in
        let makes : MakesChange slots (resolved slots 0 choices.Theirs) [] at.table (redone d).last at.row made.planned =
        subst (λ (s : HeldSlots). MakesChange s (resolved s 0 choices.Theirs) [] at.table (redone d).last at.row made.planned) is.slots k.makes in
        record {
          p = p;
          sends = [];
          readied = theirs_readied c d waiting disk i at.table at.row at.opened is.opened main main_held x row_held is.size made.planned makes (ap (λ (l : List Told). map fact_of l) k.facts) (ap (map send_of) k.messages);
          step = λ shape.
              resolve_chosen phase linked c shape disk [] at.table at.row seen Theirs opened_as.0 opened_as.1 refl opens (whole_main (m []) main) (main_at []) (whole_shadow (m []) x) (row_at []) (same_version x.version seen same)
              ∙ (ap (λ (s : Slots). begun shape disk (Number 0) (theirs_plan c disk at.table at.row s (whole_main (m []) main) (whole_shadow (m []) x)) []) (sym there_is)
              ∙ ap (λ (n : ℕ). begun shape disk (Number n) p []) (sym k.none));
        }

    -- by another content
    new_prepared : (content : Content) → IsNewOver d c at main x content made → IsPrepared d phase linked c (moves.Resolve at.table at.row seen (New content)) disk i.stands.0 made
    new_prepared content k =
        let g = k.new.brought in
        let p : Plan = over_plan c disk at.table at.row there (whole_main (m g) main) (whole_shadow (m g) x) content in
        let makes : MakesChange slots (resolved slots made.number (choices.New k.new.content)) g at.table made.number at.row made.planned =
        subst (λ (s : HeldSlots). MakesChange s (resolved s made.number (choices.New k.new.content)) g at.table made.number at.row made.planned) is.slots k.makes in
        let given : made.number ≡ disk.last + 1 = number_is c d waiting disk i at.table at.row at.opened is.opened main main_held x row_held is.size made.planned made.number k.next k.few in
        let tells : map fact_of made.planned.facts.items ≡ told p = ap (λ (l : List Told). map fact_of l) k.facts ∙ ap (λ (n : ℕ). told_of n content) given in
        record {
          p = p;
          sends = [];
          readied = new_readied c d waiting disk i at.table at.row at.opened is.opened main main_held x row_held is.size made.planned made.number k.next k.few schema content k.fits k.words k.new (holds_now c d waiting disk i at is content k.new k.holds) makes tells
              (ap (map send_of) k.messages);
          step = λ shape.
              resolve_chosen phase linked c shape disk [] at.table at.row seen (New content) opened_as.0 opened_as.1 refl opens (whole_main (m g) main) (main_at g) (whole_shadow (m g) x) (row_at g) (same_version x.version seen same)
              ∙ (ap (λ (r : Result (Unit {0}) FitFault). over_fitting c shape disk at.table at.row (slots_at opened_as.0 at.row) (whole_main (m g) main) (whole_shadow (m g) x) content r) (ap (λ (s : Schema). fit_of s content) (sym opened_as.2) ∙ k.fits)
              ∙ (ap (λ (s : Slots). begun shape disk (Number (disk.last + 1)) (over_plan c disk at.table at.row s (whole_main (m g) main) (whole_shadow (m g) x) content) []) (sym there_is)
              ∙ ap (λ (n : ℕ). begun shape disk (Number n) p []) (sym given)));
        }

  chosen : (choice : Choice) → IsChosen choice d c at main x made → (disk : ClientDisk) (i : IsIdleAt d c waiting disk) → IsPrepared d phase linked c (moves.Resolve at.table at.row seen choice) disk i.stands.0 made
  chosen Mine k disk i = mine_prepared disk i k
  chosen Theirs k disk i = theirs_prepared disk i k
  chosen (New content) k disk i = new_prepared disk i content k

  pub resolve_done : (choice : Choice) → IsChosen choice d c at main x made → Prepares state old waiting phase linked c (moves.Resolve at.table at.row seen choice) (Ok made)
  resolve_done choice k = record {
    refused = λ disk tasks shape called. tt;
    spent = λ last no. absurd cc;
    idle = none;
    prepared = λ disk i. chosen choice k disk i;
  }

-- ---- or it isn't

module _ {D : Type 0} (state : D → DiskState) (old : Journal D) (waiting : Waiting) (phase : ℕ → Bool) (linked : Bool) (c : ℕ) (at : OpenedRow) (is : IsOpenedRow (devs state old) at.table at.row at) (schema : HasSchemaSpelling at.opened.schema)
    (seen : ℕ) (none : writes_of old ≡ []) (opens : phase at.table ≡ true) where
  abbrev now : ClientDevs
  now = devs state old

  abbrev Comes : Choice → Result Prepared CallFault → Type 0
  Comes choice r = Prepares state old waiting phase linked c (moves.Resolve at.table at.row seen choice) r

  spent_is : (choice : Choice) (e : CallFault) → IsSpent now e → Comes choice (Err e)
  spent_is choice e why = ⊎_elim
      (λ spent. by_spent state old waiting phase linked c (moves.Resolve at.table at.row seen choice) e spent.0 spent.1)
      (λ fault. by_fault state old waiting phase linked c (moves.Resolve at.table at.row seen choice) e fault) why

  unfit_is : (choice : Choice) (e : CallFault) → IsUnfit now at seen choice e → IsUnfitChoice choice at.opened.schema e → Comes choice (Err e)
  unfit_is Mine e k unfit = absurd unfit
  unfit_is Theirs e k unfit = absurd unfit
  unfit_is (New content) e k why =
      resolve_misfits state old waiting phase linked c at.table at.row seen (New content) content at.opened is.opened none opens at.slots is.slots k.main k.main_is k.x k.conflict_is k.same e why.0 why.1 why.2

  unresolved : (choice : Choice) (e : CallFault) → IsUnresolved now at seen choice e → Comes choice (Err e)
  unresolved choice e why = ⊎_elim
      (λ without. resolve_without state old waiting phase linked c at.table at.row seen choice at.opened is.opened none opens at.slots is.slots e without.1 without.0)
      (λ rest. ⊎_elim
      (λ k. resolve_other state old waiting phase linked c at.table at.row seen choice at.opened is.opened none opens at.slots is.slots k.main k.main_is k.x k.conflict_is e k.other k.fault)
      (λ k. ⊎_elim (λ unfit. unfit_is choice e k unfit) (λ spent. spent_is choice e spent) k.why) rest) why

  pub resolve_prepares : (choice : Choice) (r : Result Prepared CallFault) → IfOk r (IsResolved now c at seen choice) → IfErr r (IsUnresolved now at seen choice) → Comes choice r
  resolve_prepares choice (Ok made) k err = resolve_done state old waiting phase linked c at is schema seen none opens k.main k.main_is k.x k.conflict_is k.same made choice k.chosen
  resolve_prepares choice (Err e) k err = unresolved choice e err

-- ---- what a choice comes to, of a row in conflict

module _ (d : ClientDevs) (c : ℕ) (at : OpenedRow) (seen : ℕ) (choice : Choice) (main : HeldMain) (main_is : at.slots.main ≡ Some main) (x : HeldShadow) (conflict_is : at.slots.conflict ≡ Some x) (same : x.version ≡ seen) where
  pub resolved_ok : (r : Result Prepared CallFault) → IfOk r (IsChosen choice d c at main x) → IfOk r (IsResolved d c at seen choice)
  resolved_ok (Ok made) k = record { main = main; main_is = main_is; x = x; conflict_is = conflict_is; same = same; chosen = k }
  resolved_ok (Err e) k = tt

  pub unchosen_err : (r : Result Prepared CallFault) → IfErr r (IsUnchosen d choice at) → IfErr r (IsUnresolved d at seen choice)
  unchosen_err (Ok made) k = tt
  unchosen_err (Err e) k = inr (inr (record { main = main; main_is = main_is; x = x; conflict_is = conflict_is; same = same; why = k }))
