-- The pair of a row in conflict, what is chosen of it, and what a resolution by that choice comes to.
use Rattle.std.proofs.Common.{◌≡◌, ◌⊎◌, inl, inr, ⊎_elim, ℕ, Bool, true, List, [], Option, Some, None, Result, Ok, Err, sym, ◌∙◌, ap, subst}
use Rattle.std.specs.Prelude.{option_map, IfSome, IfOk, IfErr, IsErrOf}
use Rattle.std.specs.declared.alloc.AllocError.{AllocError}
use Rattle.disk_trait.specs.Calls.{DiskState}
use Rattle.row_value.specs.declared.content.Content.{Content}
use Rattle.row_value.specs.declared.schema.Schema.{Schema}
use Rattle.value_codec.specs.SchemaSpelling.{HasSchemaSpelling}
use Rattle.conflicts.specs.declared.pair.Choice.{Choice}
use Rattle.conflicts.specs.declared.pair.Choice.TheVariants.{Mine}
use Rattle.conflicts.specs.declared.pair.Pair.{Pair}
use Rattle.conflicts.specs.declared.stored.Stored.{Stored}
use Rattle.conflicts.specs.Fit.{PairFits}
use Rattle.conflicts.specs.Stored.{chosen}
use Rattle.held_value.specs.declared.local_name.LocalName.{LocalName}
use Rattle.held_value.specs.declared.slots.Main.{Main}
use Rattle.held_value.specs.declared.slots.Shadow.{Shadow}
use Rattle.held_value.specs.declared.slots.Slots.{Slots}
use Rattle.client_journal.specs.declared.devs.Journal.{Journal}
use Rattle.client_journal.specs.Devs.{ClientDevs}
use Rattle.client_journal.specs.Standing.{devs, writes_of}
use Rattle.step_tables.specs.Slots.{Main as TableMain}
use Rattle.step_tables.specs.Slots.{Shadow as TableShadow}
use Rattle.step_tables.specs.ClientMoves.{Slots as TableSlots, ClientDisk, Resolve, slots_of, seen as seen_disk}
use Rattle.journal_laws.specs.Whole.{whole, whole_main, whole_shadow, whole_slots}
use Rattle.held_contents.specs.Reading.{AreThere}
use Rattle.client_node.specs.declared.fault.CallFault.{CallFault}
use Rattle.client_node.specs.declared.preparing.OpenedRow.{OpenedRow}
use Rattle.client_node.specs.declared.preparing.Prepared.{Prepared}
use Rattle.client_node.specs.declared.waiting.Waiting.{Waiting}
use Rattle.client_node.specs.Answers.{record_at}
use Rattle.client_node.specs.Node.{StandsFor}
use Rattle.client_node.specs.Preparing.{IsOpenedRow, Prepares}
use Rattle.client_node.specs.Resolving.{IsUnchosen, IsResolved, IsUnresolved, IsPairRead, IsUnread, OnPair, ArePairOf, IsChosenBy, IsByAnswer, ChoosesSo, MayBeAsked, pair_in}
use Rattle.client_node.specs.Telling.{AreNamesThere}
use Rattle.client_node.proofs.Again.{names_there, main_there, conflict_there}
use Rattle.client_node.proofs.Links.{slots_are}
use Rattle.client_node.proofs.Looked.{still_opened, opened_spelled, prepares_looked}
use Rattle.client_node.proofs.PreparedResolves.{resolve_without, resolve_other, resolve_prepares}
use Rattle.client_node.proofs.WriteRefusals.{by_fault}

some_same : {T : Type 0} (a b : T) → Some a ≡ Some b → a ≡ b
some_same a b is = cc

-- ---- the pair

module _ (d : ClientDevs) (at : OpenedRow) (seen : ℕ) (main : Main) (main_is : at.slots.main ≡ Some main) (x : Shadow) (conflict_is : at.slots.conflict ≡ Some x) (same : x.version ≡ seen) where
  abbrev pair_with : Content → Content → Pair
  pair_with mine theirs = record { row = at.row; number = main.number; version = x.version; mine = mine; theirs = theirs }

  pub pair_read : (mine theirs : Content) (mid : ClientDevs) → mid ≡ d → ((meaning : LocalName → List ℕ) → AreThere meaning d main.content → mine ≡ whole meaning main.content)
      → ((meaning : LocalName → List ℕ) → AreThere meaning mid x.content → theirs ≡ whole meaning x.content) → IsPairRead d at seen (pair_with mine theirs)
  pair_read mine theirs mid still of_mine of_theirs = record {
    main = main;
    main_is = main_is;
    x = x;
    conflict_is = conflict_is;
    same = same;
    pair_is = λ meaning there.
        ap (λ (content : Content). pair_with content theirs) (of_mine meaning (main_there meaning d at.slots there main main_is))
        ∙ ap (pair_with (whole meaning main.content))
        (of_theirs meaning (subst (λ (e : ClientDevs). AreThere meaning e x.content) (sym still) (conflict_there meaning d at.slots there x conflict_is)));
  }

-- the sides of a row are those of its slots, whole
module _ (meaning : LocalName → List ℕ) (slots : Slots) where
  main_whole : (held : Main) (main : TableMain) → slots.main ≡ Some held → (whole_slots meaning slots).main ≡ Some main → main ≡ whole_main meaning held
  main_whole held main is there = some_same main (whole_main meaning held) (sym there ∙ ap (option_map (whole_main meaning)) is)

  row_whole : (held : Shadow) (x : TableShadow) → slots.conflict ≡ Some held → (whole_slots meaning slots).conflict ≡ Some x → x ≡ whole_shadow meaning held
  row_whole held x is there = some_same x (whole_shadow meaning held) (sym there ∙ ap (option_map (whole_shadow meaning)) is)

module _ (d : ClientDevs) (at : OpenedRow) (seen : ℕ) (pair : Pair) (k : IsPairRead d at seen pair) where
  pair_there : (meaning : LocalName → List ℕ) → AreNamesThere meaning d at.slots → (main : TableMain) (x : TableShadow) → (whole_slots meaning at.slots).main ≡ Some main → (whole_slots meaning at.slots).conflict ≡ Some x → pair ≡ pair_in at.row main x
  pair_there meaning there main x main_is conflict_is =
      k.pair_is meaning there
      ∙ (ap (λ (m : TableMain). pair_in at.row m (whole_shadow meaning k.x)) (sym (main_whole meaning at.slots k.main main k.main_is main_is))
      ∙ ap (pair_in at.row main) (sym (row_whole meaning at.slots k.x x k.conflict_is conflict_is)))

  -- what is chosen of the pair that was read
  pub chooses_read : (P : Pair → Choice → Type 0) (choice : Choice) → P pair choice → ChoosesSo d at P choice
  chooses_read P choice h meaning there main x main_is conflict_is = subst (λ (p : Pair). P p choice) (pair_there meaning there main x main_is conflict_is) h

  -- a resolver may be asked about it
  pub asks_read : (schema : Schema) → MayBeAsked d at schema → PairFits schema pair
  asks_read schema may =
      subst (PairFits schema) (sym (k.pair_is may.0 may.1))
      (may.2 (whole_main may.0 k.main) (whole_shadow may.0 k.x) (ap (option_map (whole_main may.0)) k.main_is) (ap (option_map (whole_shadow may.0)) k.conflict_is))

-- ---- choices of a row

-- how a stored way chooses; of a row that isn't in conflict anything will do
abbrev pub choice_in : Stored → List ℕ → Option TableMain → Option TableShadow → Choice
choice_in by row (Some main) (Some x) = chosen by (pair_in row main x)
choice_in by row (Some main) None = Mine
choice_in by row None conflict = Mine

pub is_choice_in : (by : Stored) (row : List ℕ) (slots : TableSlots) → IsChosenBy by row slots (choice_in by row slots.main slots.conflict)
is_choice_in by row slots main x main_is conflict_is = ap (λ (m : Option TableMain). choice_in by row m slots.conflict) main_is ∙ ap (choice_in by row (Some main)) conflict_is

module _ (answers : Pair → Result Choice AllocError → Type 0) (row : List ℕ) (slots : TableSlots) {T S : Type 0} (r : Result T CallFault) (q : Result S CallFault) (P Q : Choice → Type 0) where
  pub any_choice : IsByAnswer answers row slots r P → (choice : Choice) × P choice
  any_choice h = ⊎_elim (λ made. (made.0, made.2)) (λ none. (Mine, none.1 Mine)) h

  stays_err : (a : Result T CallFault) (b : Result S CallFault) → IfErr a (λ e. IsErrOf b e) → IfOk a (λ value. ⊥) → IfOk b (λ value. ⊥)
  stays_err (Ok x) b is empty = absurd empty
  stays_err (Err e) (Ok y) is free = absurd cc
  stays_err (Err e) (Err f) is free = tt

  -- what is said of a call that hands the first one's refusal on
  pub by_answer_then : IfErr r (λ e. IsErrOf q e) → ((choice : Choice) → P choice → Q choice) → IsByAnswer answers row slots r P → IsByAnswer answers row slots q Q
  by_answer_then is on h = ⊎_elim (λ made. inl (made.0, made.1, on made.0 made.2)) (λ none. inr (stays_err r q is none.0, λ choice. on choice (none.1 choice))) h

-- ---- as the step table has it

module _ (c : ℕ) (d : ClientDevs) (disk : ClientDisk) (st : StandsFor c d disk) (table : ℕ) (row : List ℕ) (at : OpenedRow) (is : IsOpenedRow d table row at) where
  abbrev slots : TableSlots
  slots = slots_of (seen_disk disk) table row

  slots_whole : whole_slots st.0 at.slots ≡ slots
  slots_whole = ap (whole_slots st.0) is.slots ∙ slots_are c d disk st table row

  names_here : AreNamesThere st.0 d at.slots
  names_here = subst (AreNamesThere st.0 d) (sym is.slots) (names_there st.0 d table row st.1.named)

  pub chooses_there : (P : Pair → Choice → Type 0) (choice : Choice) → ChoosesSo d at P choice → OnPair row slots (λ pair. P pair choice)
  chooses_there P choice h main x main_is conflict_is = subst (λ (r : List ℕ). P (pair_in r main x) choice) is.row_is
      (h st.0 names_here main x (ap (λ (s : TableSlots). s.main) slots_whole ∙ main_is) (ap (λ (s : TableSlots). s.conflict) slots_whole ∙ conflict_is))

  pub may_be_asked : (schema : Schema) → ArePairOf schema row slots → MayBeAsked d at schema
  may_be_asked schema fits = (
    st.0,
    names_here,
    λ main x main_is conflict_is.
        subst (λ (r : List ℕ). PairFits schema (pair_in r main x)) (sym is.row_is)
        (fits main x (ap (λ (s : TableSlots). s.main) (sym slots_whole) ∙ main_is) (ap (λ (s : TableSlots). s.conflict) (sym slots_whole) ∙ conflict_is)),
  )

  -- the row's sides in the step table, where it is in conflict on the devices
  pub on_pair : (P : Pair → Type 0) → OnPair row slots P → (main : Main) (x : Shadow) → at.slots.main ≡ Some main → at.slots.conflict ≡ Some x → P (pair_in row (whole_main st.0 main) (whole_shadow st.0 x))
  on_pair P h main x main_is conflict_is =
      h (whole_main st.0 main) (whole_shadow st.0 x) (ap (λ (s : TableSlots). s.main) (sym slots_whole) ∙ ap (option_map (whole_main st.0)) main_is)
      (ap (λ (s : TableSlots). s.conflict) (sym slots_whole) ∙ ap (option_map (whole_shadow st.0)) conflict_is)

  -- two choices that are the same of the row's pair
  pub same_choice : (of : Pair → Choice) (made choice : Choice) → OnPair row slots (λ pair. made ≡ of pair) → OnPair row slots (λ pair. choice ≡ of pair)
      → (main : Main) (x : Shadow) → at.slots.main ≡ Some main → at.slots.conflict ≡ Some x → made ≡ choice
  same_choice of made choice a b main x main_is conflict_is =
      on_pair (λ pair. made ≡ of pair) a main x main_is conflict_is ∙ sym (on_pair (λ pair. choice ≡ of pair) b main x main_is conflict_is)

-- ---- a resolution by a choice, where only a row in conflict looks at it

module _ (d : ClientDevs) (c : ℕ) (at : OpenedRow) (seen : ℕ) (made choice : Choice) (same : (main : Main) (x : Shadow) → at.slots.main ≡ Some main → at.slots.conflict ≡ Some x → made ≡ choice) where
  pub resolved_so : (r : Result Prepared CallFault) → IfOk r (IsResolved d c at seen made) → IfOk r (IsResolved d c at seen choice)
  resolved_so (Ok x) k = subst (λ (y : Choice). IsResolved d c at seen y x) (same k.main k.x k.main_is k.conflict_is) k
  resolved_so (Err e) k = tt

  pub unresolved_so : (r : Result Prepared CallFault) → IfErr r (IsUnresolved d at seen made) → IfErr r (IsUnresolved d at seen choice)
  unresolved_so (Ok x) k = tt
  unresolved_so (Err e) why =
      ⊎_elim (λ none. inl none) (λ more. inr (⊎_elim (λ moved. inl moved) (λ k. inr (record { main = k.main; main_is = k.main_is; x = k.x; conflict_is = k.conflict_is; same = k.same; why = subst (λ (y : Choice). IsUnchosen d y at e) (same k.main k.x k.main_is k.conflict_is) k.why })) more)) why

-- ---- of devices that were only read

module _ {D : Type 0} (state : D → DiskState) (old : Journal D) (table : ℕ) (row : List ℕ) (at : OpenedRow) (is : IsOpenedRow (devs state old) table row at) (idle : writes_of old ≡ []) (waiting : Waiting) (phase : ℕ → Bool) (opens : phase table ≡ true) (linked : Bool) (c seen : ℕ)
    (choice : Choice) where
  abbrev Comes : Result Prepared CallFault → Type 0
  Comes r = Prepares state old waiting phase linked c (Resolve table row seen choice) r

  -- the pair wasn't read
  pub unread : (e : CallFault) → IsUnread at seen e → Comes (Err e)
  unread e why = ⊎_elim
      (λ none. resolve_without state old waiting phase linked c table row seen choice at.opened is.opened idle opens at.slots is.slots e none.1 none.0)
      (λ more. ⊎_elim
      (λ k. resolve_other state old waiting phase linked c table row seen choice at.opened is.opened idle opens at.slots is.slots k.main k.main_is k.x k.conflict_is e k.other k.fault)
      (λ fault. by_fault state old waiting phase linked c (Resolve table row seen choice) e fault) more) why

  -- the row is resolved, or it isn't
  pub resolves : (mid : Journal D) → devs state mid ≡ devs state old → writes_of mid ≡ writes_of old → IfSome (record_at (devs state old) table) (λ opened. HasSchemaSpelling opened.schema)
      → (r : Result Prepared CallFault) → IfOk r (IsResolved (devs state mid) c at seen choice) → IfErr r (IsUnresolved (devs state mid) at seen choice) → Comes r
  resolves mid same agenda spelled r done not =
      let made = resolve_prepares state mid waiting phase linked c at (still_opened (devs state old) (devs state mid) table row at same is) (opened_spelled (devs state old) table row at is spelled) seen (agenda ∙ idle)
      (ap phase is.table_is ∙ opens) choice r done not in
      prepares_looked state old mid same agenda waiting phase linked c (Resolve table row seen choice) r
      (subst (λ (q : ℕ). Prepares state mid waiting phase linked c (Resolve q row seen choice) r) is.table_is
      (subst (λ (q : List ℕ). Prepares state mid waiting phase linked c (Resolve at.table q seen choice) r) is.row_is made))
