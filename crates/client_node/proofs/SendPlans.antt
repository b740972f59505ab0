-- The plan of a row's sending is one of the step table.
use Rattle.std.proofs.Common.{◌≡◌, ◌⊎◌, ℕ, ◌+◌, ◌<◌, ◌≤◌, Bool, true, false, List, [], ◌∷◌, ◌++◌, length, map, Option, Some, None, refl, sym, ◌∙◌, ap, subst, arith}
use Rattle.std.specs.Prelude.{◌^◌, ◌&&◌, is_some, is_none, IfSome, IsSome, option_map, unwrap_or}
use Rattle.std.specs.List.{AllByRecursion}
use Rattle.field_codec.specs.Forms.{AreEach}
use Rattle.row_value.specs.declared.content.Content.{Content}
use Rattle.row_value.specs.declared.pieces.Piece.{Piece}
use Rattle.row_value.specs.declared.schema.Schema.{Schema}
use Rattle.row_value.specs.declared.schema.Scheme.{Scheme}
use Rattle.row_value.specs.declared.schema.Scheme.TheVariants.{Eventual}
use Rattle.value_codec.specs.Spelling.{HasPieceSpelling}
use Rattle.value_codec.specs.SchemaSpelling.{HasSchemaSpelling}
use Rattle.held_value.specs.declared.local_name.LocalName.{LocalName}
use Rattle.held_value.specs.declared.content.HeldContent.{HeldContent}
use Rattle.held_value.specs.declared.slots.Main.{Main as HeldMain}
use Rattle.held_value.specs.declared.slots.Out.{Out as HeldOut}
use Rattle.held_value.specs.declared.slots.Shadow.{Shadow as HeldShadow}
use Rattle.held_value.specs.declared.slots.Slots.{Slots as HeldSlots}
use Rattle.slot_store.specs.declared.held.TableRecord.{TableRecord}
use Rattle.client_tables.specs.declared.change.Change.{Change}
use Rattle.client_tables.specs.declared.plan.RowPlan.{RowPlan}
use Rattle.client_tables.specs.Change.{after, version_in as held_version}
use Rattle.client_tables.specs.Drops.{names_in as tree_names}
use Rattle.client_tables.specs.Kept.{Send as SendEvent, SlotEvent, slots_behind}
use Rattle.client_tables.specs.Plan.{IsPlan as IsRowPlanOf, AreKnown, names_with}
use Rattle.client_tables.specs.Shown.{shown_content, content_by}
use Rattle.client_tables.specs.Transitions.{can_send, sent, sent_main}
use Rattle.client_journal.specs.declared.plan.Plan.{Plan as Begun}
use Rattle.client_journal.specs.Devs.{ClientDevs}
use Rattle.client_journal.specs.Names.{Has, is_among, names_of, names_of_main, names_of_shadow, names_of_out, names_in}
use Rattle.client_journal.specs.NamedSlots.{AreDifferent}
use Rattle.client_journal.specs.Plan.{no_id}
use Rattle.client_journal.specs.Redone.{redone}
use Rattle.client_journal.specs.There.{repeats}
use Rattle.client_journal.proofs.Wholes.{has_left}
use Rattle.step_tables.specs.Slots.{InFlight}
use Rattle.step_tables.specs.Messages.{Send}
use Rattle.step_tables.specs.ClientMoves.{Slots, RowOut, TableDisk, ClientDisk, table_at, slots_in, slots_at, to_send, row_out, spelled, send_plan, request_for, out_of}
use Rattle.journal_laws.specs.Holds.{empty}
use Rattle.journal_laws.specs.Moves.{Spells, plan_meaning}
use Rattle.journal_laws.specs.Whole.{whole, whole_main, whole_shadow, whole_slots, pieces_by}
use Rattle.journal_laws.proofs.Transitions.{send_plans}
use Rattle.held_contents.specs.Holding.{names_shown}
use Rattle.held_contents.specs.Reading.{AreThere, AreThereIf, chunks_in}
use Rattle.held_contents.proofs.Pieces.{AreOnce, repeats_once}
use Rattle.plan_limits.specs.Fit.{IsFitRow, IsFitContent, AreFitPieces}
use Rattle.plan_limits.specs.Short.{IsRowPlan}
use Rattle.plan_limits.proofs.Commits.{row_short}
use Rattle.plan_limits.proofs.New.{names_are_shown, shown_once}
use Rattle.plan_limits.proofs.Rows.{AreFit, each_fit}
use Rattle.client_node.specs.declared.planning.Planned.{Planned}
use Rattle.client_node.specs.declared.waiting.Waiting.{Waiting}
use Rattle.client_node.specs.Answers.{record_at, held_at}
use Rattle.client_node.specs.Readied.{IsOfRow, IsReadied, IsIdleAt, IsIdle}
use Rattle.client_node.specs.Requesting.{request_with}
use Rattle.client_node.specs.Spelling.{SpellsContent, IsFewChunks}
use Rattle.client_node.specs.Syncing.{IsSendOf}
use Rattle.client_node.proofs.Looked.{some_size}
use Rattle.client_node.proofs.RowReady.{IsPlain, opened_now, whole_now, whole_here, last_is, fit_here, steady_here, schema_spelled, row_readied}
use Rattle.client_node.proofs.Shown.{there_shown}
use Rattle.client_node.proofs.SpelledRows.{main_same, main_chunks, main_spells, main_count}

-- ---- a content has few chunks

not_among : (names : List LocalName) (q : LocalName) → (Has names q → ⊥) → is_among names q ≡ false
not_among names q apart = pick (is_among names q) refl
  where
    pick : (b : Bool) → is_among names q ≡ b → is_among names q ≡ false
    pick true is = absurd (apart is)
    pick false is = is

once_different : (names : List LocalName) → AreOnce names → AreDifferent names
once_different [] once = tt
once_different (n ∷ names) once = (not_among names n once.0, once_different names once.1)

-- of a content in a slot
module _ (meaning : LocalName → List ℕ) (table : TableRecord) (schema : HasSchemaSpelling table.schema) (m : HeldMain) (s : Option HeldShadow) (o : Option HeldOut) (k : Option HeldShadow) where
  abbrev with_main : HeldSlots
  with_main = record { main = Some m; shadow = s; out = o; conflict = k }

  -- a plan that drops all of them
  abbrev dropping : Begun
  dropping = record {
    server = false;
    table = 1;
    last = 0;
    row = Some (record { row = no_id; slots = empty });
    position = None;
    new_record = None;
    brought = [];
    drops = names_of m.content;
    tells = [];
  }

  fit_empty : IsFitRow meaning (Some table) empty
  fit_empty = record { whole = record { right = refl }; spelled = (tt, (tt, (tt, tt))); pieces = tt }

  pub few_names : IsFitRow meaning (Some table) with_main → length (names_of m.content) < 2 ^ 32
  few_names fit =
      let content : IsFitContent meaning (Some table) m.content = (each_fit meaning (Some table) with_main fit).main.2 in
      let once : repeats [] (names_shown (chunks_in meaning m.content)) ≡ false = shown_once meaning (Some table) m.content content in
      let apart : repeats [] (names_of m.content) ≡ false = subst (λ (l : List LocalName). repeats [] l ≡ false) (names_are_shown meaning m.content) once in
      let made : IsRowPlan no_id with_main empty dropping = record {
        table = record { least = omega arith; most = omega arith };
        last = omega arith;
        id = refl;
        row = refl;
        position = tt;
        new_record = refl;
        brought = λ ordinal less. absurd (omega (arith, less));
        drops = λ name has. has_left (names_of m.content) (names_of_shadow s ++ (names_of_out o ++ names_of_shadow k)) name has;
        different = once_different (names_of m.content) (repeats_once [] (names_of m.content) apart).0;
        tells = record { few = omega arith; spelled = tt };
      } in
      let few = (row_short meaning meaning table no_id with_main empty dropping schema fit fit_empty made).few in
      omega (arith, few)

-- ---- the plan

plain_sent : (slots : HeldSlots) (pieces : List Piece) (o : Option HeldMain) → AllByRecursion IsPlain (sent_main slots pieces o).tells
plain_sent slots pieces None = tt
plain_sent slots pieces (Some main) = tt

some_is : {X : Type 0} (x y : X) → Some x ≡ Some y → x ≡ y
some_is x y is = cc

-- the request of Main, so spelled, is that of what is sent
main_request : (meaning : LocalName → List ℕ) (c table : ℕ) (row : List ℕ) (size : ℕ) (m : HeldMain) (s : Option HeldShadow) (o : Option HeldOut) (k : Option HeldShadow) (pieces : List Piece) → Spells meaning size s m.content pieces → (out : InFlight)
    → (let w = whole_slots meaning (record { main = Some m; shadow = s; out = o; conflict = k }) in to_send w w.out w.main w.conflict ≡ Some out)
    → request_with c table row m.number (held_version s) (whole meaning m.content) (pieces_by m.content pieces) ≡ request_for c table row (spelled size (option_map (whole_shadow meaning) s) out)
main_request meaning c table row size m s (Some waits) k pieces spells out is = absurd cc
main_request meaning c table row size m s None (Some x) pieces spells out is = absurd cc
main_request meaning c table row size m None None None pieces spells out is =
    ap (request_with c table row m.number 0 (whole meaning m.content)) spells ∙ ap (λ (x : InFlight). request_for c table row (spelled size None x)) (some_is (out_of (whole_main meaning m) 0) out is)
main_request meaning c table row size m (Some shadow) None None pieces spells out is =
    ap (request_with c table row m.number shadow.version (whole meaning m.content)) spells ∙ ap (λ (x : InFlight). request_for c table row (spelled size (Some (whole_shadow meaning shadow)) x)) (some_is (out_of (whole_main meaning m) shadow.version) out is)

module _ (d : ClientDevs) (c table : ℕ) (row : List ℕ) (found : TableRecord) (opened : record_at d table ≡ Some found) (main : HeldMain) (main_is : (held_at d table row).main ≡ Some main) where
  abbrev now : HeldSlots
  now = held_at d table row

  -- ---- what is asked of Main

  pub main_there : (w : Waiting) (disk : ClientDisk) (idle : IsIdleAt d c w disk) → AreThere idle.stands.0 d main.content
  main_there w disk idle = subst (λ (o : Option HeldContent). AreThereIf idle.stands.0 d o) (ap (λ (o : Option HeldMain). content_by o now.shadow) main_is) (there_shown idle.stands.0 d idle.stands.1.named table row now refl)

  schema_here : (w : Waiting) (disk : ClientDisk) → IsIdleAt d c w disk → HasSchemaSpelling found.schema
  schema_here w disk idle = schema_spelled c d disk idle.stands idle.rests table row found opened w idle.steady

  sized : (w : Waiting) (disk : ClientDisk) → IsIdleAt d c w disk → 0 < found.schema.chunk
  sized w disk idle = some_size found.schema.chunk (schema_here w disk idle).size

  main_few : (w : Waiting) (disk : ClientDisk) → IsIdleAt d c w disk → length (names_of main.content) < 2 ^ 32
  main_few w disk idle =
      few_names idle.stands.0 found (schema_here w disk idle) main now.shadow now.out now.conflict
      (subst (λ (o : Option HeldMain). IsFitRow idle.stands.0 (Some found) (record { main = o; shadow = now.shadow; out = now.out; conflict = now.conflict })) main_is (fit_here c d disk idle.stands idle.rests table row found opened))

  pub few_chunks : IsIdle d c → IsFewChunks d found.schema.chunk main.content
  few_chunks i =
      let count = main_chunks c d i.disk i.at.stands i.at.rests table row found opened (sized i.waiting i.disk i.at) main main_is in
      record {
        meaning = i.at.stands.0;
        there = main_there i.waiting i.disk i.at;
        few = subst (λ (n : ℕ). n < 2 ^ 32) (sym count) (main_few i.waiting i.disk i.at);
      }

  pub some_chunk : IsIdle d c → 0 < found.schema.chunk
  some_chunk i = sized i.waiting i.disk i.at

  module _ (last : ℕ) (number_is : last ≡ (redone d).last) (content : Content) (content_is : (meaning : LocalName → List ℕ) → AreThere meaning d main.content → content ≡ whole meaning main.content) (pieces : List Piece) (spells : SpellsContent d found.schema.chunk now.shadow content pieces)
      (made : RowPlan) (is : IsRowPlanOf now (sent now pieces) [] made) (len : length row ≡ 16)
      (known : (scheme : Scheme) (slots : HeldSlots) (event : SlotEvent) (count : ℕ) → AreKnown slots count (names_with event) → AreKnown slots count (tree_names (slots_behind scheme slots event))) (request : Send)
      (request_is : request ≡ request_with c table row main.number (held_version now.shadow) content (pieces_by main.content pieces)) (planned : Planned) (o : IsOfRow c table row last None made (request ∷ []) planned) where
    module _ (w : Waiting) (disk : ClientDisk) (idle : IsIdleAt d c w disk) where
      abbrev means : LocalName → List ℕ
      means = plan_meaning idle.stands.0 (d.journal.greatest + 1) []

      abbrev size : ℕ
      size = found.schema.chunk

      whole_is : whole_slots means now ≡ slots_in (table_at disk table) row
      whole_is = whole_now c d disk idle.stands idle.rests table row []

      content_here : content ≡ whole idle.stands.0 main.content
      content_here = content_is idle.stands.0 (main_there w disk idle)

      spells_main : Spells means found.schema.chunk now.shadow main.content pieces
      spells_main = main_spells c d disk idle.stands idle.rests table row found opened (sized w disk idle) main main_is content content_here pieces spells

      count : length pieces ≡ length (names_of main.content)
      count = main_count c d disk idle.stands idle.rests table row found opened (sized w disk idle) main main_is content content_here pieces spells

      event_fits : IfSome now.main (λ main. AreFitPieces main.content pieces)
      event_fits = subst (λ (o : Option HeldMain). IfSome o (λ main. AreFitPieces main.content pieces)) (sym main_is) (record { count = count; spelled = spells.spelled })

      event_holds : IfSome now.main (λ main. length pieces ≡ length (names_of main.content))
      event_holds = subst (λ (o : Option HeldMain). IfSome o (λ main. length pieces ≡ length (names_of main.content))) (sym main_is) count

      event_spells : IfSome now.main (λ main. Spells means found.schema.chunk now.shadow main.content pieces)
      event_spells = subst (λ (o : Option HeldMain). IfSome o (λ main. Spells means found.schema.chunk now.shadow main.content pieces)) (sym main_is) spells_main

      -- where this is to be sent
      abbrev IsReadiedSo : ℕ → Slots → List ℕ → InFlight → Send → Type 0
      IsReadiedSo n s r out q = IsReadied d c idle.stands.0 disk planned (send_plan disk table (row_out n (record { row = r; slots = s; out = out }))) (q ∷ [])

      readied_here : (out : InFlight) → to_send (whole_slots means now) (whole_slots means now).out (whole_slots means now).main (whole_slots means now).conflict ≡ Some out → IsReadiedSo size (whole_slots means now) row out request
      readied_here out sends =
          let last_now : last ≡ disk.last = number_is ∙ last_is c d disk idle.stands idle.rests in
          let made_of : IsOfRow c table row disk.last None made (request ∷ []) planned = subst (λ (n : ℕ). IsOfRow c table row n None made (request ∷ []) planned) last_now o in
          row_readied c d disk idle.stands idle.rests table row found opened w idle.steady Eventual (SendEvent pieces) [] event_fits event_holds (known Eventual now (SendEvent pieces) 0 (λ name has. absurd cc)) made is None tt (request ∷ []) planned made_of len
          (λ ordinal less. absurd (omega (arith, less))) tt (send_plan disk table (row_out size (record { row = row; slots = whole_slots means now; out = out }))) refl refl refl (plain_sent now pieces now.main)
          (send_plans c means disk table row size now.main now.shadow now.out now.conflict pieces out sends event_spells)

      request_now : (out : InFlight) → to_send (whole_slots means now) (whole_slots means now).out (whole_slots means now).main (whole_slots means now).conflict ≡ Some out → request ≡ request_for c table row (spelled size (whole_slots means now).shadow out)
      request_now out sends =
          let here : content ≡ whole means main.content = content_here ∙ main_same c d disk idle.stands idle.rests table row found opened (sized w disk idle) main main_is in
          let split : (let x = whole_slots means (record { main = Some main; shadow = now.shadow; out = now.out; conflict = now.conflict }) in to_send x x.out x.main x.conflict ≡ Some out) =
          subst (λ (m : Option HeldMain). let x = whole_slots means (record { main = m; shadow = now.shadow; out = now.out; conflict = now.conflict }) in to_send x x.out x.main x.conflict ≡ Some out) main_is sends in
          request_is ∙ (ap (λ (x : Content). request_with c table row main.number (held_version now.shadow) x (pieces_by main.content pieces)) here
          ∙ main_request means c table row size main now.shadow now.out now.conflict pieces spells_main out split)

      -- the table on the disk has chunks of the same size
      size_is : (t : TableDisk) → table_at disk table ≡ Some t → found.schema.chunk ≡ t.schema.chunk
      size_is t at =
          let there = opened_now c d disk idle.stands idle.rests table found opened in
          ap (λ (x : Schema). x.chunk) there.2.schema ∙ ap (λ (x : TableDisk). x.schema.chunk) (some_is there.0 t (sym there.1 ∙ at))

      send_here : (t : TableDisk) → table_at disk table ≡ Some t → (x : RowOut) → x.row ≡ row → x.slots ≡ slots_at t row → to_send x.slots x.slots.out x.slots.main x.slots.conflict ≡ Some x.out
          → IsReadied d c idle.stands.0 disk planned (send_plan disk table (row_out t.schema.chunk x)) (request_for c table row (row_out t.schema.chunk x).out ∷ [])
      send_here t at x row_is slots_is sends =
          let wholes : whole_slots means now ≡ x.slots = whole_is ∙ (ap (λ (o : Option TableDisk). slots_in o row) at ∙ sym slots_is) in
          let here : to_send (whole_slots means now) (whole_slots means now).out (whole_slots means now).main (whole_slots means now).conflict ≡ Some x.out =
          subst (λ (s : Slots). to_send s s.out s.main s.conflict ≡ Some x.out) (sym wholes) sends in
          subst (λ (n : ℕ). IsReadiedSo n x.slots x.row x.out (request_for c table row (spelled n x.slots.shadow x.out))) (size_is t at)
          (subst (λ (r : List ℕ). IsReadiedSo size x.slots r x.out (request_for c table row (spelled size x.slots.shadow x.out))) (sym row_is)
          (subst (λ (s : Slots). IsReadiedSo size s row x.out (request_for c table row (spelled size s.shadow x.out))) wholes
          (subst (λ (q : Send). IsReadiedSo size (whole_slots means now) row x.out q) (request_now x.out here) (readied_here x.out here))))

    pub is_send : IsSendOf d c table row (Some planned)
    is_send = record { some = λ none. cc; plan = λ w disk idle t at x row_is slots_is sends. send_here w disk idle t at x row_is slots_is sends }

-- ---- of what is found

module _ (d : ClientDevs) (c table : ℕ) (row : List ℕ) (found : TableRecord) (opened : record_at d table ≡ Some found) (slots : HeldSlots) (here : slots ≡ held_at d table row) (main : HeldMain) (main_is : slots.main ≡ Some main) where
  main_now : (held_at d table row).main ≡ Some main
  main_now = ap (λ (s : HeldSlots). s.main) (sym here) ∙ main_is

  pub few_there : IsIdle d c → IsFewChunks d found.schema.chunk main.content
  few_there idle = few_chunks d c table row found opened main main_now idle

  pub some_sized : IsIdle d c → 0 < found.schema.chunk
  some_sized idle = some_chunk d c table row found opened main main_now idle

  changes_some : (pieces : List Piece) → IsSome (sent slots pieces).slots
  changes_some pieces = subst (λ (o : Option HeldMain). IsSome (sent_main slots pieces o).slots) (sym main_is) refl

  pub sending_is : (last : ℕ) → last ≡ (redone d).last → (content : Content) → ((meaning : LocalName → List ℕ) → AreThere meaning d main.content → content ≡ whole meaning main.content) → (pieces : List Piece) → SpellsContent d found.schema.chunk slots.shadow content pieces
      → (made : RowPlan) → IsRowPlanOf slots (sent slots pieces) [] made → length row ≡ 16
      → ((scheme : Scheme) (slots : HeldSlots) (event : SlotEvent) (count : ℕ) → AreKnown slots count (names_with event) → AreKnown slots count (tree_names (slots_behind scheme slots event))) → (request : Send)
      → request ≡ request_with c table row main.number (held_version slots.shadow) content (pieces_by main.content pieces) → (sends : List Send) → sends ≡ request ∷ [] → (o : Option Planned) → (o ≡ None → made.change.slots ≡ None)
      → IfSome o (IsOfRow c table row last None made sends) → IsSendOf d c table row o
  sending_is last number_is content content_is pieces spells made is len known request request_is sends sends_are None none some =
      let no : (sent slots pieces).slots ≡ None = ap (λ (x : Change). x.slots) (sym is.change) ∙ none refl in
      let wrong : IsSome {T = HeldSlots} None = subst (λ (o : Option HeldSlots). IsSome o) no (changes_some pieces) in
      absurd cc
  sending_is last number_is content content_is pieces spells made is len known request request_is sends sends_are (Some planned) none some =
      is_send d c table row found opened main main_now last number_is content content_is pieces (subst (λ (s : HeldSlots). SpellsContent d found.schema.chunk s.shadow content pieces) here spells) made (subst (λ (s : HeldSlots). IsRowPlanOf s (sent s pieces) [] made) here is) len known request
      (request_is ∙ ap (λ (s : HeldSlots). request_with c table row main.number (held_version s.shadow) content (pieces_by main.content pieces)) here) planned (subst (λ (l : List Send). IsOfRow c table row last None made l planned) sends_are some)

-- a row without a write has nothing to send
pub cannot_send : (slots : HeldSlots) {P : Type 0} → slots.main ≡ None → can_send slots ≡ true → P
cannot_send slots none can = absurd (let wrong : false ≡ true = sym (ap (λ (o : Option HeldMain). is_some o && is_none slots.out && is_none slots.conflict) none) ∙ can in cc)
