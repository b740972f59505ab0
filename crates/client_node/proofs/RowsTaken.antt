-- What the devices take on of a newer row from the Store, whatever it came with: the plan that the step table makes of it.
use Rattle.std.proofs.Common.{◌≡◌, inl, inr, ⊎_elim, ℕ, ◌+◌, ◌<◌, Bool, true, false, List, [], ◌∷◌, ◌++◌, length, map, Option, Some, None, Ok, refl, sym, ◌∙◌, ap, subst, arith}
use Rattle.std.specs.Prelude.{◌^◌, ◌&&◌, nat_le, IfSome, IsSome, unwrap_or}
use Rattle.std.specs.List.{AllByRecursion}
use Rattle.stab_base.specs.declared.chunk_name.ChunkName.{ChunkName}
use Rattle.row_value.specs.declared.content.Content.{Content}
use Rattle.row_value.specs.declared.schema.Schema.{Schema}
use Rattle.row_value.specs.declared.schema.Scheme.{Scheme}
use Rattle.row_value.specs.Fit.{fit_of}
use Rattle.table_model.specs.declared.message.Yours.{Yours as RowYours}
use Rattle.value_codec.specs.Spelling.{HasNameSpelling}
use Rattle.held_codec.specs.Spelling.{HasHeldPiece}
use Rattle.held_value.specs.declared.local_name.LocalName.{LocalName}
use Rattle.held_value.specs.declared.content.HeldPiece.{HeldPiece}
use Rattle.held_value.specs.declared.content.HeldContent.{HeldContent}
use Rattle.held_value.specs.declared.content.HeldContent.TheVariants as held_as
use Rattle.held_value.specs.declared.slots.Main.{Main as HeldMain}
use Rattle.held_value.specs.declared.slots.Out.{Out as HeldOut}
use Rattle.held_value.specs.declared.slots.Shadow.{Shadow as HeldShadow}
use Rattle.held_value.specs.declared.slots.Slots.{Slots as HeldSlots}
use Rattle.held_value.specs.declared.tell.Tell.{Tell}
use Rattle.held_value.specs.declared.tell.Tell.TheVariants as tell
use Rattle.slot_store.specs.declared.held.TableRecord.{TableRecord}
use Rattle.field_codec.specs.Forms.{IsOption}
use Rattle.plan_log.specs.Spelling.{IsPosition}
use Rattle.client_tables.specs.declared.change.Change.{Change}
use Rattle.client_tables.specs.declared.plan.RowPlan.{RowPlan}
use Rattle.client_tables.specs.Change.{after, seen_in}
use Rattle.client_tables.specs.Drops.{names_in as tree_names, names_of as tree_names_of}
use Rattle.client_tables.specs.Kept.{Row as RowEvent, SlotEvent, slots_behind}
use Rattle.client_tables.specs.Plan.{IsPlan as IsRowPlanOf, AreKnown, names_with}
use Rattle.client_tables.specs.Shown.{shown_content, content_by}
use Rattle.client_tables.specs.Transitions.{taken}
use Rattle.client_journal.specs.Devs.{ClientDevs}
use Rattle.client_journal.specs.Names.{Has, names_of, names_of_pieces, names_in, names_of_main, names_of_shadow, names_of_out}
use Rattle.client_journal.specs.Redone.{redone}
use Rattle.client_journal.specs.There.{repeats}
use Rattle.client_journal.specs.NamedSlots.{NamedSlots}
use Rattle.client_journal.proofs.Wholes.{has_left, has_right, has_either}
use Rattle.step_tables.specs.declared.message.RowHeader.{RowHeader}
use Rattle.step_tables.specs.Chunks.{is_named, is_of_each, objects_of, are_apart, flat}
use Rattle.step_tables.specs.Facts as facts
use Rattle.step_tables.specs.Messages.{Header, Send}
use Rattle.step_tables.specs.ClientMoves.{TableDisk, Plan, ClientDisk, Slots, table_at, slots_at, slots_in, seen, top, row_placed}
use Rattle.step_tables.specs.Travels.{header_of as table_header}
use Rattle.journal_laws.specs.Holds.{IsRecordOf, Say}
use Rattle.journal_laws.specs.Moves.{AreShownChunks, header_of, plan_meaning}
use Rattle.journal_laws.specs.Whole.{whole_slots}
use Rattle.journal_laws.proofs.Takes.{row_plans}
use Rattle.journal_laws.proofs.Transitions.{seen_whole}
use Rattle.held_contents.specs.declared.holding.HeldNew.{HeldNew}
use Rattle.held_contents.specs.Holding.{AreShown, pieces_shown, names_shown, brought_name}
use Rattle.held_contents.specs.Reading.{AreThereIf, chunks_shown, content_read}
use Rattle.held_contents.proofs.Pieces.{joined}
use Rattle.kept_chunks.proofs.HeldRows.{pieces_joined}
use Rattle.kept_chunks.proofs.SoFar.{both_all}
use Rattle.plan_limits.specs.Fit.{IsFitRow, IsFitContent, AreOlder, HaveWords, IsWord}
use Rattle.plan_limits.proofs.Commits.{chunks_short}
use Rattle.plan_limits.proofs.New.{are_shown, names_are_shown, shown_spelled, shown_once}
use Rattle.plan_limits.proofs.Rows.{FitShadow, each_fit}
use Rattle.client_node.specs.declared.planning.Planned.{Planned}
use Rattle.client_node.specs.declared.waiting.Waiting.{Waiting}
use Rattle.client_node.specs.Answering.{yours_in}
use Rattle.client_node.specs.Answers.{record_at, held_at}
use Rattle.client_node.specs.Placing.{IsRowThere, HoldsRow, read_behind, chunks_behind}
use Rattle.client_node.specs.Readied.{IsOfRow, IsReadied, IsIdleAt, IsIdle}
use Rattle.client_node.specs.Taking.{FitsTable}
use Rattle.value_codec.specs.SchemaSpelling.{HasSchemaSpelling, IsChunkSize}
use Rattle.std.proofs.lemmas.List.{append_cancel_right, map-append}
use Rattle.step_tables.specs.Facts.{ClientFact}
use Rattle.step_tables.specs.ClientMoves.{RowPut, Placed, known as known_names_of}
use Rattle.journal_laws.specs.Holds.{fact_in}
use Rattle.journal_laws.specs.Moves.{Plans}
use Rattle.journal_laws.specs.Whole.{names_known}
use Rattle.client_node.specs.Placing.{placed_plan, plan_at, PlansRow}
use Rattle.client_node.specs.Tells.{with_position}
use Rattle.client_node.proofs.NewerRows.{PutsRow, puts_row}
use Rattle.client_node.proofs.RowPlans.{names_same}
use Rattle.client_node.proofs.RowReady.{seen_is, last_is, opened_now, whole_now, whole_here, older_now, fit_here, schema_spelled, row_readied}
use Rattle.client_node.proofs.NamedChunks.{conflict_there}
use Rattle.client_node.proofs.Shown.{there_shown}
use Rattle.client_node.proofs.SpelledRows.{read_there}

pub some_is : {X : Type 0} (x y : X) → Some x ≡ Some y → x ≡ y
some_is x y is = cc

pub both_true : (a b : Bool) → a && b ≡ true → (a ≡ true) × (b ≡ true)
both_true true b h = (refl, h)
both_true false b h = absurd cc

-- ---- names by both lists

content_names : (c : HeldContent) → tree_names_of c ≡ names_of c
content_names held_as.Gone = refl
content_names (held_as.Row some objects) = refl

-- ---- what is shown of fit slots

module _ (meaning : LocalName → List ℕ) (number : ℕ) (table : Option TableRecord) (m : Option HeldMain) (s : Option HeldShadow) (o : Option HeldOut) (k : Option HeldShadow) where
  abbrev parts : HeldSlots
  parts = record { main = m; shadow = s; out = o; conflict = k }

  pub record IsShownFit (shown : Option HeldContent) : Type 0 where
    pub are : AreShown meaning number (chunks_shown meaning shown)
    pub spelled : AllByRecursion HasHeldPiece (pieces_shown (chunks_shown meaning shown))
    pub once : repeats [] (names_shown (chunks_shown meaning shown)) ≡ false
    pub known : (name : LocalName) → Has (names_shown (chunks_shown meaning shown)) name → Has (names_in parts) name

  content_shown : (c : HeldContent) → IsFitContent meaning table c → AreOlder number (names_in parts) → ((name : LocalName) → Has (names_of c) name → Has (names_in parts) name) → IsShownFit (Some c)
  content_shown c fit older has = record {
    are = are_shown meaning number c (λ name h. older name (has name h));
    spelled = shown_spelled meaning table c fit;
    once = shown_once meaning table c fit;
    known = λ name h. has name (subst (λ (l : List LocalName). Has l name) (names_are_shown meaning c) h);
  }

  pub shown_fit : IsFitRow meaning table parts → AreOlder number (names_in parts) → IsShownFit (content_by m s)
  shown_fit fit older = pick m s refl refl
    where
      pick : (a : Option HeldMain) (b : Option HeldShadow) → m ≡ a → s ≡ b → IsShownFit (content_by a b)
      pick (Some main) b is at =
          let fits = subst (λ (x : Option HeldMain). IsFitRow meaning table (record { main = x; shadow = s; out = o; conflict = k })) is fit in
          content_shown main.content (each_fit meaning table (record { main = Some main; shadow = s; out = o; conflict = k }) fits).main.2 older
          (λ name has. subst (λ (x : Option HeldMain). Has (names_in (record { main = x; shadow = s; out = o; conflict = k })) name) (sym is) (has_left (names_of main.content) (names_of_shadow s ++ (names_of_out o ++ names_of_shadow k)) name has))
      pick None (Some row) is at =
          let fits = subst (λ (x : Option HeldShadow). IsFitRow meaning table (record { main = m; shadow = x; out = o; conflict = k })) at fit in
          content_shown row.content (each_fit meaning table (record { main = m; shadow = Some row; out = o; conflict = k }) fits).shadow.1 older
          (λ name has. subst (λ (x : Option HeldShadow). Has (names_in (record { main = m; shadow = x; out = o; conflict = k })) name) (sym at)
          (has_right (names_of_main m) (names_of row.content ++ (names_of_out o ++ names_of_shadow k)) name (has_left (names_of row.content) (names_of_out o ++ names_of_shadow k) name has)))
      pick None None is at = record { are = tt; spelled = tt; once = refl; known = λ name has. absurd cc }

-- ---- what slots hold is there

row_there : (meaning : LocalName → List ℕ) (d : ClientDevs) → NamedSlots meaning d → (table : ℕ) (row : List ℕ) (slots : HeldSlots) → slots ≡ held_at d table row → IsRowThere meaning d slots
row_there meaning d named table row slots here = record { shown = there_shown meaning d named table row slots here; read = behind slots.main; conflict = conflict_there meaning d named table row slots here }
  where
    behind : (m : Option HeldMain) → AreThereIf meaning d (read_behind m slots.shadow)
    behind None = tt
    behind (Some m) = read_there meaning d named table row slots here

-- ---- what fit slots hold

module _ (meaning : LocalName → List ℕ) (number : ℕ) (table : Option TableRecord) (slots : HeldSlots) where
  -- the chunks that are shown, and behind them the others
  abbrev all_held : List (List (HeldPiece × List ℕ))
  all_held = chunks_shown meaning (shown_content slots) ++ chunks_behind meaning slots

  pub record IsHeldFit : Type 0 where
    pub are : AreShown meaning number all_held
    pub spelled : AllByRecursion HasHeldPiece (pieces_shown all_held)
    pub once : repeats [] (names_shown (chunks_shown meaning (shown_content slots))) ≡ false
    pub known : (name : LocalName) → Has (names_shown all_held) name → Has (names_in slots) name

  abbrev Shows : Option HeldContent → Type 0
  Shows o = IsShownFit meaning number table slots.main slots.shadow slots.out slots.conflict o

  -- the chunks of two lists are each so
  record AreBoth (a b : List (List (HeldPiece × List ℕ))) : Type 0 where
    are : AreShown meaning number (a ++ b)
    spelled : AllByRecursion HasHeldPiece (pieces_shown (a ++ b))
    known : (name : LocalName) → Has (names_shown (a ++ b)) name → Has (names_in slots) name

  are_both : (a b : List (List (HeldPiece × List ℕ))) → AreShown meaning number a → AreShown meaning number b → AllByRecursion HasHeldPiece (pieces_shown a) → AllByRecursion HasHeldPiece (pieces_shown b)
      → ((name : LocalName) → Has (names_shown a) name → Has (names_in slots) name) → ((name : LocalName) → Has (names_shown b) name → Has (names_in slots) name) → AreBoth a b
  are_both a b h k s t p q = record {
    are = both_all (AreShownChunks meaning number) a b h k;
    spelled = subst (λ (l : List HeldPiece). AllByRecursion HasHeldPiece l) (sym (pieces_joined a b)) (both_all HasHeldPiece (pieces_shown a) (pieces_shown b) s t);
    known = λ name has. ⊎_elim (λ x. p name x) (λ x. q name x)
        (has_either (names_shown a) (names_shown b) name (subst (λ (l : List LocalName). Has l name) (ap names_of_pieces (pieces_joined a b) ∙ joined (pieces_shown a) (pieces_shown b)) has));
  }

  module _ (fit : IsFitRow meaning table slots) (older : AreOlder number (names_in slots)) where
    -- a row of the Store that the slots hold
    row_shown : (o : Option HeldShadow) → IfSome o (λ row. IsFitContent meaning table row.content) → ((name : LocalName) → Has (names_of_shadow o) name → Has (names_in slots) name) → Shows (content_read o)
    row_shown None fits has = record { are = tt; spelled = tt; once = refl; known = λ name no. absurd cc }
    row_shown (Some row) fits has = content_shown meaning number table slots.main slots.shadow slots.out slots.conflict row.content fits older has

    fits_shadow : (o : Option HeldShadow) → IfSome o (FitShadow meaning table) → IfSome o (λ row. IsFitContent meaning table row.content)
    fits_shadow None h = tt
    fits_shadow (Some row) h = h.1

    shadow_shown : Shows (content_read slots.shadow)
    shadow_shown = row_shown slots.shadow (fits_shadow slots.shadow (each_fit meaning table slots fit).shadow)
        (λ name has. has_right (names_of_main slots.main) (names_of_shadow slots.shadow ++ (names_of_out slots.out ++ names_of_shadow slots.conflict)) name
        (has_left (names_of_shadow slots.shadow) (names_of_out slots.out ++ names_of_shadow slots.conflict) name has))

    conflict_shown : Shows (content_read slots.conflict)
    conflict_shown = row_shown slots.conflict (fits_shadow slots.conflict (each_fit meaning table slots fit).conflict)
        (λ name has. has_right (names_of_main slots.main) (names_of_shadow slots.shadow ++ (names_of_out slots.out ++ names_of_shadow slots.conflict)) name
        (has_right (names_of_shadow slots.shadow) (names_of_out slots.out ++ names_of_shadow slots.conflict) name (has_right (names_of_out slots.out) (names_of_shadow slots.conflict) name has)))

    behind_shown : (m : Option HeldMain) → Shows (read_behind m slots.shadow)
    behind_shown None = record { are = tt; spelled = tt; once = refl; known = λ name no. absurd cc }
    behind_shown (Some m) = shadow_shown

    pub held_fit : IsHeldFit
    held_fit =
        let shown : Shows (shown_content slots) = shown_fit meaning number table slots.main slots.shadow slots.out slots.conflict fit older in
        let read = behind_shown slots.main in
        let rest = are_both (chunks_shown meaning (read_behind slots.main slots.shadow)) (chunks_shown meaning (content_read slots.conflict)) read.are conflict_shown.are read.spelled conflict_shown.spelled read.known conflict_shown.known in
        let all = are_both (chunks_shown meaning (shown_content slots)) (chunks_behind meaning slots) shown.are rest.are shown.spelled rest.spelled shown.known rest.known in
        record { are = all.are; spelled = all.spelled; once = shown.once; known = all.known }

some_size : (n : ℕ) → IsChunkSize n → 0 < n
some_size n (inl is) = omega (arith, is)
some_size n (inr (inl is)) = omega (arith, is)
some_size n (inr (inr is)) = omega (arith, is)

-- a table's chunks have a size
pub chunk_some : (d : ClientDevs) (c : ℕ) → IsIdle d c → (table : ℕ) (found : TableRecord) → record_at d table ≡ Some found → 0 < found.schema.chunk
chunk_some d c idle table found opened = some_size found.schema.chunk (schema_spelled c d idle.disk idle.at.stands idle.at.rests table [] found opened idle.waiting idle.at.steady).size

-- a named content has a name for each chunk
pub of_each : (size : ℕ) (content : Content) (names : List (List ChunkName)) → is_named size content names ≡ true → is_of_each size names (objects_of content) ≡ true
of_each size content names is = (both_true (is_of_each size names (objects_of content)) (are_apart (flat names)) is).0

-- ---- without a new position

-- what is told without the new position
front_said : (c table : ℕ) (put : RowPut) (tells : List Tell) (some : List ClientFact) (position : ℕ) → Say c table (Some put) (tells ++ tell.Position position ∷ []) (some ++ facts.Position c table position ∷ []) → Say c table (Some put) tells some
front_said c table put tells some position says =
    append_cancel_right (map (fact_in c table (Some put)) tells) (map (λ (fact : ClientFact). Some fact) some) (Some (facts.Position c table position) ∷ [])
    (sym (map-append (fact_in c table (Some put)) tells (tell.Position position ∷ [])) ∙ (says ∙ map-append (λ (fact : ClientFact). Some fact) some (facts.Position c table position ∷ [])))

module _ (c : ℕ) (means : LocalName → List ℕ) (disk : ClientDisk) (table : ℕ) (row : List ℕ) (scheme : Scheme) (yours : RowYours) (x : HeldShadow) (names : List (List ChunkName)) (named : names_known x.content ≡ known_names_of names) (slots : HeldSlots)
    (newer : nat_le x.version (seen_in slots.conflict slots.shadow) ≡ false) where
  abbrev put_by : Placed
  put_by = row_placed scheme c table (header_of means row yours x names) (whole_slots means slots) (whole_slots means slots).out

  abbrev change : Change
  change = taken scheme slots yours x

  -- the plan of the row is one of the step table, with a new position or none
  pub record IsPlaced (position : Option ℕ) : Type 0 where
    pub table_is : (placed_plan c disk table row position put_by).table ≡ table
    pub last_is : (placed_plan c disk table row position put_by).last ≡ disk.last
    pub position_is : (placed_plan c disk table row position put_by).position ≡ position
    pub plans : Plans means c row (after slots change) (with_position change.tells position) (placed_plan c disk table row position put_by)

  pub is_placed : (position : Option ℕ) → IsPlaced position
  is_placed (Some n) = record { table_is = refl; last_is = refl; position_is = refl; plans = row_plans c means disk table row scheme yours x names named slots n newer }
  is_placed None =
      let at_zero = row_plans c means disk table row scheme yours x names named slots 0 newer in
      record {
        table_is = refl;
        last_is = refl;
        position_is = refl;
        plans = record {
          put = at_zero.put;
          alters = refl;
          tells = front_said c table (record { row = row; slots = put_by.slots }) change.tells put_by.facts 0 at_zero.tells;
        };
      }

-- ---- a row of an opened table

module _ (d : ClientDevs) (c table : ℕ) (found : TableRecord) (opened : record_at d table ≡ Some found) where
  module _ (w : Waiting) (disk : ClientDisk) (idle : IsIdleAt d c w disk) where
    abbrev pub opened_as : (t : TableDisk) × (table_at disk table ≡ Some t) × IsRecordOf found t
    opened_as = opened_now c d disk idle.stands idle.rests table found opened

    abbrev t : TableDisk
    t = opened_as.0

    -- whether a row fits
    pub fits_back : (h : Option Header) → FitsTable (Some t) h → FitsTable (table_at (seen disk) table) h
    fits_back h k = subst (λ (x : ClientDisk). FitsTable (table_at x table) h) (sym (seen_is c d disk idle.stands idle.rests)) (subst (λ (o : Option TableDisk). FitsTable o h) (sym opened_as.1) k)

    pub fits_now : (h : Option Header) → FitsTable (table_at (seen disk) table) h → FitsTable (Some t) h
    fits_now h k = subst (λ (o : Option TableDisk). FitsTable o h) opened_as.1 (subst (λ (x : ClientDisk). FitsTable (table_at x table) h) (seen_is c d disk idle.stands idle.rests) k)

  module _ (header : RowHeader) where
    abbrev h : Header
    h = table_header header

    abbrev now : HeldSlots
    now = held_at d table header.row

    module _ (w : Waiting) (disk : ClientDisk) (idle : IsIdleAt d c w disk) where
      abbrev there : TableDisk
      there = (opened_as w disk idle).0

      pub fit_there : fit_of found.schema header.content ≡ Ok tt → fit_of there.schema header.content ≡ Ok tt
      fit_there fit = sym (ap (λ (s : Schema). fit_of s header.content) (opened_as w disk idle).2.schema) ∙ fit

      pub fit_found : fit_of there.schema header.content ≡ Ok tt → fit_of found.schema header.content ≡ Ok tt
      fit_found fit = ap (λ (s : Schema). fit_of s header.content) (opened_as w disk idle).2.schema ∙ fit

      pub named_there : is_named found.schema.chunk header.content header.names ≡ true → is_named there.schema.chunk header.content header.names ≡ true
      named_there named = sym (ap (λ (s : Schema). is_named s.chunk header.content header.names) (opened_as w disk idle).2.schema) ∙ named

      pub named_found : is_named there.schema.chunk header.content header.names ≡ true → is_named found.schema.chunk header.content header.names ≡ true
      named_found named = ap (λ (s : Schema). is_named s.chunk header.content header.names) (opened_as w disk idle).2.schema ∙ named

      pub whole_at : whole_slots idle.stands.0 now ≡ slots_at there header.row
      whole_at = whole_here c d disk idle.stands idle.rests table header.row ∙ ap (λ (o : Option TableDisk). slots_in o header.row) (opened_as w disk idle).1

      pub seen_at : top (slots_at there header.row).conflict (slots_at there header.row).shadow ≡ seen_in now.conflict now.shadow
      seen_at = sym (ap (λ (s : Slots). top s.conflict s.shadow) whole_at) ∙ seen_whole c idle.stands.0 disk table header.row now.conflict now.shadow

    module _ (fit : fit_of found.schema header.content ≡ Ok tt) (newer : nat_le header.version (seen_in now.conflict now.shadow) ≡ false) (last : ℕ) (number_is : last ≡ (redone d).last) (held : HeldNew)
        (holds : (meaning : LocalName → List ℕ) → IsRowThere meaning d now → HoldsRow meaning found.schema.chunk now header.content header.names held) (words : HaveWords header.content) (spelled : AllByRecursion (AllByRecursion HasNameSpelling) header.names) (wide : IsWord header.version) (wide_yours : IsWord header.yours.version)
        (made : RowPlan) (is : IsRowPlanOf now (taken found.schema.scheme now (yours_in header.yours) (record { version = header.version; content = held.content })) held.brought made) (len : length header.row ≡ 16) (position : Option ℕ) (few : IsOption IsPosition position) (sends : List Send)
        (known : (scheme : Scheme) (slots : HeldSlots) (event : SlotEvent) (count : ℕ) → AreKnown slots count (names_with event) → AreKnown slots count (tree_names (slots_behind scheme slots event))) (planned : Planned)
        (o : IsOfRow c table header.row last position made sends planned) where
      abbrev x : HeldShadow
      x = record { version = header.version; content = held.content }

      abbrev yours : RowYours
      yours = yours_in header.yours

      module _ (w : Waiting) (disk : ClientDisk) (idle : IsIdleAt d c w disk) where
        abbrev number : ℕ
        number = d.journal.greatest + 1

        abbrev meaning : LocalName → List ℕ
        meaning = idle.stands.0

        abbrev means : LocalName → List ℕ
        means = plan_meaning idle.stands.0 (d.journal.greatest + 1) held.brought

        schema : HasSchemaSpelling found.schema
        schema = schema_spelled c d disk idle.stands idle.rests table header.row found opened w idle.steady

        k : HoldsRow idle.stands.0 found.schema.chunk now header.content header.names held
        k = holds idle.stands.0 (row_there idle.stands.0 d idle.stands.1.named table header.row now refl)

        shown : IsHeldFit idle.stands.0 (d.journal.greatest + 1) (Some found) now
        shown = held_fit idle.stands.0 (d.journal.greatest + 1) (Some found) now (fit_here c d disk idle.stands idle.rests table header.row found opened) (older_now c d disk idle.stands idle.rests table header.row)

        content_fit : IsFitContent (plan_meaning idle.stands.0 (d.journal.greatest + 1) held.brought) (Some found) held.content
        content_fit = k.fit idle.stands.0 (d.journal.greatest + 1) shown.are found refl schema fit words spelled shown.spelled shown.once

        puts : PutsRow found.schema.scheme now yours x (taken found.schema.scheme now yours x)
        puts = puts_row found.schema.scheme now yours x newer

        behind_is : after now (taken found.schema.scheme now yours x) ≡ o.behind
        behind_is = ap (λ (y : Option HeldSlots). unwrap_or y now) (ap (λ (y : Change). y.slots) (sym is.change) ∙ o.changes)

        known_names : AreKnown now (length held.brought) (tree_names_of held.content)
        known_names name has =
            ⊎_elim (λ old. inl (subst (λ (l : List LocalName). Has l name) (sym (names_same now)) (shown.known name old))) (λ new. inr new)
            (k.names idle.stands.0 (d.journal.greatest + 1) shown.are name (subst (λ (l : List LocalName). Has l name) (content_names held.content) has))

        brings : (ordinal : ℕ) → ordinal < length held.brought → Has (names_in o.behind) (brought_name ordinal)
        brings ordinal less = subst (λ (y : HeldSlots). Has (names_in y) (brought_name ordinal)) behind_is (puts.names (brought_name ordinal) (k.all_brought ordinal less))

        whole_means : whole_slots means now ≡ slots_at (opened_as w disk idle).0 header.row
        whole_means = whole_now c d disk idle.stands idle.rests table header.row held.brought ∙ ap (λ (y : Option TableDisk). slots_in y header.row) (opened_as w disk idle).1

        p : IsPlaced c means disk table header.row found.schema.scheme yours x header.names k.named now newer position
        p = is_placed c means disk table header.row found.schema.scheme yours x header.names k.named now newer position

        abbrev plan_of : Scheme → Header → Slots → Plan
        plan_of g y s = placed_plan c disk table header.row position (row_placed g c table y s s.out)

        made_of : IsOfRow c table header.row disk.last position made sends planned
        made_of = subst (λ (n : ℕ). IsOfRow c table header.row n position made sends planned) (number_is ∙ last_is c d disk idle.stands idle.rests) o

        same_behind : o.behind ≡ made_of.behind
        same_behind = some_is o.behind made_of.behind (sym o.changes ∙ made_of.changes)

        readied : IsReadied d c idle.stands.0 disk planned (plan_of found.schema.scheme (header_of means header.row yours x header.names) (whole_slots means now)) sends
        readied =
            row_readied c d disk idle.stands idle.rests table header.row found opened w idle.steady found.schema.scheme (RowEvent yours x) held.brought (wide_yours, wide, content_fit) (k.lens idle.stands.0 (d.journal.greatest + 1) shown.are)
            (known found.schema.scheme now (RowEvent yours x) (length held.brought) known_names) made is position few sends planned made_of len
            (λ ordinal less. subst (λ (y : HeldSlots). Has (names_in y) (brought_name ordinal)) same_behind (brings ordinal less)) (chunks_short found.schema.chunk held.brought schema.size k.small)
            (plan_of found.schema.scheme (header_of means header.row yours x header.names) (whole_slots means now)) p.table_is p.last_is p.position_is puts.plain p.plans

        header_same : header_of means header.row yours x header.names ≡ h
        header_same = ap (λ (y : Content). record { row = header.row; version = header.version; yours = record { number = header.yours.number; version = header.yours.version }; content = y; names = header.names }) (k.whole_is idle.stands.0 (d.journal.greatest + 1) shown.are)

        plan_same : plan_of found.schema.scheme (header_of means header.row yours x header.names) (whole_slots means now) ≡ plan_at c disk table (opened_as w disk idle).0 h position
        plan_same =
            ap (λ (g : Scheme). plan_of g (header_of means header.row yours x header.names) (whole_slots means now)) (ap (λ (s : Schema). s.scheme) (opened_as w disk idle).2.schema)
            ∙ (ap (λ (y : Header). plan_of (opened_as w disk idle).0.schema.scheme y (whole_slots means now)) header_same
            ∙ ap (λ (s : Slots). plan_of (opened_as w disk idle).0.schema.scheme h s) whole_means)

        pub planned_row : (other : TableDisk) → table_at disk table ≡ Some other → IsReadied d c idle.stands.0 disk planned (plan_at c disk table other h position) sends
        planned_row other at =
            subst (λ (y : TableDisk). IsReadied d c idle.stands.0 disk planned (plan_at c disk table y h position) sends) (some_is (opened_as w disk idle).0 other (sym (opened_as w disk idle).1 ∙ at))
            (subst (λ (y : Plan). IsReadied d c idle.stands.0 disk planned y sends) plan_same readied)

    -- ---- of what is found

    module _ (slots : HeldSlots) (here : slots ≡ held_at d table header.row) (fit : fit_of found.schema header.content ≡ Ok tt) (newer : nat_le header.version (seen_in slots.conflict slots.shadow) ≡ false) (last : ℕ) (number_is : last ≡ (redone d).last) (held : HeldNew)
        (holds : (meaning : LocalName → List ℕ) → IsRowThere meaning d slots → HoldsRow meaning found.schema.chunk slots header.content header.names held) (words : HaveWords header.content) (spelled : AllByRecursion (AllByRecursion HasNameSpelling) header.names) (version : ℕ) (same_version : version ≡ header.version) (wide : IsWord header.version)
        (row_yours : RowYours) (same_yours : row_yours ≡ yours_in header.yours) (wide_yours : row_yours.version < 2 ^ 64) (made : RowPlan) (is : IsRowPlanOf slots (taken found.schema.scheme slots row_yours (record { version = version; content = held.content })) held.brought made) (len : length header.row ≡ 16) (position : Option ℕ) (few : IsOption IsPosition position)
        (known : (scheme : Scheme) (slots : HeldSlots) (event : SlotEvent) (count : ℕ) → AreKnown slots count (names_with event) → AreKnown slots count (tree_names (slots_behind scheme slots event))) (sends : List Send) where
      newest_row : nat_le header.version (seen_in (held_at d table header.row).conflict (held_at d table header.row).shadow) ≡ false
      newest_row = ap (λ (s : HeldSlots). nat_le header.version (seen_in s.conflict s.shadow)) (sym here) ∙ newer

      is_now : IsRowPlanOf (held_at d table header.row) (taken found.schema.scheme (held_at d table header.row) (yours_in header.yours) (record { version = header.version; content = held.content })) held.brought made
      is_now =
          subst (λ (s : HeldSlots). IsRowPlanOf s (taken found.schema.scheme s (yours_in header.yours) (record { version = header.version; content = held.content })) held.brought made) here
          (subst (λ (y : RowYours). IsRowPlanOf slots (taken found.schema.scheme slots y (record { version = header.version; content = held.content })) held.brought made) same_yours
          (subst (λ (v : ℕ). IsRowPlanOf slots (taken found.schema.scheme slots row_yours (record { version = v; content = held.content })) held.brought made) same_version is))

      holds_now : (meaning : LocalName → List ℕ) → IsRowThere meaning d (held_at d table header.row) → HoldsRow meaning found.schema.chunk (held_at d table header.row) header.content header.names held
      holds_now meaning = subst (λ (s : HeldSlots). IsRowThere meaning d s → HoldsRow meaning found.schema.chunk s header.content header.names held) here (holds meaning)

      -- a newer row changes its slots
      changes : (taken found.schema.scheme slots row_yours (record { version = version; content = held.content })).slots ≡ None → {P : Type 0} → P
      changes none =
          let newer_now : nat_le version (seen_in slots.conflict slots.shadow) ≡ false = ap (λ (v : ℕ). nat_le v (seen_in slots.conflict slots.shadow)) same_version ∙ newer in
          let some = (puts_row found.schema.scheme slots row_yours (record { version = version; content = held.content }) newer_now).some in
          absurd (let wrong : IsSome {T = HeldSlots} None = subst (λ (o : Option HeldSlots). IsSome o) none some in cc)

      pub plans_found : (o : Option Planned) → (o ≡ None → made.change.slots ≡ None) → IfSome o (IsOfRow c table header.row last position made sends) → PlansRow d c table header position sends o
      plans_found None none some = changes (ap (λ (y : Change). y.slots) (sym is.change) ∙ none refl)
      plans_found (Some planned) none some = record {
        some = λ no. cc;
        plan = planned_row fit newest_row last number_is held holds_now words spelled wide (subst (λ (y : RowYours). y.version < 2 ^ 64) same_yours wide_yours) made is_now len position few sends known planned some;
      }
