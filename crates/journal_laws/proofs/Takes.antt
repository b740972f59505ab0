-- A row from the Store makes of the slots what the step table makes of the whole ones.
use Rattle.std.proofs.Common.{◌≡◌, ℕ, Bool, true, false, List, [], ◌∷◌, ◌++◌, map, Option, Some, None, refl, sym, ◌∙◌, ap, subst}
use Rattle.std.specs.Prelude.{◌==◌, nat_le, if◌then◌else◌, option_map}
use Rattle.std.proofs.lemmas.List.{map-append}
use Rattle.stab_base.specs.declared.chunk_name.ChunkName.{ChunkName}
use Rattle.row_value.specs.declared.schema.Scheme.{Scheme}
use Rattle.row_value.specs.declared.schema.Scheme.TheVariants.{Strong, Causal, Eventual}
use Rattle.table_model.specs.declared.message.Yours.{Yours}
use Rattle.held_value.specs.declared.local_name.LocalName.{LocalName}
use Rattle.held_value.specs.declared.slots.Main.{Main as HeldMain}
use Rattle.held_value.specs.declared.slots.Shadow.{Shadow as HeldShadow}
use Rattle.held_value.specs.declared.slots.Out.{Out as HeldOut}
use Rattle.held_value.specs.declared.slots.Slots.{Slots as HeldSlots}
use Rattle.held_value.specs.declared.tell.Tell.{Tell}
use Rattle.held_value.specs.declared.tell.Tell.TheVariants as tell
use Rattle.client_tables.specs.declared.change.Change.{Change}
use Rattle.client_tables.specs.declared.change.Sending.TheVariants as send
use Rattle.client_tables.specs.Change.{after, unchanged, seen_in}
use Rattle.client_tables.specs.Transitions.{without as held_without, acknowledged, read_row, in_conflict, placed as held_placed, taken}
use Rattle.step_tables.specs.Slots.{Main}
use Rattle.step_tables.specs.Slots.{Shadow}
use Rattle.step_tables.specs.Facts.{ClientFact}
use Rattle.step_tables.specs.Facts as facts
use Rattle.step_tables.specs.Messages.{Header}
use Rattle.step_tables.specs.ClientMoves.{Slots, RowPut, ClientDisk, Placed, without, read_new, read_conflict, placed, row_placed, row_plan, known, shadow_of}
use Rattle.journal_laws.specs.Whole.{whole, whole_main, whole_shadow, whole_slots, names_known}
use Rattle.journal_laws.specs.Holds.{fact_in, Say}
use Rattle.journal_laws.specs.Moves.{Plans, IsStill, header_of}
use Rattle.journal_laws.proofs.Transitions.{without_whole}

-- one thing more is told
say_more : (c table : ℕ) (put : Option RowPut) (told : List Tell) (some : List ClientFact) (t : Tell) (f : ClientFact) → Say c table put told some → fact_in c table put t ≡ Some f
    → Say c table put (told ++ t ∷ []) (some ++ f ∷ [])
say_more c table put told some t f says one =
    map-append (fact_in c table put) told (t ∷ [])
    ∙ (ap (λ (l : List (Option ClientFact)). l ++ fact_in c table put t ∷ []) says
    ∙ (ap (λ (o : Option ClientFact). map (λ (fact : ClientFact). Some fact) some ++ o ∷ []) one ∙ sym (map-append (λ (fact : ClientFact). Some fact) some (f ∷ []))))

pub old_still : (scheme : Scheme) (yours : Yours) (x : HeldShadow) (slots : HeldSlots) → nat_le x.version (seen_in slots.conflict slots.shadow) ≡ true → IsStill (taken scheme slots yours x)
old_still scheme yours x slots old = subst (λ (b : Bool). IsStill (if b then unchanged send.Nothing else held_placed scheme slots (acknowledged yours slots) yours x)) (sym old) (record { slots = refl; tells = refl })

module _ (c : ℕ) (meaning : LocalName → List ℕ) (d : ClientDisk) (table : ℕ) (row : List ℕ) (scheme : Scheme) (yours : Yours) (x : HeldShadow) (names : List (List ChunkName)) (named : names_known x.content ≡ known names) where
  abbrev header : Header
  header = header_of meaning row yours x names

  shadow_is : whole_shadow meaning x ≡ shadow_of header
  shadow_is = ap (λ (l : List (List (Option ChunkName))). record { version = x.version; content = whole meaning x.content; names = l }) named

  abbrev put_of : Slots → Option RowPut
  put_of s = Some (record { row = row; slots = s })

  abbrev held_of : Option HeldMain → Option HeldShadow → Option HeldOut → Option HeldShadow → HeldSlots
  held_of m s o k = record { main = m; shadow = s; out = o; conflict = k }

  record Takes (slots : HeldSlots) (change : Change) (p : Placed) : Type 0 where
    pub behind : whole_slots meaning (after slots change) ≡ p.slots
    pub tells : (s : Slots) → Say c table (put_of s) change.tells p.facts

  abbrev Said : List Tell → List ClientFact → Type 0
  Said told before = (s : Slots) → Say c table (put_of s) told before

  module _ (m0 : Option HeldMain) (s : Option HeldShadow) (o0 : Option HeldOut) (m : Option HeldMain) (o : Option HeldOut) (told : List Tell) (before : List ClientFact) (says : Said told before) where
    abbrev whole_acked : Option HeldShadow → Slots
    whole_acked k = whole_slots meaning (held_of m s o k)

    reads : (k : Option HeldShadow) → Takes (held_of m0 s o0 k) (read_row (held_of m0 s o0 k) (record { main = m; out = o; tells = told }) x) (read_new c table header (whole_acked k) before)
    reads k = record {
      behind = ap (λ (y : Shadow). record (whole_acked k) { shadow = Some y }) shadow_is;
      tells = λ q. say_more c table (put_of q) told before (tell.New x.version) (facts.New c table row x.version) (says q) refl;
    }

  module _ (m0 : Option HeldMain) (s : Option HeldShadow) (o0 : Option HeldOut) (main : HeldMain) (o : Option HeldOut) (told : List Tell) (before : List ClientFact) (says : Said told before) where
    abbrev some_whole : Option HeldShadow → Slots
    some_whole k = whole_slots meaning (held_of (Some main) s o k)

    conflicts : (k : Option HeldShadow)
        → Takes (held_of m0 s o0 k) (in_conflict (held_of m0 s o0 k) (record { main = Some main; out = o; tells = told }) x)
        (read_conflict c table header (some_whole k) before (whole_main meaning main))
    conflicts k = record {
      behind = ap (λ (y : Shadow). record (some_whole k) { conflict = Some y; out = None }) shadow_is;
      tells = λ q. say_more c table (put_of q) told before (tell.Conflict main.number x.version) (facts.Conflict c main.number table row x.version) (says q) refl;
    }

    -- it is read where it is the client's own, else it is in conflict
    own_or_not : (b : Bool) → Takes (held_of m0 s o0 None)
        (if b then read_row (held_of m0 s o0 None) (record { main = Some main; out = o; tells = told }) x else in_conflict (held_of m0 s o0 None)
        (record { main = Some main; out = o; tells = told }) x)
        (if b then read_new c table header (some_whole None) before else read_conflict c table header (some_whole None) before (whole_main meaning main))
    own_or_not true = reads m0 s o0 (Some main) o told before says None
    own_or_not false = conflicts None

  placed_takes : (g : Scheme) (m0 : Option HeldMain) (s : Option HeldShadow) (o0 : Option HeldOut) (k : Option HeldShadow) (m : Option HeldMain) (o : Option HeldOut) (told : List Tell)
      (before : List ClientFact) → Said told before
      → Takes (held_of m0 s o0 k) (held_placed g (held_of m0 s o0 k) (record { main = m; out = o; tells = told }) yours x)
      (placed g c table header (whole_slots meaning (held_of m s o k)) before (option_map (whole_main meaning) m) (option_map (whole_shadow meaning) k))
  placed_takes g m0 s o0 k None o told before says = reads m0 s o0 None o told before says k
  placed_takes Strong m0 s o0 (Some y) (Some main) o told before says = conflicts m0 s o0 main o told before says (Some y)
  placed_takes Causal m0 s o0 (Some y) (Some main) o told before says = conflicts m0 s o0 main o told before says (Some y)
  placed_takes Eventual m0 s o0 (Some y) (Some main) o told before says = reads m0 s o0 (Some main) o told before says (Some y)
  placed_takes Strong m0 s o0 None (Some main) o told before says = own_or_not m0 s o0 main o told before says (yours.version == x.version)
  placed_takes Causal m0 s o0 None (Some main) o told before says = own_or_not m0 s o0 main o told before says (yours.version == x.version)
  placed_takes Eventual m0 s o0 None (Some main) o told before says = reads m0 s o0 (Some main) o told before says None

  module _ (m : Option HeldMain) (s : Option HeldShadow) (k : Option HeldShadow) where
    abbrev om : Option HeldMain → Option Main
    om main = option_map (whole_main meaning) main

    -- the write that waits was accepted, or it still waits
    waiting : (out : HeldOut) (b : Bool) → let slots : HeldSlots = held_of m s (Some out) k in let w : Slots = whole_slots meaning slots in
        Takes slots
        (held_placed scheme slots (if b then record { main = held_without out.number m; out = None; tells = tell.Acked out.number yours.version ∷ [] } else record { main = m; out = Some out; tells = [] }) yours x)
        (if b then placed scheme c table header (record w { main = without out.number w.main; out = None }) (facts.Acked c out.number table row yours.version ∷ [])
        (without out.number w.main) w.conflict
        else placed scheme c table header w [] w.main w.conflict)
    waiting out true =
        let slots : HeldSlots = held_of m s (Some out) k in
        let w : Slots = whole_slots meaning slots in
        let told : List Tell = tell.Acked out.number yours.version ∷ [] in
        let before : List ClientFact = facts.Acked c out.number table row yours.version ∷ [] in
        subst (λ (n : Option Main). Takes slots (held_placed scheme slots (record { main = held_without out.number m; out = None; tells = told }) yours x)
        (placed scheme c table header (record w { main = n; out = None }) before n w.conflict))
        (sym (without_whole c meaning d table row out.number m)) (placed_takes scheme m s (Some out) k (held_without out.number m) None told before (λ q. refl))
    waiting out false = placed_takes scheme m s (Some out) k m (Some out) [] [] (λ q. refl)

    acks : (o : Option HeldOut) → let slots : HeldSlots = held_of m s o k in
        Takes slots (held_placed scheme slots (acknowledged yours slots) yours x) (row_placed scheme c table header (whole_slots meaning slots) (whole_slots meaning slots).out)
    acks None = placed_takes scheme m s None k m None [] [] (λ q. refl)
    acks (Some out) = waiting out (nat_le out.number yours.number)

  module _ (slots : HeldSlots) where
    abbrev made : Placed
    made = row_placed scheme c table header (whole_slots meaning slots) (whole_slots meaning slots).out

    pub row_plans : (position : ℕ) → nat_le x.version (seen_in slots.conflict slots.shadow) ≡ false
        → Plans meaning c row (after slots (taken scheme slots yours x)) ((taken scheme slots yours x).tells ++ tell.Position position ∷ []) (row_plan c d table row position made)
    row_plans position newer =
        let change : Change = held_placed scheme slots (acknowledged yours slots) yours x in
        let taken_is : change ≡ taken scheme slots yours x = ap (λ (b : Bool). if b then unchanged send.Nothing else change) (sym newer) in
        let t : Takes slots change made = acks slots.main slots.shadow slots.conflict slots.out in
        subst (λ (y : Change). Plans meaning c row (after slots y) (y.tells ++ tell.Position position ∷ []) (row_plan c d table row position made)) taken_is
        (record {
          alters = refl;
          put = ap (λ (q : Slots). Some (record { row = row; slots = q })) (sym t.behind);
          tells = say_more c table (put_of made.slots) change.tells made.facts (tell.Position position) (facts.Position c table position) (t.tells made.slots) refl;
        })
