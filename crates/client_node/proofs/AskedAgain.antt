-- Requests, row by row.
use Rattle.std.proofs.Common.{◌≡◌, ℕ, ◌+◌, ◌<◌, ◌≤◌, ◌++◌, List, [], ◌∷◌, length, map, drop, get_or, Bool, true, false, Option, Some, None, Result, Ok, Err, refl, sym, ◌∙◌, ap, subst, arith, append_assoc}
use Rattle.std.specs.Prelude.{◌==◌, cond, filter, option_map, option_to_list, if◌then◌else◌}
use Rattle.std.specs.Prelude.{IfOk, OnOk}
use Rattle.std.specs.declared.ops.Bound.TheVariants.{Included, Excluded}
use Rattle.std.specs.BTreeSet.{BTreeSet, keys, keys_between}
use Rattle.std.specs.List.{AllByRecursion}
use Rattle.std.specs.List.Sorted.{IsStrictlySortedBy}
use Rattle.std.proofs.lemmas.Bool.Decides.{nat_tests}
use Rattle.std.proofs.lemmas.List.{append-nil, drop_more, drop_all}
use Rattle.disk_trait.specs.Image.{IsImage}
use Rattle.disk_trait.specs.Calls.{DiskState}
use Rattle.stab_base.specs.declared.node.Node.{Node}
use Rattle.step_tables.specs.declared.message.Message.{Message}
use Rattle.held_value.specs.declared.local_name.LocalName.{LocalName}
use Rattle.held_value.specs.declared.content.HeldContent.{HeldContent}
use Rattle.held_value.specs.declared.slots.Main.{Main as HeldMain}
use Rattle.held_value.specs.declared.slots.Out.{Out as HeldOut}
use Rattle.held_value.specs.declared.slots.Shadow.{Shadow as HeldShadow}
use Rattle.held_value.specs.declared.slots.Slots.{Slots as HeldSlots}
use Rattle.slot_store.specs.declared.held.RowKey.{RowKey}
use Rattle.slot_store.specs.Data.{key_cmp, key_at}
use Rattle.client_tables.specs.Transitions.{can_send}
use Rattle.client_journal.specs.declared.devs.Journal.{Journal}
use Rattle.client_journal.specs.Devs.{ClientDevs, local_in}
use Rattle.client_journal.specs.Names.{Has, names_of, names_of_main, names_of_shadow, names_of_out, names_in}
use Rattle.client_journal.specs.NamedSlots.{NamedSlots}
use Rattle.client_journal.specs.Redone.{redone}
use Rattle.client_journal.specs.Standing.{devs, writes_of, AreUp, IsReady}
use Rattle.client_journal.proofs.Wholes.{has_left, has_right}
use Rattle.step_tables.specs.Messages.{Send}
use Rattle.step_tables.specs.ClientMoves.{request_for}
use Rattle.step_tables.specs.Travels.{send_of}
use Rattle.journal_laws.specs.Whole.{whole_out}
use Rattle.journal_laws.proofs.Plans.{named_in}
use Rattle.held_contents.specs.Reading.{AreThere}
use Rattle.client_node.specs.declared.fault.CallFault.{CallFault}
use Rattle.client_node.specs.Answers.{held_at}
use Rattle.client_node.specs.Looks.{IsNotDisk, Looks}
use Rattle.client_node.specs.NotedRows.{rows_among, zeros}
use Rattle.client_node.specs.Requesting.{asked_again, all_asked_again, first_ready, NoneWaits, NoneSends, IsFirstReady}
use Rattle.client_node.proofs.NotedIds.{noted_between}
use Rattle.client_node.proofs.Serving.{looks_none, looks_then, looks_err, looks_other}

-- an answer is no fault of a disk
pub ok_not : {T : Type 0} (x : T) → IsNotDisk {T = T} (Ok x)
ok_not x is = cc

abbrev pub Sends : Type 0
Sends = List (Option Node × Message)

-- the chunks of what waits are there
pub out_there : (meaning : LocalName → List ℕ) (d : ClientDevs) → NamedSlots meaning d → (table : ℕ) (row : List ℕ) (slots : HeldSlots) → slots ≡ held_at d table row → (out : HeldOut) → slots.out ≡ Some out → AreThere meaning d out.content
out_there meaning d named table row slots is out at name has =
    let m = names_of_main slots.main in
    let s = names_of_shadow slots.shadow in
    let k = names_of_shadow slots.conflict in
    let o : Has (names_of_out slots.out) name = subst (λ (x : Option HeldOut). Has (names_of_out x) name) (sym at) has in
    let there : Has (names_in slots) name = has_right m (s ++ (names_of_out slots.out ++ k)) name (has_right s (names_of_out slots.out ++ k) name (has_left (names_of_out slots.out) k name o)) in
    named.there name (named_in (redone d) table row name (subst (λ (x : HeldSlots). Has (names_in x) name) is there))

map_push : (xs : Sends) (x : Option Node × Message) → map send_of (xs ++ x ∷ []) ≡ map send_of xs ++ send_of x ∷ []
map_push [] x = refl
map_push (y ∷ xs) x = ap (λ (l : List Send). send_of y ∷ l) (map_push xs x)

-- one message more
pub pushes : (before more : Sends) (sent : Option Node × Message) (what : Send) → more ≡ before ++ sent ∷ [] → send_of sent ≡ what → map send_of more ≡ map send_of before ++ what ∷ []
pushes before more sent what pushed is = ap (map send_of) pushed ∙ (map_push before sent ∙ ap (λ (q : Send). map send_of before ++ q ∷ []) is)

-- one that waits is asked again
pub asks_one : (meaning : LocalName → List ℕ) (c : ℕ) (d : ClientDevs) (table : ℕ) (row : List ℕ) (slots : HeldSlots) → slots ≡ held_at d table row → (out : HeldOut) → slots.out ≡ Some out → (before more : Sends)
    → map send_of more ≡ map send_of before ++ request_for c table row (whole_out meaning out) ∷ [] → map send_of more ≡ map send_of before ++ asked_again meaning c d table row
asks_one meaning c d table row slots here out at before more added =
    added ∙ ap (λ (o : Option HeldOut). map send_of before ++ option_to_list (option_map (λ out. request_for c table row (whole_out meaning out)) o)) (sym at ∙ ap (λ (x : HeldSlots). x.out) here)

-- and one that doesn't isn't
pub asks_none : (meaning : LocalName → List ℕ) (c : ℕ) (d : ClientDevs) (table : ℕ) (row : List ℕ) (slots : HeldSlots) → slots ≡ held_at d table row → slots.out ≡ None → (before : Sends) → map send_of before ≡ map send_of before ++ asked_again meaning c d table row
asks_none meaning c d table row slots here none before =
    sym (append-nil (map send_of before))
    ∙ ap (λ (o : Option HeldOut). map send_of before ++ option_to_list (option_map (λ out. request_for c table row (whole_out meaning out)) o)) (sym none ∙ ap (λ (x : HeldSlots). x.out) here)

-- one row more of which the same holds
pub one_none : (P : List ℕ → Type 0) (rows : List (List ℕ)) (row : List ℕ) → AllByRecursion P rows → P row → AllByRecursion P (rows ++ row ∷ [])
one_none P [] row all p = (p, tt)
one_none P (r ∷ rows) row all p = (all.0, one_none P rows row all.1 p)

-- a row that waits for no answer
pub waits_none : (d : ClientDevs) (table : ℕ) (row : List ℕ) (slots : HeldSlots) → slots ≡ held_at d table row → slots.out ≡ None → (stale found : List (List ℕ)) → found ≡ stale ++ row ∷ [] → NoneWaits d table stale → NoneWaits d table found
waits_none d table row slots here none stale found pushed all =
    subst (NoneWaits d table) (sym pushed) (one_none (λ (r : List ℕ). (held_at d table r).out ≡ None) stale row all (ap (λ (x : HeldSlots). x.out) (sym here) ∙ none))

module _ {D : Type 0} (state : D → DiskState) (images : D → ℕ → List ℕ → Type 0) (first : Journal D) where
  -- the devices were only read, and these rows are left
  pub record HaveAsked (c table : ℕ) (rows : List (List ℕ)) (now : Journal D) (done : ℕ) (sends : Sends) (before stale : List (List ℕ)) : Type 0 where
    pub looks : Looks {T = Unit {0}} state images first now (Ok tt)
    pub left : (meaning : LocalName → List ℕ) → NamedSlots meaning (devs state first) → map send_of sends ++ all_asked_again meaning c (devs state first) table (drop done rows) ≡ all_asked_again meaning c (devs state first) table rows
    pub none : NoneWaits (devs state first) table before → NoneWaits (devs state first) table stale

  -- the rows of the table before these keys have nothing to send
  pub record HavePassed (table : ℕ) (keys : List RowKey) (now : Journal D) (rest : List RowKey) (before stale : List (List ℕ)) : Type 0 where
    pub looks : Looks {T = Unit {0}} state images first now (Ok tt)
    pub left : first_ready (devs state first) table (rows_among table rest) ≡ first_ready (devs state first) table (rows_among table keys)
    pub none : NoneSends (devs state first) table before → NoneSends (devs state first) table stale

module _ {D : Type 0} (state : D → DiskState) (images : D → ℕ → List ℕ → Type 0) (only_now : (disk : D) (image : List ℕ) → images disk (state disk).moment image → IsImage (state disk).pending image) (first : Journal D) (up : AreUp first) (ready : IsReady state first (writes_of first)) where
  pub nothing_asked : (c table : ℕ) (rows : List (List ℕ)) (sends : Sends) (before : List (List ℕ)) → sends ≡ [] → HaveAsked state images first c table rows first 0 sends before before
  nothing_asked c table rows sends before none = record {
    looks = looks_none state images only_now first up ready (Ok tt) (ok_not tt);
    left = λ meaning named. ap (λ (l : Sends). map send_of l ++ all_asked_again meaning c (devs state first) table rows) none;
    none = λ h. h;
  }

  pub one_asked : (c table : ℕ) (rows : List (List ℕ)) (now new : Journal D) (done : ℕ) (row e : List ℕ) (sends more : Sends) (before stale found : List (List ℕ)) → HaveAsked state images first c table rows now done sends before stale → done < length rows → row ≡ get_or rows done e → Looks {T = Unit {0}} state images now new (Ok tt)
      → ((meaning : LocalName → List ℕ) → NamedSlots meaning (devs state now) → map send_of more ≡ map send_of sends ++ asked_again meaning c (devs state now) table row) → (NoneWaits (devs state now) table stale → NoneWaits (devs state now) table found)
      → HaveAsked state images first c table rows new (done + 1) more before found
  one_asked c table rows now new done row e sends more before stale found h lt is l adds none = record {
    looks = looks_then state images first new up ready now tt (Ok tt) h.looks l;
    left = λ meaning named.
        let rest = all_asked_again meaning c (devs state first) table (drop (done + 1) rows) in
        let added : map send_of more ≡ map send_of sends ++ asked_again meaning c (devs state first) table row = subst (λ (d : ClientDevs). map send_of more ≡ map send_of sends ++ asked_again meaning c d table row) same (adds meaning (subst (NamedSlots meaning) (sym same) named)) in
        ap (λ (x : List Send). x ++ rest) added
        ∙ (append_assoc (map send_of sends) (asked_again meaning c (devs state first) table row) rest
        ∙ (ap (λ (r : List ℕ). map send_of sends ++ (asked_again meaning c (devs state first) table r ++ rest)) is
        ∙ (ap (λ (x : List (List ℕ)). map send_of sends ++ all_asked_again meaning c (devs state first) table x) (sym (drop_more rows done e lt)) ∙ h.left meaning named)));
    none = λ b. subst (λ (d : ClientDevs). NoneWaits d table stale → NoneWaits d table found) same none (h.none b);
  }
    where
      same : devs state now ≡ devs state first
      same = h.looks.serves.same (λ no. cc)

  pub all_asked : (c table : ℕ) (rows : List (List ℕ)) (now : Journal D) (done : ℕ) (sends : Sends) (before stale : List (List ℕ)) → HaveAsked state images first c table rows now done sends before stale → length rows ≤ done → (meaning : LocalName → List ℕ) → NamedSlots meaning (devs state first) → map send_of sends ≡ all_asked_again meaning c (devs state first) table rows
  all_asked c table rows now done sends before stale h all meaning named =
      sym (append-nil (map send_of sends)) ∙ (ap (λ (x : List (List ℕ)). map send_of sends ++ all_asked_again meaning c (devs state first) table x) (sym (drop_all done rows all)) ∙ h.left meaning named)

  -- ---- keys, one by one

  abbrev FirstOf : ℕ → List (List ℕ) → Option (List ℕ × HeldSlots)
  FirstOf table rows = first_ready (devs state first) table rows

  pub nothing_passed : (table : ℕ) (keys : List RowKey) (before : List (List ℕ)) → HavePassed state images first table keys first keys before before
  nothing_passed table keys before = record { looks = looks_none state images only_now first up ready (Ok tt) (ok_not tt); left = refl; none = λ h. h }

  same_table : (a b : ℕ) → a ≡ b → (a == b) ≡ true
  same_table a b e = grind (arith, nat_tests)

  -- a row of the table that has nothing to send
  pub one_passed : (table : ℕ) (keys : List RowKey) (now : Journal D) (left : List RowKey) (key : RowKey) (rest : List RowKey) (before stale : List (List ℕ)) → HavePassed state images first table keys now left before stale → left ≡ key ∷ rest → key.table ≡ table
      → (new : Journal D) (slots : HeldSlots) → Looks {T = HeldSlots} state images now new (Ok slots) → slots ≡ held_at (devs state now) table key.row → can_send slots ≡ false → (found : List (List ℕ)) → found ≡ stale ++ key.row ∷ [] → HavePassed state images first table keys new rest before found
  one_passed table keys now left key rest before stale h steps of_table new slots k here cannot found pushed = record {
    looks = looks_other state images first new up ready slots (Ok tt) (looks_then state images first new up ready now tt (Ok slots) h.looks k) (ok_not tt);
    left = sym (ap (λ (l : List RowKey). FirstOf table (rows_among table l)) steps ∙ (kept ∙ ap (λ (b : Bool). if b then Some (key.row, held_at (devs state first) table key.row) else FirstOf table (rows_among table rest)) nothing)) ∙ h.left;
    none = λ b. subst (NoneSends (devs state first) table) (sym pushed) (one_none (λ (row : List ℕ). can_send (held_at (devs state first) table row) ≡ false) stale key.row (h.none b) nothing);
  }
    where
      kept : FirstOf table (rows_among table (key ∷ rest)) ≡ (if can_send (held_at (devs state first) table key.row) then Some (key.row, held_at (devs state first) table key.row) else FirstOf table (rows_among table rest))
      kept = ap (λ (c : Bool). FirstOf table (map (λ (k : RowKey). k.row) (cond c (key ∷ filter (λ k. k.table == table) rest) (filter (λ k. k.table == table) rest)))) (same_table key.table table of_table)

      nothing : can_send (held_at (devs state first) table key.row) ≡ false
      nothing = ap can_send (sym (here ∙ ap (λ (d : ClientDevs). held_at d table key.row) (h.looks.serves.same (λ no. cc)))) ∙ cannot

-- what is found is held so, and may be sent
pub first_held : (d : ClientDevs) (table : ℕ) (rows : List (List ℕ)) (found : List ℕ × HeldSlots) → first_ready d table rows ≡ Some found → (found.1 ≡ held_at d table found.0) × (can_send found.1 ≡ true)
first_held d table [] found is = absurd cc
first_held d table (row ∷ rows) found is = pick (can_send (held_at d table row)) refl is (first_held d table rows found)
  where
    same : (a b : List ℕ × HeldSlots) → Some a ≡ Some b → a ≡ b
    same a b e = cc

    pick : (b : Bool) → can_send (held_at d table row) ≡ b → (if b then Some (row, held_at d table row) else first_ready d table rows) ≡ Some found → (first_ready d table rows ≡ Some found → (found.1 ≡ held_at d table found.0) × (can_send found.1 ≡ true))
        → (found.1 ≡ held_at d table found.0) × (can_send found.1 ≡ true)
    pick true can at more = subst (λ (x : List ℕ × HeldSlots). (x.1 ≡ held_at d table x.0) × (can_send x.1 ≡ true)) (same (row, held_at d table row) found at) (refl, can)
    pick false can at more = more at

-- the first of the keys between two is that of the noted rows
pub first_noted : (d : ClientDevs) (table : ℕ) (set : BTreeSet RowKey) (from end : RowKey) → from ≡ key_at table (zeros 16) → end ≡ key_at (table + 1) (zeros 16) → (r : Result (Option (List ℕ × HeldSlots)) CallFault)
    → IfOk r (λ found. found ≡ first_ready d table (rows_among table (keys_between key_cmp (Included from) (Excluded end) set))) → OnOk r (IsStrictlySortedBy key_cmp (keys set)) → IfOk r (IsFirstReady d table set)
first_noted d table set from end f e (Ok found) is sorted =
    let rows : List (List ℕ) = rows_among table (keys_between key_cmp (Included from) (Excluded end) set) in
    record { rows = rows; noted = noted_between table from end f e set rows refl sorted; is = is }
first_noted d table set from end f e (Err fault) is sorted = tt
