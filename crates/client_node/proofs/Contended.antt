-- The rows of a table in conflict, among those that are noted, and what is answered of them.
use Rattle.std.proofs.Common.{◌≡◌, ◌⊎◌, inl, inr, ⊎_elim, ℕ, ◌+◌, ◌<◌, ◌≤◌, ◌++◌, Bool, true, false, List, [], ◌∷◌, length, drop, get_or, Option, Some, None, Result, Ok, Err, refl, sym, ◌∙◌, ap, subst, arith, append_assoc, append-nil}
use Rattle.std.proofs.lemmas.List.{drop_more, drop_all}
use Rattle.std.specs.Prelude.{not, ◌&&◌, if◌then◌else◌, option_map, option_to_list, IsSome, IfSome, IfErr, OnOk, IsErrOf, ◌^◌}
use Rattle.std.specs.List.{list_any}
use Rattle.std.specs.BTreeMap.{is_at}
use Rattle.disk_trait.specs.Image.{IsImage}
use Rattle.disk_trait.specs.Calls.{DiskState}
use Rattle.disk_trait.specs.Fuse.{behind, inner_of}
use Rattle.disk_trait.specs.declared.fuse.FuseDisk.{FuseDisk}
use Rattle.table_model.specs.declared.line.RowPair.{RowPair}
use Rattle.plan_log.specs.Spelling.{IsTable}
use Rattle.held_value.specs.declared.local_name.LocalName.{LocalName}
use Rattle.held_value.specs.declared.slots.Main.{Main as HeldMain}
use Rattle.held_value.specs.declared.slots.Shadow.{Shadow as HeldShadow}
use Rattle.held_value.specs.declared.slots.Slots.{Slots as HeldSlots}
use Rattle.slot_store.specs.declared.held.TableRecord.{TableRecord}
use Rattle.slot_store.specs.Data.{id_cmp}
use Rattle.client_journal.specs.declared.devs.Journal.{Journal}
use Rattle.client_journal.specs.Devs.{ClientDevs}
use Rattle.client_journal.specs.Standing.{devs, writes_of, AreUp, IsReady}
use Rattle.step_tables.specs.Slots.{Main}
use Rattle.step_tables.specs.Slots.{Shadow}
use Rattle.step_tables.specs.Facts.{Answer, Refusal}
use Rattle.step_tables.specs.Facts as facts
use Rattle.step_tables.specs.ClientMoves.{Slots, TableDisk, ClientDisk, ClientTask, Client, ClientStep, Shape, Conflicts, quiet, conflicts_in, table_at, slots_at, slots_in, seen, if_closed, is_before_phase}
use Rattle.step_tables.specs.ClientMoves as moves
use Rattle.journal_laws.specs.Whole.{whole_slots, whole_main, whole_shadow}
use Rattle.client_node.specs.declared.fault.CallFault.{CallFault}
use Rattle.client_node.specs.declared.fault.CallFault.TheVariants as call
use Rattle.client_node.specs.declared.node.ClientNode.{ClientNode}
use Rattle.client_node.specs.declared.waiting.Waiting.{Waiting}
use Rattle.client_node.specs.Answers.{record_at, held_at, IsFault, IsAnswered}
use Rattle.client_node.specs.Calls.{Fell}
use Rattle.client_node.specs.Does.{Does, step_with}
use Rattle.client_node.specs.Linked.{unless_kept}
use Rattle.client_node.specs.Listing.{pair_held, pairs_held, calm_held, listed, AreCalm}
use Rattle.client_node.specs.Looks.{Looks}
use Rattle.client_node.specs.Node.{StandsFor, IsClient}
use Rattle.client_node.specs.NotedRows.{AreNotedRows}
use Rattle.client_node.specs.Phases.{is_open}
use Rattle.client_node.specs.Steady.{IsSteadyTable, IsSteady}
use Rattle.client_node.proofs.Answering.{does_quiet, of_err}
use Rattle.client_node.proofs.AskedAgain.{ok_not, one_none}
use Rattle.client_node.proofs.Links.{opened_is, unopened_is, slots_are}
use Rattle.client_node.proofs.Opened.{table_steady}
use Rattle.client_node.proofs.Pulls.{no_refusal, same_refusal}
use Rattle.client_node.proofs.Serving.{looks_none, looks_then, looks_other}
use Rattle.client_node.proofs.Walks.{Rows, slots_in_rows, over_rows, over_keys, IsQuiet, AreNeeded, walk}

-- ---- over the table's rows

abbrev adds : List ℕ → Slots → List RowPair → List RowPair
adds row s more = option_to_list (moves.pair_of row s.main s.conflict) ++ more

pairs_are : (rows : Rows) → moves.pairs_of rows ≡ over_rows adds [] rows
pairs_are [] = refl
pairs_are (e ∷ rows) = ap (λ (l : List RowPair). option_to_list (moves.pair_of e.0 e.1.main e.1.conflict) ++ l) (pairs_are rows)

no_pair : (row : List ℕ) (o : Option Main) → moves.pair_of row o None ≡ None
no_pair row None = refl
no_pair row (Some main) = refl

-- a row that isn't in conflict adds nothing
quiet_row : (row : List ℕ) (s : Slots) → s.conflict ≡ None → IsQuiet adds [] row s
quiet_row row s none more =
    ap (λ (o : Option Shadow). option_to_list (moves.pair_of row s.main o) ++ more) none ∙ ap (λ (o : Option RowPair). option_to_list o ++ more) (no_pair row s.main)

same_pair : (meaning : LocalName → List ℕ) (row : List ℕ) (m : Option HeldMain) (x : Option HeldShadow) → pair_held row m x ≡ moves.pair_of row (option_map (whole_main meaning) m) (option_map (whole_shadow meaning) x)
same_pair meaning row None x = refl
same_pair meaning row (Some m) None = refl
same_pair meaning row (Some m) (Some x) = refl

-- among the devices' slots
keys_pairs : (meaning : LocalName → List ℕ) (d : ClientDevs) (table : ℕ) (rows : Rows) → ((row : List ℕ) → whole_slots meaning (held_at d table row) ≡ slots_in_rows rows row) → (ks : List (List ℕ)) → pairs_held d table ks ≡ over_keys adds [] rows ks
keys_pairs meaning d table rows same [] = refl
keys_pairs meaning d table rows same (k ∷ ks) =
    ap (λ (o : Option RowPair). option_to_list o ++ pairs_held d table ks) (same_pair meaning k (held_at d table k).main (held_at d table k).conflict)
    ∙ (ap (λ (s : Slots). adds k s (pairs_held d table ks)) (same k) ∙ ap (adds k (slots_in_rows rows k)) (keys_pairs meaning d table rows same ks))

module _ (meaning : LocalName → List ℕ) (d : ClientDevs) (table : ℕ) (w : Waiting) (t : TableDisk) (steady : IsSteadyTable w table t) (same : (row : List ℕ) → whole_slots meaning (held_at d table row) ≡ slots_at t row) where
  module _ (rows : List (List ℕ)) (a : AreNotedRows w.conflicts table rows) where
    needed : AreNeeded adds [] t.rows rows
    needed row = pick (slots_at t row).conflict refl
      where
        pick : (o : Option Shadow) → (slots_at t row).conflict ≡ o → IsQuiet adds [] row (slots_at t row) ⊎ (list_any (is_at (id_cmp row)) rows ≡ true)
        pick None is = inl (quiet_row row (slots_at t row) is)
        pick (Some x) is =
            let some : IsSome (slots_at t row).conflict = subst (λ (o : Option Shadow). IsSome o) (sym is) refl in
            inr (a.all row ((steady.noted row).sized some) ((steady.noted row).conflict some))

    pub in_conflict : moves.pairs_of t.rows ≡ pairs_held d table rows
    in_conflict = pairs_are t.rows ∙ (walk adds [] (λ k m. refl) t.rows rows steady.rising a.rising needed ∙ sym (keys_pairs meaning d table t.rows same rows))

-- ---- row by row

more_calm : (d : ClientDevs) (table : ℕ) (row : List ℕ) (slots : HeldSlots) → slots ≡ held_at d table row → (o : Option HeldShadow) → slots.conflict ≡ o → (calm : List (List ℕ)) → AreCalm d table calm → AreCalm d table (calm ++ calm_held row o)
more_calm d table row slots here None none calm all = one_none (λ (r : List ℕ). (held_at d table r).conflict ≡ None) calm row all (ap (λ (s : HeldSlots). s.conflict) (sym here) ∙ none)
more_calm d table row slots here (Some x) some calm all = subst (AreCalm d table) (sym (append-nil calm)) all

module _ {D : Type 0} (state : D → DiskState) (images : D → ℕ → List ℕ → Type 0) (first : Journal D) where
  -- the devices were only read, and these rows are left; of the rows before them the calm ones were added
  pub record HavePairs (table : ℕ) (rows : List (List ℕ)) (now : Journal D) (done : ℕ) (pairs : List RowPair) (before calm : List (List ℕ)) : Type 0 where
    pub looks : Looks {T = Unit {0}} state images first now (Ok tt)
    pub none : AreCalm (devs state first) table before → AreCalm (devs state first) table calm
    pub left : pairs ++ pairs_held (devs state first) table (drop done rows) ≡ pairs_held (devs state first) table rows

module _ {D : Type 0} (state : D → DiskState) (images : D → ℕ → List ℕ → Type 0) (only_now : (disk : D) (image : List ℕ) → images disk (state disk).moment image → IsImage (state disk).pending image) (first : Journal D) (up : AreUp first) (ready : IsReady state first (writes_of first))
    (table : ℕ) (rows before : List (List ℕ)) where
  pub no_pairs : (pairs : List RowPair) → pairs ≡ [] → HavePairs state images first table rows first 0 pairs before before
  no_pairs pairs none = record {
    looks = looks_none state images only_now first up ready (Ok tt) (ok_not tt);
    none = λ b. b;
    left = ap (λ (l : List RowPair). l ++ pairs_held (devs state first) table rows) none;
  }

  module _ (now : Journal D) (done : ℕ) (pairs : List RowPair) (calm : List (List ℕ)) (h : HavePairs state images first table rows now done pairs before calm) where
    pub all_pairs : length rows ≤ done → pairs ≡ pairs_held (devs state first) table rows
    all_pairs all =
        sym (append-nil pairs) ∙ (sym (ap (λ (l : List (List ℕ)). pairs ++ pairs_held (devs state first) table l) (drop_all done rows all)) ∙ h.left)

    module _ (new : Journal D) (row e : List ℕ) (lt : done < length rows) (is : row ≡ get_or rows done e) (slots : HeldSlots) (k : Looks {T = HeldSlots} state images now new (Ok slots)) (here : slots ≡ held_at (devs state now) table row) where
      pub one_pair : (more : List RowPair) → more ≡ pairs ++ option_to_list (pair_held row slots.main slots.conflict) → (found : List (List ℕ)) → found ≡ calm ++ calm_held row slots.conflict → HavePairs state images first table rows new (done + 1) more before found
      one_pair more added calm_found pushed =
          let rest = pairs_held (devs state first) table (drop (done + 1) rows) in
          let same : slots ≡ held_at (devs state first) table row = here ∙ ap (λ (d : ClientDevs). held_at d table row) (h.looks.serves.same (λ no. cc)) in
          record {
            looks = looks_other state images first new up ready slots (Ok tt) (looks_then state images first new up ready now tt (Ok slots) h.looks k) (ok_not tt);
            none = λ b. subst (AreCalm (devs state first) table) (sym pushed) (more_calm (devs state first) table row slots same slots.conflict refl calm (h.none b));
            left = ap (λ (l : List RowPair). l ++ rest) added
                ∙ (append_assoc pairs (option_to_list (pair_held row slots.main slots.conflict)) rest
                ∙ (ap (λ (s : HeldSlots). pairs ++ (option_to_list (pair_held row s.main s.conflict) ++ rest)) same
                ∙ (ap (λ (r : List ℕ). pairs ++ pairs_held (devs state first) table (r ∷ drop (done + 1) rows)) is
                ∙ (ap (λ (l : List (List ℕ)). pairs ++ pairs_held (devs state first) table l) (sym (drop_more rows done e lt)) ∙ h.left))));
          }

-- ---- what is answered

-- the table behind an opened one has a number too
pub numbered_small : (o : Option TableRecord) (table : ℕ) (found : TableRecord) → o ≡ Some found → IfSome o (λ opened. IsTable table) → table + 1 < 2 ^ 32
numbered_small o table found is numbered =
    let its : IsTable table = subst (λ (x : Option TableRecord). IfSome x (λ opened. IsTable table)) is numbered in
    let most = its.most in
    omega (arith, most)

abbrev says : List RowPair → Answer
says pairs = facts.Pairs pairs

module _ (c : ℕ) (d : ClientDevs) (disk : ClientDisk) (st : StandsFor c d disk) (table : ℕ) (open_now : Bool) where
  abbrev there : Option TableDisk
  there = table_at (seen disk) table

  pub list_fault : (e : CallFault) → IsFault e → IsAnswered says (listed open_now there) (Err e)
  list_fault e fault refusal is = no_refusal e refusal fault is

  pub list_closed : (e : CallFault) → ((e ≡ call.NoTable) × (record_at d table ≡ None)) ⊎ IsFault e → IsAnswered says (listed open_now there) (Err e)
  list_closed e why refusal is =
      ⊎_elim
      (λ none. ap (listed open_now) (unopened_is c d disk st table none.1) ∙ ap (λ (r : Refusal). facts.Refuses r) (same_refusal e call.NoTable refusal facts.NoTable none.0 refl is))
      (λ fault. no_refusal e refusal fault is) why

  module _ (found : TableRecord) (opened : record_at d table ≡ Some found) where
    pub list_unphased : (e : CallFault) → (open_now ≡ false) × (e ≡ call.NotInResolution) → IsAnswered says (listed open_now there) (Err e)
    list_unphased e why refusal is =
        let at = opened_is c d disk st table found opened in
        ap (listed open_now) at.1
        ∙ (ap (λ (b : Bool). listed b (Some at.0)) why.0 ∙ ap (λ (r : Refusal). facts.Refuses r) (same_refusal e call.NotInResolution refusal facts.NotInResolution why.1 refl is))

    pub list_done : open_now ≡ true → (w : Waiting) → IsSteady w disk → (rows : List (List ℕ)) → AreNotedRows w.conflicts table rows → (pairs : List RowPair) → pairs ≡ pairs_held d table rows → listed open_now there ≡ facts.Pairs pairs
    list_done is w steady rows noted pairs all =
        let at = opened_is c d disk st table found opened in
        let whole : (row : List ℕ) → whole_slots st.0 (held_at d table row) ≡ slots_at at.0 row = λ row. slots_are c d disk st table row ∙ ap (λ (o : Option TableDisk). slots_in o row) at.1 in
        ap (listed open_now) at.1
        ∙ (ap (λ (b : Bool). listed b (Some at.0)) is
        ∙ ap (λ (l : List RowPair). facts.Pairs l)
        (in_conflict st.0 d table w at.0 (table_steady w disk steady table at.0 at.1) whole rows noted ∙ sym all))

-- ---- the call

-- devices that were read without a fault hold what they held
pub same_ok : {D T : Type 0} (state : D → DiskState) (images : D → ℕ → List ℕ → Type 0) (old new : Journal D) (r : Result T CallFault) → Looks state images old new r → OnOk r (devs state new ≡ devs state old)
same_ok state images old new (Ok x) k = k.serves.same (ok_not x)
same_ok state images old new (Err e) k = tt

-- a move that doesn't need the link
no_link : {X : Type 0} (up : Bool) (x y : X) → (if not up && false then x else y) ≡ y
no_link true x y = refl
no_link false x y = refl

abbrev list_by : Bool → ClientDisk → List ClientTask → ℕ → Option TableDisk → ClientStep
list_by b disk tasks table o =
    unless_kept (record { disk = disk; agenda = Some tasks }) (if_closed (is_before_phase (Conflicts table) (conflicts_in disk tasks o).answer) b) (conflicts_in disk tasks o)

lists_by : (b : Bool) (disk : ClientDisk) (tasks : List ClientTask) (table : ℕ) (o : Option TableDisk) → list_by b disk tasks table o ≡ quiet disk (Some tasks) (listed b o)
lists_by true disk tasks table None = refl
lists_by false disk tasks table None = refl
lists_by true disk tasks table (Some t) = refl
lists_by false disk tasks table (Some t) = refl

module _ {D : Type 0} (state : D → DiskState) (images : D → ℕ → List ℕ → Type 0) (only_now : (disk : FuseDisk D) (image : List ℕ) → images (inner_of disk) (behind state disk).moment image → IsImage (behind state disk).pending image) where
  abbrev im : FuseDisk D → ℕ → List ℕ → Type 0
  im f = images (inner_of f)

  abbrev at : ClientDisk → Option (List ClientTask) → Client
  at disk agenda = record { disk = disk; agenda = agenda }

  module _ (old : ClientNode D) (disk : ClientDisk) (table : ℕ) (r : Result (List RowPair) CallFault) (client : Journal (FuseDisk D)) (k : Looks (λ f. behind state f) im old.devs client r)
      (few : IfErr r (λ e. (e ≡ call.NoTable) ⊎ ((e ≡ call.NotInResolution) ⊎ IsFault e))) (new : ClientNode D) (fell : IsErrOf r call.Disk → Fell state images (record old { devs = client }) new) (other : (IsErrOf r call.Disk → ⊥) → new ≡ record old { devs = client }) where
    unspent : (q : Result (List RowPair) CallFault) → IfErr q (λ e. (e ≡ call.NoTable) ⊎ ((e ≡ call.NotInResolution) ⊎ IsFault e)) → (last : ℕ) → IsErrOf q (call.Spent last) → ⊥
    unspent (Ok x) h last is = cc
    unspent (Err e) h last is = let same : e ≡ call.Spent last = of_err e (call.Spent last) is in ⊎_elim (λ a. cc) (λ b. ⊎_elim (λ a. cc) (λ f. ⊎_elim (λ a. cc) (λ a. cc) f) b) h

    step_is : (tasks : List ClientTask) (shape : Shape) → step_with old shape (at disk (Some tasks)) (Conflicts table) ≡ quiet disk (Some tasks) (listed (is_open old table) (table_at (seen disk) table))
    step_is tasks shape =
        ap (unless_kept (at disk (Some tasks)) (if_closed (is_before_phase (Conflicts table) (conflicts_in disk tasks (table_at (seen disk) table)).answer) (is_open old table))) (no_link old.is_linked _ (conflicts_in disk tasks (table_at (seen disk) table)))
        ∙ lists_by (is_open old table) disk tasks table (table_at (seen disk) table)

    pub lists : (agenda : Option (List ClientTask)) → IsClient state old (at disk agenda) → old.is_up ≡ true → IsAnswered says (listed (is_open old table) (table_at (seen disk) table)) r
        → Does {T = List RowPair} state images (at disk agenda) (Conflicts table) says old new r
    lists None t is_up a = let no = t.at.0 in absurd cc
    lists (Some tasks) t is_up a =
        does_quiet state images only_now old disk (Some tasks) t is_up (Conflicts table) says (listed (is_open old table) (table_at (seen disk) table)) (λ shape of. step_is tasks shape) r client k a (unspent r few) new fell other

  -- the call was answered by what was found
  pub lists_settled : (old : ClientNode D) (disk : ClientDisk) (table : ℕ) (r : Result (List RowPair) CallFault) (client : Journal (FuseDisk D)) → Looks (λ f. behind state f) im old.devs client r
      → IfErr r (λ e. (e ≡ call.NoTable) ⊎ ((e ≡ call.NotInResolution) ⊎ IsFault e)) → (agenda : Option (List ClientTask)) → IsClient state old (at disk agenda) → old.is_up ≡ true → IsAnswered says (listed (is_open old table) (table_at (seen disk) table)) r
      → (q : Result (List RowPair) CallFault) → q ≡ r → (new : ClientNode D) → (IsErrOf q call.Disk → Fell state images (record old { devs = client }) new) → ((IsErrOf q call.Disk → ⊥) → new ≡ record old { devs = client })
      → Does {T = List RowPair} state images (at disk agenda) (Conflicts table) says old new q
  lists_settled old disk table r client k few agenda t is_up a q same new fell other =
      lists old disk table q client (subst (λ (x : Result (List RowPair) CallFault). Looks (λ f. behind state f) im old.devs client x) (sym same) k)
      (subst (λ (x : Result (List RowPair) CallFault). IfErr x (λ e. (e ≡ call.NoTable) ⊎ ((e ≡ call.NotInResolution) ⊎ IsFault e))) (sym same) few) new fell other agenda t is_up
      (subst (λ (x : Result (List RowPair) CallFault). IsAnswered says (listed (is_open old table) (table_at (seen disk) table)) x) (sym same) a)
