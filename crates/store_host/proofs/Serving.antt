-- What the Stores make of messages and of rows, by what their tables make of them.
use Rattle.std.proofs.Common.{◌≡◌, ℕ, Bool, true, false, true≢false, List, [], ◌∷◌, Option, Some, None, Result, Err, refl, sym, ap, ◌∙◌, subst}
use Rattle.std.specs.Prelude.{◌==◌, ◌||◌, not, IsSome, IsErrOf}
use Rattle.std.proofs.lemmas.Result.{on_ok_weaker, on_err_weaker}
use Rattle.std.specs.List.{list_any}
use Rattle.std.specs.Ordering.{nat_cmp}
use Rattle.std.specs.BTreeMap as tree
use Rattle.disk_trait.specs.Calls.{DiskState}
use Rattle.stab_base.specs.declared.node.Node.{Node}
use Rattle.stab_base.specs.declared.node.Node.TheVariants as nodes
use Rattle.step_tables.specs.Messages as messages
use Rattle.step_tables.specs.StoreMoves.{SidePut, Take, Place, Crash}
use Rattle.step_tables.specs.Travels.{message_of}
use Rattle.step_tables.specs.declared.message.Message.{Message}
use Rattle.store_node.specs.declared.fault.NodeFault.{NodeFault}
use Rattle.store_node.specs.declared.fault.NodeFault.TheVariants.{Disk as DiskFailed}
use Rattle.store_node.specs.declared.showing.ShownRow.{ShownRow}
use Rattle.store_node.specs.declared.showing.WholeRow.{WholeRow}
use Rattle.world_tables.specs.World.{World, hosted_at, owner_of, has_store, tables_of, is_unmade, has_unmade, has_node, table_falls, store_falls}
use Rattle.store_host.specs.declared.hosted.Hosted.{Hosted}
use Rattle.store_host.specs.declared.hosted.TableOut.{TableOut}
use Rattle.store_host.specs.declared.host.StoreHost.{StoreHost}
use Rattle.store_host.specs.declared.store.StoreState.{StoreState}
use Rattle.store_host.specs.Holds.{HoldsTables, HoldsParts, HoldsStore, StoreThere, IsUpNode, IsUpTable, store_in, owner_at, is_up_by, is_up_at, is_up_if, is_up_for, outs_in}
use Rattle.store_host.specs.Calls.{AreMoved, IsMoved, ArePlaced, PutsBeside, AreTaken, Takes, AreShown, ShowsRow, AreGiven, GivesRow, table_in}
use Rattle.store_host.proofs.Hosting.{up_node}
use Rattle.store_host.proofs.Maps.{has, has_found, found}
use Rattle.store_host.proofs.Alike.{alike_but, move_alike, has_same}
use Rattle.store_host.proofs.Downs.{owns, number_same}
use Rattle.store_host.proofs.Ups.{take_up, place_up, move_but}
use Rattle.store_host.proofs.Stores.{moved_is, moved_parts}
use Rattle.store_host.proofs.Falls.{falls_again}

-- ---- truth values

neither : (a b : Bool) → not (a || b) ≡ true → (a ≡ false) × (b ≡ false)
neither true b is = absurd (true≢false (sym is))
neither false true is = absurd (true≢false (sym is))
neither false false is = (refl, refl)

not_not : (b : Bool) → not b ≡ false → b ≡ true
not_not true is = refl
not_not false is = absurd (true≢false is)

any_false : (f : ℕ → Bool) (ks : List ℕ) → list_any f ks ≡ false → (k : ℕ) → has ks k ≡ true → f k ≡ false
any_false f [] none k there = absurd (true≢false (sym there))
any_false f (q ∷ ks) none k there = go (f q) refl (k == q) refl (any_false f ks)
  where
    go : (a : Bool) → f q ≡ a → (b : Bool) → (k == q) ≡ b → (list_any f ks ≡ false → (k : ℕ) → has ks k ≡ true → f k ≡ false) → f k ≡ false
    go true hit b at rest = absurd (true≢false (sym (ap (λ (x : Bool). x || list_any f ks) hit) ∙ none))
    go false miss true at rest = ap f (number_same k q at) ∙ miss
    go false miss false at rest = rest (sym (ap (λ (x : Bool). x || list_any f ks) miss) ∙ none) k (sym (ap (λ (x : Bool). x || has ks k) at) ∙ there)

module _ {D : Type 0} (state : D → DiskState) (w : World) (old : StoreHost D) (h : HoldsStore state w old) where
  same_store : (tables : tree.BTreeMap ℕ (Hosted D)) (outs : List TableOut) → HoldsTables state w tables → HoldsStore state w (record old { tables = tables; outs = outs })
  same_store tables outs k = record { ring = h.ring; stores = h.stores; tables = k; downs = h.downs; ups = h.ups }

  -- ---- a table whose owner is up

  module _ (table : ℕ) (up : is_up_for old table ≡ true) where
    -- where it is there its owner is declared, and it is up
    made_up : (number : ℕ) (o : Option StoreState) → StoreThere w number o → is_up_by o ≡ true → (has_store w number ≡ true) × (has_node w.downs (nodes.Store number) ≡ false) × (has_unmade w number ≡ false)
    made_up number None k is = absurd (true≢false (sym is))
    made_up number (Some s) k is = let b = neither s.is_down s.is_late is in (k.declared, sym k.down ∙ b.0, sym k.late ∙ b.1)

    found_here : (it : Hosted D) → Some it ≡ tree.get nat_cmp old.tables table → (it.node.store ≡ owner_of w table) × (has_store w it.node.store ≡ true) × (it.node.is_up ≡ true)
    found_here it there =
        let f = found state w old.tables table it h.tables there in
        let is_up : is_up_at old it.node.store ≡ true = ap (is_up_if old) there ∙ up in
        let m = made_up it.node.store (tree.get nat_cmp old.stores it.node.store) (h.stores it.node.store) is_up in
        let own : owner_of w table ≡ it.node.store = sym f.2.owner in
        let mine = owns w it.node.store table m.0 (has_found w.tables table f.0 f.1) own in
        let unmade : is_unmade (Some f.0) ≡ false = ap is_unmade (sym f.1) ∙ any_false (λ q. is_unmade (hosted_at w q)) (tables_of w it.node.store) m.2 table mine in
        let made : f.0.made ≡ true = not_not f.0.made unmade in
        (f.2.owner, m.0, up_node state it.node f.0.store.disk f.0.store.agenda f.2.node (h.ups table f.0 f.1 made (ap (λ (n : ℕ). has_node w.downs (nodes.Store n)) own ∙ m.1)))

    pub up_table : IsUpTable old.tables table
    up_table = go (tree.get nat_cmp old.tables table) refl
      where
        go : (o : Option (Hosted D)) → tree.get nat_cmp old.tables table ≡ o → IsUpNode o
        go None is = tt
        go (Some it) is = (found_here it (sym is)).2

    owner_is : IsSome (tree.get nat_cmp old.tables table) → (owner_of w table ≡ owner_at old.tables table) × (has_store w (owner_at old.tables table) ≡ true)
    owner_is some = go (tree.get nat_cmp old.tables table) refl some
      where
        go : (o : Option (Hosted D)) → tree.get nat_cmp old.tables table ≡ o → IsSome o → (owner_of w table ≡ store_in o) × (has_store w (store_in o) ≡ true)
        go None is some = absurd cc
        go (Some it) is some = let k = found_here it (sym is) in (sym k.0, k.1)

    -- the owner that was looked up
    pub owned : (number number_of : ℕ) → number ≡ owner_at old.tables number_of → number_of ≡ table → IsSome (tree.get nat_cmp old.tables table) → (owner_of w table ≡ number) × (has_store w number ≡ true)
    owned number number_of is same some =
        let all = is ∙ ap (owner_at old.tables) same in
        let o = owner_is some in
        (o.0 ∙ sym all, ap (has_store w) all ∙ o.1)

  -- ---- a table that fell, and its owner with it

  module _ (table number : ℕ) (own : owner_of w table ≡ number) where
    pub table_fell : (tables : tree.BTreeMap ℕ (Hosted D)) (outs : List TableOut) → AreMoved state w tables [] [] false (table_falls table w)
        → HoldsParts state (table_falls table w).world number (record old { tables = tables; outs = outs })
    table_fell tables outs a =
        let v = (table_falls table w).world in
        moved_parts state w old h tables outs number v a.held a.downs (alike_but number w v (move_alike w table (Crash messages.FailedBefore) h.tables.rising))
        (move_but w number table (Crash messages.FailedBefore) own h.ups)

    falls_with : (tables : tree.BTreeMap ℕ (Hosted D)) (outs : List TableOut) (new : StoreHost D) → has_store w number ≡ true → AreMoved state w tables [] [] false (table_falls table w) → outs ≡ old.outs
        → ((x : World) → HoldsParts state x number (record old { tables = tables; outs = outs }) → has_store x number ≡ true → IsMoved state (record old { tables = tables; outs = outs }) new (store_falls number x))
        → IsMoved state old new (store_falls (owner_of w table) w)
    falls_with tables outs new declared a same falls =
        let v = (table_falls table w).world in
        subst (λ (n : ℕ). IsMoved state old new (store_falls n w)) (sym own)
        (falls_again w number table declared own state h.tables.rising old (record old { tables = tables; outs = outs }) new (ap outs_in same)
        (falls v (table_fell tables outs a) (has_same w v (move_alike w table (Crash messages.FailedBefore) h.tables.rising).kept number ∙ declared)))

  -- ---- messages

  module _ (from : Node) (message : Message) (tables : tree.BTreeMap ℕ (Hosted D)) (outs : List TableOut) where
    pub took : (r : Result (Unit {0}) NodeFault) → (IsErrOf r DiskFailed → ⊥) → AreTaken state w from message tables old.outs outs r
        → Takes state w from message old (record old { tables = tables; outs = outs }) r
    took r sound k = record {
      done = λ fits. on_ok_weaker r (λ a. moved_is state w old h tables outs false _ a (move_alike w (table_in message) (Take from (message_of message)) h.tables.rising) (take_up w (table_in message) from (message_of message) h.ups)) (k.done fits);
      dropped = λ isnt. on_ok_weaker r (λ a. (same_store tables outs a.0, a.1)) (k.dropped isnt);
      idle = k.idle;
      busy = k.busy;
      given = k.given;
      spent = k.spent;
      refused = λ other. on_err_weaker r (λ a. same_store tables outs a.0) (k.refused other);
      fallen = λ is. absurd (sound is);
    }

    took_badly : (number : ℕ) → owner_of w (table_in message) ≡ number → has_store w number ≡ true → (new : StoreHost D) → AreTaken state w from message tables old.outs outs (Err DiskFailed)
        → ((x : World) → HoldsParts state x number (record old { tables = tables; outs = outs }) → has_store x number ≡ true → IsMoved state (record old { tables = tables; outs = outs }) new (store_falls number x))
        → Takes state w from message old new (Err DiskFailed)
    took_badly number own declared new k falls = record {
      done = λ _. tt;
      dropped = λ _. tt;
      idle = k.idle;
      busy = k.busy;
      given = k.given;
      spent = k.spent;
      refused = λ no. absurd (no refl);
      fallen = λ _. let x = k.fallen refl in falls_with (table_in message) number own tables outs new declared x.0 x.1 falls;
    }

    pub took_falling : (number : ℕ) → owner_of w (table_in message) ≡ number → has_store w number ≡ true → (new : StoreHost D) (e : NodeFault) → e ≡ DiskFailed → AreTaken state w from message tables old.outs outs (Err e)
        → ((x : World) → HoldsParts state x number (record old { tables = tables; outs = outs }) → has_store x number ≡ true → IsMoved state (record old { tables = tables; outs = outs }) new (store_falls number x))
        → Takes state w from message old new (Err DiskFailed)
    took_falling number own declared new e is k = took_badly number own declared new (subst (λ (f : NodeFault). AreTaken state w from message tables old.outs outs (Err f)) is k)

    pub took_parts : (number : ℕ) → owner_of w (table_in message) ≡ number → (e : NodeFault) → e ≡ DiskFailed → AreTaken state w from message tables old.outs outs (Err e) → HoldsParts state (table_falls (table_in message) w).world number (record old { tables = tables; outs = outs })
    took_parts number own e is k = table_fell (table_in message) number own tables outs (k.fallen (ap Err is)).0

  -- ---- rows

  module _ (table : ℕ) (row : List ℕ) (tables : tree.BTreeMap ℕ (Hosted D)) where
    pub showed : (r : Result (Option ShownRow) NodeFault) → (IsErrOf r DiskFailed → ⊥) → AreShown state w table row tables r → ShowsRow state w table row old (record old { tables = tables }) r
    showed r sound k = record { shown = k.shown; stays = λ other. same_store tables old.outs (k.stays other); fallen = λ is. absurd (sound is) }

    showed_badly : (number : ℕ) → owner_of w table ≡ number → has_store w number ≡ true → (new : StoreHost D) → AreShown state w table row tables (Err DiskFailed)
        → ((x : World) → HoldsParts state x number (record old { tables = tables }) → has_store x number ≡ true → IsMoved state (record old { tables = tables }) new (store_falls number x)) → ShowsRow state w table row old new (Err DiskFailed)
    showed_badly number own declared new k falls = record { shown = λ hosted here. tt; stays = λ no. absurd (no refl); fallen = λ _. falls_with table number own tables old.outs new declared (k.fallen refl) refl falls }

    pub showed_falling : (number : ℕ) → owner_of w table ≡ number → has_store w number ≡ true → (new : StoreHost D) (e : NodeFault) → e ≡ DiskFailed → AreShown state w table row tables (Err e)
        → ((x : World) → HoldsParts state x number (record old { tables = tables }) → has_store x number ≡ true → IsMoved state (record old { tables = tables }) new (store_falls number x)) → ShowsRow state w table row old new (Err DiskFailed)
    showed_falling number own declared new e is k = showed_badly number own declared new (subst (λ (f : NodeFault). AreShown state w table row tables (Err f)) is k)

    pub showed_parts : (number : ℕ) → owner_of w table ≡ number → (e : NodeFault) → e ≡ DiskFailed → AreShown state w table row tables (Err e) → HoldsParts state (table_falls table w).world number (record old { tables = tables; outs = old.outs })
    showed_parts number own e is k = table_fell table number own tables old.outs (k.fallen (ap Err is))

    pub gave : (r : Result (Option WholeRow) NodeFault) → (IsErrOf r DiskFailed → ⊥) → AreGiven state w table row tables r → GivesRow state w table row old (record old { tables = tables }) r
    gave r sound k = record { given = k.given; stays = λ other. same_store tables old.outs (k.stays other); fallen = λ is. absurd (sound is) }

    gave_badly : (number : ℕ) → owner_of w table ≡ number → has_store w number ≡ true → (new : StoreHost D) → AreGiven state w table row tables (Err DiskFailed)
        → ((x : World) → HoldsParts state x number (record old { tables = tables }) → has_store x number ≡ true → IsMoved state (record old { tables = tables }) new (store_falls number x)) → GivesRow state w table row old new (Err DiskFailed)
    gave_badly number own declared new k falls = record { given = λ hosted here. tt; stays = λ no. absurd (no refl); fallen = λ _. falls_with table number own tables old.outs new declared (k.fallen refl) refl falls }

    pub gave_falling : (number : ℕ) → owner_of w table ≡ number → has_store w number ≡ true → (new : StoreHost D) (e : NodeFault) → e ≡ DiskFailed → AreGiven state w table row tables (Err e)
        → ((x : World) → HoldsParts state x number (record old { tables = tables }) → has_store x number ≡ true → IsMoved state (record old { tables = tables }) new (store_falls number x)) → GivesRow state w table row old new (Err DiskFailed)
    gave_falling number own declared new e is k = gave_badly number own declared new (subst (λ (f : NodeFault). AreGiven state w table row tables (Err f)) is k)

    pub gave_parts : (number : ℕ) → owner_of w table ≡ number → (e : NodeFault) → e ≡ DiskFailed → AreGiven state w table row tables (Err e) → HoldsParts state (table_falls table w).world number (record old { tables = tables; outs = old.outs })
    gave_parts number own e is k = table_fell table number own tables old.outs (k.fallen (ap Err is))

  -- ---- what is put beside the rows

  module _ (table : ℕ) (put : SidePut) (tables : tree.BTreeMap ℕ (Hosted D)) where
    pub placed_well : (r : Result (Unit {0}) NodeFault) → (IsErrOf r DiskFailed → ⊥) → ArePlaced state w table put tables r → PutsBeside state w table put old (record old { tables = tables }) r
    placed_well r sound k = record {
      done = on_ok_weaker r (λ a. moved_is state w old h tables old.outs false _ a (move_alike w table (Place put) h.tables.rising) (place_up w table put h.ups)) (k.done old.outs);
      idle = k.idle;
      busy = k.busy;
      not_spent = k.not_spent;
      refused = λ other. on_err_weaker r (λ a. same_store tables old.outs a) (k.refused other);
      fallen = λ is. absurd (sound is);
    }

    placed_badly : (number : ℕ) → owner_of w table ≡ number → has_store w number ≡ true → (new : StoreHost D) → ArePlaced state w table put tables (Err DiskFailed)
        → ((x : World) → HoldsParts state x number (record old { tables = tables }) → has_store x number ≡ true → IsMoved state (record old { tables = tables }) new (store_falls number x)) → PutsBeside state w table put old new (Err DiskFailed)
    placed_badly number own declared new k falls = record {
      done = tt;
      idle = k.idle;
      busy = k.busy;
      not_spent = k.not_spent;
      refused = λ no. absurd (no refl);
      fallen = λ _. falls_with table number own tables old.outs new declared (k.fallen refl) refl falls;
    }

    pub placed_falling : (number : ℕ) → owner_of w table ≡ number → has_store w number ≡ true → (new : StoreHost D) (e : NodeFault) → e ≡ DiskFailed → ArePlaced state w table put tables (Err e)
        → ((x : World) → HoldsParts state x number (record old { tables = tables }) → has_store x number ≡ true → IsMoved state (record old { tables = tables }) new (store_falls number x)) → PutsBeside state w table put old new (Err DiskFailed)
    placed_falling number own declared new e is k = placed_badly number own declared new (subst (λ (f : NodeFault). ArePlaced state w table put tables (Err f)) is k)

    pub placed_parts : (number : ℕ) → owner_of w table ≡ number → (e : NodeFault) → e ≡ DiskFailed → ArePlaced state w table put tables (Err e) → HoldsParts state (table_falls table w).world number (record old { tables = tables; outs = old.outs })
    placed_parts number own e is k = table_fell table number own tables old.outs (k.fallen (ap Err is))
