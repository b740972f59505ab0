-- A Store more: what the Stores hold then.
use Rattle.std.proofs.Common.{◌≡◌, ◌≢◌, ◌⊎◌, inl, inr, ⊎_elim, ℕ, map, Bool, true, false, cond, true≢false, List, [], ◌∷◌, Option, Some, None, refl, sym, ap, ◌∙◌, subst}
use Rattle.std.specs.Prelude.{◌==◌, ◌||◌, option_map, if◌then◌else◌}
use Rattle.std.specs.Ordering.{nat_cmp}
use Rattle.std.specs.FinSet as set
use Rattle.std.specs.BTreeMap.{is_at}
use Rattle.std.specs.BTreeMap as tree
use Rattle.std.specs.Map.{keys_of, lookup}
use Rattle.std.specs.List.{list_any}
use Rattle.std.specs.List.Sorted.{IsStrictlySortedBy}
use Rattle.std.proofs.lemmas.Map.Made.{lookup-map_values, keys_of-map_values}
use Rattle.disk_trait.specs.Calls.{DiskState}
use Rattle.stab_base.specs.declared.node.Node.{Node}
use Rattle.stab_base.specs.declared.node.Node.TheVariants as nodes
use Rattle.row_value.specs.declared.schema.Schema.{Schema}
use Rattle.ring_map.specs.Place.{position_of}
use Rattle.ring_map.specs.Owners.{comes_first, owner_on}
use Rattle.store_node.proofs.Handing.{moved_node}
use Rattle.world_tables.specs.World.{World, owner_by, owner_of, schema_at, hosted_at, has_store, has_node, joining, with_store}
use Rattle.world_tables.specs.World as world
use Rattle.store_host.specs.declared.hosted.Hosted.{Hosted}
use Rattle.store_host.specs.declared.host.StoreHost.{StoreHost}
use Rattle.store_host.specs.declared.store.StoreState.{StoreState}
use Rattle.disk_trait.specs.Fuse.{behind, inner_of}
use Rattle.store_commit.specs.Standing.{RowsLeave}
use Rattle.device_laws.specs.Stands.{HasRows}
use Rattle.store_host.specs.Holds.{HostedThere, HoldsTables, HoldsStore, StoreThere, AreDeclared, AreUp, IsUpAt, faults_in, SameFaults, AreStill}
use Rattle.store_host.specs.Joining.{moved_on, renewed}
use Rattle.store_host.proofs.Maps.{at_same, or_true}
use Rattle.store_host.proofs.Alike.{declared_more}
use Rattle.store_host.proofs.Downs.{number_itself, number_apart, at_itself, down_itself, down_other}
use Rattle.store_host.proofs.Keeping.{AreAt, are_at, renewed_is}

-- ---- a Store that joins takes a table, or leaves its owner

owner_joins : (n : ℕ) (stores : List ℕ) (o : Option Schema) → (owner_by (n ∷ stores) o ≡ n) ⊎ (owner_by (n ∷ stores) o ≡ owner_by stores o)
owner_joins n stores None = inr refl
owner_joins n [] (Some schema) = inl refl
owner_joins n (s ∷ stores) (Some schema) = go (comes_first (position_of schema.name) n (owner_on schema.name (s ∷ stores)))
  where
    go : (b : Bool) → ((if b then n else owner_on schema.name (s ∷ stores)) ≡ n) ⊎ ((if b then n else owner_on schema.name (s ∷ stores)) ≡ owner_on schema.name (s ∷ stores))
    go true = inl refl
    go false = inr refl

-- ---- whether one is down

-- one that a look-up finds
found_down : (es : List (ℕ × StoreState)) (q : ℕ) (s : StoreState) → lookup (is_at (nat_cmp q)) es ≡ Some s → s.is_down ≡ true → list_any (λ (e : ℕ × StoreState). e.1.is_down) es ≡ true
found_down [] q s at is = absurd cc
found_down (e ∷ es) q s at is = go (is_at (nat_cmp q) e.0) refl (λ later. found_down es q s later is)
  where
    go : (b : Bool) → is_at (nat_cmp q) e.0 ≡ b → (lookup (is_at (nat_cmp q)) es ≡ Some s → list_any (λ (x : ℕ × StoreState). x.1.is_down) es ≡ true)
        → (e.1.is_down || list_any (λ (x : ℕ × StoreState). x.1.is_down) es) ≡ true
    go true here rest =
        let both : Some e.1 ≡ Some s = ap (λ (b : Bool). if b then Some e.1 else lookup (is_at (nat_cmp q)) es) (sym here) ∙ at in
        let same : e.1 ≡ s = cc in
        ap (λ (x : StoreState). x.is_down || list_any (λ (y : ℕ × StoreState). y.1.is_down) es) same ∙ ap (λ (b : Bool). b || list_any (λ (y : ℕ × StoreState). y.1.is_down) es) is
    go false away rest =
        ap (λ (b : Bool). e.1.is_down || b) (rest (ap (λ (b : Bool). if b then Some e.1 else lookup (is_at (nat_cmp q)) es) (sym away) ∙ at)) ∙ or_true e.1.is_down

none_down : (f : ℕ → Option StoreState) → ((q : ℕ) (s : StoreState) → f q ≡ Some s → s.is_down ≡ false) → (es : List (ℕ × StoreState)) → AreAt f es → list_any (λ (e : ℕ × StoreState). e.1.is_down) es ≡ false
none_down f up [] a = refl
none_down f up (e ∷ es) a = ap (λ (b : Bool). b || list_any (λ (x : ℕ × StoreState). x.1.is_down) es) (up e.0 e.1 a.0) ∙ none_down f up es a.1

module _ {D : Type 0} (state : D → DiskState) (w : World) (old : StoreHost D) (h : HoldsStore state w old) (number : ℕ) where
  abbrev v : World
  v = with_store number w

  state_there : (q : ℕ) (o : Option StoreState) → StoreThere w q o → (s : StoreState) → o ≡ Some s → s.is_down ≡ has_node w.downs (nodes.Store q)
  state_there q None k s is = absurd cc
  state_there q (Some s) k t is = let same : s ≡ t = cc in ap (λ (x : StoreState). x.is_down) (sym same) ∙ k.down

  declared_there : (q : ℕ) (o : Option StoreState) → StoreThere w q o → has_store w q ≡ true → (s : StoreState) × (o ≡ Some s)
  declared_there q None k is = absurd (true≢false (sym is ∙ k))
  declared_there q (Some s) k is = (s, refl)

  -- whether the joining one is down
  pub down_is : IsStrictlySortedBy nat_cmp (keys_of old.stores.entries) → list_any (λ (e : ℕ × StoreState). e.1.is_down) old.stores.entries ≡ has_node (joining number w.downs) (nodes.Store number)
  down_is sorted = go w.downs refl
    where
      one : (node : Node) (downs : List Node) → w.downs ≡ node ∷ downs → AreDeclared w (node ∷ downs) → list_any (λ (e : ℕ × StoreState). e.1.is_down) old.stores.entries ≡ true
      one (nodes.Client c) downs is d = absurd d.0
      one (nodes.Gate gate) downs is d = absurd d.0
      one (nodes.Store m) downs is d =
          let s = declared_there m (tree.get nat_cmp old.stores m) (h.stores m) d.0 in
          let down : s.0.is_down ≡ true = state_there m (tree.get nat_cmp old.stores m) (h.stores m) s.0 s.1 ∙ (ap (λ (ds : List Node). has_node ds (nodes.Store m)) is ∙ down_itself m downs) in
          found_down old.stores.entries m s.0 s.1 down

      go : (downs : List Node) → w.downs ≡ downs → list_any (λ (e : ℕ × StoreState). e.1.is_down) old.stores.entries ≡ has_node (joining number downs) (nodes.Store number)
      go [] is = none_down (tree.get nat_cmp old.stores)
          (λ q s at. state_there q (tree.get nat_cmp old.stores q) (h.stores q) s at ∙ ap (λ (ds : List Node). has_node ds (nodes.Store q)) is)
          old.stores.entries (are_at old.stores.entries sorted)
      go (node ∷ downs) is = one node downs is (subst (λ (ds : List Node). AreDeclared w ds) is h.downs) ∙ sym (down_itself number (node ∷ downs))

  still_down : (q : ℕ) → q ≢ number → (downs : List Node) → has_node (joining number downs) (nodes.Store q) ≡ has_node downs (nodes.Store q)
  still_down q apart [] = refl
  still_down q apart (node ∷ downs) = down_other number q (node ∷ downs) apart

  declared_all : (downs : List Node) → AreDeclared w downs → AreDeclared v (joining number downs)
  declared_all [] d = tt
  declared_all (node ∷ downs) d = (
    ap (λ (b : Bool). b || has_store w number) (number_itself number),
    declared_more w v (λ q is. ap (λ (b : Bool). (q == number) || b) is ∙ or_true (q == number)) (node ∷ downs) d,
  )

  joined_up : AreUp v
  joined_up q found at made out = go w.downs refl (subst (λ (ds : List Node). has_node (joining number ds) (nodes.Store (owner_of v q)) ≡ false) refl out)
    where
      go : (downs : List Node) → w.downs ≡ downs → has_node (joining number downs) (nodes.Store (owner_of v q)) ≡ false → IsUpAt found.store.agenda
      go [] is away = h.ups q found at made (ap (λ (ds : List Node). has_node ds (nodes.Store (owner_of w q))) is)
      go (node ∷ downs) is away = ⊎_elim
          (λ own. absurd (true≢false (sym (ap (λ (n : ℕ). has_node (nodes.Store number ∷ node ∷ downs) (nodes.Store n)) own ∙ down_itself number (node ∷ downs)) ∙ away)))
          (λ own. h.ups q found at made (ap (λ (ds : List Node). has_node ds (nodes.Store (owner_of w q))) is
          ∙ not_first (owner_of w q == number) (has_node (node ∷ downs) (nodes.Store (owner_of w q))) (ap (λ (n : ℕ). has_node (nodes.Store number ∷ node ∷ downs) (nodes.Store n)) (sym own) ∙ away)))
          (owner_joins number w.stores (schema_at w q))
        where
          not_first : (a b : Bool) → (a || b) ≡ false → b ≡ false
          not_first true b e = absurd (true≢false e)
          not_first false b e = e

  -- ---- the tables

  moved_there : (q : ℕ) (o : Option world.Hosted) (p : Option (Hosted D)) → HostedThere state (owner_of w q) (schema_at w q) q o p → HostedThere state (owner_of v q) (schema_at v q) q o (option_map (moved_on (number ∷ w.stores)) p)
  moved_there q None None k = tt
  moved_there q None (Some it) k = absurd k
  moved_there q (Some hosted) None k = absurd k
  moved_there q (Some hosted) (Some it) k = record {
    schema = k.schema;
    number = k.number;
    owner = sym (ap (owner_by (number ∷ w.stores)) k.schema);
    node = moved_node state it.node (owner_on it.node.schema.name (number ∷ w.stores)) hosted.store.disk hosted.store.agenda k.node;
    made = k.made;
    history = k.history;
    told = k.told;
    sent = k.sent;
  }

  module _ (tables : tree.BTreeMap ℕ (Hosted D)) (moved : tables.entries ≡ map (λ e. (e.0, moved_on (number ∷ w.stores) e.1)) old.tables.entries) where
    pub moved_at : (q : ℕ) → tree.get nat_cmp tables q ≡ option_map (moved_on (number ∷ w.stores)) (tree.get nat_cmp old.tables q)
    moved_at q = ap (λ (es : List (ℕ × Hosted D)). lookup (is_at (nat_cmp q)) es) moved ∙ lookup-map_values (moved_on (number ∷ w.stores)) (is_at (nat_cmp q)) old.tables.entries

    joined_tables : HoldsTables state v tables
    joined_tables = record {
      there = λ q. subst (λ (o : Option (Hosted D)). HostedThere state (owner_of v q) (schema_at v q) q (hosted_at w q) o) (sym (moved_at q))
          (moved_there q (hosted_at w q) (tree.get nat_cmp old.tables q) (h.tables.there q));
      keys = h.tables.keys ∙ sym (ap (λ (es : List (ℕ × Hosted D)). keys_of es) moved ∙ keys_of-map_values (moved_on (number ∷ w.stores)) old.tables.entries);
      rising = h.tables.rising;
    }

    pub joined_faults : SameFaults state old.tables tables
    joined_faults q = ap (faults_in state) (moved_at q) ∙ same (tree.get nat_cmp old.tables q)
      where
        same : (o : Option (Hosted D)) → faults_in state (option_map (moved_on (number ∷ w.stores)) o) ≡ faults_in state o
        same None = refl
        same (Some it) = refl

    pub joined_still : (images : D → ℕ → List ℕ → Type 0) → AreStill state images w old.tables old.tables → AreStill state images w old.tables tables
    joined_still images k = record {
      rows = λ q hosted before after at made was is.
          let both : Some (moved_on (number ∷ w.stores) before) ≡ Some after = sym (moved_at q ∙ ap (option_map (moved_on (number ∷ w.stores))) was) ∙ is in
          let same : moved_on (number ∷ w.stores) before ≡ after = cc in
          subst (λ (x : Hosted D). RowsLeave (behind state) (λ f. images (inner_of f)) before.node.devs x.node.devs (λ held. HasRows before.node.schema held hosted.store.disk)) same
          (k.rows q hosted before before at made was was);
    }

    -- ---- the Stores

    module _ (ring : set.FinSet nat_cmp) (ring_is : ring ≡ set.insert old.ring number) (s : StoreState) (down : s.is_down ≡ has_node (joining number w.downs) (nodes.Store number)) (mid new : tree.BTreeMap ℕ StoreState)
        (put : (q : ℕ) → tree.get nat_cmp mid q ≡ cond (is_at (nat_cmp number) q) (Some s) (tree.get nat_cmp old.stores q))
        (said : (q : ℕ) → tree.get nat_cmp new q ≡ option_map (renewed q tables) (tree.get nat_cmp mid q)) where
      other_there : (q : ℕ) → q ≢ number → (o : Option StoreState) → StoreThere w q o → StoreThere v q (option_map (renewed q tables) o)
      other_there q apart None k = ap (λ (b : Bool). b || has_store w q) (number_apart q number apart) ∙ k
      other_there q apart (Some t) k =
          renewed_is state v tables joined_tables q t (ap (λ (b : Bool). (q == number) || b) k.declared ∙ or_true (q == number)) (k.down ∙ sym (still_down q apart w.downs))

      joined_at : (q : ℕ) → StoreThere v q (tree.get nat_cmp new q)
      joined_at q = subst (λ (o : Option StoreState). StoreThere v q o) (sym (said q ∙ ap (option_map (renewed q tables)) (put q))) (one (is_at (nat_cmp number) q) refl)
        where
          one : (b : Bool) → is_at (nat_cmp number) q ≡ b → StoreThere v q (option_map (renewed q tables) (cond b (Some s) (tree.get nat_cmp old.stores q)))
          one true is = subst (λ (n : ℕ). StoreThere v n (option_map (renewed n tables) (Some s))) (at_same number q is)
              (renewed_is state v tables joined_tables number s (ap (λ (b : Bool). b || has_store w number) (number_itself number)) down)
          one false is = other_there q (λ same. true≢false (sym (ap (λ (n : ℕ). is_at (nat_cmp number) n) same ∙ at_itself number) ∙ is)) (tree.get nat_cmp old.stores q) (h.stores q)

      pub joined : HoldsStore state v (record old { ring = ring; stores = new; tables = tables })
      joined = record {
        ring = ring_is ∙ ap (λ (r : set.FinSet nat_cmp). set.insert r number) h.ring;
        stores = joined_at;
        tables = joined_tables;
        downs = declared_all w.downs h.downs;
        ups = joined_up;
      }
