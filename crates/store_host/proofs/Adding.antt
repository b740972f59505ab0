-- A table more: what the Stores hold then.
use Rattle.std.proofs.Common.{◌≡◌, ◌≢◌, ℕ, map, Bool, true, false, cond, true≢false, List, [], ◌∷◌, Option, Some, None, refl, sym, ap, ◌∙◌, subst, ⊎_elim}
use Rattle.std.specs.Prelude.{◌==◌, filter, option_map, if◌then◌else◌}
use Rattle.std.specs.declared.cmp.Ordering.{Ordering}
use Rattle.std.specs.declared.cmp.Ordering.TheVariants.{Less, Equal, Greater}
use Rattle.std.specs.Ordering.{nat_cmp, is_eq, match_ordering}
use Rattle.std.specs.Cmp.{nat_cmp_total}
use Rattle.std.specs.BTreeMap.{is_at, insert_entry}
use Rattle.std.specs.BTreeMap as tree
use Rattle.std.specs.BTreeSet.{insert_key}
use Rattle.std.specs.Map.{keys_of, lookup}
use Rattle.std.specs.List.{list_any}
use Rattle.std.specs.List.Sorted.{IsStrictlySortedBy}
use Rattle.std.proofs.lemmas.Cmp.{tied_itself}
use Rattle.disk_trait.specs.Calls.{DiskState}
use Rattle.stab_base.specs.declared.node.Node.TheVariants as nodes
use Rattle.row_value.specs.declared.schema.Schema.{Schema}
use Rattle.step_tables.proofs.Lists.{lookup-insert}
use Rattle.world_tables.specs.World.{World, owner_by, owner_of, schema_at, hosted_at, has_store, tables_of, is_unmade, has_unmade, has_node, with_table, new_hosted}
use Rattle.world_tables.specs.World as world
use Rattle.store_host.specs.declared.hosted.Hosted.{Hosted}
use Rattle.store_host.specs.declared.host.StoreHost.{StoreHost}
use Rattle.store_host.specs.declared.store.StoreState.{StoreState}
use Rattle.store_host.specs.Holds.{IsHosted, HostedThere, HoldsTables, HoldsStore, StoreThere, IsUpAt, AreUp}
use Rattle.store_host.specs.Joining.{kept_by, renewed}
use Rattle.table_model.specs.declared.table_state.TableState.{TableState}
use Rattle.store_host.proofs.Maps.{put_there, not_found, keys_put, at_same, look_cases}
use Rattle.store_host.proofs.Alike.{declared_more}
use Rattle.store_host.proofs.Downs.{at_itself, number_apart, of_owner, any_alike}
use Rattle.store_host.proofs.Keeping.{kept_is, renewed_is}

-- another Store keeps what it kept
kept_beside : {D : Type 0} (store : ℕ) (es : List (ℕ × Hosted D)) (k : ℕ) (it : Hosted D) → (it.node.store == store) ≡ false → lookup (is_at (nat_cmp k)) es ≡ None
    → kept_by store (insert_entry nat_cmp es k it) ≡ kept_by store es
kept_beside {D} store [] k it other none = ap (λ (b : Bool). map (λ (x : ℕ × Hosted D). x.0) (if b then (k, it) ∷ [] else [])) other
kept_beside {D} store (e ∷ es) k it other none = go (nat_cmp k e.0) refl (λ gone. kept_beside store es k it other gone)
  where
    before : List (ℕ × Hosted D) → List ℕ
    before l = map (λ (x : ℕ × Hosted D). x.0) (filter (λ (x : ℕ × Hosted D). x.1.node.store == store) l)

    with_first : (b : Bool) (x y : List (ℕ × Hosted D)) → before x ≡ before y
        → map (λ (x : ℕ × Hosted D). x.0) (if b then e ∷ filter (λ (z : ℕ × Hosted D). z.1.node.store == store) x else filter (λ (z : ℕ × Hosted D). z.1.node.store == store) x)
        ≡ map (λ (x : ℕ × Hosted D). x.0) (if b then e ∷ filter (λ (z : ℕ × Hosted D). z.1.node.store == store) y else filter (λ (z : ℕ × Hosted D). z.1.node.store == store) y)
    with_first true x y same = ap (λ (l : List ℕ). e.0 ∷ l) same
    with_first false x y same = same

    go : (o : Ordering) → nat_cmp k e.0 ≡ o → (lookup (is_at (nat_cmp k)) es ≡ None → before (insert_entry nat_cmp es k it) ≡ before es)
        → before (match_ordering o ((k, it) ∷ e ∷ es) ((e.0, it) ∷ es) (e ∷ insert_entry nat_cmp es k it)) ≡ before (e ∷ es)
    go Less is rest = ap (λ (b : Bool). map (λ (x : ℕ × Hosted D). x.0)
        (if b then (k, it) ∷ filter (λ (z : ℕ × Hosted D). z.1.node.store == store) (e ∷ es) else filter (λ (z : ℕ × Hosted D). z.1.node.store == store) (e ∷ es))) other
    go Equal is rest = absurd (let here : Some e.1 ≡ None = ap (λ (r : Ordering). cond (is_eq r) (Some e.1) (lookup (is_at (nat_cmp k)) es)) (sym is) ∙ none in cc)
    go Greater is rest = with_first (e.1.node.store == store) (insert_entry nat_cmp es k it) es
        (rest (ap (λ (r : Ordering). cond (is_eq r) (Some e.1) (lookup (is_at (nat_cmp k)) es)) (sym is) ∙ none))

module _ {D : Type 0} (state : D → DiskState) (w : World) (old : StoreHost D) (h : HoldsStore state w old) (schema : Schema) (stage : TableState) (made : Bool) (table : ℕ) (it : Hosted D) (new : tree.BTreeMap ℕ (Hosted D))
    (none : tree.get nat_cmp old.tables table ≡ None) (u : (q : ℕ) → tree.get nat_cmp new q ≡ cond (is_at (nat_cmp table) q) (Some it) (tree.get nat_cmp old.tables q))
    (entries : new.entries ≡ insert_entry nat_cmp old.tables.entries table it) (rising : IsStrictlySortedBy nat_cmp (keys_of new.entries))
    (at : IsHosted state (owner_by w.stores (Some schema)) (Some schema) table (new_hosted stage made) it) where
  abbrev v : World
  v = with_table w table schema stage made

  look : (q : ℕ) → schema_at v q ≡ cond (is_at (nat_cmp table) q) (Some schema) (schema_at w q)
  look q = lookup-insert nat_cmp nat_cmp_total w.schemas table schema q

  schema_here : schema_at v table ≡ Some schema
  schema_here = look table ∙ ap (λ (r : Ordering). cond (is_eq r) (Some schema) (schema_at w table)) (tied_itself nat_cmp_total table)

  schema_else : (q : ℕ) → is_at (nat_cmp table) q ≡ false → schema_at v q ≡ schema_at w q
  schema_else q away = look q ∙ ap (λ (b : Bool). cond b (Some schema) (schema_at w q)) away

  owner_here : owner_of v table ≡ it.node.store
  owner_here = ap (owner_by w.stores) schema_here ∙ sym at.owner

  owner_else : (q : ℕ) → is_at (nat_cmp table) q ≡ false → owner_of v q ≡ owner_of w q
  owner_else q away = ap (owner_by w.stores) (schema_else q away)

  not_hosted : hosted_at w table ≡ None
  not_hosted = not_found state w old.tables table h.tables (sym none)

  others : (q : ℕ) (b : Bool) → is_at (nat_cmp table) q ≡ b → HostedThere state (owner_of v q) (schema_at v q) q (hosted_at w q) (tree.get nat_cmp old.tables q)
  others q true is_it =
      subst (λ (k : ℕ). HostedThere state (owner_of v k) (schema_at v k) k (hosted_at w k) (tree.get nat_cmp old.tables k)) (at_same table q is_it)
      (subst (λ (o : Option world.Hosted). HostedThere state (owner_of v table) (schema_at v table) table o (tree.get nat_cmp old.tables table)) (sym not_hosted)
      (subst (λ (o : Option (Hosted D)). HostedThere state (owner_of v table) (schema_at v table) table None o) (sym none) tt))
  others q false away =
      subst (λ (n : ℕ). HostedThere state n (schema_at v q) q (hosted_at w q) (tree.get nat_cmp old.tables q)) (sym (owner_else q away))
      (subst (λ (o : Option Schema). HostedThere state (owner_of w q) o q (hosted_at w q) (tree.get nat_cmp old.tables q)) (sym (schema_else q away)) (h.tables.there q))

  keys : keys_of v.tables ≡ keys_of new.entries
  keys = keys_put w.tables table (new_hosted stage made)
      ∙ (ap (λ (ks : List ℕ). insert_key nat_cmp ks table) h.tables.keys ∙ (sym (keys_put old.tables.entries table it) ∙ sym (ap (λ (es : List (ℕ × Hosted D)). keys_of es) entries)))

  put_tables : HoldsTables state v new
  put_tables = record {
    there = put_there state w old.tables new table it u (new_hosted stage made) (owner_of v) (schema_at v) (λ q. others q (is_at (nat_cmp table) q) refl)
        (subst (λ (n : ℕ). IsHosted state n (schema_at v table) table (new_hosted stage made) it) (sym (owner_here ∙ at.owner))
        (subst (λ (o : Option Schema). IsHosted state (owner_by w.stores (Some schema)) o table (new_hosted stage made) it) (sym schema_here) at));
    keys = keys;
    rising = subst (λ (ks : List ℕ). IsStrictlySortedBy nat_cmp ks) (sym keys) rising;
  }

  -- another Store
  tables_else : (store : ℕ) → store ≢ it.node.store → has_store w store ≡ true → tables_of v store ≡ tables_of w store
  tables_else store apart declared =
      sym (kept_is state v new put_tables store declared)
      ∙ (ap (λ (es : List (ℕ × Hosted D)). kept_by store es) entries
      ∙ (kept_beside store old.tables.entries table it (number_apart it.node.store store (λ e. apart (sym e))) none ∙ kept_is state w old.tables h.tables store declared))

  unmade_else : (store : ℕ) → store ≢ it.node.store → has_store w store ≡ true → has_unmade v store ≡ has_unmade w store
  unmade_else store apart declared =
      any_alike (λ q. is_unmade (hosted_at v q)) (λ q. is_unmade (hosted_at w q)) (tables_of v store) (λ q there. same q (of_owner v store q there))
      ∙ ap (λ (ns : List ℕ). list_any (λ q. is_unmade (hosted_at w q)) ns) (tables_else store apart declared)
    where
      same : (q : ℕ) → owner_of v q ≡ store → is_unmade (hosted_at v q) ≡ is_unmade (hosted_at w q)
      same q own = ⊎_elim
          (λ e. absurd (apart (sym own ∙ (ap (owner_of v) e.0 ∙ owner_here))))
          (λ e. ap is_unmade e.1)
          (look_cases w.tables table (new_hosted stage made) q)

  store_else : (store : ℕ) → store ≢ it.node.store → (o : Option StoreState) → StoreThere w store o → StoreThere v store o
  store_else store apart None k = k
  store_else store apart (Some s) k =
      record { declared = k.declared; tables = k.tables ∙ sym (tables_else store apart k.declared); down = k.down; late = k.late ∙ sym (unmade_else store apart k.declared) }

  store_here : (store : ℕ) → (o : Option StoreState) → StoreThere w store o → StoreThere v store (option_map (renewed store new) o)
  store_here store None k = k
  store_here store (Some s) k = renewed_is state v new put_tables store s k.declared k.down

  put_up : AreUp v
  put_up q found there is out = ⊎_elim
      (λ e. let both : Some (new_hosted stage made) ≡ Some found = sym e.1 ∙ there in let same : new_hosted stage made ≡ found = cc in
      subst (λ (x : world.Hosted). IsUpAt x.store.agenda) same (up_here made (ap (λ (x : world.Hosted). x.made) same ∙ is)))
      (λ e. h.ups q found (sym e.1 ∙ there) is (ap (λ (n : ℕ). has_node w.downs (nodes.Store n)) (sym (owner_else q (away q e.0))) ∙ out))
      (look_cases w.tables table (new_hosted stage made) q)
    where
      up_here : (b : Bool) → b ≡ true → IsUpAt (new_hosted stage b).store.agenda
      up_here true is = ([], refl)
      up_here false is = absurd (true≢false (sym is))

      away : (q : ℕ) → q ≢ table → is_at (nat_cmp table) q ≡ false
      away q apart = go (is_at (nat_cmp table) q) refl
        where
          go : (b : Bool) → is_at (nat_cmp table) q ≡ b → is_at (nat_cmp table) q ≡ false
          go true same = absurd (apart (sym (at_same table q same)))
          go false is = is

  pub put_is : (stores : tree.BTreeMap ℕ StoreState) (store : ℕ) → store ≡ it.node.store
      → ((q : ℕ) → tree.get nat_cmp stores q ≡ (if is_at (nat_cmp store) q then option_map (renewed store new) (tree.get nat_cmp old.stores q) else tree.get nat_cmp old.stores q))
      → HoldsStore state v (record old { tables = new; stores = stores })
  put_is stores store own s = record {
    ring = h.ring;
    stores = λ q. subst (λ (o : Option StoreState). StoreThere v q o) (sym (s q)) (one q (is_at (nat_cmp store) q) refl);
    tables = put_tables;
    downs = declared_more w v (λ n is. is) w.downs h.downs;
    ups = put_up;
  }
    where
      one : (q : ℕ) (b : Bool) → is_at (nat_cmp store) q ≡ b → StoreThere v q (if b then option_map (renewed store new) (tree.get nat_cmp old.stores q) else tree.get nat_cmp old.stores q)
      one q true is = subst (λ (n : ℕ). StoreThere v n (option_map (renewed store new) (tree.get nat_cmp old.stores n))) (at_same store q is) (store_here store (tree.get nat_cmp old.stores store) (h.stores store))
      one q false is = store_else q (λ e. true≢false (sym (ap (λ (n : ℕ). is_at (nat_cmp store) n) (e ∙ sym own) ∙ at_itself store) ∙ is)) (tree.get nat_cmp old.stores q) (h.stores q)
