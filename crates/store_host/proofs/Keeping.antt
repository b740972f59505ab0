-- What a Store says of its tables is what the world says of them.
use Rattle.std.proofs.Common.{◌≡◌, ℕ, map, Bool, true, false, List, [], ◌∷◌, Option, Some, None, refl, sym, ap, ◌∙◌, subst}
use Rattle.std.specs.Prelude.{◌==◌, filter, if◌then◌else◌}
use Rattle.std.specs.declared.cmp.Ordering.TheVariants.{Less}
use Rattle.std.specs.Ordering.{nat_cmp}
use Rattle.std.proofs.lemmas.Bool.Decides.{nat_tests}
use Rattle.std.proofs.Common.{arith}
use Rattle.std.specs.BTreeMap.{is_at}
use Rattle.std.specs.BTreeMap as tree
use Rattle.std.specs.Map.{keys_of, lookup}
use Rattle.std.specs.List.{AllByRecursion}
use Rattle.std.specs.List.Sorted.{IsStrictlySortedBy}
use Rattle.std.proofs.lemmas.Map.Keys.{sorted_head, sorted_tail}
use Rattle.disk_trait.specs.Calls.{DiskState}
use Rattle.row_value.specs.declared.schema.Schema.{Schema}
use Rattle.world_tables.specs.World.{World, owner_of, schema_at, hosted_at, has_store, tables_of, has_unmade, has_node}
use Rattle.world_tables.specs.World as world
use Rattle.stab_base.specs.declared.node.Node.TheVariants as nodes
use Rattle.store_host.specs.declared.hosted.Hosted.{Hosted}
use Rattle.store_host.specs.declared.store.StoreState.{StoreState}
use Rattle.store_host.specs.Holds.{HostedThere, HoldsTables, StoreThere}
use Rattle.store_host.specs.Joining.{kept_by, renewed}
use Rattle.store_host.proofs.Downs.{at_itself}
use Rattle.store_host.proofs.Stores.{unmade_is}

-- ---- entries by their keys

-- what f says of each key is its value
abbrev pub AreAt : {X : Type 0} → (ℕ → Option X) → List (ℕ × X) → Type 0
AreAt f [] = Unit {0}
AreAt f (e ∷ es) = (f e.0 ≡ Some e.1) × AreAt f es

above : {X : Type 0} (e : ℕ × X) (all es : List (ℕ × X)) → AllByRecursion (λ (k : ℕ). nat_cmp e.0 k ≡ Less) (keys_of es) → AreAt (λ q. lookup (is_at (nat_cmp q)) all) es
    → AreAt (λ q. lookup (is_at (nat_cmp q)) (e ∷ all)) es
above e all [] less a = tt
above {X} e all (x ∷ es) less a = (
  ap (λ (b : Bool). if b then Some e.1 else lookup (is_at (nat_cmp x.0)) all) (later e.0 x.0 less.0) ∙ a.0,
  above e all es less.1 a.1,
)
  where
    later : (a b : ℕ) → nat_cmp a b ≡ Less → is_at (nat_cmp b) a ≡ false
    later a b is = grind (arith, nat_tests, is)

pub are_at : {X : Type 0} (es : List (ℕ × X)) → IsStrictlySortedBy nat_cmp (keys_of es) → AreAt (λ q. lookup (is_at (nat_cmp q)) es) es
are_at [] s = tt
are_at (e ∷ es) s = (
  ap (λ (b : Bool). if b then Some e.1 else lookup (is_at (nat_cmp e.0)) es) (at_itself e.0),
  above e es es (sorted_head nat_cmp e.0 (keys_of es) s) (are_at es (sorted_tail nat_cmp e.0 (keys_of es) s)),
)

-- ---- the tables that a Store keeps

kept_at : {D : Type 0} (store : ℕ) (owners : ℕ → ℕ) (f : ℕ → Option (Hosted D)) → ((q : ℕ) (it : Hosted D) → f q ≡ Some it → it.node.store ≡ owners q) → (es : List (ℕ × Hosted D)) → AreAt f es
    → kept_by store es ≡ filter (λ table. owners table == store) (keys_of es)
kept_at store owners f own [] a = refl
kept_at {D} store owners f own (e ∷ es) a = go (kept_at store owners f own es a.1)
  where
    others : List (ℕ × Hosted D)
    others = filter (λ (x : ℕ × Hosted D). x.1.node.store == store) es

    rest : List ℕ
    rest = filter (λ table. owners table == store) (keys_of es)

    by : (b : Bool) → kept_by store es ≡ rest → map (λ (x : ℕ × Hosted D). x.0) (if b then e ∷ others else others) ≡ (if b then e.0 ∷ rest else rest)
    by true same = ap (λ (l : List ℕ). e.0 ∷ l) same
    by false same = same

    go : kept_by store es ≡ rest → kept_by store (e ∷ es) ≡ filter (λ table. owners table == store) (keys_of (e ∷ es))
    go same = by (e.1.node.store == store) same ∙ ap (λ (n : ℕ). if n == store then e.0 ∷ rest else rest) (own e.0 e.1 a.0)

module _ {D : Type 0} (state : D → DiskState) (w : World) (tables : tree.BTreeMap ℕ (Hosted D)) (h : HoldsTables state w tables) where
  owner_there : (store : ℕ) (schema : Option Schema) (table : ℕ) (o : Option world.Hosted) (it : Hosted D) → HostedThere state store schema table o (Some it) → it.node.store ≡ store
  owner_there store schema table None it k = absurd k
  owner_there store schema table (Some hosted) it k = k.owner

  pub kept_is : (store : ℕ) → has_store w store ≡ true → kept_by store tables.entries ≡ tables_of w store
  kept_is store declared =
      let sorted : IsStrictlySortedBy nat_cmp (keys_of tables.entries) = subst (λ (ks : List ℕ). IsStrictlySortedBy nat_cmp ks) h.keys h.rising in
      kept_at store (owner_of w) (tree.get nat_cmp tables)
      (λ q it is. owner_there (owner_of w q) (schema_at w q) q (hosted_at w q) it (subst (λ (o : Option (Hosted D)). HostedThere state (owner_of w q) (schema_at w q) q (hosted_at w q) o) is (h.there q)))
      tables.entries (are_at tables.entries sorted)
      ∙ (ap (λ (ks : List ℕ). filter (λ table. owner_of w table == store) ks) (sym h.keys)
      ∙ sym (ap (λ (b : Bool). if b then filter (λ table. owner_of w table == store) (keys_of w.tables) else []) declared))

  -- a Store that says anew what it keeps
  pub renewed_is : (store : ℕ) (s : StoreState) → has_store w store ≡ true → s.is_down ≡ has_node w.downs (nodes.Store store) → StoreThere w store (Some (renewed store tables s))
  renewed_is store s declared down =
      let kept = kept_is store declared in
      record { declared = declared; tables = kept; down = down; late = unmade_is state w tables h (kept_by store tables.entries) store kept }
