-- The tables behind a change of one of them.
use Rattle.std.proofs.Common.{◌≡◌, ◌≢◌, ◌⊎◌, arith, true≢false, ℕ, Bool, true, false, cond, List, [], ◌∷◌, Option, Some, None, refl, sym, ap, ◌∙◌, subst}
use Rattle.std.specs.Prelude.{◌==◌, ◌||◌, if◌then◌else◌}
use Rattle.std.specs.declared.cmp.Ordering.{Ordering}
use Rattle.std.specs.declared.cmp.Ordering.TheVariants.{Less, Equal, Greater}
use Rattle.std.specs.Ordering.{nat_cmp, is_eq, match_ordering}
use Rattle.std.specs.Cmp.{nat_cmp_total, unsigned_tied}
use Rattle.std.specs.BTreeMap.{is_at, insert_entry}
use Rattle.std.specs.BTreeMap as tree
use Rattle.std.specs.BTreeSet.{insert_key}
use Rattle.std.specs.Map.{lookup, keys_of}
use Rattle.std.specs.List.Sorted.{IsStrictlySortedBy}
use Rattle.std.proofs.lemmas.Bool.{eqb-true}
use Rattle.std.proofs.lemmas.Bool.Decides.{nat_tests}
use Rattle.std.proofs.lemmas.Map.{lookup-none}
use Rattle.std.proofs.lemmas.Map.Entries.{none_below_head}
use Rattle.std.proofs.lemmas.Map.Keys.{sorted_tail}
use Rattle.disk_trait.specs.Calls.{DiskState}
use Rattle.step_tables.proofs.Lists.{lookup-insert, lookup-insert_nat}
use Rattle.row_value.specs.declared.schema.Schema.{Schema}
use Rattle.store_node.specs.Node.{IsNode}
use Rattle.world_tables.specs.World.{World, Packet, owner_of, schema_at, hosted_at}
use Rattle.world_tables.specs.World as world
use Rattle.store_host.specs.declared.hosted.Hosted.{Hosted}
use Rattle.store_host.specs.Holds.{IsHosted, HostedThere, HoldsTables, AreTables}

-- ---- keys

pub keys_kept : {V : Type 0} (es : List (ℕ × V)) (k : ℕ) (v u : V) → IsStrictlySortedBy nat_cmp (keys_of es)
    → lookup (is_at (nat_cmp k)) es ≡ Some u → keys_of (insert_entry nat_cmp es k v) ≡ keys_of es
keys_kept [] k v u s h = absurd cc
keys_kept {V} (e ∷ es) k v u s h = go (nat_cmp k e.0) refl (keys_kept es k v u (sorted_tail nat_cmp e.0 (keys_of es) s))
  where
    go : (o : Ordering) → nat_cmp k e.0 ≡ o → (lookup (is_at (nat_cmp k)) es ≡ Some u → keys_of (insert_entry nat_cmp es k v) ≡ keys_of es)
        → keys_of (match_ordering o ((k, v) ∷ e ∷ es) ((e.0, v) ∷ es) (e ∷ insert_entry nat_cmp es k v)) ≡ keys_of (e ∷ es)
    go Less is more = let none : lookup (is_at (nat_cmp k)) (e ∷ es) ≡ None = lookup-none (is_at (nat_cmp k)) (e ∷ es) (none_below_head nat_cmp_total k e es s is) in absurd cc
    go Equal is more = refl
    go Greater is more = ap (λ (ks : List ℕ). e.0 ∷ ks) (more (ap (λ (r : Ordering). cond (is_eq r) (Some e.1) (lookup (is_at (nat_cmp k)) es)) (sym is) ∙ h))

pub keys_put : {V : Type 0} (es : List (ℕ × V)) (k : ℕ) (v : V) → keys_of (insert_entry nat_cmp es k v) ≡ insert_key nat_cmp (keys_of es) k
keys_put [] k v = refl
keys_put {V} (e ∷ es) k v = go (nat_cmp k e.0) (keys_put es k v)
  where
    go : (o : Ordering) → keys_of (insert_entry nat_cmp es k v) ≡ insert_key nat_cmp (keys_of es) k
        → keys_of (match_ordering o ((k, v) ∷ e ∷ es) ((e.0, v) ∷ es) (e ∷ insert_entry nat_cmp es k v)) ≡ match_ordering o (k ∷ e.0 ∷ keys_of es) (e.0 ∷ keys_of es)
        (e.0 ∷ insert_key nat_cmp (keys_of es) k)
    go Less same = refl
    go Equal same = refl
    go Greater same = ap (λ (ks : List ℕ). e.0 ∷ ks) same

pub at_same : (k q : ℕ) → is_at (nat_cmp k) q ≡ true → k ≡ q
at_same k q h = eqb-true k q (sym (unsigned_tied k q) ∙ h)

-- ---- a look-up behind an insert

pub look_cases : {V : Type 0} (es : List (ℕ × V)) (k : ℕ) (v : V) (q : ℕ)
    → ((q ≡ k) × (lookup (is_at (nat_cmp q)) (insert_entry nat_cmp es k v) ≡ Some v))
    ⊎ ((q ≢ k) × (lookup (is_at (nat_cmp q)) (insert_entry nat_cmp es k v) ≡ lookup (is_at (nat_cmp q)) es))
look_cases es k v q = grind (arith, nat_tests, lookup-insert_nat es k v q)

-- ---- numbers in a list

abbrev pub has : List ℕ → ℕ → Bool
has [] q = false
has (k ∷ ks) q = (q == k) || has ks q

pub or_true : (a : Bool) → (a || true) ≡ true
or_true true = refl
or_true false = refl

pub has_found : {V : Type 0} (es : List (ℕ × V)) (q : ℕ) (v : V) → lookup (is_at (nat_cmp q)) es ≡ Some v → has (keys_of es) q ≡ true
has_found [] q v e = absurd cc
has_found (e ∷ es) q v there = go (λ more. has_found es q v more) (is_at (nat_cmp q) e.0) refl
  where
    go : (lookup (is_at (nat_cmp q)) es ≡ Some v → has (keys_of es) q ≡ true) → (b : Bool) → is_at (nat_cmp q) e.0 ≡ b → has (keys_of (e ∷ es)) q ≡ true
    go rest true is = ap (λ (b : Bool). b || has (keys_of es) q) (sym (unsigned_tied q e.0) ∙ is)
    go rest false is =
        ap (λ (b : Bool). (q == e.0) || b) (rest (sym (ap (λ (b : Bool). if b then Some e.1 else lookup (is_at (nat_cmp q)) es) is) ∙ there)) ∙ or_true (q == e.0)

pub none_there : {V : Type 0} (es : List (ℕ × V)) (q : ℕ) → has (keys_of es) q ≡ false → lookup (is_at (nat_cmp q)) es ≡ None
none_there {V} es q none = go (lookup (is_at (nat_cmp q)) es) refl
  where
    go : (o : Option V) → lookup (is_at (nat_cmp q)) es ≡ o → lookup (is_at (nat_cmp q)) es ≡ None
    go None is = is
    go (Some v) is = absurd (true≢false (sym (has_found es q v is) ∙ none))

-- ---- tables

module _ {D : Type 0} (state : D → DiskState) where
  pub table_there : (store : ℕ) (declared : Option Schema) (table : ℕ) (o : Option world.Hosted) (it : Hosted D) → HostedThere state store declared table o (Some it)
      → (hosted : world.Hosted) × (o ≡ Some hosted) × IsHosted state store declared table hosted it
  table_there store declared table None it h = absurd h
  table_there store declared table (Some hosted) it h = (hosted, refl, h)

  pub table_not_there : (store : ℕ) (declared : Option Schema) (table : ℕ) (o : Option world.Hosted) → HostedThere state store declared table o None → o ≡ None
  table_not_there store declared table None h = refl
  table_not_there store declared table (Some hosted) h = absurd h

  -- the table that a look-up gave
  pub found : (w : World) (tables : tree.BTreeMap ℕ (Hosted D)) (table : ℕ) (it : Hosted D) → HoldsTables state w tables
      → Some it ≡ tree.get nat_cmp tables table → (hosted : world.Hosted) × (hosted_at w table ≡ Some hosted) × IsHosted state (owner_of w table) (schema_at w table) table hosted it
  found w tables table it h is =
      table_there (owner_of w table) (schema_at w table) table (hosted_at w table) it
      (subst (λ (o : Option (Hosted D)). HostedThere state (owner_of w table) (schema_at w table) table (hosted_at w table) o) (sym is) (h.there table))

  pub not_found : (w : World) (tables : tree.BTreeMap ℕ (Hosted D)) (table : ℕ) → HoldsTables state w tables
      → None ≡ tree.get nat_cmp tables table → hosted_at w table ≡ None
  not_found w tables table h is =
      table_not_there (owner_of w table) (schema_at w table) table (hosted_at w table)
      (subst (λ (o : Option (Hosted D)). HostedThere state (owner_of w table) (schema_at w table) table (hosted_at w table) o) (sym is) (h.there table))

  pub found_node : (tables : tree.BTreeMap ℕ (Hosted D)) (table : ℕ) (it : Hosted D) → AreTables state tables
      → Some it ≡ tree.get nat_cmp tables table → IsNode state it.node
  found_node tables table it a is = (_, (found a.0 tables table it a.1 is).2.node)

  module _ (w : World) (old new : tree.BTreeMap ℕ (Hosted D)) (table : ℕ) (it : Hosted D)
      (u : (q : ℕ) → tree.get nat_cmp new q ≡ cond (is_at (nat_cmp table) q) (Some it) (tree.get nat_cmp old q)) where
    pub put_there : (after : world.Hosted) (owners : ℕ → ℕ) (declared : ℕ → Option Schema) → ((q : ℕ) → HostedThere state (owners q) (declared q) q (hosted_at w q) (tree.get nat_cmp old q))
        → IsHosted state (owners table) (declared table) table after it
        → (q : ℕ) → HostedThere state (owners q) (declared q) q (lookup (is_at (nat_cmp q)) (insert_entry nat_cmp w.tables table after)) (tree.get nat_cmp new q)
    put_there after owners declared h at q =
        subst (λ (o : Option (Hosted D)). HostedThere state (owners q) (declared q) q (lookup (is_at (nat_cmp q)) (insert_entry nat_cmp w.tables table after)) o) (sym (u q))
        (subst (λ (o : Option world.Hosted). HostedThere state (owners q) (declared q) q o (cond (is_at (nat_cmp table) q) (Some it) (tree.get nat_cmp old q)))
        (sym (lookup-insert nat_cmp nat_cmp_total w.tables table after q))
        (one (is_at (nat_cmp table) q) refl))
      where
        one : (b : Bool) → is_at (nat_cmp table) q ≡ b → HostedThere state (owners q) (declared q) q (cond b (Some after) (hosted_at w q)) (cond b (Some it) (tree.get nat_cmp old q))
        one true is = subst (λ k. IsHosted state (owners k) (declared k) k after it) (at_same table q is) at
        one false is = h q

    pub moved_tables : (hosted after : world.Hosted) (packets : List Packet) → HoldsTables state w old → hosted_at w table ≡ Some hosted
        → IsHosted state (owner_of w table) (schema_at w table) table after it
        → keys_of new.entries ≡ keys_of old.entries → HoldsTables state (record w { tables = insert_entry nat_cmp w.tables table after; packets = packets }) new
    moved_tables hosted after packets h there at keys =
        let same = keys_kept w.tables table after hosted h.rising there in
        record {
          there = put_there after (owner_of w) (schema_at w) h.there at;
          keys = same ∙ (h.keys ∙ sym keys);
          rising = subst (λ (ks : List ℕ). IsStrictlySortedBy nat_cmp ks) (sym same) h.rising;
        }
