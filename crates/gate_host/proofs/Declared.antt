-- The directory of the declared Stores and tables, and one table more.
use Rattle.std.proofs.Common.{◌≡◌, ℕ, Bool, true, false, cond, true≢false, List, [], ◌∷◌, ◌++◌, map, Option, Some, None, Result, Ok, Err, refl, sym, ap, ◌∙◌, subst}
use Rattle.std.specs.Prelude.{◌==◌, ◌||◌, option_map, is_some, IfOk, if◌then◌else◌}
use Rattle.std.specs.List.{list_any}
use Rattle.std.specs.Option.{option_or}
use Rattle.std.specs.Ordering.{nat_cmp, is_eq}
use Rattle.std.specs.Cmp.{nat_cmp_total}
use Rattle.std.specs.FinSet as set
use Rattle.std.specs.List.Sorted.{IsStrictlySortedBy}
use Rattle.std.specs.Map.{lookup, keys_of}
use Rattle.std.specs.BTreeMap.{is_at, insert_entry}
use Rattle.std.proofs.lemmas.Cmp.{tied_itself}
use Rattle.std.proofs.lemmas.Map.Made.{lookup-map_values, keys_of-map_values}
use Rattle.row_value.specs.declared.schema.Schema.{Schema}
use Rattle.ring_map.specs.Owners.{owner_on}
use Rattle.ring_map.proofs.Computed.{owner_is}
use Rattle.step_tables.proofs.Lists.{last_where-cons, last_where-push, lookup-insert_nat}
use Rattle.table_model.specs.Last.{last_where}
use Rattle.gate_tables.specs.declared.timer.Placed.{Placed}
use Rattle.gate_tables.specs.Gate.{Directory, placed}
use Rattle.gateway_core.specs.declared.directory.NamedTable.{NamedTable}
use Rattle.gateway_core.specs.Directories.{IsPlacedBy, last_named, owners_of}
use Rattle.gate_host.specs.Moves.{schema_in, place_of, places_of, directory_by}
use Rattle.gate_host.specs.Holds.{IsNamedBy, AreDeclared}
use Rattle.gate_host.proofs.Rising.{rising_put, same_lists, keyed_alike}

-- ---- where a table is

place_by : List ℕ → Option Schema → Option Placed
place_by [] o = None
place_by (store ∷ stores) o = option_map (place_of (store ∷ stores)) o

place_in : (stores : List ℕ) (schemas : List (ℕ × Schema)) (q : ℕ) → lookup (is_at (nat_cmp q)) (places_of stores schemas) ≡ place_by stores (schema_in schemas q)
unfolding place_by
place_in [] schemas q = refl
place_in (store ∷ stores) schemas q = lookup-map_values (place_of (store ∷ stores)) (is_at (nat_cmp q)) schemas

joined_there : (stores : set.FinSet nat_cmp) (store : ℕ) → set.contains (set.insert stores store) store ≡ true
joined_there stores store = set.contains-insert nat_cmp_total stores store store ∙ ap (λ o. is_eq o || set.contains stores store) (tied_itself nat_cmp_total store)

no_ring : (store : ℕ) (stores : List ℕ) → set.from_list {R = nat_cmp} (store ∷ stores) ≡ set.empty → ⊥
no_ring store stores is =
    true≢false (sym (joined_there (set.from_list stores) store) ∙ (ap (λ (s : set.FinSet nat_cmp). set.contains s store) is ∙ set.contains-empty nat_cmp store))

same_place : (p : Placed) (stores : List ℕ) (schema : Schema) → p.owner ≡ owner_on schema.name stores → p.scheme ≡ schema.scheme → p ≡ place_of stores schema
same_place p stores schema owner scheme = λ i. record { owner = owner i; scheme = scheme i }

placed_so : (stores : List ℕ) (o : Option Schema) (n : Option NamedTable) (p : Option Placed) → IsNamedBy o n → IsPlacedBy (set.from_list stores) n p → p ≡ place_by stores o
unfolding place_by
placed_so [] None None None h k = refl
placed_so (store ∷ stores) None None None h k = refl
placed_so stores None None (Some p) h k = absurd k
placed_so stores None (Some named) p h k = absurd h
placed_so stores (Some schema) None p h k = absurd h
placed_so [] (Some schema) (Some named) None h k = refl
placed_so (store ∷ stores) (Some schema) (Some named) None h k = absurd (no_ring store stores k)
placed_so [] (Some schema) (Some named) (Some p) h k = absurd (true≢false (sym k.0.on_ring ∙ set.contains-empty nat_cmp p.owner))
placed_so (store ∷ stores) (Some schema) (Some named) (Some p) h k = ap Some
    (same_place p (store ∷ stores) schema (owner_is (store ∷ stores) named.name p.owner k.0 ∙ ap (λ (name : List ℕ). owner_on name (store ∷ stores)) h.0) (k.1 ∙ h.1))

places_rise : (stores : List ℕ) (schemas : List (ℕ × Schema)) → IsStrictlySortedBy nat_cmp (keys_of schemas) → IsStrictlySortedBy nat_cmp (keys_of (places_of stores schemas))
unfolding IsStrictlySortedBy
places_rise [] schemas s = tt
places_rise (store ∷ stores) schemas s = subst (λ (ks : List ℕ). IsStrictlySortedBy nat_cmp ks) (sym (keys_of-map_values (place_of (store ∷ stores)) schemas)) s

-- the same, where a table's owner is asked for by its number
abbrev pub places_at : (ℕ → ℕ) → List ℕ → List (ℕ × Schema) → List (ℕ × Placed)
places_at owner [] schemas = []
places_at owner (store ∷ stores) schemas = map (λ e. (e.0, record { owner = owner e.0; scheme = e.1.scheme })) schemas

pub placed_alike : (owner : ℕ → ℕ) (stores : List ℕ) (schemas : List (ℕ × Schema)) → IsStrictlySortedBy nat_cmp (keys_of schemas)
    → ((q : ℕ) (schema : Schema) → schema_in schemas q ≡ Some schema → owner q ≡ owner_on schema.name stores) → places_at owner stores schemas ≡ places_of stores schemas
placed_alike owner [] schemas s own = refl
placed_alike owner (store ∷ stores) schemas s own =
    keyed_alike (λ q schema. record { owner = owner q; scheme = schema.scheme }) (λ q. place_of (store ∷ stores)) schemas s
    (λ q schema there. same_place (record { owner = owner q; scheme = schema.scheme }) (store ∷ stores) schema (own q schema there) refl)

-- ---- the directory

module _ (stores : List ℕ) (schemas : List (ℕ × Schema)) (ring : set.FinSet nat_cmp) (tables : List NamedTable) (d : AreDeclared stores schemas ring tables) where
  pub directory_is : (made : Directory) → ((q : ℕ) → IsPlacedBy ring (last_named q tables) (placed made q)) → made.owners ≡ owners_of made.tables
      → IsStrictlySortedBy nat_cmp (keys_of made.tables) → made ≡ directory_by stores schemas
  directory_is made put owners rising =
      let same : made.tables ≡ places_of stores schemas = same_lists made.tables (places_of stores schemas) rising (places_rise stores schemas d.rising)
      (λ q. placed_so stores (schema_in schemas q) (last_named q tables) (placed made q) (d.named q)
      (subst (λ (r : set.FinSet nat_cmp). IsPlacedBy r (last_named q tables) (placed made q)) d.on_ring (put q))
      ∙ sym (place_in stores schemas q)) in
      let own : made.owners ≡ owners_of (places_of stores schemas) = owners ∙ ap owners_of same in
      λ i. record { tables = same i; owners = own i }

  -- ---- one table more

  none_named : (q : ℕ) (o : Option Schema) (n : Option NamedTable) → IsNamedBy o n → is_some n ≡ is_some o
  none_named q None None h = refl
  none_named q None (Some named) h = absurd h
  none_named q (Some schema) None h = absurd h
  none_named q (Some schema) (Some named) h = refl

  pub named_there : (table : ℕ) → list_any (λ (named : NamedTable). named.table == table) tables ≡ is_some (schema_in schemas table)
  named_there table = any_last (λ (named : NamedTable). named.table == table) tables ∙ none_named table (schema_in schemas table) (last_named table tables) (d.named table)
    where
      one : {X : Type 0} (o : Option X) (b : Bool) (x : X) → (b || is_some o) ≡ is_some (option_or o (cond b (Some x) None))
      one None true x = refl
      one None false x = refl
      one (Some y) true x = refl
      one (Some y) false x = refl

      any_last : {X : Type 0} (p : X → Bool) (xs : List X) → list_any p xs ≡ is_some (last_where p xs)
      any_last p [] = refl
      any_last p (x ∷ xs) = ap (λ (b : Bool). p x || b) (any_last p xs) ∙ (one (last_where p xs) (p x) x ∙ sym (ap is_some (last_where-cons p x xs)))

  pub one_more : (table : ℕ) (schema : Schema) (named : NamedTable) → named ≡ record { table = table; scheme = schema.scheme; name = schema.name }
      → AreDeclared stores (insert_entry nat_cmp schemas table schema) ring (tables ++ named ∷ [])
  one_more table schema named is = record {
    on_ring = d.on_ring;
    named = λ q.
        subst (λ (o : Option Schema). IsNamedBy o (last_named q (tables ++ named ∷ []))) (sym (lookup-insert_nat schemas table schema q))
        (subst (λ (n : Option NamedTable). IsNamedBy (if table == q then Some schema else schema_in schemas q) n)
        (sym (last_where-push (λ (n : NamedTable). n.table == q) tables named ∙ ap (λ (n : NamedTable). cond (n.table == q) (Some n) (last_named q tables)) is)) (go q (table == q)));
    rising = rising_put schemas table schema d.rising;
  }
    where
      go : (q : ℕ) (b : Bool)
          → IsNamedBy (if b then Some schema else schema_in schemas q) (cond b (Some (record { table = table; scheme = schema.scheme; name = schema.name })) (last_named q tables))
      go q true = (refl, refl)
      go q false = d.named q

  pub one_store : (store : ℕ) (joined : set.FinSet nat_cmp) → joined ≡ set.insert ring store → AreDeclared (store ∷ stores) schemas joined tables
  one_store store joined is = record {
    on_ring = is ∙ ap (λ (r : set.FinSet nat_cmp). set.insert r store) d.on_ring;
    named = d.named;
    rising = d.rising;
  }

  pub made_is : {E : Type 0} (made : Result Directory E) → IfOk made (λ m. (q : ℕ) → IsPlacedBy ring (last_named q tables) (placed m q))
      → IfOk made (λ m. m.owners ≡ owners_of m.tables) → IfOk made (λ m. IsStrictlySortedBy nat_cmp (keys_of m.tables)) → IfOk made (λ m. m ≡ directory_by stores schemas)
  made_is (Ok made) put owners rising = directory_is made put owners rising
  made_is (Err e) put owners rising = tt
