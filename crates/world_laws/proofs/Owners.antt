-- Which Store keeps a table: the owner behind a declaration of a Store and behind moves, the tables of a Store, and what
-- the moves of a Store leave of the others.
use Rattle.std.proofs.Common.{◌≡◌, ◌≢◌, ◌⊎◌, inl, inr, ℕ, zero, suc, Bool, true, false, List, [], ◌∷◌, length, filter, Option, Some, None, refl, sym, ap, ◌∙◌, subst, arith, ⊎_elim, true≢false}
use Rattle.std.specs.Prelude.{◌==◌, ◌||◌, not, drop, if◌then◌else◌}
use Rattle.std.specs.List.{list_any}
use Rattle.std.specs.List.Sorted.{IsStrictlySortedBy}
use Rattle.std.specs.declared.cmp.Ordering.{Ordering}
use Rattle.std.specs.declared.cmp.Ordering.TheVariants.{Less, Equal, Greater}
use Rattle.std.specs.Ordering.{nat_cmp, is_eq, match_ordering}
use Rattle.std.specs.Cmp.{nat_cmp_total, unsigned_tied}
use Rattle.std.specs.Map.{lookup, keys_of}
use Rattle.std.specs.BTreeMap.{is_at, insert_entry}
use Rattle.std.proofs.lemmas.Bool.Decides.{nat_tests}
use Rattle.std.proofs.lemmas.Map.{lookup-none}
use Rattle.std.proofs.lemmas.Map.Entries.{none_below_head}
use Rattle.std.proofs.lemmas.Map.Keys.{sorted_tail}
use Rattle.stab_base.specs.declared.node.Node.{Node}
use Rattle.stab_base.specs.declared.node.Node.TheVariants as nodes
use Rattle.row_value.specs.declared.schema.Schema.{Schema}
use Rattle.step_tables.specs.Members.{Among}
use Rattle.step_tables.specs.Messages.{Luck}
use Rattle.step_tables.specs.Messages as messages
use Rattle.step_tables.specs.StoreMoves as store
use Rattle.step_tables.specs.StoreMoves.{StoreMove, StoreStep}
use Rattle.step_tables.specs.ClientMoves.{Client, ClientMove, ClientTask, Shape, no_shape}
use Rattle.step_tables.specs.ClientMoves as client
use Rattle.step_tables.proofs.Lists.{among_here, among_next, among_none, among_cons, among_filter, among_filtered, among_found}
use Rattle.world_tables.specs.World.{World, Hosted, Moved, schema_at, hosted_at, client_at, owner_by, owner_of, has_store, tables_of, hosted_by}
use Rattle.world_tables.specs.World.{same_node, has_node, without_node, is_unmade, has_unmade, is_down}
use Rattle.world_tables.specs.World.{with_store, still, and_then, and_unless, history_on, after_table, table_step, move_hosted, move_table, move_there, move_client, first_luck, other_lucks}
use Rattle.world_tables.specs.World.{tables_fall, with_down, without_down, store_falls, or_falls, is_at_work, busy_table, write_next, store_works}
use Rattle.world_tables.specs.World.{tasks_of, store_until_idle, store_follows, table_follows}
use Rattle.world_tables.specs.World.{declared_late, start_hosted, table_starts, tables_start, store_starts, crash_luck, table_crashes, store_crashes}
use Rattle.world_tables.specs.World.{client_works, client_tasks, client_until_idle, client_follows, client_writes}
use Rattle.world_laws.proofs.Looks.{look_cases}

-- ---- one more Store

-- it takes a table, or leaves it to its owner
pub joined_owner : (number : ℕ) (stores : List ℕ) (schema : Option Schema) → (owner_by (number ∷ stores) schema ≡ number) ⊎ (owner_by (number ∷ stores) schema ≡ owner_by stores schema)
joined_owner number stores None = inr refl
joined_owner number [] (Some schema) = inl refl
joined_owner number (next ∷ more) (Some schema) = one_of _ number (owner_by (next ∷ more) (Some schema))
  where
    one_of : (b : Bool) (x y : ℕ) → ((if b then x else y) ≡ x) ⊎ ((if b then x else y) ≡ y)
    one_of true x y = inl refl
    one_of false x y = inr refl

-- ---- the tables of a Store

-- a number is another one, or it isn't
pub same_or_other : (a b : ℕ) → (a ≡ b) ⊎ (a ≢ b)
same_or_other a b = go (a == b) refl
  where
    go : (t : Bool) → (a == b) ≡ t → (a ≡ b) ⊎ (a ≢ b)
    go true is = inl (grind (arith, nat_tests, is))
    go false is = inr (λ e. absurd (grind (arith, nat_tests, is, e)))

-- what a lookup finds is among the keys
pub lookup_among : {V : Type 0} (es : List (ℕ × V)) (q : ℕ) (v : V) → lookup (is_at (nat_cmp q)) es ≡ Some v → Among (keys_of es) q
lookup_among [] q v at = absurd cc
lookup_among (e ∷ es) q v at = go (λ there. lookup_among es q v there) (is_at (nat_cmp q) e.0) refl
  where
    go : (lookup (is_at (nat_cmp q)) es ≡ Some v → Among (keys_of es) q) → (b : Bool) → is_at (nat_cmp q) e.0 ≡ b → Among (keys_of (e ∷ es)) q
    go rest true is = let same : q ≡ e.0 = grind (arith, nat_tests, unsigned_tied q e.0, is) in subst (λ (n : ℕ). Among (keys_of (e ∷ es)) n) (sym same) (among_here e.0 (keys_of es))
    go rest false is = among_next e.0 (keys_of es) q (rest (sym (ap (λ (b : Bool). if b then Some e.1 else lookup (is_at (nat_cmp q)) es) is) ∙ at))

-- and a key is found
pub among_looked : {V : Type 0} (es : List (ℕ × V)) (q : ℕ) → Among (keys_of es) q → (v : V) × (lookup (is_at (nat_cmp q)) es ≡ Some v)
among_looked [] q a = absurd (among_none q a)
among_looked {V} (e ∷ es) q a = go (among_looked es q) (is_at (nat_cmp q) e.0) refl (among_cons e.0 (keys_of es) q a)
  where
    go : (Among (keys_of es) q → (v : V) × (lookup (is_at (nat_cmp q)) es ≡ Some v)) → (b : Bool) → is_at (nat_cmp q) e.0 ≡ b
        → (e.0 ≡ q) ⊎ Among (keys_of es) q → (v : V) × ((if b then Some e.1 else lookup (is_at (nat_cmp q)) es) ≡ Some v)
    go rest true is h = (e.1, refl)
    go rest false is (inl same) = absurd (grind (arith, nat_tests, unsigned_tied q e.0, is, same))
    go rest false is (inr there) = rest there

pub among_tables : (w : World) (number table : ℕ) (hosted : Hosted) → has_store w number ≡ true → owner_of w table ≡ number → hosted_at w table ≡ Some hosted → Among (tables_of w number) table
among_tables w number table hosted has own at =
    subst (λ (b : Bool). Among (if b then filter (λ (q : ℕ). owner_of w q == number) (keys_of w.tables) else []) table) (sym has)
    (among_filter (λ (q : ℕ). owner_of w q == number) (keys_of w.tables) table (lookup_among w.tables table hosted at) (grind (arith, nat_tests, own)))

-- a table of a Store is its own, and is there
pub record IsOwned (w : World) (number table : ℕ) : Type 0 where
  pub declared : has_store w number ≡ true
  pub owned : owner_of w table ≡ number
  pub hosted : Hosted
  pub there : hosted_at w table ≡ Some hosted

pub table_owned : (w : World) (number table : ℕ) → Among (tables_of w number) table → IsOwned w number table
table_owned w number table a = go (has_store w number) refl a
  where
    go : (b : Bool) → has_store w number ≡ b → Among (if b then filter (λ (q : ℕ). owner_of w q == number) (keys_of w.tables) else []) table → IsOwned w number table
    go false is b = absurd (among_none table b)
    go true is b =
        let f = among_filtered (λ (q : ℕ). owner_of w q == number) (keys_of w.tables) table b in
        let at = among_looked w.tables table f.0 in
        record { declared = is; owned = grind (arith, nat_tests, f.1); hosted = at.0; there = at.1 }

-- a table that a Store keeps
pub hosted_by_is : (w : World) (number table : ℕ) (hosted : Hosted) → hosted_by w number table ≡ Some hosted → (owner_of w table ≡ number) × (hosted_at w table ≡ Some hosted)
hosted_by_is w number table hosted by = go (owner_of w table == number) refl by
  where
    go : (b : Bool) → (owner_of w table == number) ≡ b → (if b then hosted_at w table else None) ≡ Some hosted → (owner_of w table ≡ number) × (hosted_at w table ≡ Some hosted)
    go true is at = (grind (arith, nat_tests, is), at)
    go false is at = absurd cc

pub hosted_by_owner : (w : World) (number table : ℕ) → owner_of w table ≡ number → hosted_by w number table ≡ hosted_at w table
hosted_by_owner w number table own = ap (λ (b : Bool). if b then hosted_at w table else None) (let is : (owner_of w table == number) ≡ true = grind (arith, nat_tests, own) in is)

-- ---- a Store that is up

-- it is declared, no crash and no disk has taken it down, and its tables are made
pub up_store : (w : World) (number : ℕ) → is_down w (nodes.Store number) ≡ false
    → (has_store w number ≡ true) × (has_node w.downs (nodes.Store number) ≡ false) × (has_unmade w number ≡ false)
up_store w number up = by_parts (has_store w number) (has_node w.downs (nodes.Store number)) (has_unmade w number) up
  where
    by_parts : (a b c : Bool) → (not a || (b || c)) ≡ false → (a ≡ true) × (b ≡ false) × (c ≡ false)
    by_parts true false false e = (refl, refl, refl)
    by_parts true false true e = absurd cc
    by_parts true true c e = absurd cc
    by_parts false b c e = absurd cc

none_of : (p : ℕ → Bool) (tables : List ℕ) (table : ℕ) → list_any p tables ≡ false → Among tables table → p table ≡ false
none_of p [] table none a = absurd (among_none table a)
none_of p (first ∷ more) table none a = go (none_of p more table) (p first) refl none (among_cons first more table a)
  where
    go : (list_any p more ≡ false → Among more table → p table ≡ false) → (b : Bool) → p first ≡ b → (b || list_any p more) ≡ false → (first ≡ table) ⊎ Among more table → p table ≡ false
    go rest true is e h = absurd cc
    go rest false is e (inl same) = ap p (sym same) ∙ is
    go rest false is e (inr there) = rest e there

one_of : (p : ℕ → Bool) (tables : List ℕ) → list_any p tables ≡ true → (table : ℕ) × Among tables table × (p table ≡ true)
one_of p [] some = absurd cc
one_of p (first ∷ more) some = go (one_of p more) (p first) refl some
  where
    go : (list_any p more ≡ true → (table : ℕ) × Among more table × (p table ≡ true)) → (b : Bool) → p first ≡ b
        → (b || list_any p more) ≡ true → (table : ℕ) × Among (first ∷ more) table × (p table ≡ true)
    go rest true is e = (first, among_here first more, is)
    go rest false is e = let f = rest e in (f.0, among_next first more f.0 f.1, f.2)

pub made_is : (w : World) (number table : ℕ) (hosted : Hosted) → has_store w number ≡ true → has_unmade w number ≡ false → owner_of w table ≡ number → hosted_at w table ≡ Some hosted
    → hosted.made ≡ true
made_is w number table hosted has none own at =
    made hosted.made refl (ap is_unmade (sym at) ∙ none_of (λ (q : ℕ). is_unmade (hosted_at w q)) (tables_of w number) table none (among_tables w number table hosted has own at))
  where
    made : (b : Bool) → hosted.made ≡ b → not hosted.made ≡ false → hosted.made ≡ true
    made true is e = is
    made false is e = absurd (true≢false (ap not (sym is) ∙ e))

-- a table whose owner is up is made
pub owner_made : (w : World) (table : ℕ) (hosted : Hosted) → hosted_at w table ≡ Some hosted → is_down w (nodes.Store (owner_of w table)) ≡ false → hosted.made ≡ true
owner_made w table hosted at up = let f = up_store w (owner_of w table) up in made_is w (owner_of w table) table hosted f.0 f.2 refl at

any_of : (p : ℕ → Bool) (tables : List ℕ) (table : ℕ) → Among tables table → p table ≡ true → list_any p tables ≡ true
any_of p tables table a is = go (list_any p tables) refl
  where
    go : (b : Bool) → list_any p tables ≡ b → list_any p tables ≡ true
    go true e = e
    go false e = absurd (true≢false (sym is ∙ none_of p tables table e a))

-- a table of a Store that isn't made
pub unmade_of : (w : World) (number : ℕ) → has_unmade w number ≡ true → (table : ℕ) × IsOwned w number table × (is_unmade (hosted_at w table) ≡ true)
unmade_of w number some = let f = one_of (λ (q : ℕ). is_unmade (hosted_at w q)) (tables_of w number) some in (f.0, table_owned w number f.0 f.1, f.2)

pub unmade_there : (w : World) (number table : ℕ) → has_store w number ≡ true → owner_of w table ≡ number → is_unmade (hosted_at w table) ≡ true → has_unmade w number ≡ true
unmade_there w number table has own is = go (hosted_at w table) refl
  where
    go : (o : Option Hosted) → hosted_at w table ≡ o → has_unmade w number ≡ true
    go None at = absurd (true≢false (sym is ∙ ap is_unmade at))
    go (Some hosted) at = any_of (λ (q : ℕ). is_unmade (hosted_at w q)) (tables_of w number) table (among_tables w number table hosted has own at) is

-- ---- what the moves of a Store leave as it was

-- keys stay where one of them gets another value
pub keys_kept : {V : Type 0} (es : List (ℕ × V)) (k : ℕ) (v u : V) → IsStrictlySortedBy nat_cmp (keys_of es)
    → lookup (is_at (nat_cmp k)) es ≡ Some u → keys_of (insert_entry nat_cmp es k v) ≡ keys_of es
keys_kept [] k v u s h = absurd cc
keys_kept {V} (e ∷ es) k v u s h = go (nat_cmp k e.0) refl (keys_kept es k v u (sorted_tail nat_cmp e.0 (keys_of es) s))
  where
    go : (o : Ordering) → nat_cmp k e.0 ≡ o → (lookup (is_at (nat_cmp k)) es ≡ Some u → keys_of (insert_entry nat_cmp es k v) ≡ keys_of es)
        → keys_of (match_ordering o ((k, v) ∷ e ∷ es) ((e.0, v) ∷ es) (e ∷ insert_entry nat_cmp es k v)) ≡ keys_of (e ∷ es)
    go Less is more = let none : lookup (is_at (nat_cmp k)) (e ∷ es) ≡ None = lookup-none (is_at (nat_cmp k)) (e ∷ es) (none_below_head nat_cmp_total k e es s is) in absurd cc
    go Equal is more = refl
    go Greater is more = ap (λ (ks : List ℕ). e.0 ∷ ks) (more (ap (λ (r : Ordering). if is_eq r then Some e.1 else lookup (is_at (nat_cmp k)) es) (sym is) ∙ h))

-- the Stores and what each table is; the tables of the other Stores, and which of these are down; and which tables there
-- are, where the world has them by rising number
pub record IsBeside (number : ℕ) (w v : World) : Type 0 where
  pub stores : v.stores ≡ w.stores
  pub schemas : v.schemas ≡ w.schemas
  pub others : (table : ℕ) → owner_of w table ≢ number → hosted_at v table ≡ hosted_at w table
  pub downs : (other : ℕ) → other ≢ number → has_node v.downs (nodes.Store other) ≡ has_node w.downs (nodes.Store other)
  pub keys : IsStrictlySortedBy nat_cmp (keys_of w.tables) → keys_of v.tables ≡ keys_of w.tables

-- so the owners stay, and the tables of each Store
pub owners_stay : (number : ℕ) (w v : World) → IsBeside number w v → (table : ℕ) → owner_of v table ≡ owner_of w table
owners_stay number w v b table =
    ap (λ (stores : List ℕ). owner_by stores (schema_at v table)) b.stores ∙ ap (λ (some : List (ℕ × Schema)). owner_by w.stores (lookup (is_at (nat_cmp table)) some)) b.schemas

pub tables_stay : (number : ℕ) (w v : World) → IsBeside number w v → IsStrictlySortedBy nat_cmp (keys_of w.tables) → (node : ℕ) → tables_of v node ≡ tables_of w node
tables_stay number w v b sorted node =
    ap (λ (stores : List ℕ). tables_by stores v.schemas (keys_of v.tables)) b.stores
    ∙ (ap (λ (some : List (ℕ × Schema)). tables_by w.stores some (keys_of v.tables)) b.schemas ∙ ap (tables_by w.stores w.schemas) (b.keys sorted))
  where
    tables_by : List ℕ → List (ℕ × Schema) → List ℕ → List ℕ
    tables_by stores some keys =
        if list_any (λ (other : ℕ). node == other) stores then filter (λ (q : ℕ). owner_by stores (lookup (is_at (nat_cmp q)) some) == node) keys else []

-- whether a Store keeps an unmade table goes by its own tables
pub unmade_same : (number : ℕ) (w v : World) → v.stores ≡ w.stores → ((table : ℕ) → owner_of v table ≡ owner_of w table)
    → ((table : ℕ) → owner_of w table ≡ number → is_unmade (hosted_at v table) ≡ is_unmade (hosted_at w table)) → has_unmade v number ≡ has_unmade w number
unmade_same number w v stores owners made = go (has_unmade v number) (has_unmade w number) refl refl
  where
    has : has_store v number ≡ has_store w number
    has = ap (list_any (λ (other : ℕ). number == other)) stores

    here : has_unmade v number ≡ true → has_unmade w number ≡ true
    here some =
        let f = unmade_of v number some in
        let own : owner_of w f.0 ≡ number = sym (owners f.0) ∙ f.1.owned in
        unmade_there w number f.0 (sym has ∙ f.1.declared) own (sym (made f.0 own) ∙ f.2)

    there : has_unmade w number ≡ true → has_unmade v number ≡ true
    there some = let f = unmade_of w number some in unmade_there v number f.0 (has ∙ f.1.declared) (owners f.0 ∙ f.1.owned) (made f.0 f.1.owned ∙ f.2)

    go : (a b : Bool) → has_unmade v number ≡ a → has_unmade w number ≡ b → has_unmade v number ≡ has_unmade w number
    go true true is was = is ∙ sym was
    go false false is was = is ∙ sym was
    go true false is was = absurd (true≢false (sym (here is) ∙ was))
    go false true is was = absurd (true≢false (sym (there was) ∙ is))

-- and another Store is down where it was
pub others_down : (number : ℕ) (w v : World) → IsBeside number w v → (other : ℕ) → other ≢ number → is_down v (nodes.Store other) ≡ is_down w (nodes.Store other)
others_down number w v b other apart =
    ap (λ (stores : List ℕ). not (list_any (λ (n : ℕ). other == n) stores) || (has_node v.downs (nodes.Store other) || has_unmade v other)) b.stores
    ∙ (ap (λ (t : Bool). not (has_store w other) || (t || has_unmade v other)) (b.downs other apart)
    ∙ ap (λ (t : Bool). not (has_store w other) || (has_node w.downs (nodes.Store other) || t))
    (unmade_same other w v b.stores (owners_stay number w v b) (λ table own. ap is_unmade (b.others table (λ e. apart (sym own ∙ e))))))

pub beside_same : (number : ℕ) (w : World) → IsBeside number w w
beside_same number w = record { stores = refl; schemas = refl; others = λ table apart. refl; downs = λ other apart. refl; keys = λ sorted. refl }

pub beside_then : (number : ℕ) (u v w : World) → IsBeside number u v → IsBeside number v w → IsBeside number u w
beside_then number u v w a b = record {
  stores = b.stores ∙ a.stores;
  schemas = b.schemas ∙ a.schemas;
  others = λ table apart. b.others table (λ e. apart (sym (owners_stay number u v a table) ∙ e)) ∙ a.others table apart;
  downs = λ other apart. b.downs other apart ∙ a.downs other apart;
  keys = λ sorted. b.keys (subst (λ (ks : List ℕ). IsStrictlySortedBy nat_cmp ks) (sym (a.keys sorted)) sorted) ∙ a.keys sorted;
}

-- a step of a table of the Store
after_beside : (w : World) (table : ℕ) (old hosted : Hosted) (s : StoreStep) → hosted_at w table ≡ Some old → IsBeside (owner_of w table) w (after_table w table hosted s).world
after_beside w table old hosted s at = record {
  stores = refl;
  schemas = refl;
  others = λ q apart. ⊎_elim (λ e. absurd (apart (ap (owner_of w) e.0))) (λ e. e.1) (look_cases w.tables table new q);
  downs = λ other apart. refl;
  keys = λ sorted. keys_kept w.tables table new old sorted at;
}
  where
    new : Hosted
    new = record { store = s.store; history = history_on hosted.history s.facts; made = hosted.made }

pub move_beside : (w : World) (table : ℕ) (move : StoreMove) → IsBeside (owner_of w table) w (move_table table move w).world
move_beside w table move = go (hosted_at w table) refl
  where
    go : (o : Option Hosted) → hosted_at w table ≡ o → IsBeside (owner_of w table) w (move_hosted w table move o).world
    go None at = beside_same (owner_of w table) w
    go (Some hosted) at = after_beside w table hosted hosted (table_step w table hosted move) at

pub start_beside : (w : World) (table : ℕ) → IsBeside (owner_of w table) w (start_hosted w table (hosted_at w table)).world
start_beside w table = go (hosted_at w table) refl
  where
    go : (o : Option Hosted) → hosted_at w table ≡ o → IsBeside (owner_of w table) w (start_hosted w table o).world
    go None at = beside_same (owner_of w table) w
    go (Some hosted) at = made hosted.made
      where
        made : (b : Bool) → IsBeside (owner_of w table) w
            (if b then move_table table store.Start w else after_table w table (record hosted { made = true }) (declared_late (owner_of w table) table hosted.store.disk.state)).world
        made true = move_beside w table store.Start
        made false = after_beside w table hosted (record hosted { made = true }) (declared_late (owner_of w table) table hosted.store.disk.state) at

-- ---- a Store that goes down, or up

apart_false : (other number : ℕ) → other ≢ number → (other == number) ≡ false
apart_false other number apart = go (other == number) refl
  where
    go : (b : Bool) → (other == number) ≡ b → b ≡ false
    go true is = absurd (apart (grind (arith, nat_tests, is)))
    go false is = refl

pub down_beside : (number : ℕ) (w : World) → IsBeside number w (with_down (nodes.Store number) w)
down_beside number w = record {
  stores = refl;
  schemas = refl;
  others = λ table apart. refl;
  downs = λ other apart. ap (λ (b : Bool). b || has_node w.downs (nodes.Store other)) (apart_false other number apart);
  keys = λ sorted. refl;
}

without_other : (number other : ℕ) (downs : List Node) → other ≢ number → has_node (without_node downs (nodes.Store number)) (nodes.Store other) ≡ has_node downs (nodes.Store other)
without_other number other [] apart = refl
without_other number other (first ∷ downs) apart = go (without_other number other downs apart) (same_node (nodes.Store number) first) refl
  where
    differs : (node : Node) → same_node (nodes.Store number) node ≡ true → same_node (nodes.Store other) node ≡ false
    differs (nodes.Store n) is = apart_false other n (λ e. apart (grind (arith, nat_tests, is, e)))
    differs (nodes.Client c) is = absurd cc
    differs (nodes.Gate gate) is = absurd cc

    go : has_node (without_node downs (nodes.Store number)) (nodes.Store other) ≡ has_node downs (nodes.Store other)
        → (b : Bool) → same_node (nodes.Store number) first ≡ b
        → has_node (if not b then first ∷ without_node downs (nodes.Store number) else without_node downs (nodes.Store number)) (nodes.Store other)
        ≡ has_node (first ∷ downs) (nodes.Store other)
    go rest true is = rest ∙ ap (λ (b : Bool). b || has_node downs (nodes.Store other)) (sym (differs first is))
    go rest false is = ap (λ (b : Bool). same_node (nodes.Store other) first || b) rest

pub up_beside : (number : ℕ) (w : World) → IsBeside number w (without_down (nodes.Store number) w)
up_beside number w = record {
  stores = refl;
  schemas = refl;
  others = λ table apart. refl;
  downs = λ other apart. without_other number other w.downs apart;
  keys = λ sorted. refl;
}

-- ---- a Store's moves, one after the other

module _ (number : ℕ) where
  abbrev pub AreOwned : World → List ℕ → Type 0
  AreOwned w tables = (table : ℕ) → Among tables table → owner_of w table ≡ number

  -- where they are owned before some moves they are behind them
  still_owned : (w v : World) (table : ℕ) (tables : List ℕ) → IsBeside number w v → AreOwned w (table ∷ tables) → AreOwned v tables
  still_owned w v table tables b own q a = owners_stay number w v b q ∙ own q (among_next table tables q a)

  pub tables_owned : (w : World) → AreOwned w (tables_of w number)
  tables_owned w table a = (table_owned w number table a).owned

  own_move : (w : World) (table : ℕ) (move : StoreMove) → owner_of w table ≡ number → IsBeside number w (move_table table move w).world
  own_move w table move own = subst (λ (n : ℕ). IsBeside n w (move_table table move w).world) own (move_beside w table move)

  pub falls_beside : (tables : List ℕ) (w : World) → AreOwned w tables → IsBeside number w (tables_fall tables w).world
  falls_beside [] w own = beside_same number w
  falls_beside (table ∷ tables) w own =
      let v : World = (move_table table (store.Crash messages.FailedBefore) w).world in
      let first : IsBeside number w v = own_move w table (store.Crash messages.FailedBefore) (own table (among_here table tables)) in
      beside_then number w v (tables_fall tables v).world first (falls_beside tables v (still_owned w v table tables first own))

  pub store_falls_beside : (w : World) → IsBeside number w (store_falls number w).world
  store_falls_beside w =
      let v : World = (tables_fall (tables_of w number) w).world in
      beside_then number w v (with_down (nodes.Store number) v) (falls_beside (tables_of w number) w (tables_owned w)) (down_beside number v)

  pub or_falls_beside : (w : World) (m : Moved) → IsBeside number w m.world → IsBeside number w (or_falls number m).world
  or_falls_beside w m a = go m.failed
    where
      go : (failed : Bool) → IsBeside number w (if failed then and_then m (store_falls number) else m).world
      go true = beside_then number w m.world (store_falls number m.world).world a (store_falls_beside m.world)
      go false = a

  unless_beside : (w : World) (m : Moved) (f : World → Moved) → IsBeside number w m.world → IsBeside number m.world (f m.world).world → IsBeside number w (and_unless m f).world
  unless_beside w m f a b = go m.failed
    where
      go : (failed : Bool) → IsBeside number w (if failed then m else and_then m f).world
      go true = a
      go false = beside_then number w m.world (f m.world).world a b

  -- the busy table of a Store is its own
  pub busy_owned : (w : World) (table : ℕ) → busy_table w number ≡ Some table → owner_of w table ≡ number
  busy_owned w table is = tables_owned w table (among_found (is_at_work w) (tables_of w number) table is).0

  pub write_beside : (luck : Luck) (w : World) → IsBeside number w (write_next number luck (busy_table w number) w).world
  write_beside luck w = go (busy_table w number) refl
    where
      go : (o : Option ℕ) → busy_table w number ≡ o → IsBeside number w (write_next number luck o w).world
      go None is = beside_same number w
      go (Some table) is = or_falls_beside w (move_table table (store.Work luck) w) (own_move w table (store.Work luck) (busy_owned w table is))

  pub works_beside : (count : ℕ) (lucks : List Luck) (w : World) → IsBeside number w (store_works number count lucks w).world
  works_beside zero lucks w = beside_same number w
  works_beside (suc more) lucks w =
      let m : Moved = write_next number (first_luck lucks) (busy_table w number) w in
      unless_beside w m (store_works number more (other_lucks lucks)) (write_beside (first_luck lucks) w) (works_beside more (other_lucks lucks) m.world)

  pub until_idle_beside : (lucks : List Luck) (w : World) → IsBeside number w (store_until_idle number lucks w).world
  until_idle_beside lucks w = works_beside (length (tasks_of w number)) lucks w

  pub follows_beside : (lucks : List Luck) (w : World) → IsBeside number w (store_follows number lucks w).world
  follows_beside lucks w = go (has_node w.holds (nodes.Store number))
    where
      go : (held : Bool) → IsBeside number w (if held then still w else store_until_idle number lucks w).world
      go true = beside_same number w
      go false = until_idle_beside lucks w

  pub crashes_beside : (calls : ℕ) (lucks : List Luck) (w : World) → IsBeside number w (store_crashes number calls lucks w).world
  crashes_beside calls lucks w =
      let m : Moved = table_crashes luck (busy_table w number) w in
      beside_then number w m.world (store_falls number m.world).world (one (busy_table w number) refl) (store_falls_beside m.world)
    where
      luck : Luck
      luck = crash_luck calls (other_lucks lucks) (first_luck lucks)

      one : (o : Option ℕ) → busy_table w number ≡ o → IsBeside number w (table_crashes luck o w).world
      one None is = beside_same number w
      one (Some table) is = own_move w table (store.Crash luck) (busy_owned w table is)

  table_starts_beside : (table : ℕ) (luck : Luck) (w : World) → owner_of w table ≡ number → IsBeside number w (table_starts table luck w).world
  table_starts_beside table messages.Done w own = subst (λ (n : ℕ). IsBeside n w (start_hosted w table (hosted_at w table)).world) own (start_beside w table)
  table_starts_beside table messages.FailedBefore w own = beside_same number w
  table_starts_beside table messages.FailedAfter w own = beside_same number w

  pub tables_start_beside : (tables : List ℕ) (lucks : List Luck) (w : World) → AreOwned w tables → IsBeside number w (tables_start tables lucks w).world
  tables_start_beside [] lucks w own = beside_same number w
  tables_start_beside (table ∷ tables) lucks w own =
      let m : Moved = table_starts table (first_luck lucks) w in
      let first : IsBeside number w m.world = table_starts_beside table (first_luck lucks) w (own table (among_here table tables)) in
      unless_beside w m (tables_start tables (other_lucks lucks)) first (tables_start_beside tables (other_lucks lucks) m.world (still_owned w m.world table tables first own))

  -- the tables of a Store are started behind their fall
  pub begins_beside : (lucks : List Luck) (w : World) → IsBeside number w (and_then (tables_fall (tables_of w number) w) (tables_start (tables_of w number) lucks)).world
  begins_beside lucks w =
      let tables : List ℕ = tables_of w number in
      let v : World = (tables_fall tables w).world in
      let fallen : IsBeside number w v = falls_beside tables w (tables_owned w) in
      beside_then number w v (tables_start tables lucks v).world fallen (tables_start_beside tables lucks v (λ q a. owners_stay number w v fallen q ∙ tables_owned w q a))

  pub store_starts_beside : (lucks : List Luck) (w : World) → IsBeside number w (store_starts number lucks w).world
  store_starts_beside lucks w = go m.failed
    where
      tables : List ℕ
      tables = tables_of w number

      m : Moved
      m = and_then (tables_fall tables w) (tables_start tables lucks)

      up : World
      up = without_down (nodes.Store number) m.world

      go : (failed : Bool) → IsBeside number w (if failed then and_then m (store_falls number)
          else and_then m (λ x. store_follows number (drop (length tables) lucks) (without_down (nodes.Store number) x))).world
      go true = beside_then number w m.world (store_falls number m.world).world (begins_beside lucks w) (store_falls_beside m.world)
      go false = beside_then number w up (store_follows number (drop (length tables) lucks) up).world (beside_then number w m.world up (begins_beside lucks w) (up_beside number m.world))
          (follows_beside (drop (length tables) lucks) up)

pub table_follows_beside : (table : ℕ) (lucks : List Luck) (w : World) → IsBeside (owner_of w table) w (table_follows table lucks w).world
table_follows_beside table lucks w = go (is_at_work w table)
  where
    go : (busy : Bool) → IsBeside (owner_of w table) w (if busy then store_follows (owner_of w table) lucks w else still w).world
    go true = follows_beside (owner_of w table) lucks w
    go false = beside_same (owner_of w table) w

-- ---- clients

-- a client's moves leave the Stores as they were
pub record IsSameStores (w v : World) : Type 0 where
  pub stores : v.stores ≡ w.stores
  pub schemas : v.schemas ≡ w.schemas
  pub tables : v.tables ≡ w.tables
  pub downs : v.downs ≡ w.downs

pub stores_same : (w : World) → IsSameStores w w
stores_same w = record { stores = refl; schemas = refl; tables = refl; downs = refl }

pub stores_then : (u v w : World) → IsSameStores u v → IsSameStores v w → IsSameStores u w
stores_then u v w a b = record { stores = b.stores ∙ a.stores; schemas = b.schemas ∙ a.schemas; tables = b.tables ∙ a.tables; downs = b.downs ∙ a.downs }

pub client_stores : (w : World) (c : ℕ) (move : ClientMove) (shape : Shape) → IsSameStores w (move_client c move shape w).world
client_stores w c move shape = go (client_at w c)
  where
    go : (o : Option Client) → IsSameStores w (move_there w c move shape o).world
    go None = stores_same w
    go (Some node) = record { stores = refl; schemas = refl; tables = refl; downs = refl }

pub client_works_stores : (c : ℕ) (tasks : List ClientTask) (lucks : List Luck) (w : World) → IsSameStores w (client_works c tasks lucks w).world
client_works_stores c [] lucks w = stores_same w
client_works_stores c (task ∷ tasks) lucks w =
    let v : World = (move_client c (client.Work (first_luck lucks)) no_shape w).world in
    stores_then w v (client_works c tasks (other_lucks lucks) v).world (client_stores w c (client.Work (first_luck lucks)) no_shape) (client_works_stores c tasks (other_lucks lucks) v)

pub client_follows_stores : (c : ℕ) (lucks : List Luck) (w : World) → IsSameStores w (client_follows c lucks w).world
client_follows_stores c lucks w = go (has_node w.holds (nodes.Client c))
  where
    go : (held : Bool) → IsSameStores w (if held then still w else client_until_idle c lucks w).world
    go true = stores_same w
    go false = client_works_stores c (client_tasks (client_at w c)) lucks w

pub client_writes_stores : (c : ℕ) (luck : Luck) (tasks : List ClientTask) (w : World) → IsSameStores w (client_writes c luck tasks w).world
client_writes_stores c luck [] w = stores_same w
client_writes_stores c luck (task ∷ tasks) w = client_stores w c (client.Work luck) no_shape
