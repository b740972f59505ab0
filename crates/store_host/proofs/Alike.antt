-- Worlds with the same Stores, schemas and numbers of tables: what each Store keeps is the same.
use Rattle.std.proofs.Common.{◌≡◌, ◌≢◌, ⊎_elim, ℕ, Bool, true, false, List, [], ◌∷◌, Option, Some, None, refl, sym, ap, ◌∙◌, subst}
use Rattle.std.specs.Prelude.{◌==◌, filter, if◌then◌else◌}
use Rattle.std.specs.List.{list_any}
use Rattle.std.specs.List.Sorted.{IsStrictlySortedBy}
use Rattle.std.specs.Ordering.{nat_cmp}
use Rattle.std.specs.BTreeMap.{is_at}
use Rattle.std.specs.Map.{lookup, keys_of}
use Rattle.stab_base.specs.declared.node.Node.{Node}
use Rattle.stab_base.specs.declared.node.Node.TheVariants as nodes
use Rattle.row_value.specs.declared.schema.Schema.{Schema}
use Rattle.step_tables.specs.Messages.{Luck}
use Rattle.step_tables.specs.Messages as messages
use Rattle.step_tables.specs.StoreMoves.{StoreMove, StoreStep, Crash, Start}
use Rattle.world_tables.specs.World.{World, Hosted, Moved, schema_at, hosted_at, owner_by, owner_of, has_store, tables_of, is_unmade, has_unmade, has_node}
use Rattle.world_tables.specs.World.{and_then, and_unless, after_table, table_step, move_hosted, move_table, table_falls, tables_fall, table_crashes}
use Rattle.world_tables.specs.World.{declared_late, start_hosted, table_starts, tables_start, first_luck, other_lucks}
use Rattle.store_host.specs.declared.store.StoreState.{StoreState}
use Rattle.store_host.specs.Holds.{StoreThere, IsPartThere, IsDeclared, AreDeclared, behind_step}
use Rattle.store_host.specs.Calls.{restart_moves}
use Rattle.store_host.proofs.Maps.{keys_kept, look_cases}
use Rattle.store_host.proofs.Downs.{any_alike, of_owner}

pub record IsKept (w v : World) : Type 0 where
  pub stores : v.stores ≡ w.stores
  pub schemas : v.schemas ≡ w.schemas
  pub keys : keys_of v.tables ≡ keys_of w.tables

-- and the same of them were made
pub record IsAlike (w v : World) : Type 0 where
  pub kept : IsKept w v
  pub made : (table : ℕ) → is_unmade (hosted_at v table) ≡ is_unmade (hosted_at w table)

pub kept_itself : (w : World) → IsKept w w
kept_itself w = record { stores = refl; schemas = refl; keys = refl }

pub kept_then : (w v x : World) → IsKept w v → IsKept v x → IsKept w x
kept_then w v x a b = record { stores = b.stores ∙ a.stores; schemas = b.schemas ∙ a.schemas; keys = b.keys ∙ a.keys }

pub alike_itself : (w : World) → IsAlike w w
alike_itself w = record { kept = kept_itself w; made = λ table. refl }

pub alike_then : (w v x : World) → IsAlike w v → IsAlike v x → IsAlike w x
alike_then w v x a b = record { kept = kept_then w v x a.kept b.kept; made = λ table. b.made table ∙ a.made table }

pub sorted_kept : (w v : World) → IsKept w v → IsStrictlySortedBy nat_cmp (keys_of w.tables) → IsStrictlySortedBy nat_cmp (keys_of v.tables)
sorted_kept w v k s = subst (λ (ks : List ℕ). IsStrictlySortedBy nat_cmp ks) (sym k.keys) s

-- ---- what a Store keeps

-- of the Stores, the schemas and the numbers
abbrev owner_in : List ℕ → List (ℕ × Schema) → ℕ → ℕ
owner_in stores schemas table = owner_by stores (lookup (is_at (nat_cmp table)) schemas)

abbrev tables_in : List ℕ → List (ℕ × Schema) → List ℕ → ℕ → List ℕ
tables_in stores schemas keys number =
    if list_any (λ store. number == store) stores then filter (λ table. owner_in stores schemas table == number) keys else []

module _ (w v : World) (k : IsKept w v) where
  pub schema_same : (table : ℕ) → schema_at v table ≡ schema_at w table
  schema_same table = ap (λ (ss : List (ℕ × Schema)). lookup (is_at (nat_cmp table)) ss) k.schemas

  pub owner_same : (table : ℕ) → owner_of v table ≡ owner_of w table
  owner_same table =
      ap (λ (ss : List ℕ). owner_in ss v.schemas table) k.stores ∙ ap (λ (ss : List (ℕ × Schema)). owner_in w.stores ss table) k.schemas

  pub has_same : (number : ℕ) → has_store v number ≡ has_store w number
  has_same number = ap (λ (ss : List ℕ). list_any (λ store. number == store) ss) k.stores

  pub tables_same : (number : ℕ) → tables_of v number ≡ tables_of w number
  tables_same number =
      ap (λ (ss : List ℕ). tables_in ss v.schemas (keys_of v.tables) number) k.stores
      ∙ (ap (λ (ss : List (ℕ × Schema)). tables_in w.stores ss (keys_of v.tables) number) k.schemas
      ∙ ap (λ (ks : List ℕ). tables_in w.stores w.schemas ks number) k.keys)

-- each Store that is declared still is
pub declared_more : (w v : World) → ((number : ℕ) → has_store w number ≡ true → has_store v number ≡ true) → (downs : List Node) → AreDeclared w downs → AreDeclared v downs
declared_more w v more [] d = tt
declared_more w v more (node ∷ downs) d = (one node d.0, declared_more w v more downs d.1)
  where
    one : (node : Node) → IsDeclared w node → IsDeclared v node
    one (nodes.Store number) is = more number is
    one (nodes.Client c) is = absurd is
    one (nodes.Gate gate) is = absurd is

pub declared_same : (w v : World) → IsKept w v → (downs : List Node) → AreDeclared w downs → AreDeclared v downs
declared_same w v k = declared_more w v (λ number is. has_same w v k number ∙ is)

-- but for the tables of one Store, which may have been made
pub record IsAlikeBut (number : ℕ) (w v : World) : Type 0 where
  pub kept : IsKept w v
  pub made : (table : ℕ) → owner_of w table ≢ number → is_unmade (hosted_at v table) ≡ is_unmade (hosted_at w table)

pub alike_but : (number : ℕ) (w v : World) → IsAlike w v → IsAlikeBut number w v
alike_but number w v a = record { kept = a.kept; made = λ table apart. a.made table }

unmade_by : (w v : World) (k : IsKept w v) (store : ℕ) → ((table : ℕ) → owner_of w table ≡ store → is_unmade (hosted_at v table) ≡ is_unmade (hosted_at w table)) → has_unmade v store ≡ has_unmade w store
unmade_by w v k store made =
    ap (λ (ns : List ℕ). list_any (λ table. is_unmade (hosted_at v table)) ns) (tables_same w v k store)
    ∙ any_alike (λ table. is_unmade (hosted_at v table)) (λ table. is_unmade (hosted_at w table)) (tables_of w store) (λ table there. made table (of_owner w store table there))

store_by : (w v : World) (k : IsKept w v) (store : ℕ) → has_node v.downs (nodes.Store store) ≡ has_node w.downs (nodes.Store store) → has_unmade v store ≡ has_unmade w store
    → (o : Option StoreState) → StoreThere w store o → StoreThere v store o
store_by w v k store downs late None h = has_same w v k store ∙ h
store_by w v k store downs late (Some state) h = record {
  declared = has_same w v k store ∙ h.declared;
  tables = h.tables ∙ sym (tables_same w v k store);
  down = h.down ∙ sym downs;
  late = h.late ∙ sym late;
}

-- a Store of which the worlds say alike whether it is down
pub store_same : (w v : World) → IsAlike w v → (store : ℕ) → has_node v.downs (nodes.Store store) ≡ has_node w.downs (nodes.Store store) → (o : Option StoreState) → StoreThere w store o → StoreThere v store o
store_same w v a store downs = store_by w v a.kept store downs (unmade_by w v a.kept store (λ table own. a.made table))

pub other_same : (number : ℕ) (w v : World) → IsAlikeBut number w v → (store : ℕ) → store ≢ number → has_node v.downs (nodes.Store store) ≡ has_node w.downs (nodes.Store store)
    → (o : Option StoreState) → StoreThere w store o → StoreThere v store o
other_same number w v a store apart downs = store_by w v a.kept store downs (unmade_by w v a.kept store (λ table own. a.made table (λ e. apart (sym own ∙ e))))

pub part_same : (w v : World) → IsKept w v → (number : ℕ) (o : Option StoreState) → IsPartThere w number o → IsPartThere v number o
part_same w v k number None h = has_same w v k number ∙ h
part_same w v k number (Some state) h = (has_same w v k number ∙ h.0, h.1 ∙ sym (tables_same w v k number))

-- ---- moves of tables

-- behind a step of a table that is there
after_kept : (w : World) (table : ℕ) (hosted base : Hosted) (s : StoreStep) → IsStrictlySortedBy nat_cmp (keys_of w.tables) → hosted_at w table ≡ Some hosted
    → IsKept w (after_table w table base s).world
after_kept w table hosted base s sorted there = record { stores = refl; schemas = refl; keys = keys_kept w.tables table (behind_step base s) hosted sorted there }

after_made : (w : World) (table : ℕ) (hosted : Hosted) (s : StoreStep) → hosted_at w table ≡ Some hosted → (q : ℕ)
    → is_unmade (hosted_at (after_table w table hosted s).world q) ≡ is_unmade (hosted_at w q)
after_made w table hosted s there q = ⊎_elim
    (λ e. ap is_unmade e.1 ∙ sym (ap is_unmade (ap (hosted_at w) e.0 ∙ there)))
    (λ e. ap is_unmade e.1)
    (look_cases w.tables table (behind_step hosted s) q)

pub move_alike : (w : World) (table : ℕ) (move : StoreMove) → IsStrictlySortedBy nat_cmp (keys_of w.tables) → IsAlike w (move_table table move w).world
move_alike w table move sorted = go (hosted_at w table) refl
  where
    go : (o : Option Hosted) → hosted_at w table ≡ o → IsAlike w (move_hosted w table move o).world
    go None is = alike_itself w
    go (Some hosted) is = record {
      kept = after_kept w table hosted hosted (table_step w table hosted move) sorted is;
      made = after_made w table hosted (table_step w table hosted move) is;
    }

pub crash_alike : (w : World) (busy : Option ℕ) (luck : Luck) → IsStrictlySortedBy nat_cmp (keys_of w.tables) → IsAlike w (table_crashes luck busy w).world
crash_alike w None luck sorted = alike_itself w
crash_alike w (Some table) luck sorted = move_alike w table (Crash luck) sorted

pub falls_alike : (tables : List ℕ) (w : World) → IsStrictlySortedBy nat_cmp (keys_of w.tables) → IsAlike w (tables_fall tables w).world
falls_alike [] w sorted = alike_itself w
falls_alike (table ∷ tables) w sorted =
    let a = move_alike w table (Crash messages.FailedBefore) sorted in
    let v = (table_falls table w).world in
    alike_then w v (tables_fall tables v).world a (falls_alike tables v (sorted_kept w v a.kept sorted))

-- ---- starts, which make tables

start_kept : (w : World) (table : ℕ) → IsStrictlySortedBy nat_cmp (keys_of w.tables) → IsKept w (table_starts table messages.Done w).world
start_kept w table sorted = go (hosted_at w table) refl
  where
    go : (o : Option Hosted) → hosted_at w table ≡ o → IsKept w (start_hosted w table o).world
    go None is = kept_itself w
    go (Some hosted) is = by_made hosted.made
      where
        again : IsKept w (move_table table Start w).world
        again = (move_alike w table Start sorted).kept

        by_made : (b : Bool) → IsKept w (if b then move_table table Start w else after_table w table (record hosted { made = true }) (declared_late (owner_of w table) table hosted.store.disk.state)).world
        by_made true = again
        by_made false = after_kept w table hosted (record hosted { made = true }) (declared_late (owner_of w table) table hosted.store.disk.state) sorted is

pub starts_kept : (tables : List ℕ) (lucks : List Luck) (w : World) → IsStrictlySortedBy nat_cmp (keys_of w.tables) → IsKept w (tables_start tables lucks w).world
starts_kept [] lucks w sorted = kept_itself w
starts_kept (table ∷ tables) lucks w sorted = by_luck (λ v s. starts_kept tables (other_lucks lucks) v s) (first_luck lucks)
  where
    rest : Moved → Moved
    rest m = and_unless m (tables_start tables (other_lucks lucks))

    by_luck : ((v : World) → IsStrictlySortedBy nat_cmp (keys_of v.tables) → IsKept v (tables_start tables (other_lucks lucks) v).world) → (luck : Luck) → IsKept w (rest (table_starts table luck w)).world
    by_luck more messages.FailedBefore = kept_itself w
    by_luck more messages.FailedAfter = kept_itself w
    by_luck more messages.Done = go (table_starts table messages.Done w).failed
      where
        m : Moved
        m = table_starts table messages.Done w

        first : IsKept w m.world
        first = start_kept w table sorted

        go : (b : Bool) → IsKept w (if b then m else and_then m (tables_start tables (other_lucks lucks))).world
        go true = first
        go false = kept_then w m.world (tables_start tables (other_lucks lucks) m.world).world first (more m.world (sorted_kept w m.world first sorted))

pub restart_kept : (tables : List ℕ) (lucks : List Luck) (w : World) → IsStrictlySortedBy nat_cmp (keys_of w.tables) → IsKept w (restart_moves tables lucks w).world
restart_kept tables lucks w sorted =
    let v = (tables_fall tables w).world in
    let a = (falls_alike tables w sorted).kept in
    kept_then w v (tables_start tables lucks v).world a (starts_kept tables lucks v (sorted_kept w v a sorted))
