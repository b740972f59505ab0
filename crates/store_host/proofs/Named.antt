-- The chunks that a node names are those that the world has on the table's device.
use Rattle.std.proofs.Common.{◌≡◌, inl, inr, ⊎_elim, ℕ, Bool, true, false, cond, List, [], ◌∷◌, ◌++◌, Option, Some, None, Result, Ok, Err, refl, sym, ap, ◌∙◌, subst}
use Rattle.std.specs.Prelude.{not, IfOk}
use Rattle.std.specs.Ordering.{nat_cmp}
use Rattle.std.specs.BTreeMap as tree
use Rattle.disk_trait.specs.Calls.{DiskState}
use Rattle.row_value.specs.declared.schema.Schema.{Schema}
use Rattle.std.specs.List.{flat_map}
use Rattle.stab_base.specs.declared.chunk_name.ChunkName.{ChunkName}
use Rattle.table_model.specs.History.{same_row}
use Rattle.step_tables.specs.Chunks.{names_of, chunks_in, chunks_of, rising}
use Rattle.step_tables.specs.Store.{Stored, current_of, is_of_row}
use Rattle.std.specs.Option.{option_or}
use Rattle.step_tables.specs.StoreMoves.{StoreDisk, TableStore}
use Rattle.step_tables.proofs.Lists.{same_row-is, last_where-cons}
use Rattle.store_commit.specs.NamedChunks.{Among}
use Rattle.store_commit.proofs.Leftovers.{filter_among}
use Rattle.device_laws.proofs.Names.{left_among, right_among, either_among, among_rising, rising_among, rising_sorted, same_sorted}
use Rattle.store_node.specs.Kept.{IsKept, AreKept}
use Rattle.store_node.specs.Node.{IsTable}
use Rattle.store_node.specs.declared.fault.NodeFault.{NodeFault}
use Rattle.world_tables.specs.World.{World, rows_in, names_on, schema_at, hosted_at, chunk_in}
use Rattle.world_tables.specs.World as world
use Rattle.store_host.specs.declared.hosted.Hosted.{Hosted}
use Rattle.store_host.specs.Holds.{HoldsTables}
use Rattle.store_host.proofs.Maps.{found}

flat_among : {X Y : Type 0} (f : Y → List X) (x : X) (y : Y) (ys : List Y) → Among y ys → Among x (f y) → Among x (flat_map f ys)
flat_among f x y [] a b = absurd a
flat_among f x y (z ∷ ys) (inl same) b = left_among x (f z) (flat_map f ys) (subst (λ q. Among x (f q)) same b)
flat_among f x y (z ∷ ys) (inr more) b = right_among x (f z) (flat_map f ys) (flat_among f x y ys more b)

among_flat : {X Y : Type 0} (f : Y → List X) (x : X) (ys : List Y) → Among x (flat_map f ys) → (y : Y) × Among x (f y)
among_flat f x [] a = absurd a
among_flat f x (z ∷ ys) a = ⊎_elim (λ here. (z, here)) (λ more. among_flat f x ys more) (either_among x (f z) (flat_map f ys) a)

-- a row that names a chunk has an item
row_there : (size : ℕ) (items : List Stored) (row : List ℕ) (name : ChunkName) → Among name (names_of (chunks_of size items row)) → Among row (rows_in items)
row_there size [] row name a = absurd a
row_there size (item ∷ items) row name a =
    go (same_row item.entry.row row) refl (current_of items row) refl (row_there size items row name)
    (subst (λ (o : Option Stored). Among name (names_of (chunks_in size o))) (last_where-cons (is_of_row row) item items) a)
  where
    go : (b : Bool) → same_row item.entry.row row ≡ b → (o : Option Stored) → current_of items row ≡ o → (Among name (names_of (chunks_of size items row)) → Among row (rows_in items))
        → Among name (names_of (chunks_in size (option_or o (cond b (Some item) None)))) → Among row (rows_in (item ∷ items))
    go true is o at rest a = inl (sym (same_row-is item.entry.row row is))
    go false is None at rest a = absurd a
    go false is (Some later) at rest a =
        inr (filter_among (λ r. not (same_row item.entry.row r)) row (rows_in items) (ap not is) (rest (subst (λ (o : Option Stored). Among name (names_of (chunks_in size o))) (sym at) a)))

module _ (size : ℕ) (disk : StoreDisk) where
  abbrev all_names : List ChunkName
  all_names = flat_map (λ row. names_of (chunks_of size disk.items row)) (rows_in disk.items) ++ disk.left

  to_all : (name : ChunkName) → IsKept size disk name → Among name all_names
  to_all name (inr left) = right_among name (flat_map (λ row. names_of (chunks_of size disk.items row)) (rows_in disk.items)) disk.left left
  to_all name (inl held) =
      left_among name (flat_map (λ row. names_of (chunks_of size disk.items row)) (rows_in disk.items)) disk.left
      (flat_among (λ row. names_of (chunks_of size disk.items row)) name held.0 (rows_in disk.items) (row_there size disk.items held.0 name held.1) held.1)

  from_all : (name : ChunkName) → Among name all_names → IsKept size disk name
  from_all name a =
      ⊎_elim (λ held. inl (among_flat (λ row. names_of (chunks_of size disk.items row)) name (rows_in disk.items) held)) (λ left. inr left)
      (either_among name (flat_map (λ row. names_of (chunks_of size disk.items row)) (rows_in disk.items)) disk.left a)

  -- there is one such list
  pub one_list_kept : (names : List ChunkName) → AreKept size disk names → names ≡ names_on size disk
  one_list_kept names k =
      same_sorted names (rising all_names) k.rising (rising_sorted all_names) (λ name a. rising_among name all_names (to_all name (k.only name a)))
      (λ name a. k.all name (from_all name (among_rising name all_names a)))

-- the names that a table's node gives
pub names_at : {D : Type 0} (state : D → DiskState) (w : World) (tables : tree.BTreeMap ℕ (Hosted D)) (table : ℕ) (it : Hosted D) → HoldsTables state w tables
    → Some it ≡ tree.get nat_cmp tables table → (hosted : world.Hosted) → hosted_at w table ≡ Some hosted → (r : Result (List ChunkName) NodeFault)
    → ((s : TableStore) → IsTable state it.node s → IfOk r (AreKept it.node.schema.chunk s.disk)) → IfOk r (λ names. names ≡ names_on (chunk_in (schema_at w table)) hosted.store.disk)
names_at state w tables table it h is hosted there (Err e) k = tt
names_at state w tables table it h is hosted there (Ok names) k =
    let f = found state w tables table it h is in
    let both : Some f.0 ≡ Some hosted = sym f.1 ∙ there in
    let same : f.0 ≡ hosted = cc in
    subst (λ (o : Option Schema). names ≡ names_on (chunk_in o) hosted.store.disk) (sym f.2.schema)
    (subst (λ (x : world.Hosted). names ≡ names_on it.node.schema.chunk x.store.disk) same (one_list_kept it.node.schema.chunk f.0.store.disk names (k f.0.store f.2.node)))
