-- What a crash leaves of the rows of a world's tables, from call to call, and where that stands in the tables' histories.
use Rattle.std.proofs.Common.{◌≡◌, ◌⊎◌, inl, inr, ⊎_elim, ℕ, zero, suc, true, List, [], ◌∷◌, Option, Some, None, Result, Ok, Err, refl, sym, ◌∙◌, ap, subst}
use Rattle.std.specs.Prelude.{IfOk}
use Rattle.std.specs.Ordering.{nat_cmp}
use Rattle.std.specs.BTreeMap.{is_at}
use Rattle.std.specs.BTreeMap as tree
use Rattle.std.specs.Map.{lookup}
use Rattle.disk_trait.specs.Image.{IsImage}
use Rattle.disk_trait.specs.Calls.{DiskState}
use Rattle.disk_trait.specs.Fuse.{behind, inner_of}
use Rattle.disk_trait.specs.declared.fuse.FuseDisk.{FuseDisk}
use Rattle.stab_base.specs.declared.node.Node.TheVariants as nodes
use Rattle.row_value.specs.declared.schema.Schema.{Schema}
use Rattle.row_store.specs.Data.{TableData}
use Rattle.store_commit.proofs.Moments.{rows_weaker, rows_then}
use Rattle.table_model.specs.declared.event.Event.{Event}
use Rattle.table_model.specs.declared.line.Answer.{Answer}
use Rattle.step_tables.specs.Facts as facts
use Rattle.step_tables.specs.Messages.{Luck}
use Rattle.step_tables.specs.Store.{Stored}
use Rattle.step_tables.specs.StoreMoves.{StoreDisk, StoreTask, TableStore, SidePut, PutState, PutSub, Place, placed, put_beside}
use Rattle.device_laws.specs.Stands.{HasRows}
use Rattle.world_tables.specs.Passed.{IsBetween, after_tasks, first_part, started_at}
use Rattle.world_tables.specs.Turns.{world_from}
use Rattle.world_tables.specs.World.{Lucks, Hosted, Moved, WorldStep, schema_at, hosted_at, tasks_in, start, step, owner_of, tables_of, store_starts, move_table}
use Rattle.world_tables.specs.World as moves
use Rattle.moment_laws.proofs.Stays.{rows_stay_before, rows_stay_between}
use Rattle.store_host.specs.declared.hosted.Hosted.{Hosted as Kept}
use Rattle.store_host.specs.declared.host.StoreHost.{StoreHost}
use Rattle.store_host.specs.Calls.{restart_moves}
use Rattle.store_host.specs.Holds.{HostedThere, HoldsTables, HoldsStore, AreLeft}
use Rattle.store_host.proofs.Maps.{found}
use Rattle.store_host.proofs.Froms.{IsFrom, move_from}
use Rattle.store_host.proofs.Lefts.{still_left, none_still, between}
use Rattle.node_steps.specs.declared.fault.WorldFault.{WorldFault}
use Rattle.node_steps.specs.declared.told.Told.{Told}
use Rattle.node_steps.specs.declared.world.World.{World}
use Rattle.node_steps.specs.Calls.{IsDone, Comes, HasTold}
use Rattle.node_steps.specs.Holds.{Holds}
use Rattle.node_steps.specs.Outs.{IsAnswered}
use Rattle.node_steps.specs.Rows.{HasRowsBetween, RowsStay, HasSome, HasSomeAt, AreLeftOver, ComesLeft}
use Rattle.fair_laws.specs.Reached.{IsReached}

some_same : {X : Type 0} (a b : X) → Some a ≡ Some b → a ≡ b
some_same a b e = cc

-- ---- tables behind a call of the world

module _ {D : Type 0} (P : tree.BTreeMap ℕ (Kept D) → Type 0) where
  -- what the Stores told and sent was taken from them
  pub told_tables : (result : Result Told WorldFault) (a : facts.Answer) (old new : World D) (s : StoreHost D) → P s.tables
      → IfOk result (λ told. HasTold (record old { store = s }) new a told) → IfOk result (λ told. P new.store.tables)
  told_tables (Err e) a old new s p t = tt
  told_tables (Ok told) a old new s p t = subst (λ (x : StoreHost D). P x.tables) (sym t.store) p

  -- the Stores are the same
  pub same_tables : (result : Result Told WorldFault) (old new : World D) → P old.store.tables → IfOk result (λ told. new.store ≡ old.store)
      → IfOk result (λ told. P new.store.tables)
  same_tables (Err e) old new p same = tt
  same_tables (Ok told) old new p same = subst (λ (x : StoreHost D). P x.tables) (sym same) p

pub any_ok : {A : Type 0} (result : Result A WorldFault) (P : Type 0) → P → IfOk result (λ x. P)
any_ok (Err e) P p = tt
any_ok (Ok x) P p = p

-- ---- what is put beside the rows of a table

-- the items of a table behind each of its next writes are those behind one that it had
abbrev pub ItemsFrom : TableStore → TableStore → Type 0
ItemsFrom s t = (k : ℕ) → (m : ℕ) × ((after_tasks k t.disk (tasks_in t.agenda)).items ≡ (after_tasks m s.disk (tasks_in s.agenda)).items)

items_itself : (s : TableStore) → ItemsFrom s s
items_itself s k = (k, refl)

none_after : (k : ℕ) (disk : StoreDisk) → after_tasks k disk [] ≡ disk
none_after zero disk = refl
none_after (suc k) disk = refl

-- what is put beside rows has none
put_items : (disk : StoreDisk) (put : SidePut) → (put_beside disk put).items ≡ disk.items
put_items disk (PutState stage) = refl
put_items disk (PutSub client terms) = refl

placed_items : (table : ℕ) (disk : StoreDisk) (agenda : Option (List StoreTask)) (put : SidePut) → ItemsFrom (record { disk = disk; agenda = agenda }) (placed table disk agenda put).store
placed_items table disk None put k = (k, refl)
placed_items table disk (Some (task ∷ tasks)) put k = (k, refl)
placed_items table disk (Some []) put zero = (0, refl)
placed_items table disk (Some []) put (suc k) = (0, ap (λ (d : StoreDisk). d.items) (none_after k (put_beside disk put)) ∙ put_items disk put)

pub place_from : (put : SidePut) (w : moves.World) (table : ℕ) → IsFrom ItemsFrom w (move_table table (Place put) w).world
place_from put w table = move_from ItemsFrom items_itself (Place put) (λ v t hosted. placed_items t hosted.store.disk hosted.store.agenda put) w table

module _ {D : Type 0} (state : D → DiskState) (images : D → ℕ → List ℕ → Type 0) where
  abbrev st : FuseDisk D → DiskState
  st f = behind state f

  abbrev im : FuseDisk D → ℕ → List ℕ → Type 0
  im f = images (inner_of f)

  -- ---- from call to call

  -- Stores that do nothing
  pub none_left : ((disk : D) (image : List ℕ) → images disk (state disk).moment image → IsImage (state disk).pending image) → (w : moves.World) (store : StoreHost D) → HoldsStore state w store
      → AreLeft state images w store.tables store.tables
  none_left only_now w store h =
      still_left state images w store.tables store.tables (none_still state images (λ d image left. only_now (inner_of d) image left) w store.tables h.tables)

  pub over_first : (w v : moves.World) (old new : tree.BTreeMap ℕ (Kept D)) → AreLeft state images w old new → AreLeftOver state images w v old new
  over_first w v old new k = record {
    rows = λ table hosted before after at made was is.
        rows_weaker st im before.node.devs after.node.devs (HasSome hosted before.node.schema) (λ held. HasSome hosted before.node.schema held ⊎ HasSomeAt v table before.node.schema held)
        (k.rows table hosted before after at made was is) (λ held x. inl x);
  }

  pub over_first_ok : {A : Type 0} (result : Result A WorldFault) (w v : moves.World) (old new : tree.BTreeMap ℕ (Kept D)) → IfOk result (λ x. AreLeft state images w old new)
      → IfOk result (λ x. AreLeftOver state images w v old new)
  over_first_ok (Err e) w v old new k = tt
  over_first_ok (Ok x) w v old new k = over_first w v old new k

  -- one call, and then another in the world that the first leads to
  module _ (Q : TableStore → TableStore → Type 0) (w v u : moves.World) (old mid : tree.BTreeMap ℕ (Kept D)) (h : HoldsTables state w old)
      (k : HoldsTables state v mid) (from : IsFrom Q w v) (same : (table : ℕ) (hosted : Hosted) → hosted_at v table ≡ Some hosted → hosted_at u table ≡ Some hosted) where
    pub over_then : (new : tree.BTreeMap ℕ (Kept D)) → AreLeft state images w old mid → AreLeft state images v mid new → AreLeftOver state images w u old new
    over_then new first second = record {
      rows = λ table hosted before after at made was is.
          let f = from.there table hosted at made in
          let later = f.0 in
          let m = between state images (owner_of v table) (schema_at v table) table later (tree.get nat_cmp mid table)
          (subst (λ (o : Option Hosted). HostedThere state (owner_of v table) (schema_at v table) table o (tree.get nat_cmp mid table)) f.1 (k.there table)) in
          let it = m.0 in
          let b = found state w old table before h (sym was) in
          let schemas : Some before.node.schema ≡ Some it.node.schema = sym b.2.schema ∙ (ap (λ (ss : List (ℕ × Schema)). lookup (is_at (nat_cmp table)) ss) (sym from.schemas) ∙ m.2.schema) in
          let schema : it.node.schema ≡ before.node.schema = sym (some_same before.node.schema it.node.schema schemas) in
          rows_then st im before.node.devs it.node.devs after.node.devs (HasSome hosted before.node.schema) (HasSome later it.node.schema)
          (λ held. HasSome hosted before.node.schema held ⊎ HasSomeAt u table before.node.schema held)
          (first.rows table hosted before it at made was m.1) (second.rows table later it after f.1 f.2 m.1 is) (λ held x. inl x)
          (λ held x. inr (record { hosted = later; at = same table later f.1; some = subst (λ (s : Schema). HasSome later s held) schema x }));
    }

    pub over_then_ok : {A : Type 0} (result : Result A WorldFault) (new : tree.BTreeMap ℕ (Kept D)) → AreLeft state images w old mid → IfOk result (λ x. AreLeft state images v mid new)
        → IfOk result (λ x. AreLeftOver state images w u old new)
    over_then_ok (Err e) new first second = tt
    over_then_ok (Ok x) new first second = over_then new first second

  -- ---- in the histories

  module _ (w : moves.World) (r : IsReached w) (event : Event) (lucks : Lucks) where
    table_at : (table : ℕ) (hosted : Hosted) → hosted_at w table ≡ Some hosted → hosted_at (world_from start r.run) table ≡ Some hosted
    table_at table hosted at = sym (ap (λ (x : moves.World). hosted_at x table) r.is) ∙ at

    behind_at : (table : ℕ) (hosted : Hosted) → hosted_at (step w event lucks).world table ≡ Some hosted → hosted_at (step (world_from start r.run) event lucks).world table ≡ Some hosted
    behind_at table hosted at = sym (ap (λ (x : moves.World). hosted_at (step x event lucks).world table) r.is) ∙ at

    first_at : (table : ℕ) (hosted : Hosted) → hosted_at (first_part w event lucks) table ≡ Some hosted → hosted_at (first_part (world_from start r.run) event lucks) table ≡ Some hosted
    first_at table hosted at = sym (ap (λ (x : moves.World). hosted_at (first_part x event lucks) table) r.is) ∙ at

    module _ (table : ℕ) (before after : Hosted) (at : hosted_at w table ≡ Some before) (there : hosted_at (step w event lucks).world table ≡ Some after) (schema : Schema) (held : TableData) where
      then_between : HasSome before schema held → HasRowsBetween schema before.history after.history held
      then_between x = record {
        disk = after_tasks x.0 before.store.disk (tasks_in before.store.agenda);
        rows = x.1;
        between = rows_stay_before r.run event lucks table x.0 before after (table_at table before at) (behind_at table after there);
      }

      first_between : HasSomeAt (first_part w event lucks) table schema held → HasRowsBetween schema before.history after.history held
      first_between x = record {
        disk = after_tasks x.some.0 x.hosted.store.disk (tasks_in x.hosted.store.agenda);
        rows = x.some.1;
        between = rows_stay_between r.run event lucks table x.some.0 before x.hosted after (table_at table before at) (first_at table x.hosted x.at) (behind_at table after there);
      }

      -- a world whose tables have the items of this one
      other_between : (v : moves.World) → IsFrom ItemsFrom w v → before.made ≡ true → HasSomeAt v table schema held → HasRowsBetween schema before.history after.history held
      other_between v from made x =
          let f = from.there table before at made in
          let later : Some f.0 ≡ Some x.hosted = sym f.1 ∙ x.at in
          let k = subst (λ (h : Hosted). ItemsFrom before.store h.store) (some_same f.0 x.hosted later) f.3 x.some.0 in
          record {
            disk = after_tasks x.some.0 x.hosted.store.disk (tasks_in x.hosted.store.agenda);
            rows = x.some.1;
            between = subst (λ (items : List Stored). IsBetween before.history after.history items) (sym k.1)
                (rows_stay_before r.run event lucks table k.0 before after (table_at table before at) (behind_at table after there));
          }

    -- what is left in an event is between the histories before and behind it
    pub stay_over : (old new : World D) → AreLeftOver state images w (first_part w event lucks) old.store.tables new.store.tables → RowsStay state images w (step w event lucks).world old new
    stay_over old new k table before after was is at made there from to =
        rows_weaker st im was.node.devs is.node.devs (λ held. HasSome before was.node.schema held ⊎ HasSomeAt (first_part w event lucks) table was.node.schema held)
        (HasRowsBetween was.node.schema before.history after.history) (k.rows table before was is at made from to)
        (λ held x. ⊎_elim (then_between table before after at there was.node.schema held) (first_between table before after at there was.node.schema held) x)

    -- so is what is left of a world whose tables have the items of the first one
    pub stay_from : (v : moves.World) → IsFrom ItemsFrom w v → (old new : World D) → AreLeftOver state images w v old.store.tables new.store.tables
        → RowsStay state images w (step w event lucks).world old new
    stay_from v from old new k table before after was is at made there first last =
        rows_weaker st im was.node.devs is.node.devs (λ held. HasSome before was.node.schema held ⊎ HasSomeAt v table was.node.schema held)
        (HasRowsBetween was.node.schema before.history after.history) (k.rows table before was is at made first last)
        (λ held x. ⊎_elim (then_between table before after at there was.node.schema held) (other_between table before after at there was.node.schema held v from made) x)

  abbrev pub Stays : moves.World → Event → World D → World D → Type 0
  Stays w event old new = (lucks : Lucks) → RowsStay state images w (step w event lucks).world old new

  module _ (w : moves.World) (r : IsReached w) (event : Event) (result : Result Told WorldFault) (old new : World D) where
    pub stay_left : IfOk result (λ told. AreLeft state images w old.store.tables new.store.tables) → IfOk result (λ told. Stays w event old new)
    stay_left k = go result k
      where
        go : (x : Result Told WorldFault) → IfOk x (λ told. AreLeft state images w old.store.tables new.store.tables) → IfOk x (λ told. Stays w event old new)
        go (Err e) k = tt
        go (Ok told) k = λ lucks. stay_over w r event lucks old new (over_first w (first_part w event lucks) old.store.tables new.store.tables k)

    -- something is put beside the rows of a table
    pub stay_placed : (table : ℕ) (put : SidePut) → IfOk result (λ told. AreLeftOver state images w (move_table table (Place put) w).world old.store.tables new.store.tables)
        → IfOk result (λ told. Stays w event old new)
    stay_placed table put k = go result k
      where
        go : (x : Result Told WorldFault) → IfOk x (λ told. AreLeftOver state images w (move_table table (Place put) w).world old.store.tables new.store.tables)
            → IfOk x (λ told. Stays w event old new)
        go (Err e) k = tt
        go (Ok told) k = λ lucks. stay_from w r event lucks (move_table table (Place put) w).world (place_from put w table) old new k

    -- the Stores do nothing
    pub stay_still : ((disk : D) (image : List ℕ) → images disk (state disk).moment image → IsImage (state disk).pending image) → Holds state w old → IfOk result (λ told. new.store ≡ old.store)
        → IfOk result (λ told. Stays w event old new)
    stay_still only_now h same = stay_left (same_tables (AreLeft state images w old.store.tables) result old new (none_left only_now w old.store h.store) same)

  -- ---- starts

  -- moves that are a start's, with what is left behind its first part
  pub start_left : (number : ℕ) (w : moves.World) (old new : StoreHost D) (m : Moved) (result : Result Answer WorldFault)
      → IfOk result (λ given. (all : List Luck) × IsAnswered state old new facts.Done (store_starts number all w) given × (restart_moves (tables_of w number) all w ≡ m))
      → IfOk result (λ given. AreLeftOver state images w m.world old.tables new.tables)
      → IfOk result (λ given. (all : List Luck) × IsAnswered state old new facts.Done (store_starts number all w) given
      × AreLeftOver state images w (started_at w all (nodes.Store number)) old.tables new.tables)
  start_left number w old new m (Err e) k left = tt
  start_left number w old new m (Ok given) k left = (k.0, k.1, subst (λ (x : Moved). AreLeftOver state images w x.world old.tables new.tables) (sym k.2) left)

  -- as a step that is told, where the first part of the step is this world
  pub comes_left : (w : moves.World) (f : Lucks → WorldStep) (first : Lucks → moves.World) (result : Result Told WorldFault) (old new : World D) (lucks : Lucks)
      → IfOk result (λ told. IsDone state w (f lucks) told new) → IfOk result (λ told. AreLeftOver state images w (first lucks) old.store.tables new.store.tables)
      → ComesLeft state images w f first result old new
  comes_left w f first (Err e) old new lucks k left = tt
  comes_left w f first (Ok told) old new lucks k left = (lucks, k, left)

  pub comes_still : (w : moves.World) (f : Lucks → WorldStep) (first : Lucks → moves.World) (result : Result Told WorldFault) (old new : World D)
      → Comes state w f result new → IfOk result (λ told. AreLeft state images w old.store.tables new.store.tables) → ComesLeft state images w f first result old new
  comes_still w f first (Err e) old new k left = tt
  comes_still w f first (Ok told) old new k left = (k.0, k.1, over_first w (first k.0) old.store.tables new.store.tables left)

  -- without what is left
  pub left_comes : (w : moves.World) (f : Lucks → WorldStep) (first : Lucks → moves.World) (result : Result Told WorldFault) (old new : World D)
      → ComesLeft state images w f first result old new → Comes state w f result new
  left_comes w f first (Err e) old new k = tt
  left_comes w f first (Ok told) old new k = (k.0, k.1)
