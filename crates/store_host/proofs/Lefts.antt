-- What a crash leaves of the rows of each table, from move to move.
use Rattle.std.proofs.Common.{◌≡◌, ◌≢◌, ◌⊎◌, inl, ⊎_elim, ℕ, Bool, true, false, cond, List, [], ◌∷◌, Option, Some, None, refl, sym, ap, ◌∙◌, subst}
use Rattle.std.specs.Ordering.{nat_cmp}
use Rattle.std.specs.BTreeMap.{is_at, WritesThrough}
use Rattle.std.specs.BTreeMap as tree
use Rattle.std.specs.Map.{lookup}
use Rattle.std.specs.Prelude.{if◌then◌else◌}
use Rattle.disk_trait.specs.Image.{IsImage}
use Rattle.disk_trait.specs.Calls.{DiskState}
use Rattle.disk_trait.specs.Fuse.{behind, inner_of}
use Rattle.disk_trait.specs.declared.fuse.FuseDisk.{FuseDisk}
use Rattle.row_value.specs.declared.schema.Schema.{Schema}
use Rattle.row_store.specs.Data.{TableData}
use Rattle.store_commit.specs.declared.devs.TableDevs.{TableDevs}
use Rattle.store_commit.specs.Standing.{RowsLeave}
use Rattle.step_tables.specs.StoreMoves.{StoreDisk, StoreTask, TableStore}
use Rattle.device_laws.specs.Stands.{HasRows}
use Rattle.store_commit.proofs.Moments.{rows_weaker, rows_then}
use Rattle.store_node.specs.declared.node.TableNode.{TableNode}
use Rattle.store_node.specs.Node.{LeavesRows, behind_next}
use Rattle.store_node.proofs.Working.{node_rows}
use Rattle.world_tables.specs.World.{World, owner_of, schema_at, hosted_at, tasks_in}
use Rattle.world_tables.specs.World as world
use Rattle.store_host.specs.declared.hosted.Hosted.{Hosted}
use Rattle.world_tables.specs.Passed.{after_tasks}
use Rattle.store_host.specs.Holds.{IsHosted, HostedThere, HoldsTables, LeftBy, AreLeft, AreStill}
use Rattle.store_host.proofs.Maps.{found, at_same}
use Rattle.store_host.proofs.Moving.{some_there}
use Rattle.store_host.proofs.Froms.{IsFrom, SameDisk, GoesOn}

some_same : {X : Type 0} (a b : X) → Some a ≡ Some b → a ≡ b
some_same a b e = cc

-- the disk behind the next task, as one behind the first task of all
pub next_after : (disk : StoreDisk) (agenda : Option (List StoreTask)) → behind_next disk agenda ≡ after_tasks 1 disk (tasks_in agenda)
next_after disk None = refl
next_after disk (Some []) = refl
next_after disk (Some (task ∷ tasks)) = refl

-- rows behind some of the next writes, and rows as they were
abbrev pub SomeOn : world.Hosted → Schema → TableData → Type 0
SomeOn hosted schema held = (k : ℕ) × HasRows schema held (after_tasks k hosted.store.disk (tasks_in hosted.store.agenda))

abbrev pub AsItWas : world.Hosted → Schema → TableData → Type 0
AsItWas hosted schema held = HasRows schema held hosted.store.disk

module _ {D : Type 0} (state : D → DiskState) (images : D → ℕ → List ℕ → Type 0) where
  abbrev st : FuseDisk D → DiskState
  st f = behind state f

  abbrev im : FuseDisk D → ℕ → List ℕ → Type 0
  im f = images (inner_of f)

  pub still_left : (w : World) (old new : tree.BTreeMap ℕ (Hosted D)) → AreStill state images w old new → AreLeft state images w old new
  still_left w old new s = record {
    rows = λ q hosted before after at made from to.
        rows_weaker st im before.node.devs after.node.devs (AsItWas hosted before.node.schema) (SomeOn hosted before.node.schema) (s.rows q hosted before after at made from to) (λ held x. (0, x));
  }

  -- ---- a node's rows

  -- other facts and messages
  pub rows_told : (old mid new : TableNode D) (a b : StoreDisk) → new.devs ≡ mid.devs → LeavesRows state images old mid a b → LeavesRows state images old new a b
  rows_told old mid new a b same run =
      subst (λ (x : TableDevs (FuseDisk D)). RowsLeave st im old.devs x (λ held. HasRows old.schema held a ⊎ HasRows old.schema held b)) (sym same) run

  -- nothing was done, or the next write
  pub or_next : (old new : TableNode D) (a b : StoreDisk) → LeavesRows state images old new a a → LeavesRows state images old new a b
  or_next old new a b run =
      rows_weaker st im old.devs new.devs (λ held. HasRows old.schema held a ⊎ HasRows old.schema held a) (λ held. HasRows old.schema held a ⊎ HasRows old.schema held b) run
      (λ held x. inl (⊎_elim (λ y. y) (λ y. y) x))

  -- ---- one table

  module _ (only_now : (disk : FuseDisk D) (image : List ℕ) → images (inner_of disk) (behind state disk).moment image → IsImage (behind state disk).pending image) (w : World)
      (old : tree.BTreeMap ℕ (Hosted D)) (h : HoldsTables state w old) (R : world.Hosted → Schema → TableData → Type 0)
      (now : (hosted : world.Hosted) (schema : Schema) (held : TableData) → HasRows schema held hosted.store.disk → R hosted schema held) where
    same_hosted : (o : Option world.Hosted) (a b : world.Hosted) → o ≡ Some a → o ≡ Some b → a ≡ b
    same_hosted o a b there here = some_same a b (sym there ∙ here)

    kept_table : (q : ℕ) (hosted : world.Hosted) (before : Hosted D) → hosted_at w q ≡ Some hosted → hosted.made ≡ true → tree.get nat_cmp old q ≡ Some before
        → RowsLeave st im before.node.devs before.node.devs (R hosted before.node.schema)
    kept_table q hosted before at made from =
        let f = found state w old q before h (sym from) in
        let same = same_hosted (hosted_at w q) f.0 hosted f.1 at in
        let declared : before.node.is_declared ≡ true = f.2.made ∙ (ap (λ (x : world.Hosted). x.made) same ∙ made) in
        rows_weaker st im before.node.devs before.node.devs (λ held. HasRows before.node.schema held f.0.store.disk ⊎ HasRows before.node.schema held f.0.store.disk) (R hosted before.node.schema)
        (node_rows state images only_now before.node f.0.store.disk f.0.store.agenda f.2.node declared)
        (λ held x. subst (λ (y : world.Hosted). R y before.node.schema held) same (now f.0 before.node.schema held (⊎_elim (λ y. y) (λ y. y) x)))

    -- no table has moved
    pub nothing_left : LeftBy state images w old old R
    nothing_left q hosted before after at made from to =
        let same : before ≡ after = some_same before after (sym from ∙ to) in
        subst (λ (x : Hosted D). RowsLeave st im before.node.devs x.node.devs (R hosted before.node.schema)) same (kept_table q hosted before at made from)

    -- one has
    module _ (new : tree.BTreeMap ℕ (Hosted D)) (table : ℕ) (it was : Hosted D) (there : Some was ≡ tree.get nat_cmp old table) (wrote : WritesThrough nat_cmp (nat_cmp table) old it new) where
      new_at : (q : ℕ) (b : Bool) → is_at (nat_cmp table) q ≡ b → tree.get nat_cmp new q ≡ cond b (Some it) (tree.get nat_cmp old q)
      new_at q b is = (wrote.3 (some_there _ was there)).0 q ∙ ap (λ (b : Bool). cond b (Some it) (tree.get nat_cmp old q)) is

      -- another table
      apart_left : (q : ℕ) (hosted : world.Hosted) (before after : Hosted D) → hosted_at w q ≡ Some hosted → hosted.made ≡ true → tree.get nat_cmp old q ≡ Some before
          → tree.get nat_cmp new q ≡ Some after
          → is_at (nat_cmp table) q ≡ false → RowsLeave st im before.node.devs after.node.devs (R hosted before.node.schema)
      apart_left q hosted before after at made from to is =
          let same : before ≡ after = some_same before after (sym from ∙ (sym (new_at q false is) ∙ to)) in
          subst (λ (x : Hosted D). RowsLeave st im before.node.devs x.node.devs (R hosted before.node.schema)) same (kept_table q hosted before at made from)

      module _ (moved : (hosted : world.Hosted) → IsHosted state (owner_of w table) (schema_at w table) table hosted was → hosted.made ≡ true
          → RowsLeave st im was.node.devs it.node.devs (R hosted was.node.schema)) where
        -- this table
        here_left : (hosted : world.Hosted) → hosted_at w table ≡ Some hosted → hosted.made ≡ true → RowsLeave st im was.node.devs it.node.devs (R hosted was.node.schema)
        here_left hosted at made =
            let f = found state w old table was h there in
            let same = same_hosted (hosted_at w table) f.0 hosted f.1 at in
            subst (λ (x : world.Hosted). RowsLeave st im was.node.devs it.node.devs (R x was.node.schema)) same (moved f.0 f.2 (ap (λ (x : world.Hosted). x.made) same ∙ made))

        same_left : (q : ℕ) (hosted : world.Hosted) (before after : Hosted D) → hosted_at w q ≡ Some hosted → hosted.made ≡ true → tree.get nat_cmp old q ≡ Some before
            → tree.get nat_cmp new q ≡ Some after
            → is_at (nat_cmp table) q ≡ true → RowsLeave st im before.node.devs after.node.devs (R hosted before.node.schema)
        same_left q hosted before after at made from to is =
            let number : table ≡ q = at_same table q is in
            let now_it : it ≡ after = some_same it after (sym (new_at q true is) ∙ to) in
            let was_it : was ≡ before = some_same was before (there ∙ (ap (λ (k : ℕ). tree.get nat_cmp old k) number ∙ from)) in
            subst (λ (x : Hosted D). RowsLeave st im before.node.devs x.node.devs (R hosted before.node.schema)) now_it
            (subst (λ (x : Hosted D). RowsLeave st im x.node.devs it.node.devs (R hosted x.node.schema)) was_it (here_left hosted (ap (hosted_at w) number ∙ at) made))

        pub table_left : LeftBy state images w old new R
        table_left q hosted before after at made from to = go (is_at (nat_cmp table) q) refl
          where
            go : (b : Bool) → is_at (nat_cmp table) q ≡ b → RowsLeave st im before.node.devs after.node.devs (R hosted before.node.schema)
            go true is = same_left q hosted before after at made from to is
            go false is = apart_left q hosted before after at made from to is

  -- as a node's rows say it: as they were, or behind the next write
  pub was_left : (was it : Hosted D) (hosted : world.Hosted) → LeavesRows state images was.node it.node hosted.store.disk hosted.store.disk
      → RowsLeave st im was.node.devs it.node.devs (AsItWas hosted was.node.schema)
  was_left was it hosted run =
      rows_weaker st im was.node.devs it.node.devs (λ held. HasRows was.node.schema held hosted.store.disk ⊎ HasRows was.node.schema held hosted.store.disk) (AsItWas hosted was.node.schema) run
      (λ held x. ⊎_elim (λ y. y) (λ y. y) x)

  pub next_left : (was it : Hosted D) (hosted : world.Hosted) → LeavesRows state images was.node it.node hosted.store.disk (behind_next hosted.store.disk hosted.store.agenda)
      → RowsLeave st im was.node.devs it.node.devs (SomeOn hosted was.node.schema)
  next_left was it hosted run =
      rows_weaker st im was.node.devs it.node.devs (λ held. HasRows was.node.schema held hosted.store.disk ⊎ HasRows was.node.schema held (behind_next hosted.store.disk hosted.store.agenda))
      (SomeOn hosted was.node.schema) run
      (λ held x. ⊎_elim (λ y. (0, y)) (λ y. (1, subst (λ (disk : StoreDisk). HasRows was.node.schema held disk) (next_after hosted.store.disk hosted.store.agenda) y)) x)

  module _ (only_now : (disk : FuseDisk D) (image : List ℕ) → images (inner_of disk) (behind state disk).moment image → IsImage (behind state disk).pending image) (w : World)
      (old : tree.BTreeMap ℕ (Hosted D)) (h : HoldsTables state w old) where
    pub none_still : AreStill state images w old old
    none_still = record { rows = nothing_left only_now w old h AsItWas (λ hosted schema held x. x) }

    -- a table that is added leaves the others as they are
    module _ (added : tree.BTreeMap ℕ (Hosted D)) (table : ℕ) (it : Hosted D) (absent : tree.get nat_cmp old table ≡ None)
        (is_added : (q : ℕ) → tree.get nat_cmp added q ≡ (if is_at (nat_cmp table) q then Some it else tree.get nat_cmp old q)) where
      kept_at : (q : ℕ) (before : Hosted D) → tree.get nat_cmp old q ≡ Some before → (tree.get nat_cmp added q ≡ Some before) × (q ≢ table)
      kept_at q before from = go (is_at (nat_cmp table) q) refl
        where
          apart : q ≢ table
          apart same = let both : None ≡ Some before = sym absent ∙ (ap (λ (k : ℕ). tree.get nat_cmp old k) (sym same) ∙ from) in cc

          go : (b : Bool) → is_at (nat_cmp table) q ≡ b → (tree.get nat_cmp added q ≡ Some before) × (q ≢ table)
          go true is = absurd (apart (sym (at_same table q is)))
          go false is = (is_added q ∙ (ap (λ (b : Bool). if b then Some it else tree.get nat_cmp old q) is ∙ from), apart)

      pub added_still : AreStill state images w old added
      added_still = record {
        rows = λ q hosted before after at made from to.
            let both : Some before ≡ Some after = sym (kept_at q before from).0 ∙ to in
            let same : before ≡ after = cc in
            subst (λ (x : Hosted D). RowsLeave st im before.node.devs x.node.devs (AsItWas hosted before.node.schema)) same (none_still.rows q hosted before before at made from from);
      }

      pub fallen_still : (new : tree.BTreeMap ℕ (Hosted D)) (v : World) → ((q : ℕ) → q ≢ table → hosted_at v q ≡ hosted_at w q) → AreStill state images v added new → AreStill state images w old new
      fallen_still new v others k = record {
        rows = λ q hosted before after at made from to. let here = kept_at q before from in k.rows q hosted before after (others q here.1 ∙ at) made here.0 to;
      }

    module _ (new : tree.BTreeMap ℕ (Hosted D)) (table : ℕ) (it was : Hosted D) (there : Some was ≡ tree.get nat_cmp old table) (wrote : WritesThrough nat_cmp (nat_cmp table) old it new) where
      pub still_at : ((hosted : world.Hosted) → IsHosted state (owner_of w table) (schema_at w table) table hosted was → hosted.made ≡ true → LeavesRows state images was.node it.node hosted.store.disk hosted.store.disk)
          → AreStill state images w old new
      still_at moved = record {
        rows = table_left only_now w old h AsItWas (λ hosted schema held x. x) new table it was there wrote
            (λ hosted k made. was_left was it hosted (moved hosted k made));
      }

      pub next_at : ((hosted : world.Hosted) → IsHosted state (owner_of w table) (schema_at w table) table hosted was → hosted.made ≡ true
          → LeavesRows state images was.node it.node hosted.store.disk (behind_next hosted.store.disk hosted.store.agenda)) → AreLeft state images w old new
      next_at moved = record {
        rows = table_left only_now w old h SomeOn (λ hosted schema held x. (0, x)) new table it was there wrote
            (λ hosted k made. next_left was it hosted (moved hosted k made));
      }

  -- ---- moves one after the other

  pub between : (store : ℕ) (declared : Option Schema) (q : ℕ) (later : world.Hosted) (o : Option (Hosted D)) → HostedThere state store declared q (Some later) o
      → (it : Hosted D) × (o ≡ Some it) × IsHosted state store declared q later it
  between store declared q later None h = absurd h
  between store declared q later (Some it) h = (it, refl, h)

  module _ (Q : TableStore → TableStore → Type 0) (w v : World) (old mid new : tree.BTreeMap ℕ (Hosted D)) (h : HoldsTables state w old)
      (k : HoldsTables state v mid) (from : IsFrom Q w v) where
    pub lefts_then : (R S T : world.Hosted → Schema → TableData → Type 0) → LeftBy state images w old mid R → LeftBy state images v mid new S
        → ((hosted : world.Hosted) (schema : Schema) (held : TableData) → R hosted schema held → T hosted schema held)
        → ((hosted later : world.Hosted) (schema : Schema) (held : TableData) → Q hosted.store later.store → S later schema held → T hosted schema held)
        → LeftBy state images w old new T
    lefts_then R S T first second from_first from_second q hosted before after at made was is =
        let f = from.there q hosted at made in
        let later = f.0 in
        let m = between (owner_of v q) (schema_at v q) q later (tree.get nat_cmp mid q)
        (subst (λ (o : Option world.Hosted). HostedThere state (owner_of v q) (schema_at v q) q o (tree.get nat_cmp mid q)) f.1 (k.there q)) in
        let it = m.0 in
        let b = found state w old q before h (sym was) in
        let schemas : Some before.node.schema ≡ Some it.node.schema = sym b.2.schema ∙ (ap (λ (ss : List (ℕ × Schema)). lookup (is_at (nat_cmp q)) ss) (sym from.schemas) ∙ m.2.schema) in
        let same : it.node.schema ≡ before.node.schema = sym (some_same before.node.schema it.node.schema schemas) in
        rows_then st im before.node.devs it.node.devs after.node.devs (R hosted before.node.schema) (S later it.node.schema) (T hosted before.node.schema)
        (first q hosted before it at made was m.1) (second q later it after f.1 f.2 m.1 is) (λ held x. from_first hosted before.node.schema held x)
        (λ held x. from_second hosted later before.node.schema held f.3 (subst (λ (s : Schema). S later s held) same x))

    -- a fall behind moves, and a move behind others
    pub still_then : ((s t : TableStore) → Q s t → SameDisk s t) → AreStill state images w old mid → AreStill state images v mid new → AreStill state images w old new
    still_then same a b = record {
      rows = lefts_then AsItWas AsItWas AsItWas a.rows b.rows (λ hosted schema held x. x)
          (λ hosted later schema held q x. subst (λ (d : StoreDisk). HasRows schema held d) (same hosted.store later.store q) x);
    }

    pub left_then : ((s t : TableStore) → Q s t → GoesOn s t) → AreLeft state images w old mid → AreLeft state images v mid new → AreLeft state images w old new
    left_then goes a b = record {
      rows = lefts_then SomeOn SomeOn SomeOn a.rows b.rows (λ hosted schema held x. x)
          (λ hosted later schema held q x. let g = goes hosted.store later.store q x.0 in (g.0, subst (λ (d : StoreDisk). HasRows schema held d) g.1 x.1));
    }

  -- ---- a Store that falls

  module _ (w v : World) (old tables new : tree.BTreeMap ℕ (Hosted D)) (h : HoldsTables state w old) (held : HoldsTables state v tables) (falls : AreStill state images v tables new) where
    -- behind a write or inside one
    pub work_falls : IsFrom GoesOn w v → AreLeft state images w old tables → AreLeft state images w old new
    work_falls from left = left_then GoesOn w v old tables new h held from (λ s t q. q) left (still_left v tables new falls)

    -- and behind a read
    pub read_falls : IsFrom SameDisk w v → AreStill state images w old tables → AreLeft state images w old new
    read_falls from left = still_left w old new (still_then SameDisk w v old tables new h held from (λ s t q. q) left falls)
