-- What a move of one table makes of all, and what the moves of all make of them.
use Rattle.std.proofs.Common.{◌≡◌, ℕ, zero, suc, ◌+◌, ◌<◌, ◌≤◌, ◌++◌, length, drop, Bool, true, false, cond, List, [], ◌∷◌, Option, Some, None, Result, Ok, Err, inl, inr, refl, sym, ap, ◌∙◌, subst, arith}
use Rattle.std.proofs.Common.{◌≢◌, rules, append-nil, append_assoc}
use Rattle.std.specs.Prelude.{◌&&◌, filter, ◌||◌, ◌==◌, nat_lt, IfOk, IsSome, option_map, slice_index_or, if◌then◌else◌}
use Rattle.std.proofs.lemmas.Result.{on_ok_weaker, on_err_weaker}
use Rattle.std.specs.List.{find}
use Rattle.std.specs.declared.cmp.Ordering.{Ordering}
use Rattle.std.specs.Ordering.{nat_cmp, is_eq}
use Rattle.std.specs.Cmp.{nat_cmp_total}
use Rattle.std.proofs.lemmas.Cmp.{tied_itself}
use Rattle.std.specs.BTreeMap.{is_at, WritesThrough}
use Rattle.std.specs.BTreeMap as tree
use Rattle.std.proofs.Math.Seq.{drop-cons}
use Rattle.std.proofs.lemmas.List.Elements.{filter-append}
use Rattle.disk_trait.specs.Calls.{DiskState}
use Rattle.stab_base.specs.declared.step.Step.{Step}
use Rattle.table_model.specs.declared.entry.Entry.{Entry}
use Rattle.stab_base.specs.declared.node.Node.{Node}
use Rattle.stab_base.specs.declared.node.Node.TheVariants as nodes
use Rattle.row_value.specs.declared.schema.Schema.{Schema}
use Rattle.row_value.specs.declared.schema.Scheme.{Scheme}
use Rattle.row_value.specs.Fit.{fit_of}
use Rattle.step_tables.specs.Store.{Stored, current_of}
use Rattle.step_tables.specs.Facts as facts
use Rattle.step_tables.specs.Travels.{message_of}
use Rattle.step_tables.specs.declared.message.Message.{Message}
use Rattle.step_tables.specs.declared.message.Message.TheVariants as kinds
use Rattle.step_tables.specs.Messages.{Luck, Request, Pair}
use Rattle.step_tables.specs.Messages as messages
use Rattle.step_tables.specs.StoreMoves.{StoreDisk, StoreTask, TableStore, StoreStep, StoreMove, SidePut, Take, Place, placed, Work, Crash, Start, crashed, worked, started, recover, recovered, item_at}
use Rattle.step_tables.specs.StoreMoves.{takes, quiet, accepting, item_for, sending, responded, unaccepted, keeps_there, judged, decided, asked, version_of, taken, yours_in}
use Rattle.step_tables.specs.Chunks.{is_spelled}
use Rattle.store_node.specs.declared.fault.NodeFault.{NodeFault}
use Rattle.store_node.specs.declared.fault.NodeFault.TheVariants.{Disk as DiskFailed}
use Rattle.store_node.specs.declared.showing.ShownRow.{ShownRow}
use Rattle.store_node.specs.declared.showing.WholeRow.{WholeRow}
use Rattle.store_node.specs.Calls.{IsAtWork, IsSpent, IsRowAt}
use Rattle.store_node.specs.Reading.{shown_of}
use Rattle.store_node.specs.Node.{IsTable, Fits, has_task}
use Rattle.store_node.specs.Node.{own_faults}
use Rattle.store_node.specs.declared.node.TableNode.{TableNode}
use Rattle.world_tables.specs.World.{World, Outbox, Packet, Moved, still, and_then, and_unless, failing, schema_at, hosted_at, owner_of, is_fault, packets_from, after_table, table_step}
use Rattle.world_tables.specs.World.{move_hosted, move_table, scheme_in, chunk_in}
use Rattle.world_tables.specs.World.{table_falls, tables_fall, table_starts, tables_start, start_hosted, declared_late, is_at_work, busy_step, next_step, tasks_in, hosted_tasks}
use Rattle.world_tables.specs.World as world
use Rattle.store_host.specs.declared.hosted.Hosted.{Hosted}
use Rattle.store_host.specs.declared.hosted.TableOut.{TableOut}
use Rattle.store_host.specs.Holds.{IsHosted, HostedThere, HoldsTables, IsUpNode, IsUpTable, behind_step, outs_in, says_something, said_by, faults_in, faults_at, SameFaults, RisenFaults}
use Rattle.store_host.specs.Steps.{HasTold, HasNodeCause, moved_at, started_by, HasTaken, HasNodeTakeCause, HasShown, HasGiven, HasPlaced}
use Rattle.store_host.specs.Calls.{version_by, AreMoved, restart_moves, HasCause, FitsIn, AreTaken, HasTakeCause, AreShown, AreGiven, table_in, ArePlaced}
use Rattle.store_host.proofs.Froms.{IsFrom, SameDisk, from_itself, from_then, same_then, start_from}
use Rattle.store_host.proofs.Addressed.{AreAddressed, packets_same, step_to}
use Rattle.store_host.proofs.Maps.{moved_tables, found, not_found, at_same}

pub some_there : {X : Type 0} (o : Option X) (x : X) → Some x ≡ o → IsSome o
some_there None x e = absurd cc
some_there (Some y) x e = search rules

-- ---- whether a table has writes to do

at_work : (w : World) (table : ℕ) (disk : StoreDisk) (agenda : Option (List StoreTask)) (history : List Entry) (made : Bool)
    → hosted_at w table ≡ Some (record { store = record { disk = disk; agenda = agenda }; history = history; made = made }) → is_at_work w table ≡ has_task agenda
at_work w table disk None history made e = rw e refl
at_work w table disk (Some []) history made e = rw e refl
at_work w table disk (Some (task ∷ tasks)) history made e = rw e refl

pub at_work_is : (w : World) (table : ℕ) (hosted : world.Hosted) → hosted_at w table ≡ Some hosted → is_at_work w table ≡ has_task hosted.store.agenda
at_work_is w table hosted e = at_work w table hosted.store.disk hosted.store.agenda hosted.history hosted.made e

-- one that has some is up
pub busy_up : {D : Type 0} (state : D → DiskState) (node : TableNode D) (disk : StoreDisk) (agenda : Option (List StoreTask)) → IsTable state node (record { disk = disk; agenda = agenda })
    → has_task agenda ≡ true → node.is_up ≡ true
busy_up state node disk None t some = absurd cc
busy_up state node disk (Some tasks) t some = t.at.0

-- the version of the next write
pub next_version : (disk : StoreDisk) (agenda : Option (List StoreTask)) (version : ℕ) → IsAtWork disk agenda version → version ≡ version_by disk agenda
next_version disk None version is = absurd is
next_version disk (Some []) version is = absurd is
next_version disk (Some (task ∷ tasks)) version is = is

pub no_version : (disk : StoreDisk) (agenda : Option (List StoreTask)) → has_task agenda ≡ false → 0 ≡ version_by disk agenda
no_version disk None none = refl
no_version disk (Some []) none = refl
no_version disk (Some (task ∷ tasks)) none = absurd cc

pub none_at_work : (w : World) (table : ℕ) → hosted_at w table ≡ None → is_at_work w table ≡ false
none_at_work w table e = rw e refl

pub drop_next : (ns : List ℕ) (i : ℕ) → i < length ns → drop i ns ≡ slice_index_or ns i 0 ∷ drop (i + 1) ns
drop_next ns i below = let next : suc i ≡ i + 1 = omega arith in drop-cons ns i 0 below ∙ ap (λ (k : ℕ). slice_index_or ns i 0 ∷ drop k ns) next

pub drop_done : (ns : List ℕ) (i : ℕ) → length ns ≤ i → drop i ns ≡ []
drop_done [] zero all = refl
drop_done [] (suc i) all = refl
drop_done (n ∷ ns) zero all = absurd (omega (arith, all))
drop_done (n ∷ ns) (suc i) all = drop_done ns i (omega (arith, all))

pub find_hit : (f : ℕ → Bool) (ns : List ℕ) (i : ℕ) → i < length ns → f (slice_index_or ns i 0) ≡ true → find f (drop i ns) ≡ Some (slice_index_or ns i 0)
find_hit f ns i below is =
    ap (λ (l : List ℕ). find f l) (drop_next ns i below) ∙ ap (λ (b : Bool). cond b (Some (slice_index_or ns i 0)) (find f (drop (i + 1) ns))) is

pub find_miss : (f : ℕ → Bool) (ns : List ℕ) (i : ℕ) → i < length ns → f (slice_index_or ns i 0) ≡ false → find f (drop (i + 1) ns) ≡ find f (drop i ns)
find_miss f ns i below is =
    sym (ap (λ (l : List ℕ). find f l) (drop_next ns i below) ∙ ap (λ (b : Bool). cond b (Some (slice_index_or ns i 0)) (find f (drop (i + 1) ns))) is)

-- ---- answers that are no fault, and that are

pub done_answer : (d : StoreDisk) (agenda : Option (List StoreTask)) → is_fault (worked d agenda messages.Done).answer ≡ false
done_answer d None = refl
done_answer d (Some []) = refl
done_answer d (Some (task ∷ tasks)) = refl

pub crash_answer : (d : StoreDisk) (agenda : Option (List StoreTask)) (luck : Luck) → is_fault (crashed d agenda luck).answer ≡ false
crash_answer d None luck = refl
crash_answer d (Some []) luck = refl
crash_answer d (Some (task ∷ tasks)) messages.Done = refl
crash_answer d (Some (task ∷ tasks)) messages.FailedBefore = refl
crash_answer d (Some (task ∷ tasks)) messages.FailedAfter = refl

-- ---- one table

module _ {D : Type 0} (state : D → DiskState) (w : World) (old new : tree.BTreeMap ℕ (Hosted D)) (table : ℕ) (it : Hosted D) (was : Hosted D)
    (at : Some was ≡ tree.get nat_cmp old table) (wrote : WritesThrough nat_cmp (nat_cmp table) old it new) (h : HoldsTables state w old) where
  told_after : (hosted base : world.Hosted) (s : StoreStep) (before after : List TableOut) → hosted_at w table ≡ Some hosted → AreAddressed s.sends
      → HasTold state (owner_of w table) (schema_at w table) table base s it before after
      → AreMoved state w new before after (is_fault s.answer) (after_table w table base s)
  told_after hosted base s before after there to t =
      let from : Node = nodes.Store (owner_of w table) in
      record {
        held = moved_tables state w old new table it (wrote.3 (some_there _ was at)).0 hosted (behind_step base s) (w.packets ++ packets_from (owner_of w) from s.sends) h there t.behind wrote.1;
        outs = t.outs ∙ ap (λ (ps : List Packet). outs_in before ++ filter says_something (record { facts = s.facts; packets = ps } ∷ []))
            (packets_same (λ q. owner_of w table) (owner_of w) from s.sends to);
        downs = refl;
        failed = refl;
      }

  -- the table that moves is one of a node
  is_table : (hosted : world.Hosted) → hosted_at w table ≡ Some hosted → IsTable state was.node hosted.store
  is_table hosted there =
      let f = found state w old table was h at in
      let both : Some f.0 ≡ Some hosted = sym f.1 ∙ there in
      let same : f.0 ≡ hosted = cc in
      subst (λ (x : world.Hosted). IsTable state was.node x.store) same f.2.node

  pub table_moved : (move : StoreMove) (hosted : world.Hosted) (before after : List TableOut) (fails : Bool) → hosted_at w table ≡ Some hosted
      → HasTold state (owner_of w table) (schema_at w table) table hosted (moved_at (owner_of w table) (schema_at w table) table hosted move) it before after
      → is_fault (moved_at (owner_of w table) (schema_at w table) table hosted move).answer ≡ fails
      → AreMoved state w new before after fails (move_table table move w)
  table_moved move hosted before after fails there t fault =
      subst (λ (o : Option world.Hosted). AreMoved state w new before after fails (move_hosted w table move o)) (sym there)
      (subst (λ (b : Bool). AreMoved state w new before after b (after_table w table hosted (table_step w table hosted move))) fault
      (told_after hosted hosted (table_step w table hosted move) before after there
      (step_to state was.node (owner_of w table) (scheme_in (schema_at w table)) (chunk_in (schema_at w table)) table hosted.store move (is_table hosted there)) t))

  pub work_done : (r : Result Step NodeFault) (hosted : world.Hosted) (before after : List TableOut) → hosted_at w table ≡ Some hosted
      → IfOk r (λ step. HasTold state (owner_of w table) (schema_at w table) table hosted (moved_at (owner_of w table) (schema_at w table) table hosted (Work messages.Done)) it before after
      × (step ≡ next_step (tasks_in hosted.store.agenda)))
      → IfOk r (λ step. AreMoved state w new before after false (move_table table (Work messages.Done) w) × (step ≡ next_step (hosted_tasks (hosted_at w table))))
  work_done (Err e) hosted before after there k = tt
  work_done (Ok step) hosted before after there k = (
    table_moved (Work messages.Done) hosted before after false there k.0 (done_answer hosted.store.disk hosted.store.agenda),
    k.1 ∙ ap (λ (o : Option world.Hosted). next_step (hosted_tasks o)) (sym there),
  )

  -- a table that stays where it is
  pub same_tables : (hosted : world.Hosted) → hosted_at w table ≡ Some hosted → IsHosted state (owner_of w table) (schema_at w table) table hosted it → HoldsTables state w new
  same_tables hosted there here = record {
    there = λ q. subst (λ (o : Option (Hosted D)). HostedThere state (owner_of w q) (schema_at w q) q (hosted_at w q) o) (sym ((wrote.3 (some_there _ was at)).0 q)) (one q (is_at (nat_cmp table) q) refl);
    keys = h.keys ∙ sym wrote.1;
    rising = h.rising;
  }
    where
      one : (q : ℕ) (b : Bool) → is_at (nat_cmp table) q ≡ b → HostedThere state (owner_of w q) (schema_at w q) q (hosted_at w q) (cond b (Some it) (tree.get nat_cmp old q))
      one q false is = h.there q
      one q true is =
          subst (λ (k : ℕ). HostedThere state (owner_of w k) (schema_at w k) k (hosted_at w k) (Some it)) (at_same table q is)
          (subst (λ (o : Option world.Hosted). HostedThere state (owner_of w table) (schema_at w table) table o (Some it)) (sym there) here)

-- a table that isn't there
pub nothing_moved : {D : Type 0} (state : D → DiskState) (w : World) (tables : tree.BTreeMap ℕ (Hosted D)) (outs : List TableOut) → HoldsTables state w tables
    → AreMoved state w tables outs outs false (still w)
nothing_moved state w tables outs h = record { held = h; outs = sym (append-nil (outs_in outs)); downs = refl; failed = refl }

-- ---- faults of one table

module _ {D : Type 0} (state : D → DiskState) (old new : tree.BTreeMap ℕ (Hosted D)) (table : ℕ) (it : Hosted D) (was : Hosted D) (at : Some was ≡ tree.get nat_cmp old table)
    (u : (q : ℕ) → tree.get nat_cmp new q ≡ cond (is_at (nat_cmp table) q) (Some it) (tree.get nat_cmp old q)) where
  pub faults_there : (q : ℕ) (b : Bool) → is_at (nat_cmp table) q ≡ b → (faults_at state new q ≡ cond b (own_faults state it.node) (faults_at state old q))
      × (b ≡ true → faults_at state old q ≡ own_faults state was.node)
  faults_there q true is = (
    ap (λ (o : Option (Hosted D)). faults_in state o) (u q ∙ ap (λ (b : Bool). cond b (Some it) (tree.get nat_cmp old q)) is),
    λ _. sym (ap (λ (o : Option (Hosted D)). faults_in state o) (at ∙ ap (λ (k : ℕ). tree.get nat_cmp old k) (at_same table q is))),
  )
  faults_there q false is = (ap (λ (o : Option (Hosted D)). faults_in state o) (u q ∙ ap (λ (b : Bool). cond b (Some it) (tree.get nat_cmp old q)) is), λ e. absurd cc)

  pub faults_same : own_faults state it.node ≡ own_faults state was.node → SameFaults state old new
  faults_same same q = go (is_at (nat_cmp table) q) refl
    where
      go : (b : Bool) → is_at (nat_cmp table) q ≡ b → faults_at state new q ≡ faults_at state old q
      go true is = (faults_there q true is).0 ∙ same ∙ sym ((faults_there q true is).1 refl)
      go false is = (faults_there q false is).0

  pub faults_risen : own_faults state was.node < own_faults state it.node → RisenFaults state old new
  faults_risen rose = record { each = λ q. go q (is_at (nat_cmp table) q) refl; one = (table, here) }
    where
      go : (q : ℕ) (b : Bool) → is_at (nat_cmp table) q ≡ b → faults_at state old q ≤ faults_at state new q
      go q true is = let a = (faults_there q true is).0 in let b = (faults_there q true is).1 refl in omega (arith, a, b)
      go q false is = let a = (faults_there q false is).0 in omega (arith, a)

      here : faults_at state old table < faults_at state new table
      here =
          let is : is_at (nat_cmp table) table ≡ true = ap is_eq (tied_itself nat_cmp_total table) in
          let a = (faults_there table true is).0 in
          let b = (faults_there table true is).1 refl in
          omega (arith, a, b)

  pub tables_cause : {T : Type 0} (r : Result T NodeFault) → HasNodeCause state was.node it.node r → HasCause state old new r
  tables_cause r k = record { counted = λ no. faults_same (k.counted no); cause = λ failed. faults_risen (k.cause failed); only = k.only }

pub added_faults : {D : Type 0} (state : D → DiskState) (old new : tree.BTreeMap ℕ (Hosted D)) (table : ℕ) (it : Hosted D)
    → ((q : ℕ) → tree.get nat_cmp new q ≡ cond (is_at (nat_cmp table) q) (Some it) (tree.get nat_cmp old q)) → faults_at state new table ≡ own_faults state it.node
added_faults {D} state old new table it u =
    ap (λ (o : Option (Hosted D)). faults_in state o) (u table ∙ ap (λ (r : Ordering). cond (is_eq r) (Some it) (tree.get nat_cmp old table)) (tied_itself nat_cmp_total table))

pub other_faults : {D : Type 0} (state : D → DiskState) (old new : tree.BTreeMap ℕ (Hosted D)) (table : ℕ) (it : Hosted D)
    → ((q : ℕ) → tree.get nat_cmp new q ≡ cond (is_at (nat_cmp table) q) (Some it) (tree.get nat_cmp old q)) → (q : ℕ) → q ≢ table → faults_at state new q ≡ faults_at state old q
other_faults {D} state old new table it u q apart = go (is_at (nat_cmp table) q) refl
  where
    go : (b : Bool) → is_at (nat_cmp table) q ≡ b → faults_at state new q ≡ faults_at state old q
    go true is = absurd (apart (sym (at_same table q is)))
    go false is = ap (λ (o : Option (Hosted D)). faults_in state o) (u q ∙ ap (λ (b : Bool). cond b (Some it) (tree.get nat_cmp old q)) is)

-- ---- causes of calls one after the other

module _ {D T : Type 0} (state : D → DiskState) (old mid new : tree.BTreeMap ℕ (Hosted D)) (r : Result T NodeFault) where
  pub later_cause : SameFaults state old mid → HasCause state mid new r → HasCause state old new r
  later_cause same k = record { counted = λ no q. k.counted no q ∙ same q; cause = λ failed. rises (k.cause failed); only = k.only }
    where
      rises : RisenFaults state mid new → RisenFaults state old new
      rises x = record {
        each = λ q. let a = same q in let b = x.each q in omega (arith, a, b);
        one = (x.one.0, let a = same x.one.0 in let b = x.one.1 in omega (arith, a, b));
      }

  pub then_cause : HasCause state old mid r → SameFaults state mid new → HasCause state old new r
  then_cause k same = record { counted = λ no q. same q ∙ k.counted no q; cause = λ failed. rises (k.cause failed); only = k.only }
    where
      rises : RisenFaults state old mid → RisenFaults state old new
      rises x = record {
        each = λ q. let a = same q in let b = x.each q in omega (arith, a, b);
        one = (x.one.0, let a = same x.one.0 in let b = x.one.1 in omega (arith, a, b));
      }

-- ---- all tables fall

pub fall_next : (ns : List ℕ) (i : ℕ) → i < length ns → (v : World) → (tables_fall (drop i ns) v).world ≡ (tables_fall (drop (i + 1) ns) (table_falls (slice_index_or ns i 0) v).world).world
fall_next ns i below v = ap (λ (l : List ℕ). (tables_fall l v).world) (drop_next ns i below)

-- a move that tells and sends nothing, doesn't fail, and takes no node down
pub record IsSilent (w : World) (m : Moved) : Type 0 where
  pub said : said_by m ≡ []
  pub failed : m.failed ≡ false
  pub downs : m.world.downs ≡ w.downs

pub both_silent : (w : World) (m : Moved) (f : World → Moved) → IsSilent w m → IsSilent m.world (f m.world) → IsSilent w (and_then m f)
both_silent w m f a b = record {
  said = filter-append says_something m.outs (f m.world).outs ∙ (ap (λ (l : List Outbox). l ++ said_by (f m.world)) a.said ∙ b.said);
  failed = ap (λ (x : Bool). x || (f m.world).failed) a.failed ∙ b.failed;
  downs = b.downs ∙ a.downs;
}

crash_at_silent : (w : World) (table : ℕ) (disk : StoreDisk) (agenda : Option (List StoreTask)) (history : List Entry) (made : Bool) (luck : Luck)
    → IsSilent w (move_hosted w table (Crash luck) (Some (record { store = record { disk = disk; agenda = agenda }; history = history; made = made })))
crash_at_silent w table disk None history made luck = record { said = refl; failed = refl; downs = refl }
crash_at_silent w table disk (Some []) history made luck = record { said = refl; failed = refl; downs = refl }
crash_at_silent w table disk (Some (task ∷ tasks)) history made messages.Done = record { said = refl; failed = refl; downs = refl }
crash_at_silent w table disk (Some (task ∷ tasks)) history made messages.FailedBefore = record { said = refl; failed = refl; downs = refl }
crash_at_silent w table disk (Some (task ∷ tasks)) history made messages.FailedAfter = record { said = refl; failed = refl; downs = refl }

crash_there_silent : (w : World) (table : ℕ) (luck : Luck) (o : Option world.Hosted) → IsSilent w (move_hosted w table (Crash luck) o)
crash_there_silent w table luck None = record { said = refl; failed = refl; downs = refl }
crash_there_silent w table luck (Some hosted) = crash_at_silent w table hosted.store.disk hosted.store.agenda hosted.history hosted.made luck

pub crash_silent : (w : World) (table : ℕ) (luck : Luck) → IsSilent w (move_table table (Crash luck) w)
crash_silent w table luck = crash_there_silent w table luck (hosted_at w table)

pub falls_silent : (ns : List ℕ) (w : World) → IsSilent w (tables_fall ns w)
falls_silent [] w = record { said = refl; failed = refl; downs = refl }
falls_silent (table ∷ ns) w = both_silent w (table_falls table w) (tables_fall ns) (crash_silent w table messages.FailedBefore) (falls_silent ns (table_falls table w).world)

-- ---- all tables start

abbrev pub put_before : List Outbox → Moved → Moved
put_before outs m = record { world = m.world; outs = outs ++ m.outs; failed = m.failed }

-- behind some starts that went well: the world there, what they told, and that the rest of the starts goes on from there
pub record Begins {D : Type 0} (state : D → DiskState) (w : World) (tables : tree.BTreeMap ℕ (Hosted D)) (before after : List TableOut) (ns rest : List ℕ) : Type 0 where
  pub here : World
  pub told : List Outbox
  pub held : HoldsTables state here tables
  pub outs : outs_in after ≡ outs_in before ++ filter says_something told
  pub downs : here.downs ≡ w.downs
  pub from : IsFrom SameDisk w here
  pub goes : (lucks : List Luck) → (more : List Luck) × (tables_start ns more w ≡ put_before told (tables_start rest lucks here))

module _ {D : Type 0} (state : D → DiskState) (w : World) (ns : List ℕ) (before : List TableOut) where
  pub begins : (tables : tree.BTreeMap ℕ (Hosted D)) → HoldsTables state w tables → Begins state w tables before before ns ns
  begins tables h = record { here = w; told = []; held = h; outs = sym (append-nil (outs_in before)); downs = refl; from = from_itself SameDisk (λ s. refl) w; goes = λ lucks. (lucks, refl) }

  start_goes : (table : ℕ) (rest : List ℕ) (lucks : List Luck) (v : World) → (table_starts table messages.Done v).failed ≡ false
      → tables_start (table ∷ rest) (messages.Done ∷ lucks) v ≡ and_then (table_starts table messages.Done v) (tables_start rest lucks)
  start_goes table rest lucks v well = ap (λ (b : Bool). if b then table_starts table messages.Done v else and_then (table_starts table messages.Done v) (tables_start rest lucks)) well

  start_joins : (told : List Outbox) (m : Moved) (f : World → Moved) → m.failed ≡ false → put_before told (and_then m f) ≡ put_before (told ++ m.outs) (f m.world)
  start_joins told m f well =
      ap (λ (b : Bool). record { world = (f m.world).world; outs = told ++ (m.outs ++ (f m.world).outs); failed = b || (f m.world).failed }) well
      ∙ ap (λ (l : List Outbox). record { world = (f m.world).world; outs = l; failed = (f m.world).failed }) (sym (append_assoc told (m.outs) ((f m.world).outs)))

  pub begins_next : (old new : tree.BTreeMap ℕ (Hosted D)) (mid after : List TableOut) (table : ℕ) (left rest : List ℕ) → left ≡ table ∷ rest → (b : Begins state w old before mid ns left)
      → AreMoved state b.here new mid after false (table_starts table messages.Done b.here) → Begins state w new before after ns rest
  begins_next old new mid after table left rest is b m = record {
    here = (table_starts table messages.Done b.here).world;
    told = b.told ++ (table_starts table messages.Done b.here).outs;
    held = m.held;
    outs = m.outs ∙ (ap (λ (l : List Outbox). l ++ said_by (table_starts table messages.Done b.here)) b.outs
        ∙ (append_assoc (outs_in before) (filter says_something b.told) (said_by (table_starts table messages.Done b.here))
        ∙ ap (λ (l : List Outbox). outs_in before ++ l) (sym (filter-append says_something b.told (table_starts table messages.Done b.here).outs))));
    downs = m.downs ∙ b.downs;
    from = from_then SameDisk SameDisk SameDisk same_then w b.here (table_starts table messages.Done b.here).world b.from (start_from b.here table);
    goes = λ lucks.
        let g = b.goes (messages.Done ∷ lucks) in (
          g.0,
          g.1 ∙ (ap (λ (l : List ℕ). put_before b.told (tables_start l (messages.Done ∷ lucks) b.here)) is
              ∙ (ap (put_before b.told) (start_goes table rest lucks b.here m.failed)
              ∙ start_joins b.told (table_starts table messages.Done b.here) (tables_start rest lucks) m.failed)),
        );
  }

  abbrev Ends : tree.BTreeMap ℕ (Hosted D) → List TableOut → Bool → Type 0
  Ends tables after fails = (lucks : List Luck) × AreMoved state w tables before after fails (tables_start ns lucks w)

  ends_at : (tables : tree.BTreeMap ℕ (Hosted D)) (after : List TableOut) (left : List ℕ) (lucks : List Luck) (fails : Bool) (b : Begins state w tables before after ns left)
      → tables_start left lucks b.here ≡ record { world = b.here; outs = []; failed = fails } → Ends tables after fails
  ends_at tables after left lucks fails b is =
      let g = b.goes lucks in
      let whole : tables_start ns g.0 w ≡ record { world = b.here; outs = b.told ++ []; failed = fails } = g.1 ∙ ap (put_before b.told) is in (
        g.0,
        subst (λ (m : Moved). AreMoved state w tables before after fails m) (sym whole) (record {
          held = b.held;
          outs = b.outs ∙ ap (λ (l : List Outbox). outs_in before ++ filter says_something l) (sym (append-nil b.told));
          downs = b.downs;
          failed = refl;
        }),
      )

  -- none is left
  pub ends_well : (tables : tree.BTreeMap ℕ (Hosted D)) (after : List TableOut) (left : List ℕ) → left ≡ [] → Begins state w tables before after ns left → Ends tables after false
  ends_well tables after left none b = ends_at tables after left [] false b (ap (λ (l : List ℕ). tables_start l [] b.here) none)

  -- the next one fails
  pub ends_badly : (old new : tree.BTreeMap ℕ (Hosted D)) (mid after : List TableOut) (table : ℕ) (left rest : List ℕ) → left ≡ table ∷ rest → (b : Begins state w old before mid ns left)
      → HoldsTables state b.here new → after ≡ mid → Ends new after true
  ends_badly old new mid after table left rest is b held same =
      ends_at new after left (messages.FailedBefore ∷ []) true
      (record { here = b.here; told = b.told; held = held; outs = ap outs_in same ∙ b.outs; downs = b.downs; from = b.from; goes = b.goes })
      (ap (λ (l : List ℕ). tables_start l (messages.FailedBefore ∷ []) b.here) is)

-- behind a fall of the same tables
pub restarted : {D : Type 0} (state : D → DiskState) (w : World) (ns : List ℕ) (new : tree.BTreeMap ℕ (Hosted D)) (before after : List TableOut) (fails : Bool) (lucks : List Luck)
    → AreMoved state (tables_fall ns w).world new before after fails (tables_start ns lucks (tables_fall ns w).world) → AreMoved state w new before after fails (restart_moves ns lucks w)
restarted state w ns new before after fails lucks a =
    let m : Moved = tables_fall ns w in
    let silent = falls_silent ns w in
    record {
      held = a.held;
      outs = a.outs ∙ ap (λ (l : List Outbox). outs_in before ++ l)
          (sym (filter-append says_something m.outs (tables_start ns lucks m.world).outs ∙ ap (λ (l : List Outbox). l ++ said_by (tables_start ns lucks m.world)) silent.said));
      downs = a.downs ∙ silent.downs;
      failed = ap (λ (b : Bool). b || (tables_start ns lucks m.world).failed) silent.failed ∙ a.failed;
    }

-- ---- a start of one table

module _ {D : Type 0} (state : D → DiskState) (w : World) (old new : tree.BTreeMap ℕ (Hosted D)) (table : ℕ) (it : Hosted D) (was : Hosted D)
    (at : Some was ≡ tree.get nat_cmp old table) (wrote : WritesThrough nat_cmp (nat_cmp table) old it new) (h : HoldsTables state w old) where
  start_answer : (disk : StoreDisk) (agenda : Option (List StoreTask)) → is_fault (started (owner_of w table) table disk agenda).answer ≡ false
  start_answer disk (Some tasks) = refl
  start_answer disk None = by_pending disk.pending refl
    where
      by_pending : (o : Option Stored) → disk.pending ≡ o → is_fault (recover (owner_of w table) table disk o).answer ≡ false
      by_pending None is = refl
      by_pending (Some pending) is = by_item (item_at pending.entry.version disk.items)
        where
          by_item : (o : Option Stored) → is_fault (recovered (owner_of w table) table disk pending o).answer ≡ false
          by_item None = refl
          by_item (Some found) = refl

  pub table_started : (store : TableStore) (history : List Entry) (made : Bool) (before after : List TableOut)
      → hosted_at w table ≡ Some (record { store = store; history = history; made = made })
      → HasTold state (owner_of w table) (schema_at w table) table (record { store = store; history = history; made = true })
      (started_by (owner_of w table) (schema_at w table) table (record { store = store; history = history; made = made }) made) it before after
      → AreMoved state w new before after false (table_starts table messages.Done w)
  table_started store history true before after there t =
      let hosted : world.Hosted = record { store = store; history = history; made = true } in
      subst (λ (o : Option world.Hosted). AreMoved state w new before after false (start_hosted w table o)) (sym there)
      (table_moved state w old new table it was at wrote h Start hosted before after false there t (start_answer store.disk store.agenda))
  table_started store history false before after there t =
      subst (λ (o : Option world.Hosted). AreMoved state w new before after false (start_hosted w table o)) (sym there)
      (told_after state w old new table it was at wrote h (record { store = store; history = history; made = false }) (record { store = store; history = history; made = true })
      (declared_late (owner_of w table) table store.disk.state) before after there tt t)

-- ---- messages and rows

module _ (g : Scheme) (size table : ℕ) (d : StoreDisk) (from : Node) where
  judged_answer : (q : Request) (current : ℕ) → is_fault (judged g size table d from q current).answer ≡ false
  judged_answer q current = go (takes g q.base current && keeps_there size d.items q)
    where
      go : (b : Bool) → is_fault (if b then quiet d (Some (accepting size table d.items from q (item_for d.items q))) facts.Done else sending d (responded from q (unaccepted g q.base current) ∷ [])).answer ≡ false
      go true = refl
      go false = refl

  decided_answer : (q : Request) (yours : Pair) → is_fault (decided g size table d from q yours).answer ≡ false
  decided_answer q yours = go (yours.number == q.number) (nat_lt q.number yours.number)
    where
      go : (a b : Bool) → is_fault (if a then sending d (responded from q (messages.Again yours.version) ∷ [])
          else (if b then sending d (responded from q (messages.Late yours.number) ∷ []) else judged g size table d from q (version_of (current_of d.items q.row)))).answer ≡ false
      go true b = refl
      go false true = refl
      go false false = judged_answer q (version_of (current_of d.items q.row))

  asked_answer : (q : Request) → is_fault (asked g size table d from q).answer ≡ false
  asked_answer q = go (is_spelled size q.content q.pieces)
    where
      go : (b : Bool) → is_fault (if b then decided g size table d from q (yours_in d.items q.client q.row) else quiet d (Some []) facts.Done).answer ≡ false
      go true = decided_answer q (yours_in d.items q.client q.row)
      go false = refl

  pub take_answer : (agenda : Option (List StoreTask)) (m : messages.Message) → is_fault (taken g size table d agenda from m).answer ≡ false
  take_answer None m = refl
  take_answer (Some (task ∷ more)) m = refl
  take_answer (Some []) (messages.SyncRequest q) = asked_answer q
  take_answer (Some []) (messages.PullRequest q) = refl
  take_answer (Some []) (messages.SyncResponse q) = refl
  take_answer (Some []) (messages.PullResponse q) = refl
  take_answer (Some []) (messages.TornRowRequest q) = refl
  take_answer (Some []) (messages.TornRowResponse q) = refl

place_answer : (table : ℕ) (d : StoreDisk) (agenda : Option (List StoreTask)) (put : SidePut) → is_fault (placed table d agenda put).answer ≡ false
place_answer table d None put = refl
place_answer table d (Some (task ∷ more)) put = refl
place_answer table d (Some []) put = refl

fits_there : (w : World) (message : Message) (schema : Schema) → schema_at w (table_in message) ≡ Some schema → FitsIn w message → Fits schema message
fits_there w (kinds.SyncRequest q) schema is f = (f.0 schema is, f.1)
fits_there w (kinds.SyncResponse q) schema is f = tt
fits_there w (kinds.PullRequest q) schema is f = tt
fits_there w (kinds.PullResponse q) schema is f = tt
fits_there w (kinds.TornRowRequest q) schema is f = tt
fits_there w (kinds.TornRowResponse q) schema is f = tt

there_fits : (w : World) (message : Message) (schema : Schema) → schema_at w (table_in message) ≡ Some schema → Fits schema message → FitsIn w message
there_fits w (kinds.SyncRequest q) schema is f =
    (λ other e. let both : Some schema ≡ Some other = sym is ∙ e in let same : schema ≡ other = cc in subst (λ (s : Schema). fit_of s q.content ≡ Ok tt) same f.0, f.1)
there_fits w (kinds.SyncResponse q) schema is f = tt
there_fits w (kinds.PullRequest q) schema is f = tt
there_fits w (kinds.PullResponse q) schema is f = tt
there_fits w (kinds.TornRowRequest q) schema is f = tt
there_fits w (kinds.TornRowResponse q) schema is f = tt

module _ {D : Type 0} (state : D → DiskState) (w : World) (old new : tree.BTreeMap ℕ (Hosted D)) (it was : Hosted D) (h : HoldsTables state w old) where
  same_hosted : (o : Option world.Hosted) (a b : world.Hosted) → o ≡ Some a → o ≡ Some b → a ≡ b
  same_hosted o a b there here = let both : Some a ≡ Some b = sym there ∙ here in cc

  module _ (from : Node) (message : Message) where
    taken_in : Some was ≡ tree.get nat_cmp old (table_in message) → WritesThrough nat_cmp (nat_cmp (table_in message)) old it new → (before after : List TableOut) (r : Result (Unit {0}) NodeFault)
        → ((hosted : world.Hosted) → IsHosted state (owner_of w (table_in message)) (schema_at w (table_in message)) (table_in message) hosted was → HasTaken state (owner_of w (table_in message)) (schema_at w (table_in message)) (table_in message) hosted from message was it before after r)
        → AreTaken state w from message new before after r
    taken_in at wrote before after r take =
        let table = table_in message in
        let f = found state w old table was h at in
        let hosted = f.0 in
        let k = take f.0 f.2 in
        let agenda_is : (other : world.Hosted) → hosted_at w table ≡ Some other → hosted ≡ other = λ other here. same_hosted (hosted_at w table) hosted other f.1 here in
        record {
          done = λ fits.
              on_ok_weaker r
              (λ t. table_moved state w old new table it was at wrote h (Take from (message_of message)) hosted before after false f.1 t
              (take_answer (scheme_in (schema_at w table)) (chunk_in (schema_at w table)) table hosted.store.disk from hosted.store.agenda (message_of message)))
              (k.taken (sym f.2.number, fits_there w message was.node.schema f.2.schema fits));
          dropped = λ no. on_ok_weaker r (λ t. (same_tables state w old new table it was at wrote h hosted f.1 t.0, t.1)) (k.dropped (λ is. no (there_fits w message was.node.schema f.2.schema is.1)));
          idle = λ no other here. subst (λ (x : world.Hosted). x.store.agenda ≡ Some []) (agenda_is other here) (k.idle no);
          busy = λ version. (
            λ e. (hosted, f.1, (k.busy version).0 e),
            λ b. (k.busy version).1 (subst (λ (x : world.Hosted). IsAtWork x.store.disk x.store.agenda version) (sym (agenda_is b.0 b.1)) b.2),
          );
          given = λ fits s.
              k.given (sym f.2.number, fits_there w message was.node.schema f.2.schema fits) (subst (λ (x : world.Hosted). IsSpent was.node.schema.scheme was.node.schema.chunk x.store.disk message) (sym (agenda_is s.0 s.1)) (subst (λ (o : Option Schema). IsSpent (scheme_in o) (chunk_in o) s.0.store.disk message) f.2.schema s.3));
          spent = λ last e. let s = k.spent last e in ((hosted, f.1, s.0, subst (λ (o : Option Schema). IsSpent (scheme_in o) (chunk_in o) hosted.store.disk message) (sym f.2.schema) s.1), s.2);
          refused = λ no. on_err_weaker r (λ t. (same_tables state w old new table it was at wrote h hosted f.1 t.0, t.1)) (k.refused no);
          fallen = λ is.
              let t = k.fallen is in (
                table_moved state w old new table it was at wrote h (Crash messages.FailedBefore) hosted [] [] false f.1 t.0 (crash_answer hosted.store.disk hosted.store.agenda messages.FailedBefore),
                t.1,
              );
        }

    pub tables_taken : (table : ℕ) → table ≡ table_in message → Some was ≡ tree.get nat_cmp old table → WritesThrough nat_cmp (nat_cmp table) old it new → (before after : List TableOut)
        (r : Result (Unit {0}) NodeFault)
        → ((hosted : world.Hosted) → IsHosted state (owner_of w (table_in message)) (schema_at w (table_in message)) (table_in message) hosted was → HasTaken state (owner_of w (table_in message)) (schema_at w (table_in message)) (table_in message) hosted from message was it before after r)
        → AreTaken state w from message new before after r
    tables_taken table is at wrote =
        taken_in (subst (λ (t : ℕ). Some was ≡ tree.get nat_cmp old t) is at) (subst (λ (t : ℕ). WritesThrough nat_cmp (nat_cmp t) old it new) is wrote)

  pub tables_shown : (table : ℕ) → Some was ≡ tree.get nat_cmp old table → WritesThrough nat_cmp (nat_cmp table) old it new → (row : List ℕ) (r : Result (Option ShownRow) NodeFault)
      → ((hosted : world.Hosted) → IsHosted state (owner_of w table) (schema_at w table) table hosted was → HasShown state (owner_of w table) (schema_at w table) table hosted row it r) → AreShown state w table row new r
  tables_shown table at wrote row r show =
      let f = found state w old table was h at in
      let hosted = f.0 in
      let k = show f.0 f.2 in
      record {
        shown = λ other here.
            subst (λ (x : world.Hosted). IfOk r (λ shown. shown ≡ option_map shown_of (current_of x.store.disk.items row))) (same_hosted (hosted_at w table) hosted other f.1 here) k.shown;
        stays = λ no. same_tables state w old new table it was at wrote h hosted f.1 (k.stays no);
        fallen = λ is.
            table_moved state w old new table it was at wrote h (Crash messages.FailedBefore) hosted [] [] false f.1 (k.fallen is) (crash_answer hosted.store.disk hosted.store.agenda messages.FailedBefore);
      }

  pub tables_given : (table : ℕ) → Some was ≡ tree.get nat_cmp old table → WritesThrough nat_cmp (nat_cmp table) old it new → (row : List ℕ) (r : Result (Option WholeRow) NodeFault)
      → ((hosted : world.Hosted) → IsHosted state (owner_of w table) (schema_at w table) table hosted was → HasGiven state (owner_of w table) (schema_at w table) table hosted row it r) → AreGiven state w table row new r
  tables_given table at wrote row r give =
      let f = found state w old table was h at in
      let hosted = f.0 in
      let k = give f.0 f.2 in
      record {
        given = λ other here.
            subst (λ (x : world.Hosted). IfOk r (IsRowAt x.store.disk.items row (current_of x.store.disk.items row))) (same_hosted (hosted_at w table) hosted other f.1 here) k.given;
        stays = λ no. same_tables state w old new table it was at wrote h hosted f.1 (k.stays no);
        fallen = λ is.
            table_moved state w old new table it was at wrote h (Crash messages.FailedBefore) hosted [] [] false f.1 (k.fallen is) (crash_answer hosted.store.disk hosted.store.agenda messages.FailedBefore);
      }

  pub tables_placed : (table : ℕ) → Some was ≡ tree.get nat_cmp old table → WritesThrough nat_cmp (nat_cmp table) old it new → (put : SidePut) (r : Result (Unit {0}) NodeFault)
      → ((hosted : world.Hosted) → IsHosted state (owner_of w table) (schema_at w table) table hosted was → HasPlaced state (owner_of w table) (schema_at w table) table hosted put it r) → ArePlaced state w table put new r
  tables_placed table at wrote put r place =
      let f = found state w old table was h at in
      let hosted = f.0 in
      let k = place f.0 f.2 in
      let agenda_is : (other : world.Hosted) → hosted_at w table ≡ Some other → hosted ≡ other = λ other here. same_hosted (hosted_at w table) hosted other f.1 here in
      record {
        done = λ outs.
            on_ok_weaker r (λ t. table_moved state w old new table it was at wrote h (Place put) hosted outs outs false f.1 t (place_answer table hosted.store.disk hosted.store.agenda put)) (k.placed outs);
        idle = λ no other here. subst (λ (x : world.Hosted). x.store.agenda ≡ Some []) (agenda_is other here) (k.idle no);
        busy = λ version. (
          λ e. (hosted, f.1, (k.busy version).0 e),
          λ b. (k.busy version).1 (subst (λ (x : world.Hosted). IsAtWork x.store.disk x.store.agenda version) (sym (agenda_is b.0 b.1)) b.2),
        );
        not_spent = k.not_spent;
        refused = λ no. on_err_weaker r (λ t. same_tables state w old new table it was at wrote h hosted f.1 t) (k.refused no);
        fallen = λ is.
            table_moved state w old new table it was at wrote h (Crash messages.FailedBefore) hosted [] [] false f.1 (k.fallen is) (crash_answer hosted.store.disk hosted.store.agenda messages.FailedBefore);
      }

  pub tables_take_cause : (table : ℕ) → Some was ≡ tree.get nat_cmp old table → WritesThrough nat_cmp (nat_cmp table) old it new → (r : Result (Unit {0}) NodeFault)
      → HasNodeTakeCause state was.node it.node r → HasTakeCause state old new r
  tables_take_cause table at wrote r k = record {
    counted = λ no. faults_same state old new table it was at (wrote.3 (some_there _ was at)).0 (k.counted no);
    cause = λ failed. faults_risen state old new table it was at (wrote.3 (some_there _ was at)).0 (k.cause failed);
    only = k.only;
  }

-- a message of a table that isn't there
lost_at : {D : Type 0} (state : D → DiskState) (w : World) (tables : tree.BTreeMap ℕ (Hosted D)) (from : Node) (message : Message) (outs : List TableOut) → HoldsTables state w tables
    → hosted_at w (table_in message) ≡ None → AreTaken state w from message tables outs outs (Ok tt)
lost_at state w tables from message outs h none = record {
  done = λ fits. subst (λ (o : Option world.Hosted). AreMoved state w tables outs outs false (move_hosted w (table_in message) (Take from (message_of message)) o)) (sym none)
      (nothing_moved state w tables outs h);
  dropped = λ no. (h, refl);
  idle = λ no hosted here. absurd (gone hosted here);
  busy = λ version. (λ e. absurd cc, λ b. absurd (gone b.0 b.1));
  given = λ fits s. gone s.0 s.1;
  spent = λ last e. absurd cc;
  refused = λ no. tt;
  fallen = λ is. absurd cc;
}
  where
    gone : (hosted : world.Hosted) → hosted_at w (table_in message) ≡ Some hosted → ⊥
    gone hosted here = let both : None ≡ Some hosted = sym none ∙ here in cc

pub lost : {D : Type 0} (state : D → DiskState) (w : World) (tables : tree.BTreeMap ℕ (Hosted D)) (from : Node) (message : Message) (outs : List TableOut) (table : ℕ) → table ≡ table_in message
    → HoldsTables state w tables → None ≡ tree.get nat_cmp tables table → AreTaken state w from message tables outs outs (Ok tt)
lost state w tables from message outs table is h none =
    lost_at state w tables from message outs h (subst (λ (t : ℕ). hosted_at w t ≡ None) is (not_found state w tables table h none))

-- a put for a table that isn't there
pub lost_put : {D : Type 0} (state : D → DiskState) (w : World) (tables : tree.BTreeMap ℕ (Hosted D)) (table : ℕ) (put : SidePut) → HoldsTables state w tables → None ≡ tree.get nat_cmp tables table
    → ArePlaced state w table put tables (Ok tt)
lost_put state w tables table put h none = record {
  done = λ outs. subst (λ (o : Option world.Hosted). AreMoved state w tables outs outs false (move_hosted w table (Place put) o)) (sym away) (nothing_moved state w tables outs h);
  idle = λ no hosted here. absurd (gone hosted here);
  busy = λ version. (λ e. absurd cc, λ b. absurd (gone b.0 b.1));
  not_spent = λ last e. absurd cc;
  refused = λ no. tt;
  fallen = λ is. absurd cc;
}
  where
    away : hosted_at w table ≡ None
    away = not_found state w tables table h none

    gone : (hosted : world.Hosted) → hosted_at w table ≡ Some hosted → ⊥
    gone hosted here = let both : None ≡ Some hosted = sym away ∙ here in cc

pub no_take_cause : {D : Type 0} (state : D → DiskState) (tables : tree.BTreeMap ℕ (Hosted D)) → HasTakeCause state tables tables (Ok tt)
no_take_cause state tables = record { counted = λ none q. refl; cause = λ failed. absurd cc; only = tt }

-- a table that was found is up
pub found_up : {D : Type 0} (tables : tree.BTreeMap ℕ (Hosted D)) (table : ℕ) (it : Hosted D) → IsUpTable tables table → Some it ≡ tree.get nat_cmp tables table → it.node.is_up ≡ true
found_up tables table it up is = subst IsUpNode (sym is) up

-- a disk failed, and the Store fell
module _ {D : Type 0} (state : D → DiskState) (old mid new : tree.BTreeMap ℕ (Hosted D)) (same : SameFaults state mid new) (e : NodeFault) (is : e ≡ DiskFailed) where
  rises_then : RisenFaults state old mid → RisenFaults state old new
  rises_then x = record {
    each = λ q. let a = same q in let b = x.each q in omega (arith, a, b);
    one = (x.one.0, let a = same x.one.0 in let b = x.one.1 in omega (arith, a, b));
  }

  pub then_take_cause : HasTakeCause state old mid (Err e) → HasTakeCause state old new (Err DiskFailed)
  then_take_cause k = record { counted = λ other. absurd (other refl); cause = λ failed. rises_then (k.cause (ap Err is)); only = inr (inr (inl refl)) }

  pub then_show_cause : {T : Type 0} → HasCause {T = T} state old mid (Err e) → HasCause {T = T} state old new (Err DiskFailed)
  then_show_cause k = record { counted = λ other. absurd (other refl); cause = λ failed. rises_then (k.cause (ap Err is)); only = inl refl }
