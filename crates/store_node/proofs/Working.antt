-- What a node's write and its crash promise, from what its devices do.
use Rattle.std.proofs.Common.{◌≡◌, ◌⊎◌, inl, inr, ⊎_elim, ℕ, ◌+◌, ◌++◌, length, map, Bool, true, false, List, [], ◌∷◌, Option, Some, None, Ok, Err, refl, sym, ◌∙◌, ap, subst, arith, append-nil}
use Rattle.disk_trait.specs.Image.{IsImage}
use Rattle.disk_trait.specs.Calls.{DiskState}
use Rattle.disk_trait.specs.Fuse.{behind, inner_of}
use Rattle.disk_trait.specs.declared.fuse.FuseDisk.{FuseDisk}
use Rattle.vault.specs.Calls.{IsEither}
use Rattle.stab_base.specs.declared.node.Node.{Node}
use Rattle.stab_base.specs.declared.step.Step.{Step}
use Rattle.stab_base.specs.declared.step.Step.TheVariants as steps
use Rattle.step_tables.specs.declared.message.Message.{Message}
use Rattle.store_commit.specs.declared.devs.TableDevs.{TableDevs}
use Rattle.store_commit.specs.declared.fault.CommitFault.{CommitFault}
use Rattle.store_commit.specs.Devs.{Devs, Write, changed_by, IsBeforeOrAfter}
use Rattle.store_commit.specs.Standing.{devs, writes_of, step_of, all_faults, IsReady, DevsLeave, WorksOn}
use Rattle.store_commit.specs.Standing.{NothingHidden}
use Rattle.store_commit.specs.Standing as commits
use Rattle.store_commit.specs.Unset.{KeepsUnset}
use Rattle.store_commit.proofs.Works.{rests_leave}
use Rattle.store_commit.proofs.Moments.{devs_weaker, rows_weaker, rows_rest}
use Rattle.store_commit.proofs.Fuses.{row_leaves}
use Rattle.step_tables.specs.StoreMoves.{StoreDisk, StoreTask, TableStore, changed}
use Rattle.step_tables.specs.Messages.{Send}
use Rattle.table_model.specs.declared.table_state.TableState.{TableState}
use Rattle.step_tables.specs.Facts.{Fact}
use Rattle.device_laws.specs.Stands.{Stands, Follows, HasRows}
use Rattle.step_tables.specs.Travels.{send_of}
use Rattle.store_node.specs.Due.{fact_of, told_at, sent_at, state_at, is_last_of}
use Rattle.store_node.specs.Gathered.{HasRoom}
use Rattle.store_node.specs.declared.gathered.Gathered.{Gathered}
use Rattle.store_node.specs.declared.told.StoreFact.{StoreFact}
use Rattle.store_node.specs.declared.fault.NodeFault.TheVariants as node_faults
use Rattle.store_node.specs.declared.node.TableNode.{TableNode}
use Rattle.store_node.specs.Node.{IsWorking, IsResting, IsTable, IsSame, told_by, sent_by, facts_in, sends_in, LeavesEither, LeavesRows}
use Rattle.store_node.specs.Calls.{Falls, Works}
use Rattle.store_node.proofs.Following.{follows_now, well_now, own_stays, own_rises, follows_w, owed_w, step_w, done_working}
use Rattle.store_node.proofs.RowsLeft.{rows_of_disk, has_either}
use Rattle.store_node.proofs.Falling.{MayHold, fallen, fallen_leaves, fallen_rows}

-- a table that goes on from the same
pub record IsKept {D : Type 0} (old new : TableNode D) : Type 0 where
  pub told : told_by new ≡ told_by old
  pub sent : sent_by new ≡ sent_by old
  pub same : IsSame old new
  pub declared : new.is_declared ≡ old.is_declared
  pub state : new.state ≡ old.state

module _ {D : Type 0} (state : D → DiskState) (images : D → ℕ → List ℕ → Type 0) (only_now : (disk : FuseDisk D) (image : List ℕ) → images (inner_of disk) (behind state disk).moment image → IsImage (behind state disk).pending image) where
  abbrev st : FuseDisk D → DiskState
  st f = behind state f

  abbrev im : FuseDisk D → ℕ → List ℕ → Type 0
  im f = images (inner_of f)

  abbrev at : StoreDisk → Option (List StoreTask) → TableStore
  at disk agenda = record { disk = disk; agenda = agenda }

  -- nothing is at work
  pub still_leaves : (node : TableNode D) (disk : StoreDisk) → IsWorking state node disk [] → LeavesEither state images node node disk disk
  still_leaves node disk h =
      devs_weaker st im node.devs node.devs (λ d. d ≡ devs st node.devs) (λ d. Stands node.schema d disk ⊎ Stands node.schema d disk) (rests_leave st im only_now node.devs (writes_of node.devs) h.ready)
      (λ d is. inl (subst (λ (x : Devs). Stands node.schema x disk) (sym is) (follows_now node.schema (devs st node.devs) (writes_of node.devs) disk [] h.follows)))

  pub still_rows : (node : TableNode D) (disk : StoreDisk) (tasks : List StoreTask) → IsWorking state node disk tasks → LeavesRows state images node node disk disk
  still_rows node disk tasks h =
      rows_of_disk st im node.schema (devs st node.devs) disk (follows_now node.schema (devs st node.devs) (writes_of node.devs) disk tasks h.follows) node.devs node.devs
      (rows_rest st im only_now node.devs (writes_of node.devs) h.ready)

  -- and of a node that is down, where it was declared
  pub down_rows : (node : TableNode D) (disk : StoreDisk) → IsResting state node disk → node.is_declared ≡ true → LeavesRows state images node node disk disk
  down_rows node disk h declared =
      rows_of_disk st im node.schema (devs st node.devs) disk (h.stands declared) node.devs node.devs (row_leaves st im only_now node.devs h.up (h.synced declared) (h.sound declared))

  -- of any node that was declared
  pub node_rows : (node : TableNode D) (disk : StoreDisk) (agenda : Option (List StoreTask)) → IsTable state node (at disk agenda) → node.is_declared ≡ true
      → LeavesRows state images node node disk disk
  node_rows node disk None t declared = down_rows node disk t.at.1 declared
  node_rows node disk (Some tasks) t declared = still_rows node disk tasks t.at.1

  pub idle_works : (node : TableNode D) (disk : StoreDisk) (agenda : Option (List StoreTask)) → IsTable state node (at disk agenda) → node.is_up ≡ true → writes_of node.devs ≡ [] → Works state images (at disk agenda) node node (Ok steps.Idle)
  idle_works node disk None t up none = let is = t.at.0 in absurd cc
  idle_works node disk (Some []) t up none = record {
    done = (record { table = t; told = sym (append-nil (told_by node)); sent = sym (append-nil (sent_by node)); same = record { store = refl; table = refl; schema = refl } }, refl);
    failed = tt;
    counted = refl;
    cause = tt;
    only = tt;
    any_moment = still_leaves node disk t.at.1;
    rows_left = still_rows node disk [] t.at.1;
  }
  idle_works node disk (Some (task ∷ tasks)) t up none = absurd (subst (λ (l : List Write). Follows node.schema (devs st node.devs) l disk (task ∷ tasks)) none t.at.1.follows)

  -- ---- a write

  module _ (old : TableNode D) (disk : StoreDisk) (task : StoreTask) (tasks : List StoreTask) (w : Write) (ws : List Write) (is : writes_of old.devs ≡ w ∷ ws) (t : IsTable state old (at disk (Some (task ∷ tasks)))) where
    pub may : MayHold old.schema (devs st old.devs) (changed_by (devs st old.devs) w) disk (changed disk task.change)
    may =
        let f = follows_w state images old disk task tasks w ws is t.at.1 in
        record {
          first = f.0;
          second = follows_now old.schema (changed_by (devs st old.devs) w) ws (changed disk task.change) tasks f.2;
          first_fit = t.at.1.well.0;
          second_fit = well_now old.schema (changed disk task.change) tasks t.at.1.well.1;
        }

    done_at : (table : TableDevs (FuseDisk D)) (facts : Gathered StoreFact) (messages : Gathered (Option Node × Message)) (stage : TableState) (step : Step) (is_last : Bool) → stage ≡ state_at old.owed old.state
        → commits.Works st im w ws old.devs table (Ok step) → writes_of table ≡ ws → step ≡ step_of w → KeepsUnset st old.devs table → NothingHidden table → is_last ≡ is_last_of ws
        → map fact_of facts.items.items ≡ told_by old ++ told_at old.table old.owed step is_last
        → map send_of messages.items.items ≡ sent_by old ++ sent_at old.table old.owed step
        → ((n : ℕ) → HasRoom old.facts (length (told_at old.table old.owed step is_last) + n) → HasRoom facts n)
        → ((n : ℕ) → HasRoom old.messages (length (sent_at old.table old.owed step) + n) → HasRoom messages n)
        → Works state images (at disk (Some (task ∷ tasks))) old (record old { devs = table; facts = facts; messages = messages; state = stage }) (Ok step)
    done_at table facts messages stage step is_last behind_is k rest name keeps hidden last told sent fact_room message_room =
        let h = t.at.1 in
        let owed = owed_w state images old disk task tasks w ws is h in
        let facts_are : task.facts ≡ told_at old.table old.owed step is_last = owed.0 ∙ sym (ap (λ (s : Step). told_at old.table old.owed s is_last) name ∙ ap (λ (b : Bool). told_at old.table old.owed (step_of w) b) last) in
        let sends_are : task.sends ≡ sent_at old.table old.owed step = owed.1 ∙ sym (ap (λ (s : Step). sent_at old.table old.owed s) name) in
        let fact_left = fact_room (facts_in tasks) (subst (λ (l : List Fact). HasRoom old.facts (length l + facts_in tasks)) facts_are h.fact_room) in
        let message_left = message_room (sends_in tasks) (subst (λ (l : List Send). HasRoom old.messages (length l + sends_in tasks)) sends_are h.message_room) in
        record {
          done = (
            record {
              table = record {
                size = t.size;
                spelled = t.spelled;
                short = t.short;
                at = (t.at.0, done_working state images old disk task tasks w ws is h table facts messages stage step behind_is k rest keeps hidden fact_left message_left);
              };
              told = told ∙ ap (λ (l : List Fact). told_by old ++ l) (sym facts_are);
              sent = sent ∙ ap (λ (l : List Send). sent_by old ++ l) (sym sends_are);
              same = record { store = refl; table = refl; schema = refl };
            },
            name ∙ step_w state images old disk task tasks w ws is h,
          );
          failed = tt;
          counted = own_stays state old (record old { devs = table; facts = facts; messages = messages; state = stage }) k.counted (keeps.stopped h.fresh.unset);
          cause = tt;
          only = tt;
          any_moment = devs_weaker st im old.devs table (IsBeforeOrAfter (devs st old.devs) w) (λ d. Stands old.schema d disk ⊎ Stands old.schema d (changed disk task.change)) k.any_moment
              (λ d either. ⊎_elim (λ same. inl (subst (λ (x : Devs). Stands old.schema x disk) (sym same) may.first)) (λ same. inr (subst (λ (x : Devs). Stands old.schema x (changed disk task.change)) (sym same) may.second)) either);
          rows_left = rows_weaker st im old.devs table (IsEither (devs st old.devs).held (changed_by (devs st old.devs) w).held)
              (λ held. HasRows old.schema held disk ⊎ HasRows old.schema held (changed disk task.change)) k.rows_left
              (has_either old.schema (devs st old.devs) (changed_by (devs st old.devs) w) disk (changed disk task.change) may.first may.second);
        }

    failed_at : (mid new : TableNode D) (e : CommitFault) → commits.Works {T = Step} st im w ws old.devs mid.devs (Err e) → KeepsUnset st old.devs mid.devs → Falls state images mid new → IsKept old new → new.is_up ≡ false
        → Works state images (at disk (Some (task ∷ tasks))) old new (Err node_faults.Disk)
    failed_at mid new e k keeps falls kept down =
        let declared : new.is_declared ≡ true = kept.declared ∙ t.at.1.declared in
        let here = devs st old.devs in
        let d = k.disk e refl in
        record {
          done = tt;
          failed = ⊎_elim
              (λ before. inl (record { table = before; told = kept.told ∙ sym (append-nil (told_by old)); sent = kept.sent ∙ sym (append-nil (sent_by old)); same = kept.same }))
              (λ after. inr (record { table = after; told = kept.told ∙ sym (append-nil (told_by old)); sent = kept.sent ∙ sym (append-nil (sent_by old)); same = kept.same }))
              (fallen state images old mid new (at disk (Some (task ∷ tasks))) t kept.same declared down falls old.devs here (changed_by here w) disk (changed disk task.change) may k.any_moment);
          counted = tt;
          cause = let r = own_rises state old mid d.1 (keeps.stopped t.at.1.fresh.unset) in let c = falls.counted in omega (arith, r, c);
          only = refl;
          any_moment = fallen_leaves state images old mid new (at disk (Some (task ∷ tasks))) t kept.same declared down falls old.devs here (changed_by here w) disk (changed disk task.change) may k.any_moment;
          rows_left = fallen_rows state images mid new falls old.schema old.devs here (changed_by here w) disk (changed disk task.change) may k.rows_left;
        }

  -- ---- by what stands in the agenda

  pub work_done : (old : TableNode D) (l : List Write) → writes_of old.devs ≡ l → (writes_of old.devs ≡ [] → ⊥) → (disk : StoreDisk) (agenda : Option (List StoreTask)) → IsTable state old (at disk agenda) → old.is_up ≡ true
      → (table : TableDevs (FuseDisk D)) (facts : Gathered StoreFact) (messages : Gathered (Option Node × Message)) (stage : TableState) (step : Step) (is_last : Bool) → stage ≡ state_at old.owed old.state
      → WorksOn st im old.devs table (Ok step) l → KeepsUnset st old.devs table → NothingHidden table → is_last ≡ is_last_of (writes_of table)
      → map fact_of facts.items.items ≡ told_by old ++ told_at old.table old.owed step is_last
      → map send_of messages.items.items ≡ sent_by old ++ sent_at old.table old.owed step
      → ((n : ℕ) → HasRoom old.facts (length (told_at old.table old.owed step is_last) + n) → HasRoom facts n)
      → ((n : ℕ) → HasRoom old.messages (length (sent_at old.table old.owed step) + n) → HasRoom messages n)
      → Works state images (at disk agenda) old (record old { devs = table; facts = facts; messages = messages; state = stage }) (Ok step)
  work_done old l is some disk None t up table facts messages stage step is_last behind_is k keeps hidden last told sent fr mr = let no = t.at.0 in absurd cc
  work_done old [] is some disk (Some tasks) t up table facts messages stage step is_last behind_is k keeps hidden last told sent fr mr = absurd (some is)
  work_done old (w ∷ ws) is some disk (Some []) t up table facts messages stage step is_last behind_is k keeps hidden last told sent fr mr = absurd (subst (λ (l : List Write). Follows old.schema (devs st old.devs) l disk []) is t.at.1.follows)
  work_done old (w ∷ ws) is some disk (Some (task ∷ tasks)) t up table facts messages stage step is_last behind_is k keeps hidden last told sent fr mr =
      done_at old disk task tasks w ws is t table facts messages stage step is_last behind_is k.0 k.1 k.2 keeps hidden (last ∙ ap is_last_of k.1) told sent fr mr

  pub work_failed : (old : TableNode D) (l : List Write) → writes_of old.devs ≡ l → (writes_of old.devs ≡ [] → ⊥) → (disk : StoreDisk) (agenda : Option (List StoreTask)) → IsTable state old (at disk agenda) → old.is_up ≡ true
      → (mid new : TableNode D) (e : CommitFault) → WorksOn st im old.devs mid.devs (Err e) l → KeepsUnset st old.devs mid.devs → Falls state images mid new → IsKept old new → new.is_up ≡ false
      → Works state images (at disk agenda) old new (Err node_faults.Disk)
  work_failed old l is some disk None t up mid new e k keeps falls kept down = let no = t.at.0 in absurd cc
  work_failed old [] is some disk (Some tasks) t up mid new e k keeps falls kept down = absurd (some is)
  work_failed old (w ∷ ws) is some disk (Some []) t up mid new e k keeps falls kept down = absurd (subst (λ (l : List Write). Follows old.schema (devs st old.devs) l disk []) is t.at.1.follows)
  work_failed old (w ∷ ws) is some disk (Some (task ∷ tasks)) t up mid new e k keeps falls kept down = failed_at old disk task tasks w ws is t mid new e k.0 keeps falls kept down
