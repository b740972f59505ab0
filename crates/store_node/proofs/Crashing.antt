-- What a node's crash promises, by how many calls of the next write's disk pass.
use Rattle.std.proofs.Common.{◌≡◌, ◌⊎◌, inl, inr, ⊎_elim, ℕ, ◌+◌, ◌<◌, ◌≤◌, true, false, List, [], ◌∷◌, Option, Some, None, Result, Ok, Err, refl, sym, ◌∙◌, ap, subst, arith, append-nil}
use Rattle.std.proofs.lemmas.Bool.{cases_lt}
use Rattle.disk_trait.specs.Image.{IsImage}
use Rattle.disk_trait.specs.Calls.{DiskState}
use Rattle.disk_trait.specs.Fuse.{behind, inner_of}
use Rattle.disk_trait.specs.declared.fuse.FuseDisk.{FuseDisk}
use Rattle.vault.specs.Calls.{IsEither}
use Rattle.stab_base.specs.declared.step.Step.{Step}
use Rattle.store_commit.specs.declared.devs.TableDevs.{TableDevs}
use Rattle.store_commit.specs.declared.fault.CommitFault.{CommitFault}
use Rattle.store_commit.specs.Devs.{Devs, Write, changed_by}
use Rattle.store_commit.specs.Fused.{StopsNext}
use Rattle.store_commit.specs.Standing.{devs, writes_of, all_faults, all_stops, DevsLeave, RowsLeave, WorksOn}
use Rattle.store_commit.specs.Standing as commits
use Rattle.store_commit.proofs.Works.{rests_leave}
use Rattle.store_commit.proofs.Moments.{devs_weaker, rows_weaker, rows_then, rows_rest}
use Rattle.store_commit.proofs.Stopping.{since_stopped}
use Rattle.store_commit.proofs.Arming.{IsSet, is_set}
use Rattle.step_tables.specs.StoreMoves.{StoreDisk, StoreTask, TableStore, Crash, changed}
use Rattle.step_tables.specs.Messages.{FailedBefore, FailedAfter}
use Rattle.device_laws.specs.Stands.{Follows}
use Rattle.store_node.specs.declared.node.TableNode.{TableNode}
use Rattle.store_node.specs.Node.{IsTable, told_by, sent_by, own_faults}
use Rattle.store_node.specs.Calls.{Falls, Crashes, IsBehind, step_at}
use Rattle.store_node.proofs.Following.{follows_now, own_is}
use Rattle.store_node.proofs.Falling.{MayHold, fallen, fallen_leaves, fallen_rows}
use Rattle.store_node.proofs.Working.{IsKept, may}

module _ {D : Type 0} (state : D → DiskState) (images : D → ℕ → List ℕ → Type 0) where
  abbrev st : FuseDisk D → DiskState
  st f = behind state f

  abbrev im : FuseDisk D → ℕ → List ℕ → Type 0
  im f = images (inner_of f)

  abbrev at : StoreDisk → Option (List StoreTask) → TableStore
  at disk agenda = record { disk = disk; agenda = agenda }

  -- ---- a write that is cut

  module _ (only_now : (disk : FuseDisk D) (image : List ℕ) → images (inner_of disk) (behind state disk).moment image → IsImage (behind state disk).pending image) where
    module _ (old : TableNode D) (disk : StoreDisk) (task : StoreTask) (tasks : List StoreTask) (w : Write) (ws : List Write) (is : writes_of old.devs ≡ w ∷ ws)
        (t : IsTable state old (at disk (Some (task ∷ tasks))))
        (stopped : TableDevs (FuseDisk D)) (mid new : TableNode D) (calls pick : ℕ) (stops : StopsNext state images calls pick (w ∷ ws) old.devs stopped) (still : devs st stopped ≡ devs st old.devs)
        (stopped_rows : RowsLeave st im old.devs stopped (λ held. held ≡ (devs st old.devs).held)) (r : Result Step CommitFault) (k : commits.Works st im w ws stopped mid.devs r)
        (once : all_stops st mid.devs ≤ all_stops st stopped + 1)
        (falls : Falls state images mid new) (kept : IsKept old new) (down : new.is_up ≡ false) where
      abbrev s : TableStore
      s = at disk (Some (task ∷ tasks))

      abbrev after : StoreDisk
      after = changed disk task.change

      abbrev here : Devs
      here = devs st old.devs

      abbrev there : Devs
      there = changed_by here w

      declared : new.is_declared ≡ true
      declared = kept.declared ∙ t.at.1.declared

      may_hold : MayHold old.schema here there disk after
      may_hold = may state images only_now old disk task tasks w ws is t

      set : IsSet state calls w old.devs stopped
      set = is_set state images calls pick w ws old.devs stopped t.at.1.fresh stops

      cut_before : IsTable state new (at disk None) → IsBehind state old new (step_at old s (Crash FailedBefore))
      cut_before x = record { table = x; told = kept.told ∙ sym (append-nil (told_by old)); sent = kept.sent ∙ sym (append-nil (sent_by old)); same = kept.same }

      cut_after : IsTable state new (at after None) → IsBehind state old new (step_at old s (Crash FailedAfter))
      cut_after x = record { table = x; told = kept.told ∙ sym (append-nil (told_by old)); sent = kept.sent ∙ sym (append-nil (sent_by old)); same = kept.same }

      -- since the fuse was set, and before
      all : DevsLeave st im old.devs mid.devs (IsEither here there)
      all = since_stopped state images calls pick w ws old.devs stopped mid.devs (IsEither here there) stops
          (subst (λ (d : Devs). DevsLeave st im stopped mid.devs (IsEither d (changed_by d w))) still k.any_moment)

      all_rows : RowsLeave st im old.devs mid.devs (IsEither here.held there.held)
      all_rows = rows_then st im old.devs stopped mid.devs (λ held. held ≡ here.held) (IsEither here.held there.held) (IsEither here.held there.held) stopped_rows
          (subst (λ (d : Devs). RowsLeave st im stopped mid.devs (IsEither d.held (changed_by d w).held)) still k.rows_left) (λ held same. inl same) (λ held either. either)

      -- no call that the write is done by has passed
      undone_at : calls ≤ 1 → IsBehind state old new (step_at old s (Crash FailedBefore))
      undone_at few =
          let passes = set.passes in
          let early = k.early (set.armed, omega (arith, passes, few)) in
          let run : DevsLeave st im old.devs mid.devs (IsEither here here) = since_stopped state images calls pick w ws old.devs stopped mid.devs (IsEither here here) stops
          (devs_weaker st im stopped mid.devs (λ d. d ≡ devs st stopped) (IsEither here here) early (λ d same. inl (same ∙ still))) in
          let same_disk : MayHold old.schema here here disk disk = record { first = may_hold.first; second = may_hold.first; first_fit = may_hold.first_fit; second_fit = may_hold.first_fit } in
          cut_before (⊎_elim (λ x. x) (λ x. x) (fallen state images old mid new s t kept.same declared down falls old.devs here here disk disk same_disk run))

      -- all of them have passed
      late : 4 ≤ calls → all_stops st mid.devs ≡ all_stops st stopped
      late many = let passes = set.passes in k.late set.armed (omega (arith, passes, many))

      -- where the call went well, or the disk failed by itself
      done_by : (x : Result Step CommitFault) → commits.Works st im w ws stopped mid.devs x → own_faults state new ≡ own_faults state old → 4 ≤ calls
          → IsBehind state old new (step_at old s (Crash FailedAfter))
      done_by (Ok step) well same many =
          let run : DevsLeave st im mid.devs mid.devs (IsEither there there) = devs_weaker st im mid.devs mid.devs (λ d. d ≡ devs st mid.devs) (IsEither there there)
          (rests_leave st im only_now mid.devs ws well.ready)
          (λ d same. inl (same ∙ (well.devs_are ∙ ap (λ (x : Devs). changed_by x w) still))) in
          let same_disk : MayHold old.schema there there after after = record
          { first = may_hold.second; second = may_hold.second; first_fit = may_hold.second_fit; second_fit = may_hold.second_fit } in
          cut_after (⊎_elim (λ x. x) (λ x. x) (fallen state images old mid new s t kept.same declared down falls mid.devs there there after after same_disk run))
      done_by (Err e) failed same many =
          let rose = (failed.disk e refl).1 in
          let l = late many in
          let a = set.stops_stay in
          let b = set.faults_stay in
          let m = own_is state old in
          let n = own_is state mid in
          let f = falls.counted in
          absurd (omega (arith, rose, l, a, b, m, n, f, same))

      later_by : (x : Result Step CommitFault) → commits.Works st im w ws stopped mid.devs x → (calls < 4) ⊎ (4 ≤ calls) → own_faults state old ≤ own_faults state new
      later_by (Ok step) well (inl few) = let passes = set.passes in absurd (well.stopped (set.armed, omega (arith, passes, few)))
      later_by (Ok step) well (inr many) =
          let counted = well.counted in
          let l = late many in
          let a = set.stops_stay in
          let b = set.faults_stay in
          let m = own_is state old in
          let n = own_is state mid in
          let f = falls.counted in
          omega (arith, counted, l, a, b, m, n, f)
      later_by (Err e) failed which =
          let rose = (failed.disk e refl).1 in
          let a = set.stops_stay in
          let b = set.faults_stay in
          let m = own_is state old in
          let n = own_is state mid in
          let f = falls.counted in
          omega (arith, rose, once, a, b, m, n, f)

      pub crashed_at : Crashes state images calls s old new
      crashed_at = record {
        crashed = ⊎_elim (λ x. inl (cut_before x)) (λ x. inr (cut_after x)) (fallen state images old mid new s t kept.same declared down falls old.devs here there disk after may_hold all);
        undone = λ _ few. undone_at few;
        done = λ same many. done_by r k same many;
        later = later_by r k (cases_lt calls 4);
        any_moment = fallen_leaves state images old mid new s t kept.same declared down falls old.devs here there disk after may_hold all;
        rows_left = fallen_rows state images mid new falls old.schema old.devs here there disk after may_hold all_rows;
      }

    -- ---- with nothing to be done

    module _ (calls : ℕ) (old : TableNode D) (disk : StoreDisk) (t : IsTable state old (at disk (Some []))) (mid new : TableNode D) (same : mid.devs ≡ old.devs) (falls : Falls state images mid new)
        (kept : IsKept old new)
        (down : new.is_up ≡ false) where
      abbrev idle : TableStore
      idle = at disk (Some [])

      abbrev now : Devs
      now = devs st old.devs

      declared_now : new.is_declared ≡ true
      declared_now = kept.declared ∙ t.at.1.declared

      hold : MayHold old.schema now now disk disk
      hold =
          let stands = follows_now old.schema now (writes_of old.devs) disk [] t.at.1.follows in
          record { first = stands; second = stands; first_fit = t.at.1.well.0; second_fit = t.at.1.well.0 }

      run : DevsLeave st im old.devs mid.devs (IsEither now now)
      run = subst (λ (x : TableDevs (FuseDisk D)). DevsLeave st im old.devs x (IsEither now now)) (sym same)
          (devs_weaker st im old.devs old.devs (λ d. d ≡ now) (IsEither now now) (rests_leave st im only_now old.devs (writes_of old.devs) t.at.1.ready) (λ d is. inl is))

      rows_run : RowsLeave st im old.devs mid.devs (IsEither now.held now.held)
      rows_run = subst (λ (x : TableDevs (FuseDisk D)). RowsLeave st im old.devs x (IsEither now.held now.held)) (sym same)
          (rows_weaker st im old.devs old.devs (λ held. held ≡ now.held) (IsEither now.held now.held) (rows_rest st im only_now old.devs (writes_of old.devs) t.at.1.ready) (λ held is. inl is))

      cut : IsBehind state old new (step_at old idle (Crash FailedBefore))
      cut =
          let x = ⊎_elim (λ x. x) (λ x. x) (fallen state images old mid new idle t kept.same declared_now down falls old.devs now now disk disk hold run) in
          record { table = x; told = kept.told ∙ sym (append-nil (told_by old)); sent = kept.sent ∙ sym (append-nil (sent_by old)); same = kept.same }

      crash_idle : Crashes state images calls idle old new
      crash_idle = record {
        crashed = inl cut;
        undone = λ _ _. cut;
        done = λ _ _. cut;
        later = let f = falls.counted in let m = ap (λ (x : TableDevs (FuseDisk D)). own_faults state (record mid { devs = x })) same in omega (arith, f, m);
        any_moment = fallen_leaves state images old mid new idle t kept.same declared_now down falls old.devs now now disk disk hold run;
        rows_left = fallen_rows state images mid new falls old.schema old.devs now now disk disk hold rows_run;
      }

    -- by what stands in the agenda
    pub crash_done : (old : TableNode D) (l : List Write) → writes_of old.devs ≡ l → (disk : StoreDisk) (agenda : Option (List StoreTask)) → IsTable state old (at disk agenda) → old.is_up ≡ true
        → (stopped : TableDevs (FuseDisk D)) (mid new : TableNode D) (calls pick : ℕ) (r : Result Step CommitFault) → StopsNext state images calls pick l old.devs stopped
        → devs st stopped ≡ devs st old.devs
        → RowsLeave st im old.devs stopped (λ held. held ≡ (devs st old.devs).held) → WorksOn st im stopped mid.devs r l → all_stops st mid.devs ≤ all_stops st stopped + 1
        → Falls state images mid new → IsKept old new → new.is_up ≡ false
        → Crashes state images calls (at disk agenda) old new
    crash_done old l is disk None t up stopped mid new calls pick r stops still rows k once falls kept down = let no = t.at.0 in absurd cc
    crash_done old [] is disk (Some []) t up stopped mid new calls pick r stops still rows k once falls kept down = crash_idle calls old disk t mid new (k.1 ∙ stops) falls kept down
    crash_done old [] is disk (Some (task ∷ tasks)) t up stopped mid new calls pick r stops still rows k once falls kept down =
        absurd (subst (λ (l : List Write). Follows old.schema (devs st old.devs) l disk (task ∷ tasks)) is t.at.1.follows)
    crash_done old (w ∷ ws) is disk (Some []) t up stopped mid new calls pick r stops still rows k once falls kept down =
        absurd (subst (λ (l : List Write). Follows old.schema (devs st old.devs) l disk []) is t.at.1.follows)
    crash_done old (w ∷ ws) is disk (Some (task ∷ tasks)) t up stopped mid new calls pick r stops still rows k once falls kept down =
        crashed_at old disk task tasks w ws is t stopped mid new calls pick stops still rows r k.0 once falls kept down
