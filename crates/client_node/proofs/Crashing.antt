-- What a node's crash promises, by how many calls of the next write's disk pass.
use Rattle.std.proofs.Common.{◌≡◌, ◌⊎◌, inl, inr, ⊎_elim, ℕ, ◌+◌, ◌<◌, ◌≤◌, true, false, List, [], ◌∷◌, Option, Some, None, Result, Ok, Err, refl, sym, ◌∙◌, ap, subst, arith, append-nil}
use Rattle.std.proofs.lemmas.Bool.{cases_lt}
use Rattle.disk_trait.specs.Image.{IsImage}
use Rattle.disk_trait.specs.Calls.{DiskState}
use Rattle.disk_trait.specs.Fuse.{behind, inner_of}
use Rattle.disk_trait.specs.declared.fuse.FuseDisk.{FuseDisk}
use Rattle.vault.specs.Calls.{IsEither}
use Rattle.stab_base.specs.declared.step.Step.{Step}
use Rattle.client_journal.specs.declared.devs.Journal.{Journal}
use Rattle.client_journal.specs.declared.fault.JournalFault.{JournalFault}
use Rattle.client_journal.specs.Devs.{ClientDevs, Write, changed_by}
use Rattle.client_journal.specs.Fused.{StopsNext}
use Rattle.client_journal.specs.Standing.{devs, writes_of, DevsLeave, WorksOn}
use Rattle.client_journal.specs.Standing as journals
use Rattle.client_journal.specs.Unset.{all_stops}
use Rattle.client_journal.proofs.Works.{rests_leave}
use Rattle.client_journal.proofs.Moments.{devs_weaker}
use Rattle.client_journal.proofs.Stopping.{since_stopped}
use Rattle.client_journal.proofs.Arming.{IsSet, is_set}
use Rattle.step_tables.specs.ClientMoves.{ClientDisk, ClientTask, Client, Crash, changed}
use Rattle.step_tables.specs.Messages.{FailedBefore, FailedAfter}
use Rattle.client_node.specs.declared.node.ClientNode.{ClientNode}
use Rattle.client_node.specs.Node.{FollowsFor, IsClient, told_by, sent_by, own_faults}
use Rattle.client_node.specs.Calls.{Falls, Crashes, IsBehind, step_at}
use Rattle.client_node.proofs.Following.{follows_now}
use Rattle.client_node.proofs.OwnFaults.{own_is}
use Rattle.client_node.proofs.Falling.{MayHold, fallen, fallen_leaves}
use Rattle.client_node.proofs.PlanNumbers.{plans_lost, plans_cut}
use Rattle.client_node.proofs.Working.{IsKept, may}

module _ {D : Type 0} (state : D → DiskState) (images : D → ℕ → List ℕ → Type 0) where
  abbrev st : FuseDisk D → DiskState
  st f = behind state f

  abbrev im : FuseDisk D → ℕ → List ℕ → Type 0
  im f = images (inner_of f)

  abbrev at : ClientDisk → Option (List ClientTask) → Client
  at disk agenda = record { disk = disk; agenda = agenda }

  -- ---- a write that is cut

  module _ (only_now : (disk : FuseDisk D) (image : List ℕ) → images (inner_of disk) (behind state disk).moment image → IsImage (behind state disk).pending image) where
    module _ (old : ClientNode D) (disk : ClientDisk) (task : ClientTask) (tasks : List ClientTask) (w : Write) (ws : List Write) (is : writes_of old.devs ≡ w ∷ ws)
        (t : IsClient state old (at disk (Some (task ∷ tasks))))
        (stopped : Journal (FuseDisk D)) (mid new : ClientNode D) (calls pick : ℕ) (stops : StopsNext state images calls pick (w ∷ ws) old.devs stopped) (still : devs st stopped ≡ devs st old.devs)
        (r : Result Step JournalFault) (k : journals.Works st im w ws stopped mid.devs r)
        (once : all_stops st mid.devs ≤ all_stops st stopped + 1)
        (falls : Falls state images mid new) (kept : IsKept old new) (down : new.is_up ≡ false) where
      abbrev s : Client
      s = at disk (Some (task ∷ tasks))

      abbrev after : ClientDisk
      after = changed disk task.change

      abbrev here : ClientDevs
      here = devs st old.devs

      abbrev there : ClientDevs
      there = changed_by here w

      declared : new.is_declared ≡ true
      declared = kept.declared ∙ t.at.1.declared

      may_hold : MayHold old.number old.waiting here there disk after
      may_hold = may state images only_now old disk task tasks w ws is t

      set : IsSet state calls w old.devs stopped
      set = is_set state images calls pick w ws old.devs stopped t.at.1.fresh stops

      cut_before : IsClient state new (at disk None) → IsBehind state old new (step_at old s (Crash FailedBefore))
      cut_before x = record { client = x; told = kept.told ∙ sym (append-nil (told_by old)); sent = kept.sent ∙ sym (append-nil (sent_by old)); same = kept.same }

      cut_after : IsClient state new (at after None) → IsBehind state old new (step_at old s (Crash FailedAfter))
      cut_after x = record { client = x; told = kept.told ∙ sym (append-nil (told_by old)); sent = kept.sent ∙ sym (append-nil (sent_by old)); same = kept.same }

      -- since the fuse was set, and before
      all : DevsLeave st im old.devs mid.devs (IsEither here there)
      all = since_stopped state images calls pick w ws old.devs stopped mid.devs (IsEither here there) stops
          (subst (λ (d : ClientDevs). DevsLeave st im stopped mid.devs (IsEither d (changed_by d w))) still k.any_moment)

      -- no call that the write is done by has passed
      undone_at : calls ≤ 1 → IsBehind state old new (step_at old s (Crash FailedBefore))
      undone_at few =
          let passes = set.passes in
          let early = k.early (set.armed, omega (arith, passes, few)) in
          let run : DevsLeave st im old.devs mid.devs (IsEither here here) = since_stopped state images calls pick w ws old.devs stopped mid.devs (IsEither here here) stops
          (devs_weaker st im stopped mid.devs (λ d. d ≡ devs st stopped) (IsEither here here) early (λ d same. inl (same ∙ still))) in
          let same_disk : MayHold old.number old.waiting here here disk disk = record
          { first = may_hold.first; second = may_hold.first; first_steady = may_hold.first_steady; second_steady = may_hold.first_steady } in
          cut_before (⊎_elim (λ x. x) (λ x. x) (fallen state images old mid new kept.same old.waiting declared down falls old.devs here here disk disk same_disk run))

      -- all of them have passed
      late : 4 ≤ calls → all_stops st mid.devs ≡ all_stops st stopped
      late many = let passes = set.passes in k.late set.armed (omega (arith, passes, many))

      -- where the call went well, or the disk failed by itself
      done_by : (x : Result Step JournalFault) → journals.Works st im w ws stopped mid.devs x → own_faults state new ≡ own_faults state old → 4 ≤ calls
          → IsBehind state old new (step_at old s (Crash FailedAfter))
      done_by (Ok step) well same many =
          let run : DevsLeave st im mid.devs mid.devs (IsEither there there) = devs_weaker st im mid.devs mid.devs (λ d. d ≡ devs st mid.devs) (IsEither there there)
          (rests_leave st im only_now mid.devs ws well.ready)
          (λ d same. inl (same ∙ (well.devs_are ∙ ap (λ (x : ClientDevs). changed_by x w) still))) in
          let same_disk : MayHold old.number old.waiting there there after after = record
          { first = may_hold.second; second = may_hold.second; first_steady = may_hold.second_steady; second_steady = may_hold.second_steady } in
          cut_after (⊎_elim (λ x. x) (λ x. x) (fallen state images old mid new kept.same old.waiting declared down falls mid.devs there there after after same_disk run))
      done_by (Err e) failed same many =
          let rose = (failed.disk e refl).1 in
          let l = late many in
          let a = set.stops_stay in
          let b = set.faults_stay in
          let m = own_is state old in
          let n = own_is state mid in
          let f = falls.counted in
          absurd (omega (arith, rose, l, a, b, m, n, f, same))

      later_by : (x : Result Step JournalFault) → journals.Works st im w ws stopped mid.devs x → (calls < 4) ⊎ (4 ≤ calls) → own_faults state old ≤ own_faults state new
      later_by (Ok step) well (inl few) = let passes = set.passes in absurd (well.stopped (set.armed, omega (arith, passes, few)))
      later_by (Ok step) well (inr many) =
          let counted = well.counted in
          let l = late many in
          let a = set.stops_stay in
          let b = set.faults_stay in
          let m = own_is state old in
          let n = own_is state mid in
          let f = falls.counted in
          omega (arith, counted, l, a, b, m, n, f)
      later_by (Err e) failed which =
          let rose = (failed.disk e refl).1 in
          let a = set.stops_stay in
          let b = set.faults_stay in
          let m = own_is state old in
          let n = own_is state mid in
          let f = falls.counted in
          omega (arith, rose, once, a, b, m, n, f)

      pub crashed_at : Crashes state images calls s old new
      crashed_at = record {
        crashed = ⊎_elim (λ x. inl (cut_before x)) (λ x. inr (cut_after x))
            (fallen state images old mid new kept.same old.waiting declared down falls old.devs here there disk after may_hold all);
        undone = λ _ few. undone_at few;
        done = λ same many. done_by r k same many;
        later = later_by r k (cases_lt calls 4);
        idle = λ none. absurd cc;
        any_moment = fallen_leaves state images old mid new kept.same old.waiting declared down falls old.devs here there disk after may_hold all;
        plans = λ n below. plans_cut state n old new w ws is (λ _. t.at.1.declared) (falls.left old.devs here there all).0 falls.idle below;
      }

    -- ---- with nothing to be done

    module _ (calls : ℕ) (old : ClientNode D) (disk : ClientDisk) (t : IsClient state old (at disk (Some []))) (mid new : ClientNode D) (same : mid.devs ≡ old.devs)
        (falls : Falls state images mid new) (kept : IsKept old new)
        (down : new.is_up ≡ false) where
      abbrev idle : Client
      idle = at disk (Some [])

      abbrev now : ClientDevs
      now = devs st old.devs

      declared_now : new.is_declared ≡ true
      declared_now = kept.declared ∙ t.at.1.declared

      hold : MayHold old.number old.waiting now now disk disk
      hold =
          let stands = follows_now old.number now (writes_of old.devs) disk [] t.at.1.follows in
          record { first = stands; second = stands; first_steady = t.at.1.steady; second_steady = t.at.1.steady }

      run : DevsLeave st im old.devs mid.devs (IsEither now now)
      run = subst (λ (x : Journal (FuseDisk D)). DevsLeave st im old.devs x (IsEither now now)) (sym same)
          (devs_weaker st im old.devs old.devs (λ d. d ≡ now) (IsEither now now) (rests_leave st im only_now old.devs (writes_of old.devs) t.at.1.ready) (λ d is. inl is))

      cut : IsBehind state old new (step_at old idle (Crash FailedBefore))
      cut =
          let x = ⊎_elim (λ x. x) (λ x. x) (fallen state images old mid new kept.same old.waiting declared_now down falls old.devs now now disk disk hold run) in
          record { client = x; told = kept.told ∙ sym (append-nil (told_by old)); sent = kept.sent ∙ sym (append-nil (sent_by old)); same = kept.same }

      own_before : own_faults state mid ≡ own_faults state old
      own_before = ap (λ (x : Journal (FuseDisk D)). own_faults state (record mid { devs = x })) same

      crash_idle : Crashes state images calls idle old new
      crash_idle = record {
        crashed = inl cut;
        undone = λ _ _. cut;
        done = λ _ _. cut;
        later = let f = falls.counted in let m = own_before in omega (arith, f, m);
        idle = λ _. falls.counted ∙ own_before;
        any_moment = fallen_leaves state images old mid new kept.same old.waiting declared_now down falls old.devs now now disk disk hold run;
        plans = λ n below. plans_lost state n old new (λ _. t.at.1.declared) (⊎_elim (λ x. x) (λ x. x) (falls.left old.devs now now run).0) falls.idle below;
      }

    -- by what stands in the agenda
    pub crash_done : (old : ClientNode D) (l : List Write) → writes_of old.devs ≡ l → (disk : ClientDisk) (agenda : Option (List ClientTask)) → IsClient state old (at disk agenda) → old.is_up ≡ true
        → (stopped : Journal (FuseDisk D)) (mid new : ClientNode D) (calls pick : ℕ) (r : Result Step JournalFault) → StopsNext state images calls pick l old.devs stopped
        → devs st stopped ≡ devs st old.devs
        → WorksOn st im stopped mid.devs r l → all_stops st mid.devs ≤ all_stops st stopped + 1
        → Falls state images mid new → IsKept old new → new.is_up ≡ false
        → Crashes state images calls (at disk agenda) old new
    crash_done old l is disk None t up stopped mid new calls pick r stops still k once falls kept down = let no = t.at.0 in absurd cc
    crash_done old [] is disk (Some []) t up stopped mid new calls pick r stops still k once falls kept down = crash_idle calls old disk t mid new (k.1 ∙ stops) falls kept down
    crash_done old [] is disk (Some (task ∷ tasks)) t up stopped mid new calls pick r stops still k once falls kept down =
        absurd (subst (λ (l : List Write). FollowsFor old.number (devs st old.devs) l disk (task ∷ tasks)) is t.at.1.follows).1
    crash_done old (w ∷ ws) is disk (Some []) t up stopped mid new calls pick r stops still k once falls kept down =
        absurd (subst (λ (l : List Write). FollowsFor old.number (devs st old.devs) l disk []) is t.at.1.follows).1
    crash_done old (w ∷ ws) is disk (Some (task ∷ tasks)) t up stopped mid new calls pick r stops still k once falls kept down =
        crashed_at old disk task tasks w ws is t stopped mid new calls pick stops still r k.0 once falls kept down
