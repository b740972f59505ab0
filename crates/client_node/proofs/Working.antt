-- What a node's write and its crash promise, from what its devices do.
use Rattle.std.proofs.Common.{◌≡◌, ◌⊎◌, inl, inr, ⊎_elim, ℕ, ◌++◌, length, map, Bool, true, false, List, [], ◌∷◌, Option, Some, None, Result, Ok, Err, refl, sym, ◌∙◌, ap, subst, arith, append-nil}
use Rattle.disk_trait.specs.Image.{IsImage}
use Rattle.disk_trait.specs.Calls.{DiskState}
use Rattle.disk_trait.specs.Fuse.{behind, inner_of}
use Rattle.disk_trait.specs.declared.fuse.FuseDisk.{FuseDisk}
use Rattle.vault.specs.Calls.{IsEither}
use Rattle.stab_base.specs.declared.node.Node.{Node}
use Rattle.stab_base.specs.declared.step.Step.{Step}
use Rattle.stab_base.specs.declared.step.Step.TheVariants as steps
use Rattle.step_tables.specs.declared.message.Message.{Message}
use Rattle.client_journal.specs.declared.devs.Journal.{Journal}
use Rattle.client_journal.specs.declared.fault.JournalFault.{JournalFault}
use Rattle.client_journal.specs.Devs.{ClientDevs, Write, changed_by, IsBeforeOrAfter}
use Rattle.client_journal.specs.Standing.{devs, writes_of, step_of, IsReady, DevsLeave, WorksOn}
use Rattle.client_journal.specs.Standing as journals
use Rattle.client_journal.specs.Unset.{KeepsUnset}
use Rattle.client_journal.proofs.Works.{rests_leave}
use Rattle.client_journal.proofs.Moments.{devs_weaker}
use Rattle.step_tables.specs.ClientMoves.{ClientDisk, ClientTask, Client, changed}
use Rattle.step_tables.specs.Messages.{Send}
use Rattle.step_tables.specs.Facts.{Fact}
use Rattle.step_tables.specs.Travels.{send_of}
use Rattle.gathering.specs.declared.gathered.Gathered.{Gathered}
use Rattle.gathering.specs.Room.{HasRoom}
use Rattle.step_tables.specs.Lines.{fact_of}
use Rattle.client_node.specs.Due.{told_at, left_at, sent_at, is_last_of}
use Rattle.table_model.specs.declared.line.Fact.{Fact as Told}
use Rattle.client_node.specs.declared.owed.Owed.{Owed}
use Rattle.client_node.specs.declared.fault.CallFault.TheVariants as node_faults
use Rattle.client_node.specs.declared.node.ClientNode.{ClientNode}
use Rattle.client_node.specs.Node.{StandsFor, FollowsFor, IsWorking, IsClient, IsSame, told_by, sent_by, facts_owed, sends_owed, LeavesEither}
use Rattle.client_node.specs.Calls.{Falls, Works}
use Rattle.client_node.proofs.Following.{follows_now, follows_w, owed_w, step_w, behind_w, done_working}
use Rattle.client_node.proofs.OwnFaults.{own_kept, own_failed}
use Rattle.client_node.proofs.Falling.{MayHold, fallen, fallen_leaves}
use Rattle.client_node.proofs.PlanNumbers.{plans_done, plans_cut}
use Rattle.client_node.proofs.Steadies.{steady_changed}

-- a client that goes on from the same
pub record IsKept {D : Type 0} (old new : ClientNode D) : Type 0 where
  pub told : told_by new ≡ told_by old
  pub sent : sent_by new ≡ sent_by old
  pub same : IsSame old new
  pub declared : new.is_declared ≡ old.is_declared

-- what was gathered behind a write
pub record Gathers {D : Type 0} (old : ClientNode D) (facts : Gathered Told) (messages : Gathered (Option Node × Message)) (owed : Owed) (step : Step) (is_last : Bool) : Type 0 where
  pub told : map fact_of facts.items.items ≡ told_by old ++ told_at old.owed.when (facts_owed old.owed) step is_last
  pub sent : map send_of messages.items.items ≡ sent_by old ++ sent_at (sends_owed old.owed) is_last
  pub when : owed.when ≡ old.owed.when
  pub left : facts_owed owed ≡ left_at old.owed.when (facts_owed old.owed) step is_last
  pub sends : is_last ≡ false → sends_owed owed ≡ sends_owed old.owed
  pub fact_room : HasRoom facts (length owed.facts.items)
  pub message_room : HasRoom messages (length owed.messages.items)

module _ {D : Type 0} (state : D → DiskState) (images : D → ℕ → List ℕ → Type 0) (only_now : (disk : FuseDisk D) (image : List ℕ) → images (inner_of disk) (behind state disk).moment image → IsImage (behind state disk).pending image) where
  abbrev st : FuseDisk D → DiskState
  st f = behind state f

  abbrev im : FuseDisk D → ℕ → List ℕ → Type 0
  im f = images (inner_of f)

  abbrev at : ClientDisk → Option (List ClientTask) → Client
  at disk agenda = record { disk = disk; agenda = agenda }

  -- nothing is at work
  pub still_leaves : (node : ClientNode D) (disk : ClientDisk) → IsWorking state node disk [] → LeavesEither state images node node disk disk
  still_leaves node disk h =
      devs_weaker st im node.devs node.devs (λ d. d ≡ devs st node.devs) (λ d. StandsFor node.number d disk ⊎ StandsFor node.number d disk) (rests_leave st im only_now node.devs (writes_of node.devs) h.ready)
      (λ d is. inl (subst (λ (x : ClientDevs). StandsFor node.number x disk) (sym is) (follows_now node.number (devs st node.devs) (writes_of node.devs) disk [] h.follows)))

  pub idle_works : (node : ClientNode D) (disk : ClientDisk) (agenda : Option (List ClientTask)) → IsClient state node (at disk agenda) → node.is_up ≡ true → writes_of node.devs ≡ [] → Works state images (at disk agenda) node node (Ok steps.Idle)
  idle_works node disk None t up none = let is = t.at.0 in absurd cc
  idle_works node disk (Some []) t up none = record {
    done = (record { client = t; told = sym (append-nil (told_by node)); sent = sym (append-nil (sent_by node)); same = record { number = refl; linked = refl } }, refl);
    failed = tt;
    counted = refl;
    cause = tt;
    only = tt;
    any_moment = still_leaves node disk t.at.1;
    plans = λ n h. h;
  }
  idle_works node disk (Some (task ∷ tasks)) t up none = absurd (subst (λ (l : List Write). FollowsFor node.number (devs st node.devs) l disk (task ∷ tasks)) none t.at.1.follows).1

  -- ---- a write

  module _ (old : ClientNode D) (disk : ClientDisk) (task : ClientTask) (tasks : List ClientTask) (w : Write) (ws : List Write) (is : writes_of old.devs ≡ w ∷ ws) (t : IsClient state old (at disk (Some (task ∷ tasks)))) where
    abbrev here : ClientDevs
    here = devs st old.devs

    pub may : MayHold old.number old.waiting here (changed_by here w) disk (changed disk task.change)
    may = record {
      first = follows_now old.number here (w ∷ ws) disk (task ∷ tasks) (follows_w state images old disk task tasks w ws is t.at.1);
      second = follows_now old.number (changed_by here w) ws (changed disk task.change) tasks (behind_w state images old disk task tasks w ws is t.at.1);
      first_steady = t.at.1.steady;
      second_steady = steady_changed old.waiting disk task.change t.at.1.tasks_steady.0 t.at.1.steady;
    }

    pub done_at : (client : Journal (FuseDisk D)) (facts : Gathered Told) (messages : Gathered (Option Node × Message)) (owed : Owed) (step : Step) (is_last : Bool)
        → journals.Works st im w ws old.devs client (Ok step) → KeepsUnset st old.devs client → writes_of client ≡ ws → step ≡ step_of w → is_last ≡ is_last_of ws → Gathers old facts messages owed step is_last
        → Works state images (at disk (Some (task ∷ tasks))) old (record old { devs = client; facts = facts; messages = messages; owed = owed }) (Ok step)
    done_at client facts messages owed step is_last k keeps rest name last g =
        let h = t.at.1 in
        let due = owed_w state images old disk task tasks w ws is h in
        let when = old.owed.when in
        let facts_are : task.facts ≡ told_at when (facts_owed old.owed) step is_last =
        due.0 ∙ sym (ap (λ (s : Step). told_at when (facts_owed old.owed) s is_last) name ∙ ap (λ (b : Bool). told_at when (facts_owed old.owed) (step_of w) b) last) in
        let sends_are : task.sends ≡ sent_at (sends_owed old.owed) is_last = due.1 ∙ sym (ap (λ (b : Bool). sent_at (sends_owed old.owed) b) last) in
        let left : facts_owed owed ≡ left_at when (facts_owed old.owed) (step_of w) (is_last_of ws) =
        g.left ∙ (ap (λ (s : Step). left_at when (facts_owed old.owed) s is_last) name ∙ ap (λ (b : Bool). left_at when (facts_owed old.owed) (step_of w) b) last) in
        record {
          done = (
            record {
              client = record { at = (t.at.0, done_working state images old disk task tasks w ws is h client facts messages owed step k keeps rest g.when left (λ no. g.sends (last ∙ no)) g.fact_room g.message_room) };
              told = g.told ∙ ap (λ (l : List Fact). told_by old ++ l) (sym facts_are);
              sent = g.sent ∙ ap (λ (l : List Send). sent_by old ++ l) (sym sends_are);
              same = record { number = refl; linked = refl };
            },
            name ∙ step_w state images old disk task tasks w ws is h,
          );
          failed = tt;
          counted = own_kept state old (record old { devs = client; facts = facts; messages = messages; owed = owed }) h.fresh keeps k.counted;
          cause = tt;
          only = tt;
          any_moment = devs_weaker st im old.devs client (IsBeforeOrAfter here w) (λ d. StandsFor old.number d disk ⊎ StandsFor old.number d (changed disk task.change)) k.any_moment
              (λ d either. ⊎_elim (λ same. inl (subst (λ (x : ClientDevs). StandsFor old.number x disk) (sym same) may.first)) (λ same. inr (subst (λ (x : ClientDevs). StandsFor old.number x (changed disk task.change)) (sym same) may.second)) either);
          plans = λ n below. plans_done state n old (record old { devs = client; facts = facts; messages = messages; owed = owed }) w ws is (λ so. so) k.devs_are rest below;
        }

    module _ (mid new : ClientNode D) (falls : Falls state images mid new) (kept : IsKept old new) (is_down : new.is_up ≡ false) where
      declared : new.is_declared ≡ true
      declared = kept.declared ∙ t.at.1.declared

      pub failed_at : (e : JournalFault) → journals.Works {T = Step} st im w ws old.devs mid.devs (Err e) → KeepsUnset st old.devs mid.devs → Works state images (at disk (Some (task ∷ tasks))) old new (Err node_faults.Disk)
      failed_at e k keeps =
          let d = k.disk e refl in
          record {
            done = tt;
            failed = ⊎_elim
                (λ before. inl (record { client = before; told = kept.told ∙ sym (append-nil (told_by old)); sent = kept.sent ∙ sym (append-nil (sent_by old)); same = kept.same }))
                (λ after. inr (record { client = after; told = kept.told ∙ sym (append-nil (told_by old)); sent = kept.sent ∙ sym (append-nil (sent_by old)); same = kept.same }))
                (fallen state images old mid new kept.same old.waiting declared is_down falls old.devs here (changed_by here w) disk (changed disk task.change) may k.any_moment);
            counted = tt;
            cause = let r = own_failed state old mid t.at.1.fresh keeps d.1 in let n = falls.counted in omega (arith, r, n);
            only = refl;
            any_moment = fallen_leaves state images old mid new kept.same old.waiting declared is_down falls old.devs here (changed_by here w) disk (changed disk task.change) may k.any_moment;
            plans = λ n below. plans_cut state n old new w ws is (λ _. t.at.1.declared) (falls.left old.devs here (changed_by here w) k.any_moment).0 falls.idle below;
          }

  -- ---- by what stands in the agenda

  pub work_done : (old : ClientNode D) (l : List Write) → writes_of old.devs ≡ l → (writes_of old.devs ≡ [] → ⊥) → (disk : ClientDisk) (agenda : Option (List ClientTask)) → IsClient state old (at disk agenda) → old.is_up ≡ true
      → (client : Journal (FuseDisk D)) (facts : Gathered Told) (messages : Gathered (Option Node × Message)) (owed : Owed) (step : Step) (is_last : Bool)
      → WorksOn st im old.devs client (Ok step) l → KeepsUnset st old.devs client → is_last ≡ is_last_of (writes_of client) → Gathers old facts messages owed step is_last
      → Works state images (at disk agenda) old (record old { devs = client; facts = facts; messages = messages; owed = owed }) (Ok step)
  work_done old l is some disk None t up client facts messages owed step is_last k keeps last g = let no = t.at.0 in absurd cc
  work_done old [] is some disk (Some tasks) t up client facts messages owed step is_last k keeps last g = absurd (some is)
  work_done old (w ∷ ws) is some disk (Some []) t up client facts messages owed step is_last k keeps last g = absurd (subst (λ (l : List Write). FollowsFor old.number (devs st old.devs) l disk []) is t.at.1.follows).1
  work_done old (w ∷ ws) is some disk (Some (task ∷ tasks)) t up client facts messages owed step is_last k keeps last g = done_at old disk task tasks w ws is t client facts messages owed step is_last k.0 keeps k.1 k.2 (last ∙ ap is_last_of k.1) g

  pub work_failed : (old : ClientNode D) (l : List Write) → writes_of old.devs ≡ l → (writes_of old.devs ≡ [] → ⊥) → (disk : ClientDisk) (agenda : Option (List ClientTask)) → IsClient state old (at disk agenda) → old.is_up ≡ true
      → (mid new : ClientNode D) (e : JournalFault) → WorksOn st im old.devs mid.devs (Err e) l → KeepsUnset st old.devs mid.devs → Falls state images mid new → IsKept old new → new.is_up ≡ false
      → Works state images (at disk agenda) old new (Err node_faults.Disk)
  work_failed old l is some disk None t up mid new e k keeps falls kept down = let no = t.at.0 in absurd cc
  work_failed old [] is some disk (Some tasks) t up mid new e k keeps falls kept down = absurd (some is)
  work_failed old (w ∷ ws) is some disk (Some []) t up mid new e k keeps falls kept down = absurd (subst (λ (l : List Write). FollowsFor old.number (devs st old.devs) l disk []) is t.at.1.follows).1
  work_failed old (w ∷ ws) is some disk (Some (task ∷ tasks)) t up mid new e k keeps falls kept down = failed_at old disk task tasks w ws is t mid new falls kept down e k.0 keeps
