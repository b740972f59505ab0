-- What a node is behind a call of its devices that changes nothing of what they hold.
use Rattle.std.proofs.Common.{◌≡◌, ◌⊎◌, inl, ⊎_elim, ℕ, suc, ◌<◌, length, true, false, List, [], ◌∷◌, Option, Some, None, Result, refl, sym, ◌∙◌, ap, subst, arith}
use Rattle.disk_trait.specs.Image.{IsImage}
use Rattle.disk_trait.specs.Calls.{DiskState}
use Rattle.disk_trait.specs.Fuse.{behind, inner_of}
use Rattle.disk_trait.specs.declared.fuse.FuseDisk.{FuseDisk}
use Rattle.vault.specs.Calls.{IsEither}
use Rattle.step_tables.specs.Lines.{fact_of}
use Rattle.step_tables.specs.Travels.{send_of}
use Rattle.std.specs.Prelude.{map, IsErrOf}
use Rattle.client_journal.specs.declared.devs.Journal.{Journal}
use Rattle.client_journal.specs.Devs.{ClientDevs}
use Rattle.client_journal.specs.Standing.{devs, writes_of, AreUp, IsReady, DevsLeave}
use Rattle.client_journal.specs.Asking.{AllLeave}
use Rattle.client_journal.specs.Unset.{KeepsUnset}
use Rattle.client_journal.proofs.Works.{all_same}
use Rattle.client_journal.proofs.Moments.{devs_weaker}
use Rattle.step_tables.specs.ClientMoves.{ClientDisk, ClientTask, Client}
use Rattle.client_node.specs.declared.fault.CallFault.{CallFault}
use Rattle.client_node.specs.declared.fault.CallFault.TheVariants as call
use Rattle.client_node.specs.declared.node.ClientNode.{ClientNode}
use Rattle.client_node.specs.Node.{StandsFor, IsWorking, IsClient, IsSame, LeavesEither, HasPlansBelow, told_by, sent_by, own_faults}
use Rattle.client_node.specs.Calls.{Fell, Stays}
use Rattle.client_node.specs.Looks.{IsNotDisk, Serves, Looks}
use Rattle.client_node.specs.Waiting.{IsMore}
use Rattle.client_node.specs.Steady.{IsSteady}
use Rattle.gathering.specs.Room.{HasRoom}
use Rattle.client_node.proofs.Steadies.{steady_more, tasks_more}
use Rattle.client_node.proofs.Following.{follows_now}
use Rattle.client_node.proofs.OwnFaults.{own_failed, fresh_now}
use Rattle.client_node.proofs.Falling.{MayHold, fallen, fallen_leaves}
use Rattle.client_node.proofs.PlanNumbers.{plans_same, plans_lost, next_below}

-- a node amid a call: its devices were asked, room was made, and rows were noted
pub record IsMid {D : Type 0} (old mid : ClientNode D) : Type 0 where
  pub number : mid.number ≡ old.number
  pub linked : mid.is_linked ≡ old.is_linked
  pub up : mid.is_up ≡ old.is_up
  pub declared : mid.is_declared ≡ old.is_declared
  pub told : told_by mid ≡ told_by old
  pub sent : sent_by mid ≡ sent_by old
  pub owed : mid.owed ≡ old.owed
  pub fact_room : HasRoom old.facts (length old.owed.facts.items) → HasRoom mid.facts (length old.owed.facts.items)
  pub message_room : HasRoom old.messages (length old.owed.messages.items) → HasRoom mid.messages (length old.owed.messages.items)
  pub more : IsMore old.waiting mid.waiting

pub mid_devs : {D : Type 0} (old : ClientNode D) (client : Journal (FuseDisk D)) → IsMid old (record old { devs = client })
mid_devs old client = record {
  number = refl;
  linked = refl;
  up = refl;
  declared = refl;
  told = refl;
  sent = refl;
  owed = refl;
  fact_room = λ h. h;
  message_room = λ h. h;
  more = record { outs = λ k h. h; ready = λ k h. h; conflicts = λ k h. h };
}

module _ {D : Type 0} (state : D → DiskState) (images : D → ℕ → List ℕ → Type 0) where
  abbrev st : FuseDisk D → DiskState
  st f = behind state f

  abbrev im : FuseDisk D → ℕ → List ℕ → Type 0
  im f = images (inner_of f)

  abbrev at : ClientDisk → Option (List ClientTask) → Client
  at disk agenda = record { disk = disk; agenda = agenda }

  -- devices that hold what they held, and have the same to do
  pub again : (node mid : ClientNode D) → IsMid node mid → devs st mid.devs ≡ devs st node.devs → AreUp mid.devs → KeepsUnset st node.devs mid.devs → IsReady st mid.devs (writes_of mid.devs) → writes_of mid.devs ≡ writes_of node.devs
      → (disk : ClientDisk) (agenda : Option (List ClientTask)) → IsClient state node (at disk agenda) → node.is_up ≡ true → IsClient state mid (at disk agenda)
  again node mid m same up keeps ready writes disk None t is_up = let no = t.at.0 in absurd cc
  again node mid m same up keeps ready writes disk (Some tasks) t is_up =
      let h = t.at.1 in
      record {
        at = (
          m.up ∙ t.at.0,
          record {
            declared = m.declared ∙ h.declared;
            up = up;
            fresh = keeps.fresh h.fresh;
            ready = ready;
            follows = rw (m.number, same, writes) h.follows;
            rests = rw (same, writes) h.rests;
            steady = steady_more node.waiting mid.waiting m.more disk h.steady;
            tasks_steady = tasks_more node.waiting mid.waiting m.more tasks h.tasks_steady;
            owed = rw (m.owed, writes) h.owed;
            fact_room = rw m.owed (m.fact_room h.fact_room);
            message_room = rw m.owed (m.message_room h.message_room);
          },
        );
      }

  -- what the devices of a node that is up stand for
  pub stands_now : (node : ClientNode D) (disk : ClientDisk) (agenda : Option (List ClientTask)) → IsClient state node (at disk agenda) → node.is_up ≡ true → StandsFor node.number (devs st node.devs) disk
  stands_now node disk None t is_up = let no = t.at.0 in absurd cc
  stands_now node disk (Some tasks) t is_up = follows_now node.number (devs st node.devs) (writes_of node.devs) disk tasks t.at.1.follows

  -- what its disk keeps
  pub steady_now : (node : ClientNode D) (disk : ClientDisk) (agenda : Option (List ClientTask)) → IsClient state node (at disk agenda) → node.is_up ≡ true → IsSteady node.waiting disk
  steady_now node disk None t is_up = let no = t.at.0 in absurd cc
  steady_now node disk (Some tasks) t is_up = t.at.1.steady

  module _ (only_now : (disk : FuseDisk D) (image : List ℕ) → images (inner_of disk) (behind state disk).moment image → IsImage (behind state disk).pending image) (old : ClientNode D) (disk : ClientDisk) (agenda : Option (List ClientTask)) (t : IsClient state old (at disk agenda)) (is_up : old.is_up ≡ true) where
    abbrev here : ClientDevs
    here = devs st old.devs

    stands : StandsFor old.number here disk
    stands = stands_now old disk agenda t is_up

    -- a crash at any moment of the call leaves the disk
    pub call_leaves : (new : ClientNode D) → AllLeave st im old.devs new.devs → LeavesEither state images old new disk disk
    call_leaves new l =
        devs_weaker st im old.devs new.devs (λ d. d ≡ here) (λ d. StandsFor old.number d disk ⊎ StandsFor old.number d disk) (all_same st im only_now old.devs new.devs l.chunks l.slots l.journal)
        (λ d same. inl (subst (λ (x : ClientDevs). StandsFor old.number x disk) (sym same) stands))

    declared_old : (a : Option (List ClientTask)) → IsClient state old (at disk a) → old.is_declared ≡ true
    declared_old None c = let no = c.at.0 in absurd cc
    declared_old (Some tasks) c = c.at.1.declared

    -- it begins no plan
    pub call_plans : (new : ClientNode D) → devs st new.devs ≡ here → writes_of new.devs ≡ writes_of old.devs → (n : ℕ) → HasPlansBelow state n old → HasPlansBelow state (suc n) new
    call_plans new same writes n h = next_below state n new (plans_same state n old new (λ _. declared_old agenda t) same writes h)

    -- a disk has failed
    module _ {T : Type 0} (r : Result T CallFault) (mid : ClientNode D) (m : IsMid old mid) (k : Serves st im old.devs mid.devs r) (is : IsErrOf r call.Disk) (new : ClientNode D) (f : Fell state images mid new) where
      declared_new : new.is_declared ≡ true
      declared_new = f.declared ∙ (m.declared ∙ declared_old agenda t)

      steady_mid : IsSteady mid.waiting disk
      steady_mid = steady_more old.waiting mid.waiting m.more disk (steady_now old disk agenda t is_up)

      may : MayHold old.number mid.waiting here here disk disk
      may = record { first = stands; second = stands; first_steady = steady_mid; second_steady = steady_mid }

      run : DevsLeave st im old.devs mid.devs (IsEither here here)
      run = devs_weaker st im old.devs mid.devs (λ d. d ≡ here) (IsEither here here) (all_same st im only_now old.devs mid.devs k.leave.chunks k.leave.slots k.leave.journal) (λ d same. inl same)

      same_is : IsSame old new
      same_is = record { number = f.same.number ∙ m.number; linked = f.same.linked ∙ m.linked }

      pub call_fell : Stays state old new (at disk None)
      call_fell = record {
        client = ⊎_elim (λ c. c) (λ c. c) (fallen state images old mid new same_is mid.waiting declared_new f.down f.falls old.devs here here disk disk may run);
        told = ap (λ x. map fact_of x.items.items) f.facts ∙ m.told;
        sent = ap (λ x. map send_of x.items.items) f.messages ∙ m.sent;
        same = same_is;
      }

      pub call_fell_leaves : LeavesEither state images old new disk disk
      call_fell_leaves = fallen_leaves state images old mid new same_is mid.waiting declared_new f.down f.falls old.devs here here disk disk may run

      pub call_fell_plans : (n : ℕ) → HasPlansBelow state n old → HasPlansBelow state (suc n) new
      call_fell_plans n h =
          let left = f.falls.left old.devs here here run in
          next_below state n new (plans_lost state n old new (λ _. declared_old agenda t) (⊎_elim (λ is. is) (λ is. is) left.0) f.falls.idle h)

      pub call_fell_cause : own_faults state old < own_faults state new
      call_fell_cause = let less = own_failed state old mid (fresh_now state old disk agenda t) k.fuse (k.disk is) in let n = f.falls.counted in omega (arith, less, n)
