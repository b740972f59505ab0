-- What a node's halt promises.
use Rattle.std.proofs.Common.{◌≡◌, inl, ⊎_elim, ℕ, true, false, List, [], ◌∷◌, Option, Some, None, refl, sym, ◌∙◌, append-nil}
use Rattle.disk_trait.specs.Image.{IsImage}
use Rattle.disk_trait.specs.Calls.{DiskState}
use Rattle.disk_trait.specs.Fuse.{behind, inner_of}
use Rattle.disk_trait.specs.declared.fuse.FuseDisk.{FuseDisk}
use Rattle.vault.specs.Calls.{IsEither}
use Rattle.client_journal.specs.Standing.{devs, writes_of, DevsLeave}
use Rattle.client_journal.proofs.Works.{rests_leave}
use Rattle.client_journal.proofs.Moments.{devs_weaker}
use Rattle.step_tables.specs.ClientMoves.{ClientDisk, ClientTask, Client, Crash}
use Rattle.step_tables.specs.Messages.{FailedBefore}
use Rattle.client_node.specs.declared.node.ClientNode.{ClientNode}
use Rattle.client_node.specs.Node.{IsClient, IsNode, told_by, sent_by}
use Rattle.client_node.specs.Calls.{Falls, Halts, IsBehind, step_at}
use Rattle.client_node.proofs.Following.{follows_now}
use Rattle.client_node.proofs.Falling.{MayHold, fallen, fallen_leaves}
use Rattle.client_node.proofs.PlanNumbers.{plans_lost}
use Rattle.client_node.proofs.Working.{IsKept}

module _ {D : Type 0} (state : D → DiskState) (images : D → ℕ → List ℕ → Type 0) where
  abbrev at : ClientDisk → Option (List ClientTask) → Client
  at disk agenda = record { disk = disk; agenda = agenda }

  -- ---- a node that is up

  module _ (only_now : (disk : FuseDisk D) (image : List ℕ) → images (inner_of disk) (behind state disk).moment image → IsImage (behind state disk).pending image) (old new : ClientNode D)
      (falls : Falls state images old new) (kept : IsKept old new) (is_down : new.is_up ≡ false) where
    behind_crash : (disk : ClientDisk) (tasks : List ClientTask) → IsClient state new (at disk None) → IsBehind state old new (step_at old (at disk (Some tasks)) (Crash FailedBefore))
    behind_crash disk [] t = record { client = t; told = kept.told ∙ sym (append-nil (told_by old)); sent = kept.sent ∙ sym (append-nil (sent_by old)); same = kept.same }
    behind_crash disk (task ∷ tasks) t = record { client = t; told = kept.told ∙ sym (append-nil (told_by old)); sent = kept.sent ∙ sym (append-nil (sent_by old)); same = kept.same }

    pub halts_up : (disk : ClientDisk) (agenda : Option (List ClientTask)) → IsClient state old (at disk agenda) → old.is_up ≡ true → Halts state images (at disk agenda) old new
    halts_up disk None t up = let no = t.at.0 in absurd cc
    halts_up disk (Some tasks) t up =
        let h = t.at.1 in
        let declared : new.is_declared ≡ true = kept.declared ∙ h.declared in
        let here = devs (λ f. behind state f) old.devs in
        let stands = follows_now old.number here (writes_of old.devs) disk tasks h.follows in
        let may : MayHold old.number old.waiting here here disk disk = record { first = stands; second = stands; first_steady = h.steady; second_steady = h.steady } in
        let run : DevsLeave (λ f. behind state f) (λ f. images (inner_of f)) old.devs old.devs (IsEither here here) =
        devs_weaker (λ f. behind state f) (λ f. images (inner_of f)) old.devs old.devs (λ d. d ≡ here) (IsEither here here)
        (rests_leave (λ f. behind state f) (λ f. images (inner_of f)) only_now old.devs (writes_of old.devs) h.ready) (λ d same. inl same) in
        record {
          halted = behind_crash disk tasks (⊎_elim (λ t. t) (λ t. t) (fallen state images old old new kept.same old.waiting declared is_down falls old.devs here here disk disk may run));
          declared = kept.declared;
          counted = falls.counted;
          still = λ down. absurd cc;
          any_moment = λ _. fallen_leaves state images old old new kept.same old.waiting declared is_down falls old.devs here here disk disk may run;
          plans = λ n below. plans_lost state n old new (λ _. h.declared) (⊎_elim (λ x. x) (λ x. x) (falls.left old.devs here here run).0) falls.idle below;
        }

  -- ---- a node that is down

  pub halts_down : (node : ClientNode D) (disk : ClientDisk) (agenda : Option (List ClientTask)) → IsClient state node (at disk agenda) → node.is_up ≡ false → Halts state images (at disk agenda) node node
  halts_down node disk (Some tasks) t down = let no = t.at.0 in absurd cc
  halts_down node disk None t down = record {
    halted = record { client = t; told = sym (append-nil (told_by node)); sent = sym (append-nil (sent_by node)); same = record { number = refl; linked = refl } };
    declared = refl;
    counted = refl;
    still = λ _. refl;
    any_moment = λ up. absurd cc;
    plans = λ n below. below;
  }

  pub halted_node : (s : Client) (old new : ClientNode D) → Halts state images s old new → IsNode state new
  halted_node s old new h = (_, h.halted.client)
