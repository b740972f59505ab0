-- A node whose disks were restarted holds what a crash might have left.
use Rattle.std.proofs.Common.{◌≡◌, ◌⊎◌, inl, inr, ⊎_elim, ℕ, false, true, List, None, sym, subst}
use Rattle.disk_trait.specs.Calls.{DiskState}
use Rattle.disk_trait.specs.Fuse.{behind, inner_of}
use Rattle.disk_trait.specs.declared.fuse.FuseDisk.{FuseDisk}
use Rattle.vault.specs.Calls.{IsEither}
use Rattle.client_journal.specs.declared.devs.Journal.{Journal}
use Rattle.client_journal.specs.Devs.{ClientDevs}
use Rattle.client_journal.specs.Standing.{devs, AreSound, DevsLeave}
use Rattle.client_journal.proofs.Moments.{devs_weaker}
use Rattle.step_tables.specs.ClientMoves.{ClientDisk}
use Rattle.client_node.specs.declared.node.ClientNode.{ClientNode}
use Rattle.client_node.specs.Node.{StandsFor, IsClient, IsSame}
use Rattle.client_node.specs.Calls.{Falls}
use Rattle.client_node.specs.Steady.{IsSteady}
use Rattle.client_node.specs.declared.waiting.Waiting.{Waiting}

-- what the disks may hold, as disks of the step table
pub record MayHold (c : ℕ) (waiting : Waiting) (a b : ClientDevs) (before after : ClientDisk) : Type 0 where
  pub first : StandsFor c a before
  pub second : StandsFor c b after
  pub first_steady : IsSteady waiting before
  pub second_steady : IsSteady waiting after

module _ {D : Type 0} (state : D → DiskState) (images : D → ℕ → List ℕ → Type 0) where
  abbrev st : FuseDisk D → DiskState
  st f = behind state f

  abbrev im : FuseDisk D → ℕ → List ℕ → Type 0
  im f = images (inner_of f)

  module _ (old mid new : ClientNode D) (same : IsSame old new) (w : Waiting) (declared : new.is_declared ≡ true) (down : new.is_up ≡ false) (f : Falls state images mid new) where
    down_at : (disk : ClientDisk) → AreSound st new.devs → StandsFor old.number (devs st new.devs) disk → IsSteady w disk → IsClient state new (record { disk = disk; agenda = None })
    down_at disk sound stands steady = record {
      at = (
        down,
        record {
          up = f.up;
          fresh = f.fresh;
          idle = f.idle;
          synced = λ _. f.synced;
          sound = λ _. sound;
          stands = λ _. rw same.number stands;
          undeclared = λ is. absurd cc;
          opens = λ is. absurd cc;
          waiting = f.waiting;
          steady = (w, steady);
          phaseless = f.phaseless;
        },
      );
    }

    module _ (start : Journal (FuseDisk D)) (a b : ClientDevs) (before after : ClientDisk) (may : MayHold old.number w a b before after) (run : DevsLeave st im start mid.devs (IsEither a b)) where
      stands_either : (d : ClientDevs) → IsEither a b d → StandsFor old.number d before ⊎ StandsFor old.number d after
      stands_either d either =
          ⊎_elim (λ is. inl (subst (λ (x : ClientDevs). StandsFor old.number x before) (sym is) may.first)) (λ is. inr (subst (λ (x : ClientDevs). StandsFor old.number x after) (sym is) may.second)) either

      pub fallen : IsClient state new (record { disk = before; agenda = None }) ⊎ IsClient state new (record { disk = after; agenda = None })
      fallen =
          let left = f.left start a b run in
          ⊎_elim (λ is. inl (down_at before left.1 is may.first_steady)) (λ is. inr (down_at after left.1 is may.second_steady)) (stands_either (devs st new.devs) left.0)

      pub fallen_leaves : DevsLeave st im start new.devs (λ d. StandsFor old.number d before ⊎ StandsFor old.number d after)
      fallen_leaves = devs_weaker st im start new.devs (IsEither a b) (λ d. StandsFor old.number d before ⊎ StandsFor old.number d after) (f.left start a b run).2 stands_either
