-- What a node's halt promises, and when its devices have no write to do.
use Rattle.std.proofs.Common.{◌≡◌, inl, ⊎_elim, ℕ, true, false, List, [], ◌∷◌, Option, Some, None, refl, sym, ◌∙◌, append-nil}
use Rattle.disk_trait.specs.Image.{IsImage}
use Rattle.disk_trait.specs.Calls.{DiskState}
use Rattle.disk_trait.specs.Fuse.{behind, inner_of}
use Rattle.disk_trait.specs.declared.fuse.FuseDisk.{FuseDisk}
use Rattle.vault.specs.Calls.{IsEither}
use Rattle.store_commit.specs.Standing.{devs, writes_of, DevsLeave, RowsLeave}
use Rattle.store_commit.proofs.Works.{rests_leave}
use Rattle.store_commit.proofs.Moments.{devs_weaker, rows_weaker, rows_rest}
use Rattle.step_tables.specs.StoreMoves.{StoreDisk, StoreTask, TableStore, Crash}
use Rattle.step_tables.specs.Messages.{FailedBefore}
use Rattle.store_node.specs.declared.node.TableNode.{TableNode}
use Rattle.store_node.specs.Node.{IsTable, IsNode, told_by, sent_by}
use Rattle.store_node.specs.Calls.{Falls, IsBehind, step_at}
use Rattle.store_node.specs.Halts.{Halts}
use Rattle.store_node.proofs.Following.{follows_now, well_now}
use Rattle.store_node.proofs.Falling.{MayHold, fallen, fallen_leaves, fallen_rows}
use Rattle.store_node.proofs.Working.{IsKept, down_rows}

module _ {D : Type 0} (state : D → DiskState) (images : D → ℕ → List ℕ → Type 0) where
  abbrev at : StoreDisk → Option (List StoreTask) → TableStore
  at disk agenda = record { disk = disk; agenda = agenda }

  -- ---- a node that is up

  module _ (only_now : (disk : FuseDisk D) (image : List ℕ) → images (inner_of disk) (behind state disk).moment image → IsImage (behind state disk).pending image) (old new : TableNode D)
      (falls : Falls state images old new) (kept : IsKept old new) (is_down : new.is_up ≡ false) where
    behind_crash : (disk : StoreDisk) (tasks : List StoreTask) → IsTable state new (at disk None) → IsBehind state old new (step_at old (at disk (Some tasks)) (Crash FailedBefore))
    behind_crash disk [] t = record { table = t; told = kept.told ∙ sym (append-nil (told_by old)); sent = kept.sent ∙ sym (append-nil (sent_by old)); same = kept.same }
    behind_crash disk (task ∷ tasks) t = record { table = t; told = kept.told ∙ sym (append-nil (told_by old)); sent = kept.sent ∙ sym (append-nil (sent_by old)); same = kept.same }

    pub halts_up : (s : TableStore) (agenda : Option (List StoreTask)) → s ≡ at s.disk agenda → IsTable state old (at s.disk agenda) → old.is_up ≡ true
        → Halts state images (at s.disk agenda) old new
    halts_up s None is t up = let no = t.at.0 in absurd cc
    halts_up s (Some tasks) is t up =
        let h = t.at.1 in
        let declared : new.is_declared ≡ true = kept.declared ∙ h.declared in
        let here = devs (λ f. behind state f) old.devs in
        let stands = follows_now old.schema here (writes_of old.devs) s.disk tasks h.follows in
        let fit = well_now old.schema s.disk tasks h.well in
        let may : MayHold old.schema here here s.disk s.disk = record { first = stands; second = stands; first_fit = fit; second_fit = fit } in
        let run : DevsLeave (λ f. behind state f) (λ f. images (inner_of f)) old.devs old.devs (IsEither here here) =
        devs_weaker (λ f. behind state f) (λ f. images (inner_of f)) old.devs old.devs (λ d. d ≡ here) (IsEither here here)
        (rests_leave (λ f. behind state f) (λ f. images (inner_of f)) only_now old.devs (writes_of old.devs) h.ready) (λ d same. inl same) in
        let rows_run : RowsLeave (λ f. behind state f) (λ f. images (inner_of f)) old.devs old.devs (IsEither here.held here.held) =
        rows_weaker (λ f. behind state f) (λ f. images (inner_of f)) old.devs old.devs (λ held. held ≡ here.held) (IsEither here.held here.held)
        (rows_rest (λ f. behind state f) (λ f. images (inner_of f)) only_now old.devs (writes_of old.devs) h.ready) (λ held same. inl same) in
        record {
          halted = behind_crash s.disk tasks (⊎_elim (λ t. t) (λ t. t)
              (fallen state images old old new (at s.disk (Some tasks)) t kept.same declared is_down falls old.devs here here s.disk s.disk may run));
          declared = kept.declared;
          counted = falls.counted;
          still = λ down. absurd cc;
          any_moment = λ _. fallen_leaves state images old old new (at s.disk (Some tasks)) t kept.same declared is_down falls old.devs here here s.disk s.disk may run;
          rows_left = λ _. fallen_rows state images old new falls old.schema old.devs here here s.disk s.disk may rows_run;
        }

  -- ---- a node that is down

  pub halts_down : ((disk : FuseDisk D) (image : List ℕ) → images (inner_of disk) (behind state disk).moment image → IsImage (behind state disk).pending image)
      → (node : TableNode D) (disk : StoreDisk) (agenda : Option (List StoreTask)) → IsTable state node (at disk agenda) → node.is_up ≡ false
      → Halts state images (at disk agenda) node node
  halts_down only_now node disk (Some tasks) t down = let no = t.at.0 in absurd cc
  halts_down only_now node disk None t down = record {
    halted = record { table = t; told = sym (append-nil (told_by node)); sent = sym (append-nil (sent_by node)); same = record { store = refl; table = refl; schema = refl } };
    declared = refl;
    counted = refl;
    still = λ _. refl;
    any_moment = λ up. absurd cc;
    rows_left = λ declared. down_rows state images only_now node disk t.at.1 declared;
  }

  pub halted_node : (s : TableStore) (old new : TableNode D) → Halts state images s old new → IsNode state new
  halted_node s old new h = (_, h.halted.table)
