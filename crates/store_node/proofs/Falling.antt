-- A node whose disks were restarted holds what a crash might have left.
use Rattle.std.proofs.Common.{◌≡◌, ◌⊎◌, inl, inr, ⊎_elim, ℕ, false, true, List, None, sym, subst}
use Rattle.disk_trait.specs.Calls.{DiskState}
use Rattle.disk_trait.specs.Fuse.{behind, inner_of}
use Rattle.disk_trait.specs.declared.fuse.FuseDisk.{FuseDisk}
use Rattle.vault.specs.Calls.{IsEither}
use Rattle.row_value.specs.declared.schema.Schema.{Schema}
use Rattle.store_commit.specs.declared.devs.TableDevs.{TableDevs}
use Rattle.store_commit.specs.Devs.{Devs, Write}
use Rattle.store_commit.specs.Standing.{devs, AreSound, AreSynced, IsReady, DevsLeave, RowsLeave}
use Rattle.store_commit.proofs.Moments.{devs_weaker, rows_weaker}
use Rattle.step_tables.specs.StoreMoves.{StoreDisk, TableStore}
use Rattle.device_laws.specs.Stands.{Stands, HasRows}
use Rattle.store_node.specs.declared.node.TableNode.{TableNode}
use Rattle.store_node.specs.Node.{AreFit, IsTable, IsSame}
use Rattle.store_node.specs.Calls.{Falls}
use Rattle.store_node.proofs.RowsLeft.{has_either}

-- what the disks may hold, as disks of the step table
pub record MayHold (schema : Schema) (a b : Devs) (before after : StoreDisk) : Type 0 where
  pub first : Stands schema a before
  pub second : Stands schema b after
  pub first_fit : AreFit schema before.items
  pub second_fit : AreFit schema after.items

module _ {D : Type 0} (state : D → DiskState) (images : D → ℕ → List ℕ → Type 0) where
  abbrev st : FuseDisk D → DiskState
  st f = behind state f

  abbrev im : FuseDisk D → ℕ → List ℕ → Type 0
  im f = images (inner_of f)

  -- of the disk of the rows a crash leaves these rows or those
  pub fallen_rows : (mid new : TableNode D) (f : Falls state images mid new) (schema : Schema) (start : TableDevs (FuseDisk D)) (a b : Devs) (before after : StoreDisk)
      (may : MayHold schema a b before after)
      → RowsLeave st im start mid.devs (IsEither a.held b.held) → RowsLeave st im start new.devs (λ held. HasRows schema held before ⊎ HasRows schema held after)
  fallen_rows mid new f schema start a b before after may run =
      rows_weaker st im start new.devs (IsEither a.held b.held) (λ held. HasRows schema held before ⊎ HasRows schema held after) (f.rows_left start a.held b.held run).1
      (has_either schema a b before after may.first may.second)

  -- ready devices are synced and sound
  pub ready_synced : (table : TableDevs (FuseDisk D)) (ws : List Write) → IsReady st table ws → AreSynced st table
  ready_synced table ws r = record { chunks = λ up. r.chunk_looked.vault.synced; rows = λ up. r.row_looked.vault.synced; log = λ up. r.log_looked.vault.synced }

  pub ready_sound : (table : TableDevs (FuseDisk D)) (ws : List Write) → IsReady st table ws → AreSound st table
  ready_sound table ws r = record { chunks = r.chunk_sound; rows = r.row_sound; log = r.log_sound }

  -- ---- behind a restart

  module _ (old mid new : TableNode D) (s : TableStore) (t : IsTable state old s) (same : IsSame old new) (declared : new.is_declared ≡ true) (down : new.is_up ≡ false) (f : Falls state images mid new) where
    down_at : (disk : StoreDisk) → AreSound st new.devs → Stands old.schema (devs st new.devs) disk → AreFit old.schema disk.items → IsTable state new (record { disk = disk; agenda = None })
    down_at disk sound stands fit = record {
      size = rw same.schema t.size;
      spelled = rw same.schema t.spelled;
      short = rw same.schema t.short;
      at = (
        down,
        record {
          up = f.up;
          fresh = f.fresh;
          idle = f.idle;
          synced = λ _. f.synced;
          sound = λ _. sound;
          stands = λ _. rw same.schema stands;
          fit = rw same.schema fit;
          nothing = λ is. absurd cc;
        },
      );
    }

    module _ (start : TableDevs (FuseDisk D)) (a b : Devs) (before after : StoreDisk) (may : MayHold old.schema a b before after) (run : DevsLeave st im start mid.devs (IsEither a b)) where
      stands_either : (d : Devs) → IsEither a b d → Stands old.schema d before ⊎ Stands old.schema d after
      stands_either d either = ⊎_elim (λ is. inl (subst (λ (x : Devs). Stands old.schema x before) (sym is) may.first)) (λ is. inr (subst (λ (x : Devs). Stands old.schema x after) (sym is) may.second)) either

      pub fallen : IsTable state new (record { disk = before; agenda = None }) ⊎ IsTable state new (record { disk = after; agenda = None })
      fallen =
          let left = f.left start a b run in
          ⊎_elim (λ is. inl (down_at before left.1 is may.first_fit)) (λ is. inr (down_at after left.1 is may.second_fit)) (stands_either (devs st new.devs) left.0)

      pub fallen_leaves : DevsLeave st im start new.devs (λ d. Stands old.schema d before ⊎ Stands old.schema d after)
      fallen_leaves = devs_weaker st im start new.devs (IsEither a b) (λ d. Stands old.schema d before ⊎ Stands old.schema d after) (f.left start a b run).2 stands_either
