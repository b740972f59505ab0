-- Devices from a crash to the end of a recovery.
use Rattle.std.proofs.Common.{ℕ, List, Result, Ok, Err, ◌∙◌}
use Rattle.std.specs.Prelude.{OnOk}
use Rattle.disk_trait.specs.Calls.{DiskState}
use Rattle.store_commit.specs.declared.devs.TableDevs.{TableDevs}
use Rattle.store_commit.specs.declared.fault.CommitFault.{CommitFault}
use Rattle.store_commit.specs.Devs.{Write}
use Rattle.store_commit.specs.Scan.{Asks}
use Rattle.store_commit.specs.Recover.{IsStarting}
use Rattle.store_commit.specs.Standing.{AreUp, AreLookedAt, AreSound, AreSynced, IsReady}

module _ {D : Type 0} (state : D → DiskState) where
  pub looked_up : (table : TableDevs D) → AreLookedAt state table → AreUp table
  looked_up table looked = record { chunks = looked.chunks.vault.up; rows = looked.rows.vault.up; log = looked.log.vault.up }

  pub ready_synced : (table : TableDevs D) (ws : List Write) → IsReady state table ws → AreSynced state table
  ready_synced table ws ready = record { chunks = λ u. ready.chunk_looked.vault.synced; rows = λ u. ready.row_looked.vault.synced; log = λ u. ready.log_looked.vault.synced }

  pub ready_sound : (table : TableDevs D) (ws : List Write) → IsReady state table ws → AreSound state table
  ready_sound table ws ready = record { chunks = ready.chunk_sound; rows = ready.row_sound; log = ready.log_sound }

  pub ready_looked : (table : TableDevs D) (ws : List Write) → IsReady state table ws → AreLookedAt state table
  ready_looked table ws ready = record { chunks = ready.chunk_looked; rows = ready.row_looked; log = ready.log_looked }

  -- a call that writes nothing leaves what a recovery starts with
  pub still_starting : (images : D → ℕ → List ℕ → Type 0) {T : Type 0} (old new : TableDevs D) (r : Result T CommitFault) → Asks state images old new r → OnOk r (IsStarting state old → IsStarting state new)
  still_starting images old new (Err e) k = tt
  still_starting images old new (Ok x) k =
      let s = k.stay (λ is. cc) in
      λ start.
      record {
        looked = record { chunks = s.chunks.looked start.looked.chunks; rows = s.rows.looked start.looked.rows; log = s.log.looked start.looked.log };
        sound = record { chunks = s.chunks.sound start.sound.chunks; rows = s.rows.sound start.sound.rows; log = s.log.sound start.sound.log };
        openings = record { chunks = s.chunks.room 1 0 0 start.openings.chunks; rows = s.rows.room 1 0 0 start.openings.rows; log = s.log.room 1 0 0 start.openings.log };
        idle = k.agenda ∙ start.idle;
      }
