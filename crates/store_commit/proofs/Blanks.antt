-- What a crash leaves of blank disks, of each device by itself.
use Rattle.std.proofs.Common.{◌≡◌, ℕ, List, [], None, ap, ◌∙◌}
use Rattle.disk_trait.specs.Image.{IsImage}
use Rattle.disk_trait.specs.Calls.{DiskState}
use Rattle.vault.specs.Standing as vaults
use Rattle.vault.proofs.Uppers.{runs_weaker}
use Rattle.chunk_store.specs.declared.device.ChunkDev.{ChunkDev}
use Rattle.chunk_store.specs.Payload.{chunks_of}
use Rattle.chunk_store.specs.Standing as chunks
use Rattle.row_store.specs.Data.{data_of, nothing_held}
use Rattle.row_store.specs.Standing as rows
use Rattle.status_log.specs.Payload.{pending_of}
use Rattle.status_log.specs.Standing as logs
use Rattle.store_commit.specs.declared.devs.TableDevs.{TableDevs}
use Rattle.store_commit.specs.declared.fused.Device.{Device}
use Rattle.store_commit.specs.declared.fused.Device.TheVariants.{Chunks, Rows, Log}
use Rattle.store_commit.specs.Fused.{OthersStay}
use Rattle.store_commit.specs.Standing.{AreBlank}
use Rattle.store_commit.specs.TakesOn.{NoneLeave}
use Rattle.store_commit.proofs.Works.{no_rows, no_chunks, no_entry, blank_leaves, blank_rows, blank_log}

-- devices that are as they were, seen from before
pub others_from : {D : Type 0} (d : Device) (old mid new : TableDevs D) → mid.chunks ≡ old.chunks → mid.rows ≡ old.rows → mid.log ≡ old.log → OthersStay d mid new → OthersStay d old new
others_from Chunks old mid new cs rs ls h = (h.0 ∙ rs, h.1 ∙ ls)
others_from Rows old mid new cs rs ls h = (h.0 ∙ cs, h.1 ∙ ls)
others_from Log old mid new cs rs ls h = (h.0 ∙ cs, h.1 ∙ rs)

module _ {D : Type 0} (state : D → DiskState) (images : D → ℕ → List ℕ → Type 0) (only_now : (disk : D) (image : List ℕ) → images disk (state disk).moment image → IsImage (state disk).pending image) where
  pub none_all : (old new : TableDevs D) → vaults.Leaves state images (chunks.vault_of old.chunks) (chunks.vault_of new.chunks) (λ l. chunks_of l ≡ chunks_of [])
      → vaults.Leaves state images (rows.vault_of old.rows) (rows.vault_of new.rows) (λ l. data_of l ≡ data_of [])
      → vaults.Leaves state images (logs.vault_of old.log) (logs.vault_of new.log) (λ l. pending_of l ≡ pending_of [])
      → NoneLeave state images old new
  none_all old new a b c = record {
    chunks = runs_weaker state images (chunks.vault_of old.chunks) (chunks.vault_of new.chunks) (λ l. chunks_of l ≡ chunks_of []) (λ l. chunks_of l ≡ []) a (λ l is. is ∙ no_chunks state images only_now);
    rows = runs_weaker state images (rows.vault_of old.rows) (rows.vault_of new.rows) (λ l. data_of l ≡ data_of []) (λ l. data_of l ≡ nothing_held) b (λ l is. is ∙ no_rows state images only_now);
    log = runs_weaker state images (logs.vault_of old.log) (logs.vault_of new.log) (λ l. pending_of l ≡ pending_of []) (λ l. pending_of l ≡ None) c (λ l is. is ∙ no_entry state images only_now);
  }

  blank_chunks : (dev : ChunkDev D) → vaults.IsBlank state (chunks.vault_of dev) → vaults.Leaves state images (chunks.vault_of dev) (chunks.vault_of dev) (λ l. chunks_of l ≡ chunks_of [])
  blank_chunks dev blank = runs_weaker state images (chunks.vault_of dev) (chunks.vault_of dev) (λ l. l ≡ []) (λ l. chunks_of l ≡ chunks_of []) (blank_leaves state images only_now (chunks.vault_of dev) blank) (λ l is. ap chunks_of is)

  -- while nothing is done
  pub none_still : (old : TableDevs D) → AreBlank state old → NoneLeave state images old old
  none_still old blank = none_all old old (blank_chunks old.chunks blank.chunks) (blank_rows state images only_now old.rows blank.rows) (blank_log state images only_now old.log blank.log)

  -- while the chunks alone were tried, and the rows too
  pub none_one : (old new : TableDevs D) → new.rows ≡ old.rows → new.log ≡ old.log → AreBlank state old
      → vaults.Leaves state images (chunks.vault_of old.chunks) (chunks.vault_of new.chunks) (λ l. chunks_of l ≡ chunks_of []) → NoneLeave state images old new
  none_one old new rs ls blank a = none_all old new a (rw rs (blank_rows state images only_now old.rows blank.rows)) (rw ls (blank_log state images only_now old.log blank.log))

  pub none_two : (old new : TableDevs D) → new.log ≡ old.log → AreBlank state old
      → vaults.Leaves state images (chunks.vault_of old.chunks) (chunks.vault_of new.chunks) (λ l. chunks_of l ≡ chunks_of [])
      → vaults.Leaves state images (rows.vault_of old.rows) (rows.vault_of new.rows) (λ l. data_of l ≡ data_of [])
      → NoneLeave state images old new
  none_two old new ls blank a b = none_all old new a b (rw ls (blank_log state images only_now old.log blank.log))
