-- Devices that a test goes on with after a crash.
use Rattle.std.specs.Prelude.{◌≡◌, ℕ, [], Some, None}
use Rattle.disk_trait.specs.Calls.{DiskState}
use Rattle.vault.specs.Standing.{IsSound}
use Rattle.row_value.specs.declared.schema.Schema.{Schema}
use Rattle.chunk_store.specs.declared.device.ChunkDev.{ChunkDev}
use Rattle.chunk_store.specs.Standing as chunks
use Rattle.row_store.specs.declared.device.RowDev.{RowDev}
use Rattle.row_store.specs.Standing as rows
use Rattle.status_log.specs.declared.device.StatusLog.{StatusLog}
use Rattle.status_log.specs.Standing as logs
use Rattle.store_commit.specs.declared.devs.TableDevs.{TableDevs}
use Rattle.store_commit.specs.Standing.{devs, AreUp, AreSynced, AreSound, AreLookedAt, IsReady, writes_of}

pub record ChunksStand {D : Type 0} (state : D → DiskState) (dev : ChunkDev D) : Type 0 where
  pub looked : chunks.IsLookedAt state dev
  pub sound : IsSound state (chunks.vault_of dev)

pub record RowsStand {D : Type 0} (state : D → DiskState) (dev : RowDev D) : Type 0 where
  pub looked : rows.IsLookedAt state dev
  pub sound : IsSound state (rows.vault_of dev)

pub record LogStands {D : Type 0} (state : D → DiskState) (log : StatusLog D) : Type 0 where
  pub looked : logs.IsLookedAt state log
  pub sound : IsSound state (logs.vault_of log)

pub record AllStand {D : Type 0} (state : D → DiskState) (c : ChunkDev D) (r : RowDev D) (l : StatusLog D)
    : Type 0 where
  pub chunks : ChunksStand state c
  pub rows : RowsStand state r
  pub log : LogStands state l

-- at rest, as a restart leaves them
pub record AreWhole {D : Type 0} (state : D → DiskState) (devs : TableDevs D) : Type 0 where
  pub up : AreUp devs
  pub synced : AreSynced state devs
  pub sound : AreSound state devs
  pub idle : writes_of devs ≡ []

-- at the writes that are to come
pub record AreWorking {D : Type 0} (state : D → DiskState) (devs : TableDevs D) : Type 0 where
  pub up : AreUp devs
  pub ready : IsReady state devs (writes_of devs)

-- looked at, whatever was on the disks
pub record AreKnown {D : Type 0} (state : D → DiskState) (devs : TableDevs D) : Type 0 where
  pub up : AreUp devs
  pub looked : AreLookedAt state devs

-- idle, with a table and no open entry
pub record HasTable {D : Type 0} (state : D → DiskState) (table : TableDevs D) : Type 0 where
  pub ready : IsReady state table []
  pub idle : writes_of table ≡ []
  pub closed : (devs state table).pending ≡ None
  pub schema : Schema
  pub said : ℕ
  pub there : (devs state table).held.table ≡ Some (schema, said)
