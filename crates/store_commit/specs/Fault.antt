-- What is answered where a device's disk failed.
use Rattle.std.specs.Prelude.{ℕ, List, Option, Some, None, Result, Ok, Err}
use Rattle.store_commit.specs.declared.fault.CommitFault.{CommitFault}
use Rattle.store_commit.specs.declared.fault.CommitFault.TheVariants.{Disk, Down, Memory}
use Rattle.chunk_store.specs.declared.fault.ChunkFault.{ChunkFault}
use Rattle.chunk_store.specs.declared.fault.ChunkFault.TheVariants as chunks
use Rattle.row_store.specs.declared.fault.RowFault.{RowFault}
use Rattle.row_store.specs.declared.fault.RowFault.TheVariants as rows
use Rattle.row_store.specs.declared.stored.StoredRow.{StoredRow}
use Rattle.status_log.specs.declared.fault.LogFault.{LogFault}
use Rattle.status_log.specs.declared.fault.LogFault.TheVariants as logs

abbrev pub disk_or : {T E : Type 0} → Result T E → Result T CommitFault
disk_or (Ok x) = Ok x
disk_or (Err e) = Err Disk

-- a device's fault as that of all three: what a device alone may answer isn't among these
abbrev pub chunk_cause : ChunkFault → CommitFault
chunk_cause chunks.Absent = Disk
chunk_cause chunks.Disk = Disk
chunk_cause chunks.Down = Down
chunk_cause chunks.Memory = Memory

abbrev pub row_cause : RowFault → CommitFault
row_cause rows.NoRow = Disk
row_cause rows.Disk = Disk
row_cause rows.Down = Down
row_cause rows.Memory = Memory

abbrev pub log_cause : LogFault → CommitFault
log_cause (logs.Pending version) = Disk
log_cause logs.Disk = Disk
log_cause logs.Down = Down
log_cause logs.Memory = Memory

-- an answer with its fault as that of all three
abbrev pub caused : {T E : Type 0} → (E → CommitFault) → Result T E → Result T CommitFault
caused cause (Ok x) = Ok x
caused cause (Err e) = Err (cause e)

-- the row of a look-up, if there is one
abbrev pub found_of : Result StoredRow RowFault → Result (Option StoredRow) CommitFault
found_of (Ok stored) = Ok (Some stored)
found_of (Err rows.NoRow) = Ok None
found_of (Err rows.Disk) = Err Disk
found_of (Err rows.Down) = Err Down
found_of (Err rows.Memory) = Err Memory

-- the chunk of a look-up, if there is one
abbrev pub chunk_found : Result (List ℕ) ChunkFault → Result (Option (List ℕ)) CommitFault
chunk_found (Ok bytes) = Ok (Some bytes)
chunk_found (Err chunks.Absent) = Ok None
chunk_found (Err chunks.Disk) = Err Disk
chunk_found (Err chunks.Down) = Err Down
chunk_found (Err chunks.Memory) = Err Memory
