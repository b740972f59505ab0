-- What is answered where a device's disk failed.
use Rattle.std.specs.Prelude.{ℕ, List, Option, Some, None, Result, Ok, Err}
use Rattle.client_journal.specs.declared.fault.JournalFault.{JournalFault}
use Rattle.client_journal.specs.declared.fault.JournalFault.TheVariants.{Disk, Down, Memory}
use Rattle.chunk_store.specs.declared.fault.ChunkFault.{ChunkFault}
use Rattle.chunk_store.specs.declared.fault.ChunkFault.TheVariants as chunks
use Rattle.slot_store.specs.declared.fault.SlotFault.{SlotFault}
use Rattle.slot_store.specs.declared.fault.SlotFault.TheVariants as slots
use Rattle.slot_store.specs.declared.held.RowSlots.{RowSlots}
use Rattle.plan_log.specs.declared.fault.PlanFault.{PlanFault}
use Rattle.plan_log.specs.declared.fault.PlanFault.TheVariants as journals

abbrev pub disk_or : {T E : Type 0} → Result T E → Result T JournalFault
disk_or (Ok x) = Ok x
disk_or (Err e) = Err Disk

-- a device's fault as that of all three: what a device alone may answer isn't among these
abbrev pub chunk_cause : ChunkFault → JournalFault
chunk_cause chunks.Absent = Disk
chunk_cause chunks.Disk = Disk
chunk_cause chunks.Down = Down
chunk_cause chunks.Memory = Memory

abbrev pub slot_cause : SlotFault → JournalFault
slot_cause slots.NoRow = Disk
slot_cause slots.Disk = Disk
slot_cause slots.Down = Down
slot_cause slots.Memory = Memory

abbrev pub journal_cause : PlanFault → JournalFault
journal_cause journals.Disk = Disk
journal_cause journals.Down = Down
journal_cause journals.Memory = Memory

-- an answer with its fault as that of all three
abbrev pub caused : {T E : Type 0} → (E → JournalFault) → Result T E → Result T JournalFault
caused cause (Ok x) = Ok x
caused cause (Err e) = Err (cause e)

-- the slots of a look-up, if there are some
abbrev pub slots_found : Result RowSlots SlotFault → Result (Option RowSlots) JournalFault
slots_found (Ok stored) = Ok (Some stored)
slots_found (Err slots.NoRow) = Ok None
slots_found (Err slots.Disk) = Err Disk
slots_found (Err slots.Down) = Err Down
slots_found (Err slots.Memory) = Err Memory

-- the chunk of a look-up, if there is one
abbrev pub chunk_found : Result (List ℕ) ChunkFault → Result (Option (List ℕ)) JournalFault
chunk_found (Ok bytes) = Ok (Some bytes)
chunk_found (Err chunks.Absent) = Ok None
chunk_found (Err chunks.Disk) = Err Disk
chunk_found (Err chunks.Down) = Err Down
chunk_found (Err chunks.Memory) = Err Memory
