-- What a call reads of the devices, and how it is answered where it begins no write.
use Rattle.std.specs.Prelude.{◌≡◌, ◌⊎◌, ℕ, List, [], ◌∷◌, Option, Some, None, Result, Ok, Err}
use Rattle.slot_store.specs.Data.{slots_of, record_of}
use Rattle.held_value.specs.declared.slots.Slots.{Slots as HeldSlots}
use Rattle.slot_store.specs.declared.held.TableRecord.{TableRecord}
use Rattle.client_journal.specs.Devs.{ClientDevs}
use Rattle.client_journal.specs.Redone.{redone}
use Rattle.step_tables.specs.Facts.{Answer, Refusal}
use Rattle.step_tables.specs.Facts as facts
use Rattle.journal_laws.specs.Holds.{slots_or_empty}
use Rattle.client_node.specs.declared.fault.CallFault.{CallFault}
use Rattle.client_node.specs.declared.fault.CallFault.TheVariants.{Disk, Memory}
use Rattle.client_node.specs.Does.{refusal_in}

-- the record of a table, and the slots of a row, a commit at work applied
abbrev pub record_at : ClientDevs → ℕ → Option TableRecord
record_at d table = record_of (redone d) table

abbrev pub held_at : ClientDevs → ℕ → List ℕ → HeldSlots
held_at d table row = slots_or_empty (slots_of (redone d) table row)

-- a fault that is no refusal
abbrev pub IsFault : CallFault → Type 0
IsFault e = (e ≡ Disk) ⊎ (e ≡ Memory)

-- A call is answered so, where this value says that; or it is refused so.
abbrev pub IsAnswered : {T : Type 0} → (T → Answer) → Answer → Result T CallFault → Type 0
IsAnswered said answer (Ok value) = answer ≡ said value
IsAnswered said answer (Err e) = (refusal : Refusal) → refusal_in e ≡ Some refusal → answer ≡ facts.Refuses refusal
