-- Rows whose slots a plan may put: their contents are whole, and all that they hold has a spelling.
use Rattle.std.specs.Prelude.{◌≡◌, ◌⊎◌, ℕ, ◌<◌, ◌^◌, false, List, length, Option, Some, None, IfSome}
use Rattle.std.specs.Prelude.{FitsSigned}
use Rattle.std.specs.Int.{w64}
use Rattle.std.specs.List.{AllByRecursion}
use Rattle.row_value.specs.declared.content.Cell.{Cell}
use Rattle.row_value.specs.declared.content.Cell.TheVariants as cells
use Rattle.row_value.specs.declared.content.Content.{Content}
use Rattle.row_value.specs.declared.content.Content.TheVariants as contents
use Rattle.row_value.specs.declared.pieces.Piece.{Piece}
use Rattle.row_value.specs.declared.schema.Schema.{Schema}
use Rattle.value_codec.specs.Spelling.{HasPieceSpelling}
use Rattle.field_codec.specs.Forms.{AreEach}
use Rattle.table_model.specs.declared.message.Outcome.{Outcome}
use Rattle.table_model.specs.declared.message.Outcome.TheVariants as outcomes
use Rattle.held_value.specs.declared.local_name.LocalName.{LocalName}
use Rattle.held_value.specs.declared.content.HeldContent.{HeldContent}
use Rattle.held_value.specs.declared.slots.Slots.{Slots}
use Rattle.held_codec.specs.Spelling.{HasHeld, HasSlots}
use Rattle.slot_store.specs.declared.held.RowSlots.{RowSlots}
use Rattle.slot_store.specs.declared.held.TableRecord.{TableRecord}
use Rattle.slot_store.specs.Data.{SlotData, slots_of, record_of}
use Rattle.plan_log.specs.declared.plan.RowChange.{RowChange}
use Rattle.plan_log.specs.declared.plan.RecordChange.{RecordChange}
use Rattle.client_tables.specs.declared.resolving.HeldChoice.{HeldChoice}
use Rattle.client_tables.specs.declared.resolving.HeldChoice.TheVariants as choices
use Rattle.client_tables.specs.Kept.{SlotEvent, Write, WriteStrong, Send, Answer, Row, Resolve}
use Rattle.client_journal.specs.Names.{Has, names_of, names_in}
use Rattle.client_journal.specs.There.{is_wrong, IsWhole}
use Rattle.client_journal.specs.declared.plan.Plan.{Plan}
use Rattle.journal_laws.specs.Holds.{empty}
use Rattle.journal_laws.specs.Whole.{SpellsAll}
use Rattle.journal_laws.specs.Moves.{plan_meaning}

-- A content that fits the schema of the table's record, each of whose pieces stands for a chunk with the length of its
-- place, each once, and that has a spelling. `meaning` is the bytes that each name stands for.
pub record IsFitContent (meaning : LocalName → List ℕ) (table : Option TableRecord) (content : HeldContent)
    : Type 0 where
  pub right : is_wrong (λ name. Some (meaning name)) table content ≡ false
  pub spelled : HasHeld content

-- the numbers in a cell and a content fit into their words
abbrev pub HasWord : Cell → Type 0
HasWord (cells.Int n) = FitsSigned w64 n
HasWord (cells.Bool b) = Unit {0}
HasWord (cells.Text text) = Unit {0}

abbrev pub HaveWords : Content → Type 0
HaveWords contents.Gone = Unit {0}
HaveWords (contents.Row some objects) = AllByRecursion HasWord some

-- Slots each of whose contents is so, and whose numbers, versions and names have spellings.
pub record IsFitRow (meaning : LocalName → List ℕ) (table : Option TableRecord) (slots : Slots) : Type 0 where
  pub whole : IsWhole (λ name. Some (meaning name)) table slots
  pub spelled : HasSlots slots
  -- a request spells each chunk of its content
  pub pieces : IfSome slots.out SpellsAll

-- each row's slots are so
pub record AreFitRows (meaning : LocalName → List ℕ) (held : SlotData) : Type 0 where
  pub each : (table : ℕ) (row : List ℕ) (stored : RowSlots) → slots_of held table row ≡ Some stored
      → IsFitRow meaning (record_of held table) stored.slots

-- ---- what comes to a row

abbrev pub IsWord : ℕ → Type 0
IsWord n = n < 2 ^ 64

abbrev pub IsFitOutcome : Outcome → Type 0
IsFitOutcome (outcomes.Accepted version) = IsWord version
IsFitOutcome (outcomes.Again version) = IsWord version
IsFitOutcome (outcomes.Late last) = Unit {0}
IsFitOutcome (outcomes.Stale latest) = IsWord latest
IsFitOutcome (outcomes.Conflict latest) = Unit {0}
IsFitOutcome outcomes.NeedWhole = Unit {0}

abbrev pub IsFitChoice : (LocalName → List ℕ) → Option TableRecord → HeldChoice → Type 0
IsFitChoice meaning table choices.Mine = Unit {0}
IsFitChoice meaning table choices.Theirs = Unit {0}
IsFitChoice meaning table (choices.New content) = IsFitContent meaning table content

-- as many pieces as the content has chunks, each with a spelling
pub record AreFitPieces (content : HeldContent) (pieces : List Piece) : Type 0 where
  pub count : length pieces ≡ length (names_of content)
  pub spelled : AreEach HasPieceSpelling pieces

-- the contents that come with an event are fit, and its numbers and versions have spellings
abbrev pub IsFitEvent : (LocalName → List ℕ) → Option TableRecord → Slots → SlotEvent → Type 0
IsFitEvent meaning table slots (Write number content) = IsWord number × IsFitContent meaning table content
IsFitEvent meaning table slots (WriteStrong number content pieces) =
    IsWord number × IsFitContent meaning table content × AreFitPieces content pieces
IsFitEvent meaning table slots (Send pieces) = IfSome slots.main (λ main. AreFitPieces main.content pieces)
IsFitEvent meaning table slots (Answer number outcome) = IsFitOutcome outcome
IsFitEvent meaning table slots (Row yours row) =
    IsWord yours.version × IsWord row.version × IsFitContent meaning table row.content
IsFitEvent meaning table slots (Resolve number choice) = IsWord number × IsFitChoice meaning table choice

-- ---- names

-- each name was numbered by a plan before this one
abbrev pub AreOlder : ℕ → List LocalName → Type 0
AreOlder number names = (name : LocalName) → Has names name → (name.plan ≡ 0 → ⊥) × (name.plan < number)

-- each name was, or stands for a chunk that the plan brings
abbrev pub AreOlderOrNew : ℕ → List LocalName → Type 0
AreOlderOrNew number names = (name : LocalName) → Has names name → name.plan < number

-- so are the names of each row
pub record AreOlderRows (number : ℕ) (held : SlotData) : Type 0 where
  pub each : (table : ℕ) (row : List ℕ) (stored : RowSlots) → slots_of held table row ≡ Some stored
      → AreOlder number (names_in stored.slots)

-- the slots that a plan puts are fit before its brought chunks get its number
pub record IsFitChange (meaning : LocalName → List ℕ) (number : ℕ) (brought : List (List ℕ))
    (table : Option TableRecord) (change : RowChange) : Type 0 where
  pub fit : IsFitRow (plan_meaning meaning number brought) table change.slots
  pub names : AreOlderOrNew number (names_in change.slots)

-- ---- tables that are opened and closed

-- the record has this schema
abbrev pub HasSchema : Schema → Option TableRecord → Type 0
HasSchema schema None = ⊥
HasSchema schema (Some old) = old.schema ≡ schema

-- the slots of each row of the table are empty
abbrev pub AreEmpty : SlotData → ℕ → Type 0
AreEmpty held table = (row : List ℕ) (stored : RowSlots) → slots_of held table row ≡ Some stored → stored.slots ≡ empty

-- A plan's new record of its table keeps the schema, or no row of the table holds anything. No row changes then.
pub record KeepsRows (held : SlotData) (plan : Plan) (change : RecordChange) : Type 0 where
  pub no_row : plan.row ≡ None
  pub kept : HasSchema change.schema (record_of held plan.table) ⊎ AreEmpty held plan.table
