-- What is prepared of a row from the Store: what holds its content, the plan of a table's new position, and that of the
-- row.
use Rattle.std.specs.Prelude.{◌≡◌, ℕ, List, [], ◌∷◌, ◌++◌, map, true, Option, Some, None, Ok, IfSome}
use Rattle.stab_base.specs.declared.chunk_name.ChunkName.{ChunkName}
use Rattle.row_value.specs.declared.content.Content.{Content}
use Rattle.row_value.specs.Fit.{fit_of}
use Rattle.held_value.specs.declared.local_name.LocalName.{LocalName}
use Rattle.held_value.specs.declared.content.HeldPiece.{HeldPiece}
use Rattle.held_value.specs.declared.content.HeldContent.{HeldContent}
use Rattle.held_value.specs.declared.slots.Main.{Main as HeldMain}
use Rattle.held_value.specs.declared.slots.Shadow.{Shadow as HeldShadow}
use Rattle.held_value.specs.declared.slots.Slots.{Slots as HeldSlots}
use Rattle.held_value.specs.declared.tell.Tell.TheVariants as tell
use Rattle.slot_store.specs.declared.held.TableRecord.{TableRecord}
use Rattle.step_tables.specs.declared.message.RowHeader.{RowHeader}
use Rattle.step_tables.specs.Chunks.{is_named}
use Rattle.step_tables.specs.ClientMoves.{TableDisk, Plan, ClientDisk, Placed, table_at, slots_at, row_placed}
use Rattle.step_tables.specs.ClientMoves.{row_plan, torn_plan}
use Rattle.step_tables.specs.Facts as facts
use Rattle.step_tables.specs.Messages.{Header, Send}
use Rattle.step_tables.specs.Lines.{fact_of}
use Rattle.step_tables.specs.Travels.{send_of, header_of}
use Rattle.client_tables.specs.Shown.{shown_content}
use Rattle.client_journal.specs.Devs.{ClientDevs}
use Rattle.held_contents.specs.declared.holding.HeldNew.{HeldNew}
use Rattle.held_contents.specs.Reading.{AreThereIf, chunks_shown, content_read}
use Rattle.kept_chunks.specs.Kept.{HoldsKept}
use Rattle.client_node.specs.Readied.{IsIdleAt, IsReadied}
use Rattle.client_node.specs.declared.planning.Planned.{Planned}
use Rattle.client_node.specs.declared.waiting.Waiting.{Waiting}

-- It moves the position alone, tells it, and sends these.
pub record IsOfPosition (c table last position : ℕ) (sends : List Send) (planned : Planned) : Type 0 where
  pub table_is : planned.plan.table ≡ table
  pub last_is : planned.plan.last ≡ last
  pub no_row : planned.plan.row ≡ None
  pub position_is : planned.plan.position ≡ Some position
  pub new_record : planned.plan.new_record ≡ None
  pub brought : planned.plan.brought ≡ []
  pub drops : planned.plan.drops ≡ []
  pub tells : planned.plan.tells ≡ tell.Position position ∷ []
  pub facts_are : map fact_of planned.facts.items ≡ facts.Client (facts.Position c table position) ∷ []
  pub sends_are : map send_of planned.messages.items ≡ sends

-- the content that was read last, where the client's own write is shown
abbrev pub read_behind : Option HeldMain → Option HeldShadow → Option HeldContent
read_behind None shadow = None
read_behind (Some main) shadow = content_read shadow

-- each chunk that a row's slots hold is on the device, that of a write that waits for an answer apart
pub record IsRowThere (meaning : LocalName → List ℕ) (d : ClientDevs) (slots : HeldSlots) : Type 0 where
  pub shown : AreThereIf meaning d (shown_content slots)
  pub read : AreThereIf meaning d (read_behind slots.main slots.shadow)
  pub conflict : AreThereIf meaning d (content_read slots.conflict)

-- the chunks that are held behind those that are shown
abbrev pub chunks_behind : (LocalName → List ℕ) → HeldSlots → List (List (HeldPiece × List ℕ))
chunks_behind meaning slots = chunks_shown meaning (read_behind slots.main slots.shadow)
    ++ chunks_shown meaning (content_read slots.conflict)

-- What holds the content of a row from the Store against a row's slots. Its chunks have the Store's names.
abbrev pub HoldsRow : (LocalName → List ℕ) → ℕ → HeldSlots → Content → List (List ChunkName) → HeldNew → Type 0
HoldsRow meaning size slots content given made =
    HoldsKept size (chunks_shown meaning (shown_content slots)) (chunks_behind meaning slots) content given made

-- A row that fits the table, and is named chunk by chunk.
pub record IsWhole (opened : TableRecord) (header : RowHeader) : Type 0 where
  pub fits : fit_of opened.schema header.content ≡ Ok tt
  pub named : is_named opened.schema.chunk header.content header.names ≡ true

-- and that comes next
pub record IsNext (opened : TableRecord) (from : ℕ) (header : RowHeader) : Type 0 where
  pub position : from ≡ opened.position
  pub row : IsWhole opened header

-- ---- a newer row

-- the plan of the step table, with a new position, or none
abbrev pub placed_plan : ℕ → ClientDisk → ℕ → List ℕ → Option ℕ → Placed → Plan
placed_plan c disk table row None x = torn_plan disk table row x
placed_plan c disk table row (Some position) x = row_plan c disk table row position x

abbrev pub plan_at : ℕ → ClientDisk → ℕ → TableDisk → Header → Option ℕ → Plan
plan_at c disk table opened header position =
    placed_plan c disk table header.row position (row_placed opened.schema.scheme c table header
    (slots_at opened header.row) (slots_at opened header.row).out)

-- There is a plan of the row, which is that one wherever nothing is at work, and sends these.
pub record PlansRow (d : ClientDevs) (c table : ℕ) (header : RowHeader) (position : Option ℕ) (sends : List Send)
    (found : Option Planned) : Type 0 where
  pub some : found ≡ None → ⊥
  pub plan : IfSome found (λ planned. (waiting : Waiting) (disk : ClientDisk)
      → (idle : IsIdleAt d c waiting disk) → (opened : TableDisk) → table_at disk table ≡ Some opened
      → IsReadied d c idle.stands.0 disk planned (plan_at c disk table opened (header_of header) position) sends)
