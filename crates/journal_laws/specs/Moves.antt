-- What the laws speak of: the tasks of a move, their names, a change of slots as a plan, and what is shown.
use Rattle.std.specs.Prelude.{◌≡◌, ℕ, ◌<◌, List, [], ◌∷◌, length, map, Option, Some, None, IfSome, option_map}
use Rattle.std.specs.List.{concat, AllByRecursion}
use Rattle.stab_base.specs.declared.chunk_name.ChunkName.{ChunkName}
use Rattle.stab_base.specs.declared.step.Step.{Step}
use Rattle.stab_base.specs.declared.step.Step.TheVariants as steps
use Rattle.row_value.specs.declared.content.Content.{Content}
use Rattle.row_value.specs.declared.pieces.Piece.{Piece}
use Rattle.row_value.specs.declared.schema.Schema.{Schema}
use Rattle.table_model.specs.declared.message.Yours.{Yours}
use Rattle.held_value.specs.declared.local_name.LocalName.{LocalName}
use Rattle.held_value.specs.declared.content.HeldPiece.{HeldPiece}
use Rattle.held_value.specs.declared.content.HeldContent.{HeldContent}
use Rattle.held_value.specs.declared.slots.Main.{Main as HeldMain}
use Rattle.held_value.specs.declared.slots.Shadow.{Shadow as HeldShadow}
use Rattle.held_value.specs.declared.slots.Slots.{Slots as HeldSlots}
use Rattle.held_value.specs.declared.tell.Tell.{Tell}
use Rattle.slot_store.specs.declared.held.TableRecord.{TableRecord}
use Rattle.client_tables.specs.declared.change.Change.{Change}
use Rattle.client_tables.specs.declared.resolving.HeldChoice.{HeldChoice}
use Rattle.client_tables.specs.declared.resolving.HeldChoice.TheVariants as choices
use Rattle.client_tables.specs.declared.shown.ShownAs.{ShownAs}
use Rattle.client_tables.specs.declared.shown.ShownAs.TheVariants as shown
use Rattle.client_tables.specs.Change.{after}
use Rattle.client_tables.specs.Kept.{SlotEvent, Write, WriteStrong, Send, Answer, Row, Resolve}
use Rattle.client_journal.specs.Names.{names_of}
use Rattle.client_journal.specs.Agenda.{meaning_with}
use Rattle.client_journal.specs.Plan.{numbered_name}
use Rattle.step_tables.specs.Chunks.{all_against, objects_of, cut}
use Rattle.step_tables.specs.Facts.{Shown}
use Rattle.step_tables.specs.Facts as facts
use Rattle.step_tables.specs.Messages.{Header}
use Rattle.step_tables.specs.ClientMoves.{Plan, ClientDisk, ClientTask, ClientStep, Shape, chunks_read}
use Rattle.journal_laws.specs.Whole.{whole, whole_shadow, whole_slots, pieces_by, HaveLens}
use Rattle.journal_laws.specs.Holds.{Say}

-- ---- a table that is declared

abbrev pub opened_record : ℕ → Schema → TableRecord
opened_record table schema = record { table = table; state = 1; schema = schema; position = 0 }

abbrev pub nothing_there : ClientDisk
nothing_there = record { last = 0; tables = []; plan = None }

-- ---- the tasks of a move

abbrev pub tasks_in : Option (List ClientTask) → List ClientTask
tasks_in None = []
tasks_in (Some tasks) = tasks

-- the writes that are to come behind a move
abbrev pub tasks_of : ClientStep → List ClientTask
tasks_of step = tasks_in step.client.agenda

abbrev pub put_steps : List (List ℕ) → List Step
put_steps brought = map (λ (bytes : List ℕ). steps.ChunkPut) brought

-- an intend and a put for each chunk, where some are brought
abbrev pub bring_steps : List (List ℕ) → List Step
bring_steps [] = []
bring_steps (bytes ∷ brought) = steps.Intend ∷ put_steps (bytes ∷ brought)

abbrev pub drop_steps : List LocalName → List Step
drop_steps names = map (λ (name : LocalName). steps.ChunkDrop) names

-- a plan that brings these chunks and drops these
pub record IsPlanShape (shape : Shape) (brought : List (List ℕ)) (dropped : List LocalName) : Type 0 where
  pub before : shape.before ≡ bring_steps brought
  pub after : shape.after ≡ drop_steps dropped

-- a start that drops these chunks
pub record IsStartShape (shape : Shape) (dropped : List LocalName) : Type 0 where
  pub before : shape.before ≡ steps.OpenJournal ∷ steps.OpenSlots ∷ steps.OpenChunks ∷ []
  pub after : shape.after ≡ drop_steps dropped

-- ---- a change of a row's slots as a plan

-- The plan puts these slots of the row, whole, its facts are what these tells say, and it opens and closes no table.
pub record Plans (meaning : LocalName → List ℕ) (c : ℕ) (row : List ℕ) (slots : HeldSlots) (told : List Tell)
    (p : Plan) : Type 0 where
  pub put : p.row ≡ Some (record { row = row; slots = whole_slots meaning slots })
  pub alters : p.alters ≡ None
  pub tells : Say c p.table p.row told p.facts

-- what a name stands for in a plan's slots, before the brought chunks get its number
abbrev pub plan_meaning : (LocalName → List ℕ) → ℕ → List (List ℕ) → LocalName → List ℕ
plan_meaning meaning number brought name = meaning_with meaning number brought (numbered_name number name)

-- the same of a change of the row's slots, and of what it tells
abbrev pub PlansChange : (LocalName → List ℕ) → ℕ → List ℕ → HeldSlots → Change → Plan → Type 0
PlansChange meaning c row slots change p = Plans meaning c row (after slots change) change.tells p

-- no slot changes and nothing is told
pub record IsStill (change : Change) : Type 0 where
  pub slots : change.slots ≡ None
  pub tells : change.tells ≡ []

-- the main slot has no write of this number
abbrev pub IsNewTo : Option HeldMain → ℕ → Type 0
IsNewTo None number = Unit {0}
IsNewTo (Some main) number = main.number ≡ number → ⊥

-- a row from the Store, whole, with the Store's names of its chunks
abbrev pub header_of : (LocalName → List ℕ) → List ℕ → Yours → HeldShadow → List (List ChunkName) → Header
header_of meaning row yours shadow names = record {
  row = row;
  version = shadow.version;
  yours = record { number = yours.number; version = yours.version };
  content = whole meaning shadow.content;
  names = names;
}

-- The pieces spell the chunks of a content, each of this size, against what was read last.
abbrev pub Spells : (LocalName → List ℕ) → ℕ → Option HeldShadow → HeldContent → List Piece → Type 0
Spells meaning size shadow content pieces =
    pieces_by content pieces
    ≡ all_against 0 (chunks_read size (option_map (whole_shadow meaning) shadow))
    (map (cut size) (objects_of (whole meaning content)))

-- ---- whole contents

-- each object that comes with an event has its length, and a request spells each chunk of its content
abbrev pub HoldsChoice : (LocalName → List ℕ) → HeldChoice → Type 0
HoldsChoice meaning choices.Mine = Unit {0}
HoldsChoice meaning choices.Theirs = Unit {0}
HoldsChoice meaning (choices.New content) = HaveLens meaning content

abbrev pub HoldsEvent : (LocalName → List ℕ) → HeldSlots → SlotEvent → Type 0
HoldsEvent meaning slots (Write number content) = HaveLens meaning content
HoldsEvent meaning slots (WriteStrong number content pieces) =
    HaveLens meaning content × (length pieces ≡ length (names_of content))
HoldsEvent meaning slots (Send pieces) = IfSome slots.main (λ main. length pieces ≡ length (names_of main.content))
HoldsEvent meaning slots (Answer number outcome) = Unit {0}
HoldsEvent meaning slots (Row yours row) = HaveLens meaning row.content
HoldsEvent meaning slots (Resolve number choice) = HoldsChoice meaning choice

-- ---- chunks of an object

-- each shown chunk stands for its bytes, and a plan before this one brought it
pub record IsShownChunk (meaning : LocalName → List ℕ) (number : ℕ) (chunk : HeldPiece × List ℕ) : Type 0 where
  pub bytes : meaning chunk.0.local ≡ chunk.1
  pub numbered : chunk.0.local.plan ≡ 0 → ⊥
  pub older : chunk.0.local.plan < number

abbrev pub AreShownChunks : (LocalName → List ℕ) → ℕ → List (HeldPiece × List ℕ) → Type 0
AreShownChunks meaning number shown = AllByRecursion (IsShownChunk meaning number) shown

-- an object of these chunks
abbrev pub object_of : List (Option ChunkName × List ℕ) → List ℕ
object_of chunks = concat (map (λ (chunk : Option ChunkName × List ℕ). chunk.1) chunks)

-- ---- what is shown

abbrev pub shown_with : ShownAs → Option Content → Option Shown
shown_with shown.Nothing content = None
shown_with (shown.Clean version) None = None
shown_with (shown.Clean version) (Some content) = Some (facts.Clean version content)
shown_with (shown.Mine number) None = None
shown_with (shown.Mine number) (Some content) = Some (facts.Mine number content)
shown_with (shown.Conflict number version) None = None
shown_with (shown.Conflict number version) (Some content) = Some (facts.Contended number version content)
