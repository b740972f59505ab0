-- A plan that is to be taken on: what is asked of it, and the commit that it comes to under its number.
use Rattle.std.specs.Prelude.{◌≡◌, ℕ, ◌+◌, ◌<◌, ◌≤◌, ◌==◌, if◌then◌else◌, List, [], ◌∷◌, length, map, Option}
use Rattle.std.specs.Prelude.{Some, None, option_map, unwrap_or}
use Rattle.std.specs.List.{AllByRecursion}
use Rattle.vault.specs.Limit.{payload_most}
use Rattle.held_value.specs.declared.local_name.LocalName.{LocalName}
use Rattle.held_value.specs.declared.content.HeldPiece.{HeldPiece}
use Rattle.held_value.specs.declared.content.HeldObject.{HeldObject}
use Rattle.held_value.specs.declared.content.HeldContent.{HeldContent}
use Rattle.held_value.specs.declared.content.HeldContent.TheVariants.{Gone, Row}
use Rattle.held_value.specs.declared.slots.Main.{Main}
use Rattle.held_value.specs.declared.slots.Shadow.{Shadow}
use Rattle.held_value.specs.declared.slots.Out.{Out}
use Rattle.held_value.specs.declared.slots.Slots.{Slots}
use Rattle.plan_log.specs.declared.plan.Intend.{Intend}
use Rattle.plan_log.specs.declared.plan.RowChange.{RowChange}
use Rattle.plan_log.specs.declared.plan.Commit.{Commit}
use Rattle.plan_log.specs.Spelling.{IsPlan as IsPlanNumber, HasCommit, commit_payload}
use Rattle.plan_log.specs.Journal.{AtWork, Idle, Intended, Committed}
use Rattle.client_journal.specs.declared.plan.Plan.{Plan}
use Rattle.client_journal.specs.Names.{Has}
use Rattle.client_journal.specs.Devs.{ClientDevs, local_in, Write, PutIntend, PutChunk, PutCommit}
use Rattle.client_journal.specs.NamedSlots.{AreDifferent, names_before, names_behind}

-- ---- under its number

-- a brought chunk's name gets the plan's number
abbrev pub numbered_name : ℕ → LocalName → LocalName
numbered_name number name = if name.plan == 0 then record { plan = number; ordinal = name.ordinal } else name

abbrev pub numbered_piece : ℕ → HeldPiece → HeldPiece
numbered_piece number piece = record { local = numbered_name number piece.local; name = piece.name }

abbrev pub numbered_object : ℕ → HeldObject → HeldObject
numbered_object number object = record { len = object.len; pieces = map (numbered_piece number) object.pieces }

abbrev pub numbered_content : ℕ → HeldContent → HeldContent
numbered_content number Gone = Gone
numbered_content number (Row some objects) = Row some (map (numbered_object number) objects)

abbrev pub numbered_main : ℕ → Main → Main
numbered_main number main =
    record { number = main.number; read = main.read; content = numbered_content number main.content }

abbrev pub numbered_shadow : ℕ → Shadow → Shadow
numbered_shadow number shadow =
    record { version = shadow.version; content = numbered_content number shadow.content }

abbrev pub numbered_out : ℕ → Out → Out
numbered_out number out = record {
  number = out.number;
  read = out.read;
  base = out.base;
  whole = out.whole;
  content = numbered_content number out.content;
  pieces = out.pieces;
}

abbrev pub numbered_slots : ℕ → Slots → Slots
numbered_slots number slots = record {
  main = option_map (numbered_main number) slots.main;
  shadow = option_map (numbered_shadow number) slots.shadow;
  out = option_map (numbered_out number) slots.out;
  conflict = option_map (numbered_shadow number) slots.conflict;
}

abbrev pub numbered_row : ℕ → RowChange → RowChange
numbered_row number change = record { row = change.row; slots = numbered_slots number change.slots }

abbrev pub commit_for : ℕ → Plan → Commit
commit_for number plan = record {
  plan = number;
  last = plan.last;
  table = plan.table;
  row = option_map (numbered_row number) plan.row;
  position = plan.position;
  new_record = plan.new_record;
  drops = plan.drops;
  tells = plan.tells;
}

-- where no row is given, this one
abbrev pub no_id : List ℕ
no_id = 0 ∷ 0 ∷ 0 ∷ 0 ∷ 0 ∷ 0 ∷ 0 ∷ 0 ∷ 0 ∷ 0 ∷ 0 ∷ 0 ∷ 0 ∷ 0 ∷ 0 ∷ 0 ∷ []

abbrev pub id_or : Option RowChange → List ℕ
id_or None = no_id
id_or (Some change) = change.row

abbrev pub intend_for : ℕ → Plan → Intend
intend_for number plan = record {
  plan = number;
  table = plan.table;
  row = id_or plan.row;
  server = plan.server;
  chunks = length plan.brought;
}

-- ---- what is asked of it

-- the largest chunk
abbrev pub chunk_most : ℕ
chunk_most = 65536

-- how many chunks a plan brings and drops at most
abbrev pub changes_most : ℕ
changes_most = 16777216

-- the new slots keep a name: one that isn't of a brought chunk
pub record Keeps (plan : Plan) (name : LocalName) : Type 0 where
  pub named : Has (names_behind plan.row) name
  pub kept : name.plan ≡ 0 → ⊥

pub record IsPlan (d : ClientDevs) (plan : Plan) : Type 0 where
  -- each name of plan 0 is that of a brought chunk, and each brought chunk's is there
  pub brought : (name : LocalName) → Has (names_behind plan.row) name → name.plan ≡ 0
      → name.ordinal < length plan.brought
  pub all_brought : (ordinal : ℕ) → ordinal < length plan.brought
      → Has (names_behind plan.row) (record { plan = 0; ordinal = ordinal })
  -- every other name is one that the row's slots name
  pub kept : (name : LocalName) → Keeps plan name → Has (names_before d.held plan.table plan.row) name
  -- the drops are the other names in the row's slots, each once, and each has its chunk
  pub dropped : (name : LocalName) → Has plan.drops name
      → Has (names_before d.held plan.table plan.row) name × (Keeps plan name → ⊥)
  pub all_dropped : (name : LocalName) → Has (names_before d.held plan.table plan.row) name
      → (Keeps plan name → ⊥) → Has plan.drops name
  pub different : AreDifferent plan.drops
  pub there : (name : LocalName) → Has plan.drops name → (bytes : List ℕ) × (local_in d.chunks name ≡ Some bytes)
  -- under whichever number its commit has a spelling that is short enough
  pub spelled : (number : ℕ) → IsPlanNumber number → HasCommit (commit_for number plan)
  pub short : (number : ℕ) → IsPlanNumber number → length (commit_payload (commit_for number plan)) ≤ payload_most
  pub chunks : AllByRecursion (λ bytes. length bytes ≤ chunk_most) plan.brought
  pub few : length plan.brought + length plan.drops ≤ changes_most

-- ---- the plan at work

abbrev pub plan_of : AtWork → ℕ
plan_of Idle = 0
plan_of (Intended intend) = 0
plan_of (Committed commit) = commit.plan

-- the plan that a write begins, brings a chunk of, or commits
abbrev pub plan_begun : Write → Option ℕ
plan_begun (PutIntend intend) = Some intend.plan
plan_begun (PutChunk name bytes) = Some name.plan
plan_begun (PutCommit commit) = Some commit.plan
plan_begun _ = None

abbrev pub begun_first : List Write → Option ℕ
begun_first [] = None
begun_first (w ∷ ws) = plan_begun w

-- that of the next write, or else the committed one, or else 0: a start that drops a plan's chunks has none to end
abbrev pub plan_at_work : ClientDevs → List Write → ℕ
plan_at_work d ws = unwrap_or (begun_first ws) (plan_of d.journal.at_work)
