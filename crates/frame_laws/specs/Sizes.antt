-- Messages whose contents fit their table, and whose numbers have room in the words that spell them.
use Rattle.std.specs.Prelude.{◌≡◌, ℕ, ◌<◌, ◌^◌, true, List, length, Ok, FitsSigned}
use Rattle.std.specs.Int.{w64}
use Rattle.std.specs.List.{AllByRecursion}
use Rattle.row_value.specs.declared.schema.Schema.{Schema}
use Rattle.row_value.specs.declared.content.Cell.{Cell}
use Rattle.row_value.specs.declared.content.Cell.TheVariants as cells
use Rattle.row_value.specs.declared.content.Content.{Content}
use Rattle.row_value.specs.declared.content.Content.TheVariants as contents
use Rattle.row_value.specs.Fit.{fit_of}
use Rattle.value_codec.specs.Spelling.{HasNameSpelling}
use Rattle.value_codec.specs.SchemaSpelling.{HasSchemaSpelling}
use Rattle.field_codec.specs.Forms.{IsOption}
use Rattle.sync_msgs.specs.Spelling.{IsClient}
use Rattle.step_tables.specs.Chunks.{flat, kept_in, is_spelled, is_named}
use Rattle.step_tables.specs.Messages.{Outcome, Accepted, Again, Late, Stale, Conflict, NeedWhole}
use Rattle.step_tables.specs.Messages.{Request, Response, Pull, Header, Pulled, TornPull, TornPulled}
use Rattle.step_tables.specs.Messages.{Message, SyncRequest, SyncResponse, PullRequest, PullResponse}
use Rattle.step_tables.specs.Messages.{TornRowRequest, TornRowResponse}

-- ---- numbers

-- a number of 64 bits, and a table's, which has 32
abbrev pub IsWord : ℕ → Type 0
IsWord n = n < 2 ^ 64

abbrev pub IsTable : ℕ → Type 0
IsTable n = n < 2 ^ 32

-- a row's id has 16 bytes
abbrev pub IsRow : List ℕ → Type 0
IsRow row = length row ≡ 16

-- ---- contents

abbrev pub HasWord : Cell → Type 0
HasWord (cells.Int n) = FitsSigned w64 n
HasWord (cells.Bool b) = Unit {0}
HasWord (cells.Text text) = Unit {0}

abbrev pub HaveWords : Content → Type 0
HaveWords contents.Gone = Unit {0}
HaveWords (contents.Row some objects) = AllByRecursion HasWord some

-- a row of the table, whose numbers have words
pub record IsRowOf (schema : Schema) (content : Content) : Type 0 where
  pub fit : fit_of schema content ≡ Ok tt
  pub words : HaveWords content

-- ---- parts of messages

abbrev pub IsSizedOutcome : Outcome → Type 0
IsSizedOutcome (Accepted version) = IsWord version
IsSizedOutcome (Again version) = IsWord version
IsSizedOutcome (Late last) = IsWord last
IsSizedOutcome (Stale latest) = IsWord latest
IsSizedOutcome (Conflict latest) = IsWord latest
IsSizedOutcome NeedWhole = Unit {0}

-- a row of the table with a name for each of its chunks
pub record IsSizedHeader (schema : Schema) (h : Header) : Type 0 where
  pub row : IsRow h.row
  pub version : IsWord h.version
  pub number : IsWord h.yours.number
  pub accepted : IsWord h.yours.version
  pub content : IsRowOf schema h.content
  pub named : is_named schema.chunk h.content h.names ≡ true
  pub names : AllByRecursion HasNameSpelling (flat h.names)

-- ---- the six messages

-- a row of the table with a piece for each of its chunks; the new chunks are numbered from 0 on
pub record IsSizedRequest (schema : Schema) (q : Request) : Type 0 where
  pub client : IsClient q.client
  pub table : IsTable q.table
  pub row : IsRow q.row
  pub number : IsWord q.number
  pub base : IsWord q.base
  pub content : IsRowOf schema q.content
  pub spelled : is_spelled schema.chunk q.content q.pieces ≡ true
  pub names : AllByRecursion HasNameSpelling (kept_in (flat q.pieces))

pub record IsSizedResponse (r : Response) : Type 0 where
  pub client : IsClient r.client
  pub table : IsTable r.table
  pub row : IsRow r.row
  pub number : IsWord r.number
  pub outcome : IsSizedOutcome r.outcome

pub record IsSizedPull (q : Pull) : Type 0 where
  pub client : IsClient q.client
  pub table : IsTable q.table
  pub position : IsWord q.position

pub record IsSizedPulled (schema : Schema) (p : Pulled) : Type 0 where
  pub client : IsClient p.client
  pub table : IsTable p.table
  pub from : IsWord p.from
  pub to : IsWord p.to
  pub latest : IsWord p.latest
  pub header : IsOption (IsSizedHeader schema) p.header

pub record IsSizedTornPull (q : TornPull) : Type 0 where
  pub client : IsClient q.client
  pub table : IsTable q.table
  pub row : IsRow q.row

pub record IsSizedTornPulled (schema : Schema) (t : TornPulled) : Type 0 where
  pub client : IsClient t.client
  pub table : IsTable t.table
  pub row : IsRow t.row
  pub header : IsOption (IsSizedHeader schema) t.header

abbrev pub IsSized : Schema → Message → Type 0
IsSized schema (SyncRequest q) = IsSizedRequest schema q
IsSized schema (SyncResponse r) = IsSizedResponse r
IsSized schema (PullRequest q) = IsSizedPull q
IsSized schema (PullResponse p) = IsSizedPulled schema p
IsSized schema (TornRowRequest q) = IsSizedTornPull q
IsSized schema (TornRowResponse t) = IsSizedTornPulled schema t

-- a message of a table with this schema
pub record IsSizedIn (schema : Schema) (message : Message) : Type 0 where
  pub table : HasSchemaSpelling schema
  pub sized : IsSized schema message
