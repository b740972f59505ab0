-- What travels between nodes, and how a device write goes.
use Rattle.std.specs.Prelude.{ℕ, List, Option}
use Rattle.stab_base.specs.declared.chunk_name.ChunkName.{ChunkName}
use Rattle.row_value.specs.declared.content.Content.{Content}
use Rattle.row_value.specs.declared.pieces.Piece.{Piece}
use Rattle.table_model.specs.declared.message_name.MessageName.{MessageName}
use Rattle.table_model.specs.declared.message_name.MessageName.TheVariants as names
use Rattle.stab_base.specs.declared.node.Node.{Node}

-- what the Store makes of a request: it is accepted, was accepted before, comes behind a later write of its client,
-- rests on an older version than the row's last, in a strong and in a causal table, or keeps a chunk that the row
-- hasn't
pub data Outcome : Type 0 where
  Accepted : (version : ℕ) → Outcome
  Again : (version : ℕ) → Outcome
  Late : (last : ℕ) → Outcome
  Stale : (latest : ℕ) → Outcome
  Conflict : (latest : ℕ) → Outcome
  NeedWhole : Outcome

-- a write, and the pieces that spell the chunks of each of its objects
pub record Request : Type 0 where
  pub client : ℕ
  pub table : ℕ
  pub row : List ℕ
  pub number : ℕ
  pub base : ℕ
  pub content : Content
  pub pieces : List (List Piece)

pub record Response : Type 0 where
  pub client : ℕ
  pub table : ℕ
  pub row : List ℕ
  pub number : ℕ
  pub outcome : Outcome

pub record Pull : Type 0 where
  pub client : ℕ
  pub table : ℕ
  pub position : ℕ

-- a client's last accepted write on a row, and its version; zeros where there is none
pub record Pair : Type 0 where
  pub number : ℕ
  pub version : ℕ

-- a row as the Store has it, for one client, with the names of the chunks of each of its objects
pub record Header : Type 0 where
  pub row : List ℕ
  pub version : ℕ
  pub yours : Pair
  pub content : Content
  pub names : List (List ChunkName)

pub record Pulled : Type 0 where
  pub client : ℕ
  pub table : ℕ
  pub from : ℕ
  pub to : ℕ
  pub latest : ℕ
  pub header : Option Header

-- a row that a client asks for whole, since it couldn't put it together from an answer to a pull
pub record TornPull : Type 0 where
  pub client : ℕ
  pub table : ℕ
  pub row : List ℕ

pub record TornPulled : Type 0 where
  pub client : ℕ
  pub table : ℕ
  pub row : List ℕ
  pub header : Option Header

pub data Message : Type 0 where
  SyncRequest : (request : Request) → Message
  SyncResponse : (response : Response) → Message
  PullRequest : (pull : Pull) → Message
  PullResponse : (pulled : Pulled) → Message
  TornRowRequest : (torn : TornPull) → Message
  TornRowResponse : (answer : TornPulled) → Message

abbrev pub name_of : Message → MessageName
name_of (SyncRequest request) = names.SyncRequest
name_of (SyncResponse response) = names.SyncResponse
name_of (PullRequest pull) = names.PullRequest
name_of (PullResponse pulled) = names.PullResponse
name_of (TornRowRequest torn) = names.TornRowRequest
name_of (TornRowResponse answer) = names.TornRowResponse

abbrev pub table_of : Message → ℕ
table_of (SyncRequest request) = request.table
table_of (SyncResponse response) = response.table
table_of (PullRequest pull) = pull.table
table_of (PullResponse pulled) = pulled.table
table_of (TornRowRequest torn) = torn.table
table_of (TornRowResponse answer) = answer.table

-- a message with its address; none is the table's owner
pub record Send : Type 0 where
  pub to : Option Node
  pub message : Message

-- how a device write goes: all of it is done, or it fails with nothing of it or with all of it on the device
pub data Luck : Type 0 where
  Done : Luck
  FailedBefore : Luck
  FailedAfter : Luck
