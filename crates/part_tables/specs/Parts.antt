-- A message in parts: its header, in which a content is spelled by pieces, and a fragment for each chunk that travels.
use Rattle.std.specs.Prelude.{ℕ, Bool, List, [], ◌∷◌, length, map, Option, Some, None, option_map}
use Rattle.stab_base.specs.declared.chunk_name.ChunkName.{ChunkName}
use Rattle.row_value.specs.declared.content.Content.{Content}
use Rattle.row_value.specs.declared.content.Content.TheVariants as contents
use Rattle.row_value.specs.declared.pieces.Piece.{Piece}
use Rattle.row_value.specs.declared.pieces.Piece.TheVariants.{Keep}
use Rattle.row_value.specs.declared.pieces.PieceObject.{PieceObject}
use Rattle.row_value.specs.declared.pieces.PieceContent.{PieceContent}
use Rattle.row_value.specs.declared.pieces.PieceContent.TheVariants.{Gone, Row}
use Rattle.assemblies.specs.declared.awaiting.Awaited.{Awaited}
use Rattle.assemblies.specs.declared.sent.Sent.TheVariants as sents
use Rattle.assemblies.specs.Travel.{is_sent}
use Rattle.assemblies.specs.Places.{awaited_of}
use Rattle.assemblies.specs.Parts.{chunk_in}
use Rattle.step_tables.specs.Chunks.{first_of, others_of}
use Rattle.step_tables.specs.Messages.{Request, Response, Pull, Pair, Header, Pulled, Message, SyncRequest}
use Rattle.step_tables.specs.Messages.{SyncResponse}
use Rattle.step_tables.specs.Messages.{PullRequest, PullResponse, TornPull, TornPulled, TornRowRequest}
use Rattle.step_tables.specs.Messages.{TornRowResponse}

-- ---- parts

-- a request, its content by pieces
pub record RequestHead : Type 0 where
  pub client : ℕ
  pub table : ℕ
  pub row : List ℕ
  pub number : ℕ
  pub base : ℕ
  pub content : PieceContent

-- a row as the Store has it, for one client, its content by the names of its chunks
pub record RowHead : Type 0 where
  pub row : List ℕ
  pub version : ℕ
  pub yours : Pair
  pub content : PieceContent

pub record PulledHead : Type 0 where
  pub client : ℕ
  pub table : ℕ
  pub from : ℕ
  pub to : ℕ
  pub latest : ℕ
  pub header : Option RowHead

pub record TornHead : Type 0 where
  pub client : ℕ
  pub table : ℕ
  pub row : List ℕ
  pub header : Option RowHead

-- a chunk on its way; its key is the number of the write on the way to the Store, and the version of the row on the way
-- to a client
pub record Fragment : Type 0 where
  pub client : ℕ
  pub table : ℕ
  pub row : List ℕ
  pub key : ℕ
  pub column : ℕ
  pub place : ℕ
  pub bytes : List ℕ

pub data Part : Type 0 where
  Asks : (head : RequestHead) → Part
  Responds : (response : Response) → Part
  Pulls : (pull : Pull) → Part
  Answers : (head : PulledHead) → Part
  BringsUp : (fragment : Fragment) → Part
  BringsDown : (fragment : Fragment) → Part
  AsksTorn : (torn : TornPull) → Part
  AnswersTorn : (head : TornHead) → Part

-- ---- contents by pieces

abbrev pub objects_by : List (List ℕ) → List (List Piece) → List PieceObject
objects_by [] pieces = []
objects_by (object ∷ objects) pieces =
    record { len = length object; pieces = first_of pieces } ∷ objects_by objects (others_of pieces)

abbrev pub spelled_by : Content → List (List Piece) → PieceContent
spelled_by contents.Gone pieces = Gone
spelled_by (contents.Row some objects) pieces = Row some (objects_by objects pieces)

abbrev pub pieces_in : PieceContent → List (List Piece)
pieces_in Gone = []
pieces_in (Row some objects) = map (λ (object : PieceObject). object.pieces) objects

abbrev pub kept : List (List ChunkName) → List (List Piece)
kept names = map (λ (object : List ChunkName). map (λ (name : ChunkName). Keep name) object) names

-- ---- the parts of a message

-- the chunks that travel, in their order
abbrev pub fragments_of : (Piece → Bool) → ℕ → ℕ → ℕ → List ℕ → ℕ → Content → List (List Piece) → List Fragment
fragments_of sends size client table row key content pieces =
    map (λ (it : Awaited). record {
      client = client;
      table = table;
      row = row;
      key = key;
      column = it.column;
      place = it.place;
      bytes = chunk_in size content it.column it.place;
    }) (awaited_of sends size (spelled_by content pieces))

abbrev pub head_of : Request → RequestHead
head_of q = record {
  client = q.client;
  table = q.table;
  row = q.row;
  number = q.number;
  base = q.base;
  content = spelled_by q.content q.pieces;
}

abbrev pub row_head : Header → RowHead
row_head h =
    record { row = h.row; version = h.version; yours = h.yours; content = spelled_by h.content (kept h.names) }

abbrev pub pulled_head : Pulled → PulledHead
pulled_head p = record {
  client = p.client;
  table = p.table;
  from = p.from;
  to = p.to;
  latest = p.latest;
  header = option_map row_head p.header;
}

abbrev pub torn_head : TornPulled → TornHead
torn_head t = record { client = t.client; table = t.table; row = t.row; header = option_map row_head t.header }

-- of an answer to a pull the chunks whose names are of a version above the position
abbrev pub chunks_down : ℕ → Pulled → Option Header → List Fragment
chunks_down size p None = []
chunks_down size p (Some h) =
    fragments_of (is_sent (sents.Above p.from)) size p.client p.table h.row h.version h.content (kept h.names)

abbrev pub chunks_up : ℕ → Request → List Fragment
chunks_up size q = fragments_of (is_sent sents.Fresh) size q.client q.table q.row q.number q.content q.pieces

-- of a row that was asked for whole all chunks
abbrev pub chunks_whole : ℕ → TornPulled → Option Header → List Fragment
chunks_whole size t None = []
chunks_whole size t (Some h) =
    fragments_of (is_sent sents.All) size t.client t.table h.row h.version h.content (kept h.names)

-- where chunks have this size
abbrev pub parts_of : ℕ → Message → List Part
parts_of size (SyncRequest q) = Asks (head_of q) ∷ map (λ (f : Fragment). BringsUp f) (chunks_up size q)
parts_of size (SyncResponse r) = Responds r ∷ []
parts_of size (PullRequest q) = Pulls q ∷ []
parts_of size (PullResponse p) =
    Answers (pulled_head p) ∷ map (λ (f : Fragment). BringsDown f) (chunks_down size p p.header)
parts_of size (TornRowRequest torn) = AsksTorn torn ∷ []
parts_of size (TornRowResponse t) =
    AnswersTorn (torn_head t) ∷ map (λ (f : Fragment). BringsDown f) (chunks_whole size t t.header)
