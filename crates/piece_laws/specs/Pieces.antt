-- A name of a chunk stands for the same bytes at every party: what holds of it at the Store, at a client, and on the
-- network. `h` are the items of a table, whose chunks have a size; `sent` are all requests that were sent.
use Rattle.std.specs.Prelude.{◌≡◌, ◌⊎◌, ℕ, ◌≤◌, true, List, [], ◌∷◌, ◌++◌, length, Option, Some, None}
use Rattle.stab_base.specs.declared.chunk_name.ChunkName.{ChunkName}
use Rattle.row_value.specs.declared.content.Content.{Content}
use Rattle.row_value.specs.declared.pieces.Piece.{Piece}
use Rattle.row_value.specs.declared.pieces.Piece.TheVariants.{Keep}
use Rattle.row_value.specs.declared.schema.Schema.{Schema}
use Rattle.step_tables.specs.Slots.{Shadow, InFlight}
use Rattle.step_tables.specs.Store.{Stored}
use Rattle.step_tables.specs.Chunks.{flat, objects_of, each_chunk, chunks_with, chunks_of, names_of, names_at, kept_in}
use Rattle.step_tables.specs.Chunks.{is_spelled, is_named}
use Rattle.step_tables.specs.ClientMoves.{Slots, Client, known, slots_of, seen}
use Rattle.step_tables.specs.Items.{IsItemOf, IsItemAt}
use Rattle.step_tables.specs.Members.{Among}
use Rattle.step_tables.specs.Messages.{Request, Response, Pulled, TornPulled, Header, Outcome, Message, NeedWhole}
use Rattle.step_tables.specs.Messages.{SyncRequest, SyncResponse, PullRequest, PullResponse, TornRowRequest}
use Rattle.step_tables.specs.Messages.{TornRowResponse}
use Rattle.world_tables.specs.World.{World, Packet, Hosted, schema_at, hosted_at, client_at}

-- ---- at the Store

-- an item of the row has a chunk of this name, with these bytes
pub record IsNamed (size : ℕ) (h : List Stored) (row : List ℕ) (name : ChunkName) (bytes : List ℕ) : Type 0 where
  pub item : Stored
  pub stands : Among h item
  pub row_is : item.entry.row ≡ row
  pub chunk : Among (flat (chunks_with size item)) (name, bytes)

-- a name stands for one chunk of one row
abbrev pub NamesOne : ℕ → List Stored → Type 0
NamesOne size h =
    (name : ChunkName) (a b : List ℕ) (r s : List ℕ) → IsNamed size h r name a → IsNamed size h s name b
    → (r ≡ s) × (a ≡ b)

-- the row has no chunk of this name any more, and gets none again: its version was given
pub record IsGone (size : ℕ) (h : List Stored) (row : List ℕ) (name : ChunkName) : Type 0 where
  pub none : Among (names_of (chunks_of size h row)) name → ⊥
  pub given : name.version ≤ length h

-- ---- of a request

-- each chunk that it keeps is one of the row's, by its name
abbrev pub KeepsKnown : ℕ → List Stored → List ℕ → Content → List (List Piece) → Type 0
KeepsKnown size h row content pieces =
    (name : ChunkName) (bytes : List ℕ)
    → Among (flat (each_chunk size pieces (objects_of content))) (Keep name, bytes) → IsNamed size h row name bytes

-- it keeps one that is gone, so that it is never accepted
pub record IsDead (size : ℕ) (h : List Stored) (row : List ℕ) (pieces : List (List Piece)) : Type 0 where
  pub name : ChunkName
  pub kept : Among (kept_in (flat pieces)) name
  pub gone : IsGone size h row name

abbrev pub KeepsNone : List (List Piece) → Type 0
KeepsNone pieces = kept_in (flat pieces) ≡ []

-- two requests of one write spell it alike, or one of them was given up for one that keeps nothing
abbrev pub GoTogether : ℕ → List Stored → List ℕ → List (List Piece) → List (List Piece) → Type 0
GoTogether size h row one other =
    (one ≡ other)
    ⊎ ((IsDead size h row one × KeepsNone other) ⊎ (IsDead size h row other × KeepsNone one))

-- an item is that of a sent request: it has the names of its pieces
pub record IsOfRequest (sent : List Request) (table : ℕ) (item : Stored) (q : Request) : Type 0 where
  pub stands : Among sent q
  pub client_is : q.client ≡ item.entry.client
  pub number_is : q.number ≡ item.entry.number
  pub table_is : q.table ≡ table
  pub row_is : q.row ≡ item.entry.row
  pub content_is : q.content ≡ item.content
  pub names_are : item.names ≡ names_at item.entry.version q.pieces

-- any two requests of one write are of one row, and go together
pub record IsOfOne (size : ℕ → ℕ) (h : ℕ → List Stored) (one other : Request) : Type 0 where
  pub table_is : one.table ≡ other.table
  pub row_is : one.row ≡ other.row
  pub together : GoTogether (size other.table) (h other.table) other.row one.pieces other.pieces

-- ---- of an answer

-- all chunks are needed: a request of the write keeps one that is gone, and each item of the write is of a request that
-- keeps nothing
pub record IsNeeded (size : ℕ → ℕ) (h : ℕ → List Stored) (sent : List Request) (r : Response) : Type 0 where
  pub request : Request
  pub stands : Among sent request
  pub client_is : request.client ≡ r.client
  pub number_is : request.number ≡ r.number
  pub table_is : request.table ≡ r.table
  pub row_is : request.row ≡ r.row
  pub dead : IsDead (size r.table) (h r.table) r.row request.pieces
  pub items : (i : Stored) → Among (h r.table) i → i.entry.client ≡ r.client → i.entry.number ≡ r.number
      → i.entry.row ≡ r.row
      → (q : Request) × IsOfRequest sent r.table i q × KeepsNone q.pieces

abbrev pub IsOutcome : (ℕ → ℕ) → (ℕ → List Stored) → List Request → Response → Outcome → Type 0
IsOutcome size h sent r NeedWhole = IsNeeded size h sent r
IsOutcome size h sent r other = Unit {0}

-- a row from the Store is an item's, with its names
pub record IsHeaderOf (h : List Stored) (header : Header) : Type 0 where
  pub item : Stored
  pub is : IsItemAt h header.row header.version item
  pub content : item.content ≡ header.content
  pub names : item.names ≡ header.names

abbrev pub IsHeader : List Stored → Option Header → Type 0
IsHeader h None = Unit {0}
IsHeader h (Some header) = IsHeaderOf h header

abbrev pub IsKnown : (ℕ → ℕ) → (ℕ → List Stored) → List Request → Message → Type 0
IsKnown size h sent (SyncRequest q) =
    (is_spelled (size q.table) q.content q.pieces ≡ true)
    × KeepsKnown (size q.table) (h q.table) q.row q.content q.pieces
IsKnown size h sent (PullRequest pull) = Unit {0}
IsKnown size h sent (SyncResponse r) = IsOutcome size h sent r r.outcome
IsKnown size h sent (PullResponse pulled) = IsHeader (h pulled.table) pulled.header
IsKnown size h sent (TornRowRequest torn) = Unit {0}
IsKnown size h sent (TornRowResponse answer) = IsHeader (h answer.table) answer.header

-- ---- at a client

-- a row that it has from the Store is an item's, with its names
pub record HasNames (h : List Stored) (row : List ℕ) (x : Shadow) : Type 0 where
  pub item : Stored
  pub is : IsItemAt h row x.version item
  pub content : item.content ≡ x.content
  pub names : x.names ≡ known item.names

-- a request of the write that waits spells it alike, or was given up for one that keeps nothing
pub record IsOfOut (size : ℕ) (h : List Stored) (table : ℕ) (row : List ℕ) (o : InFlight) (q : Request) : Type 0 where
  pub table_is : q.table ≡ table
  pub row_is : q.row ≡ row
  pub content_is : q.content ≡ o.content
  pub pieces : (q.pieces ≡ o.pieces) ⊎ ((o.whole ≡ true) × KeepsNone o.pieces × IsDead size h row q.pieces)

-- what waits for its answer spells its chunks and keeps what is known, and an item of it has the names of its pieces
pub record IsSpelledOut (size c : ℕ) (h : List Stored) (sent : List Request) (table : ℕ) (row : List ℕ)
    (o : InFlight) : Type 0 where
  pub spells : is_spelled size o.content o.pieces ≡ true
  pub keeps : KeepsKnown size h row o.content o.pieces
  pub names : (version : ℕ) (i : Stored) → IsItemOf h c o.number row version i → i.names ≡ names_at version o.pieces
  pub requests : (q : Request) → Among sent q → q.client ≡ c → q.number ≡ o.number → IsOfOut size h table row o q

pub record SlotsNamed (size c : ℕ) (h : List Stored) (sent : List Request) (table : ℕ) (row : List ℕ)
    (slots : Slots) : Type 0 where
  pub shadow : (x : Shadow) → slots.shadow ≡ Some x → HasNames h row x
  pub conflict : (x : Shadow) → slots.conflict ≡ Some x → HasNames h row x
  pub out : (o : InFlight) → slots.out ≡ Some o → IsSpelledOut size c h sent table row o

-- ---- in a world

abbrev pub items_in : Option Hosted → List Stored
items_in None = []
items_in (Some hosted) = hosted.store.disk.items

-- the items on the devices of a table's Store
abbrev pub items_at : World → ℕ → List Stored
items_at w table = items_in (hosted_at w table)

abbrev pub request_in : Message → List Request
request_in (SyncRequest q) = q ∷ []
request_in (PullRequest pull) = []
request_in (SyncResponse r) = []
request_in (PullResponse pulled) = []
request_in (TornRowRequest torn) = []
request_in (TornRowResponse answer) = []

abbrev pub requests_of : List Packet → List Request
requests_of [] = []
requests_of (packet ∷ packets) = request_in packet.message ++ requests_of packets

-- the requests on the network
abbrev pub asked_in : World → List Request
asked_in w = requests_of w.packets

-- A NAME STANDS FOR ONE CHUNK of one row, at the Store, on the network and at each client: no two items have other
-- bytes under it, and a row has one content at a version; a request spells its chunks, so that the Store takes it, and
-- keeps what an item of its row has; a row from the Store, whether it was pulled or asked for whole, names its chunks,
-- so that a client takes it, by the names of its item, and has them as it was read; all chunks of a write are needed
-- only where a request of it keeps one that is gone; what waits keeps what is known, and its item has the names of its
-- pieces. Each item is of a request on the network, and any two requests of one write have one content, and spell it
-- alike, or one of them is given up for one that keeps nothing.
pub record NamesStand (w : World) : Type 0 where
  pub one : (table : ℕ) (schema : Schema) → schema_at w table ≡ Some schema → NamesOne schema.chunk (items_at w table)
  pub contents : (table : ℕ) (row : List ℕ) (version : ℕ) (i j : Stored) → IsItemAt (items_at w table) row version i
      → IsItemAt (items_at w table) row version j → i.content ≡ j.content
  pub items : (table : ℕ) (i : Stored) → Among (items_at w table) i → (q : Request) × IsOfRequest (asked_in w) table i q
  pub requests : (q : Request) → Among (asked_in w) q → (schema : Schema) → schema_at w q.table ≡ Some schema
      → (is_spelled schema.chunk q.content q.pieces ≡ true)
      × KeepsKnown schema.chunk (items_at w q.table) q.row q.content q.pieces
  pub pairs : (p q : Request) → Among (asked_in w) p → Among (asked_in w) q → p.client ≡ q.client → p.number ≡ q.number
      → (schema : Schema) → schema_at w q.table ≡ Some schema
      → (p.table ≡ q.table) × (p.row ≡ q.row) × (p.content ≡ q.content)
      × GoTogether schema.chunk (items_at w q.table) q.row p.pieces q.pieces
  pub headers : (packet : Packet) → Among w.packets packet → (pulled : Pulled) → packet.message ≡ PullResponse pulled
      → (header : Header) → pulled.header ≡ Some header
      → (schema : Schema) → schema_at w pulled.table ≡ Some schema
      → IsHeaderOf (items_at w pulled.table) header × (is_named schema.chunk header.content header.names ≡ true)
  pub torn : (packet : Packet) → Among w.packets packet → (answer : TornPulled)
      → packet.message ≡ TornRowResponse answer → (header : Header) → answer.header ≡ Some header
      → (schema : Schema) → schema_at w answer.table ≡ Some schema
      → IsHeaderOf (items_at w answer.table) header × (is_named schema.chunk header.content header.names ≡ true)
  pub answers : (packet : Packet) → Among w.packets packet → (r : Response) → packet.message ≡ SyncResponse r
      → r.outcome ≡ NeedWhole → (schema : Schema) → schema_at w r.table ≡ Some schema
      → IsNeeded (λ table. schema.chunk) (items_at w) (asked_in w) r
  pub clients : (c : ℕ) (node : Client) → client_at w c ≡ Some node
      → (table : ℕ) (schema : Schema) → schema_at w table ≡ Some schema → (row : List ℕ)
      → SlotsNamed schema.chunk c (items_at w table) (asked_in w) table row (slots_of (seen node.disk) table row)
