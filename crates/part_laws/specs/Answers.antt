-- Answers to a client's pulls that come in parts: what waits has come of answers that were sent, and what is completed
-- is taken as one of them. Sizes of chunks and items stand by the numbers of tables.
use Rattle.std.specs.Prelude.{◌≡◌, ℕ, ◌<◌, true, List, [], map, Some}
use Rattle.std.specs.List.{AllByRecursion}
use Rattle.assemblies.specs.declared.sent.Sent.TheVariants as sents
use Rattle.assemblies.specs.Travel.{is_sent}
use Rattle.assemblies.specs.Places.{awaited_of}
use Rattle.assemblies.specs.Gathering.{Slot}
use Rattle.assemblies.specs.Parts.{IsChunkOf}
use Rattle.step_tables.specs.Slots.{Shadow}
use Rattle.step_tables.specs.Store.{Stored}
use Rattle.step_tables.specs.Items.{IsItemAt}
use Rattle.step_tables.specs.Chunks.{is_named}
use Rattle.step_tables.specs.Members.{Among}
use Rattle.step_tables.specs.Messages.{Pulled, Header, Message, SyncResponse, PullResponse}
use Rattle.step_tables.specs.ClientMoves.{Shape, ClientDisk, TableDisk, Slots, client_step, Take, table_at, seen}
use Rattle.step_tables.specs.ClientMoves.{slots_at, known}
use Rattle.part_tables.specs.Parts.{Part, Asks, Responds, Pulls, Answers, BringsUp, BringsDown, AsksTorn, AnswersTorn}
use Rattle.part_tables.specs.Parts.{pulled_head, row_head, spelled_by, kept, chunks_down}
use Rattle.part_tables.specs.ClientParts.{Answering}
use Rattle.piece_laws.specs.Pieces.{NamesOne}

-- ---- what was sent

-- a row from the Store is an item, whose names it has, one for each chunk
pub record IsOfItem (size : ℕ) (items : List Stored) (h : Header) : Type 0 where
  pub item : Stored
  pub is : IsItemAt items h.row h.version item
  pub content : item.content ≡ h.content
  pub names : item.names ≡ h.names
  pub named : is_named size h.content h.names ≡ true

abbrev pub AreAnswers : (ℕ → ℕ) → (ℕ → List Stored) → List Pulled → Type 0
AreAnswers size items sent = (p : Pulled) (h : Header) → Among sent p → p.header ≡ Some h
    → IsOfItem (size p.table) (items p.table) h

-- items of one row and version have one content
abbrev pub HaveOneContent : List Stored → Type 0
HaveOneContent items = (row : List ℕ) (version : ℕ) (i j : Stored) → IsItemAt items row version i
    → IsItemAt items row version j → i.content ≡ j.content

-- ---- what the client has

-- a row that it has from the Store is an item, whose names it has
pub record IsReadItem (items : List Stored) (row : List ℕ) (x : Shadow) : Type 0 where
  pub item : Stored
  pub is : IsItemAt items row x.version item
  pub content : x.content ≡ item.content
  pub names : x.names ≡ known item.names

pub record AreReadItems (items : List Stored) (row : List ℕ) (slots : Slots) : Type 0 where
  pub shadow : (x : Shadow) → slots.shadow ≡ Some x → IsReadItem items row x
  pub conflict : (x : Shadow) → slots.conflict ≡ Some x → IsReadItem items row x

-- a table that it has opened, with these items at the Store
pub record IsOpened (size : ℕ) (items : List Stored) (opened : TableDisk) : Type 0 where
  pub some : 0 < size
  pub size_is : opened.schema.chunk ≡ size
  pub names_one : NamesOne size items
  pub contents_one : HaveOneContent items
  pub rows : (row : List ℕ) → AreReadItems items row (slots_at opened row)

-- ---- what waits

-- it has the headers of an answer that was sent, and of the chunks that are awaited those of its content
pub record IsAnswering (size : ℕ) (sent : List Pulled) (x : Answering) : Type 0 where
  pub answer : Pulled
  pub header : Header
  pub was_sent : Among sent answer
  pub header_is : answer.header ≡ Some header
  pub head : x.head ≡ pulled_head answer
  pub row : x.row ≡ row_head header
  pub places : map (λ (slot : Slot). slot.0) x.slots
      ≡ awaited_of (is_sent (sents.Above answer.from)) size (spelled_by header.content (kept header.names))
  pub came : AllByRecursion (IsChunkOf size header.content) x.slots

abbrev pub AreAnswering : (ℕ → ℕ) → List Pulled → List Answering → Type 0
AreAnswering size sent xs = AllByRecursion (λ (x : Answering). IsAnswering (size x.head.table) sent x) xs

-- ---- parts

abbrev pub table_of : Part → ℕ
table_of (Asks head) = head.table
table_of (Responds response) = response.table
table_of (Pulls pull) = pull.table
table_of (Answers head) = head.table
table_of (BringsUp f) = f.table
table_of (BringsDown f) = f.table
table_of (AsksTorn torn) = torn.table
table_of (AnswersTorn head) = head.table

-- a part of an answer that was sent, or one that isn't of an answer to a pull
abbrev pub IsPart : (ℕ → ℕ) → List Pulled → Part → Type 0
IsPart size sent (Asks head) = Unit {0}
IsPart size sent (Responds response) = Unit {0}
IsPart size sent (Pulls pull) = Unit {0}
IsPart size sent (Answers head) = (p : Pulled) × Among sent p × (head ≡ pulled_head p)
IsPart size sent (BringsUp f) = Unit {0}
IsPart size sent (BringsDown f) = (p : Pulled) × Among sent p × Among (chunks_down (size p.table) p p.header) f
IsPart size sent (AsksTorn torn) = Unit {0}
IsPart size sent (AnswersTorn head) = Unit {0}

-- a client with this table opened, up and with no write to be done, makes the same of both
abbrev pub AreTakenAlike : ℕ → TableDisk → Message → Message → Type 0
AreTakenAlike table opened m n = (c : ℕ) (shape : Shape) (d : ClientDisk) → table_at (seen d) table ≡ Some opened
    → client_step c shape (record { disk = d; agenda = Some [] }) (Take m)
    ≡ client_step c shape (record { disk = d; agenda = Some [] }) (Take n)

-- an answer that was sent
abbrev pub IsTakenAsSent : ℕ → TableDisk → List Pulled → Message → Type 0
IsTakenAsSent table opened sent m = (p : Pulled) × Among sent p × AreTakenAlike table opened m (PullResponse p)

-- what a part completes: an answer to a request is itself
abbrev pub ComesAs : TableDisk → List Pulled → Part → Message → Type 0
ComesAs opened sent (Asks head) m = ⊥
ComesAs opened sent (Responds response) m = m ≡ SyncResponse response
ComesAs opened sent (Pulls pull) m = ⊥
ComesAs opened sent (Answers head) m = IsTakenAsSent head.table opened sent m
ComesAs opened sent (BringsUp f) m = ⊥
ComesAs opened sent (BringsDown f) m = IsTakenAsSent f.table opened sent m
ComesAs opened sent (AsksTorn torn) m = ⊥
ComesAs opened sent (AnswersTorn head) m = ⊥
