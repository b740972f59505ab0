-- What a client keeps of what comes to it in parts: answers to its pulls that wait, and rows that it asked for whole,
-- have come of those that were sent, and what is completed is taken as one of them. Sizes of chunks and items stand by
-- the numbers of tables.
use Rattle.std.specs.Prelude.{◌≡◌, ◌⊎◌, ℕ, List, map, Some}
use Rattle.std.specs.List.{AllByRecursion}
use Rattle.chunker.specs.Sized.{sized}
use Rattle.assemblies.specs.declared.sent.Sent.TheVariants as sents
use Rattle.assemblies.specs.Travel.{is_sent}
use Rattle.assemblies.specs.Places.{awaited_of}
use Rattle.assemblies.specs.Gathering.{Slot}
use Rattle.assemblies.specs.Parts.{IsChunkOf}
use Rattle.step_tables.specs.Store.{Stored}
use Rattle.step_tables.specs.Members.{Among}
use Rattle.step_tables.specs.Messages.{Pulled, TornPulled, Header, Message, SyncResponse, PullResponse, TornRowResponse}
use Rattle.step_tables.specs.Messages as messages
use Rattle.step_tables.specs.ClientMoves.{TableDisk}
use Rattle.part_tables.specs.Parts.{Part, Asks, Responds, Pulls, Answers, BringsUp, BringsDown, AsksTorn, AnswersTorn}
use Rattle.part_tables.specs.Parts.{Fragment, pulled_head, torn_head, row_head, spelled_by, kept, chunks_down}
use Rattle.part_tables.specs.Parts.{chunks_whole}
use Rattle.part_tables.specs.Arriving.{WholeRow, Arriving}
use Rattle.part_laws.specs.Lengths.{answer_with, torn_with}
use Rattle.part_laws.specs.Answers.{IsOfItem, AreAnswers, AreAnswering, AreTakenAlike}

-- ---- what was sent

-- the answers to a client's pulls, and the rows that it asked for whole
pub record SentDown : Type 0 where
  pub pulls : List Pulled
  pub rows : List TornPulled

-- each row is an item, whose names it has, one for each chunk
pub record AreOfItems (size : ℕ → ℕ) (items : ℕ → List Stored) (sent : SentDown) : Type 0 where
  pub pulls : AreAnswers size items sent.pulls
  pub rows : (t : TornPulled) (h : Header) → Among sent.rows t → t.header ≡ Some h
      → IsOfItem (size t.table) (items t.table) h

-- ---- what waits

-- it has the headers of a row that was sent, and of its chunks those of its content
pub record IsWholeRow (size : ℕ) (rows : List TornPulled) (x : WholeRow) : Type 0 where
  pub answer : TornPulled
  pub header : Header
  pub was_sent : Among rows answer
  pub header_is : answer.header ≡ Some header
  pub head : x.head ≡ torn_head answer
  pub row : x.row ≡ row_head header
  pub places : map (λ (slot : Slot). slot.0) x.slots
      ≡ awaited_of (is_sent sents.All) size (spelled_by header.content (kept header.names))
  pub came : AllByRecursion (IsChunkOf size header.content) x.slots

pub record AreArriving (size : ℕ → ℕ) (sent : SentDown) (a : Arriving) : Type 0 where
  pub pulls : AreAnswering size sent.pulls a.pulls
  pub rows : AllByRecursion (λ (x : WholeRow). IsWholeRow (size x.head.table) sent.rows x) a.rows

-- ---- parts

-- a chunk of an answer to a pull, or of a row that was asked for whole
abbrev pub IsChunkSent : (ℕ → ℕ) → SentDown → Fragment → Type 0
IsChunkSent size sent f =
    ((p : Pulled) × Among sent.pulls p × Among (chunks_down (size p.table) p p.header) f)
    ⊎ ((t : TornPulled) × Among sent.rows t × Among (chunks_whole (size t.table) t t.header) f)

-- a part of what was sent, or one that isn't of either kind
abbrev pub IsPart : (ℕ → ℕ) → SentDown → Part → Type 0
IsPart size sent (Asks head) = Unit {0}
IsPart size sent (Responds response) = Unit {0}
IsPart size sent (Pulls pull) = Unit {0}
IsPart size sent (Answers head) = (p : Pulled) × Among sent.pulls p × (head ≡ pulled_head p)
IsPart size sent (BringsUp f) = Unit {0}
IsPart size sent (BringsDown f) = IsChunkSent size sent f
IsPart size sent (AsksTorn torn) = Unit {0}
IsPart size sent (AnswersTorn head) = (t : TornPulled) × Among sent.rows t × (head ≡ torn_head t)

-- ---- what is taken

-- the answer, or it with objects of which the lengths alone are right
abbrev pub IsOfAnswer : Pulled → Message → Type 0
IsOfAnswer p m = (m ≡ PullResponse p)
    ⊎ ((h : Header) × (p.header ≡ Some h) × (m ≡ answer_with p h (sized (spelled_by h.content (kept h.names)))))

-- the same of a row that was asked for whole
abbrev pub IsOfWholeRow : TornPulled → Message → Type 0
IsOfWholeRow t m = (m ≡ TornRowResponse t)
    ⊎ ((h : Header) × (t.header ≡ Some h) × (m ≡ torn_with t h (sized (spelled_by h.content (kept h.names)))))

-- an answer to a pull of the table that was sent
pub record IsTakenAsPull (table : ℕ) (opened : TableDisk) (pulls : List Pulled) (m : Message) : Type 0 where
  pub answer : Pulled
  pub was_sent : Among pulls answer
  pub table_is : answer.table ≡ table
  pub to_table : messages.table_of m ≡ table
  pub alike : AreTakenAlike table opened m (PullResponse answer)
  pub of_it : IsOfAnswer answer m

-- a row of the table that was asked for whole and sent
pub record IsTakenAsRow (table : ℕ) (opened : TableDisk) (rows : List TornPulled) (m : Message) : Type 0 where
  pub answer : TornPulled
  pub was_sent : Among rows answer
  pub table_is : answer.table ≡ table
  pub to_table : messages.table_of m ≡ table
  pub alike : AreTakenAlike table opened m (TornRowResponse answer)
  pub of_it : IsOfWholeRow answer m

-- what a part completes: an answer to a request is itself
abbrev pub ComesAs : TableDisk → SentDown → Part → Message → Type 0
ComesAs opened sent (Asks head) m = ⊥
ComesAs opened sent (Responds response) m = m ≡ SyncResponse response
ComesAs opened sent (Pulls pull) m = ⊥
ComesAs opened sent (Answers head) m = IsTakenAsPull head.table opened sent.pulls m
ComesAs opened sent (BringsUp f) m = ⊥
ComesAs opened sent (BringsDown f) m =
    IsTakenAsPull f.table opened sent.pulls m ⊎ IsTakenAsRow f.table opened sent.rows m
ComesAs opened sent (AsksTorn torn) m = ⊥
ComesAs opened sent (AnswersTorn head) m = IsTakenAsRow head.table opened sent.rows m

-- the row of an answer to a pull of the table
pub record IsTornRow (table : ℕ) (pulls : List Pulled) (row : List ℕ) : Type 0 where
  pub answer : Pulled
  pub header : Header
  pub was_sent : Among pulls answer
  pub table_is : answer.table ≡ table
  pub header_is : answer.header ≡ Some header
  pub row_is : header.row ≡ row
