-- Requests that come to the Store in parts: what has been gathered is of those that were sent to its table, and what is
-- completed is taken as one of them.
use Rattle.std.specs.Prelude.{◌≡◌, ◌⊎◌, ℕ, true, List, [], map, Some}
use Rattle.std.specs.List.{AllByRecursion}
use Rattle.stab_base.specs.declared.node.Node.{Node}
use Rattle.row_value.specs.declared.schema.Scheme.{Scheme}
use Rattle.chunker.specs.Sized.{sized}
use Rattle.assemblies.specs.declared.sent.Sent.TheVariants as sents
use Rattle.assemblies.specs.Travel.{is_sent}
use Rattle.assemblies.specs.Places.{awaited_of}
use Rattle.assemblies.specs.Gathering.{Slot}
use Rattle.assemblies.specs.Parts.{IsChunkOf}
use Rattle.step_tables.specs.Store.{Stored}
use Rattle.step_tables.specs.Chunks.{is_spelled}
use Rattle.step_tables.specs.Members.{Among}
use Rattle.step_tables.specs.Messages.{Request, Message, SyncRequest, PullRequest, TornRowRequest, table_of}
use Rattle.step_tables.specs.StoreMoves.{StoreDisk, store_step, Take}
use Rattle.part_tables.specs.Parts.{Part, Asks, Responds, Pulls, Answers, BringsUp, BringsDown, AsksTorn, AnswersTorn}
use Rattle.part_tables.specs.Parts.{head_of, spelled_by, chunks_up}
use Rattle.part_tables.specs.StoreParts.{Gathering}
use Rattle.piece_laws.specs.Pieces.{KeepsKnown}
use Rattle.part_laws.specs.Lengths.{request_with}

-- of the requests that were sent to a table, those of one client, row and number have one content; each spells its
-- chunks and keeps only known ones
pub record AreSent (size : ℕ) (items : List Stored) (sent : List Request) : Type 0 where
  pub one : (q r : Request) → Among sent q → Among sent r → q.client ≡ r.client → q.row ≡ r.row → q.number ≡ r.number
      → q.content ≡ r.content
  pub spelled : (q : Request) → Among sent q → is_spelled size q.content q.pieces ≡ true
  pub keeps : (q : Request) → Among sent q → KeepsKnown size items q.row q.content q.pieces

-- what is gathered has the header of a request that was sent, and of the chunks that are awaited those of its content
pub record IsGathered (size : ℕ) (sent : List Request) (x : Gathering) : Type 0 where
  pub request : Request
  pub was_sent : Among sent request
  pub head : x.head ≡ head_of request
  pub places : map (λ (slot : Slot). slot.0) x.slots
      ≡ awaited_of (is_sent sents.Fresh) size (spelled_by request.content request.pieces)
  pub came : AllByRecursion (IsChunkOf size request.content) x.slots

abbrev pub Gathers : ℕ → List Request → List Gathering → Type 0
Gathers size sent gs = AllByRecursion (IsGathered size sent) gs

-- a part of a request that was sent, or one that isn't of a request
abbrev pub IsPart : ℕ → List Request → Part → Type 0
IsPart size sent (Asks head) = (q : Request) × Among sent q × (head ≡ head_of q)
IsPart size sent (Responds response) = Unit {0}
IsPart size sent (Pulls pull) = Unit {0}
IsPart size sent (Answers head) = Unit {0}
IsPart size sent (BringsUp f) = (q : Request) × Among sent q × Among (chunks_up size q) f
IsPart size sent (BringsDown f) = Unit {0}
IsPart size sent (AsksTorn torn) = Unit {0}
IsPart size sent (AnswersTorn head) = Unit {0}

-- a table with these items, up and with no write to be done, makes the same of both
abbrev pub AreTakenAlike : Scheme → ℕ → List Stored → Message → Message → Type 0
AreTakenAlike g size items m n = (store table : ℕ) (d : StoreDisk) (from : Node) → d.items ≡ items
    → store_step store g size table (record { disk = d; agenda = Some [] }) (Take from m)
    ≡ store_step store g size table (record { disk = d; agenda = Some [] }) (Take from n)

-- the request, or it with objects of which the lengths alone are right
abbrev pub IsOfRequest : Request → Message → Type 0
IsOfRequest q m =
    (m ≡ SyncRequest q) ⊎ (m ≡ SyncRequest (request_with q (sized (spelled_by q.content q.pieces))))

-- a request of the client that was sent, of the same table
abbrev pub IsTakenAsSent : Scheme → ℕ → List Stored → List Request → ℕ → Message → Type 0
IsTakenAsSent g size items sent client m =
    (q : Request) × Among sent q × (q.client ≡ client) × (table_of m ≡ q.table)
    × AreTakenAlike g size items m (SyncRequest q) × IsOfRequest q m

-- what a part completes: a pull is itself, and so is what asks for a row whole
abbrev pub ComesAs : Scheme → ℕ → List Stored → List Request → Part → Message → Type 0
ComesAs g size items sent (Asks head) m = IsTakenAsSent g size items sent head.client m
ComesAs g size items sent (Responds response) m = ⊥
ComesAs g size items sent (Pulls pull) m = m ≡ PullRequest pull
ComesAs g size items sent (Answers head) m = ⊥
ComesAs g size items sent (BringsUp f) m = IsTakenAsSent g size items sent f.client m
ComesAs g size items sent (BringsDown f) m = ⊥
ComesAs g size items sent (AsksTorn torn) m = m ≡ TornRowRequest torn
ComesAs g size items sent (AnswersTorn head) m = ⊥
