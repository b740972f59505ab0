-- What holds of a table at the Store beside the items `h` of the history that its lines tell. K is what is known of a
-- write that was sent: its client, row, number, base and content.
use Rattle.std.specs.Prelude.{◌≡◌, ◌≢◌, ◌≤◌, ◌<◌, ◌⊎◌, ℕ, ◌+◌, Bool, true, List, [], ◌∷◌, ◌++◌, length, Option, Some}
use Rattle.std.specs.Prelude.{None}
use Rattle.stab_base.specs.declared.node.Node.{Node}
use Rattle.stab_base.specs.declared.node.Node.TheVariants as nodes
use Rattle.row_value.specs.declared.content.Content.{Content}
use Rattle.row_value.specs.declared.schema.Scheme.{Scheme}
use Rattle.row_value.specs.declared.schema.Scheme.TheVariants.{Strong, Causal, Eventual}
use Rattle.step_tables.specs.Store.{Stored}
use Rattle.step_tables.specs.Facts.{Fact}
use Rattle.step_tables.specs.Members.{Among}
use Rattle.step_tables.specs.Messages.{Request, Response, Pull, Pulled, Header, Outcome, Message, Send, SyncRequest}
use Rattle.step_tables.specs.Messages.{SyncResponse, PullRequest, PullResponse, TornPulled, TornRowRequest}
use Rattle.step_tables.specs.Messages.{TornRowResponse}
use Rattle.step_tables.specs.Messages as messages
use Rattle.step_tables.specs.Sayings.{Saying, SaysNothing, SaysEntry, SaysBack, saying}
use Rattle.step_tables.specs.StoreMoves.{StoreDisk, StoreTask, TableStore, StoreStep, StoreMove, Take}
use Rattle.step_tables.specs.StoreMoves.{changed}
use Rattle.step_tables.specs.Items.{latest, IsItemOf, IsItemAt, IsBase, IsYours, IsChange}
use Rattle.world_tables.specs.Again.{may_repeat}

-- what is known of a sent write: client, row, number, base, content
abbrev pub Known : Type 1
Known = ℕ → List ℕ → ℕ → ℕ → Content → Type 0

abbrev pub Knows : Known → Stored → Type 0
Knows K i = K i.entry.client i.entry.row i.entry.number i.entry.base i.content

-- the versions go on from this one
abbrev pub Counts : ℕ → List Stored → Type 0
Counts n [] = Unit {0}
Counts n (i ∷ items) = (i.entry.version ≡ n + 1) × Counts (n + 1) items

-- versions run 1 to n; each item is of a known write, over a base that is an older item of its row, or none; where the
-- table isn't eventual, over the one before it; a client's numbers on a row rise
pub record IsLawful (g : Scheme) (K : Known) (h : List Stored) : Type 0 where
  pub counted : Counts 0 h
  pub known : (i : Stored) → Among h i → Knows K i
  pub based : (i : Stored) → Among h i → IsBase h i.entry.row i.entry.base
  pub over : g ≢ Eventual → (i o : Stored) → Among h i → Among h o → o.entry.row ≡ i.entry.row
      → o.entry.version < i.entry.version
      → o.entry.version ≤ i.entry.base
  pub rises : (i o : Stored) → Among h i → Among h o → i.entry.client ≡ o.entry.client → i.entry.row ≡ o.entry.row
      → i.entry.version < o.entry.version → i.entry.number < o.entry.number

-- the item that may come next
pub record IsNext (g : Scheme) (K : Known) (h : List Stored) (i : Stored) : Type 0 where
  pub next : i.entry.version ≡ length h + 1
  pub known : Knows K i
  pub based : IsBase h i.entry.row i.entry.base
  pub over : g ≢ Eventual → i.entry.base ≡ latest h i.entry.row
  pub rises : (o : Stored) → Among h o → o.entry.client ≡ i.entry.client → o.entry.row ≡ i.entry.row
      → o.entry.number < i.entry.number

-- ---- what is told and sent

-- of a table of this number: a saying tells the next item, or nothing; told again, it may tell an item again
abbrev pub Tells : Scheme → ℕ → Known → List Stored → Bool → Saying → List Stored → Type 0
Tells g table K h again SaysNothing later = later ≡ h
Tells g table K h again (SaysEntry number entry) later =
    (number ≡ table)
    × (((i : Stored) × (i.entry ≡ entry) × IsNext g K h i × (later ≡ h ++ i ∷ []))
    ⊎ ((again ≡ true) × (later ≡ h) × ((i : Stored) × Among h i × (i.entry ≡ entry))))
Tells g table K h again (SaysBack number version) later =
    (number ≡ table) × (version ≡ length h + 1) × (later ≡ h)
Tells g table K h again other later = ⊥

abbrev pub TellsAll : Scheme → ℕ → Known → List Stored → List Fact → List Stored → Type 0
TellsAll g table K h [] later = later ≡ h
TellsAll g table K h (fact ∷ more) later =
    (middle : List Stored) × Tells g table K h (may_repeat fact) (saying fact) middle
    × TellsAll g table K middle more later

-- what leads to a client: the client itself, or a gateway
abbrev pub IsWayTo : ℕ → Node → Type 0
IsWayTo client (nodes.Client number) = number ≡ client
IsWayTo client (nodes.Gate number) = Unit {0}
IsWayTo client (nodes.Store number) = ⊥

abbrev pub IsWayBy : ℕ → Option Node → Type 0
IsWayBy client None = ⊥
IsWayBy client (Some node) = IsWayTo client node

-- a write that comes too late for good: it was sent over a base below the row's last item, and has no item
pub record IsLate (K : Known) (h : List Stored) (client : ℕ) (row : List ℕ) (number last : ℕ) : Type 0 where
  pub base : ℕ
  pub content : Content
  pub known : K client row number base content
  pub below : base < last
  pub item : Stored
  pub is : IsItemAt h row last item
  pub none : (i : Stored) → Among h i → i.entry.client ≡ client → i.entry.row ≡ row → i.entry.number ≢ number

abbrev pub IsOutcome : Scheme → Known → List Stored → Response → Outcome → Type 0
IsOutcome g K h response (messages.Accepted version) =
    (i : Stored) × IsItemOf h response.client response.number response.row version i
IsOutcome g K h response (messages.Again version) =
    (i : Stored) × IsItemOf h response.client response.number response.row version i
IsOutcome g K h response (messages.Late last) = Unit {0}
IsOutcome g K h response (messages.Stale last) =
    (g ≡ Strong) × IsLate K h response.client response.row response.number last
IsOutcome g K h response (messages.Conflict last) =
    (g ≡ Causal) × IsLate K h response.client response.row response.number last
IsOutcome g K h response messages.NeedWhole = Unit {0}

abbrev pub IsHeader : List Stored → Pulled → Option Header → Type 0
IsHeader h pulled None = Unit {0}
IsHeader h pulled (Some header) =
    IsChange pulled.client h pulled.from pulled.to header × (pulled.from < pulled.to)

-- a row for a client is an item's, with the client's last pair on the row up to it
abbrev pub IsRowFor : ℕ → List Stored → Header → Type 0
IsRowFor client h header =
    (i : Stored) × IsItemAt h header.row header.version i × (i.content ≡ header.content)
    × IsYours client h header.row header.version header.yours

abbrev pub IsTornHeader : ℕ → List Stored → Option Header → Type 0
IsTornHeader client h None = Unit {0}
IsTornHeader client h (Some header) = IsRowFor client h header

abbrev pub IsAnswer : Scheme → ℕ → Known → List Stored → Option Node → Message → Type 0
IsAnswer g table K h to (SyncRequest request) = ⊥
IsAnswer g table K h to (PullRequest pull) = ⊥
IsAnswer g table K h to (SyncResponse response) =
    (response.table ≡ table) × IsWayBy response.client to × IsOutcome g K h response response.outcome
IsAnswer g table K h to (PullResponse pulled) =
    (pulled.table ≡ table) × IsWayBy pulled.client to × IsHeader h pulled pulled.header
IsAnswer g table K h to (TornRowRequest torn) = ⊥
IsAnswer g table K h to (TornRowResponse answer) =
    (answer.table ≡ table) × IsWayBy answer.client to × IsTornHeader answer.client h answer.header

abbrev pub Answers : Scheme → ℕ → Known → List Stored → List Send → Type 0
Answers g table K h [] = Unit {0}
Answers g table K h (send ∷ more) = IsAnswer g table K h send.to send.message × Answers g table K h more

-- ---- the part

-- the items are those told, and the pending entry is the next, or one of them
pub record IsTold (h : List Stored) (d : StoreDisk) : Type 0 where
  pub items : d.items ≡ h
  pub open_entry : (i : Stored) → d.pending ≡ Some i
      → (i.entry.version ≡ length h + 1) ⊎ ((o : Stored) × Among h o × (o.entry.version ≡ i.entry.version))

-- the items are those told and the pending one, which is the next
pub record IsUntold (g : Scheme) (K : Known) (h : List Stored) (d : StoreDisk) : Type 0 where
  pub item : Stored
  pub pending : d.pending ≡ Some item
  pub items : d.items ≡ h ++ item ∷ []
  pub next : IsNext g K h item

-- what a crash may leave
abbrev pub IsResting : Scheme → Known → List Stored → StoreDisk → Type 0
IsResting g K h d = IsTold h d ⊎ IsUntold g K h d

-- an agenda that goes well from here: the items are those told; a crash may come before the write at its head or behind
-- it; what it tells and sends is so, and the rest goes well from there
abbrev pub Runs : Scheme → ℕ → Known → List Stored → StoreDisk → List StoreTask → Type 0
Runs g table K h d [] = IsTold h d × (d.pending ≡ None)
Runs g table K h d (task ∷ more) =
    IsTold h d × IsResting g K h (changed d task.change)
    × ((later : List Stored) × TellsAll g table K h task.facts later × Answers g table K later task.sends
    × Runs g table K later (changed d task.change) more)

abbrev pub IsAt : Scheme → ℕ → Known → List Stored → StoreDisk → Option (List StoreTask) → Type 0
IsAt g table K h d None = IsResting g K h d
IsAt g table K h d (Some agenda) = Runs g table K h d agenda

pub record StorePart (g : Scheme) (table : ℕ) (K : Known) (h : List Stored) (s : TableStore) : Type 0 where
  pub lawful : IsLawful g K h
  pub state : IsAt g table K h s.disk s.agenda

-- what is known of what comes: a request of a known write, over a base, from where its client is reached
pub record IsAsked (table : ℕ) (K : Known) (h : List Stored) (from : Node) (request : Request) : Type 0 where
  pub table_is : request.table ≡ table
  pub way : IsWayTo request.client from
  pub known : K request.client request.row request.number request.base request.content
  pub positive : 1 ≤ request.number
  pub based : IsBase h request.row request.base

abbrev pub IsMessage : ℕ → Known → List Stored → Node → Message → Type 0
IsMessage table K h from (SyncRequest request) = IsAsked table K h from request
IsMessage table K h from (PullRequest pull) = (pull.table ≡ table) × IsWayTo pull.client from
IsMessage table K h from (TornRowRequest torn) = (torn.table ≡ table) × IsWayTo torn.client from
IsMessage table K h from other = Unit {0}

abbrev pub IsFair : ℕ → Known → List Stored → StoreMove → Type 0
IsFair table K h (Take from message) = IsMessage table K h from message
IsFair table K h other = Unit {0}

-- THE LAW of one move
pub record StoreLaw (g : Scheme) (table : ℕ) (K : Known) (h : List Stored) (s : StoreStep) : Type 0 where
  pub later : List Stored
  pub facts : TellsAll g table K h s.facts later
  pub sends : Answers g table K later s.sends
  pub part : StorePart g table K later s.store
