-- What holds of a client c beside the items `h` of each table, what it has sent, and what its own lines say, `t`. `g`
-- is the scheme of each table.
use Rattle.std.specs.Prelude.{◌≡◌, ◌≢◌, ◌⊎◌, ℕ, Bool, true, false, ◌+◌, ◌≤◌, ◌<◌, List, [], ◌∷◌, ◌++◌, length}
use Rattle.std.specs.Prelude.{Option, Some, None, option_map}
use Rattle.std.specs.declared.cmp.Ordering.TheVariants.{Less}
use Rattle.row_value.specs.declared.schema.Scheme.{Scheme}
use Rattle.row_value.specs.declared.schema.Scheme.TheVariants.{Strong, Causal, Eventual}
use Rattle.table_model.specs.declared.line.Write.{Write}
use Rattle.step_tables.specs.Slots.{Main}
use Rattle.step_tables.specs.Slots.{InFlight}
use Rattle.step_tables.specs.Slots.{Shadow}
use Rattle.step_tables.specs.Store.{Stored}
use Rattle.step_tables.specs.Client.{row_cmp, version_in}
use Rattle.step_tables.specs.Facts.{Fact, Answer, Shown}
use Rattle.step_tables.specs.Facts as facts
use Rattle.step_tables.specs.Members.{Among}
use Rattle.step_tables.specs.Messages.{Request, Response, Pull, Pulled, Header, Outcome, Message, Send, SyncRequest}
use Rattle.step_tables.specs.Messages.{SyncResponse, PullRequest, PullResponse, TornRowRequest, TornRowResponse}
use Rattle.step_tables.specs.Messages as messages
use Rattle.step_tables.specs.Sayings.{Saying, SaysNothing, SaysWrite, SaysEntry, SaysBack, SaysAck, SaysLoss}
use Rattle.step_tables.specs.Sayings.{SaysConflict, SaysResolved, SaysRead, SaysPosition, saying, RowHeard, Heard, own}
use Rattle.step_tables.specs.Sayings.{own_all, write_of, open_of, open_in}
use Rattle.step_tables.specs.ClientMoves.{Slots, TableDisk, Plan, ClientDisk, ClientTask, Client, ClientStep}
use Rattle.step_tables.specs.ClientMoves.{TableChange, Opens, Closes}
use Rattle.step_tables.specs.ClientMoves.{ClientMove, Take, Show, Alter, seen, applied, changed, told, retold}
use Rattle.step_tables.specs.ClientMoves.{slots_of, table_at, position_of, top, shown_in}
use Rattle.step_tables.specs.Items.{latest, IsItemOf, IsItemAt, IsBase, IsYours, IsChange}
use Rattle.world_tables.specs.Again.{may_repeat, IsUp}

-- the items of each table
abbrev pub Items : Type 0
Items = ℕ → List Stored

-- a request of a write, over a base
pub record Sending : Type 0 where
  pub table : ℕ
  pub row : List ℕ
  pub number : ℕ
  pub base : ℕ

abbrev pub sending_in : Message → List Sending
sending_in (SyncRequest request) =
    record { table = request.table; row = request.row; number = request.number; base = request.base } ∷ []
sending_in (SyncResponse response) = []
sending_in (PullRequest pull) = []
sending_in (PullResponse pulled) = []
sending_in (TornRowRequest torn) = []
sending_in (TornRowResponse answer) = []

-- the requests among messages
abbrev pub sendings : List Send → List Sending
sendings [] = []
sendings (send ∷ more) = sending_in send.message ++ sendings more

-- ---- what a move of c may use of the items, and of what was told

-- what is known of a write of c whose number is none yet
pub record IsFresh (x : RowHeard) (number : ℕ) : Type 0 where
  pub acked : x.acked number ≡ false
  pub lost : x.lost number ≡ false
  pub resolved : x.resolved number ≡ false
  pub conflict : x.conflict number ≡ None

-- of the items of one table
pub record OfTable (g : Scheme) (c : ℕ) (h : List Stored) (table : ℕ) (writes : List Write)
    (sent : List Sending) : Type 0 where
  pub first : (i : Stored) → Among h i → 1 ≤ i.entry.version
  pub up_to : (i : Stored) → Among h i → i.entry.version ≤ length h
  pub one : (i o : Stored) → Among h i → Among h o → i.entry.version ≡ o.entry.version → i ≡ o
  pub last : (i : Stored) → Among h i → i.entry.version ≤ latest h i.entry.row
  pub over : g ≢ Eventual → (i o : Stored) → Among h i → Among h o → o.entry.row ≡ i.entry.row
      → o.entry.version < i.entry.version
      → o.entry.version ≤ i.entry.base
  pub wrote : (i : Stored) → Among h i → i.entry.client ≡ c
      → (w : Write) × (write_of i.entry.number writes ≡ Some w) × (w.table ≡ table) × (w.row ≡ i.entry.row)
      × (w.content ≡ i.content)
  pub sends : (i : Stored) → Among h i → i.entry.client ≡ c
      → Among sent (record { table = table; row = i.entry.row; number = i.entry.number; base = i.entry.base })

pub record Ours (g : ℕ → Scheme) (c : ℕ) (h : Items) (sent : List Sending) (t : Heard) : Type 0 where
  pub numbered : (n : ℕ) (w : Write) → write_of n t.writes ≡ Some w
      → (w.number ≡ n) × (w.client ≡ c) × (1 ≤ n) × (n ≤ length t.writes)
  pub fresh : (table : ℕ) (row : List ℕ) (n : ℕ) → length t.writes < n → IsFresh (t.at table row) n
  pub requested : (r : Sending) → Among sent r → (w : Write) × (write_of r.number t.writes ≡ Some w)
      × (w.table ≡ r.table) × (w.row ≡ r.row)
  pub of_table : (table : ℕ) → OfTable (g table) c (h table) table t.writes sent

-- ---- a row

-- a row's version and content are an item's
abbrev pub IsContent : List Stored → List ℕ → Shadow → Type 0
IsContent h row x = (i : Stored) × IsItemAt h row x.version i × (i.content ≡ x.content)

-- THE SCHEME'S RULE of a request. Causal: between its write's read position and its base the row has entries of c
-- alone, with lower numbers. Strong: both are one
abbrev pub Spans : Scheme → ℕ → ℕ → List Stored → List ℕ → ℕ → ℕ → Type 0
Spans Causal c n h row read base =
    (i : Stored) → Among h i → i.entry.row ≡ row → read < i.entry.version → i.entry.version ≤ base
    → (i.entry.client ≡ c) × (i.entry.number < n)
Spans Strong c n h row read base = read ≡ base
Spans Eventual c n h row read base = Unit {0}

-- the items of a write of c on a row stand above a version
abbrev pub IsAbove : ℕ → List Stored → List ℕ → ℕ → ℕ → Type 0
IsAbove c h row n version =
    (i : Stored) → Among h i → i.entry.client ≡ c → i.entry.row ≡ row → i.entry.number ≡ n → version < i.entry.version

-- Main as the write that the lines tell
abbrev pub write_for : ℕ → ℕ → List ℕ → Main → Write
write_for c table row m =
    record { client = c; number = m.number; table = table; row = row; read = m.read; content = m.content }

abbrev pub main_for : Write → Main
main_for w = record { number = w.number; read = w.read; content = w.content }

-- what waits for its answer: a write over a base that isn't above Shadow's version; it has no item up to it
pub record IsOut (g : Scheme) (c : ℕ) (h : List Stored) (table : ℕ) (row : List ℕ) (slots : Slots) (writes : List Write)
    (x : RowHeard) (o : InFlight) : Type 0 where
  pub written : write_of o.number writes
      ≡ Some (write_for c table row (record { number = o.number; read = o.read; content = o.content }))
  pub low : o.base ≤ version_in slots.shadow
  pub base : IsBase h row o.base
  pub spans : Spans g c o.number h row o.read o.base
  pub later : IsAbove c h row o.number (version_in slots.shadow)
  pub clear : x.conflict o.number ≡ None
  pub unlost : x.lost o.number ≡ false
  pub unacked : x.acked o.number ≡ false
  pub free : slots.conflict ≡ None
  pub order : (m : Main) → slots.main ≡ Some m → o.number ≤ m.number

-- a conflict: an item above Shadow, beside a write that has no item up to it
pub record IsConflict (g : Scheme) (c : ℕ) (h : List Stored) (row : List ℕ) (slots : Slots) (x : RowHeard)
    (y : Shadow) : Type 0 where
  pub causal : g ≡ Causal
  pub content : IsContent h row y
  pub above : version_in slots.shadow < y.version
  pub main : Main
  pub in_main : slots.main ≡ Some main
  pub named : x.conflict main.number ≡ Some y.version
  pub later : IsAbove c h row main.number y.version
  pub idle : slots.out ≡ None

-- the slots of a row beside the items, what was written and sent, and what was told as lost
pub record Fit (g : Scheme) (c : ℕ) (h : List Stored) (table : ℕ) (row : List ℕ) (slots : Slots) (writes : List Write)
    (x : RowHeard) (sent : List Sending) : Type 0 where
  pub mine : (m : Main) → slots.main ≡ Some m → (write_of m.number writes ≡ Some (write_for c table row m))
      × (m.read ≤ version_in slots.shadow)
  pub clear : (m : Main) → slots.main ≡ Some m → (x.lost m.number ≡ false)
      × (slots.conflict ≡ None → x.conflict m.number ≡ None)
  pub weak : (m : Main) → slots.main ≡ Some m → g ≢ Strong
  pub shadow : (y : Shadow) → slots.shadow ≡ Some y → IsContent h row y
  pub low : version_in slots.shadow ≤ length h
  pub out : (o : InFlight) → slots.out ≡ Some o → IsOut g c h table row slots writes x o
  pub conflict : (y : Shadow) → slots.conflict ≡ Some y → IsConflict g c h row slots x y
  pub own : g ≡ Causal → (m : Main) → slots.main ≡ Some m → slots.conflict ≡ None → (i : Stored) → Among h i
      → i.entry.row ≡ row
      → m.read < i.entry.version → i.entry.version ≤ version_in slots.shadow → i.entry.client ≡ c
  pub lower : (r : Sending) → Among sent r → r.table ≡ table → r.row ≡ row
      → (r.number ≤ length writes) × (r.base ≤ version_in slots.shadow)
  pub sent_out : (o : InFlight) (r : Sending) → slots.out ≡ Some o → Among sent r → r.table ≡ table → r.row ≡ row
      → (r.number ≤ o.number) × (r.number ≡ o.number → r.base ≡ o.base)
  pub unsent : (m : Main) (r : Sending) → slots.out ≡ None → slots.conflict ≡ None → slots.main ≡ Some m → Among sent r
      → r.table ≡ table → r.row ≡ row → r.number < m.number

-- the slots of a row show what the lines say of it
pub record RowTied (g : Scheme) (c : ℕ) (h : List Stored) (table : ℕ) (row : List ℕ) (slots : Slots)
    (writes : List Write) (x : RowHeard) (sent : List Sending) : Type 0 where
  pub fit : Fit g c h table row slots writes x sent
  pub main : slots.main ≡ option_map main_for (open_in g (open_of x))
  pub read : top slots.conflict slots.shadow ≡ x.read
  pub level : slots.conflict ≡ None → version_in slots.shadow ≡ x.shadow
  pub under : x.shadow ≤ x.read
  pub based : x.read ≤ length h

-- ---- a table, and the whole

-- the ids of the rows rise
unfoldable pub Rising : List (List ℕ × Slots) → Type 0
Rising [] = Unit {0}
Rising (entry ∷ rows) = ((other : List ℕ × Slots) → Among rows other → row_cmp entry.0 other.0 ≡ Less) × Rising rows

-- a position is at most the table's last version, and each row whose current version it covers is read at it
pub record TableTied (h : List Stored) (table : ℕ) (position : ℕ) (t : Heard) : Type 0 where
  pub told : position ≡ t.position table
  pub low : position ≤ length h
  pub covered : (row : List ℕ) → latest h row ≤ position → (t.at table row).read ≡ latest h row

-- an opened table has the scheme of its table, and its rows once each, in order
pub record IsOpened (g : Scheme) (opened : TableDisk) : Type 0 where
  pub scheme_is : opened.schema.scheme ≡ g
  pub rising : Rising opened.rows

pub record Tied (g : ℕ → Scheme) (c : ℕ) (h : Items) (sent : List Sending) (d : ClientDisk) (t : Heard) : Type 0 where
  pub last : d.last ≡ length t.writes
  pub rows : (table : ℕ) (row : List ℕ)
      → RowTied (g table) c (h table) table row (slots_of d table row) t.writes (t.at table row) sent
  pub tables : (table : ℕ) → TableTied (h table) table (position_of d table) t
  pub opened : (table : ℕ) (opened : TableDisk) → table_at d table ≡ Some opened → IsOpened (g table) opened

-- ---- what is told and sent

-- a write that comes too late for good: each request of it is over an older version than the row's last, and it has no
-- item
pub record IsLapsed (c : ℕ) (h : Items) (sent : List Sending) (n : ℕ) : Type 0 where
  pub below : (r : Sending) → Among sent r → r.number ≡ n → r.base < latest (h r.table) r.row
  pub none : (table : ℕ) (i : Stored) → Among (h table) i → i.entry.client ≡ c → i.entry.number ≢ n

-- the item that comes next in a table is another client's, or is of a write that was told on its table and row, and,
-- where the table isn't eventual, was sent over the row's last version
pub record Fits (g : ℕ → Scheme) (c : ℕ) (h : Items) (sent : List Sending) (t : Heard) (table : ℕ)
    (i : Stored) : Type 0 where
  pub next : i.entry.version ≡ length (h table) + 1
  pub bound : (row : List ℕ) → latest (h table) row ≤ length (h table)
  pub written : i.entry.client ≡ c → (w : Write) × (write_of i.entry.number t.writes ≡ Some w) × (w.table ≡ table)
      × (w.row ≡ i.entry.row)
  pub over : g table ≢ Eventual → i.entry.client ≡ c
      → Among sent (record {
        table = table;
        row = i.entry.row;
        number = i.entry.number;
        base = latest (h table) i.entry.row;
      })

-- an item above the write's read position, and no item of the write, ever
pub record IsPassed (c : ℕ) (h : Items) (sent : List Sending) (t : Heard) (n table : ℕ) (row : List ℕ)
    (version : ℕ) : Type 0 where
  pub write : Write
  pub written : write_of n t.writes ≡ Some write
  pub by : write.client ≡ c
  pub table_is : write.table ≡ table
  pub row_is : write.row ≡ row
  pub above : write.read < version
  pub item : Stored
  pub stands : IsItemAt (h table) row version item
  pub lapsed : IsLapsed c h sent n

-- what c may say now, or tell again
abbrev pub IsOwn : (ℕ → Scheme) → ℕ → Items → List Sending → Heard → Bool → Saying → Type 0
IsOwn g c h sent t again SaysNothing = Unit {0}
IsOwn g c h sent t again (SaysWrite write) =
    (write.client ≡ c)
    × (((write.number ≡ length t.writes + 1) × (write.read ≡ (t.at write.table write.row).shadow))
    ⊎ ((again ≡ true) × (write_of write.number t.writes ≡ Some write)))
IsOwn g c h sent t again (SaysEntry table entry) = ⊥
IsOwn g c h sent t again (SaysBack table version) = ⊥
IsOwn g c h sent t again (SaysAck client n table row version) =
    (client ≡ c) × ((i : Stored) × IsItemOf (h table) c n row version i)
    × ((((t.at table row).acked n ≡ false) × ((t.at table row).read < version))
    ⊎ ((again ≡ true) × ((t.at table row).acked n ≡ true)))
IsOwn g c h sent t again (SaysLoss client n table row version) =
    (client ≡ c) × (g table ≡ Strong) × IsPassed c h sent t n table row version
    × (((t.at table row).lost n ≡ false) ⊎ ((again ≡ true) × ((t.at table row).lost n ≡ true)))
IsOwn g c h sent t again (SaysConflict client n table row version) =
    (client ≡ c) × (g table ≡ Causal)
    × ((p : IsPassed c h sent t n table row version) × (p.item.entry.client ≢ c))
    × IsUp again (t.at table row).read version
IsOwn g c h sent t again (SaysResolved client n table row version) =
    (client ≡ c) × ((t.at table row).conflict n ≡ Some version)
    × (((w : Write) × (open_of (t.at table row) ≡ Some w) × (w.number ≡ n))
    ⊎ ((again ≡ true) × ((t.at table row).resolved n ≡ true)))
    × ((t.at table row).read ≤ version)
IsOwn g c h sent t again (SaysRead client table row version) =
    (client ≡ c)
    × ((i : Stored) × IsItemAt (h table) row version i
    × (IsUp again (t.at table row).read version ⊎ ((i.entry.client ≡ c) × ((t.at table row).read ≡ version))))
IsOwn g c h sent t again (SaysPosition client table position) =
    (client ≡ c) × IsUp again (t.position table) position
    × ((row : List ℕ) → latest (h table) row ≤ position → (t.at table row).read ≡ latest (h table) row)
    × (position ≤ length (h table))

abbrev pub AreOwn : (ℕ → Scheme) → ℕ → Items → List Sending → Heard → List Fact → Type 0
AreOwn g c h sent t [] = Unit {0}
AreOwn g c h sent t (fact ∷ more) =
    IsOwn g c h sent t (may_repeat fact) (saying fact) × AreOwn g c h sent (own t (saying fact)) more

-- what is said of a request
pub record IsSending (g : ℕ → Scheme) (c : ℕ) (h : Items) (t : Heard) (r : Request) : Type 0 where
  pub client_is : r.client ≡ c
  pub write : Write
  pub written : write_of r.number t.writes ≡ Some write
  pub table_is : write.table ≡ r.table
  pub row_is : write.row ≡ r.row
  pub content_is : write.content ≡ r.content
  pub base : IsBase (h r.table) r.row r.base
  pub spans : Spans (g r.table) c r.number (h r.table) r.row write.read r.base
  pub low : r.base ≤ length (h r.table)
  pub clear : (t.at r.table r.row).conflict r.number ≡ None
  pub unlost : (t.at r.table r.row).lost r.number ≡ false

abbrev pub IsRequest : (ℕ → Scheme) → ℕ → Items → Heard → Send → Message → Type 0
IsRequest g c h t send (SyncRequest request) = (send.to ≡ None) × IsSending g c h t request
IsRequest g c h t send (PullRequest pull) = (send.to ≡ None) × (pull.client ≡ c)
IsRequest g c h t send (SyncResponse response) = ⊥
IsRequest g c h t send (PullResponse pulled) = ⊥
IsRequest g c h t send (TornRowRequest torn) = (send.to ≡ None) × (torn.client ≡ c)
IsRequest g c h t send (TornRowResponse answer) = ⊥

abbrev pub Requests : (ℕ → Scheme) → ℕ → Items → Heard → List Send → Type 0
Requests g c h t [] = Unit {0}
Requests g c h t (send ∷ more) = IsRequest g c h t send send.message × Requests g c h t more

-- ---- the part

-- a committed plan: a start may tell its facts now, and once more then, and behind them the slots show what is said.
-- Whether they were told already isn't asked
pub record IsPlan (g : ℕ → Scheme) (c : ℕ) (h : Items) (sent : List Sending) (d : ClientDisk) (t : Heard)
    (p : Plan) : Type 0 where
  pub now : AreOwn g c h sent t (retold p)
  pub again : AreOwn g c h sent (own_all t (told p)) (retold p)
  pub same : own_all (own_all t (told p)) (told p) ≡ own_all t (told p)
  pub tied : Tied g c h sent (applied p d) (own_all t (told p))

-- a plan whose facts weren't told yet
pub record IsNewPlan (g : ℕ → Scheme) (c : ℕ) (h : Items) (sent : List Sending) (d : ClientDisk) (t : Heard)
    (p : Plan) : Type 0 where
  pub first : AreOwn g c h sent t (told p)
  pub plan : IsPlan g c h sent d t p

abbrev pub RestsOn : (ℕ → Scheme) → ℕ → Items → List Sending → ClientDisk → Heard → Option Plan → Type 0
RestsOn g c h sent d t None = Tied g c h sent d t
RestsOn g c h sent d t (Some p) = IsPlan g c h sent d t p

-- a client at rest, as a crash may leave it
abbrev pub Rests : (ℕ → Scheme) → ℕ → Items → List Sending → ClientDisk → Heard → Type 0
Rests g c h sent d t = RestsOn g c h sent d t d.plan

-- an agenda that goes well from here: the client shows what its lines say; a crash may come before the write at its
-- head or behind it; what it tells and sends is so, and the rest goes well from there
abbrev pub Runs : (ℕ → Scheme) → ℕ → Items → List Sending → ClientDisk → Heard → List ClientTask → Type 0
Runs g c h sent d t [] = Tied g c h sent d t × (d.plan ≡ None)
Runs g c h sent d t (task ∷ more) =
    Tied g c h sent (seen d) t × Rests g c h sent d t × Rests g c h sent (changed d task.change) t
    × AreOwn g c h sent t task.facts × Requests g c h (own_all t task.facts) task.sends
    × Runs g c h (sent ++ sendings task.sends) (changed d task.change) (own_all t task.facts) more

abbrev pub IsAt : (ℕ → Scheme) → ℕ → Items → List Sending → ClientDisk → Heard → Option (List ClientTask) → Type 0
IsAt g c h sent d t None = Rests g c h sent d t
IsAt g c h sent d t (Some agenda) = Runs g c h sent d t agenda

abbrev pub ClientPart : (ℕ → Scheme) → ℕ → Items → List Sending → Heard → Client → Type 0
ClientPart g c h sent t s = IsAt g c h sent s.disk t s.agenda

-- ---- what comes

-- a refused write: it was sent over a base below an item of the row, and has no item
pub record IsRefused (c : ℕ) (h : Items) (sent : List Sending) (n table : ℕ) (row : List ℕ) (version : ℕ) : Type 0 where
  pub base : ℕ
  pub was_sent : Among sent (record { table = table; row = row; number = n; base = base })
  pub below : base < version
  pub item : Stored
  pub stands : IsItemAt (h table) row version item
  pub none : (other : ℕ) (i : Stored) → Among (h other) i → i.entry.client ≡ c → i.entry.number ≢ n

abbrev pub IsOutcome : (ℕ → Scheme) → ℕ → Items → List Sending → Response → Outcome → Type 0
IsOutcome g c h sent r (messages.Accepted version) = (i : Stored) × IsItemOf (h r.table) c r.number r.row version i
IsOutcome g c h sent r (messages.Again version) = (i : Stored) × IsItemOf (h r.table) c r.number r.row version i
IsOutcome g c h sent r (messages.Late last) = Unit {0}
IsOutcome g c h sent r (messages.Stale last) = (g r.table ≡ Strong) × IsRefused c h sent r.number r.table r.row last
IsOutcome g c h sent r (messages.Conflict last) = Unit {0}
IsOutcome g c h sent r messages.NeedWhole = Unit {0}

abbrev pub IsHeader : ℕ → Items → Pulled → Option Header → Type 0
IsHeader c h pulled None = Unit {0}
IsHeader c h pulled (Some header) =
    IsChange c (h pulled.table) pulled.from pulled.to header × (pulled.from < pulled.to)

-- a row for a client is an item's, with the client's last pair on the row up to it
abbrev pub IsRowFor : ℕ → List Stored → Header → Type 0
IsRowFor client h header =
    (i : Stored) × IsItemAt h header.row header.version i × (i.content ≡ header.content)
    × IsYours client h header.row header.version header.yours

abbrev pub IsTornHeader : ℕ → List Stored → Option Header → Type 0
IsTornHeader client h None = Unit {0}
IsTornHeader client h (Some header) = IsRowFor client h header

abbrev pub IsMessage : (ℕ → Scheme) → ℕ → Items → List Sending → Message → Type 0
IsMessage g c h sent (SyncRequest request) = Unit {0}
IsMessage g c h sent (PullRequest pull) = Unit {0}
IsMessage g c h sent (SyncResponse response) = IsOutcome g c h sent response response.outcome
IsMessage g c h sent (PullResponse pulled) = IsHeader c h pulled pulled.header
IsMessage g c h sent (TornRowRequest torn) = Unit {0}
IsMessage g c h sent (TornRowResponse answer) = IsTornHeader c (h answer.table) answer.header

-- a table that is opened has the scheme of its table
abbrev pub IsFairChange : Scheme → TableChange → Type 0
IsFairChange g (Opens schema) = schema.scheme ≡ g
IsFairChange g Closes = Unit {0}

abbrev pub IsFair : (ℕ → Scheme) → ℕ → Items → List Sending → ClientMove → Type 0
IsFair g c h sent (Alter table change) = IsFairChange (g table) change
IsFair g c h sent (Take message) = IsMessage g c h sent message
IsFair g c h sent other = Unit {0}

-- ---- THE LAW of one move

-- an answer that shows a row shows what slots do that are tied to the lines; so does one that nothing is shown
abbrev pub ShowsRow : (ℕ → Scheme) → ℕ → Items → List Sending → Heard → ℕ → List ℕ → Option Shown → Type 0
ShowsRow g c h sent t table row what =
    (slots : Slots) × RowTied (g table) c (h table) table row slots t.writes (t.at table row) sent
    × (what ≡ shown_in slots.main slots.conflict slots.shadow)

abbrev pub IsShown : (ℕ → Scheme) → ℕ → Items → List Sending → Heard → ℕ → List ℕ → Answer → Type 0
IsShown g c h sent t table row (facts.Shows what) = ShowsRow g c h sent t table row (Some what)
IsShown g c h sent t table row (facts.Refuses facts.NoRow) = ShowsRow g c h sent t table row None
IsShown g c h sent t table row other = Unit {0}

abbrev pub IsAnswer : (ℕ → Scheme) → ℕ → Items → List Sending → Heard → ClientMove → Answer → Type 0
IsAnswer g c h sent t (Show table row) answer = IsShown g c h sent t table row answer
IsAnswer g c h sent t other answer = Unit {0}

pub record ClientLaw (g : ℕ → Scheme) (c : ℕ) (h : Items) (sent : List Sending) (t : Heard) (move : ClientMove)
    (s : ClientStep) : Type 0 where
  pub answer : IsAnswer g c h sent t move s.answer
  pub facts : AreOwn g c h sent t s.facts
  pub sends : Requests g c h (own_all t s.facts) s.sends
  pub part : ClientPart g c h (sent ++ sendings s.sends) (own_all t s.facts) s.client
