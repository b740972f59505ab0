-- What every transcript keeps, said of each line by what the lines before it say.
use Rattle.std.specs.Prelude.{◌≡◌, ◌≢◌, ◌⊎◌, ℕ, ◌+◌, ◌<◌, ◌≤◌, ◌==◌, Bool, true, false, List, [], ◌∷◌, ◌++◌, length}
use Rattle.std.specs.Prelude.{map, Option, Some, None, option_map, if◌then◌else◌, MatchBool}
use Rattle.std.specs.List.{find}
use Rattle.std.specs.List.Sorted.{IsStrictlySortedBy}
use Rattle.row_value.specs.declared.content.Content.{Content}
use Rattle.row_value.specs.declared.schema.Scheme.{Scheme}
use Rattle.row_value.specs.declared.schema.Scheme.TheVariants.{Strong, Causal, Eventual}
use Rattle.table_model.specs.declared.entry.Entry.{Entry}
use Rattle.table_model.specs.declared.event.Event.{Event}
use Rattle.table_model.specs.declared.event.Event.TheVariants as events
use Rattle.table_model.specs.declared.line.Write.{Write}
use Rattle.table_model.specs.History.{current}
use Rattle.table_model.specs.declared.line.RowPair.{RowPair}
use Rattle.step_tables.specs.Client.{row_cmp}
use Rattle.step_tables.specs.Facts.{Fact, Answer, Shown, Line, AnswerLine, EntryLine, PairLine, FactLine}
use Rattle.step_tables.specs.Facts as facts
use Rattle.step_tables.specs.Sums.{sum_answer}
use Rattle.step_tables.specs.Members.{Among}
use Rattle.step_tables.specs.Sayings.{Saying, SaysNothing, SaysWrite, SaysEntry, SaysBack, SaysAck, SaysLoss}
use Rattle.step_tables.specs.Sayings.{SaysConflict, SaysResolved, SaysRead, SaysPosition, says, RowHeard, Heard, Said}
use Rattle.step_tables.specs.Sayings.{nothing_said, hear, hear_lines, write_of, open_of, open_in}
use Rattle.world_tables.specs.Again.{is_again, IsUp}
use Rattle.world_tables.specs.World.{entry_lines}
use Rattle.world_tables.specs.Turns.{Turn}

-- ---- the scheme of a table: that of its first declaration

abbrev pub declared_by : Event → ℕ → Scheme → Scheme
declared_by (events.Table number schema) table rest = if number == table then schema.scheme else rest
declared_by (events.Draft number schema) table rest = if number == table then schema.scheme else rest
declared_by other table rest = rest

abbrev pub scheme_for : List Event → ℕ → Scheme
scheme_for [] table = Eventual
scheme_for (event ∷ more) table = declared_by event table (scheme_for more table)

-- ---- entries and writes in what was said

-- the write of this number of a client stands in the lines, on this row of this table
pub record IsWrite (s : Said) (client number table : ℕ) (row : List ℕ) (write : Write) : Type 0 where
  pub told : write_of number (s.heard client).writes ≡ Some write
  pub by : write.client ≡ client
  pub table_is : write.table ≡ table
  pub row_is : write.row ≡ row

-- an entry of a row at a version
pub record IsEntryAt (s : Said) (table : ℕ) (row : List ℕ) (version : ℕ) (entry : Entry) : Type 0 where
  pub stands : Among (s.history table) entry
  pub row_is : entry.row ≡ row
  pub version_is : entry.version ≡ version

-- no entry of a table is this write
abbrev pub HasNoEntry : Said → ℕ → ℕ → Type 0
HasNoEntry s client number = (table : ℕ) (entry : Entry) → Among (s.history table) entry → entry.client ≡ client
    → entry.number ≢ number

-- ---- strong, causal and eventual entries

-- of a base and of the read position of the entry's write. Strong: both are the row's current version. Causal: the base
-- is, and each entry of the row behind the read position is the same client's, with a lower number. Eventual: the base
-- is 0 or the version of an earlier entry of the row
abbrev pub IsOver : Scheme → List Entry → ℕ → Entry → Type 0
IsOver Strong history read entry = (entry.base ≡ current history entry.row) × (read ≡ current history entry.row)
IsOver Causal history read entry =
    (entry.base ≡ current history entry.row)
    × ((o : Entry) → Among history o → o.row ≡ entry.row → read < o.version
    → (o.client ≡ entry.client) × (o.number < entry.number))
IsOver Eventual history read entry =
    (entry.base ≡ 0) ⊎ ((o : Entry) × Among history o × (o.row ≡ entry.row) × (o.version ≡ entry.base))

-- a new entry: the next version, of a write told before, on its table and row, which has no other entry, and wasn't
-- told as refused or in conflict; the numbers of one client's entries on a row rise
pub record IsNew (g : ℕ → Scheme) (s : Said) (table : ℕ) (entry : Entry) : Type 0 where
  pub next : entry.version ≡ length (s.history table) + 1
  pub write : Write
  pub written : IsWrite s entry.client entry.number table entry.row write
  pub once : HasNoEntry s entry.client entry.number
  pub rises : (o : Entry) → Among (s.history table) o → o.client ≡ entry.client → o.row ≡ entry.row
      → o.number < entry.number
  pub over : IsOver (g table) (s.history table) write.read entry
  pub unlost : ((s.heard entry.client).at table entry.row).lost entry.number ≡ false
  pub standing : ((s.heard entry.client).at table entry.row).conflict entry.number ≡ None

-- ---- conflicts and refusals

-- a write with an entry of the row above its read position, and with no entry of its own
pub record IsPassed (s : Said) (client number table : ℕ) (row : List ℕ) (version : ℕ) : Type 0 where
  pub write : Write
  pub written : IsWrite s client number table row write
  pub above : write.read < version
  pub entry : Entry
  pub stands : IsEntryAt s table row version entry
  pub none : HasNoEntry s client number

pub record IsMet (g : Scheme) (s : Said) (client number table : ℕ) (row : List ℕ) (version : ℕ) : Type 0 where
  pub causal : g ≡ Causal
  pub passed : IsPassed s client number table row version
  pub other : passed.entry.client ≢ client

-- ---- each line, by what it says, and by whether it may tell again what was told before

-- the client's last write on the row is open, and has this number
abbrev pub IsOpen : RowHeard → ℕ → Type 0
IsOpen x number = (write : Write) × (open_of x ≡ Some write) × (write.number ≡ number)

-- WRITE: the next of its client, over the version read. ENTRY: new. BACK: one above the last version. ACK: of an entry
-- of this write, which was not acknowledged, above what was read. LOSS: in a strong table, of a write that was not
-- refused. CONFLICT: in a causal one, above what was read. RESOLVED: beside the version in the write's last conflict,
-- while it is open, not below what was read. READ: an entry of the row, above what was read, but the client's own where
-- that was read already. POSITION: rises, and each row whose current version it covers has been read at it.
-- Told again, each may be what stands already
abbrev pub IsSaid : (ℕ → Scheme) → Said → Bool → Saying → Type 0
IsSaid g s again SaysNothing = Unit {0}
IsSaid g s again (SaysWrite write) =
    let t : Heard = s.heard write.client in
    ((write.number ≡ length t.writes + 1) × (write.read ≡ (t.at write.table write.row).shadow))
    ⊎ ((again ≡ true) × (write_of write.number t.writes ≡ Some write))
IsSaid g s again (SaysEntry table entry) =
    IsNew g s table entry ⊎ ((again ≡ true) × Among (s.history table) entry)
IsSaid g s again (SaysBack table version) = version ≡ length (s.history table) + 1
IsSaid g s again (SaysAck client number table row version) =
    let x : RowHeard = (s.heard client).at table row in
    ((entry : Entry) × IsEntryAt s table row version entry × (entry.client ≡ client) × (entry.number ≡ number))
    × (((x.acked number ≡ false) × (x.read < version)) ⊎ ((again ≡ true) × (x.acked number ≡ true)))
IsSaid g s again (SaysLoss client number table row latest) =
    let x : RowHeard = (s.heard client).at table row in
    (g table ≡ Strong) × IsPassed s client number table row latest
    × ((x.lost number ≡ false) ⊎ ((again ≡ true) × (x.lost number ≡ true)))
IsSaid g s again (SaysConflict client number table row version) =
    let x : RowHeard = (s.heard client).at table row in
    IsMet (g table) s client number table row version × IsUp again x.read version
IsSaid g s again (SaysResolved client number table row version) =
    let x : RowHeard = (s.heard client).at table row in
    (x.conflict number ≡ Some version) × (IsOpen x number ⊎ ((again ≡ true) × (x.resolved number ≡ true)))
    × (x.read ≤ version)
IsSaid g s again (SaysRead client table row version) =
    let x : RowHeard = (s.heard client).at table row in
    (entry : Entry) × IsEntryAt s table row version entry
    × (IsUp again x.read version ⊎ ((entry.client ≡ client) × (x.read ≡ version)))
IsSaid g s again (SaysPosition client table position) =
    let t : Heard = s.heard client in
    IsUp again (t.position table) position
    × ((row : List ℕ) → current (s.history table) row ≤ position
    → (t.at table row).read ≡ current (s.history table) row)

abbrev pub AreSaid : (ℕ → Scheme) → Said → List Line → Type 0
AreSaid g s [] = Unit {0}
AreSaid g s (line ∷ more) = IsSaid g s (is_again line) (says line) × AreSaid g (hear s (says line)) more

-- ---- what is shown

abbrev pub entry_at : ℕ → List Entry → Option Entry
entry_at version history = find (λ (entry : Entry). entry.version == version) history

abbrev pub content_of : Said → Option Entry → Option Content
content_of s None = None
content_of s (Some entry) =
    option_map (λ (write : Write). write.content) (write_of entry.number (s.heard entry.client).writes)

-- the content that a table's history has at a version: that of the entry's write
abbrev pub content_at : Said → ℕ → ℕ → Option Content
content_at s table version = content_of s (entry_at version (s.history table))

abbrev pub clean : ℕ → Option Content → Option Shown
clean version None = None
clean version (Some content) = Some (facts.Clean version content)

abbrev pub mine : Write → Option ℕ → Shown
mine write None = facts.Mine write.number write.content
mine write (Some version) = facts.Contended write.number version write.content

abbrev pub shown_by : Said → ℕ → RowHeard → Option Write → Option Shown
shown_by s table x (Some write) = Some (mine write (x.conflict write.number))
shown_by s table x None = clean x.shadow (content_at s table x.shadow)

-- what a client shows of a row: its open write, in a conflict where a line names one; else what it has read; else
-- nothing
abbrev pub shown_of : (ℕ → Scheme) → Said → ℕ → ℕ → List ℕ → Option Shown
shown_of g s client table row =
    let x : RowHeard = (s.heard client).at table row in shown_by s table x (open_in (g table) (open_of x))

abbrev pub IsShown : Option Shown → Answer → Type 0
IsShown what (facts.Shows shown) = what ≡ Some shown
IsShown what (facts.Refuses facts.NoRow) = what ≡ None
IsShown what other = Unit {0}

-- where a `show` would show this, or nothing, a `sum` shows it by digests, and says so exactly there
abbrev pub IsSum : Option Shown → Answer → Type 0
IsSum what (facts.Refuses facts.NoRow) = what ≡ None
IsSum what (facts.Refuses refusal) = Unit {0}
IsSum what answer = option_map sum_answer what ≡ Some answer

-- what the Store has of a row: its last entry with its content, and nothing where there is none
abbrev pub IsStored : Said → ℕ → List ℕ → Answer → Type 0
IsStored s table row (facts.Stores version content) =
    (0 < version) × (current (s.history table) row ≡ version) × (content_at s table version ≡ Some content)
IsStored s table row (facts.Refuses facts.NoRow) = current (s.history table) row ≡ 0
IsStored s table row other = Unit {0}

-- the rows that a client shows in a conflict, each once, with the write and the version that it is shown with
pub record ArePairs (g : ℕ → Scheme) (s : Said) (client table : ℕ) (counted : List Line) : Type 0 where
  pub pairs : List RowPair
  pub lines_are : counted ≡ map PairLine pairs
  pub rising : IsStrictlySortedBy row_cmp (map (λ (pair : RowPair). pair.row) pairs)
  pub shown : (pair : RowPair) → Among pairs pair
      → (content : Content)
      × (shown_of g s client table pair.row ≡ Some (facts.Contended pair.number pair.version content))
  pub all : (row : List ℕ) (number version : ℕ) (content : Content)
      → shown_of g s client table row ≡ Some (facts.Contended number version content)
      → Among pairs (record { row = row; number = number; version = version })

-- an answer with the lines that it counts: a `show` gives what the client's lines make it show, a `sum` gives it by
-- digests, the Store gives its rows and histories as its lines make them
abbrev pub IsAnswer : (ℕ → Scheme) → Said → Event → Answer → List Line → Type 0
IsAnswer g s (events.Show client table row) answer counted = IsShown (shown_of g s client table row) answer
IsAnswer g s (events.Sum client table row) answer counted = IsSum (shown_of g s client table row) answer
IsAnswer g s (events.StoreShow table row) answer counted = IsStored s table row answer
IsAnswer g s (events.History table) (facts.Number number) counted =
    (number ≡ length (s.history table)) × (counted ≡ entry_lines table (s.history table))
IsAnswer g s (events.Conflicts client table) (facts.Number number) counted = ArePairs g s client table counted
IsAnswer g s event answer counted = Unit {0}

-- ---- Shape: a declaration writes nothing; every other event has one answer, in a form of its command, the lines that
-- it counts, and facts

abbrev pub is_declaration : Event → Bool
is_declaration (events.Store store) = true
is_declaration (events.Gate gate) = true
is_declaration (events.Table table schema) = true
is_declaration (events.Draft table schema) = true
is_declaration (events.Client client gate tables) = true
is_declaration other = false

abbrev pub IsForm : Event → Answer → Type 0
IsForm event (facts.Refuses refusal) = Unit {0}
IsForm (events.Write client table row content) (facts.Number number) = Unit {0}
IsForm (events.Edit client table row edit) (facts.Number number) = Unit {0}
IsForm (events.Link client up) facts.Done = Unit {0}
IsForm (events.Create node table) facts.Done = Unit {0}
IsForm (events.Drop node table) facts.Done = Unit {0}
IsForm (events.Save store table client terms) facts.Done = Unit {0}
IsForm (events.Ask client table) facts.Done = Unit {0}
IsForm (events.Net it) facts.Done = Unit {0}
IsForm (events.Show client table row) (facts.Shows what) = Unit {0}
IsForm (events.Sum client table row) (facts.Shows what) = Unit {0}
IsForm (events.Sum client table row) (facts.Sums sum) = Unit {0}
IsForm (events.Sync client table) (facts.Number number) = Unit {0}
IsForm (events.Pull client table) facts.Done = Unit {0}
IsForm (events.BeginCr client table) facts.Done = Unit {0}
IsForm (events.Conflicts client table) (facts.Number number) = Unit {0}
IsForm (events.EndCr client table) facts.Done = Unit {0}
IsForm (events.Resolve client table row seen choice) (facts.Number number) = Unit {0}
IsForm (events.ResolveAll client table by) (facts.Number number) = Unit {0}
IsForm (events.Deliver packet) facts.Done = Unit {0}
IsForm (events.StoreShow table row) (facts.Stores version content) = Unit {0}
IsForm (events.History table) (facts.Number number) = Unit {0}
IsForm (events.Chunks table) (facts.Names names) = Unit {0}
IsForm (events.Chunks table) (facts.Number number) = number ≡ 0
IsForm (events.Hold node) facts.Done = Unit {0}
IsForm (events.Free node) facts.Done = Unit {0}
IsForm (events.Work node) (facts.Did step) = Unit {0}
IsForm (events.WorkAll node) (facts.Number number) = Unit {0}
IsForm (events.Crash node calls pick) facts.Done = Unit {0}
IsForm (events.Start node) facts.Done = Unit {0}
IsForm event answer = ⊥

abbrev pub IsCounted : Event → Answer → List Line → Type 0
IsCounted (events.History table) (facts.Number number) counted =
    (history : List Entry) × (counted ≡ entry_lines table history) × (length history ≡ number)
IsCounted (events.Conflicts client table) (facts.Number number) counted =
    (pairs : List RowPair) × (counted ≡ map PairLine pairs) × (length pairs ≡ number)
IsCounted event answer counted = counted ≡ []

-- where the Store is asked, nothing is told, and neither where a node is held or freed, or crashes
abbrev pub IsQuiet : Event → List Fact → Type 0
IsQuiet (events.StoreShow table row) told = told ≡ []
IsQuiet (events.History table) told = told ≡ []
IsQuiet (events.Chunks table) told = told ≡ []
IsQuiet (events.Hold node) told = told ≡ []
IsQuiet (events.Free node) told = told ≡ []
IsQuiet (events.Crash node calls pick) told = told ≡ []
IsQuiet event told = Unit {0}

-- an event's lines: its answer, the lines counted, and facts; behind what was said
pub record IsAnswered (g : ℕ → Scheme) (s : Said) (event : Event) (lines : List Line) : Type 0 where
  pub answer : Answer
  pub counted : List Line
  pub told : List Fact
  pub lines_are : lines ≡ AnswerLine answer ∷ counted ++ map FactLine told
  pub form : IsForm event answer
  pub counts : IsCounted event answer counted
  pub quiet : IsQuiet event told
  pub is : IsAnswer g s event answer counted

abbrev pub IsTurn : (ℕ → Scheme) → Said → Turn → Type 0
IsTurn g s turn = MatchBool (is_declaration turn.event) (turn.lines ≡ []) (IsAnswered g s turn.event turn.lines)

-- ---- In sight: no write is lost from sight. It is an entry, or its client shows it, or it is an open write of a
-- strong table, or a later write of its client on the row stands in the lines, or a line names it as refused or
-- resolved

abbrev pub HasEntryOf : Said → Write → Type 0
HasEntryOf s write =
    (entry : Entry) × Among (s.history write.table) entry × (entry.row ≡ write.row) × (entry.client ≡ write.client)
    × (entry.number ≡ write.number)

abbrev pub IsInSight : (ℕ → Scheme) → Said → Write → Type 0
IsInSight g s write =
    let x : RowHeard = (s.heard write.client).at write.table write.row in
    HasEntryOf s write
    ⊎ (shown_of g s write.client write.table write.row ≡ Some (mine write (x.conflict write.number)))
    ⊎ ((g write.table ≡ Strong) × (open_of x ≡ Some write))
    ⊎ ((later : Write) × Among (s.heard write.client).writes later × (later.table ≡ write.table)
    × (later.row ≡ write.row) × (write.number < later.number))
    ⊎ (x.lost write.number ≡ true)
    ⊎ (x.resolved write.number ≡ true)

abbrev pub InSight : (ℕ → Scheme) → Said → Type 0
InSight g s = (client : ℕ) (write : Write) → Among (s.heard client).writes write → IsInSight g s write

-- ---- the whole

abbrev pub IsSoundFrom : (ℕ → Scheme) → Said → List Turn → Type 0
IsSoundFrom g s [] = InSight g s
IsSoundFrom g s (turn ∷ turns) =
    InSight g s × IsTurn g s turn × AreSaid g s turn.lines × IsSoundFrom g (hear_lines s turn.lines) turns

abbrev pub IsSound : List Turn → Type 0
IsSound turns = IsSoundFrom (scheme_for (map (λ (turn : Turn). turn.event) turns)) nothing_said turns
