-- What the lines so far say, as one fold that every definition over lines reads. What is told again adds nothing: only
-- a number, or a version, above the last is new.
use Rattle.std.specs.Prelude.{ℕ, ◌==◌, nat_lt, Bool, true, false, ◌||◌, max, List, [], ◌∷◌, ◌++◌, length, Option, Some}
use Rattle.std.specs.Prelude.{None, if◌then◌else◌}
use Rattle.std.specs.List.{find}
use Rattle.row_value.specs.declared.schema.Scheme.{Scheme}
use Rattle.row_value.specs.declared.schema.Scheme.TheVariants.{Strong, Causal, Eventual}
use Rattle.table_model.specs.declared.entry.Entry.{Entry}
use Rattle.table_model.specs.declared.line.Write.{Write}
use Rattle.step_tables.specs.Facts.{ClientFact, Fact, Line, AnswerLine, EntryLine, PairLine, FactLine}
use Rattle.step_tables.specs.Facts as facts
use Rattle.step_tables.specs.Members.{put, put_at}

-- what a line says. A new kind of fact is a line of `client_says` or of `saying`, and no other
pub data Saying : Type 0 where
  SaysNothing : Saying
  SaysWrite : (write : Write) → Saying
  SaysEntry : (table : ℕ) → (entry : Entry) → Saying
  SaysBack : (table version : ℕ) → Saying
  SaysAck : (client number table : ℕ) → (row : List ℕ) → (version : ℕ) → Saying
  SaysLoss : (client number table : ℕ) → (row : List ℕ) → (latest : ℕ) → Saying
  SaysConflict : (client number table : ℕ) → (row : List ℕ) → (version : ℕ) → Saying
  SaysResolved : (client number table : ℕ) → (row : List ℕ) → (version : ℕ) → Saying
  SaysRead : (client table : ℕ) → (row : List ℕ) → (version : ℕ) → Saying
  SaysPosition : (client table position : ℕ) → Saying

abbrev pub client_says : ClientFact → Saying
client_says (facts.Wrote write) = SaysWrite write
client_says (facts.Acked client number table row version) = SaysAck client number table row version
client_says (facts.Refused client number table row latest) = SaysLoss client number table row latest
client_says (facts.Conflict client number table row version) = SaysConflict client number table row version
client_says (facts.Resolved client number table row version) = SaysResolved client number table row version
client_says (facts.New client table row version) = SaysRead client table row version
client_says (facts.Position client table position) = SaysPosition client table position
client_says (facts.Opened client table) = SaysNothing
client_says (facts.Dropped client table) = SaysNothing

abbrev pub saying : Fact → Saying
saying (facts.Client fact) = client_says fact
saying (facts.Redone fact) = client_says fact
saying (facts.Accepted table entry) = SaysEntry table entry
saying (facts.Forward table entry) = SaysEntry table entry
saying (facts.Back table version) = SaysBack table version
saying (facts.StoreRecovered store table) = SaysNothing
saying (facts.Made table) = SaysNothing
saying (facts.Unmade table) = SaysNothing
saying (facts.Saved table) = SaysNothing
saying (facts.Notified client tables) = SaysNothing
saying (facts.ClientRecovered client) = SaysNothing
saying (facts.Torn client table row) = SaysNothing
saying (facts.Sent packet from to name) = SaysNothing

abbrev pub says : Line → Saying
says (AnswerLine answer) = SaysNothing
says (EntryLine table entry) = SaysNothing
says (PairLine pair) = SaysNothing
says (FactLine fact) = saying fact

-- ---- one client

-- what a client's lines say of a row: its last write, the numbers that were acknowledged, refused and resolved, the
-- version in each number's last conflict, and the greatest version read, with conflicts and without
pub record RowHeard : Type 0 where
  pub last : Option Write
  pub acked : ℕ → Bool
  pub lost : ℕ → Bool
  pub resolved : ℕ → Bool
  pub conflict : ℕ → Option ℕ
  pub read : ℕ
  pub shadow : ℕ

-- of a client: its distinct writes, what is said of each row, and its position on each table
pub record Heard : Type 0 where
  pub writes : List Write
  pub at : ℕ → List ℕ → RowHeard
  pub position : ℕ → ℕ

abbrev pub no_row : RowHeard
no_row = record {
  last = None;
  acked = λ number. false;
  lost = λ number. false;
  resolved = λ number. false;
  conflict = λ number. None;
  read = 0;
  shadow = 0;
}

abbrev pub nothing_heard : Heard
nothing_heard = record { writes = []; at = λ table row. no_row; position = λ table. 0 }

abbrev pub row_wrote : Write → RowHeard → RowHeard
row_wrote write x = record x { last = Some write }

abbrev pub row_acked : ℕ → ℕ → RowHeard → RowHeard
row_acked number version x =
    record x { acked = put x.acked number true; read = max x.read version; shadow = max x.shadow version }

abbrev pub row_lost : ℕ → RowHeard → RowHeard
row_lost number x = record x { lost = put x.lost number true }

abbrev pub row_met : ℕ → ℕ → RowHeard → RowHeard
row_met number version x = record x { conflict = put x.conflict number (Some version); read = max x.read version }

abbrev pub row_resolved : ℕ → ℕ → RowHeard → RowHeard
row_resolved number version x =
    record x { resolved = put x.resolved number true; read = max x.read version; shadow = max x.shadow version }

abbrev pub row_saw : ℕ → RowHeard → RowHeard
row_saw version x = record x { read = max x.read version; shadow = max x.shadow version }

abbrev pub at_row : Heard → ℕ → List ℕ → (RowHeard → RowHeard) → Heard
at_row t table row f = record t { at = put_at t.at table row (f (t.at table row)) }

-- a write counts where its number is new
abbrev pub wrote : Heard → Write → Heard
wrote t write =
    if nat_lt (length t.writes) write.number
    then record t {
      writes = t.writes ++ write ∷ [];
      at = put_at t.at write.table write.row (row_wrote write (t.at write.table write.row));
    }
    else t

-- what a saying makes of what its client's lines say
abbrev pub own : Heard → Saying → Heard
own t SaysNothing = t
own t (SaysWrite write) = wrote t write
own t (SaysEntry table entry) = t
own t (SaysBack table version) = t
own t (SaysAck client number table row version) = at_row t table row (row_acked number version)
own t (SaysLoss client number table row latest) = at_row t table row (row_lost number)
own t (SaysConflict client number table row version) = at_row t table row (row_met number version)
own t (SaysResolved client number table row version) = at_row t table row (row_resolved number version)
own t (SaysRead client table row version) = at_row t table row (row_saw version)
own t (SaysPosition client table position) =
    record t { position = put t.position table (max (t.position table) position) }

abbrev pub own_all : Heard → List Fact → Heard
own_all t [] = t
own_all t (fact ∷ more) = own_all (own t (saying fact)) more

-- ---- all nodes

-- an entry counts where its version is new
abbrev pub entered : List Entry → Entry → List Entry
entered history entry = if nat_lt (length history) entry.version then history ++ entry ∷ [] else history

-- the history of each table, and what each client's lines say
pub record Said : Type 0 where
  pub history : ℕ → List Entry
  pub heard : ℕ → Heard

abbrev pub nothing_said : Said
nothing_said = record { history = λ table. []; heard = λ client. nothing_heard }

abbrev pub at_client : Said → ℕ → Saying → Said
at_client s client x = record s { heard = put s.heard client (own (s.heard client) x) }

abbrev pub hear : Said → Saying → Said
hear s SaysNothing = s
hear s (SaysWrite write) = at_client s write.client (SaysWrite write)
hear s (SaysEntry table entry) = record s { history = put s.history table (entered (s.history table) entry) }
hear s (SaysBack table version) = s
hear s (SaysAck client number table row version) = at_client s client (SaysAck client number table row version)
hear s (SaysLoss client number table row latest) = at_client s client (SaysLoss client number table row latest)
hear s (SaysConflict client number table row version) =
    at_client s client (SaysConflict client number table row version)
hear s (SaysResolved client number table row version) =
    at_client s client (SaysResolved client number table row version)
hear s (SaysRead client table row version) = at_client s client (SaysRead client table row version)
hear s (SaysPosition client table position) = at_client s client (SaysPosition client table position)

abbrev pub hear_all : Said → List Fact → Said
hear_all s [] = s
hear_all s (fact ∷ more) = hear_all (hear s (saying fact)) more

abbrev pub hear_lines : Said → List Line → Said
hear_lines s [] = s
hear_lines s (line ∷ more) = hear_lines (hear s (says line)) more

-- ---- what is read off it

-- the write of a number
abbrev pub write_of : ℕ → List Write → Option Write
write_of number writes = find (λ (write : Write). write.number == number) writes

-- the last write, where no line names it as acknowledged, refused or resolved
abbrev pub if_open : RowHeard → Option Write → Option Write
if_open x None = None
if_open x (Some write) = if (x.acked write.number || x.lost write.number) || x.resolved write.number then None
    else Some write

abbrev pub open_of : RowHeard → Option Write
open_of x = if_open x x.last

-- no open write of a strong table is shown
abbrev pub open_in : Scheme → Option Write → Option Write
open_in Strong open_write = None
open_in Causal open_write = open_write
open_in Eventual open_write = open_write
