-- What a script has declared so far, and whether an event was read.
use Rattle.std.specs.Prelude.{◌≡◌, ℕ, ◌==◌, length, Bool, true, false, List, [], Option}
use Rattle.std.specs.Prelude.{Some, None, is_some, map, Vec, if◌then◌else◌}
use Rattle.std.specs.Ordering.{nat_cmp}
use Rattle.std.specs.Cmp.Lexicographic.{slice_cmp}
use Rattle.std.specs.List.{list_any, position_from}
use Rattle.std.specs.Str.{bytes_eq}
use Rattle.std.specs.Map.{lookup}
use Rattle.std.specs.BTreeMap.{is_at, insert_entry}
use Rattle.std.specs.BTreeSet.{BTreeSet, insert_key}
use Rattle.script_words.specs.Words.{is_among}
use Rattle.row_value.specs.declared.schema.Column.{Column}
use Rattle.row_value.specs.declared.schema.Schema.{Schema}
use Rattle.table_model.specs.declared.event.Event.{Event}
use Rattle.table_model.specs.declared.event.Event.TheVariants as events

-- the keys of a set of texts
abbrev pub texts_of : {A : Type 0} → BTreeSet (Vec ℕ A) → List (List ℕ)
texts_of texts = map (λ v. v.items) texts.keys

-- keys that have the same texts among them as a list
abbrev pub IsSetOf : List (List ℕ) → List (List ℕ) → Type 0
IsSetOf keys words = (w : List ℕ) → list_any (is_at (slice_cmp nat_cmp w)) keys ≡ is_among w words

-- numbers in rising order, tables with their schema, table names in the order of their bytes
pub record Names : Type 0 where
  pub stores : List ℕ
  pub gates : List ℕ
  pub tables : List (ℕ × Schema)
  pub names : List (List ℕ)
  pub clients : List ℕ
  pub started : Bool

abbrev pub no_names : Names
no_names = record { stores = []; gates = []; tables = []; names = []; clients = []; started = false }

-- the event's declaration is added, or that an event was read
abbrev pub with_event : Names → Event → Names
with_event n (events.Store store) = record n { stores = insert_key nat_cmp n.stores store }
with_event n (events.Gate gate) = record n { gates = insert_key nat_cmp n.gates gate }
with_event n (events.Table table schema) =
    record n {
      tables = insert_entry nat_cmp n.tables table schema;
      names = insert_key (slice_cmp nat_cmp) n.names schema.name;
    }
with_event n (events.Draft table schema) =
    record n {
      tables = insert_entry nat_cmp n.tables table schema;
      names = insert_key (slice_cmp nat_cmp) n.names schema.name;
    }
with_event n (events.Client client gate tables) = record n { clients = insert_key nat_cmp n.clients client }
with_event n (events.Write client table row content) = record n { started = true }
with_event n (events.Edit client table row edit) = record n { started = true }
with_event n (events.Link client up) = record n { started = true }
with_event n (events.Create node table) = record n { started = true }
with_event n (events.Drop node table) = record n { started = true }
with_event n (events.Save store table client terms) = record n { started = true }
with_event n (events.Ask client table) = record n { started = true }
with_event n (events.Net it) = record n { started = true }
with_event n (events.Show client table row) = record n { started = true }
with_event n (events.Sum client table row) = record n { started = true }
with_event n (events.Sync client table) = record n { started = true }
with_event n (events.Pull client table) = record n { started = true }
with_event n (events.BeginCr client table) = record n { started = true }
with_event n (events.Conflicts client table) = record n { started = true }
with_event n (events.EndCr client table) = record n { started = true }
with_event n (events.Resolve client table row seen choice) = record n { started = true }
with_event n (events.ResolveAll client table by) = record n { started = true }
with_event n (events.Deliver packet) = record n { started = true }
with_event n (events.StoreShow table row) = record n { started = true }
with_event n (events.History table) = record n { started = true }
with_event n (events.Chunks table) = record n { started = true }
with_event n (events.Hold node) = record n { started = true }
with_event n (events.Free node) = record n { started = true }
with_event n (events.Work node) = record n { started = true }
with_event n (events.WorkAll node) = record n { started = true }
with_event n (events.Crash node calls pick) = record n { started = true }
with_event n (events.Start node) = record n { started = true }

abbrev pub has_store : Names → ℕ → Bool
has_store n store = list_any (is_at (nat_cmp store)) n.stores

abbrev pub has_gate : Names → ℕ → Bool
has_gate n gate = list_any (is_at (nat_cmp gate)) n.gates

abbrev pub has_table : Names → ℕ → Bool
has_table n table = is_some (lookup (is_at (nat_cmp table)) n.tables)

abbrev pub columns_in : Option Schema → List Column
columns_in None = []
columns_in (Some schema) = schema.columns

-- the columns of a table that is declared
abbrev pub columns_of : Names → ℕ → List Column
columns_of n table = columns_in (lookup (is_at (nat_cmp table)) n.tables)

-- the number of the first column of this name, counted from 0
abbrev pub column_number : List Column → List ℕ → Option ℕ
column_number columns name = position_from (λ column. bytes_eq name column.name) 0 columns

-- the number at a name, among entries by names
abbrev pub number_in : {A : Type 0} → List (Vec ℕ A × ℕ) → List ℕ → Option ℕ
number_in entries name = lookup (λ v. is_at (slice_cmp nat_cmp name) v.items) entries

-- the entries give each name the number of its column
abbrev pub FindsColumns : {A : Type 0} → List (Vec ℕ A × ℕ) → List Column → Type 0
FindsColumns entries columns = (name : List ℕ) → number_in entries name ≡ column_number columns name

-- what is found of a word, where a name gets a number that had none
abbrev pub with_number : Option ℕ → List ℕ → ℕ → List ℕ → Option ℕ
with_number None name number word = if bytes_eq word name then Some number else None
with_number (Some n) name number word = Some n

abbrev pub has_name : Names → List ℕ → Bool
has_name n name = list_any (is_at (slice_cmp nat_cmp name)) n.names

abbrev pub has_client : Names → ℕ → Bool
has_client n client = list_any (is_at (nat_cmp client)) n.clients

abbrev pub has_no_store : Names → Bool
has_no_store n = length n.stores == 0
