-- What a client keeps in memory of what comes in parts: the answers to its pulls that wait for fragments, the rows that
-- it asked for whole and that wait for them, and which rows are torn. What a part makes of it, where the part's table
-- is opened and the client is up, linked and with no write to be done; and what a pull does.
use Rattle.std.specs.Prelude.{ℕ, ◌==◌, nat_le, ◌&&◌, not, Bool, false, List, [], ◌∷◌, ◌++◌, map, filter, Option, Some}
use Rattle.std.specs.Prelude.{None, if◌then◌else◌}
use Rattle.std.specs.List.{find, list_any}
use Rattle.std.specs.BTreeSet.{insert_key}
use Rattle.row_value.specs.declared.content.Content.{Content}
use Rattle.stab_base.specs.declared.chunk_name.ChunkName.{ChunkName}
use Rattle.table_model.specs.History.{same_row}
use Rattle.chunker.specs.Sized.{sized}
use Rattle.assemblies.specs.declared.sent.Sent.TheVariants as sents
use Rattle.assemblies.specs.Travel.{is_sent}
use Rattle.assemblies.specs.Places.{awaited_of}
use Rattle.assemblies.specs.Gathering.{Slot, waiting, taken, takes, is_whole, chunks_of}
use Rattle.assemblies.specs.Parts.{joined}
use Rattle.step_tables.specs.Chunks.{is_named}
use Rattle.step_tables.specs.Client.{row_cmp}
use Rattle.step_tables.specs.ClientMoves.{Slots, TableDisk, slots_at, top}
use Rattle.step_tables.specs.Messages.{Header, Message, TornRowResponse}
use Rattle.part_tables.specs.Parts.{Part, Asks, Responds, Pulls, Answers, BringsUp, BringsDown, AsksTorn, AnswersTorn}
use Rattle.part_tables.specs.Parts.{RowHead, TornHead, Fragment}
use Rattle.part_tables.specs.ClientParts.{Answering, Taken, Whole, Tears, Waits, ClientTaken, is_of_table}
use Rattle.part_tables.specs.ClientParts.{without_table}
use Rattle.part_tables.specs.ClientParts.{header_with, names_in, waits_for, parted}

-- a row that was asked for whole, with what has come of its chunks
pub record WholeRow : Type 0 where
  pub head : TornHead
  pub row : RowHead
  pub slots : List Slot

-- a torn row stands with its table
pub record Arriving : Type 0 where
  pub pulls : List Answering
  pub rows : List WholeRow
  pub torn : List (ℕ × List ℕ)

abbrev pub nothing_arriving : Arriving
nothing_arriving = record { pulls = []; rows = []; torn = [] }

pub record Arrived : Type 0 where
  pub taken : Taken
  pub arriving : Arriving

-- ---- torn rows

abbrev pub same_torn : ℕ → List ℕ → ℕ × List ℕ → Bool
same_torn table row torn = (torn.0 == table) && same_row torn.1 row

abbrev pub without_torn : ℕ → List ℕ → List (ℕ × List ℕ) → List (ℕ × List ℕ)
without_torn table row some = filter (λ (torn : ℕ × List ℕ). not (same_torn table row torn)) some

abbrev pub with_torn : ℕ → List ℕ → List (ℕ × List ℕ) → List (ℕ × List ℕ)
with_torn table row some = if list_any (same_torn table row) some then some else (table, row) ∷ some

abbrev pub with_all_torn : ℕ → List (List ℕ) → List (ℕ × List ℕ) → List (ℕ × List ℕ)
with_all_torn table [] some = some
with_all_torn table (row ∷ rows) some = with_torn table row (with_all_torn table rows some)

-- each once, in rising order
abbrev pub rising_rows : List (List ℕ) → List (List ℕ)
rising_rows [] = []
rising_rows (row ∷ rows) = insert_key row_cmp (rising_rows rows) row

-- ---- a row that was asked for whole

abbrev pub is_of_row : ℕ → List ℕ → WholeRow → Bool
is_of_row table row x = (x.head.table == table) && same_row x.head.row row

abbrev pub without_row : ℕ → List ℕ → List WholeRow → List WholeRow
without_row table row xs = filter (λ (x : WholeRow). not (is_of_row table row x)) xs

abbrev pub torn_answer : TornHead → Option Header → Message
torn_answer head header =
    TornRowResponse (record { client = head.client; table = head.table; row = head.row; header = header })

-- it is whole, and torn no longer
abbrev pub ended : Arriving → List WholeRow → TornHead → Option Header → Arrived
ended a others head header = record {
  taken = Whole (torn_answer head header);
  arriving = record a { rows = others; torn = without_torn head.table head.row a.torn };
}

-- no chunk of it is held
abbrev pub assembled : WholeRow → Content
assembled x = joined (λ (name : ChunkName). []) (is_sent sents.All) x.row.content (chunks_of x.slots)

-- it comes, or a chunk of it: it isn't newer than the row that was read, so that its bytes don't matter; or it is
-- complete, or goes on to wait
abbrev pub weighed : Slots → Arriving → List WholeRow → WholeRow → Arrived
weighed slots a others x =
    if nat_le x.row.version (top slots.conflict slots.shadow)
    then ended a others x.head (Some (header_with x.row (sized x.row.content)))
    else (if is_whole x.slots then ended a others x.head (Some (header_with x.row (assembled x)))
    else record { taken = Waits; arriving = record a { rows = x ∷ others } })

-- the Store has no such row; or one that names its chunks takes the place of the one that waits, and another is dropped
abbrev pub answered : TableDisk → Arriving → TornHead → Option RowHead → Arrived
answered opened a head None = ended a (without_row head.table head.row a.rows) head None
answered opened a head (Some row) =
    if is_named opened.schema.chunk (sized row.content) (names_in row.content)
    then weighed (slots_at opened row.row) a (without_row head.table head.row a.rows) (record {
      head = head;
      row = row;
      slots = waiting (awaited_of (is_sent sents.All) opened.schema.chunk row.content);
    })
    else record { taken = Waits; arriving = a }

-- ---- a fragment goes to the answer to a pull that waits for it, else to the row that does

abbrev pub waits_whole : Fragment → WholeRow → Bool
waits_whole f x = same_row x.row.row f.row && ((x.row.version == f.key) && takes f.column f.place f.bytes x.slots)

abbrev pub brought_to : TableDisk → Arriving → Fragment → Option WholeRow → Arrived
brought_to opened a f None = record { taken = Waits; arriving = a }
brought_to opened a f (Some x) =
    if waits_whole f x
    then (if is_whole (taken f.column f.place f.bytes x.slots)
    then weighed (slots_at opened f.row) a (without_row f.table f.row a.rows)
    (record x { slots = taken f.column f.place f.bytes x.slots })
    else record {
      taken = Waits;
      arriving = record a {
        rows = record x { slots = taken f.column f.place f.bytes x.slots } ∷ without_row f.table f.row a.rows;
      };
    })
    else record { taken = Waits; arriving = a }

abbrev pub is_awaited : Fragment → Option Answering → Bool
is_awaited f None = false
is_awaited f (Some x) = waits_for f x

-- ---- a part

-- a row that was found torn is noted
abbrev pub torn_by : ℕ → Taken → List (ℕ × List ℕ) → List (ℕ × List ℕ)
torn_by table (Whole message) some = some
torn_by table (Tears row) some = with_torn table row some
torn_by table Waits some = some

abbrev pub of_pull : ℕ → Arriving → ClientTaken → Arrived
of_pull table a x =
    record { taken = x.taken; arriving = record a { pulls = x.answerings; torn = torn_by table x.taken a.torn } }

abbrev pub arrived : TableDisk → Arriving → Part → Arrived
arrived opened a (Asks head) = record { taken = Waits; arriving = a }
arrived opened a (Responds response) = of_pull response.table a (parted opened a.pulls (Responds response))
arrived opened a (Pulls pull) = record { taken = Waits; arriving = a }
arrived opened a (Answers head) = of_pull head.table a (parted opened a.pulls (Answers head))
arrived opened a (BringsUp f) = record { taken = Waits; arriving = a }
arrived opened a (BringsDown f) = if is_awaited f (find (is_of_table f.table) a.pulls)
    then of_pull f.table a (parted opened a.pulls (BringsDown f))
    else brought_to opened a f (find (is_of_row f.table f.row) a.rows)
arrived opened a (AsksTorn torn) = record { taken = Waits; arriving = a }
arrived opened a (AnswersTorn head) = answered opened a head head.header

-- ---- a pull of a table: rows whose chunks are waited for are torn, and all torn rows are asked for whole, by rising
-- row. Where there is none, the next change is asked for

-- the rows of a table that wait for fragments
abbrev pub unfinished : ℕ → Arriving → List (List ℕ)
unfinished table a = rising_rows (
    map (λ (x : Answering). x.row.row) (filter (is_of_table table) a.pulls)
    ++ map (λ (x : WholeRow). x.head.row) (filter (λ (x : WholeRow). x.head.table == table) a.rows))

-- an answer to a pull isn't waited for any longer
abbrev pub asking : ℕ → Arriving → Arriving
asking table a =
    record a { pulls = without_table table a.pulls; torn = with_all_torn table (unfinished table a) a.torn }

abbrev pub torn_rows : ℕ → Arriving → List (List ℕ)
torn_rows table a = rising_rows (
    map (λ (torn : ℕ × List ℕ). torn.1) (filter (λ (torn : ℕ × List ℕ). torn.0 == table) a.torn))
