-- What a call asks for, and what it leaves where memory is refused.
use Rattle.std.specs.Prelude.{ℕ, ◌&&◌, ◌||◌, Bool, true, false, List, [], ◌∷◌, ◌++◌, Option, Some, None, is_some}
use Rattle.std.specs.Prelude.{if◌then◌else◌}
use Rattle.std.specs.List.{find}
use Rattle.assemblies.specs.Places.{has_places}
use Rattle.assemblies.specs.Gathering.{taken, takes, is_whole}
use Rattle.part_tables.specs.Parts.{Part, Asks, Responds, Pulls, Answers, BringsUp, BringsDown, AsksTorn, AnswersTorn}
use Rattle.part_tables.specs.Parts.{RowHead, PulledHead, TornHead, Fragment}
use Rattle.part_tables.specs.ClientParts.{Answering, Taken, Whole, Tears, Waits, ClientTaken, is_of_table}
use Rattle.part_tables.specs.ClientParts.{without_table, waits_for}
use Rattle.step_tables.specs.ClientMoves.{TableDisk, slots_at}
use Rattle.part_tables.specs.ClientParts as at_client
use Rattle.part_tables.specs.Arriving as arrivals
use Rattle.part_tables.specs.Arriving.{Arriving, Arrived, WholeRow, is_of_row, without_row, without_torn, waits_whole}
use Rattle.part_tables.specs.Arriving.{is_awaited, of_pull}
use Rattle.table_model.specs.declared.message.RowHeader.{RowHeader}
use Rattle.message_parts.specs.Parts.{row_head_of}
use Rattle.part_client.specs.declared.pulls.PullHead.{PullHead}
use Rattle.part_client.specs.declared.rows.RowAsked.{RowAsked}
use Rattle.part_client.specs.Gathered.{GatheredRow, is_for, lacks_few}
use Rattle.part_client.specs.Weighing.{WholeTaken}

-- ---- which table and row a part is of

abbrev pub table_of : Part → ℕ
table_of (Asks head) = head.table
table_of (Responds response) = response.table
table_of (Pulls pull) = pull.table
table_of (Answers head) = head.table
table_of (BringsUp f) = f.table
table_of (BringsDown f) = f.table
table_of (AsksTorn torn) = torn.table
table_of (AnswersTorn head) = head.table

abbrev pub row_in : Option RowHead → List ℕ
row_in None = []
row_in (Some row) = row.row

-- the row whose slots decide what comes to a client
abbrev pub row_of : Part → List ℕ
row_of (Asks head) = head.row
row_of (Responds response) = response.row
row_of (Pulls pull) = []
row_of (Answers head) = row_in head.header
row_of (BringsUp f) = f.row
row_of (BringsDown f) = f.row
row_of (AsksTorn torn) = torn.row
row_of (AnswersTorn head) = row_in head.header

-- ---- columns and places of what has to be gathered have numbers of 32 bits

abbrev pub row_has_places : Option RowHead → Bool
row_has_places None = true
row_has_places (Some row) = has_places row.content

abbrev pub part_has_places : Part → Bool
part_has_places (Asks head) = true
part_has_places (Responds response) = true
part_has_places (Pulls pull) = true
part_has_places (Answers head) = row_has_places head.header
part_has_places (BringsUp f) = true
part_has_places (BringsDown f) = true
part_has_places (AsksTorn torn) = true
part_has_places (AnswersTorn head) = row_has_places head.header

abbrev pub may_gather : Option Part → Bool
may_gather None = true
may_gather (Some part) = part_has_places part

-- ---- whether what is held of the row decides what a part comes to

-- the answer to a pull is of this row and version, and lacks one chunk at most
abbrev pub may_complete : Fragment → Option Answering → Bool
may_complete f None = false
may_complete f (Some x) =
    let came : GatheredRow = record { row = x.row; slots = x.slots } in is_for f.row f.key came && lacks_few came

-- a row that was asked for whole is so
abbrev pub may_end : Fragment → Option WholeRow → Bool
may_end f None = false
may_end f (Some x) =
    let came : GatheredRow = record { row = x.row; slots = x.slots } in is_for f.row f.key came && lacks_few came

-- the row that was asked for whole is of this row and version
abbrev pub is_of_version : Fragment → Option WholeRow → Bool
is_of_version f None = false
is_of_version f (Some x) = let came : GatheredRow = record { row = x.row; slots = x.slots } in is_for f.row f.key came

-- an answer with a row does; and a fragment where it may be the last one
abbrev pub needs_row : Arriving → Part → Bool
needs_row a (Asks head) = false
needs_row a (Responds response) = false
needs_row a (Pulls pull) = false
needs_row a (Answers head) = is_some head.header
needs_row a (BringsUp f) = false
needs_row a (BringsDown f) =
    may_complete f (find (is_of_table f.table) a.pulls)
    || may_end f (find (is_of_row f.table f.row) a.rows)
needs_row a (AsksTorn torn) = false
needs_row a (AnswersTorn head) = is_some head.header

-- ---- where memory is refused to put together what a fragment completes, that waits no longer

abbrev pub let_go : Arriving → Part → Arriving
let_go a (Asks head) = a
let_go a (Responds response) = a
let_go a (Pulls pull) = a
let_go a (Answers head) = a
let_go a (BringsUp f) = a
let_go a (BringsDown f) =
    if is_awaited f (find (is_of_table f.table) a.pulls)
    then record a { pulls = without_table f.table a.pulls }
    else record a { rows = without_row f.table f.row a.rows }
let_go a (AsksTorn torn) = a
let_go a (AnswersTorn head) = a

-- ---- heads

abbrev pub pulled_head : PullHead → RowHeader → PulledHead
pulled_head head row = record {
  client = head.client;
  table = head.table;
  from = head.from;
  to = head.to;
  latest = head.latest;
  header = Some (row_head_of row);
}

abbrev pub torn_head : RowAsked → Option RowHead → TornHead
torn_head head header = record { client = head.client; table = head.table; row = head.row; header = header }

-- ---- what is kept then, by what it came to

abbrev pub pull_settled : ℕ → Arriving → ClientTaken → Arrived
pull_settled table a x =
    of_pull table a (record { taken = x.taken; answerings = x.answerings ++ without_table table a.pulls })

abbrev pub mended : ℕ → List ℕ → Taken → List (ℕ × List ℕ) → List (ℕ × List ℕ)
mended table row (Whole message) torn = without_torn table row torn
mended table row (Tears other) torn = torn
mended table row Waits torn = torn

abbrev pub row_settled : ℕ → List ℕ → Arriving → WholeTaken → Arrived
row_settled table row a x = record {
  taken = x.taken;
  arriving = record a { rows = x.rows ++ without_row table row a.rows; torn = mended table row x.taken a.torn };
}

-- what has come behind a fragment
abbrev pub pulls_grown : Fragment → List Answering → Option Answering → List Answering
pulls_grown f xs None = xs
pulls_grown f xs (Some x) =
    if waits_for f x
    then record x { slots = taken f.column f.place f.bytes x.slots } ∷ without_table f.table xs
    else xs

abbrev pub is_waited : Fragment → Option WholeRow → Bool
is_waited f None = false
is_waited f (Some x) = waits_whole f x

abbrev pub rows_grown : Fragment → List WholeRow → Option WholeRow → List WholeRow
rows_grown f xs None = xs
rows_grown f xs (Some x) =
    if waits_whole f x
    then record x { slots = taken f.column f.place f.bytes x.slots } ∷ without_row f.table f.row xs
    else xs

-- ---- steps of a fragment

-- a row waits for it
abbrev pub waits : Fragment → GatheredRow → Bool
waits f came = is_for f.row f.key came && takes f.column f.place f.bytes came.slots

abbrev pub is_pull_for : Fragment → Option Answering → Bool
is_pull_for f None = false
is_pull_for f (Some x) = let came : GatheredRow = record { row = x.row; slots = x.slots } in is_for f.row f.key came

abbrev pub is_pull_whole : Option Answering → Bool
is_pull_whole None = false
is_pull_whole (Some x) = is_whole x.slots

abbrev pub is_row_whole : Option WholeRow → Bool
is_row_whole None = false
is_row_whole (Some x) = is_whole x.slots

-- what the answer to a pull comes to behind a chunk
abbrev pub grown_pull : TableDisk → ℕ → List ℕ → List Answering → Answering → ClientTaken
grown_pull opened table row xs x =
    if is_whole x.slots
    then at_client.weighed opened.schema.chunk (slots_at opened row) (without_table table xs) x
    else record { taken = Waits; answerings = xs }

-- and a row that was asked for whole
abbrev pub grown_row : TableDisk → ℕ → List ℕ → Arriving → WholeRow → Arrived
grown_row opened table row a x =
    if is_whole x.slots
    then arrivals.weighed (slots_at opened row) a (without_row table row a.rows) x
    else record { taken = Waits; arriving = a }
