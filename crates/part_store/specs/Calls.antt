-- What a call promises of the requests that wait.
use Rattle.std.specs.Prelude.{◌≡◌, ◌⊎◌, ℕ, ◌&&◌, Bool, true, false, List, [], ◌∷◌, Option, Some, None}
use Rattle.std.specs.Prelude.{if◌then◌else◌}
use Rattle.std.specs.List.{find}
use Rattle.assemblies.specs.Places.{has_places}
use Rattle.assemblies.specs.Gathering.{is_whole}
use Rattle.step_tables.specs.Travels.{message_of}
use Rattle.part_tables.specs.Parts.{Part, Asks, Responds, Pulls, Answers, BringsUp, BringsDown, AsksTorn, AnswersTorn}
use Rattle.part_tables.specs.Parts.{Fragment, RowHead}
use Rattle.part_tables.specs.StoreParts as tables
use Rattle.part_tables.specs.StoreParts.{Gathering, StoreTaken, is_of_client, without_client, waits_for}
use Rattle.part_contents.specs.Counted.{lacks_few}
use Rattle.part_store.specs.declared.gatherings.Gatherings.{Gatherings}
use Rattle.part_store.specs.declared.gatherings.Taken.{Taken}
use Rattle.part_store.specs.declared.gatherings.Taken.TheVariants as takens
use Rattle.part_store.specs.Gathered.{HasGathered, is_of_request, with_chunk}

-- ---- whose part it is, and which row's

abbrev pub client_of : Part → ℕ
client_of (Asks head) = head.client
client_of (Responds response) = response.client
client_of (Pulls pull) = pull.client
client_of (Answers head) = head.client
client_of (BringsUp f) = f.client
client_of (BringsDown f) = f.client
client_of (AsksTorn torn) = torn.client
client_of (AnswersTorn head) = head.client

abbrev pub row_in : Option RowHead → List ℕ
row_in None = []
row_in (Some row) = row.row

abbrev pub row_of : Part → List ℕ
row_of (Asks head) = head.row
row_of (Responds response) = response.row
row_of (Pulls pull) = []
row_of (Answers head) = row_in head.header
row_of (BringsUp f) = f.row
row_of (BringsDown f) = f.row
row_of (AsksTorn torn) = torn.row
row_of (AnswersTorn head) = head.row

-- ---- columns and places of what has to be gathered have numbers of 32 bits

abbrev pub part_has_places : Part → Bool
part_has_places (Asks head) = has_places head.content
part_has_places (Responds response) = true
part_has_places (Pulls pull) = true
part_has_places (Answers head) = true
part_has_places (BringsUp f) = true
part_has_places (BringsDown f) = true
part_has_places (AsksTorn torn) = true
part_has_places (AnswersTorn head) = true

abbrev pub may_gather : Option Part → Bool
may_gather None = true
may_gather (Some part) = part_has_places part

-- ---- whether what the table has of the row decides what a part comes to

-- its request waits, and lacks one chunk at most
abbrev pub may_complete : Fragment → Option Gathering → Bool
may_complete f None = false
may_complete f (Some x) = is_of_request f x && lacks_few x.slots

-- a request does, and a fragment where it may be the last one
abbrev pub needs_row : List Gathering → Part → Bool
needs_row gs (Asks head) = true
needs_row gs (Responds response) = false
needs_row gs (Pulls pull) = false
needs_row gs (Answers head) = false
needs_row gs (BringsUp f) = may_complete f (find (is_of_client f.client) gs)
needs_row gs (BringsDown f) = false
needs_row gs (AsksTorn torn) = false
needs_row gs (AnswersTorn head) = false

-- ---- what a part came to

abbrev pub taken_of : Taken → tables.Taken
taken_of (takens.Whole message) = tables.Whole (message_of message)
taken_of takens.Waits = tables.Waits

pub record IsTaken (x : StoreTaken) (it : Gatherings) (told : Taken) : Type 0 where
  pub taken : taken_of told ≡ x.taken
  pub kept : HasGathered it x.gatherings

-- where memory is refused to put together what a fragment completes, that waits no longer
abbrev pub let_go : List Gathering → Part → List Gathering
let_go gs (Asks head) = gs
let_go gs (Responds response) = gs
let_go gs (Pulls pull) = gs
let_go gs (Answers head) = gs
let_go gs (BringsUp f) = without_client f.client gs
let_go gs (BringsDown f) = gs
let_go gs (AsksTorn torn) = gs
let_go gs (AnswersTorn head) = gs

-- all of it is left, or all but what a fragment would have completed
abbrev pub IsLeft : List Gathering → Part → Gatherings → Type 0
IsLeft gs part it = HasGathered it gs ⊎ HasGathered it (let_go gs part)

-- ---- a fragment

abbrev pub grown : Fragment → Gathering → Gathering
grown f x = if waits_for f x then with_chunk f x else x

-- it was waited for, and was the last one
abbrev pub is_done : Fragment → Option Gathering → Bool
is_done f None = false
is_done f (Some x) = waits_for f x && is_whole (with_chunk f x).slots

abbrev pub grown_in : Fragment → List Gathering → Option Gathering → List Gathering
grown_in f gs None = gs
grown_in f gs (Some x) = if waits_for f x then with_chunk f x ∷ without_client f.client gs else gs
