-- What a client is asked for, as the moves of its step table.
use Rattle.std.specs.Prelude.{◌≡◌, ◌≢◌, ℕ, Bool, true, false, List, [], Option, Some, None, Result, Ok, Err}
use Rattle.table_model.specs.declared.line.Answer.{Answer}
use Rattle.table_model.specs.declared.line.Answer.TheVariants as answers
use Rattle.table_model.specs.declared.line.Refusal.TheVariants as refusals
use Rattle.table_model.specs.declared.line.RowPair.{RowPair}
use Rattle.step_tables.specs.ClientMoves.{Client, ClientDisk, ClientMove, Write, Change, Show, Sum, Sync, Next, Take}
use Rattle.step_tables.specs.ClientMoves.{BeginCr, EndCr, Resolve, ResolveAll, Alter, Opens, Closes}
use Rattle.step_tables.specs.Messages.{table_of}
use Rattle.step_tables.specs.Travels.{message_of}
use Rattle.client_node.specs.declared.fault.CallFault.{CallFault}
use Rattle.client_node.specs.declared.fault.CallFault.TheVariants as call
use Rattle.client_node.specs.Node.{IsToOpen}
use Rattle.client_node.specs.Taking.{FitsClient}
use Rattle.world_tables.specs.World.{World, client_at, client_pairs, chosen_of}
use Rattle.journal_host.specs.declared.asking.Ask.{Ask}
use Rattle.journal_host.specs.declared.asking.Ask.TheVariants as asks
use Rattle.journal_host.specs.declared.asking.Request.{Request}
use Rattle.journal_host.specs.declared.asking.Request.TheVariants as requests
use Rattle.journal_host.specs.declared.fault.ClientFault.{ClientFault}
use Rattle.journal_host.specs.declared.fault.ClientFault.TheVariants.{Spent, Memory}

abbrev pub move_of : Ask → ClientMove
move_of (asks.Write table row content) = Write table row content
move_of (asks.Edit table row edit) = Change table row edit
move_of (asks.Show table row) = Show table row
move_of (asks.Sum table row) = Sum table row
move_of (asks.Sync table) = Sync table
move_of (asks.Pull table) = Next table [] []
move_of (asks.BeginCr table) = BeginCr table
move_of (asks.EndCr table) = EndCr table
move_of (asks.Resolve table row seen choice) = Resolve table row seen choice

-- where the client is there, what it chooses goes by what it keeps of the row
abbrev pub asked_by : Option Client → Request → ClientMove
asked_by s (requests.Ask ask) = move_of ask
asked_by s (requests.Deliver message) = Take (message_of message)
asked_by s (requests.Resolvable table by) = ResolveAll table by
asked_by s (requests.ResolveBy table row seen by) = Resolve table row seen (chosen_of by row s table)
asked_by s (requests.AskWhole table tears rows) = Next table tears rows
asked_by s (requests.Open table schema) = Alter table (Opens schema)
asked_by s (requests.Close table) = Alter table Closes

-- the table that it is about, where a closed one isn't for it
abbrev pub ask_table : Ask → Option ℕ
ask_table (asks.Write table row content) = Some table
ask_table (asks.Edit table row edit) = Some table
ask_table (asks.Show table row) = Some table
ask_table (asks.Sum table row) = Some table
ask_table (asks.Sync table) = Some table
ask_table (asks.Pull table) = Some table
ask_table (asks.BeginCr table) = Some table
ask_table (asks.EndCr table) = Some table
ask_table (asks.Resolve table row seen choice) = Some table

abbrev pub request_table : Request → Option ℕ
request_table (requests.Ask ask) = ask_table ask
request_table (requests.Deliver message) = Some (table_of (message_of message))
request_table (requests.Resolvable table by) = Some table
request_table (requests.ResolveBy table row seen by) = Some table
request_table (requests.AskWhole table tears rows) = Some table
request_table (requests.Open table schema) = None
request_table (requests.Close table) = None

abbrev pub is_message : Request → Bool
is_message (requests.Deliver message) = true
is_message other = false

-- where rows are to be asked for whole, there are some; a table that is to be opened can be
abbrev pub CanAsk : Request → Type 0
CanAsk (requests.AskWhole table tears rows) = rows ≢ []
CanAsk (requests.Open table schema) = IsToOpen (table, schema)
CanAsk other = Unit {0}

-- the row that a message brings fits its table; all else is fit
abbrev pub FitsDisk : ClientDisk → Request → Type 0
FitsDisk disk (requests.Deliver message) = FitsClient disk (message_of message)
FitsDisk disk other = Unit {0}

abbrev pub FitsAt : Option Client → Request → Type 0
FitsAt None request = Unit {0}
FitsAt (Some s) request = FitsDisk s.disk request

-- where the client is there
abbrev pub FitsIn : World → ℕ → Request → Type 0
FitsIn w c request = FitsAt (client_at w c) request

-- the rows that it asks for, where it asks for any
abbrev pub AreAsked : Option Client → Request → List RowPair → Type 0
AreAsked s (requests.Resolvable table by) pairs = pairs ≡ client_pairs s table
AreAsked s other pairs = Unit {0}

-- ---- answers

abbrev pub as_answer : {T : Type 0} → (T → Answer) → Result T CallFault → Result Answer CallFault
as_answer said (Ok value) = Ok (said value)
as_answer said (Err e) = Err e

-- the refusal that a node's fault is answered by, or the fault that it is
abbrev pub refused_as : CallFault → Result Answer ClientFault
refused_as call.NoTable = Ok (answers.Refused refusals.NoTable)
refused_as (call.BadCell column) = Ok (answers.Refused (refusals.BadCell column))
refused_as (call.BadObject column len) = Ok (answers.Refused (refusals.BadObject column len))
refused_as (call.RowTooLarge len) = Ok (answers.Refused (refusals.RowTooLarge len))
refused_as (call.TooManyChunks count) = Ok (answers.Refused (refusals.TooManyChunks count))
refused_as call.NoRow = Ok (answers.Refused refusals.NoRow)
refused_as (call.Busy with) = Ok (answers.Refused (refusals.Busy with))
refused_as call.NotInResolution = Ok (answers.Refused refusals.NotInResolution)
refused_as call.InResolution = Ok (answers.Refused refusals.InResolution)
refused_as call.NoConflict = Ok (answers.Refused refusals.NoConflict)
refused_as (call.Moved seen now) = Ok (answers.Refused (refusals.Moved seen now))
refused_as call.Offline = Ok (answers.Refused refusals.Offline)
refused_as (call.Outstanding number) = Ok (answers.Refused (refusals.Outstanding number))
refused_as (call.Conflicted version) = Ok (answers.Refused (refusals.Conflicted version))
refused_as (call.Spent last) = Err Spent
refused_as call.Disk = Ok (answers.Refused refusals.NoDevice)
refused_as call.Memory = Err Memory

abbrev pub answered_as : Result Answer CallFault → Result Answer ClientFault
answered_as (Ok answer) = Ok answer
answered_as (Err e) = refused_as e
