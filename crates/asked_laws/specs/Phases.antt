-- A client resolves the conflicts of a table from a `begin_cr` that was answered `ok` up to such an `end_cr`, or until
-- it goes down: in a crash, or where one of its disks fails.
use Rattle.std.specs.Prelude.{ℕ, ◌==◌, Bool, true, false, ◌&&◌, ◌||◌, not, List, [], ◌∷◌, ◌++◌, slice_get}
use Rattle.std.specs.Prelude.{Option, Some, None}
use Rattle.stab_base.specs.declared.node.Node.{Node}
use Rattle.stab_base.specs.declared.node.Node.TheVariants as nodes
use Rattle.table_model.specs.declared.event.Event.{Event}
use Rattle.table_model.specs.declared.event.Event.TheVariants as events
use Rattle.step_tables.specs.Facts.{Answer}
use Rattle.step_tables.specs.Facts as facts
use Rattle.step_tables.specs.ClientMoves.{Client}
use Rattle.world_tables.specs.World.{is_client_down, is_fault}
use Rattle.world_tables.specs.Turns.{Turn}
use Rattle.world_tables.specs.Quiet.{answer_in, sent_in}

-- whether a client isn't there, or is down
abbrev pub is_away : Option Client → Bool
is_away None = true
is_away (Some node) = is_client_down (Some node)

abbrev pub is_client : ℕ → Node → Bool
is_client c (nodes.Client client) = client == c
is_client c other = false

-- where a packet goes that was sent
abbrev pub goes_to : ℕ → Option Node → Bool
goes_to c None = false
goes_to c (Some node) = is_client c node

-- whether an event is one of a client, where packets were sent to these nodes: it calls it, brings it a packet, or lets
-- it work
abbrev pub is_of : ℕ → List Node → Event → Bool
is_of c sent (events.Write client table row content) = client == c
is_of c sent (events.Edit client table row edit) = client == c
is_of c sent (events.Show client table row) = client == c
is_of c sent (events.Sum client table row) = client == c
is_of c sent (events.Sync client table) = client == c
is_of c sent (events.Pull client table) = client == c
is_of c sent (events.BeginCr client table) = client == c
is_of c sent (events.Conflicts client table) = client == c
is_of c sent (events.EndCr client table) = client == c
is_of c sent (events.Resolve client table row seen choice) = client == c
is_of c sent (events.ResolveAll client table by) = client == c
is_of c sent (events.Create node table) = is_client c node
is_of c sent (events.Drop node table) = is_client c node
is_of c sent (events.Ask client table) = client == c
is_of c sent (events.Deliver packet) = goes_to c (slice_get sent packet)
is_of c sent (events.Work node) = is_client c node
is_of c sent (events.WorkAll node) = is_client c node
is_of c sent other = false

abbrev pub has_fault : Option Answer → Bool
has_fault None = false
has_fault (Some answer) = is_fault answer

-- whether a client goes down in an event with its answer
abbrev pub goes_down : ℕ → List Node → Event → Option Answer → Bool
goes_down c sent (events.Crash node calls pick) answer = is_client c node
goes_down c sent other answer = has_fault answer && is_of c sent other

-- what an event makes of the phase of a client on a table, by its answer, where the client doesn't go down
abbrev pub phase_by : ℕ → ℕ → Event → Option Answer → Bool → Bool
phase_by c t (events.BeginCr client table) (Some facts.Done) before = (client == c && table == t) || before
phase_by c t (events.EndCr client table) (Some facts.Done) before = not (client == c && table == t) && before
phase_by c t event answer before = before

abbrev pub phase_from : ℕ → ℕ → List Node → Bool → List Turn → Bool
phase_from c t sent before [] = before
phase_from c t sent before (turn ∷ turns) =
    let answer : Option Answer = answer_in turn.lines in
    phase_from c t (sent ++ sent_in turn.lines)
    (not (goes_down c sent turn.event answer) && phase_by c t turn.event answer before) turns

-- whether the phase of a client on a table is open behind these turns
abbrev pub has_phase : List Turn → ℕ → ℕ → Bool
has_phase turns c t = phase_from c t [] false turns
