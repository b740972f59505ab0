-- Each event but a declaration has an answer, whatever its lucks are.
use Rattle.std.proofs.Common.{arith, ◌≡◌, ℕ, Bool, true, false, List, [], ◌∷◌, Option, Some, None, refl}
use Rattle.std.specs.Prelude.{◌&&◌, is_some, slice_get, if◌then◌else◌}
use Rattle.conflicts.specs.declared.stored.Stored.{Stored}
use Rattle.row_value.specs.declared.schema.Schema.{Schema}
use Rattle.stab_base.specs.declared.node.Node.{Node}
use Rattle.stab_base.specs.declared.node.Node.TheVariants as nodes
use Rattle.table_model.specs.declared.event.Event.{Event}
use Rattle.table_model.specs.declared.event.Event.TheVariants as events
use Rattle.table_model.specs.declared.table_state.TableState.TheVariants as states
use Rattle.step_tables.specs.Facts as facts
use Rattle.step_tables.specs.Facts.{Answer, Refusal}
use Rattle.step_tables.specs.Messages.{Message, Luck, table_of}
use Rattle.step_tables.specs.Messages as messages
use Rattle.step_tables.specs.StoreMoves as store
use Rattle.step_tables.specs.StoreMoves.{StoreMove, StoreTask, SidePut}
use Rattle.step_tables.specs.ClientMoves as client
use Rattle.step_tables.specs.ClientMoves.{Client, ClientMove, Shape, client_step, is_cut_off, kept_out}
use Rattle.world_tables.specs.World.{World, Packet, Hosted, Moved, WorldStep, hosted_at, client_at, owner_of, hosted_by, has_store, is_down, refused, unless_down, call_there, take_read}
use Rattle.world_tables.specs.World.{take_at, to_hosted, to_there, carried}
use Rattle.world_tables.specs.World.{delivered, row_read, store_shows, chunk_names, history_lines, worked, all_worked, crashed, started, first_luck, other_lucks, answering, still}
use Rattle.world_tables.specs.World.{store_starts, client_starts, schema_at, puts_beside, opens, created, dropped, step}
use Rattle.world_tables.specs.World.{Lucks, is_cut, is_resolving, unless_cut, unless_kept, table_of_move, is_closed, closed_answer, unless_closed, calls, call, linked, listed, resolve_all}
use Rattle.world_tables.specs.World as world

abbrev IsAnswered : WorldStep → Type 0
IsAnswered s = is_some s.answer ≡ true

up_answered : (w : World) (node : Node) (s : WorldStep) → IsAnswered s → IsAnswered (unless_down w node s)
up_answered w node s k = go (is_down w node)
  where
    go : (b : Bool) → IsAnswered (if b then refused w (facts.NodeDown node) else s)
    go true = refl
    go false = k

call_answered : (w : World) (c : ℕ) (move : ClientMove) (shape : Shape) (lucks : List Luck) (o : Option Client) → IsAnswered (call_there w c move shape lucks o)
call_answered w c move shape lucks None = refl
call_answered w c move shape lucks (Some node) = up_answered w (nodes.Client c) _ (reads (first_luck lucks))
  where
    by_link : (cut : Bool) → IsAnswered (unless_cut w cut (calls w c move shape (other_lucks lucks) node))
    by_link true = refl
    by_link false = refl

    linked : WorldStep
    linked = unless_cut w (is_cut w c && is_cut_off c shape node move) (calls w c move shape (other_lucks lucks) node)

    by_phase : (out : Option Refusal) → IsAnswered (unless_kept w out linked)
    by_phase None = by_link (is_cut w c && is_cut_off c shape node move)
    by_phase (Some refusal) = refl

    kept : WorldStep
    kept = unless_kept w (kept_out (is_resolving w c) move (client_step c shape node move).answer) linked

    answer : Answer
    answer = closed_answer shape (is_cut w c) node.agenda move

    if_closed : (closed : Bool) → IsAnswered (unless_closed w closed answer kept)
    if_closed true = refl
    if_closed false = by_phase (kept_out (is_resolving w c) move (client_step c shape node move).answer)

    reads : (luck : Luck) → IsAnswered (world.reads w c luck (unless_closed w (is_closed node (table_of_move move)) answer kept))
    reads messages.Done = if_closed (is_closed node (table_of_move move))
    reads messages.FailedBefore = refl
    reads messages.FailedAfter = refl

to_there_answered : (w : World) (c : ℕ) (m : Message) (shape : Shape) (lucks : List Luck) (o : Option Client) → IsAnswered (to_there w c m shape lucks o)
to_there_answered w c m shape lucks None = refl
to_there_answered w c m shape lucks (Some node) = call_answered w c (client.Take m) shape lucks (Some node)

-- a step whose answer is another one
abbrev with_answer : WorldStep → Option Answer → WorldStep
with_answer s o = record s { answer = o }

listed_answered : (s : WorldStep) → IsAnswered s → IsAnswered (listed s)
listed_answered s k = go s.answer k
  where
    go : (o : Option Answer) → is_some o ≡ true → IsAnswered (listed (with_answer s o))
    go None k = k
    go (Some answer) k = grind (arith, k)

all_answered : (w : World) (c table : ℕ) (by : Stored) (shapes : List Shape) (lucks : List Luck) (s : WorldStep) → IsAnswered s → IsAnswered (resolve_all w c table by shapes lucks s)
all_answered w c table by shapes lucks s k = go s.answer k
  where
    go : (o : Option Answer) → is_some o ≡ true → IsAnswered (resolve_all w c table by shapes lucks (with_answer s o))
    go None k = k
    go (Some answer) k = grind (arith, k)

linked_answered : (w : World) (c : ℕ) (up : Bool) (o : Option Client) → IsAnswered (linked w c up o)
linked_answered w c up None = refl
linked_answered w c up (Some node) = up_answered w (nodes.Client c) _ refl

read_answered : (w : World) (table : ℕ) (hosted : Hosted) (move : StoreMove) (lucks : List Luck) (luck : Luck) → IsAnswered (take_read w table hosted move lucks luck)
read_answered w table hosted move lucks messages.Done = refl
read_answered w table hosted move lucks messages.FailedBefore = refl
read_answered w table hosted move lucks messages.FailedAfter = refl

to_hosted_answered : (w : World) (table : ℕ) (move : StoreMove) (lucks : List Luck) (o : Option Hosted) → IsAnswered (to_hosted w table move lucks o)
to_hosted_answered w table move lucks None = refl
to_hosted_answered w table move lucks (Some hosted) = go hosted.store.agenda
  where
    go : (agenda : Option (List StoreTask)) → IsAnswered (take_at w table hosted move lucks agenda)
    go None = refl
    go (Some []) = read_answered w table hosted move (other_lucks lucks) (first_luck lucks)
    go (Some (task ∷ tasks)) = refl

carried_answered : (w : World) (packet : Packet) (shape : Shape) (lucks : List Luck) (to : Node) → IsAnswered (carried w packet shape lucks to)
carried_answered w packet shape lucks (nodes.Store number) =
    up_answered w (nodes.Store number) _ (to_hosted_answered w (table_of packet.message) (store.Take packet.from packet.message) lucks (hosted_by w number (table_of packet.message)))
carried_answered w packet shape lucks (nodes.Client c) = to_there_answered w c packet.message shape lucks (client_at w c)
carried_answered w packet shape lucks (nodes.Gate gate) = refl

delivered_answered : (w : World) (shape : Shape) (lucks : List Luck) (o : Option Packet) → IsAnswered (delivered w shape lucks o)
delivered_answered w shape lucks None = refl
delivered_answered w shape lucks (Some packet) = carried_answered w packet shape lucks packet.to

row_answered : (w : World) (table : ℕ) (hosted : Hosted) (row : List ℕ) (luck : Luck) → IsAnswered (row_read w table hosted row luck)
row_answered w table hosted row messages.Done = refl
row_answered w table hosted row messages.FailedBefore = refl
row_answered w table hosted row messages.FailedAfter = refl

shows_answered : (w : World) (table : ℕ) (row : List ℕ) (lucks : List Luck) (o : Option Hosted) → IsAnswered (store_shows w table row lucks o)
shows_answered w table row lucks None = refl
shows_answered w table row lucks (Some hosted) = up_answered w (nodes.Store (owner_of w table)) _ (row_answered w table hosted row (first_luck lucks))

history_answered : (w : World) (table : ℕ) (o : Option Hosted) → IsAnswered (history_lines w table o)
history_answered w table None = refl
history_answered w table (Some hosted) = refl

names_answered : (w : World) (table : ℕ) (o : Option Hosted) → IsAnswered (chunk_names w table o)
names_answered w table None = refl
names_answered w table (Some hosted) = up_answered w (nodes.Store (owner_of w table)) _ refl

worked_answered : (w : World) (lucks : List Luck) (node : Node) → IsAnswered (worked w lucks node)
worked_answered w lucks (nodes.Store number) = refl
worked_answered w lucks (nodes.Gate gate) = refl
worked_answered w lucks (nodes.Client c) = refl

all_worked_answered : (w : World) (lucks : List Luck) (node : Node) → IsAnswered (all_worked w lucks node)
all_worked_answered w lucks (nodes.Store number) = refl
all_worked_answered w lucks (nodes.Gate gate) = refl
all_worked_answered w lucks (nodes.Client c) = refl

crashed_answered : (w : World) (calls : ℕ) (lucks : List Luck) (node : Node) → IsAnswered (crashed w calls lucks node)
crashed_answered w calls lucks (nodes.Store number) = refl
crashed_answered w calls lucks (nodes.Gate gate) = refl
crashed_answered w calls lucks (nodes.Client c) = refl

started_answered : (w : World) (shape : Shape) (lucks : List Luck) (node : Node) → IsAnswered (started w shape lucks node)
started_answered w shape lucks node = at node
  where
    up : (b : Bool) (m : Moved) → IsAnswered (if b then answering facts.Done m else answering facts.Done (still w))
    up true m = refl
    up false m = refl

    at : (n : Node) → IsAnswered (started w shape lucks n)
    at (nodes.Store number) = up (has_store w number && is_down w (nodes.Store number)) (store_starts number lucks w)
    at (nodes.Gate gate) = refl
    at (nodes.Client c) = up (is_down w (nodes.Client c)) (client_starts c shape lucks w)

puts_answered : (w : World) (number table : ℕ) (put : SidePut) (lucks : List Luck) → IsAnswered (puts_beside w number table put lucks)
puts_answered w number table put lucks = up_answered w (nodes.Store number) _ (to_hosted_answered w table (store.Place put) lucks (hosted_by w number table))

opens_answered : (w : World) (c table : ℕ) (shape : Shape) (lucks : List Luck) (o : Option Schema) → IsAnswered (opens w c table shape lucks o)
opens_answered w c table shape lucks None = refl
opens_answered w c table shape lucks (Some schema) = call_answered w c (client.Alter table (client.Opens schema)) shape lucks (client_at w c)

created_answered : (w : World) (table : ℕ) (shape : Shape) (lucks : List Luck) (node : Node) → IsAnswered (created w table shape lucks node)
created_answered w table shape lucks (nodes.Store number) = puts_answered w number table (store.PutState states.Live) lucks
created_answered w table shape lucks (nodes.Gate gate) = refl
created_answered w table shape lucks (nodes.Client c) = opens_answered w c table shape lucks (schema_at w table)

dropped_answered : (w : World) (table : ℕ) (shape : Shape) (lucks : List Luck) (node : Node) → IsAnswered (dropped w table shape lucks node)
dropped_answered w table shape lucks (nodes.Store number) = puts_answered w number table (store.PutState states.Dropped) lucks
dropped_answered w table shape lucks (nodes.Gate gate) = refl
dropped_answered w table shape lucks (nodes.Client c) = call_answered w c (client.Alter table client.Closes) shape lucks (client_at w c)

abbrev pub is_declaration : Event → Bool
is_declaration (events.Store number) = true
is_declaration (events.Gate number) = true
is_declaration (events.Table table schema) = true
is_declaration (events.Draft table schema) = true
is_declaration (events.Client c gate tables) = true
is_declaration other = false

pub step_answered : (w : World) (event : Event) (lucks : Lucks) → is_declaration event ≡ false → IsAnswered (step w event lucks)
step_answered w (events.Store number) lucks e = absurd cc
step_answered w (events.Gate number) lucks e = absurd cc
step_answered w (events.Table table schema) lucks e = absurd cc
step_answered w (events.Draft table schema) lucks e = absurd cc
step_answered w (events.Client c gate tables) lucks e = absurd cc
step_answered w (events.Write c table row content) lucks e = call_answered w c (client.Write table row content) lucks.shape lucks.calls (client_at w c)
step_answered w (events.Edit c table row edit) lucks e = call_answered w c (client.Change table row edit) lucks.shape lucks.calls (client_at w c)
step_answered w (events.Link c up) lucks e = linked_answered w c up (client_at w c)
step_answered w (events.Create node table) lucks e = created_answered w table lucks.shape lucks.calls node
step_answered w (events.Drop node table) lucks e = dropped_answered w table lucks.shape lucks.calls node
step_answered w (events.Save number table d terms) lucks e = puts_answered w number table (store.PutSub d terms) lucks.calls
step_answered w (events.Ask d table) lucks e = call_answered w d (client.Next table [] []) lucks.shape lucks.calls (client_at w d)
step_answered w (events.Net it) lucks e = refl
step_answered w (events.Show c table row) lucks e = call_answered w c (client.Show table row) lucks.shape lucks.calls (client_at w c)
step_answered w (events.Sum c table row) lucks e = call_answered w c (client.Sum table row) lucks.shape lucks.calls (client_at w c)
step_answered w (events.Sync c table) lucks e = call_answered w c (client.Sync table) lucks.shape lucks.calls (client_at w c)
step_answered w (events.Pull c table) lucks e = call_answered w c (client.Next table lucks.tears lucks.asks) lucks.shape lucks.calls (client_at w c)
step_answered w (events.BeginCr c table) lucks e = call_answered w c (client.BeginCr table) lucks.shape lucks.calls (client_at w c)
step_answered w (events.Conflicts c table) lucks e =
    listed_answered (call w c (client.Conflicts table) lucks.shape lucks.calls) (call_answered w c (client.Conflicts table) lucks.shape lucks.calls (client_at w c))
step_answered w (events.EndCr c table) lucks e = call_answered w c (client.EndCr table) lucks.shape lucks.calls (client_at w c)
step_answered w (events.Resolve c table row seen choice) lucks e = call_answered w c (client.Resolve table row seen choice) lucks.shape lucks.calls (client_at w c)
step_answered w (events.ResolveAll c table by) lucks e =
    all_answered w c table by lucks.shapes (other_lucks lucks.calls) (call w c (client.ResolveAll table by) lucks.shape lucks.calls)
    (call_answered w c (client.ResolveAll table by) lucks.shape lucks.calls (client_at w c))
step_answered w (events.Deliver packet) lucks e = delivered_answered w lucks.shape lucks.calls (slice_get w.packets packet)
step_answered w (events.StoreShow table row) lucks e = shows_answered w table row lucks.calls (hosted_at w table)
step_answered w (events.History table) lucks e = history_answered w table (hosted_at w table)
step_answered w (events.Chunks table) lucks e = names_answered w table (hosted_at w table)
step_answered w (events.Hold node) lucks e = up_answered w node _ refl
step_answered w (events.Free node) lucks e = up_answered w node _ refl
step_answered w (events.Work node) lucks e = up_answered w node (worked w lucks.calls node) (worked_answered w lucks.calls node)
step_answered w (events.WorkAll node) lucks e = up_answered w node (all_worked w lucks.calls node) (all_worked_answered w lucks.calls node)
step_answered w (events.Crash node calls pick) lucks e = up_answered w node (crashed w calls lucks.calls node) (crashed_answered w calls lucks.calls node)
step_answered w (events.Start node) lucks e = started_answered w lucks.shape lucks.calls node
