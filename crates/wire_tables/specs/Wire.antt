-- The world with packets that are parts of messages. Its nodes are those of the world of whole messages, and what they
-- send goes into parts. A part that comes to a node is kept in memory, or completes a whole message, which the node
-- takes as it takes any other.
use Rattle.std.specs.Prelude.{ℕ, ◌+◌, ◌&&◌, not, Bool, true, false, List, [], ◌∷◌, ◌++◌, length, map, filter, slice_get}
use Rattle.std.specs.Prelude.{Option, Some, None, option_to_list, if◌then◌else◌}
use Rattle.std.specs.List.{flat_map}
use Rattle.std.specs.Ordering.{nat_cmp}
use Rattle.std.specs.Map.{lookup}
use Rattle.std.specs.BTreeMap.{is_at, insert_entry}
use Rattle.stab_base.specs.declared.node.Node.{Node}
use Rattle.stab_base.specs.declared.node.Node.TheVariants as nodes
use Rattle.table_model.specs.declared.event.Event.{Event}
use Rattle.table_model.specs.declared.event.Event.TheVariants as events
use Rattle.table_model.specs.declared.message_name.MessageName.{MessageName}
use Rattle.table_model.specs.declared.message_name.MessageName.TheVariants as names
use Rattle.step_tables.specs.Facts.{Fact, Answer, Line, AnswerLine, FactLine}
use Rattle.step_tables.specs.Facts as facts
use Rattle.step_tables.specs.Store.{Stored}
use Rattle.step_tables.specs.StoreMoves.{StoreTask}
use Rattle.step_tables.specs.ClientMoves.{Client, ClientTask, TableDisk, table_at, seen, Next}
use Rattle.step_tables.specs.Messages.{Luck, Message, Pull, PullRequest, table_of}
use Rattle.step_tables.specs.Messages as messages
use Rattle.world_tables.specs.World.{World, Packet, Hosted, Outbox, WorldStep, Lucks, step, schema_at, hosted_at}
use Rattle.world_tables.specs.World.{hosted_by}
use Rattle.world_tables.specs.World.{client_at, scheme_in, chunk_in, is_down, is_cut, carried, call, first_luck}
use Rattle.world_tables.specs.World.{is_client_down}
use Rattle.world_tables.specs.World as world
use Rattle.world_tables.specs.Ready.{is_client_ready}
use Rattle.part_tables.specs.Parts.{Part, Asks, Responds, Pulls, Answers, BringsUp, BringsDown, AsksTorn, AnswersTorn}
use Rattle.part_tables.specs.Parts.{parts_of}
use Rattle.part_tables.specs.StoreParts.{Gathering, StoreTaken}
use Rattle.part_tables.specs.StoreParts as at_store
use Rattle.part_tables.specs.ClientParts as at_client
use Rattle.part_tables.specs.Arriving.{Arriving, Arrived, nothing_arriving, arrived, asking, unfinished, torn_rows}
use Rattle.part_tables.specs.Arriving.{with_torn}

-- a part that was sent
pub record PartPacket : Type 0 where
  pub from : Node
  pub to : Node
  pub part : Part

-- the world of the nodes, in which each message that was sent is whole; every part that was ever sent, in order; what
-- each table at the Store has gathered of requests, and what each client has in memory of what comes in parts. A table
-- or a client that isn't listed has nothing
pub record Wire : Type 0 where
  pub world : World
  pub packets : List PartPacket
  pub gathered : List (ℕ × List Gathering)
  pub arriving : List (ℕ × Arriving)

abbrev pub start : Wire
start = record { world = world.start; packets = []; gathered = []; arriving = [] }

abbrev pub or_no_gatherings : Option (List Gathering) → List Gathering
or_no_gatherings None = []
or_no_gatherings (Some gatherings) = gatherings

abbrev pub gathered_at : Wire → ℕ → List Gathering
gathered_at v table = or_no_gatherings (lookup (is_at (nat_cmp table)) v.gathered)

abbrev pub or_nothing : Option Arriving → Arriving
or_nothing None = nothing_arriving
or_nothing (Some arriving) = arriving

abbrev pub arriving_at : Wire → ℕ → Arriving
arriving_at v c = or_nothing (lookup (is_at (nat_cmp c)) v.arriving)

abbrev pub with_gathered : ℕ → List Gathering → Wire → Wire
with_gathered table gatherings v = record v { gathered = insert_entry nat_cmp v.gathered table gatherings }

abbrev pub with_arriving : ℕ → Arriving → Wire → Wire
with_arriving c arriving v = record v { arriving = insert_entry nat_cmp v.arriving c arriving }

-- ---- parts

abbrev pub part_table : Part → ℕ
part_table (Asks head) = head.table
part_table (Responds response) = response.table
part_table (Pulls pull) = pull.table
part_table (Answers head) = head.table
part_table (BringsUp f) = f.table
part_table (BringsDown f) = f.table
part_table (AsksTorn torn) = torn.table
part_table (AnswersTorn head) = head.table

abbrev pub part_name : Part → MessageName
part_name (Asks head) = names.SyncRequest
part_name (Responds response) = names.SyncResponse
part_name (Pulls pull) = names.PullRequest
part_name (Answers head) = names.PullResponse
part_name (BringsUp f) = names.ObjectFragment
part_name (BringsDown f) = names.ObjectFragment
part_name (AsksTorn torn) = names.TornRowRequest
part_name (AnswersTorn head) = names.TornRowResponse

-- the parts of a message between two nodes, in the chunks of its table
abbrev pub split : World → Packet → List PartPacket
split w packet =
    map (λ (part : Part). record { from = packet.from; to = packet.to; part = part })
    (parts_of (chunk_in (schema_at w (table_of packet.message))) packet.message)

-- ---- what an event tells and sends

pub record PartOutbox : Type 0 where
  pub facts : List Fact
  pub packets : List PartPacket

pub record WireStep : Type 0 where
  pub wire : Wire
  pub answer : Option Answer
  pub counted : List Line
  pub outs : List PartOutbox

abbrev pub sent_lines : ℕ → List PartPacket → List Line
sent_lines number [] = []
sent_lines number (packet ∷ packets) =
    FactLine (facts.Sent number packet.from packet.to (part_name packet.part)) ∷ sent_lines (number + 1) packets

abbrev pub lines_from : ℕ → List PartOutbox → List Line
lines_from number [] = []
lines_from number (out ∷ outs) =
    map FactLine out.facts ++ (sent_lines number out.packets ++ lines_from (number + length out.packets) outs)

abbrev pub lines_of : Wire → WireStep → List Line
lines_of v s = map AnswerLine (option_to_list s.answer) ++ (s.counted ++ lines_from (length v.packets) s.outs)

abbrev pub in_parts : World → Outbox → PartOutbox
in_parts w out = record { facts = out.facts; packets = flat_map (split w) out.packets }

-- ---- what is in memory is lost with the node

abbrev pub has_agenda : {X : Type 0} → Option (List X) → Bool
has_agenda None = false
has_agenda (Some agenda) = true

abbrev pub is_hosted_up : Option Hosted → Bool
is_hosted_up None = false
is_hosted_up (Some hosted) = has_agenda hosted.store.agenda

abbrev pub is_client_up : Option Client → Bool
is_client_up None = false
is_client_up (Some node) = has_agenda node.agenda

abbrev pub remembered : Wire → Wire
remembered v = record v {
  gathered = filter (λ (it : ℕ × List Gathering). is_hosted_up (hosted_at v.world it.0)) v.gathered;
  arriving = filter (λ (it : ℕ × Arriving). is_client_up (client_at v.world it.0)) v.arriving;
}

-- ---- a step of the nodes, with what it sends in parts

abbrev pub spread : Wire → WorldStep → WireStep
spread v s = record {
  wire = remembered (record v {
    world = s.world;
    packets = v.packets ++ flat_map (λ (out : Outbox). flat_map (split v.world) out.packets) s.outs;
  });
  answer = s.answer;
  counted = s.counted;
  outs = map (in_parts v.world) s.outs;
}

-- nothing is told and sent
abbrev pub still : Wire → Answer → WireStep
still v answer = record { wire = v; answer = Some answer; counted = []; outs = [] }

-- ---- deliveries

-- a message of a table, where it isn't looked at which one
abbrev pub any_of : ℕ → Message
any_of table = PullRequest (record { client = 0; table = table; position = 0 })

abbrev pub whole : PartPacket → Message → Packet
whole p message = record { from = p.from; to = p.to; message = message }

-- a node that takes nothing now, or whose disks can't be read, makes the same of each message
abbrev pub untaken : Wire → PartPacket → Lucks → WireStep
untaken v p lucks = spread v (carried v.world (whole p (any_of (part_table p.part))) lucks.shape lucks.calls p.to)

abbrev pub completed : Wire → PartPacket → Message → Lucks → WireStep
completed v p message lucks = spread v (carried v.world (whole p message) lucks.shape lucks.calls p.to)

-- a part that completes nothing is kept or dropped
abbrev pub waits : Wire → Wire → PartPacket → Lucks → Luck → WireStep
waits v kept p lucks messages.Done = still kept facts.Done
waits v kept p lucks messages.FailedBefore = untaken v p lucks
waits v kept p lucks messages.FailedAfter = untaken v p lucks

-- to a table at the Store
abbrev pub store_taken : Wire → PartPacket → Lucks → StoreTaken → WireStep
store_taken v p lucks x = by_taken x.taken
  where
    kept : Wire
    kept = with_gathered (part_table p.part) x.gatherings v

    by_taken : at_store.Taken → WireStep
    by_taken (at_store.Whole message) = completed kept p message lucks
    by_taken at_store.Waits = waits v kept p lucks (first_luck lucks.calls)

abbrev pub parted_at : Wire → PartPacket → List Stored → StoreTaken
parted_at v p items = let table : ℕ = part_table p.part in
    at_store.parted (scheme_in (schema_at v.world table)) (chunk_in (schema_at v.world table)) items
    (gathered_at v table) p.part

abbrev pub by_hosted : Wire → PartPacket → Lucks → Option Hosted → WireStep
by_hosted v p lucks None = untaken v p lucks
by_hosted v p lucks (Some hosted) = by_agenda hosted.store.agenda
  where
    by_agenda : Option (List StoreTask) → WireStep
    by_agenda (Some []) = store_taken v p lucks (parted_at v p hosted.store.disk.items)
    by_agenda other = untaken v p lucks

-- to a client that has the table opened
abbrev pub client_taken : Wire → ℕ → PartPacket → Lucks → Arrived → WireStep
client_taken v c p lucks x = by_taken x.taken
  where
    kept : Wire
    kept = with_arriving c x.arriving v

    by_taken : at_client.Taken → WireStep
    by_taken (at_client.Whole message) = completed kept p message lucks
    by_taken (at_client.Tears row) = spread kept
        (call v.world c (Next (part_table p.part) (row ∷ []) (row ∷ [])) lucks.shape lucks.calls)
    by_taken at_client.Waits = waits v kept p lucks (first_luck lucks.calls)

abbrev pub by_table : Wire → ℕ → PartPacket → Lucks → Option TableDisk → WireStep
by_table v c p lucks None = untaken v p lucks
by_table v c p lucks (Some opened) = if opened.closed then untaken v p lucks
    else client_taken v c p lucks (arrived opened (arriving_at v c) p.part)

abbrev pub by_client : Wire → ℕ → PartPacket → Lucks → Option Client → WireStep
by_client v c p lucks None = untaken v p lucks
by_client v c p lucks (Some node) = by_agenda node.agenda
  where
    by_agenda : Option (List ClientTask) → WireStep
    by_agenda (Some []) = by_table v c p lucks (table_at (seen node.disk) (part_table p.part))
    by_agenda other = untaken v p lucks

abbrev pub brought : Wire → PartPacket → Lucks → Node → WireStep
brought v p lucks (nodes.Store number) =
    if is_down v.world (nodes.Store number) then untaken v p lucks
    else by_hosted v p lucks (hosted_by v.world number (part_table p.part))
brought v p lucks (nodes.Client c) =
    if is_cut v.world c then untaken v p lucks
    else by_client v c p lucks (client_at v.world c)
brought v p lucks (nodes.Gate gate) = untaken v p lucks

abbrev pub delivered : Wire → Lucks → Option PartPacket → WireStep
delivered v lucks None = still v (facts.Refuses (facts.NoPacket (length v.packets)))
delivered v lucks (Some p) = brought v p lucks p.to

-- ---- a pull asks for what is torn

-- the rows that are told as torn, and those that are asked for
abbrev pub pulling : Wire → ℕ → ℕ → Lucks → Lucks
pulling v c table lucks = record lucks {
  tears = unfinished table (arriving_at v c);
  asks = torn_rows table (asking table (arriving_at v c));
}

abbrev pub pulled : Wire → ℕ → ℕ → Lucks → WireStep
pulled v c table lucks =
    if is_client_ready v.world c
    then spread (with_arriving c (asking table (arriving_at v c)) v)
    (step v.world (events.Pull c table) (pulling v c table lucks))
    else spread v (step v.world (events.Pull c table) (record lucks { tears = []; asks = [] }))

-- ---- a client that starts notes the row that it tells as torn, and has nothing else in memory

abbrev pub torn_by_fact : Fact → List (ℕ × List ℕ)
torn_by_fact (facts.Torn c table row) = (table, row) ∷ []
torn_by_fact other = []

abbrev pub torn_told : List Outbox → List (ℕ × List ℕ)
torn_told outs = flat_map (λ (out : Outbox). flat_map torn_by_fact out.facts) outs

abbrev pub noting : List (ℕ × List ℕ) → Arriving → Arriving
noting [] a = a
noting (torn ∷ more) a = noting more (record a { torn = with_torn torn.0 torn.1 a.torn })

abbrev pub started_with : Wire → ℕ → WorldStep → WireStep
started_with v c s = spread (with_arriving c (noting (torn_told s.outs) nothing_arriving) v) s

abbrev pub started : Wire → ℕ → Lucks → WireStep
started v c lucks = if is_client_down (client_at v.world c)
    then started_with v c (step v.world (events.Start (nodes.Client c)) lucks)
    else spread v (step v.world (events.Start (nodes.Client c)) lucks)

-- a Store that joins may take tables, and has nothing in memory: what was gathered is lost
abbrev pub store_joined : Wire → ℕ → Lucks → WireStep
store_joined v number lucks = spread (record v { gathered = [] }) (step v.world (events.Store number) lucks)

-- what an event makes of the world, where its device calls go so
abbrev pub wire_step : Wire → Event → Lucks → WireStep
wire_step v (events.Store number) lucks = store_joined v number lucks
wire_step v (events.Deliver packet) lucks = delivered v lucks (slice_get v.packets packet)
wire_step v (events.Pull c table) lucks = pulled v c table lucks
wire_step v (events.Start (nodes.Client c)) lucks = started v c lucks
wire_step v event lucks = spread v (step v.world event lucks)
