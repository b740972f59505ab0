-- What an event of the wire answers and counts has such a form, and so has each of its lines.
use Rattle.std.proofs.Common.{ℕ, ◌+◌, Bool, true, false, List, [], ◌∷◌, ◌++◌, length, Option, Some, None}
use Rattle.std.specs.Prelude.{map, slice_get, option_to_list, if◌then◌else◌}
use Rattle.std.specs.List.{AllByRecursion}
use Rattle.stab_base.specs.declared.node.Node.{Node}
use Rattle.stab_base.specs.declared.node.Node.TheVariants as nodes
use Rattle.table_model.specs.declared.event.Event.{Event}
use Rattle.table_model.specs.declared.event.Event.TheVariants as events
use Rattle.step_tables.specs.Facts.{Fact, Answer, AnswerLine, FactLine}
use Rattle.step_tables.specs.Messages.{Luck, Message}
use Rattle.step_tables.specs.Messages as messages
use Rattle.step_tables.specs.StoreMoves.{StoreTask}
use Rattle.step_tables.specs.ClientMoves.{Client, ClientTask, TableDisk, table_at, seen}
use Rattle.world_tables.specs.World.{Hosted, Lucks, hosted_by, client_at, is_down, is_cut, is_client_down, first_luck, step}
use Rattle.world_tables.specs.Ready.{is_client_ready}
use Rattle.part_tables.specs.StoreParts as at_store
use Rattle.part_tables.specs.StoreParts.{StoreTaken}
use Rattle.part_tables.specs.ClientParts as at_client
use Rattle.part_tables.specs.Arriving.{Arrived, arrived, asking}
use Rattle.wire_tables.specs.Wire.{PartPacket, Wire, WireStep, PartOutbox, arriving_at, with_gathered, with_arriving, part_table, sent_lines, lines_from, lines_of, spread, any_of, whole, untaken}
use Rattle.wire_tables.specs.Wire.{completed, waits, store_taken, parted_at, by_hosted, client_taken, by_table, by_client, brought, delivered, pulling, pulled, started_with, started, wire_step}
use Rattle.form_laws.specs.Forms.{HasLineForm}
use Rattle.form_laws.proofs.Steps.{HasForm, HaveValues, carried_forms, pull_forms, step_forms}

abbrev pub HaveForms : WireStep → Type 0
HaveForms x = HasForm x.answer × AllByRecursion HasLineForm x.counted

-- ---- lines

pub all_join : {X : Type 0} (P : X → Type 0) (xs ys : List X) → AllByRecursion P xs → AllByRecursion P ys → AllByRecursion P (xs ++ ys)
all_join P [] ys here more = more
all_join P (x ∷ xs) ys here more = (here.0, all_join P xs ys here.1 more)

facts_forms : (some : List Fact) → AllByRecursion HasLineForm (map FactLine some)
facts_forms [] = tt
facts_forms (fact ∷ more) = (tt, facts_forms more)

sent_forms : (number : ℕ) (packets : List PartPacket) → AllByRecursion HasLineForm (sent_lines number packets)
sent_forms number [] = tt
sent_forms number (packet ∷ packets) = (tt, sent_forms (number + 1) packets)

outs_forms : (number : ℕ) (outs : List PartOutbox) → AllByRecursion HasLineForm (lines_from number outs)
outs_forms number [] = tt
outs_forms number (out ∷ outs) =
    let later : ℕ = number + length out.packets in
    all_join HasLineForm (map FactLine out.facts) (sent_lines number out.packets ++ lines_from later outs) (facts_forms out.facts)
    (all_join HasLineForm (sent_lines number out.packets) (lines_from later outs) (sent_forms number out.packets) (outs_forms later outs))

-- an event's answer comes first, and what it counts
pub lines_forms : (v : Wire) (x : WireStep) → HaveForms x → AllByRecursion HasLineForm (lines_of v x)
lines_forms v x forms =
    all_join HasLineForm (map AnswerLine (option_to_list x.answer)) (x.counted ++ lines_from (length v.packets) x.outs) (first x.answer forms.0)
    (all_join HasLineForm x.counted (lines_from (length v.packets) x.outs) forms.1 (outs_forms (length v.packets) x.outs))
  where
    first : (o : Option Answer) → HasForm o → AllByRecursion HasLineForm (map AnswerLine (option_to_list o))
    first None form = tt
    first (Some answer) form = (form, tt)

-- ---- a part that comes

untaken_forms : (v : Wire) (p : PartPacket) (lucks : Lucks) → HaveForms (untaken v p lucks)
untaken_forms v p lucks = carried_forms v.world (whole p (any_of (part_table p.part))) lucks.shape lucks.calls p.to

completed_forms : (v : Wire) (p : PartPacket) (message : Message) (lucks : Lucks) → HaveForms (completed v p message lucks)
completed_forms v p message lucks = carried_forms v.world (whole p message) lucks.shape lucks.calls p.to

waits_forms : (v kept : Wire) (p : PartPacket) (lucks : Lucks) (luck : Luck) → HaveForms (waits v kept p lucks luck)
waits_forms v kept p lucks messages.Done = (tt, tt)
waits_forms v kept p lucks messages.FailedBefore = untaken_forms v p lucks
waits_forms v kept p lucks messages.FailedAfter = untaken_forms v p lucks

store_forms : (v : Wire) (p : PartPacket) (lucks : Lucks) (x : StoreTaken) → HaveForms (store_taken v p lucks x)
store_forms v p lucks x = go x.taken
  where
    go : (taken : at_store.Taken) → HaveForms (store_taken v p lucks (record x { taken = taken }))
    go (at_store.Whole message) = completed_forms (with_gathered (part_table p.part) x.gatherings v) p message lucks
    go at_store.Waits = waits_forms v (with_gathered (part_table p.part) x.gatherings v) p lucks (first_luck lucks.calls)

hosted_forms : (v : Wire) (p : PartPacket) (lucks : Lucks) (o : Option Hosted) → HaveForms (by_hosted v p lucks o)
hosted_forms v p lucks None = untaken_forms v p lucks
hosted_forms v p lucks (Some hosted) = go hosted.store.agenda
  where
    go : (agenda : Option (List StoreTask)) → HaveForms (by_hosted v p lucks (Some (record hosted { store = record (hosted.store) { agenda = agenda } })))
    go None = untaken_forms v p lucks
    go (Some []) = store_forms v p lucks (parted_at v p hosted.store.disk.items)
    go (Some (task ∷ more)) = untaken_forms v p lucks

client_forms : (v : Wire) (c : ℕ) (p : PartPacket) (lucks : Lucks) (x : Arrived) → HaveForms (client_taken v c p lucks x)
client_forms v c p lucks x = go x.taken
  where
    go : (taken : at_client.Taken) → HaveForms (client_taken v c p lucks (record x { taken = taken }))
    go (at_client.Whole message) = completed_forms (with_arriving c x.arriving v) p message lucks
    go (at_client.Tears row) = pull_forms v.world c (part_table p.part) (row ∷ []) (row ∷ []) lucks.shape lucks.calls
    go at_client.Waits = waits_forms v (with_arriving c x.arriving v) p lucks (first_luck lucks.calls)

table_forms : (v : Wire) (c : ℕ) (p : PartPacket) (lucks : Lucks) (o : Option TableDisk) → HaveForms (by_table v c p lucks o)
table_forms v c p lucks None = untaken_forms v p lucks
table_forms v c p lucks (Some opened) = go opened.closed
  where
    go : (closed : Bool) → HaveForms (if closed then untaken v p lucks else client_taken v c p lucks (arrived opened (arriving_at v c) p.part))
    go true = untaken_forms v p lucks
    go false = client_forms v c p lucks (arrived opened (arriving_at v c) p.part)

node_forms : (v : Wire) (c : ℕ) (p : PartPacket) (lucks : Lucks) (o : Option Client) → HaveForms (by_client v c p lucks o)
node_forms v c p lucks None = untaken_forms v p lucks
node_forms v c p lucks (Some node) = go node.agenda
  where
    go : (agenda : Option (List ClientTask)) → HaveForms (by_client v c p lucks (Some (record node { agenda = agenda })))
    go None = untaken_forms v p lucks
    go (Some []) = table_forms v c p lucks (table_at (seen node.disk) (part_table p.part))
    go (Some (task ∷ more)) = untaken_forms v p lucks

brought_forms : (v : Wire) (p : PartPacket) (lucks : Lucks) (to : Node) → HaveForms (brought v p lucks to)
brought_forms v p lucks (nodes.Store number) = go (is_down v.world (nodes.Store number))
  where
    go : (b : Bool) → HaveForms (if b then untaken v p lucks else by_hosted v p lucks (hosted_by v.world number (part_table p.part)))
    go true = untaken_forms v p lucks
    go false = hosted_forms v p lucks (hosted_by v.world number (part_table p.part))
brought_forms v p lucks (nodes.Client c) = go (is_cut v.world c)
  where
    go : (b : Bool) → HaveForms (if b then untaken v p lucks else by_client v c p lucks (client_at v.world c))
    go true = untaken_forms v p lucks
    go false = node_forms v c p lucks (client_at v.world c)
brought_forms v p lucks (nodes.Gate gate) = untaken_forms v p lucks

delivered_forms : (v : Wire) (lucks : Lucks) (o : Option PartPacket) → HaveForms (delivered v lucks o)
delivered_forms v lucks None = (tt, tt)
delivered_forms v lucks (Some p) = brought_forms v p lucks p.to

-- ---- every event

pulled_forms : (v : Wire) (c table : ℕ) (lucks : Lucks) → HaveForms (pulled v c table lucks)
pulled_forms v c table lucks = go (is_client_ready v.world c)
  where
    go : (b : Bool) → HaveForms (if b
        then spread (with_arriving c (asking table (arriving_at v c)) v) (step v.world (events.Pull c table) (pulling v c table lucks))
        else spread v (step v.world (events.Pull c table) (record lucks { tears = []; asks = [] })))
    go true = let asked : Lucks = pulling v c table lucks in pull_forms v.world c table asked.tears asked.asks lucks.shape lucks.calls
    go false = pull_forms v.world c table [] [] lucks.shape lucks.calls

started_forms : (v : Wire) → HaveValues v.world → (c : ℕ) (lucks : Lucks) → HaveForms (started v c lucks)
started_forms v values c lucks = go (is_client_down (client_at v.world c))
  where
    go : (b : Bool) → HaveForms (if b
        then started_with v c (step v.world (events.Start (nodes.Client c)) lucks)
        else spread v (step v.world (events.Start (nodes.Client c)) lucks))
    go true = step_forms v.world values (events.Start (nodes.Client c)) lucks
    go false = step_forms v.world values (events.Start (nodes.Client c)) lucks

pub wire_forms : (v : Wire) → HaveValues v.world → (event : Event) (lucks : Lucks) → HaveForms (wire_step v event lucks)
wire_forms v values (events.Deliver packet) lucks = delivered_forms v lucks (slice_get v.packets packet)
wire_forms v values (events.Pull c table) lucks = pulled_forms v c table lucks
wire_forms v values (events.Start (nodes.Client c)) lucks = started_forms v values c lucks
wire_forms v values (events.Start (nodes.Store number)) lucks = step_forms v.world values (events.Start (nodes.Store number)) lucks
wire_forms v values (events.Start (nodes.Gate gate)) lucks = step_forms v.world values (events.Start (nodes.Gate gate)) lucks
wire_forms v values other lucks = step_forms v.world values other lucks
