-- A part that comes to a node: what is handed to it, and what is kept.
use Rattle.std.proofs.Common.{◌≡◌, ◌≢◌, ℕ, zero, suc, true, false, List, [], ◌∷◌, Some, refl, sym, ◌∙◌, ap, subst}
use Rattle.std.specs.Prelude.{slice_get}
use Rattle.std.specs.List.{AllByRecursion}
use Rattle.disk_trait.specs.Calls.{DiskState}
use Rattle.stab_base.specs.declared.node.Node.{Node}
use Rattle.stab_base.specs.declared.node.Node.TheVariants as nodes
use Rattle.table_model.specs.declared.event.Event.TheVariants as events
use Rattle.step_tables.specs.Facts as facts
use Rattle.step_tables.specs.Facts.{Line}
use Rattle.step_tables.specs.Messages.{Luck}
use Rattle.step_tables.specs.Messages as messages
use Rattle.step_tables.specs.ClientMoves.{Client, TableDisk, table_at, seen}
use Rattle.world_tables.specs.Ready.{is_table_ready, is_client_ready}
use Rattle.world_tables.specs.World.{Hosted, Moved, Lucks, no_lucks, owner_of}
use Rattle.world_tables.specs.World.{hosted_at, client_at, carried, answering, failing, store_falls, client_falls}
use Rattle.world_tables.specs.World.{first_luck}
use Rattle.world_tables.specs.Passed.{first_part}
use Rattle.fair_laws.specs.Reached as fair
use Rattle.part_tables.specs.StoreParts as at_store
use Rattle.part_tables.specs.StoreParts.{StoreTaken}
use Rattle.part_tables.specs.ClientParts as at_client
use Rattle.part_tables.specs.Arriving.{Arrived, arrived}
use Rattle.part_network.specs.Packets.{HasPackets, HasPartFrame}
use Rattle.wire_tables.specs.Wire.{PartPacket, Wire, part_table, arriving_at, with_gathered, with_arriving, any_of}
use Rattle.wire_tables.specs.Wire.{store_taken, client_taken, parted_at, still, spread}
use Rattle.wire_laws.specs.Carried.{IsSent, TakesNothing, IsUntaken, IsCarriedAs, IsAtStore, IsAtClient}
use Rattle.wire_laws.specs.Carried.{IsFallen, IsFallenStore, IsFallenClient}
use Rattle.wire_laws.proofs.Carried.{reached_world, untaken_as, store_as, client_as, store_fails, client_fails}
use Rattle.node_steps.specs.declared.told.Told.{Told}
use Rattle.node_steps.specs.Faults.{AreTotals, tell_fault}
use Rattle.node_steps.proofs.Rows.{over_first}
use Rattle.wire_steps.specs.declared.world.World.{World}
use Rattle.wire_steps.specs.Holds.{Holds, HoldsMemory}
use Rattle.wire_steps.specs.Reached.{IsReached}
use Rattle.wire_steps.specs.Calls.{IsBehind, IsToCarry, IsToPull, bring_step, pull_step}
use Rattle.wire_steps.specs.Sending.{IsToTell}
use Rattle.wire_steps.specs.Views.{HasLost}
use Rattle.wire_steps.specs.Delivering.{IsSentPart, delivery, takes_at}
use Rattle.wire_steps.proofs.Handed.{IsHanded, handed_tells, handed_behind}
use Rattle.wire_steps.proofs.Remembering.{memory_store_fell, memory_client_fell}
use Rattle.wire_steps.proofs.Viewed.{owner_there, takes_both}

-- ---- a part that was sent

pub wire_reached : (v : Wire) → IsReached v → fair.IsReached v.world
wire_reached v r = reached_world v r.run r.built r.is

module _ (v : Wire) (from to : Node) (p : PartPacket) (sent : IsSentPart v from to p) where
  pub is_sent : IsSent v sent.number p
  is_sent = record { run = sent.reached.run; built = sent.reached.built; is = sent.reached.is; at = sent.at }

  pub sent_reached : fair.IsReached v.world
  sent_reached = wire_reached v sent.reached

  -- a message that is carried as one that was sent between these nodes
  pub carried_between : (m : messages.Message) → IsCarriedAs v.world p.from p.to m → IsCarriedAs v.world from to m
  carried_between m k = subst (λ (x : Node). IsCarriedAs v.world x to m) sent.from_is (subst (λ (x : Node). IsCarriedAs v.world p.from x m) sent.to_is k)

  pub step_between : (kept : Wire) (m : messages.Message) (lucks : Lucks)
      → spread kept (carried v.world (record { from = p.from; to = p.to; message = m }) lucks.shape lucks.calls p.to)
      ≡ spread kept (carried v.world (record { from = from; to = to; message = m }) lucks.shape lucks.calls to)
  step_between kept m lucks =
      ap (λ (x : Node). spread kept (carried v.world (record { from = x; to = p.to; message = m }) lucks.shape lucks.calls p.to)) sent.from_is
      ∙ ap (λ (x : Node). spread kept (carried v.world (record { from = from; to = x; message = m }) lucks.shape lucks.calls x)) sent.to_is

-- the frames of what was sent
framed_at : (ps : List PartPacket) → AllByRecursion (λ (p : PartPacket). HasPartFrame p.part) ps → (number : ℕ) (p : PartPacket) → slice_get ps number ≡ Some p → HasPartFrame p.part
framed_at [] all number p at = absurd cc
framed_at (x ∷ ps) all zero p at = let same : x ≡ p = cc in subst (λ (y : PartPacket). HasPartFrame y.part) same all.0
framed_at (x ∷ ps) all (suc number) p at = framed_at ps all.1 number p at

pub part_framed : {D : Type 0} (state : D → DiskState) (v : Wire) (world : World D) → Holds state v world → (from to : Node) (p : PartPacket) → IsSentPart v from to p → HasPartFrame p.part
part_framed state v world h from to p sent = framed_at v.packets h.packets.frames sent.number p sent.at

-- ---- a node that takes nothing of a table

module _ {D : Type 0} (state : D → DiskState) (world : World D) (v : Wire) (h : Holds state v world) (from to : Node) (p : PartPacket) (sent : IsSentPart v from to p)
    (nothing : TakesNothing v.world (part_table p.part) to) (m : messages.Message) (is : m ≡ any_of (part_table p.part)) where
  nothing_taken : IsUntaken v sent.number p
  nothing_taken = untaken_as v sent.number p (is_sent v from to p sent) to sent.to_is nothing

  pub nothing_carried : IsCarriedAs v.world from to m
  nothing_carried = carried_between v from to p sent m (subst (IsCarriedAs v.world p.from p.to) (sym is) nothing_taken.carried)

  abbrev pub untaken_carry : IsToCarry state world from to m
  untaken_carry = record { kept = v; reached = sent_reached v from to p sent; held = h; carried = nothing_carried }

  pub untaken_is : (lucks : Lucks) → delivery v sent lucks ≡ bring_step v from to m lucks
  untaken_is lucks =
      nothing_taken.step_is lucks
      ∙ (ap (λ (x : messages.Message). spread v (carried v.world (record { from = p.from; to = p.to; message = x }) lucks.shape lucks.calls p.to)) (sym is)
      ∙ step_between v from to p sent v m lucks)

-- ---- a node that takes the part

module _ (v : Wire) (store : ℕ) (from : Node) (p : PartPacket) (sent : IsSentPart v from (nodes.Store store) p) (takes : takes_at v.world store (part_table p.part) ≡ true) (hosted : Hosted)
    (there : hosted_at v.world (part_table p.part) ≡ Some hosted) where
  abbrev pub gathered : StoreTaken
  gathered = parted_at v p hosted.store.disk.items

  abbrev pub gathered_wire : Wire
  gathered_wire = with_gathered (part_table p.part) (parted_at v p hosted.store.disk.items).gatherings v

  pub at_table : IsAtStore v sent.number p hosted
  at_table = let k = takes_both v.world store (part_table p.part) takes in
      store_as v sent.number p (is_sent v from (nodes.Store store) p sent) (sent.to_is ∙ ap nodes.Store (sym k.0)) k.1 hosted there

  step_taken : (t : at_store.Taken) → (parted_at v p hosted.store.disk.items).taken ≡ t → (lucks : Lucks) → delivery v sent lucks ≡ store_taken v p lucks (record gathered { taken = t })
  step_taken t is lucks = at_table.step_is lucks ∙ ap (λ (x : at_store.Taken). store_taken v p lucks (record gathered { taken = x })) is

  module _ {D : Type 0} (state : D → DiskState) (world : World D) (h : Holds state (with_gathered (part_table p.part) (parted_at v p hosted.store.disk.items).gatherings v) world)
      (m : messages.Message) (is : at_store.Whole m ≡ (parted_at v p hosted.store.disk.items).taken) where
    abbrev pub store_carry : IsToCarry state world from (nodes.Store store) m
    store_carry = record {
      kept = gathered_wire;
      reached = sent_reached v from (nodes.Store store) p sent;
      held = h;
      carried = carried_between v from (nodes.Store store) p sent m (at_table.whole m (sym is));
    }

    pub store_carries : (lucks : Lucks) → delivery v sent lucks ≡ bring_step gathered_wire from (nodes.Store store) m lucks
    store_carries lucks = step_taken (at_store.Whole m) (sym is) lucks ∙ step_between v from (nodes.Store store) p sent gathered_wire m lucks

  pub store_waits : at_store.Waits ≡ (parted_at v p hosted.store.disk.items).taken → delivery v sent no_lucks ≡ still gathered_wire facts.Done
  store_waits is = step_taken at_store.Waits (sym is) no_lucks

module _ (v : Wire) (c : ℕ) (from : Node) (p : PartPacket) (sent : IsSentPart v from (nodes.Client c) p) (ready : is_client_ready v.world c ≡ true) (node : Client)
    (there : client_at v.world c ≡ Some node) (opened : TableDisk) (at : table_at (seen node.disk) (part_table p.part) ≡ Some opened)
    (free : opened.closed ≡ false) where
  abbrev pub came : Arrived
  came = arrived opened (arriving_at v c) p.part

  abbrev pub arrived_wire : Wire
  arrived_wire = with_arriving c (arrived opened (arriving_at v c) p.part).arriving v

  pub at_opened : IsAtClient v sent.number p c opened
  at_opened = client_as v sent.number p (is_sent v from (nodes.Client c) p sent) c sent.to_is ready node there opened at free

  step_came : (t : at_client.Taken) → (arrived opened (arriving_at v c) p.part).taken ≡ t → (lucks : Lucks) → delivery v sent lucks ≡ client_taken v c p lucks (record came { taken = t })
  step_came t is lucks = at_opened.step_is lucks ∙ ap (λ (x : at_client.Taken). client_taken v c p lucks (record came { taken = x })) is

  module _ {D : Type 0} (state : D → DiskState) (world : World D) (h : Holds state (with_arriving c (arrived opened (arriving_at v c) p.part).arriving v) world) where
    module _ (m : messages.Message) (is : at_client.Whole m ≡ (arrived opened (arriving_at v c) p.part).taken) where
      abbrev pub client_carry : IsToCarry state world from (nodes.Client c) m
      client_carry = record {
        kept = arrived_wire;
        reached = sent_reached v from (nodes.Client c) p sent;
        held = h;
        carried = carried_between v from (nodes.Client c) p sent m (at_opened.whole m (sym is));
      }

      pub client_carries : (lucks : Lucks) → delivery v sent lucks ≡ bring_step arrived_wire from (nodes.Client c) m lucks
      client_carries lucks = step_came (at_client.Whole m) (sym is) lucks ∙ step_between v from (nodes.Client c) p sent arrived_wire m lucks

    abbrev pub client_pull : IsToPull state world
    client_pull = record { kept = arrived_wire; reached = sent_reached v from (nodes.Client c) p sent; held = h }

  pub client_tears : (row : List ℕ) → at_client.Tears row ≡ (arrived opened (arriving_at v c) p.part).taken → (table : ℕ) → table ≡ part_table p.part → (lucks : Lucks)
      → delivery v sent lucks ≡ pull_step arrived_wire c table (row ∷ []) (row ∷ []) lucks
  client_tears row is table same lucks = step_came (at_client.Tears row) (sym is) lucks ∙ ap (λ (t : ℕ). pull_step arrived_wire c t (row ∷ []) (row ∷ []) lucks) (sym same)

  pub client_waits : at_client.Waits ≡ (arrived opened (arriving_at v c) p.part).taken → delivery v sent no_lucks ≡ still arrived_wire facts.Done
  client_waits is = step_came at_client.Waits (sym is) no_lucks

-- ---- a node whose disk fails where it is read

abbrev pub failed : Lucks
failed = record no_lucks { calls = messages.FailedBefore ∷ [] }

fails : first_luck (messages.FailedBefore ∷ []) ≢ messages.Done
fails e = let bad : messages.FailedBefore ≡ messages.Done = e in cc

module _ {D : Type 0} (state : D → DiskState) (images : D → ℕ → List ℕ → Type 0) (v : Wire) (number : ℕ) (falls : Moved) (k : IsFallen v number failed falls) (old mid : World D) (told : Told)
    (h : Holds state v old) (lost : HasLost state images v falls old mid told) where
  pub lost_handed : IsHanded state images v.world (answering facts.Done (failing falls)) old.nodes mid.nodes told
  lost_handed = record {
    event = events.Deliver k.packet;
    lucks = failed;
    built = tt;
    plain = tt;
    is = k.whole;
    done = lost.done;
    counted = subst (λ (ls : List Line). AreTotals state (tell_fault ls) old.nodes mid.nodes) (sym lost.done.lines_are) (record { rose = λ is. lost.rose; same = λ is. absurd cc });
    left = over_first state images v.world (first_part v.world (events.Deliver k.packet) failed) old.nodes.store.tables mid.nodes.store.tables lost.left;
  }

  pub lost_packets : HasPackets mid.network k.kept.packets
  lost_packets = subst (λ (ps : List PartPacket). HasPackets mid.network ps) (sym k.packets) (subst (λ (w : World D). HasPackets w.network v.packets) (sym lost.rest) h.packets)

  pub lost_memory : HoldsMemory (spread k.kept (answering facts.Done (failing falls))).wire old.gathered old.arriving
      → HoldsMemory (spread k.kept (answering facts.Done (failing falls))).wire mid.gathered mid.arriving
  lost_memory m = subst (λ (w : World D). HoldsMemory (spread k.kept (answering facts.Done (failing falls))).wire w.gathered w.arriving) (sym lost.rest) m

  abbrev pub lost_tells : fair.IsReached v.world → HoldsMemory (spread k.kept (answering facts.Done (failing falls))).wire old.gathered old.arriving → IsToTell state mid told
  lost_tells r m =
      handed_tells state images v.world r (answering facts.Done (failing falls)) old.nodes mid.nodes told lost_handed k.kept k.world mid lost_packets (lost_memory m)

  pub lost_behind : fair.IsReached v.world → IsBehind state images v (spread k.kept (answering facts.Done (failing falls))) old.nodes mid.nodes
  lost_behind r = handed_behind state images v.world r (answering facts.Done (failing falls)) old.nodes mid.nodes told lost_handed v k.kept refl

pub fallen_store : (v : Wire) (store : ℕ) (from : Node) (p : PartPacket) (sent : IsSentPart v from (nodes.Store store) p) → takes_at v.world store (part_table p.part) ≡ true
    → IsFallenStore v sent.number failed (part_table p.part)
fallen_store v store from p sent takes =
    let k = takes_both v.world store (part_table p.part) takes in
    store_fails v sent.number p (is_sent v from (nodes.Store store) p sent) failed (sent.to_is ∙ ap nodes.Store (sym k.0)) k.1 fails

pub fallen_client : (v : Wire) (c : ℕ) (from : Node) (p : PartPacket) (sent : IsSentPart v from (nodes.Client c) p) → is_client_ready v.world c ≡ true → IsFallenClient v sent.number failed c
fallen_client v c from p sent ready = client_fails v sent.number p (is_sent v from (nodes.Client c) p sent) failed c sent.to_is ready fails

pub store_fell_memory : {D : Type 0} (state : D → DiskState) (v : Wire) (world : World D) → Holds state v world → (number table : ℕ) → is_table_ready v.world table ≡ true
    → (k : IsFallenStore v number failed table)
    → HoldsMemory (spread k.fallen.kept (answering facts.Done (failing (store_falls (owner_of v.world table) v.world)))).wire world.gathered world.arriving
store_fell_memory state v world h number table ready k =
    memory_store_fell v world.gathered world.arriving h.memory k.fallen.kept _ table (owner_there v.world table ready) k.arriving k.others

pub client_fell_memory : {D : Type 0} (state : D → DiskState) (v : Wire) (world : World D) → Holds state v world → (number c : ℕ) (k : IsFallenClient v number failed c)
    → HoldsMemory (spread k.fallen.kept (answering facts.Done (failing (client_falls c v.world)))).wire world.gathered world.arriving
client_fell_memory state v world h number c k =
    memory_client_fell v world.gathered world.arriving h.memory k.fallen.kept _ c k.gathered k.others
