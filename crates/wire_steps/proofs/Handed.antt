-- What is handed to the nodes, as a step of the wire.
use Rattle.std.proofs.Common.{◌≡◌, ◌⊎◌, inl, ⊎_elim, ℕ, ◌<◌, Bool, List, [], ◌∷◌, ◌++◌, map, Option, Some, None, Ok, refl, sym, ◌∙◌, ap, subst}
use Rattle.std.specs.Prelude.{option_to_list, is_some}
use Rattle.std.specs.BTreeMap as tree
use Rattle.std.specs.List.{AllByRecursion}
use Rattle.disk_trait.specs.Calls.{DiskState}
use Rattle.disk_trait.specs.Fuse.{behind, inner_of}
use Rattle.stab_base.specs.declared.node.Node.{Node}
use Rattle.stab_base.specs.declared.node.Node.TheVariants as nodes
use Rattle.row_value.specs.declared.schema.Schema.{Schema}
use Rattle.row_value.specs.Fit.{fit_of}
use Rattle.table_model.specs.declared.event.Event.{Event}
use Rattle.table_model.specs.declared.line.TextLine.{TextLine}
use Rattle.step_tables.specs.Facts.{Answer, AnswerLine}
use Rattle.step_tables.specs.Lines.{line_of}
use Rattle.step_tables.specs.Messages.{Header}
use Rattle.step_tables.specs.Messages as messages
use Rattle.step_tables.specs.ClientMoves.{Client, TableDisk, table_at, seen}
use Rattle.step_tables.specs.declared.message.Message.{Message}
use Rattle.step_tables.specs.declared.message.Message.TheVariants as kinds
use Rattle.step_tables.specs.StoreMoves.{TableStore}
use Rattle.step_tables.specs.Travels.{message_of}
use Rattle.row_store.specs.Data.{TableData}
use Rattle.store_commit.proofs.Moments.{rows_weaker}
use Rattle.store_host.specs.Calls.{FitsIn}
use Rattle.store_host.specs.declared.hosted.Hosted.{Hosted as Kept}
use Rattle.client_node.specs.Taking.{FitsTable, FitsClient}
use Rattle.client_events.specs.Fits.{FitsThere}
use Rattle.world_tables.specs.Faults.{is_fault_answer}
use Rattle.world_tables.specs.Passed.{first_part}
use Rattle.world_tables.specs.Turns.{Happening, world_from}
use Rattle.world_tables.specs.World.{World as AWorld, Packet, Hosted, Outbox, WorldStep, Lucks, start, schema_at, hosted_at}
use Rattle.world_tables.specs.World.{client_at, step}
use Rattle.name_laws.proofs.Moves as moves
use Rattle.name_laws.proofs.Moves.{IsFine}
use Rattle.name_laws.proofs.Steps.{Stepped, stores_by, holds_by, schemas_by, step_stepped}
use Rattle.fair_laws.specs.Fair.{IsFitContent}
use Rattle.fair_laws.specs.Reached.{IsBuilt}
use Rattle.fair_laws.specs.Reached as fair
use Rattle.fair_laws.specs.Worlds.{IsFair, IsFairHeader}
use Rattle.fair_laws.proofs.Worlds.{fits_opened}
use Rattle.part_network.specs.Packets.{HasPackets, most_bytes, bytes_of}
use Rattle.wire_tables.specs.Wire.{PartPacket, Wire, WireStep, lines_of, spread}
use Rattle.wire_laws.specs.Carried.{IsFit, HaveSameTables, store_of}
use Rattle.wire_laws.proofs.Founded.{ground}
use Rattle.wire_laws.proofs.Ground.{IsGround}
use Rattle.wire_laws.proofs.Keeping.{schemas_stay, sends_or_declares}
use Rattle.node_steps.specs.declared.told.Told.{Told}
use Rattle.node_steps.specs.declared.world.World.{World as Nodes}
use Rattle.node_steps.specs.Calls as calls
use Rattle.node_steps.specs.Faults.{AreTotals, tell_fault}
use Rattle.node_steps.specs.Fits.{FitsNode}
use Rattle.node_steps.specs.Rows.{HasSome, HasSomeAt, AreLeftOver}
use Rattle.node_steps.specs.Told.{answer_lines}
use Rattle.wire_steps.specs.declared.world.World.{World}
use Rattle.wire_steps.specs.Holds.{Holds, HoldsMemory}
use Rattle.wire_steps.specs.Calls.{RowsOver, IsBehind, IsDone, IsPast}
use Rattle.wire_steps.specs.Sending.{packets_in, parts_in, IsToTell, IsTold}
use Rattle.wire_steps.proofs.Orders.{IsPlain}
use Rattle.wire_steps.proofs.Lasting.{Grows, grows_last, plain_lasts}
use Rattle.wire_steps.proofs.Remembering.{memory_grown}

-- ---- worlds that a script leads to

built_push : (run : List Happening) (h : Happening) → AllByRecursion (λ (x : Happening). IsBuilt x.event) run → IsBuilt h.event
    → AllByRecursion (λ (x : Happening). IsBuilt x.event) (run ++ h ∷ [])
built_push [] h all here = (here, tt)
built_push (first ∷ run) h all here = (all.0, built_push run h all.1 here)

world_push : (h : Happening) (run : List Happening) (w : AWorld) → world_from w (run ++ h ∷ []) ≡ (step (world_from w run) h.event h.lucks).world
world_push h [] w = refl
world_push h (first ∷ run) w = world_push h run (step w first.event first.lucks).world

pub reached_next : (w : AWorld) (event : Event) (lucks : Lucks) → fair.IsReached w → IsBuilt event → fair.IsReached (step w event lucks).world
reached_next w event lucks r built =
    let h : Happening = record { event = event; lucks = lucks } in
    record {
      run = r.run ++ h ∷ [];
      built = built_push r.run h r.built built;
      is = ap (λ (x : AWorld). (step x event lucks).world) r.is ∙ sym (world_push h r.run start);
    }

pub reached_ground : (w : AWorld) → fair.IsReached w → IsGround w
reached_ground w r = subst IsGround (sym r.is) (ground r.run r.built)

-- a table that isn't there behind an event wasn't there
pub hosted_stays : (w : AWorld) → fair.IsReached w → (event : Event) (lucks : Lucks) → IsBuilt event → (t : ℕ) → hosted_at (step w event lucks).world t ≡ None → hosted_at w t ≡ None
hosted_stays w r event lucks built t none = go (hosted_at w t) refl
  where
    behind : IsGround (step w event lucks).world
    behind = reached_ground (step w event lucks).world (reached_next w event lucks r built)

    go : (o : Option Hosted) → hosted_at w t ≡ o → hosted_at w t ≡ None
    go None at = at
    go (Some hosted) at =
        let d = (reached_ground w r).declared t hosted at in
        absurd (let both : Some d.0 ≡ None = sym (schemas_stay w (reached_ground w r) event lucks t d.0 d.1) ∙ behind.unhosted t none in cc)

flat_packets : (outs : List Outbox) → moves.packets_in outs ≡ packets_in outs
flat_packets [] = refl
flat_packets (out ∷ outs) = ap (λ (ps : List Packet). out.packets ++ ps) (flat_packets outs)

module _ (w : AWorld) (r : fair.IsReached w) (event : Event) (lucks : Lucks) where
  stepped_so : Stepped w (stores_by w event) (holds_by w event lucks) (schemas_by w event lucks) (step w event lucks)
  stepped_so = step_stepped w event lucks (reached_ground w r).fine

  pub step_sent : (step w event lucks).world.packets ≡ w.packets ++ packets_in (step w event lucks).outs
  step_sent = stepped_so.packets ∙ ap (λ (ps : List Packet). w.packets ++ ps) (flat_packets (step w event lucks).outs)

  pub step_sizes : ((step w event lucks).outs ≡ []) ⊎ ((step w event lucks).world.schemas ≡ w.schemas)
  step_sizes = sends_or_declares w (reached_ground w r) event lucks

  -- whether its lines say that a device failed
  pub fault_told : tell_fault (answer_lines (step w event lucks)) ≡ is_fault_answer (step w event lucks).answer
  fault_told = go (step w event lucks).answer refl
    where
      s : WorldStep
      s = step w event lucks

      go : (a : Option Answer) → (step w event lucks).answer ≡ a → tell_fault (map AnswerLine (option_to_list a) ++ (step w event lucks).counted) ≡ is_fault_answer a
      go (Some a) is = refl
      go None is = ap tell_fault (stepped_so.unanswered is).0

-- ---- a step of the nodes that starts and declares nothing

-- the nodes made it, and what it told is to be told
pub record IsHanded {D : Type 0} (state : D → DiskState) (images : D → ℕ → List ℕ → Type 0) (w : AWorld) (s : WorldStep) (old new : Nodes D) (told : Told) : Type 0 where
  pub event : Event
  pub lucks : Lucks
  pub built : IsBuilt event
  pub plain : IsPlain event
  pub is : s ≡ step w event lucks
  pub done : calls.IsDone state w s told new
  pub counted : AreTotals state (tell_fault (map line_of told.lines)) old new
  pub left : AreLeftOver state images w (first_part w event lucks) old.store.tables new.store.tables

module _ {D : Type 0} (state : D → DiskState) (images : D → ℕ → List ℕ → Type 0) (w : AWorld) (r : fair.IsReached w) (s : WorldStep) (old new : Nodes D) (told : Told)
    (k : IsHanded state images w s old new told) where
  handed_grows : Grows (λ q. ⊥) w s.world
  handed_grows = subst (λ (x : WorldStep). Grows (λ q. ⊥) w x.world) (sym k.is)
      (grows_last (λ q. ⊥) w (step w k.event k.lucks).world (plain_lasts (λ q. ⊥) w k.event k.lucks k.plain))

  pub handed_reached : fair.IsReached s.world
  handed_reached = subst (λ (x : WorldStep). fair.IsReached x.world) (sym k.is) (reached_next w k.event k.lucks r k.built)

  pub handed_sent : (kept : Wire) → kept.world ≡ w → s.world.packets ≡ kept.world.packets ++ packets_in s.outs
  handed_sent kept same = subst (λ (x : AWorld). s.world.packets ≡ x.packets ++ packets_in s.outs) (sym same)
      (subst (λ (x : WorldStep). x.world.packets ≡ w.packets ++ packets_in x.outs) (sym k.is) (step_sent w r k.event k.lucks))

  pub handed_sizes : (kept : Wire) → kept.world ≡ w → (s.outs ≡ []) ⊎ (s.world.schemas ≡ kept.world.schemas)
  handed_sizes kept same = subst (λ (x : AWorld). (s.outs ≡ []) ⊎ (s.world.schemas ≡ x.schemas)) (sym same)
      (subst (λ (x : WorldStep). (x.outs ≡ []) ⊎ (x.world.schemas ≡ w.schemas)) (sym k.is) (step_sizes w r k.event k.lucks))

  pub handed_memory : (kept : Wire) → kept.world ≡ w → (world : World D) → Holds state kept world → HoldsMemory (spread kept s).wire world.gathered world.arriving
  handed_memory kept same world h = memory_grown kept world.gathered world.arriving h.memory s.world (kept.packets ++ parts_in kept.world s.outs)
      (subst (λ (x : AWorld). Grows (λ q. ⊥) x s.world) (sym same) handed_grows)

  -- where that is in memory which the wire behind it has
  abbrev pub handed_tells : (kept : Wire) → kept.world ≡ w → (world : World D) → HasPackets world.network kept.packets → HoldsMemory (spread kept s).wire world.gathered world.arriving
      → IsToTell state (record world { nodes = new }) told
  handed_tells kept same world packets memory = record {
    kept = kept;
    s = s;
    reached = handed_reached;
    lines_are = k.done.lines_are;
    outs_are = k.done.outs_are;
    held = k.done.held;
    packets = packets;
    memory = memory;
    sent = handed_sent kept same;
    sizes = handed_sizes kept same;
  }

  pub handed_behind : (v kept : Wire) → v.world ≡ w → IsBehind state images v (spread kept s) old new
  handed_behind v kept same = record {
    held = k.done.held;
    tables = λ table. k.done.tables table ∙ sym (ap (λ (x : AWorld). is_some (hosted_at x table)) same);
    clients = λ c. k.done.clients c ∙ sym (ap (λ (x : AWorld). is_some (client_at x c)) same);
    counted = subst (λ (b : Bool). AreTotals state b old new)
        (ap tell_fault (k.done.lines_are ∙ ap answer_lines k.is) ∙ (fault_told w r k.event k.lucks ∙ ap (λ (x : WorldStep). is_fault_answer x.answer) (sym k.is))) k.counted;
    rows = subst (λ (x : AWorld). RowsOver state images x s.world old new) (sym same)
        (record { event = k.event; lucks = k.lucks; behind = ap (λ (x : WorldStep). x.world) (sym k.is); left = k.left });
  }

-- it is told, or too much is sent
pub told_done : {D : Type 0} (state : D → DiskState) (images : D → ℕ → List ℕ → Type 0) (v : Wire) (s : WireStep) (kept : Wire) (x : WorldStep) (old new : World D) (mid : Nodes D) (lines : List TextLine)
    → s ≡ spread kept x → kept.packets ≡ v.packets → new.nodes ≡ mid → IsBehind state images v (spread kept x) old.nodes mid → IsTold state kept x lines new → IsDone state images v s lines old new
told_done {D} state images v s kept x old new mid lines is packets same b t =
    subst (λ (y : WireStep). IsDone state images v y lines old new) (sym is) (record {
      behind = subst (λ (n : Nodes D). IsBehind state images v (spread kept x) old.nodes n) (sym same) b;
      lines_are = t.lines_are ∙ ap (λ (ps : List PartPacket). lines_of (record v { packets = ps }) (spread kept x)) packets;
      held = t.held;
    })

pub told_past : {D : Type 0} (state : D → DiskState) (images : D → ℕ → List ℕ → Type 0) (v : Wire) (s : WireStep) (kept : Wire) (x : WorldStep) (old new : World D) (mid : Nodes D)
    → s ≡ spread kept x → new.nodes ≡ mid → IsBehind state images v (spread kept x) old.nodes mid → most_bytes < bytes_of (spread kept x).wire.packets → IsPast state images v s old new
told_past {D} state images v s kept x old new mid is same b over =
    subst (λ (y : WireStep). IsPast state images v y old new) (sym is)
    (record { behind = subst (λ (n : Nodes D). IsBehind state images v (spread kept x) old.nodes n) (sym same) b; over = over })

-- ---- what is left of the rows

module _ {D : Type 0} (state : D → DiskState) (images : D → ℕ → List ℕ → Type 0) where
  -- in a world with the same tables
  some_same : (w other : AWorld) → HaveSameTables w other → (table : ℕ) (hosted : Hosted) → hosted_at w table ≡ Some hosted → (schema : Schema) (held : TableData)
      → HasSomeAt other table schema held → HasSome hosted schema held
  some_same w other same table hosted at schema held x =
      let both : Some x.hosted.store ≡ Some hosted.store = sym (ap store_of x.at) ∙ (same table ∙ ap store_of at) in
      let stores : x.hosted.store ≡ hosted.store = cc in
      subst (λ (s : TableStore). HasSome (record hosted { store = s }) schema held) stores x.some

  pub left_same : (w other any : AWorld) (old new : tree.BTreeMap ℕ (Kept D)) → HaveSameTables w other → AreLeftOver state images w other old new → AreLeftOver state images w any old new
  left_same w other any old new same k = record {
    rows = λ table hosted before after at made was is.
        rows_weaker (λ f. behind state f) (λ f. images (inner_of f)) before.node.devs after.node.devs
        (λ held. HasSome hosted before.node.schema held ⊎ HasSomeAt other table before.node.schema held)
        (λ held. HasSome hosted before.node.schema held ⊎ HasSomeAt any table before.node.schema held)
        (k.rows table hosted before after at made was is)
        (λ held x. ⊎_elim (λ here. inl here) (λ there. inl (some_same w other same table hosted at before.node.schema held there)) x);
  }

-- ---- a message fits the node it is for

module _ (w : AWorld) (f : IsFair w) where
  row_fits : (table : ℕ) (c : ℕ) (s : Client) → client_at w c ≡ Some s → (o : Option TableDisk) → table_at (seen s.disk) table ≡ o → (header : Option Header)
      → IsFairHeader (schema_at w) table header → FitsTable o header
  row_fits table c s there None at header fits = tt
  row_fits table c s there (Some t) at None fits = tt
  row_fits table c s there (Some t) at (Some header) fits =
      let row = (fits header refl).1 in
      let both : Some row.0 ≡ Some t.schema = sym row.1 ∙ fits_opened (schema_at w) c s (f.clients c s there) table t at in
      let same : row.0 ≡ t.schema = cc in
      subst (λ (schema : Schema). IsFitContent schema header.content) same row.2

  client_fits : (c : ℕ) (s : Client) → client_at w c ≡ Some s → (from : Node) (m : messages.Message) → IsFit (schema_at w) from m → FitsClient s.disk m
  client_fits c s there from (messages.SyncRequest q) fits = tt
  client_fits c s there from (messages.SyncResponse q) fits = tt
  client_fits c s there from (messages.PullRequest q) fits = tt
  client_fits c s there from (messages.PullResponse q) fits = row_fits q.table c s there (table_at (seen s.disk) q.table) refl q.header fits
  client_fits c s there from (messages.TornRowRequest q) fits = tt
  client_fits c s there from (messages.TornRowResponse q) fits = row_fits q.table c s there (table_at (seen s.disk) q.table) refl q.header fits

  there_fits : (c : ℕ) (from : Node) (message : Message) → IsFit (schema_at w) from (message_of message) → (o : Option Client) → client_at w c ≡ o → FitsThere o message
  there_fits c from message fits None at = tt
  there_fits c from message fits (Some s) at = client_fits c s at from (message_of message) fits

  store_fits : (from : Node) (message : Message) → IsFit (schema_at w) from (message_of message) → FitsIn w message
  store_fits from (kinds.SyncRequest q) fits = (
    λ schema at.
        let both : Some fits.0.0 ≡ Some schema = sym fits.0.1 ∙ at in
        let same : fits.0.0 ≡ schema = cc in
        subst (λ (x : Schema). fit_of x q.content ≡ Ok tt) same fits.0.2,
    fits.1,
  )
  store_fits from (kinds.PullRequest q) fits = tt
  store_fits from (kinds.SyncResponse q) fits = tt
  store_fits from (kinds.PullResponse q) fits = tt
  store_fits from (kinds.TornRowRequest q) fits = tt
  store_fits from (kinds.TornRowResponse q) fits = tt

  pub node_fits : (from to : Node) (message : Message) → IsFit (schema_at w) from (message_of message) → FitsNode w to message
  node_fits from (nodes.Store number) message fits = store_fits from message fits
  node_fits from (nodes.Client c) message fits = there_fits c from message fits (client_at w c) refl
  node_fits from (nodes.Gate gate) message fits = tt
