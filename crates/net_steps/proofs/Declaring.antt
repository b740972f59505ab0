-- A Store, a table or a gateway that is declared.
use Rattle.std.proofs.Common.{◌≡◌, inl, inr, ⊎_elim, ℕ, Bool, true, false, List, Option, Some, None, Result, Ok, Err, refl, sym, ◌∙◌, ap, subst}
use Rattle.std.specs.Prelude.{is_some, if◌then◌else◌}
use Rattle.std.specs.Ordering.{nat_cmp}
use Rattle.std.specs.BTreeMap.{insert_entry}
use Rattle.disk_trait.specs.Calls.{DiskState}
use Rattle.row_value.specs.declared.schema.Schema.{Schema}
use Rattle.table_model.specs.declared.event.Event.{Event}
use Rattle.stab_base.specs.declared.node.Node.TheVariants as nodes
use Rattle.table_model.specs.declared.event.Event.TheVariants as events
use Rattle.table_model.specs.declared.table_state.TableState.{TableState}
use Rattle.table_model.specs.declared.table_state.TableState.TheVariants as states
use Rattle.table_model.specs.declared.line.TextLine.{TextLine}
use Rattle.step_tables.specs.Messages.{Luck}
use Rattle.step_tables.specs.Messages as messages
use Rattle.world_laws.proofs.Looks.{look_cases}
use Rattle.world_tables.specs.World.{World as AWorld, Hosted, Lucks, declared, made_with, schema_at, hosted_at, first_luck}
use Rattle.fair_laws.specs.Reached.{IsBuilt}
use Rattle.fair_laws.specs.Worlds.{IsFair}
use Rattle.fair_laws.proofs.Hosting.{all_after}
use Rattle.fair_laws.proofs.Worlds.{reached_fair}
use Rattle.wire_tables.specs.Wire.{WireStep, wire_step}
use Rattle.wire_tables.specs.Faults.{is_wire_fault}
use Rattle.gate_tables.specs.Gate.{Gateway}
use Rattle.gate_host.specs.declared.gates.Gates.{Gates}
use Rattle.gate_host.specs.Holds.{HoldsGates}
use Rattle.gate_host.specs.Moves.{with_schema, schema_in, added}
use Rattle.gated_tables.specs.Faults.{is_net_fault}
use Rattle.gated_tables.specs.Net.{Net, NetStep, Asker, gate_at, gate_declared, net_step, carried_on}
use Rattle.gated_laws.specs.Runs.{IsReached}
use Rattle.node_steps.specs.declared.fault.WorldFault.{WorldFault}
use Rattle.node_steps.specs.declared.fault.WorldFault.TheVariants.{Limit as LimitPassed}
use Rattle.wire_steps.specs.Calls.{IsLimitedBy}
use Rattle.wire_steps.specs.Steps as wires
use Rattle.net_network.specs.Short.{IsFramed}
use Rattle.net_steps.specs.declared.kinds.Kind.TheVariants as kinds
use Rattle.net_steps.specs.declared.world.World.{World}
use Rattle.net_steps.specs.Askers.{AreAsked, HoldsAskers}
use Rattle.net_steps.specs.Devices.{HoldsDevices}
use Rattle.net_steps.specs.Holds.{Holds, IsFramedEvent}
use Rattle.net_steps.specs.Kinds.{kind_of}
use Rattle.net_steps.specs.Steps.{IsMoved, IsDone, IsPast, IsStep, IsOver, Spends}
use Rattle.net_steps.specs.Through.{IsStood, IsThrough, IsBeyond, stores_with, schemas_with, gates_with}
use Rattle.net_steps.proofs.Moved.{world_of_reached}

-- ---- what the world has of it

declared_stores : (w : AWorld) (table : ℕ) (schema : Schema) (stage : TableState) (luck : Luck) (o : Option Hosted) → (declared w table schema stage luck o).stores ≡ w.stores
declared_stores w table schema stage luck (Some hosted) = refl
declared_stores w table schema stage messages.Done None = refl
declared_stores w table schema stage messages.FailedBefore None = refl
declared_stores w table schema stage messages.FailedAfter None = refl

made_schemas : (w : AWorld) (table : ℕ) (schema : Schema) (stage : TableState) (luck : Luck) → (made_with w table schema stage luck).schemas ≡ insert_entry nat_cmp w.schemas table schema
made_schemas w table schema stage messages.Done = refl
made_schemas w table schema stage messages.FailedBefore = refl
made_schemas w table schema stage messages.FailedAfter = refl

-- a table has a schema where it is there
declared_schemas : (w : AWorld) (table : ℕ) (schema : Schema) (stage : TableState) (luck : Luck) (o : Option Hosted) → is_some (schema_at w table) ≡ is_some o
    → (declared w table schema stage luck o).schemas ≡ with_schema table schema w.schemas
declared_schemas w table schema stage luck (Some hosted) is =
    subst (λ (b : Bool). w.schemas ≡ (if b then w.schemas else insert_entry nat_cmp w.schemas table schema)) (sym is) refl
declared_schemas w table schema stage luck None is =
    subst (λ (b : Bool). (made_with w table schema stage luck).schemas ≡ (if b then w.schemas else insert_entry nat_cmp w.schemas table schema)) (sym is) (made_schemas w table schema stage luck)

gates_added : (n : Net) (number : ℕ) (o : Option Gateway) → (gate_declared number o n).gates ≡ added number o n.gates
gates_added n number None = refl
gates_added n number (Some gateway) = refl

-- gateways know a table that was declared
table_known : (n : Net) → IsReached n → (table : ℕ) (schema : Schema) (stage : TableState) (lucks : Lucks) (gs : List (ℕ × Gateway)) (gates : Gates)
    → HoldsGates n.wire.world.stores (with_schema table schema n.wire.world.schemas) gs gates
    → (let v : AWorld = declared n.wire.world table schema stage (first_luck lucks.calls) (hosted_at n.wire.world table) in HoldsGates v.stores v.schemas gs gates)
table_known n r table schema stage lucks gs gates h =
    let w : AWorld = n.wire.world in
    let f : IsFair w = reached_fair w (world_of_reached n r) in
    subst (λ (l : List ℕ). HoldsGates l (declared w table schema stage (first_luck lucks.calls) (hosted_at w table)).schemas gs gates)
    (sym (declared_stores w table schema stage (first_luck lucks.calls) (hosted_at w table)))
    (subst (λ (l : List (ℕ × Schema)). HoldsGates w.stores l gs gates) (sym (declared_schemas w table schema stage (first_luck lucks.calls) (hosted_at w table) (f.both table))) h)

-- gateways know the Stores and the tables of the wire behind it
gates_known : (n : Net) → IsReached n → (event : Event) → kind_of event ≡ kinds.Declare → (lucks : Lucks) (gs : List (ℕ × Gateway)) (gates : Gates)
    → HoldsGates (stores_with event n.wire.world.stores) (schemas_with event n.wire.world.schemas) gs gates
    → HoldsGates (wire_step n.wire event lucks).wire.world.stores (wire_step n.wire event lucks).wire.world.schemas gs gates
gates_known n r (events.Store number) is lucks gs gates h = h
gates_known n r (events.Gate number) is lucks gs gates h = h
gates_known n r (events.Table table schema) is lucks gs gates h = table_known n r table schema states.Live lucks gs gates h
gates_known n r (events.Draft table schema) is lucks gs gates h = table_known n r table schema states.Draft lucks gs gates h
gates_known n r (events.Hold (nodes.Gate g)) is lucks gs gates h = absurd cc
gates_known n r (events.Free (nodes.Gate g)) is lucks gs gates h = absurd cc
gates_known n r (events.Work (nodes.Gate g)) is lucks gs gates h = absurd cc
gates_known n r (events.WorkAll (nodes.Gate g)) is lucks gs gates h = absurd cc
gates_known n r (events.Crash (nodes.Gate g) calls pick) is lucks gs gates h = absurd cc
gates_known n r (events.Start (nodes.Gate g)) is lucks gs gates h = absurd cc
gates_known n r (events.Start (nodes.Client d)) is lucks gs gates h = absurd cc
gates_known n r (events.Create (nodes.Client d) table) is lucks gs gates h = absurd cc
gates_known n r (events.Create (nodes.Store d) table) is lucks gs gates h = absurd cc
gates_known n r (events.Create (nodes.Gate d) table) is lucks gs gates h = absurd cc
gates_known n r (events.Drop (nodes.Client d) table) is lucks gs gates h = absurd cc
gates_known n r (events.Drop (nodes.Store d) table) is lucks gs gates h = absurd cc
gates_known n r (events.Drop (nodes.Gate d) table) is lucks gs gates h = absurd cc
gates_known n r other is lucks gs gates h = absurd cc

-- who asked is known still, and frames have room for each schema
put_asked : (askers : List (ℕ × Asker)) (schemas : List (ℕ × Schema)) (table : ℕ) (schema : Schema) → IsFramed schema → AreAsked askers schemas
    → AreAsked askers (insert_entry nat_cmp schemas table schema)
put_asked askers schemas table schema new k = record {
  each = λ t a at. let e = k.each t a at in (e.0, ⊎_elim (λ here. ap is_some here.1) (λ other. ap is_some other.1 ∙ e.1) (look_cases schemas table schema t));
  framed = all_after (λ (t : ℕ) (s : Schema). IsFramed s) schemas table schema new k.framed;
}

with_asked : (askers : List (ℕ × Asker)) (schemas : List (ℕ × Schema)) (table : ℕ) (schema : Schema) → IsFramed schema → AreAsked askers schemas → AreAsked askers (with_schema table schema schemas)
with_asked askers schemas table schema new k = go (is_some (schema_in schemas table))
  where
    go : (b : Bool) → AreAsked askers (if b then schemas else insert_entry nat_cmp schemas table schema)
    go true = k
    go false = put_asked askers schemas table schema new k

table_asked : (n : Net) → IsReached n → (table : ℕ) (schema : Schema) (stage : TableState) (lucks : Lucks) → IsFramed schema → AreAsked n.askers n.wire.world.schemas
    → AreAsked n.askers (declared n.wire.world table schema stage (first_luck lucks.calls) (hosted_at n.wire.world table)).schemas
table_asked n r table schema stage lucks new k =
    let w : AWorld = n.wire.world in
    let f : IsFair w = reached_fair w (world_of_reached n r) in
    subst (λ (l : List (ℕ × Schema)). AreAsked n.askers l) (sym (declared_schemas w table schema stage (first_luck lucks.calls) (hosted_at w table) (f.both table)))
    (with_asked n.askers w.schemas table schema new k)

asked_known : (n : Net) → IsReached n → (event : Event) → kind_of event ≡ kinds.Declare → IsBuilt event → IsFramedEvent event → (lucks : Lucks) → AreAsked n.askers n.wire.world.schemas
    → AreAsked n.askers (wire_step n.wire event lucks).wire.world.schemas
asked_known n r (events.Store number) is built framed lucks k = k
asked_known n r (events.Gate number) is built framed lucks k = k
asked_known n r (events.Table table schema) is built framed lucks k = table_asked n r table schema states.Live lucks (record { spelled = built.spelled; short = framed }) k
asked_known n r (events.Draft table schema) is built framed lucks k = table_asked n r table schema states.Draft lucks (record { spelled = built.spelled; short = framed }) k
asked_known n r (events.Hold (nodes.Gate g)) is built framed lucks k = absurd cc
asked_known n r (events.Free (nodes.Gate g)) is built framed lucks k = absurd cc
asked_known n r (events.Work (nodes.Gate g)) is built framed lucks k = absurd cc
asked_known n r (events.WorkAll (nodes.Gate g)) is built framed lucks k = absurd cc
asked_known n r (events.Crash (nodes.Gate g) calls pick) is built framed lucks k = absurd cc
asked_known n r (events.Start (nodes.Gate g)) is built framed lucks k = absurd cc
asked_known n r (events.Start (nodes.Client d)) is built framed lucks k = absurd cc
asked_known n r (events.Create (nodes.Client d) table) is built framed lucks k = absurd cc
asked_known n r (events.Create (nodes.Store d) table) is built framed lucks k = absurd cc
asked_known n r (events.Create (nodes.Gate d) table) is built framed lucks k = absurd cc
asked_known n r (events.Drop (nodes.Client d) table) is built framed lucks k = absurd cc
asked_known n r (events.Drop (nodes.Store d) table) is built framed lucks k = absurd cc
asked_known n r (events.Drop (nodes.Gate d) table) is built framed lucks k = absurd cc
asked_known n r other is built framed lucks k = absurd cc

-- ---- as a step of the wire

-- the gateways beside it
abbrev pub declared_by : Net → Event → Lucks → NetStep
declared_by n event lucks = let x : NetStep = carried_on n (wire_step n.wire event lucks) in
    record x { net = record x.net { gates = gates_with event n.gates } }

gate_step : (n : Net) (number : ℕ) (lucks : Lucks) (o : Option Gateway)
    → carried_on (gate_declared number o n) (wire_step n.wire (events.Gate number) lucks)
    ≡ (let x : NetStep = carried_on n (wire_step n.wire (events.Gate number) lucks) in record x { net = record x.net { gates = added number o n.gates } })
gate_step n number lucks None = refl
gate_step n number lucks (Some gateway) = refl

declared_step : (n : Net) (event : Event) → kind_of event ≡ kinds.Declare → (lucks : Lucks) → net_step n event lucks ≡ declared_by n event lucks
declared_step n (events.Store number) is lucks = refl
declared_step n (events.Gate number) is lucks = gate_step n number lucks (gate_at n number)
declared_step n (events.Table table schema) is lucks = refl
declared_step n (events.Draft table schema) is lucks = refl
declared_step n (events.Hold (nodes.Gate g)) is lucks = absurd cc
declared_step n (events.Free (nodes.Gate g)) is lucks = absurd cc
declared_step n (events.Work (nodes.Gate g)) is lucks = absurd cc
declared_step n (events.WorkAll (nodes.Gate g)) is lucks = absurd cc
declared_step n (events.Crash (nodes.Gate g) calls pick) is lucks = absurd cc
declared_step n (events.Start (nodes.Gate g)) is lucks = absurd cc
declared_step n (events.Start (nodes.Client d)) is lucks = absurd cc
declared_step n (events.Create (nodes.Client d) table) is lucks = absurd cc
declared_step n (events.Create (nodes.Store d) table) is lucks = absurd cc
declared_step n (events.Create (nodes.Gate d) table) is lucks = absurd cc
declared_step n (events.Drop (nodes.Client d) table) is lucks = absurd cc
declared_step n (events.Drop (nodes.Store d) table) is lucks = absurd cc
declared_step n (events.Drop (nodes.Gate d) table) is lucks = absurd cc
declared_step n other is lucks = absurd cc

declared_fault : (n : Net) (event : Event) → kind_of event ≡ kinds.Declare → (lucks : Lucks) → is_net_fault n event lucks ≡ is_wire_fault n.wire event lucks
declared_fault n (events.Store number) is lucks = refl
declared_fault n (events.Gate number) is lucks = refl
declared_fault n (events.Table table schema) is lucks = refl
declared_fault n (events.Draft table schema) is lucks = refl
declared_fault n (events.Hold (nodes.Gate g)) is lucks = absurd cc
declared_fault n (events.Free (nodes.Gate g)) is lucks = absurd cc
declared_fault n (events.Work (nodes.Gate g)) is lucks = absurd cc
declared_fault n (events.WorkAll (nodes.Gate g)) is lucks = absurd cc
declared_fault n (events.Crash (nodes.Gate g) calls pick) is lucks = absurd cc
declared_fault n (events.Start (nodes.Gate g)) is lucks = absurd cc
declared_fault n (events.Start (nodes.Client d)) is lucks = absurd cc
declared_fault n (events.Create (nodes.Client d) table) is lucks = absurd cc
declared_fault n (events.Create (nodes.Store d) table) is lucks = absurd cc
declared_fault n (events.Create (nodes.Gate d) table) is lucks = absurd cc
declared_fault n (events.Drop (nodes.Client d) table) is lucks = absurd cc
declared_fault n (events.Drop (nodes.Store d) table) is lucks = absurd cc
declared_fault n (events.Drop (nodes.Gate d) table) is lucks = absurd cc
declared_fault n other is lucks = absurd cc

declared_spends : (m : ℕ) (n : Net) (event : Event) → kind_of event ≡ kinds.Declare → wires.Spends m n.wire.world event → Spends m n event
declared_spends m n (events.Store number) is k = k
declared_spends m n (events.Gate number) is k = k
declared_spends m n (events.Table table schema) is k = k
declared_spends m n (events.Draft table schema) is k = k
declared_spends m n (events.Hold (nodes.Gate g)) is k = absurd cc
declared_spends m n (events.Free (nodes.Gate g)) is k = absurd cc
declared_spends m n (events.Work (nodes.Gate g)) is k = absurd cc
declared_spends m n (events.WorkAll (nodes.Gate g)) is k = absurd cc
declared_spends m n (events.Crash (nodes.Gate g) calls pick) is k = absurd cc
declared_spends m n (events.Start (nodes.Gate g)) is k = absurd cc
declared_spends m n (events.Start (nodes.Client d)) is k = absurd cc
declared_spends m n (events.Create (nodes.Client d) table) is k = absurd cc
declared_spends m n (events.Create (nodes.Store d) table) is k = absurd cc
declared_spends m n (events.Create (nodes.Gate d) table) is k = absurd cc
declared_spends m n (events.Drop (nodes.Client d) table) is k = absurd cc
declared_spends m n (events.Drop (nodes.Store d) table) is k = absurd cc
declared_spends m n (events.Drop (nodes.Gate d) table) is k = absurd cc
declared_spends m n other is k = absurd cc

pub limited_as : {T A B : Type 0} → (A → B) → (result : Result T WorldFault) → IsLimitedBy A result → IsLimitedBy B result
limited_as f (Ok x) k = tt
limited_as f (Err e) k = λ code count is. ⊎_elim (λ ten. inl ten) (λ spent. inr (spent.0, f spent.1)) (k code count is)

module _ {D : Type 0} (state : D → DiskState) (images : D → ℕ → List ℕ → Type 0) (n : Net) (event : Event) (kind : kind_of event ≡ kinds.Declare) (before is_out : ℕ → Bool) (old mid : World D)
    (x : IsStood state before n old) where
  pub declare_limited : (m : ℕ) (result : Result (List TextLine) WorldFault) → IsLimitedBy (wires.Spends m n.wire.world event) result → IsLimitedBy (Spends m n event) result
  declare_limited m result k = limited_as (declared_spends m n event kind) result k

  as_declared : (lucks : Lucks) (lines : List TextLine) (new : World D) → IsDone state images n (declared_by n event lucks) (is_wire_fault n.wire event lucks) lines is_out old new
      → IsDone state images n (net_step n event lucks) (is_net_fault n event lucks) lines is_out old new
  as_declared lucks lines new d =
      subst (λ (s : NetStep). IsDone state images n s (is_net_fault n event lucks) lines is_out old new) (sym (declared_step n event kind lucks))
      (subst (λ (b : Bool). IsDone state images n (declared_by n event lucks) b lines is_out old new) (sym (declared_fault n event kind lucks)) d)

  -- too much is sent
  pub declare_over : (e : WorldFault) → ((count : ℕ) → e ≡ LimitPassed 10 count → (lucks : Lucks) × IsBeyond state images n event lucks is_out old mid)
      → (count : ℕ) → e ≡ LimitPassed 10 count → IsOver state images n event is_out old mid
  declare_over e over count ten =
      let k = over count ten in
      let past : IsPast state images n (declared_by n event k.0) (is_wire_fault n.wire event k.0) is_out old mid = record { over = k.1.over; moved = k.1.moved } in (
        k.0,
        subst (λ (s : NetStep). IsPast state images n s (is_net_fault n event k.0) is_out old mid) (sym (declared_step n event kind k.0))
            (subst (λ (b : Bool). IsPast state images n (declared_by n event k.0) b is_out old mid) (sym (declared_fault n event kind k.0)) past),
      )

  -- the gateways have learned of it
  pub declare_done : IsBuilt event → IsFramedEvent event → mid ≡ record old { wire = mid.wire; network = mid.network } → (new : World D) → new ≡ record mid { gates = new.gates }
      → ((stores : List ℕ) (schemas : List (ℕ × Schema)) (gates : List (ℕ × Gateway)) → HoldsGates stores schemas gates mid.gates
      → HoldsGates (stores_with event stores) (schemas_with event schemas) (gates_with event gates) new.gates)
      → (lines : List TextLine) → (lucks : Lucks) × IsThrough state images n event lucks lines is_out old mid → IsStep state images n event lines is_out old new
  declare_done built framed rest new same told lines k = (k.0, as_declared k.0 lines new done)
    where
      s : WireStep
      s = wire_step n.wire event k.0

      known : HoldsGates (stores_with event n.wire.world.stores) (schemas_with event n.wire.world.schemas) (gates_with event n.gates) new.gates
      known = told n.wire.world.stores n.wire.world.schemas n.gates
          (subst (λ (g : Gates). HoldsGates n.wire.world.stores n.wire.world.schemas n.gates g) (sym (ap (λ (y : World D). y.gates) rest)) x.held.gates)

      behind : World D
      behind = record mid { gates = new.gates }

      moved : IsMoved state images n (is_wire_fault n.wire event k.0) s.wire is_out old behind
      moved = record { held = k.1.moved.held; out = k.1.moved.out; rose = k.1.moved.rose; same = k.1.moved.same; rows = k.1.moved.rows }

      held : Holds state (declared_by n event k.0).net behind
      held = record {
        wire = k.1.wire;
        gates = gates_known n x.reached event kind k.0 (gates_with event n.gates) new.gates known;
        devices = subst (λ (y : World D). HoldsDevices n.devices y.devices) (sym rest) x.held.devices;
        sent = k.1.carried.sent;
        short = k.1.carried.short;
        bytes = k.1.carried.bytes;
        numbered = x.held.numbered;
        askers = subst (λ (y : World D). HoldsAskers n.askers y.askers) (sym rest) x.held.askers;
        asked = asked_known n x.reached event kind built framed k.0 x.held.asked;
      }

      done : IsDone state images n (declared_by n event k.0) (is_wire_fault n.wire event k.0) lines is_out old new
      done = subst (λ (y : World D). IsDone state images n (declared_by n event k.0) (is_wire_fault n.wire event k.0) lines is_out old y) (sym same)
          (record { lines_are = k.1.carried.lines_are; held = held; moved = moved })
