-- The nodes behind an event of which nothing of them changes, or a link alone, and behind one of the wire.
use Rattle.std.proofs.Common.{◌≡◌, ℕ, ◌<◌, Bool, true, false, List, refl, sym, ◌∙◌, subst}
use Rattle.std.specs.Prelude.{is_some, if◌then◌else◌}
use Rattle.std.specs.Ordering.{nat_cmp}
use Rattle.std.specs.BTreeMap.{insert_entry}
use Rattle.disk_trait.specs.Calls.{DiskState}
use Rattle.disk_trait.specs.Image.{IsImage}
use Rattle.stab_base.specs.declared.node.Node.TheVariants as nodes
use Rattle.table_model.specs.declared.event.Event.{Event}
use Rattle.table_model.specs.declared.event.Event.TheVariants as events
use Rattle.world_tables.specs.World.{World as AWorld, Lucks, no_lucks, client_at, is_client_down, with_link}
use Rattle.fair_laws.specs.Reached as fair
use Rattle.wire_tables.specs.Wire.{Wire, wire_step}
use Rattle.wire_tables.specs.Faults.{is_wire_fault}
use Rattle.gated_tables.specs.Devices.{Device, is_online}
use Rattle.gated_tables.specs.Net.{Net, with_device, cutting}
use Rattle.gated_laws.specs.Runs.{IsReached}
use Rattle.gated_laws.proofs.Reached.{reached_wire}
use Rattle.store_host.specs.declared.host.StoreHost.{StoreHost}
use Rattle.store_host.specs.Holds.{AreLeft}
use Rattle.node_steps.specs.Holds.{AreOut, Holds as NodesHold}
use Rattle.node_steps.specs.Rows.{RowsStay}
use Rattle.node_steps.proofs.Rows.{stay_over, over_first, none_left}
use Rattle.wire_steps.specs.Reached as wires
use Rattle.wire_steps.specs.Steps as wire_moves
use Rattle.wire_steps.proofs.Delivered.{wire_reached}
use Rattle.net_steps.specs.declared.world.World.{World}
use Rattle.net_steps.specs.Holds.{Holds}
use Rattle.net_steps.specs.Steps.{IsMoved, all_faults}

-- the wire of a world that a script leads to
pub wire_of_reached : (n : Net) → IsReached n → wires.IsReached n.wire
wire_of_reached n r = let k = reached_wire n r in record { run = k.0; built = k.1; is = k.2 }

pub world_of_reached : (n : Net) → IsReached n → fair.IsReached n.wire.world
world_of_reached n r = wire_reached n.wire (wire_of_reached n r)

out_linked : (is_out : ℕ → Bool) (c : ℕ) (up : Bool) (w : AWorld) → AreOut is_out w → AreOut is_out (with_link c up w)
out_linked is_out c true w out = record { tables = out.tables; clients = out.clients }
out_linked is_out c false w out = record { tables = out.tables; clients = out.clients }

module _ {D : Type 0} (state : D → DiskState) (images : D → ℕ → List ℕ → Type 0) where
  module _ (n : Net) (is_out : ℕ → Bool) (old new : World D) where
    linked_rows : (c : ℕ) (up : Bool) (w : AWorld) → RowsStay state images n.wire.world w old.wire.nodes new.wire.nodes
        → RowsStay state images n.wire.world (with_link c up w) old.wire.nodes new.wire.nodes
    linked_rows c true w k = λ table before after was is at made there. k table before after was is at made there
    linked_rows c false w k = λ table before after was is at made there. k table before after was is at made there

    -- the wire's event
    pub wire_moved : (event : Event) (lucks : Lucks) → wire_moves.IsMoved state images n.wire event lucks is_out old.wire new.wire
        → IsMoved state images n (is_wire_fault n.wire event lucks) (wire_step n.wire event lucks).wire is_out old new
    wire_moved event lucks m = record { held = m.held; out = m.out; rose = m.rose; same = m.same; rows = m.rows }

    -- no node has done anything more
    module _ (failed : Bool) (mid : World D) (store : new.wire.nodes.store ≡ mid.wire.nodes.store) (faults : all_faults state new ≡ all_faults state mid) where
      rows_later : (w : AWorld) → RowsStay state images n.wire.world w old.wire.nodes mid.wire.nodes → RowsStay state images n.wire.world w old.wire.nodes new.wire.nodes
      rows_later w k = subst (λ (s : StoreHost D). RowsStay state images n.wire.world w old.wire.nodes (record new.wire.nodes { store = s })) (sym store)
          (λ table before after was is at made there. k table before after was is at made there)

      pub later_moved : (v : Wire) → IsMoved state images n failed v is_out old mid → NodesHold state v.world new.wire.nodes → IsMoved state images n failed v is_out old new
      later_moved v m held = record {
        held = held;
        out = m.out;
        rose = λ is. subst (λ (k : ℕ). all_faults state old < k) (sym faults) (m.rose is);
        same = λ is. faults ∙ m.same is;
        rows = rows_later v.world m.rows;
      }

      -- what a client has of its gateway is another
      pub later_linked : (v : Net) (c : ℕ) (d : Device) → IsMoved state images n failed v.wire is_out old mid → NodesHold state (with_device c d v).wire.world new.wire.nodes
          → IsMoved state images n failed (with_device c d v).wire is_out old new
      later_linked v c d m held = go (is_client_down (client_at v.wire.world c)) held
        where
          with : Net
          with = record v { devices = insert_entry nat_cmp v.devices c d }

          cut : Net
          cut = record with { wire = cutting c (is_online d) v.wire }

          go : (b : Bool) → (λ (y : Net). NodesHold state y.wire.world new.wire.nodes) (if b then with else cut)
              → (λ (y : Net). IsMoved state images n failed y.wire is_out old new) (if b then with else cut)
          go true k = later_moved v.wire m k
          go false k = record {
            held = k;
            out = out_linked is_out c (is_online d) v.wire.world m.out;
            rose = λ is. subst (λ (f : ℕ). all_faults state old < f) (sym faults) (m.rose is);
            same = λ is. faults ∙ m.same is;
            rows = linked_rows c (is_online d) v.wire.world (rows_later v.wire.world m.rows);
          }

    module _ (only_now : (disk : D) (image : List ℕ) → images disk (state disk).moment image → IsImage (state disk).pending image) (r : IsReached n) (h : Holds state n old)
        (out : AreOut is_out n.wire.world) where
      rows_alone : new.wire.nodes.store ≡ old.wire.nodes.store → RowsStay state images n.wire.world n.wire.world old.wire.nodes new.wire.nodes
      rows_alone store =
          stay_over state images n.wire.world (world_of_reached n r) (events.Work (nodes.Gate 0)) no_lucks old.wire.nodes new.wire.nodes
          (over_first state images n.wire.world n.wire.world old.wire.nodes.store.tables new.wire.nodes.store.tables
          (subst (λ (s : StoreHost D). AreLeft state images n.wire.world old.wire.nodes.store.tables s.tables) (sym store)
          (none_left state images only_now n.wire.world old.wire.nodes.store h.wire.nodes.store)))

      pub still_moved : new.wire ≡ old.wire → IsMoved state images n false n.wire is_out old new
      still_moved same = record {
        held = rw same h.wire.nodes;
        out = out;
        rose = λ is. absurd cc;
        same = λ is. rw same refl;
        rows = rows_alone (rw same refl);
      }

      -- a client's session or link
      pub linked_moved : (c : ℕ) (d : Device) → is_some (client_at n.wire.world c) ≡ true → NodesHold state (with_device c d n).wire.world new.wire.nodes
          → new.wire.nodes.store ≡ old.wire.nodes.store → all_faults state new ≡ all_faults state old → IsMoved state images n false (with_device c d n).wire is_out old new
      linked_moved c d there held store same = go (is_client_down (client_at n.wire.world c)) held
        where
          m : Net
          m = record n { devices = insert_entry nat_cmp n.devices c d }

          cut : Net
          cut = record m { wire = cutting c (is_online d) n.wire }

          go : (b : Bool) → (λ (x : Net). NodesHold state x.wire.world new.wire.nodes) (if b then m else cut)
              → (λ (x : Net). IsMoved state images n false x.wire is_out old new) (if b then m else cut)
          go true k = record { held = k; out = out; rose = λ is. absurd cc; same = λ is. same; rows = rows_alone store }
          go false k = record {
            held = k;
            out = out_linked is_out c (is_online d) n.wire.world out;
            rose = λ is. absurd cc;
            same = λ is. same;
            rows = linked_rows c (is_online d) n.wire.world (rows_alone store);
          }
