-- A link that is set, and a Store or a table that is at work.
use Rattle.std.proofs.Common.{◌≡◌, ℕ, Bool, true, false, List, map, Option, Some, Result, Ok, Err, ap, ◌∙◌}
use Rattle.std.specs.Prelude.{if◌then◌else◌, option_map, IfOk}
use Rattle.std.specs.BTreeMap as tree
use Rattle.disk_trait.specs.Calls.{DiskState}
use Rattle.table_model.specs.declared.line.TextLine.{TextLine}
use Rattle.step_tables.specs.Facts.{Line}
use Rattle.step_tables.specs.Lines.{line_of}
use Rattle.world_tables.specs.World.{client_at, is_client_down, with_link}
use Rattle.wire_tables.specs.Wire.{Wire}
use Rattle.part_store.specs.declared.gatherings.Gatherings.{Gatherings}
use Rattle.part_client.specs.declared.arriving.Arriving.{Arriving}
use Rattle.node_steps.specs.declared.fault.WorldFault.{WorldFault}
use Rattle.node_steps.specs.declared.world.World.{World as Nodes}
use Rattle.node_steps.specs.Holds.{Holds as NodesHold}
use Rattle.node_steps.specs.Links as node_links
use Rattle.wire_steps.specs.declared.world.World.{World}
use Rattle.wire_steps.specs.Holds.{Holds, HoldsMemory}
use Rattle.wire_steps.specs.Links.{link_set}

-- what is in memory doesn't go by links
memory_linked : (c : ℕ) (up : Bool) (v : Wire) (gathered : tree.BTreeMap ℕ Gatherings) (arriving : tree.BTreeMap ℕ Arriving) → HoldsMemory v gathered arriving
    → HoldsMemory (record v { world = with_link c up v.world }) gathered arriving
memory_linked c true v gathered arriving m =
    record { gathers = m.gathers; arrives = m.arrives; gathers_none = m.gathers_none; arrives_none = m.arrives_none; no_table = m.no_table; no_client = m.no_client }
memory_linked c false v gathered arriving m =
    record { gathers = m.gathers; arrives = m.arrives; gathers_none = m.gathers_none; arrives_none = m.arrives_none; no_table = m.no_table; no_client = m.no_client }

pub link_held : {D : Type 0} (state : D → DiskState) (v : Wire) (old : World D) → Holds state v old → (c : ℕ) (up : Bool) (nodes : Nodes D) → NodesHold state (node_links.link_set c up v.world) nodes
    → Holds state (link_set c up v) (record old { nodes = nodes })
link_held {D} state v old h c up nodes held = go (is_client_down (client_at v.world c)) held
  where
    go : (b : Bool) → NodesHold state (if b then v.world else with_link c up v.world) nodes
        → Holds state (if b then v else record v { world = with_link c up v.world }) (record old { nodes = nodes })
    go true k = record { nodes = k; packets = h.packets; memory = h.memory }
    go false k = record { nodes = k; packets = h.packets; memory = memory_linked c up v old.gathered old.arriving h.memory }

-- the line of a table at work
pub busy_told : (lines : List TextLine) (f : ℕ → List Line) (o : Option ℕ) (table : ℕ) → map line_of lines ≡ f table → Some table ≡ o → Some (map line_of lines) ≡ option_map f o
busy_told lines f o table is at = ap (λ (l : List Line). Some l) is ∙ ap (option_map f) at

-- the same of what is so too
pub busy_as : (result : Result (Option (List TextLine)) WorldFault) (a b : Option (List Line)) → a ≡ b → IfOk result (λ found. option_map (map line_of) found ≡ a)
    → IfOk result (λ found. option_map (map line_of) found ≡ b)
busy_as (Err e) a b is k = tt
busy_as (Ok found) a b is k = k ∙ is
