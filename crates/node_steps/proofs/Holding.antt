-- Nodes on hold.
use Rattle.std.proofs.Common.{◌≡◌, ℕ, Bool, List, [], ◌∷◌, Result, Ok, Err, refl, sym, ◌∙◌, ap}
use Rattle.std.specs.Prelude.{IfOk, is_some, not, ◌||◌, ◌&&◌}
use Rattle.disk_trait.specs.Calls.{DiskState}
use Rattle.stab_base.specs.declared.node.Node.{Node}
use Rattle.step_tables.specs.Facts.{AnswerLine}
use Rattle.step_tables.specs.Facts as facts
use Rattle.world_tables.specs.World.{no_lucks, owner_of, answered, same_node, without_node, hosted_at, client_at}
use Rattle.world_tables.specs.World as moves
use Rattle.journal_host.proofs.Clients.{clients_stay}
use Rattle.node_steps.specs.declared.fault.WorldFault.{WorldFault}
use Rattle.node_steps.specs.declared.nodes.NodeSet.{NodeSet}
use Rattle.node_steps.specs.declared.told.Told.{Told}
use Rattle.node_steps.specs.declared.world.World.{World}
use Rattle.node_steps.specs.Nodes.{is_in, HasNodes}
use Rattle.node_steps.specs.Holds.{Holds}
use Rattle.node_steps.specs.Calls.{Comes}
use Rattle.node_steps.specs.Told.{IsOnly}
use Rattle.node_steps.proofs.Done.{no_outs_told}
use Rattle.node_steps.proofs.NodeSets.{without_has}
use Rattle.node_steps.proofs.Staying.{store_stays}

module _ {D : Type 0} (state : D → DiskState) (w : moves.World) (world : World D) (h : Holds state w world) where
  other_nodes : (holds : List Node) (held : NodeSet) → HasNodes holds held → Holds state (record w { holds = holds }) (record world { held = held })
  other_nodes holds held a = record {
    schemas = h.schemas;
    store = store_stays state w world.store w.clients w.packets holds w.cuts w.phases h.store;
    clients = clients_stay state w (record w { holds = holds }) world.clients h.clients (record { clients = refl; cuts = refl; phases = refl });
    store_told = h.store_told;
    clients_told = h.clients_told;
    held = a;
    numbered = record { both = h.numbered.both; tables = h.numbered.tables; clients = h.numbered.clients };
  }

  pub on_hold : (node : Node) (held : NodeSet) → ((q : Node) → is_in held q ≡ (same_node q node || is_in world.held q))
      → Holds state (record w { holds = node ∷ w.holds }) (record world { held = held })
  on_hold node held u = other_nodes (node ∷ w.holds) held (λ q. u q ∙ ap (λ (b : Bool). same_node q node || b) (h.held q))

  pub off_hold : (node : Node) (held : NodeSet) → ((q : Node) → is_in held q ≡ (not (same_node node q) && is_in world.held q))
      → Holds state (record w { holds = without_node w.holds node }) (record world { held = held })
  off_hold node held u = other_nodes (without_node w.holds node) held
      (λ q. u q ∙ (ap (λ (b : Bool). not (same_node node q) && b) (h.held q) ∙ sym (without_has w.holds node q)))

-- an answer alone, behind a change that tells nothing
pub answers : {D : Type 0} (state : D → DiskState) (w after : moves.World) (a : facts.Answer) (result : Result Told WorldFault) (new : World D) → Holds state after new
    → ((table : ℕ) → is_some (hosted_at after table) ≡ is_some (hosted_at w table)) → ((c : ℕ) → is_some (client_at after c) ≡ is_some (client_at w c))
    → IfOk result (IsOnly (AnswerLine a ∷ [])) → Comes state w (λ lucks. answered after a) result new
answers state w after a (Err e) new h tables clients k = tt
answers state w after a (Ok told) new h tables clients k =
    (no_lucks, record { lines_are = k.lines_are; outs_are = no_outs_told (owner_of after) told.outs k.none; held = h; tables = tables; clients = clients })
