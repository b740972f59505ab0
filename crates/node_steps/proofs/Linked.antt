-- A link that is set.
use Rattle.std.proofs.Common.{◌≡◌, ℕ, Bool, true, false, [], Option, Some, refl, ap, ◌∙◌, subst}
use Rattle.std.specs.Prelude.{if◌then◌else◌}
use Rattle.disk_trait.specs.Calls.{DiskState}
use Rattle.stab_base.specs.declared.node.Node.TheVariants as nodes
use Rattle.table_model.specs.declared.line.Answer.{Answer}
use Rattle.step_tables.specs.ClientMoves.{Client}
use Rattle.step_tables.specs.Facts as facts
use Rattle.world_tables.specs.World.{WorldStep, client_at, is_client_down, with_link, linked, answered, refused}
use Rattle.world_tables.specs.World as moves
use Rattle.journal_host.specs.declared.host.ClientHost.{ClientHost}
use Rattle.journal_host.specs.Calls.{IsCalled}
use Rattle.node_steps.specs.declared.world.World.{World}
use Rattle.node_steps.specs.Holds.{Holds}
use Rattle.node_steps.specs.Links.{link_set}
use Rattle.node_steps.proofs.Clients.{held_quiet}
use Rattle.node_steps.proofs.Keeping.{linked_keeps}

link_world : (w : moves.World) (c : ℕ) (up : Bool) (node : Client) → client_at w c ≡ Some node → (linked w c up (client_at w c)).world ≡ link_set c up w
link_world w c up node at = ap (λ (o : Option Client). (linked w c up o).world) at ∙ go (is_client_down (client_at w c))
  where
    go : (b : Bool) → (λ (s : WorldStep). s.world) (if b then refused w (facts.NodeDown (nodes.Client c)) else answered (with_link c up w) facts.Done) ≡ (if b then w else with_link c up w)
    go true = refl
    go false = refl

pub link_held : {D : Type 0} (state : D → DiskState) (w : moves.World) (old : World D) → Holds state w old → (c : ℕ) (up : Bool) (node : Client) → client_at w c ≡ Some node → (mid : ClientHost D) (answer : Answer)
    → IsCalled state old.clients mid (linked w c up (client_at w c)) answer → mid.outs ≡ old.clients.outs → Holds state (link_set c up w) (record old { clients = mid })
link_held state w old h c up node at mid answer called same =
    subst (λ (x : moves.World). Holds state x (record old { clients = mid })) (link_world w c up node at)
    (held_quiet state w old h (linked w c up (client_at w c)) [] (linked_keeps w c up) mid answer called (ap (λ o. o.items) same ∙ h.clients_told))
