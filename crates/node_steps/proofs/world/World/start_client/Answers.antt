use Rattle.stab_base.specs.declared.node.Node.TheVariants as nodes
use Rattle.world_tables.specs.World.{started}
use Rattle.node_steps.proofs.Keeping.{started_keeps}
use Rattle.node_steps.proofs.Clients.{client_comes, client_counts, plans_told}
use Rattle.node_steps.proofs.world.World.start_client.Goals as goal

pub start-found-requires : goal.start-found-requires
start-found-requires g c = let k = c.requires.held in (k.0, k.1.clients)

pub returns-clause-done : goal.returns-clause-done
returns-clause-done g c w h =
    client_comes g.D.Disk.state w c.args.self.now h c.start-found.new.clients (λ shape lucks. started w shape lucks (nodes.Client c.args.client)) (started_keeps w c.args.client) c.end_well.new.self
    c.start-found.result c.end_well.result (c.start-found.ensures.called w h.clients (c.is_held-is_held.ensures w h)) c.end_well.ensures.told

pub returns-clause-counted : goal.returns-clause-counted
returns-clause-counted g c =
    let k = c.requires.held in
    client_counts g.D.Disk.state k.0 (λ lucks. started k.0 lucks.shape lucks.calls (nodes.Client c.args.client)) c.args.self.now c.start-found.new.clients c.args.client c.end_well.new.self
    c.start-found.result c.end_well.result c.start-found.ensures.cause c.end_well.ensures.told (returns-clause-done g c k.0 k.1)

pub returns-clause-plans : goal.returns-clause-plans
returns-clause-plans g c n plans =
    plans_told g.D.Disk.state c.start-found.new.clients c.end_well.new.self n c.end_well.ensures.nodes (c.start-found.ensures.plans n plans)
