use Rattle.stab_base.specs.declared.node.Node.TheVariants as nodes
use Rattle.world_tables.specs.World.{all_worked}
use Rattle.node_steps.proofs.Keeping.{all_worked_keeps}
use Rattle.node_steps.proofs.Clients.{any_shape, client_comes, client_counts, plans_told}
use Rattle.node_steps.proofs.world.World.work_client_all.Goals as goal

pub work_all-found-requires : goal.work_all-found-requires
work_all-found-requires g c = let k = c.requires.held in (k.0, k.1.clients)

pub returns-clause-done : goal.returns-clause-done
returns-clause-done g c w h =
    client_comes g.D.Disk.state w c.args.self.now h c.work_all-found.new.self (λ shape lucks. all_worked w lucks (nodes.Client c.args.client)) (λ shape lucks. all_worked_keeps w c.args.client lucks) c.end_well.new.self
    c.work_all-found.result c.end_well.result
    (any_shape g.D.Disk.state c.args.self.now.clients c.work_all-found.new.self (λ lucks. all_worked w lucks (nodes.Client c.args.client)) c.work_all-found.result (c.work_all-found.ensures.called w h.clients)) c.end_well.ensures.told

pub returns-clause-counted : goal.returns-clause-counted
returns-clause-counted g c =
    let k = c.requires.held in
    client_counts g.D.Disk.state k.0 (λ lucks. all_worked k.0 lucks.calls (nodes.Client c.args.client)) c.args.self.now c.work_all-found.new.self c.args.client c.end_well.new.self
    c.work_all-found.result c.end_well.result c.work_all-found.ensures.cause c.end_well.ensures.told (returns-clause-done g c k.0 k.1)

pub returns-clause-plans : goal.returns-clause-plans
returns-clause-plans g c n plans =
    plans_told g.D.Disk.state c.work_all-found.new.self c.end_well.new.self n c.end_well.ensures.nodes (c.work_all-found.ensures.plans n plans)
