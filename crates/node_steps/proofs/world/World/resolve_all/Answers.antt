use Rattle.std.proofs.Common.{◌+◌, length}
use Rattle.table_model.specs.declared.event.Event.TheVariants as events
use Rattle.world_tables.specs.World.{client_at, client_pairs, step}
use Rattle.node_steps.specs.Steps.{may_begin}
use Rattle.node_steps.proofs.Keeping.{resolve_all_keeps}
use Rattle.node_steps.proofs.Clients.{client_comes_so, client_counts, limit_within, plans_told}
use Rattle.node_steps.proofs.world.World.resolve_all.Goals as goal

pub resolve_all-found-requires : goal.resolve_all-found-requires
resolve_all-found-requires g c = let k = c.requires.held in (k.0, k.1.clients)

pub returns-clause-done : goal.returns-clause-done
returns-clause-done g c w h =
    client_comes_so g.D.Disk.state w c.args.self.now h c.resolve_all-found.new.clients (step w (events.ResolveAll c.args.client c.args.table c.args.by))
    (resolve_all_keeps w c.args.client c.args.table c.args.by) c.end.new.self c.resolve_all-found.result c.end.result (c.resolve_all-found.ensures.called w h.clients) c.end.ensures.told

pub returns-clause-counted : goal.returns-clause-counted
returns-clause-counted g c =
    let k = c.requires.held in
    client_counts g.D.Disk.state k.0 (step k.0 (events.ResolveAll c.args.client c.args.table c.args.by)) c.args.self.now c.resolve_all-found.new.clients c.args.client c.end.new.self
    c.resolve_all-found.result c.end.result c.resolve_all-found.ensures.cause c.end.ensures.told (returns-clause-done g c k.0 k.1)

pub returns-clause-limit : goal.returns-clause-limit
returns-clause-limit g c w n h plans =
    limit_within g.D.Disk.state c.args.self.now c.resolve_all-found.new.clients c.args.client c.end.new.self c.resolve_all-found.result c.end.result c.end.ensures.spent w n
    (length (client_pairs (client_at w c.args.client) c.args.table)) (c.resolve_all-found.ensures.spent w n h.clients plans)

pub returns-clause-plans : goal.returns-clause-plans
returns-clause-plans g c w n h plans =
    plans_told g.D.Disk.state c.resolve_all-found.new.clients c.end.new.self (may_begin w (events.ResolveAll c.args.client c.args.table c.args.by) + n) c.end.ensures.nodes
    (c.resolve_all-found.ensures.plans w n h.clients plans)
