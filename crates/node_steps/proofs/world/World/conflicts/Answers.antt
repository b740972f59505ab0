use Rattle.std.proofs.Common.{suc}
use Rattle.step_tables.specs.ClientMoves.{Conflicts}
use Rattle.table_model.specs.declared.event.Event.TheVariants as events
use Rattle.world_tables.specs.World.{call, step}
use Rattle.node_steps.proofs.Keeping.{call_keeps}
use Rattle.node_steps.proofs.Clients.{client_lists, lists_count, limit_spent, left_spent, plans_told}
use Rattle.node_steps.proofs.world.World.conflicts.Goals as goal

pub conflicts-found-requires : goal.conflicts-found-requires
conflicts-found-requires g c = let k = c.requires.held in record { clients = (k.0, k.1.clients); none = c.new-pairs.ensures }

pub returns-clause-done : goal.returns-clause-done
returns-clause-done g c w h =
    client_lists g.D.Disk.state w c.args.self.now h c.conflicts-found.new.clients (call w c.args.client (Conflicts c.args.table))
    (call_keeps w c.args.client (Conflicts c.args.table)) c.end_pairs.new.self c.conflicts-found.new.pairs c.conflicts-found.result c.end_pairs.result (c.conflicts-found.ensures.called w h.clients) c.end_pairs.ensures.told

pub returns-clause-counted : goal.returns-clause-counted
returns-clause-counted g c =
    let k = c.requires.held in
    lists_count g.D.Disk.state k.0 (step k.0 (events.Conflicts c.args.client c.args.table)) c.args.self.now c.conflicts-found.new.clients c.args.client c.end_pairs.new.self
    c.conflicts-found.new.pairs c.conflicts-found.result c.end_pairs.result c.conflicts-found.ensures.cause c.end_pairs.ensures.told (returns-clause-done g c k.0 k.1)

pub returns-clause-left : goal.returns-clause-left
returns-clause-left g c w h =
    left_spent g.D.Disk.state c.args.self.now c.conflicts-found.new.clients c.args.client c.end_pairs.new.self c.conflicts-found.result c.end_pairs.result c.end_pairs.ensures.spent w h
    (c.conflicts-found.ensures.kept w h.clients) c.conflicts-found.ensures.cause c.end_pairs.ensures.only

pub returns-clause-limit : goal.returns-clause-limit
returns-clause-limit g c w n h plans =
    limit_spent g.D.Disk.state c.args.self.now c.conflicts-found.new.clients c.args.client c.end_pairs.new.self c.conflicts-found.result c.end_pairs.result c.end_pairs.ensures.spent w n
    (c.conflicts-found.ensures.spent w n h.clients plans)

pub returns-clause-plans : goal.returns-clause-plans
returns-clause-plans g c n plans =
    plans_told g.D.Disk.state c.conflicts-found.new.clients c.end_pairs.new.self (suc n) c.end_pairs.ensures.nodes (c.conflicts-found.ensures.plans n plans)
