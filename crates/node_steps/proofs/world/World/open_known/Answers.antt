use Rattle.std.proofs.Common.{suc}
use Rattle.step_tables.specs.ClientMoves.{Alter, Opens}
use Rattle.world_tables.specs.World.{call}
use Rattle.node_steps.specs.Calls.{by_lucks}
use Rattle.node_steps.proofs.Keeping.{call_keeps}
use Rattle.node_steps.proofs.Clients.{client_comes, client_counts, limit_spent, left_spent, plans_told}
use Rattle.node_steps.proofs.world.World.open_known.Goals as goal

pub open-found-requires-clause-clients : goal.open-found-requires-clause-clients
open-found-requires-clause-clients g c = let k = c.requires.held in (k.0, k.1.clients)

pub returns-clause-done : goal.returns-clause-done
returns-clause-done g c w h =
    client_comes g.D.Disk.state w c.args.self.now h c.open-found.new.clients (call w c.args.client (Alter c.args.table (Opens c.args.schema)))
    (call_keeps w c.args.client (Alter c.args.table (Opens c.args.schema))) c.end.new.self c.open-found.result c.end.result (c.open-found.ensures.called w h.clients (c.is_held-is_held.ensures w h)) c.end.ensures.told

pub returns-clause-counted : goal.returns-clause-counted
returns-clause-counted g c =
    let k = c.requires.held in
    client_counts g.D.Disk.state k.0 (by_lucks (call k.0 c.args.client (Alter c.args.table (Opens c.args.schema)))) c.args.self.now c.open-found.new.clients c.args.client c.end.new.self
    c.open-found.result c.end.result c.open-found.ensures.cause c.end.ensures.told (returns-clause-done g c k.0 k.1)

pub returns-clause-left : goal.returns-clause-left
returns-clause-left g c w h =
    left_spent g.D.Disk.state c.args.self.now c.open-found.new.clients c.args.client c.end.new.self c.open-found.result c.end.result c.end.ensures.spent w h
    (c.open-found.ensures.kept w h.clients) c.open-found.ensures.cause c.end.ensures.only

pub returns-clause-limit : goal.returns-clause-limit
returns-clause-limit g c w n h plans =
    limit_spent g.D.Disk.state c.args.self.now c.open-found.new.clients c.args.client c.end.new.self c.open-found.result c.end.result c.end.ensures.spent w n
    (c.open-found.ensures.spent w n h.clients plans)

pub returns-clause-plans : goal.returns-clause-plans
returns-clause-plans g c n plans =
    plans_told g.D.Disk.state c.open-found.new.clients c.end.new.self (suc n) c.end.ensures.nodes (c.open-found.ensures.plans n plans)
