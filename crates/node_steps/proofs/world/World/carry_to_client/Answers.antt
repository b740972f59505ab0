use Rattle.std.proofs.Common.{suc}
use Rattle.step_tables.specs.Travels.{message_of}
use Rattle.world_tables.specs.World.{to_there, client_at}
use Rattle.node_steps.specs.Calls.{by_lucks}
use Rattle.node_steps.proofs.Keeping.{take_keeps}
use Rattle.node_steps.proofs.Clients.{client_comes, client_counts, limit_spent, left_spent, plans_told}
use Rattle.node_steps.proofs.world.World.carry_to_client.Goals as goal

pub deliver-found-requires : goal.deliver-found-requires
deliver-found-requires g c = let k = c.requires.held in (k.0, k.1.clients)

pub returns-clause-done : goal.returns-clause-done
returns-clause-done g c w h fits =
    let client = c.args.client in let m = message_of c.args.message in
    client_comes g.D.Disk.state w c.args.self.now h c.deliver-found.new.clients (λ shape lucks. to_there w client m shape lucks (client_at w client)) (take_keeps w client m)
    c.end.new.self c.deliver-found.result c.end.result (c.deliver-found.ensures.called w h.clients (c.is_held-is_held.ensures w h) fits) c.end.ensures.told

pub returns-clause-counted : goal.returns-clause-counted
returns-clause-counted g c =
    let k = c.requires.held in let client = c.args.client in let m = message_of c.args.message in
    client_counts g.D.Disk.state k.0 (by_lucks (λ shape lucks. to_there k.0 client m shape lucks (client_at k.0 client))) c.args.self.now c.deliver-found.new.clients client
    c.end.new.self c.deliver-found.result c.end.result c.deliver-found.ensures.cause c.end.ensures.told (returns-clause-done g c k.0 k.1 k.2)

pub returns-clause-left : goal.returns-clause-left
returns-clause-left g c w h =
    left_spent g.D.Disk.state c.args.self.now c.deliver-found.new.clients c.args.client c.end.new.self c.deliver-found.result c.end.result c.end.ensures.spent w h
    (c.deliver-found.ensures.kept w h.clients) c.deliver-found.ensures.cause c.end.ensures.only

pub returns-clause-limit : goal.returns-clause-limit
returns-clause-limit g c w n h fits plans =
    limit_spent g.D.Disk.state c.args.self.now c.deliver-found.new.clients c.args.client c.end.new.self c.deliver-found.result c.end.result c.end.ensures.spent w n
    (c.deliver-found.ensures.spent w n h.clients plans fits)

pub returns-clause-plans : goal.returns-clause-plans
returns-clause-plans g c n plans =
    plans_told g.D.Disk.state c.deliver-found.new.clients c.end.new.self (suc n) c.end.ensures.nodes (c.deliver-found.ensures.plans n plans)
