use Rattle.std.proofs.Common.{Ok, refl}
use Rattle.table_model.specs.declared.event.Event.TheVariants as events
use Rattle.world_tables.specs.World.{client_at, linked, step}
use Rattle.node_steps.proofs.Keeping.{linked_keeps}
use Rattle.node_steps.proofs.Clients.{answer_found, any_lucks, client_comes, link_cause, client_counts, plans_told}
use Rattle.node_steps.proofs.world.World.link.Goals as goal

pub returns-clause-done : goal.returns-clause-done
returns-clause-done g c w h =
    let answer = c.link-answer.result in let mid = c.link-answer.new.self in let s = linked w c.args.client c.args.up (client_at w c.args.client) in
    let called = c.link-answer.ensures.called w h.clients in
    client_comes g.D.Disk.state w c.args.self.now h mid (λ shape lucks. s) (λ shape lucks. linked_keeps w c.args.client c.args.up) c.tell_clients.new.self (Ok answer) c.tell_clients.result
    (any_lucks g.D.Disk.state c.args.self.now.clients mid s answer called)
    (answer_found g.D.Disk.state c.args.self.now c.tell_clients.new.self mid answer (Ok answer) c.tell_clients.result refl c.tell_clients.ensures.told)

pub returns-clause-counted : goal.returns-clause-counted
returns-clause-counted g c =
    let k = c.requires.held in let answer = c.link-answer.result in let mid = c.link-answer.new.self in
    client_counts g.D.Disk.state k.0 (step k.0 (events.Link c.args.client c.args.up)) c.args.self.now mid c.args.client c.tell_clients.new.self (Ok answer) c.tell_clients.result
    (link_cause g.D.Disk.state k.0 c.args.client c.args.up c.args.self.now.clients mid answer (c.link-answer.ensures.called k.0 k.1.clients) c.link-answer.ensures.counted)
    (answer_found g.D.Disk.state c.args.self.now c.tell_clients.new.self mid answer (Ok answer) c.tell_clients.result refl c.tell_clients.ensures.told) (returns-clause-done g c k.0 k.1)

pub returns-clause-plans : goal.returns-clause-plans
returns-clause-plans g c n plans =
    plans_told g.D.Disk.state c.link-answer.new.self c.tell_clients.new.self n c.tell_clients.ensures.nodes (c.link-answer.ensures.plans n plans)
