use Rattle.std.proofs.Common.{refl}
use Rattle.node_steps.proofs.Counted.{all_same, clients_same}
use Rattle.node_steps.proofs.Linked.{link_held}
use Rattle.node_steps.proofs.world.World.set_link.Goals as goal

pub returns-clause-held : goal.returns-clause-held
returns-clause-held g c w node h at =
    link_held g.D.Disk.state w c.args.self.now h c.args.client c.args.up node at c.link-answer.new.self c.link-answer.result (c.link-answer.ensures.called w h.clients) c.link-answer.ensures.outs

pub returns-clause-faults : goal.returns-clause-faults
returns-clause-faults g c =
    let new = record c.args.self.now { clients = c.link-answer.new.self } in
    all_same g.D.Disk.state c.args.self.now new refl (clients_same g.D.Disk.state c.args.self.now new c.link-answer.ensures.counted)

pub returns-clause-plans : goal.returns-clause-plans
returns-clause-plans g c n plans = c.link-answer.ensures.plans n plans
