use Rattle.client_node.proofs.Serving.{looks_none}
use Rattle.client_node.proofs.telling.waiting_content.Goals as goal

pub returns-in-None-clause-looks : goal.returns-in-None-clause-looks
returns-in-None-clause-looks g c = looks_none g.D.Disk.state g.D.Disk.images g.met.D.Disk.only_now c.args.devs.now c.requires.up c.requires.ready _ (λ no. cc)
