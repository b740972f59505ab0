use Rattle.std.proofs.Common.{refl}
use Rattle.client_node.specs.Telling.{put_of}
use Rattle.client_node.proofs.Again.{is_plain}
use Rattle.client_node.proofs.Serving.{looks_none}
use Rattle.client_node.proofs.telling.row_fact.Goals as goal

pub returns-in_default : goal.returns-in_default
returns-in_default g c = record {
  looks = looks_none g.D.Disk.state g.D.Disk.images g.met.D.Disk.only_now c.args.devs.now c.requires.up c.requires.ready _ (λ is. cc);
  fact = λ meaning there. c.plain_fact.ensures (put_of meaning c.args.put.now.row c.args.put.now.slots) refl (is_plain c.args.tell c.in_default.not-Wrote);
  refused = tt;
}
