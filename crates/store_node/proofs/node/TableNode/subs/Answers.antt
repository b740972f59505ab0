use Rattle.std.proofs.lemmas.Result.{err_from_is_err_and}
use Rattle.store_commit.specs.Standing.{writes_of}
use Rattle.store_node.proofs.Handing.{devices_up, node_ready}
use Rattle.store_node.proofs.Keeping.{subs_listed, looked_at, only_memory}
use Rattle.store_node.proofs.node.TableNode.subs.Goals as goal

pub subs-requires : goal.subs-requires
subs-requires g c up =
    let n = c.requires.node in
    looked_at g.D.Disk.state c.args.self.now (writes_of c.args.self.now.devs) (node_ready g.D.Disk.state g.D.Disk.images c.args.self.now n.0.disk n.0.agenda n.1 c.requires.up)

pub returns-in_err-subs-clause-only : goal.returns-in_err-subs-clause-only
returns-in_err-subs-clause-only g c =
    let n = c.requires.node in
    let up = devices_up g.D.Disk.state g.D.Disk.images c.args.self.now n.0.disk n.0.agenda n.1 in
    let p = err_from_is_err_and c.from_residual.result c.from_residual.ensures.1 in
    rw (p.1, p.2) (only_memory g.D.Disk.state c.args.self.now c.in_err-subs.field-0.0 up c.in_err-subs.ensures.down.0 c.in_err-subs.ensures.only)

pub returns-clause-subs : goal.returns-clause-subs
returns-clause-subs g c s t = subs_listed g.D.Disk.state c.args.self.now s.disk s.agenda t c.requires.up c.in_ok-subs.subs c.in_ok-subs.ensures.subs
