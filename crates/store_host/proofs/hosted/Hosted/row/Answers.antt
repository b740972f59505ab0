use Rattle.store_host.proofs.Hosting.{gives_hosted}
use Rattle.store_host.proofs.hosted.Hosted.row.Goals as goal

pub returns-clause-given : goal.returns-clause-given
returns-clause-given g c store schema table hosted h =
    gives_hosted g.D.Disk.state g.D.Disk.images store schema table hosted c.args.self.now h c.requires.up c.args.row.now c.row.new.self c.row.result (c.row.ensures.gives hosted.store h.node) c.row.ensures.declared

pub returns-clause-cause : goal.returns-clause-cause
returns-clause-cause g c = let n = c.requires.node in let k = c.row.ensures.gives n.0 n.1 in record { counted = k.counted; cause = k.cause; only = k.only }

pub returns-clause-left : goal.returns-clause-left
returns-clause-left g c store schema table hosted h made = (c.row.ensures.gives hosted.store h.node).rows_left
