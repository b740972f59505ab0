use Rattle.store_host.proofs.Hosting.{shows_hosted}
use Rattle.store_host.proofs.hosted.Hosted.show.Goals as goal

pub returns-clause-shown : goal.returns-clause-shown
returns-clause-shown g c store schema table hosted h =
    shows_hosted g.D.Disk.state g.D.Disk.images store schema table hosted c.args.self.now h c.requires.up c.args.row.now c.show.new.self c.show.result (c.show.ensures.shows hosted.store h.node) c.show.ensures.declared

pub returns-clause-cause : goal.returns-clause-cause
returns-clause-cause g c = let n = c.requires.node in let k = c.show.ensures.shows n.0 n.1 in record { counted = k.counted; cause = k.cause; only = k.only }

pub returns-clause-left : goal.returns-clause-left
returns-clause-left g c store schema table hosted h made = (c.show.ensures.shows hosted.store h.node).rows_left
