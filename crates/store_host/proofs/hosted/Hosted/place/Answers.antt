use Rattle.store_host.proofs.Hosting.{places_hosted, place_cause}
use Rattle.store_node.specs.Sides.{put_of}
use Rattle.store_host.proofs.hosted.Hosted.place.Goals as goal

pub returns-clause-placed : goal.returns-clause-placed
returns-clause-placed g c store schema table hosted h =
    places_hosted g.D.Disk.state g.D.Disk.images store schema table hosted c.args.self.now h c.requires.up (put_of c.args.put) c.place.new.self c.place.result
    (c.place.ensures.places hosted.store h.node) c.place.ensures.declared

pub returns-clause-cause : goal.returns-clause-cause
returns-clause-cause g c =
    let n = c.requires.node in
    place_cause g.D.Disk.state g.D.Disk.images n.0 (put_of c.args.put) c.args.self.now.node c.place.new.self c.place.result (c.place.ensures.places n.0 n.1)

pub returns-clause-left : goal.returns-clause-left
returns-clause-left g c store schema table hosted h made = (c.place.ensures.places hosted.store h.node).rows_left
