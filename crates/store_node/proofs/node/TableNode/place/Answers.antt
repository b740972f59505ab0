use Rattle.disk_trait.specs.Fuse.{inner_of}
use Rattle.store_node.specs.Sides.{put_of}
use Rattle.store_node.proofs.Delivering.{busy_to_place, places_node}
use Rattle.store_node.proofs.Answering.{placed_at}
use Rattle.store_node.proofs.node.TableNode.place.Goals as goal

pub returns-then-not-idle-clause-places : goal.returns-then-not-idle-clause-places
returns-then-not-idle-clause-places g c s t =
    busy_to_place g.D.Disk.state g.D.Disk.images (λ f image left. g.met.D.Disk.only_now (inner_of f) image left) c.args.self.now s.disk s.agenda t c.requires.up c.if-not-idle.ensures (put_of c.args.put)
    c.at_work.result c.at_work.ensures

pub returns-clause-places : goal.returns-clause-places
returns-clause-places g c s t =
    placed_at g.D.Disk.state g.D.Disk.images (λ f image left. g.met.D.Disk.only_now (inner_of f) image left) c.args.self.now c.requires.up c.if-not-idle.ensures (put_of c.args.put) c.take_put.new.self
    c.take_put.result c.take_put.ensures.answers s t

pub returns-clause-node : goal.returns-clause-node
returns-clause-node g c =
    let n = c.requires.node in
    places_node g.D.Disk.state g.D.Disk.images (λ f image left. g.met.D.Disk.only_now (inner_of f) image left) n.0 (put_of c.args.put) c.args.self.now c.take_put.new.self c.take_put.result (returns-clause-places g c n.0 n.1)
