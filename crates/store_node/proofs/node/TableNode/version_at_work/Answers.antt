use Rattle.disk_trait.specs.Fuse.{inner_of}
use Rattle.store_node.proofs.Delivering.{works_on}
use Rattle.store_node.proofs.node.TableNode.version_at_work.Goals as goal

pub returns : goal.returns
returns g c s t some =
    works_on g.D.Disk.state g.D.Disk.images (λ f image left. g.met.D.Disk.only_now (inner_of f) image left) c.args.self.now s.disk s.agenda t some c.at_work.result c.at_work.ensures
