use Rattle.disk_trait.specs.Fuse.{inner_of}
use Rattle.store_host.proofs.Lefts.{none_still}
use Rattle.store_host.proofs.host.StoreHost.restart.Goals as goal

pub returns-in-None-clause-left : goal.returns-in-None-clause-left
returns-in-None-clause-left g c w h = none_still g.D.Disk.state g.D.Disk.images (λ d image left. g.met.D.Disk.only_now (inner_of d) image left) w c.args.self.now.tables h.tables
