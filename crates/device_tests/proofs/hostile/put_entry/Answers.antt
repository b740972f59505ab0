use Rattle.disk_trait.specs.Fuse.{behind, inner_of}
use Rattle.device_tests.proofs.Stands.{log_opened}
use Rattle.device_tests.proofs.hostile.put_entry.Goals as goal

pub stop_open-requires-clause-stands : goal.stop_open-requires-clause-stands
stop_open-requires-clause-stands g c = log_opened (behind g.D.Disk.state) (λ f. g.D.Disk.images (inner_of f)) c.format.new.self c.in_ok-format.ensures.opened

pub returns-else-is_open : goal.returns-else-is_open
returns-else-is_open g c = log_opened (behind g.D.Disk.state) (λ f. g.D.Disk.images (inner_of f)) c.format.new.self c.in_ok-format.ensures.opened
