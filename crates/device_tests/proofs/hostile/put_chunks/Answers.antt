use Rattle.disk_trait.specs.Fuse.{behind, inner_of}
use Rattle.device_tests.proofs.Stands.{chunks_opened}
use Rattle.device_tests.proofs.hostile.put_chunks.Goals as goal

pub loop-version-init : goal.loop-version-init
loop-version-init g c = chunks_opened (behind g.D.Disk.state) (λ f. g.D.Disk.images (inner_of f)) c.format.new.self c.in_ok-format.ensures.opened
