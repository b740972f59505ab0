use Rattle.std.proofs.Common.{◌∙◌}
use Rattle.disk_trait.specs.Fuse.{behind, inner_of}
use Rattle.device_tests.proofs.Stands.{whole}
use Rattle.device_tests.proofs.updates.joined.Goals as goal

pub returns : goal.returns
returns g c =
    let made = c.new.ensures in
    whole (behind g.D.Disk.state) (λ f. g.D.Disk.images (inner_of f)) c.args.chunks c.args.rows c.args.log c.new.result c.requires.chunks c.requires.rows c.requires.log
    (made.chunks ∙ c.into_disk.ensures) (made.rows ∙ c.into_disk-2.ensures) (made.log ∙ c.into_disk-3.ensures) made.up made.idle
