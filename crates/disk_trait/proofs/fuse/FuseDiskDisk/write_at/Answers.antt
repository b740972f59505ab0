use Rattle.std.proofs.Common.{◌≤◌, length, take, arith, length-take}
use Rattle.disk_trait.specs.Image.{touched}
use Rattle.disk_trait.proofs.Images.{less_trans, less_touched}
use Rattle.disk_trait.proofs.fuse.FuseDiskDisk.write_at.Goals as goal

pub returns-in-Some-clause-crash : goal.returns-in-Some-clause-crash
returns-in-Some-clause-crash g c =
    let p = (g.D.Disk.state c.args.self.now.inner).pending in
    let n = length (take c.min-landed.result c.args.bytes.now) in
    let le : n ≤ length c.args.bytes.now = omega (arith, length-take c.min-landed.result c.args.bytes.now) in
    less_trans _ (touched c.args.at n p) _ c.write_at-in-Some.ensures.crash (less_touched c.args.at n (length c.args.bytes.now) p le)
