use Rattle.std.proofs.Common.{◌+◌, length, inl}
use Rattle.disk_trait.specs.Image.{IsImage, settled, touched}
use Rattle.disk_trait.proofs.Moments.{leaves_then}
use Rattle.vault.specs.File.{IsBehindGate}
use Rattle.vault.proofs.Behind.{first_images, second_images}
use Rattle.vault.proofs.steps.put_behind.Goals as goal

pub returns-clause-any_moment : goal.returns-clause-any_moment
returns-clause-any_moment g c =
    let file = (g.D.Disk.state c.args.disk.now).seen in
    let gate = c.args.gate in
    let frame = c.args.frame.now in
    let mid = (g.D.Disk.state c.write_durably.new.disk).seen in
    leaves_then g.D.Disk.state g.D.Disk.images c.args.disk.now c.write_durably.new.disk c.write_durably-2.new.disk (IsImage (touched (gate + 1) (length frame) (settled file))) (IsImage (touched gate 1 (settled mid))) (IsBehindGate file gate frame)
    c.write_durably.ensures.any_moment c.write_durably-2.ensures.any_moment
    (λ image is. inl (first_images file gate frame c.requires.gate image is))
    (second_images file gate frame c.requires.gate mid c.in_ok-write_durably.ensures.written)
