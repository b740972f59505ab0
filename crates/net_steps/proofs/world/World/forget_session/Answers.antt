use Rattle.std.proofs.Common.{Some, None, sym}
use Rattle.net_steps.specs.Devices.{device_of}
use Rattle.net_steps.proofs.Relinked.{forgotten, not_forgotten, ok_as}
use Rattle.net_steps.proofs.world.World.forget_session.Goals as goal

pub returns-then-not-was_down-clause-held : goal.returns-then-not-was_down-clause-held
returns-then-not-was_down-clause-held g c n h there = not_forgotten g.D.Disk.state n c.args.client c.args.self.now c.args.was_down c.if-not-was_down.true h

pub returns-in-Some-clause-held : goal.returns-in-Some-clause-held
returns-in-Some-clause-held g c n h there =
    let d = device_of c.in-Some.device in
    let at = sym (c.in-Some.ensures n h) in
    ok_as c.set_device.result (forgotten g.D.Disk.state n c.args.client c.set_device.new.self c.args.was_down c.if-not-was_down.false (Some d) at)
    (c.set_device.ensures.held n h (there d at) (h.numbered c.args.client d at))

pub returns-in-None-clause-held : goal.returns-in-None-clause-held
returns-in-None-clause-held g c n h there =
    forgotten g.D.Disk.state n c.args.client c.args.self.now c.args.was_down c.if-not-was_down.false None (sym (c.in-None.ensures n h)) h
