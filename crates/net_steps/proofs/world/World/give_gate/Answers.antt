use Rattle.std.proofs.Common.{Bool, ℕ, Option, None, sym, subst}
use Rattle.std.specs.Prelude.{OnOk}
use Rattle.net_steps.specs.Holds.{Holds}
use Rattle.net_steps.specs.Through.{joined_unless}
use Rattle.net_steps.proofs.Relinked.{ok_as}
use Rattle.net_steps.proofs.Joined.{joined_new}
use Rattle.net_steps.proofs.world.World.give_gate.Goals as goal

pub returns-then-is_there-clause-held : goal.returns-then-is_there-clause-held
returns-then-is_there-clause-held g c n h there client =
    subst (λ (b : Bool). Holds g.D.Disk.state (joined_unless b c.args.client c.args.gate n) c.args.self.now) (sym c.if-is_there.true) h

pub returns-in-Some-clause-held : goal.returns-in-Some-clause-held
returns-in-Some-clause-held g c n h there client =
    subst (λ (o : Option ℕ). OnOk c.set_device.result (Holds g.D.Disk.state (joined_unless c.args.is_there c.args.client o n) c.set_device.new.self)) (sym c.in-Some.is)
    (ok_as c.set_device.result (λ k. joined_new g.D.Disk.state n c.args.client c.in-Some.gate c.set_device.new.self c.args.is_there c.if-is_there.false _ c.new.ensures k)
    (c.set_device.ensures.held n h there client))

pub returns-in-None-clause-held : goal.returns-in-None-clause-held
returns-in-None-clause-held g c n h there client =
    subst (λ (o : Option ℕ). Holds g.D.Disk.state (joined_unless c.args.is_there c.args.client o n) c.args.self.now) (sym c.in-None.is)
    (subst (λ (b : Bool). Holds g.D.Disk.state (joined_unless b c.args.client None n) c.args.self.now) (sym c.if-is_there.false) h)
