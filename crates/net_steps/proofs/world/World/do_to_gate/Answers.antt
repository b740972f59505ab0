use Rattle.net_steps.proofs.Promised.{counted_alone}
use Rattle.net_steps.proofs.world.World.do_to_gate.Goals as goal

pub returns-in-Hold-clause-done : goal.returns-in-Hold-clause-done
returns-in-Hold-clause-done g c n b = (c.hold_gate.ensures.promises n b).done

pub returns-in-Hold-clause-over : goal.returns-in-Hold-clause-over
returns-in-Hold-clause-over g c n b = (c.hold_gate.ensures.promises n b).over

pub returns-in-Hold-clause-limit : goal.returns-in-Hold-clause-limit
returns-in-Hold-clause-limit g c n m b below = (c.hold_gate.ensures.promises n b).limit m below

pub returns-in-Hold-clause-plans : goal.returns-in-Hold-clause-plans
returns-in-Hold-clause-plans g c n m b below = (c.hold_gate.ensures.promises n b).plans m below

pub returns-in-Hold-clause-left : goal.returns-in-Hold-clause-left
returns-in-Hold-clause-left g c n b = (c.hold_gate.ensures.promises n b).left

pub returns-in_default-clause-done : goal.returns-in_default-clause-done
returns-in_default-clause-done g c n b =
    (c.do_alone.ensures.promises (g.P.Depot.state c.args.depot.now).is_out c.args.event.now n c.requires.kind b).done

pub returns-in_default-clause-over : goal.returns-in_default-clause-over
returns-in_default-clause-over g c n b =
    (c.do_alone.ensures.promises (g.P.Depot.state c.args.depot.now).is_out c.args.event.now n c.requires.kind b).over

pub returns-in_default-clause-limit : goal.returns-in_default-clause-limit
returns-in_default-clause-limit g c n m b below =
    (c.do_alone.ensures.promises (g.P.Depot.state c.args.depot.now).is_out c.args.event.now n c.requires.kind b).limit m below

pub returns-in_default-clause-plans : goal.returns-in_default-clause-plans
returns-in_default-clause-plans g c n m b below =
    (c.do_alone.ensures.promises (g.P.Depot.state c.args.depot.now).is_out c.args.event.now n c.requires.kind b).plans m below

pub returns-in_default-clause-left : goal.returns-in_default-clause-left
returns-in_default-clause-left g c n b =
    (c.do_alone.ensures.promises (g.P.Depot.state c.args.depot.now).is_out c.args.event.now n c.requires.kind b).left

pub returns-in_default-clause-depot : goal.returns-in_default-clause-depot
returns-in_default-clause-depot g c = counted_alone _ c.do_alone.result c.do_alone.ensures.apart
