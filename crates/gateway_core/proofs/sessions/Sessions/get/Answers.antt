use Rattle.std.proofs.Common.{sym}
use Rattle.gateway_core.proofs.Slots.{look_in, look_none, full}
use Rattle.gateway_core.proofs.sessions.Sessions.get.Goals as goal

pub returns-in_default : goal.returns-in_default
returns-in_default c = rw (← c.self.view_is) (look_none c.self.inside.slab c.self.inside.places.entries c.args.client c.in_default.ensures.value)

pub unreachable-requires : goal.unreachable-requires
unreachable-requires c = full c.self.inside.slab c.self.inside.places.entries c.args.client c.in-Some.slot.now c.self.invariant.own (sym c.in-Some.ensures.value) c.in_default-get.ensures

pub returns : goal.returns
returns c = rw (← c.self.view_is) (look_in c.self.inside.slab c.self.inside.places.entries c.args.client c.in-Some.slot.now c.in-Some-get.held.now
    (sym c.in-Some.ensures.value) (sym c.in-Some-get.ensures))
