use Rattle.std.proofs.Common.{sym, ◌∙◌}
use Rattle.gateway_core.proofs.Slots.{look_none, full, writes_own, writes_placed}
use Rattle.gateway_core.proofs.sessions.Sessions.put.Goals as goal

pub add-requires : goal.add-requires
add-requires c = rw (← c.self.view_is) (sym (look_none c.self.inside.slab c.self.inside.places.entries c.args.client (c.in_default.ensures ∙ c.get.ensures.value)))

pub unreachable-requires : goal.unreachable-requires
unreachable-requires c = full c.self.inside.slab c.self.inside.places.entries c.args.client c.in-Some.slot c.self.invariant.own
    (sym (c.in-Some.ensures ∙ c.get.ensures.value)) c.in_default-get_mut.ensures.value

pub invariant_of-self : goal.invariant_of-self
invariant_of-self c = writes_placed c.args.client c.in-Some.slot c.args.session c.self.inside.slab c.self.inside.places.entries c.in-Some-get_mut.held.now c.self.invariant
    (sym (c.in-Some.ensures ∙ c.get.ensures.value)) c.in-Some-get_mut.ensures.value

pub returns-clause-ok : goal.returns-clause-ok
returns-clause-ok c = rw (← c.self.view_is) (writes_own c.args.client c.in-Some.slot c.args.session c.self.inside.slab c.self.inside.places.entries c.in-Some-get_mut.held.now c.self.invariant
    (sym (c.in-Some.ensures ∙ c.get.ensures.value)) c.in-Some-get_mut.ensures.value).sessions
