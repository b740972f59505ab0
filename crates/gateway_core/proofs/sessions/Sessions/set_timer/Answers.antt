use Rattle.std.proofs.Common.{sym, ◌∙◌}
use Rattle.gate_tables.specs.Gate.{Session, with_timer}
use Rattle.gateway_core.proofs.Slots.{full, ok_then, written, written_placed, unchanged}
use Rattle.gateway_core.proofs.sessions.Sessions.set_timer.Goals as goal

pub returns-in_default-clause-ok : goal.returns-in_default-clause-ok
returns-in_default-clause-ok c = rw (← c.self.view_is) (unchanged (λ (s : Session). with_timer s c.args.table c.args.timer)
    c.args.client c.self.inside.slab c.self.inside.places.entries (c.in_default.ensures ∙ c.get.ensures.value))

pub unreachable-requires : goal.unreachable-requires
unreachable-requires c = full c.self.inside.slab c.self.inside.places.entries c.args.client c.in-Some.slot c.self.invariant.own
    (sym (c.in-Some.ensures ∙ c.get.ensures.value)) c.in_default-get_mut.ensures.value

pub invariant_of-self : goal.invariant_of-self
invariant_of-self c = written_placed (λ (s : Session). with_timer s c.args.table c.args.timer)
    c.args.client c.in-Some.slot c.set_timer.new.self c.self.inside.slab c.self.inside.places.entries c.in-Some-get_mut.held.now
    c.self.invariant (sym (c.in-Some.ensures ∙ c.get.ensures.value)) c.in-Some-get_mut.ensures.value

pub returns-clause-ok : goal.returns-clause-ok
returns-clause-ok c = rw (← c.self.view_is) (ok_then c.set_timer.result c.set_timer.ensures.ok
    (written (λ (s : Session). with_timer s c.args.table c.args.timer)
    c.args.client c.in-Some.slot c.set_timer.new.self
    c.self.inside.slab c.self.inside.places.entries c.in-Some-get_mut.held.now
    c.self.invariant (sym (c.in-Some.ensures ∙ c.get.ensures.value)) c.in-Some-get_mut.ensures.value))
