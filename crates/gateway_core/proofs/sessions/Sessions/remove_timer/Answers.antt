use Rattle.std.proofs.Common.{sym, ◌∙◌}
use Rattle.gate_tables.specs.Gate.{Session, without_timer}
use Rattle.gateway_core.proofs.Slots.{full, written, written_placed, unchanged}
use Rattle.gateway_core.proofs.sessions.Sessions.remove_timer.Goals as goal

pub returns-in_default : goal.returns-in_default
returns-in_default c = rw (← c.self.view_is) (unchanged (λ (s : Session). without_timer s c.args.table)
    c.args.client c.self.inside.slab c.self.inside.places.entries (c.in_default.ensures ∙ c.get.ensures.value))

pub unreachable-requires : goal.unreachable-requires
unreachable-requires c = full c.self.inside.slab c.self.inside.places.entries c.args.client c.in-Some.slot c.self.invariant.own
    (sym (c.in-Some.ensures ∙ c.get.ensures.value)) c.in_default-get_mut.ensures.value

pub invariant_of-self : goal.invariant_of-self
invariant_of-self c = written_placed (λ (s : Session). without_timer s c.args.table)
    c.args.client c.in-Some.slot c.remove_timer.new.self c.self.inside.slab c.self.inside.places.entries c.in-Some-get_mut.held.now
    c.self.invariant (sym (c.in-Some.ensures ∙ c.get.ensures.value)) c.in-Some-get_mut.ensures.value

pub returns : goal.returns
returns c = rw (← c.self.view_is) (written (λ (s : Session). without_timer s c.args.table)
    c.args.client c.in-Some.slot c.remove_timer.new.self
    c.self.inside.slab c.self.inside.places.entries c.in-Some-get_mut.held.now
    c.self.invariant (sym (c.in-Some.ensures ∙ c.get.ensures.value)) c.in-Some-get_mut.ensures.value c.remove_timer.ensures)
