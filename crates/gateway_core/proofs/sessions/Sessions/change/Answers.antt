use Rattle.std.proofs.Common.{◌≡◌, ℕ, rules}
use Rattle.std.specs.Prelude.{option_map}
use Rattle.slab.specs.Slab.{get}
use Rattle.gate_tables.specs.Gate.{Session, after_change}
use Rattle.gateway_core.proofs.Slots.{each_retained, all_changed, all_own, still_marked}
use Rattle.gateway_core.proofs.sessions.Sessions.change.Goals as goal

each_slot : (c : goal.After-retain) (slot : ℕ) → get c.retain.new.self slot ≡ option_map (λ (h : ℕ × Session). (h.0, after_change c.args.table c.args.strong h.1)) (get c.self.inside.slab slot)
each_slot c = each_retained _ (λ (h : ℕ × Session). (h.0, after_change c.args.table c.args.strong h.1)) _
    (λ k v b w f' t. search rules) c.self.inside.slab c.retain.new.self c.retain.ensures.retained

pub invariant_of-self : goal.invariant_of-self
invariant_of-self c = record {
  own = all_own (after_change c.args.table c.args.strong) c.self.inside.slab c.retain.new.self (each_slot c)
      (still_marked c.args.table c.args.strong) c.self.inside.places.entries c.self.invariant.own;
  ordered = c.self.invariant.ordered;
}

pub returns : goal.returns
returns c = rw (← c.self.view_is) (all_changed (after_change c.args.table c.args.strong)
    c.self.inside.slab c.retain.new.self (each_slot c) (still_marked c.args.table c.args.strong) c.self.inside.places.entries)
