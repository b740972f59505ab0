use Rattle.std.proofs.Common.{◌≡◌, refl, sym, ap, ◌∙◌}
use Rattle.std.specs.Ordering.{nat_cmp}
use Rattle.std.specs.BTreeMap.{is_at, insert_entry}
use Rattle.std.specs.Map.{lookup}
use Rattle.gateway_core.proofs.Slots.{unplaced, adds_own, IsChanged}
use Rattle.gateway_core.proofs.sessions.Sessions.add.Goals as goal

placed : (c : goal.After-insert_reserved) → c.insert.new.self.entries ≡ insert_entry nat_cmp c.self.inside.places.entries c.args.client c.insert_reserved.result
placed c = c.in_ok-insert.ensures.entries
    ∙ ap (insert_entry nat_cmp c.self.inside.places.entries c.args.client) (c.vacant_key-slot.ensures.value ∙ sym c.insert_reserved.ensures.key)

changed : (c : goal.After-insert_reserved) → IsChanged c.args.client c.args.session c.reserve.new.self c.insert_reserved.new.self c.self.inside.places.entries
    (insert_entry nat_cmp c.self.inside.places.entries c.args.client c.insert_reserved.result)
changed c =
    let places = c.self.inside.places.entries in
    adds_own c.args.client c.insert_reserved.result c.args.session c.reserve.new.self c.insert_reserved.new.self c.insert_reserved.ensures.updates places
    (rw c.in_ok-reserve.ensures.rest_kept c.self.invariant.own) c.insert_reserved.ensures.was_vacant
    (unplaced c.self.inside.slab places c.args.client (ap (lookup (is_at (nat_cmp c.args.client))) c.self.view_is ∙ c.requires))

pub invariant_of-self-2 : goal.invariant_of-self-2
invariant_of-self-2 c = record { own = rw (placed c) (changed c).own; ordered = c.in_ok-insert.ensures.ordered }

pub returns-clause-ok : goal.returns-clause-ok
returns-clause-ok c = rw (placed c, ← c.self.view_is) ((changed c).sessions
    ∙ ap (λ es. insert_entry nat_cmp es c.args.client c.args.session) (rw c.in_ok-reserve.ensures.rest_kept refl))
