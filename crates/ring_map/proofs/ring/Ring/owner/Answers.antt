use Rattle.std.proofs.Common.{◌<◌, ◌^◌, true≢false, ◌∙◌, subst}
use Rattle.ring_map.specs.Place.{position_of}
use Rattle.ring_map.specs.Ring.{IsOwner}
use Rattle.ring_map.proofs.Owners.{not_empty, owner_ahead, owner_behind, IsRange, first_there, first_at, first_is_least, none_there}
use Rattle.ring_map.proofs.ring.Ring.owner.Goals as goal

pub returns-in-Some-clause-none : goal.returns-in-Some-clause-none
returns-in-Some-clause-none c =
    let there = first_there c.self.inside.places c.self.invariant _ c.range.result c.in-Some.field-0.now c.next.new.self c.in-Some.ensures.steps (c.range.ensures.in_range tt) in
    (λ never. absurd (true≢false never), λ empty. absurd (not_empty c.self.inside.places c.self.invariant c.in-Some.field-0.now there (c.self.view_is ∙ empty)))

pub returns-in-Some-clause-owner : goal.returns-in-Some-clause-owner
returns-in-Some-clause-owner c =
    let fits : position_of c.args.table_name.now < 2 ^ 64 = subst (λ n. n < 2 ^ 64) c.position_of-from.ensures c.position_of-from.type_inv in
    let range : IsRange c.self.inside.places c.self.invariant (position_of c.args.table_name.now) c.range.result =
    subst (λ n. IsRange c.self.inside.places c.self.invariant n c.range.result) c.position_of-from.ensures (c.range.ensures.in_range tt) in
    let is = c.in-Some.ensures.steps in
    subst (λ s. IsOwner s c.args.table_name.now c.in-Some.field-0.now.1) c.self.view_is
    (owner_ahead c.self.inside.places c.self.invariant c.args.table_name.now fits c.in-Some.field-0.now
    (first_there c.self.inside.places c.self.invariant _ c.range.result c.in-Some.field-0.now c.next.new.self is range)
    (first_at c.self.inside.places c.self.invariant _ c.range.result c.in-Some.field-0.now c.next.new.self is range)
    (first_is_least c.self.inside.places c.self.invariant _ c.range.result c.in-Some.field-0.now c.next.new.self is range))

pub returns-in-Some-first-clause-none : goal.returns-in-Some-first-clause-none
returns-in-Some-first-clause-none c =
    (λ never. absurd (true≢false never), λ empty. absurd (not_empty c.self.inside.places c.self.invariant c.in-Some-first.field-0.now c.in-Some-first.ensures.member (c.self.view_is ∙ empty)))

pub returns-in-Some-first-clause-owner : goal.returns-in-Some-first-clause-owner
returns-in-Some-first-clause-owner c =
    let fits : position_of c.args.table_name.now < 2 ^ 64 = subst (λ n. n < 2 ^ 64) c.position_of-from.ensures c.position_of-from.type_inv in
    let range : IsRange c.self.inside.places c.self.invariant (position_of c.args.table_name.now) c.range.result =
    subst (λ n. IsRange c.self.inside.places c.self.invariant n c.range.result) c.position_of-from.ensures (c.range.ensures.in_range tt) in
    subst (λ s. IsOwner s c.args.table_name.now c.in-Some-first.field-0.now.1) c.self.view_is
    (owner_behind c.self.inside.places c.self.invariant c.args.table_name.now fits c.in-Some-first.field-0.now c.in-Some-first.ensures.member
    (none_there c.self.inside.places c.self.invariant _ c.range.result c.in_default.ensures.steps.0 range) c.in-Some-first.ensures.least)
