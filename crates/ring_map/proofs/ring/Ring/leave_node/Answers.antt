use Rattle.std.proofs.Common.{ℕ, false, sym, ap, ◌∙◌, subst}
use Rattle.std.specs.Prelude.{All}
use Rattle.std.specs.FinSet as set
use Rattle.std.specs.BTreeSet as tree
use Rattle.std.proofs.lemmas.Map.Views.{All-remove_key}
use Rattle.ring_map.specs.Place.{place_cmp, place_of}
use Rattle.ring_map.proofs.Places.{IsPlaced}
use Rattle.ring_map.proofs.Rings.{left}
use Rattle.ring_map.proofs.ring.Ring.leave_node.Goals as goal

pub invariant_of-self : goal.invariant_of-self
invariant_of-self c =
    subst (λ (ks : _). All IsPlaced ks) (sym c.remove.ensures.keys)
    (All-remove_key _ IsPlaced c.self.inside.places.keys c.self.invariant)

pub returns : goal.returns
returns c =
    let updates : tree.Updates place_cmp c.self.inside.places c.remove.new.self (place_of c.args.store) false =
    subst (λ (p : ℕ). tree.Updates place_cmp c.self.inside.places c.remove.new.self (p, c.args.store) false) c.store_position.ensures c.remove.ensures.updates in
    left c.self.inside.places c.remove.new.self c.self.invariant (invariant_of-self c) c.args.store updates
    ∙ ap (λ s. set.remove s c.args.store) c.self.view_is
