use Rattle.std.proofs.Common.{ℕ, true, sym, ap, ◌∙◌, subst}
use Rattle.std.specs.Prelude.{All}
use Rattle.std.specs.FinSet as set
use Rattle.std.specs.BTreeSet as tree
use Rattle.std.proofs.lemmas.Map.Views.{All-insert_key}
use Rattle.ring_map.specs.Place.{place_cmp, place_of}
use Rattle.ring_map.proofs.Places.{IsPlaced}
use Rattle.ring_map.proofs.Rings.{joined}
use Rattle.ring_map.proofs.ring.Ring.join_node.Goals as goal

pub invariant_of-self-2 : goal.invariant_of-self-2
invariant_of-self-2 c =
    subst (λ (ks : _). All IsPlaced ks) (sym c.in_ok-insert.ensures.keys)
    (All-insert_key place_cmp _ IsPlaced c.self.inside.places.keys c.self.invariant (c.store_position.ensures, c.store_position.type_inv))

pub returns-clause-ok : goal.returns-clause-ok
returns-clause-ok c =
    let updates : tree.Updates place_cmp c.self.inside.places c.insert.new.self (place_of c.args.store) true =
    subst (λ (p : ℕ). tree.Updates place_cmp c.self.inside.places c.insert.new.self (p, c.args.store) true) c.store_position.ensures c.in_ok-insert.ensures.updates in
    joined c.self.inside.places c.insert.new.self c.self.invariant (invariant_of-self-2 c) c.args.store updates
    ∙ ap (λ s. set.insert s c.args.store) c.self.view_is
