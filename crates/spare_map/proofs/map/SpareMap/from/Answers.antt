use Rattle.std.proofs.Common.{◌≡◌, List, sym, subst, arith}
use Rattle.std.specs.declared.ops.Bound.TheVariants.{Included, Unbounded}
use Rattle.std.specs.BTreeMap.Range.{entries_between, range_contains}
use Rattle.std.specs.Map.{keys_of}
use Rattle.std.specs.List.Sorted.{IsStrictlySortedBy}
use Rattle.std.proofs.lemmas.Grind.{common_steps}
use Rattle.std.proofs.lemmas.List.Kept.{IsStrictlySortedBy-filter}
use Rattle.spare_map.proofs.Changes.{keys-filter}
use Rattle.spare_map.proofs.map.SpareMap.from.Goals as goal

pub returns-clause-rising : goal.returns-clause-rising
returns-clause-rising g c =
    let cmp = g.K.Ord.cmp in
    let es = c.settle.new.self.tree.entries in
    let p = range_contains cmp (Included c.args.key) Unbounded in
    let is : c.loop-key.found.items ≡ entries_between cmp (Included c.args.key) Unbounded es = grind (arith, common_steps) in
    subst (λ (l : List (g.row.K.Denot × g.row.V.Denot)). IsStrictlySortedBy cmp (keys_of l)) (sym is)
    (subst (IsStrictlySortedBy cmp) (sym (keys-filter p es)) (IsStrictlySortedBy-filter cmp p (keys_of es) c.range-key-items.ensures.ordered))
