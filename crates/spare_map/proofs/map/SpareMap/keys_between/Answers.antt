use Rattle.std.proofs.Common.{◌≡◌, List, sym, ◌∙◌, ap, subst, arith}
use Rattle.std.specs.declared.ops.Bound.TheVariants.{Included, Excluded}
use Rattle.std.specs.BTreeMap.Range.{entries_between, range_contains}
use Rattle.std.specs.Prelude.{filter}
use Rattle.std.specs.Map.{keys_of}
use Rattle.std.specs.List.Sorted.{IsStrictlySortedBy}
use Rattle.std.proofs.lemmas.Grind.{common_steps}
use Rattle.std.proofs.lemmas.List.Kept.{IsStrictlySortedBy-filter}
use Rattle.spare_map.specs.Late.{entries_of}
use Rattle.spare_map.proofs.Changes.{keys-filter}
use Rattle.spare_map.proofs.map.SpareMap.keys_between.Goals as goal

pub returns-clause-found : goal.returns-clause-found
returns-clause-found g c =
    let cmp = g.K.Ord.cmp in
    let es = c.settle.new.self.tree.entries in
    let p = range_contains cmp (Included c.args.from) (Excluded c.args.end) in
    let is : c.loop-key.keys.items ≡ keys_of (entries_between cmp (Included c.args.from) (Excluded c.args.end) es) = grind (arith, common_steps) in
    let settled : es ≡ entries_of cmp c.args.self.now = grind (arith, common_steps) in
    is ∙ (keys-filter p es ∙ ap (λ (l : List (g.row.K.Denot × g.row.V.Denot)). filter p (keys_of l)) settled)

pub returns-clause-rising : goal.returns-clause-rising
returns-clause-rising g c =
    let cmp = g.K.Ord.cmp in
    let es = c.settle.new.self.tree.entries in
    let p = range_contains cmp (Included c.args.from) (Excluded c.args.end) in
    let is : c.loop-key.keys.items ≡ keys_of (entries_between cmp (Included c.args.from) (Excluded c.args.end) es) = grind (arith, common_steps) in
    subst (IsStrictlySortedBy cmp) (sym (is ∙ keys-filter p es)) (IsStrictlySortedBy-filter cmp p (keys_of es) c.range-key-items.ensures.ordered)
