use Rattle.std.proofs.Common.{◌≡◌, List, Option, Some, true, false, rules, sym, ap, subst}
use Rattle.std.specs.Ordering.{is_lt}
use Rattle.spare_map.specs.Late.{entries_of, HasValue, IsLastOf}
use Rattle.spare_map.proofs.Lasts.{without_value, below_last, first_value, above_last}
use Rattle.spare_map.proofs.map.SpareMap.greater.Goals as goal

pub returns-else-is_lt : goal.returns-else-is_lt
returns-else-is_lt g c keys h =
    let es = entries_of g.K.Ord.cmp c.args.self.now in
    let there : HasValue g.K.Ord.cmp es c.args.key = search rules in
    let before : IsLastOf g.K.Ord.cmp es keys (Some c.in-Some.last) = subst (IsLastOf g.K.Ord.cmp es keys) c.in-Some.is h in
    let not_lt : is_lt (g.K.Ord.cmp c.args.key c.in-Some.last) ≡ false = search rules in
    above_last g.K.Ord.cmp g.met.K.Ord.total es keys c.args.key c.in-Some.last there not_lt before
