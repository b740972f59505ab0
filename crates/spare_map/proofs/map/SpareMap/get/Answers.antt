use Rattle.std.proofs.Common.{◌∙◌, ap, sym, refl, Option, None, unwrap_or}
use Rattle.std.specs.BTreeMap.{is_at}
use Rattle.std.specs.Map.{lookup}
use Rattle.spare_map.proofs.Changes.{lookup_late}
use Rattle.spare_map.proofs.map.SpareMap.get.Goals as goal

pub returns-in-Some : goal.returns-in-Some
returns-in-Some g c =
    let cmp = g.K.Ord.cmp in
    let es = c.args.self.now.tree.entries in
    let late = lookup_late cmp g.met.K.Ord.total c.args.key es es None c.args.self.now.late.items refl in
    sym (late ∙ ap (λ (found : Option (Option g.row.V.Denot)). unwrap_or found (lookup (is_at (cmp c.args.key)) es)) (sym c.latest.ensures ∙ c.in-Some.is))

pub returns-in-None : goal.returns-in-None
returns-in-None g c =
    let cmp = g.K.Ord.cmp in
    let es = c.args.self.now.tree.entries in
    let late = lookup_late cmp g.met.K.Ord.total c.args.key es es None c.args.self.now.late.items refl in
    c.copied.ensures ∙ (c.get.ensures.value ∙ sym (late ∙ ap (λ (found : Option (Option g.row.V.Denot)). unwrap_or found (lookup (is_at (cmp c.args.key)) es)) (sym c.latest.ensures ∙ c.in-None.is)))
