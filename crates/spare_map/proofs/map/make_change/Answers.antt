use Rattle.std.proofs.Common.{◌∙◌, ap, sym}
use Rattle.std.specs.Map.{keys_of}
use Rattle.std.proofs.lemmas.Map.Keys.{IsDistinct-from_sorted}
use Rattle.spare_map.specs.Late.{changed}
use Rattle.spare_map.proofs.Changes.{removed}
use Rattle.spare_map.proofs.map.make_change.Goals as goal

pub returns-in-None-clause-ok : goal.returns-in-None-clause-ok
returns-in-None-clause-ok g c =
    let es = c.args.tree.now.entries in
    c.remove.ensures.entries ∙ (removed g.K.Ord.cmp g.met.K.Ord.total es c.args.key (IsDistinct-from_sorted g.K.Ord.cmp (keys_of es) c.len.ensures.ordered) ∙ sym (ap (changed g.K.Ord.cmp es c.args.key) c.in-None.is))
