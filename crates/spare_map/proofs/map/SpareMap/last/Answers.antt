use Rattle.spare_map.proofs.Lasts.{last_of_all}
use Rattle.spare_map.proofs.map.SpareMap.last.Goals as goal

pub returns-then-not-is_empty : goal.returns-then-not-is_empty
returns-then-not-is_empty g c = last_of_all g.K.Ord.cmp g.met.K.Ord.total c.args.self.now.tree.entries c.args.self.now.late.items c.last_in_all.result c.last_in_all.ensures
