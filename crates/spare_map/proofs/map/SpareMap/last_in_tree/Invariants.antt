use Rattle.std.proofs.Common.{◌≡◌, ◌++◌, List}
use Rattle.std.specs.Map.{keys_of}
use Rattle.spare_map.specs.Late.{entries_of, IsLastOf}
use Rattle.spare_map.proofs.map.SpareMap.last_in_tree.Given as goal

abbrev pub invariant-loop-key : goal.invariant-loop-key
invariant-loop-key g l = (seen : List g.row.K.Denot) × (seen ++ keys_of l.key-iterator ≡ keys_of l.self.tree.entries) × IsLastOf g.K.Ord.cmp (entries_of g.K.Ord.cmp l.self) seen l.last
