use Rattle.std.proofs.Common.{◌≡◌, ◌++◌}
use Rattle.spare_map.proofs.map.SpareMap.entries.Given as goal

abbrev pub invariant-loop-key : goal.invariant-loop-key
invariant-loop-key g l = l.found.items ++ l.key-iterator ≡ l.self.tree.entries
