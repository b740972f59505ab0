use Rattle.std.proofs.Common.{◌≡◌, ◌≤◌, length}
use Rattle.spare_map.specs.Late.{entries_of, spare_of}
use Rattle.spare_map.proofs.map.SpareMap.settle.Given as goal

abbrev pub invariant-loop-first : goal.invariant-loop-first
invariant-loop-first g l = record { same : entries_of g.K.Ord.cmp l.self ≡ entries_of g.K.Ord.cmp l.initial.self; spare : spare_of l.initial.self ≤ spare_of l.self }

abbrev pub decreases-loop-first : goal.decreases-loop-first
decreases-loop-first g l = length l.self.late.items
