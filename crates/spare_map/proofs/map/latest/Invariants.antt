use Rattle.std.proofs.Common.{◌≡◌, ◌++◌, length, take}
use Rattle.std.specs.VecDeque.Iter.{deque_iter_rest}
use Rattle.spare_map.specs.Late.{latest}
use Rattle.spare_map.proofs.map.latest.Given as goal

abbrev pub invariant-loop-change : goal.invariant-loop-change
invariant-loop-change g l = record { found : l.found ≡ latest g.K.Ord.cmp l.key (take (length l.yielded) l.late.items); rest : take (length l.yielded) l.late.items ++ deque_iter_rest l.change-iterator ≡ l.late.items }
