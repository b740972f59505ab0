use Rattle.std.proofs.Common.{◌≡◌, ◌++◌, List}
use Rattle.std.specs.Prelude.{map}
use Rattle.std.specs.Map.{keys_of}
use Rattle.std.specs.VecDeque.Iter.{deque_iter_rest}
use Rattle.spare_map.specs.declared.map.Change.{Change}
use Rattle.spare_map.specs.Late.{entries_of, IsLastOf}
use Rattle.spare_map.proofs.map.SpareMap.last_in_all.Given as goal

abbrev pub invariant-loop-change : goal.invariant-loop-change
invariant-loop-change g l =
    (seen : List (Change g.row.K.Denot g.row.V.Denot)) × (seen ++ deque_iter_rest l.change-iterator ≡ l.self.late.items)
    × IsLastOf g.K.Ord.cmp (entries_of g.K.Ord.cmp l.self) (keys_of l.self.tree.entries ++ map (λ change. change.key) seen) l.last
