use Rattle.std.proofs.Common.{◌≡◌, take}
use Rattle.std.specs.List.{AllByRecursion}
use Rattle.device_laws.specs.Stands.{IsWord}
use Rattle.store_node.proofs.update.copied_cells.Given as goal

abbrev pub invariant-loop-cell : goal.invariant-loop-cell
invariant-loop-cell l = (l.made ≡ take l.cell-index l.cells) × AllByRecursion IsWord (take l.cell-index l.cells)
