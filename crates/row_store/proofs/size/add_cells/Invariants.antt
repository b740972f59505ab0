use Rattle.std.proofs.Common.{◌≡◌, ◌≤◌, ◌+◌, length, take}
use Rattle.std.specs.List.{flat_map}
use Rattle.vault.specs.Limit.{payload_most}
use Rattle.value_codec.specs.Spelling.{cell_spelling}
use Rattle.row_store.proofs.size.add_cells.Given as goal

abbrev pub invariant-loop-cell : goal.invariant-loop-cell
invariant-loop-cell l = record { sum : l.sum ≡ l.len + length (flat_map cell_spelling (take l.cell-index l.cells)); most : l.sum ≤ payload_most }
