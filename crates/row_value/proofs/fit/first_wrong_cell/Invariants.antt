use Rattle.std.proofs.Common.{◌≡◌, ℕ, ◌+◌, ◌<◌, true, take}
use Rattle.std.specs.Prelude.{sum_by}
use Rattle.row_value.specs.Fit.{has_cell, spelled_len, spelled_most}
use Rattle.row_value.proofs.fit.first_wrong_cell.Given as goal

abbrev pub invariant-loop-place : goal.invariant-loop-place
invariant-loop-place l = record {
  room : l.room + sum_by spelled_len (take l.place l.cells) ≡ spelled_most;
  right : (k : ℕ) → k < l.place → has_cell l.columns l.cells k ≡ true;
}
