use Rattle.std.proofs.Common.{◌≡◌, ◌++◌, ◌-◌, map}
use Rattle.std.specs.List.{range_with_len}
use Rattle.load_script.specs.Script as script
use Rattle.load_script.specs.Text.{client_line}
use Rattle.load_script.proofs.groups.declarations.Given as goal

abbrev pub invariant-loop-client : goal.invariant-loop-client
invariant-loop-client l = l.lines.items ≡ script.stores_and_tables ++ map client_line (range_with_len 1 (l.client - 1))
