use Rattle.std.proofs.Common.{◌≡◌, ◌++◌, drop}
use Rattle.store_node.specs.Update.{fresh_of}
use Rattle.store_node.proofs.update.add_all_fresh.Given as goal

abbrev pub invariant-loop-place : goal.invariant-loop-place
invariant-loop-place l = l.fresh.items ++ fresh_of (drop l.place l.pieces) (drop l.place l.chunks) ≡ l.fn.fresh.items ++ fresh_of l.pieces l.chunks
