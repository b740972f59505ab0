use Rattle.std.proofs.Common.{◌≡◌, [], take}
use Rattle.step_tables.specs.Chunks.{flat}
use Rattle.store_node.specs.Finding.{noted, values_by}
use Rattle.store_node.proofs.finding.found_in.Given as goal

abbrev pub invariant-loop-chunks : goal.invariant-loop-chunks
invariant-loop-chunks l = values_by l.found.entries (λ bytes. bytes.now) ≡ noted [] (flat (take l.chunks-index l.held))
