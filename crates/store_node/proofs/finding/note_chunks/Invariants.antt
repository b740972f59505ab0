use Rattle.std.proofs.Common.{◌≡◌, take}
use Rattle.store_node.specs.Finding.{noted, values_by}
use Rattle.store_node.proofs.finding.note_chunks.Given as goal

abbrev pub invariant-loop-name : goal.invariant-loop-name
invariant-loop-name l = values_by l.found.entries (λ bytes. bytes.now) ≡ noted (values_by l.fn.found.entries (λ bytes. bytes.now)) (take l.name-index l.chunks)
