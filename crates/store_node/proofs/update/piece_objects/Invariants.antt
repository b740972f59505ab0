use Rattle.chunk_store.specs.Standing.{chunk_in}
use Rattle.store_node.specs.Finding.{values_by}
use Rattle.store_node.proofs.Pieced.{SoFar}
use Rattle.store_node.proofs.update.piece_objects.Given as goal

abbrev pub invariant-loop-place : goal.invariant-loop-place
invariant-loop-place l = SoFar l.size (chunk_in (values_by l.found.entries (λ bytes. bytes.now))) l.pieces l.objects l.place l.made l.fresh.items
