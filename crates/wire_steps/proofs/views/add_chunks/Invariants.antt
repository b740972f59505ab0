use Rattle.std.proofs.Common.{◌≡◌, ◌++◌}
use Rattle.std.specs.Prelude.{zip}
use Rattle.step_tables.specs.Chunks.{cut}
use Rattle.part_store.specs.View.{under_names}
use Rattle.wire_steps.proofs.views.add_chunks.Given as goal

abbrev pub invariant-loop-bytes : goal.invariant-loop-bytes
invariant-loop-bytes l =
    l.chunks.items ++ under_names (zip l.rest l.bytes-iterator.rest.items) ≡ l.fn.chunks.items ++ under_names (zip l.names (cut l.size l.object))
