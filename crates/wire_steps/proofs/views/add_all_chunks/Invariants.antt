use Rattle.std.proofs.Common.{◌≡◌, ◌++◌, drop}
use Rattle.step_tables.specs.Chunks.{flat, each_chunk}
use Rattle.part_store.specs.View.{under_names}
use Rattle.wire_steps.proofs.views.add_all_chunks.Given as goal

abbrev pub invariant-loop-object : goal.invariant-loop-object
invariant-loop-object l =
    l.chunks.items ++ under_names (flat (each_chunk l.size l.rest (drop l.object-index l.objects)))
    ≡ l.fn.chunks.items ++ under_names (flat (each_chunk l.size l.names l.objects))
