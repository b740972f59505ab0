use Rattle.std.proofs.Common.{◌≡◌, []}
use Rattle.std.specs.Prelude.{replicate}
use Rattle.assemblies.proofs.assembly.empty_chunks.Given as goal

abbrev pub invariant-loop : goal.invariant-loop
invariant-loop l = l.chunks.items ≡ replicate l.counter []
