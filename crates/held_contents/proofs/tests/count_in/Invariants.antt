use Rattle.std.proofs.Common.{◌≡◌, ◌+◌, length, drop}
use Rattle.step_tables.specs.Chunks.{flat}
use Rattle.held_contents.specs.Request.{bytes_in}
use Rattle.held_contents.proofs.tests.count_in.Given as goal

abbrev pub invariant-loop-object : goal.invariant-loop-object
invariant-loop-object l = l.count + length (flat (bytes_in (drop l.object-index l.now))) ≡ length (flat (bytes_in l.now))
