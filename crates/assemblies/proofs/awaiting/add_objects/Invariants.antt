use Rattle.std.proofs.Common.{◌≡◌, ◌+◌, ◌++◌, drop}
use Rattle.assemblies.specs.Travel.{is_sent}
use Rattle.assemblies.specs.Places.{awaited_from}
use Rattle.assemblies.proofs.awaiting.add_objects.Given as goal

abbrev pub invariant-loop-number : goal.invariant-loop-number
invariant-loop-number l =
    l.list ++ awaited_from (is_sent l.sent) l.chunk (l.first + l.number) (drop l.number l.objects)
    ≡ l.fn.list ++ awaited_from (is_sent l.sent) l.chunk l.first l.objects
