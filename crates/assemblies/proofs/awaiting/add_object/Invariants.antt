use Rattle.std.proofs.Common.{◌≡◌, ◌++◌, drop}
use Rattle.assemblies.specs.Travel.{is_sent}
use Rattle.assemblies.specs.Places.{awaited_in}
use Rattle.assemblies.proofs.awaiting.add_object.Given as goal

abbrev pub invariant-loop-number : goal.invariant-loop-number
invariant-loop-number l =
    l.list ++ awaited_in (is_sent l.sent) l.chunk l.object.len l.column l.number (drop l.number l.object.pieces)
    ≡ l.fn.list ++ awaited_in (is_sent l.sent) l.chunk l.object.len l.column 0 l.object.pieces
