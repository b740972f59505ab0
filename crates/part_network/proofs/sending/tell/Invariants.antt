use Rattle.std.proofs.Common.{◌≡◌, ◌+◌, ◌++◌, drop, map}
use Rattle.step_tables.specs.Lines.{line_of}
use Rattle.part_network.specs.Packets.{told}
use Rattle.part_network.proofs.sending.tell.Given as goal

abbrev pub invariant-loop-number : goal.invariant-loop-number
invariant-loop-number l =
    map line_of l.lines ++ told (l.first + l.number) l.from l.to (drop l.number l.parts) ≡ map line_of l.fn.lines ++ told l.first l.from l.to l.parts
