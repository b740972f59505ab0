use Rattle.std.proofs.Common.{◌≡◌, ◌++◌, drop}
use Rattle.part_tables.specs.Parts.{objects_by}
use Rattle.message_parts.proofs.spelled.objects_by.Given as goal

abbrev pub invariant-loop-number : goal.invariant-loop-number
invariant-loop-number l = l.made ++ objects_by (drop l.number l.objects) (drop l.number l.pieces) ≡ objects_by l.objects l.pieces
