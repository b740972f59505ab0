use Rattle.std.proofs.Common.{◌≡◌, take}
use Rattle.part_tables.specs.Parts.{kept}
use Rattle.message_parts.proofs.spelled.kept.Given as goal

abbrev pub invariant-loop-object : goal.invariant-loop-object
invariant-loop-object l = l.pieces ≡ kept (take l.object-index l.names)
