use Rattle.std.proofs.Common.{take}
use Rattle.std.specs.List.{AllByRecursion}
use Rattle.value_codec.specs.Spelling.{HasNameSpelling}
use Rattle.send_laws.proofs.widths.know_object_names.Given as goal

abbrev pub invariant-loop-object : goal.invariant-loop-object
invariant-loop-object l = AllByRecursion (AllByRecursion HasNameSpelling) (take l.object-index l.names)
