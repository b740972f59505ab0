use Rattle.std.proofs.Common.{take}
use Rattle.std.specs.List.{AllByRecursion}
use Rattle.value_codec.specs.Spelling.{HasNameSpelling}
use Rattle.send_laws.proofs.widths.know_names.Given as goal

abbrev pub invariant-loop-name : goal.invariant-loop-name
invariant-loop-name l = AllByRecursion HasNameSpelling (take l.name-index l.names)
