use Rattle.std.proofs.Common.{take}
use Rattle.std.specs.List.{AllByRecursion}
use Rattle.value_codec.specs.Spelling.{HasNameSpelling}
use Rattle.client_node.proofs.placing.know_object.Given as goal

abbrev pub invariant-loop-name : goal.invariant-loop-name
invariant-loop-name l = AllByRecursion HasNameSpelling (take l.name-index l.names)
