use Rattle.std.proofs.Common.{take}
use Rattle.std.specs.List.{AllByRecursion}
use Rattle.transcript_text.specs.OneForm.{HasNameText}
use Rattle.line_widths.proofs.values.know_names.Given as goal

abbrev pub invariant-loop-name : goal.invariant-loop-name
invariant-loop-name l = AllByRecursion HasNameText (take l.name-index l.names)
