use Rattle.std.proofs.Common.{take}
use Rattle.std.specs.List.{AllByRecursion}
use Rattle.transcript_text.specs.OneForm.{HasSumText}
use Rattle.line_widths.proofs.values.know_sums.Given as goal

abbrev pub invariant-loop-object : goal.invariant-loop-object
invariant-loop-object l = AllByRecursion HasSumText (take l.object-index l.objects)
