use Rattle.std.proofs.Common.{◌≡◌, ◌++◌, take}
use Rattle.std.specs.List.{flat_map}
use Rattle.std.specs.String.{string_bytes}
use Rattle.transcript_text.specs.Text.{sum_text}
use Rattle.transcript_text.proofs.print.put_sums.Given as goal

abbrev pub invariant-loop-object : goal.invariant-loop-object
invariant-loop-object l = string_bytes l.out ≡ string_bytes l.fn.out ++ flat_map sum_text (take l.object-index l.objects)
