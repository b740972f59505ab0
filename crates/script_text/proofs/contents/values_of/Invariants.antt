use Rattle.std.proofs.Common.{◌≡◌, []}
use Rattle.script_words.specs.Words.{texts}
use Rattle.script_text.specs.Places.{value_behind, with_value}
use Rattle.script_text.specs.Reading.{values_in}
use Rattle.script_text.proofs.Each.{left}
use Rattle.script_text.proofs.contents.values_of.Given as goal

abbrev pub invariant-loop-i : goal.invariant-loop-i
invariant-loop-i l = values_in l.at ([], []) (texts l.words) ≡ left value_behind with_value l.at l.words l.i (l.cells, l.objects)
