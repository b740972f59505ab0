use Rattle.std.proofs.Common.{◌≡◌, []}
use Rattle.script_words.specs.Words.{texts}
use Rattle.script_text.specs.Names.{texts_of, IsSetOf}
use Rattle.script_text.specs.Places.{names_of, has_object, new_column_at, with_column}
use Rattle.script_text.specs.Reading.{columns_in}
use Rattle.script_text.proofs.Each.{left}
use Rattle.script_text.proofs.columns.columns_of.Given as goal

abbrev pub invariant-loop-i : goal.invariant-loop-i
invariant-loop-i l = record {
  read : columns_in l.at [] (texts l.words) ≡ left new_column_at with_column l.at l.words l.i l.columns;
  named : IsSetOf (texts_of l.named) (names_of l.columns);
  objects : l.objects ≡ has_object l.columns;
}
