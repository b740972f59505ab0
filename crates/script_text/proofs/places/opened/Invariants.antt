use Rattle.std.proofs.Common.{◌≡◌, [], take}
use Rattle.script_text.specs.Names.{texts_of, IsSetOf}
use Rattle.script_words.specs.Words.{texts}
use Rattle.script_text.specs.Places.{tables_in}
use Rattle.script_text.proofs.TableLemmas.{left}
use Rattle.script_text.proofs.places.opened.Given as goal

abbrev pub invariant-loop-word : goal.invariant-loop-word
invariant-loop-word l = record {
  read : tables_in l.names [] (texts l.words) ≡ left l.names l.words l.word-index l.tables;
  named : IsSetOf (texts_of l.named) (take l.word-index (texts l.words));
}
