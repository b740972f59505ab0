-- Pairs of a table's rows, and answers that are rows of it.
use Rattle.std.specs.Prelude.{◌≡◌, Result, Ok, Err, IfOk}
use Rattle.std.specs.declared.alloc.AllocError.{AllocError}
use Rattle.row_value.specs.declared.schema.Schema.{Schema}
use Rattle.row_value.specs.declared.content.Content.{Content}
use Rattle.row_value.specs.Fit.{fit_of}
use Rattle.conflicts.specs.declared.pair.Pair.{Pair}
use Rattle.conflicts.specs.declared.pair.Choice.{Choice}
use Rattle.conflicts.specs.declared.pair.Choice.TheVariants.{Mine, Theirs, New}

abbrev pub ContentFits : Schema → Content → Type 0
ContentFits schema content = fit_of schema content ≡ Ok tt

-- both sides are rows of the table
pub record PairFits (schema : Schema) (pair : Pair) : Type 0 where
  pub mine : ContentFits schema pair.mine
  pub theirs : ContentFits schema pair.theirs

-- a new content is a row of the table
abbrev pub ChoiceFits : Schema → Choice → Type 0
ChoiceFits schema Mine = Unit {0}
ChoiceFits schema Theirs = Unit {0}
ChoiceFits schema (New content) = ContentFits schema content

abbrev pub AnswerFits : Schema → Result Choice AllocError → Type 0
AnswerFits schema answer = IfOk answer (ChoiceFits schema)
