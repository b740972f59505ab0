use Rattle.std.proofs.Common.{◌≡◌, []}
use Rattle.script_words.specs.Words.{texts}
use Rattle.script_text.specs.Names.{columns_of}
use Rattle.script_text.specs.Places.{next_change, with_change}
use Rattle.script_text.specs.Reading.{changes_in}
use Rattle.script_text.proofs.Each.{left}
use Rattle.script_text.proofs.edits.changes_of.Given as goal

abbrev pub invariant-loop-i : goal.invariant-loop-i
invariant-loop-i l =
    changes_in (columns_of l.names l.table) l.at [] (texts l.words)
    ≡ left (next_change (columns_of l.names l.table)) with_change l.at l.words l.i l.changes
