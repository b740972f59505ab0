use Rattle.std.proofs.Common.{◌≡◌, drop}
use Rattle.select_lang.specs.Machine.{seen, start, read_all}
use Rattle.select_lang.proofs.selection.read_all.Given as goal

abbrev pub invariant-words : goal.invariant-words
invariant-words l = read_all l.schema l.at (seen l.reader) (drop l.at l.words) ≡ read_all l.schema 0 (start 64) l.words
