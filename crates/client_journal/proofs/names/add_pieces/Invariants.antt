use Rattle.std.proofs.Common.{◌≡◌, ◌++◌, take}
use Rattle.client_journal.specs.Names.{names_of_pieces}
use Rattle.client_journal.proofs.names.add_pieces.Given as goal

abbrev pub invariant-loop-piece : goal.invariant-loop-piece
invariant-loop-piece l = l.names.items ≡ l.initial.names.items ++ names_of_pieces (take l.piece-index l.pieces)
