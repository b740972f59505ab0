use Rattle.std.proofs.Common.{take}
use Rattle.client_journal.specs.Names.{names_of_pieces}
use Rattle.client_journal.specs.There.{HasNames}
use Rattle.kept_chunks.proofs.pieces.taken_by.Given as goal

abbrev pub invariant-loop-piece : goal.invariant-loop-piece
invariant-loop-piece l = HasNames (names_of_pieces (take l.piece-index l.pieces)) l.taken
