use Rattle.std.proofs.Common.{take}
use Rattle.client_tables.specs.Drops.{names_of_pieces, Forgets}
use Rattle.client_tables.proofs.drops.forget_pieces.Given as goal

abbrev pub invariant-loop-piece : goal.invariant-loop-piece
invariant-loop-piece l = Forgets l.initial.names l.names (names_of_pieces (take l.piece-index l.pieces))
