use Rattle.std.proofs.Common.{◌≡◌, ◌++◌, length, take, map}
use Rattle.value_codec.specs.Spelling.{pieces_of}
use Rattle.store_commit.specs.NamedChunks.{names_in}
use Rattle.store_commit.specs.Agenda.{named_object, puts, drops}
use Rattle.store_commit.specs.Standing.{write_of}
use Rattle.store_commit.proofs.plan.add_names.Given as goal

abbrev pub invariant-loop-piece : goal.invariant-loop-piece
invariant-loop-piece l = l.names.items ≡ l.fn.names.items ++ names_in (take l.piece-index l.pieces)
