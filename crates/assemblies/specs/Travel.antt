-- Which chunks of a content travel by themselves.
use Rattle.std.specs.Prelude.{Bool, true, false, nat_lt}
use Rattle.row_value.specs.declared.pieces.Piece.{Piece}
use Rattle.row_value.specs.declared.pieces.Piece.TheVariants.{Keep, Fresh}
use Rattle.assemblies.specs.declared.sent.Sent.{Sent}
use Rattle.assemblies.specs.declared.sent.Sent.TheVariants as sents

-- a new chunk always does; one that has a name where all do, or where its version is above the position
abbrev pub is_sent : Sent → Piece → Bool
is_sent sents.Fresh (Fresh ordinal) = true
is_sent sents.Fresh (Keep name) = false
is_sent (sents.Above position) (Fresh ordinal) = true
is_sent (sents.Above position) (Keep name) = nat_lt position name.version
is_sent sents.All piece = true
