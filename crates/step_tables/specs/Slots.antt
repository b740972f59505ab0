-- What a client keeps of a row: the contents of its four slots.
use Rattle.std.specs.Prelude.{ℕ, Bool, List, Option}
use Rattle.stab_base.specs.declared.chunk_name.ChunkName.{ChunkName}
use Rattle.row_value.specs.declared.content.Content.{Content}
use Rattle.row_value.specs.declared.pieces.Piece.{Piece}

-- the client's last write of a row that isn't known to be accepted, and the version of the row that it had read
pub record Main : Type 0 where
  pub number : ℕ
  pub read : ℕ
  pub content : Content

-- the row as the client had it from the Store, with the Store's names of the chunks of each object, where they are
-- known
pub record Shadow : Type 0 where
  pub version : ℕ
  pub content : Content
  pub names : List (List (Option ChunkName))

-- the write of a row that was sent and isn't answered yet: the version that it rests on, the pieces that spell the
-- chunks of each of its objects, and whether all of these are sent, since the Store lacked one that was kept
pub record InFlight : Type 0 where
  pub number : ℕ
  pub read : ℕ
  pub base : ℕ
  pub content : Content
  pub pieces : List (List Piece)
  pub whole : Bool
