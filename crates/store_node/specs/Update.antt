-- What a request is made into, where the chunks of its row are these.
use Rattle.std.specs.Prelude.{ℕ, Bool, true, false, List, [], ◌∷◌, Option, Some, None}
use Rattle.std.specs.Str.{bytes_eq}
use Rattle.stab_base.specs.declared.chunk_name.ChunkName.{ChunkName}
use Rattle.row_value.specs.declared.pieces.Piece.{Piece}
use Rattle.row_value.specs.declared.pieces.Piece.TheVariants.{Keep, Fresh}
use Rattle.step_tables.specs.Messages.{Request, Pull}
use Rattle.step_tables.specs.declared.message.PullRequest.{PullRequest}
use Rattle.step_tables.specs.declared.message.SyncRequest.{SyncRequest}

-- whether there is a piece, and it is new
abbrev pub is_fresh : Option Piece → Bool
is_fresh None = false
is_fresh (Some (Keep name)) = false
is_fresh (Some (Fresh ordinal)) = true

-- the chunks of the new pieces
abbrev pub fresh_of : List Piece → List (List ℕ) → List (List ℕ)
fresh_of pieces [] = []
fresh_of [] (chunk ∷ chunks) = []
fresh_of (Keep name ∷ pieces) (chunk ∷ chunks) = fresh_of pieces chunks
fresh_of (Fresh ordinal ∷ pieces) (chunk ∷ chunks) = chunk ∷ fresh_of pieces chunks

-- whether these are the bytes of a chunk, where one was looked for
abbrev pub has_bytes : Option (List ℕ) → List ℕ → Bool
has_bytes None chunk = false
has_bytes (Some bytes) chunk = bytes_eq bytes chunk

-- whether the chunk of a piece is new, or one that is found by its name with the same bytes
abbrev pub is_found : (ChunkName → Option (List ℕ)) → Piece × List ℕ → Bool
is_found look (Fresh ordinal, chunk) = true
is_found look (Keep name, chunk) = has_bytes (look name) chunk

-- what is made where all that is kept is found
abbrev pub made_if : {X : Type 0} → Bool → X → Option X
made_if true x = Some x
made_if false x = None

abbrev pub request_of : SyncRequest → Request
request_of q = record {
  client = q.client;
  table = q.table;
  row = q.row;
  number = q.number;
  base = q.base;
  content = q.content;
  pieces = q.pieces;
}

abbrev pub pull_of : PullRequest → Pull
pull_of q = record { client = q.client; table = q.table; position = q.position }
