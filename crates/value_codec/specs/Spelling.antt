-- Which cells, pieces and contents have a spelling, and the one spelling of each.
use Rattle.std.specs.Prelude.{◌≡◌, ℕ, ◌+◌, ◌<◌, ◌^◌, Bool, if◌then◌else◌, List, [], ◌∷◌, ◌++◌, length, IsUtf8}
use Rattle.std.specs.Prelude.{FitsSigned}
use Rattle.std.specs.List.{flat_map, AllByRecursion}
use Rattle.std.specs.Int.{w32, w64, to_be_bytes, cast_unsigned}
use Rattle.stab_base.specs.Codec.{counted}
use Rattle.stab_base.specs.declared.chunk_name.ChunkName.{ChunkName}
use Rattle.row_value.specs.declared.content.Cell.{Cell}
use Rattle.row_value.specs.declared.content.Cell.TheVariants as cells
use Rattle.row_value.specs.declared.pieces.Piece.{Piece}
use Rattle.row_value.specs.declared.pieces.Piece.TheVariants.{Keep, Fresh}
use Rattle.row_value.specs.declared.pieces.PieceObject.{PieceObject}
use Rattle.row_value.specs.declared.pieces.PieceContent.{PieceContent}
use Rattle.row_value.specs.declared.pieces.PieceContent.TheVariants.{Gone, Row}

abbrev pub flag_spelling : Bool → List ℕ
flag_spelling b = (if b then 1 else 0) ∷ []

-- four bytes of their number, and the items
abbrev pub list_spelling : {X : Type 0} → (X → List ℕ) → List X → List ℕ
list_spelling spelling xs = to_be_bytes w32 (length xs) ++ flat_map spelling xs

-- ---- cells

abbrev pub cell_spelling : Cell → List ℕ
cell_spelling (cells.Int n) = 1 ∷ to_be_bytes w64 (cast_unsigned w64 n)
cell_spelling (cells.Bool b) = 2 ∷ flag_spelling b
cell_spelling (cells.Text text) = 3 ∷ counted text

abbrev pub HasCellSpelling : Cell → Type 0
HasCellSpelling (cells.Int n) = FitsSigned w64 n
HasCellSpelling (cells.Bool b) = Unit {0}
HasCellSpelling (cells.Text text) = (length text < 2 ^ 32) × IsUtf8 text

-- ---- pieces

abbrev pub name_spelling : ChunkName → List ℕ
name_spelling name = to_be_bytes w64 name.version ++ to_be_bytes w32 name.ordinal

pub record HasNameSpelling (name : ChunkName) : Type 0 where
  pub version : name.version < 2 ^ 64
  pub ordinal : name.ordinal < 2 ^ 32

abbrev pub piece_spelling : Piece → List ℕ
piece_spelling (Keep name) = 0 ∷ name_spelling name
piece_spelling (Fresh ordinal) = 1 ∷ to_be_bytes w32 ordinal

abbrev pub HasPieceSpelling : Piece → Type 0
HasPieceSpelling (Keep name) = HasNameSpelling name
HasPieceSpelling (Fresh ordinal) = ordinal < 2 ^ 32

-- the ordinals of the new chunks, in order
abbrev pub fresh_in : List Piece → List ℕ
fresh_in [] = []
fresh_in (Keep name ∷ pieces) = fresh_in pieces
fresh_in (Fresh ordinal ∷ pieces) = ordinal ∷ fresh_in pieces

-- ---- objects

abbrev pub object_spelling : PieceObject → List ℕ
object_spelling object = to_be_bytes w32 object.len ++ list_spelling piece_spelling object.pieces

pub record HasObjectSpelling (object : PieceObject) : Type 0 where
  pub len : object.len < 2 ^ 32
  pub count : length object.pieces < 2 ^ 32
  pub each_piece : AllByRecursion HasPieceSpelling object.pieces

-- ---- contents

abbrev pub pieces_of : List PieceObject → List Piece
pieces_of objects = flat_map (λ object. object.pieces) objects

-- a number, the next one, and so on
abbrev pub CountsFrom : ℕ → List ℕ → Type 0
CountsFrom first [] = Unit {0}
CountsFrom first (n ∷ ns) = (n ≡ first) × CountsFrom (first + 1) ns

abbrev pub content_spelling : PieceContent → List ℕ
content_spelling Gone = 0 ∷ []
content_spelling (Row some objects) = 1 ∷ (list_spelling cell_spelling some ++ list_spelling object_spelling objects)

pub record HasRowSpelling (some : List Cell) (objects : List PieceObject) : Type 0 where
  pub cell_count : length some < 2 ^ 32
  pub each_cell : AllByRecursion HasCellSpelling some
  pub object_count : length objects < 2 ^ 32
  pub each_object : AllByRecursion HasObjectSpelling objects
  pub fresh : CountsFrom 0 (fresh_in (pieces_of objects))

abbrev pub HasContentSpelling : PieceContent → Type 0
HasContentSpelling Gone = Unit {0}
HasContentSpelling (Row some objects) = HasRowSpelling some objects

-- no new chunk
abbrev pub AreKept : PieceContent → Type 0
AreKept Gone = Unit {0}
AreKept (Row some objects) = fresh_in (pieces_of objects) ≡ []

pub record HasKeptSpelling (content : PieceContent) : Type 0 where
  pub spelled : HasContentSpelling content
  pub kept : AreKept content
