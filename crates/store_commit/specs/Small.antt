-- Small devices, over which it is computed which rows a start takes as not there.
use Rattle.std.specs.Prelude.{ℕ, List, [], ◌∷◌, map, Option, Some, None}
use Rattle.stab_base.specs.declared.chunk_name.ChunkName.{ChunkName}
use Rattle.row_value.specs.declared.pieces.Piece.TheVariants.{Keep}
use Rattle.row_value.specs.declared.pieces.PieceObject.{PieceObject}
use Rattle.row_value.specs.declared.pieces.PieceContent.{PieceContent}
use Rattle.row_value.specs.declared.pieces.PieceContent.TheVariants.{Gone, Row}
use Rattle.row_value.specs.declared.schema.Column.{Column}
use Rattle.row_value.specs.declared.schema.ColumnKind.TheVariants as kinds
use Rattle.row_value.specs.declared.schema.Scheme.TheVariants.{Causal}
use Rattle.row_value.specs.declared.schema.Schema.{Schema}
use Rattle.row_store.specs.declared.stored.StoredRow.{StoredRow}
use Rattle.store_commit.specs.Devs.{Devs}

-- one object in chunks of two bytes
abbrev pub small_schema : Schema
small_schema =
    record {
      name = [];
      scheme = Causal;
      chunk = 2;
      columns = record { name = []; kind = kinds.Object } ∷ [];
    }

abbrev pub named : ℕ → ℕ → ChunkName
named version ordinal = record { version = version; ordinal = ordinal }

-- two chunks of two bytes, and one of one
abbrev pub first : ChunkName
first = named 1 0

abbrev pub last : ChunkName
last = named 1 1

abbrev pub later : ChunkName
later = named 2 0

abbrev pub absent : ChunkName
absent = named 1 7

abbrev pub object : ℕ → List ChunkName → PieceObject
object len names = record { len = len; pieces = map (λ name. Keep name) names }

abbrev pub row : ℕ → ℕ → PieceContent → List ℕ × StoredRow
row id version content =
    (id ∷ [], record { row = id ∷ []; version = version; content = content; pairs = [] })

-- a row of one object
abbrev pub one : ℕ → ℕ → ℕ → List ChunkName → List ℕ × StoredRow
one id version len names = row id version (Row [] (object len names ∷ []))

-- a row of two
abbrev pub two : ℕ → ℕ → List ChunkName → List ℕ × StoredRow
two id version names = row id version (Row [] (object 2 names ∷ object 0 [] ∷ []))

abbrev pub small_with : Option (Schema × ℕ) → List (List ℕ × StoredRow) → Devs
small_with table rows =
    record {
      chunks = (first, 5 ∷ 6 ∷ []) ∷ (last, 7 ∷ []) ∷ (later, 8 ∷ 9 ∷ []) ∷ [];
      held = record { rows = rows; table = table; subs = [] };
      pending = None;
    }

abbrev pub small : List (List ℕ × StoredRow) → Devs
small rows = small_with (Some (small_schema, 2)) rows
