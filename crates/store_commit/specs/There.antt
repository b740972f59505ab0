-- Which rows a start takes as not there, whatever the bytes of the disks are.
use Rattle.std.specs.Prelude.{◌≡◌, ℕ, ◌+◌, ◌==◌, ◌&&◌, ◌||◌, Bool, true, false, not, nat_lt, if◌then◌else◌}
use Rattle.std.specs.Prelude.{List, [], ◌∷◌, ◌++◌, length, filter, Option, Some, None}
use Rattle.std.specs.List.{list_any, list_all}
use Rattle.std.specs.BTreeMap.{is_at}
use Rattle.std.specs.BTreeSet.{BTreeSet, contains}
use Rattle.stab_base.specs.declared.chunk_name.ChunkName.{ChunkName}
use Rattle.row_value.specs.declared.pieces.Piece.{Piece}
use Rattle.row_value.specs.declared.pieces.Piece.TheVariants.{Keep, Fresh}
use Rattle.row_value.specs.declared.pieces.PieceObject.{PieceObject}
use Rattle.row_value.specs.declared.pieces.PieceContent.{PieceContent}
use Rattle.row_value.specs.declared.pieces.PieceContent.TheVariants.{Gone, Row}
use Rattle.row_value.specs.declared.schema.Schema.{Schema}
use Rattle.chunker.specs.Sized.{count_of, len_at, fits_by_len}
use Rattle.chunk_store.specs.Standing.{chunk_in}
use Rattle.row_store.specs.declared.stored.StoredRow.{StoredRow}
use Rattle.row_store.specs.Data.{TableData, id_cmp, row_of}
use Rattle.store_commit.specs.Devs.{Devs}
use Rattle.store_commit.specs.NamedChunks.{is_among, names_of}

-- ---- pieces and the lengths of their places

-- what a piece that names a chunk stands for
abbrev pub kept : (ChunkName → Option (List ℕ)) → Piece → Option (List ℕ)
kept chunk (Keep name) = chunk name
kept chunk (Fresh ordinal) = None

abbrev pub has_len : Option (List ℕ) → ℕ → Bool
has_len None len = false
has_len (Some bytes) len = length bytes == len

-- From a place of an object on, each piece stands for a chunk with the length of its place.
abbrev pub lens_from : (Piece → Option (List ℕ)) → ℕ → ℕ → ℕ → List Piece → Bool
lens_from stands size len place [] = true
lens_from stands size len place (piece ∷ pieces) =
    has_len (stands piece) (len_at size len place) && lens_from stands size len (place + 1) pieces

-- an object has as many pieces as one of its length has chunks, and each stands for one with the length of its place
abbrev pub has_lens : (Piece → Option (List ℕ)) → ℕ → PieceObject → Bool
has_lens stands size object =
    (length object.pieces == count_of size object.len) && lens_from stands size object.len 0 object.pieces

abbrev pub all_lens : (Piece → Option (List ℕ)) → ℕ → PieceContent → Bool
all_lens stands size Gone = true
all_lens stands size (Row some objects) = list_all (has_lens stands size) objects

-- ---- the five cases

-- a chunk isn't there, or hasn't the length of its place
abbrev pub lacks : (Piece → Option (List ℕ)) → Option (Schema × ℕ) → PieceContent → Bool
lacks stands None content = false
lacks stands (Some table) content = not (all_lens stands table.0.chunk content)

-- a name stands there twice, where these were met before
abbrev pub repeats : List ChunkName → List ChunkName → Bool
repeats met [] = false
repeats met (name ∷ names) = is_among name met || repeats (name ∷ met) names

-- one of the names is one of those before
abbrev pub shares : List ChunkName → List ChunkName → Bool
shares before names = list_any (λ name. is_among name before) names

-- one of the names has a version above the row's
abbrev pub exceeds : ℕ → List ChunkName → Bool
exceeds version names = list_any (λ name. nat_lt version name.version) names

-- the content doesn't fit the table's schema; nothing fits one that isn't there
abbrev pub misfits : Option (Schema × ℕ) → PieceContent → Bool
misfits None content = true
misfits (Some table) content = not (fits_by_len table.0 content)

-- what the chunks and the table are, for the rows
abbrev pub Chunks : Type 0
Chunks = List (ChunkName × List ℕ)

-- A row isn't there, where these are the names of the rows before it that are: a chunk that it names isn't on the
-- device or hasn't the length of its place, it names one twice, it names one that a row before it names, it names a
-- version above its own, or it doesn't fit the schema.
abbrev pub is_not_there : Chunks → Option (Schema × ℕ) → List ChunkName → StoredRow → Bool
is_not_there chunks table before stored =
    lacks (kept (chunk_in chunks)) table stored.content
    || (repeats [] (names_of stored.content)
    || (shares before (names_of stored.content)
    || (exceeds stored.version (names_of stored.content)
    || misfits table stored.content)))

-- ---- the rows by rising id

-- the ids of those that aren't there; a row that isn't there names nothing
abbrev pub hidden_from : Chunks → Option (Schema × ℕ) → List ChunkName → List (List ℕ × StoredRow) → List (List ℕ)
hidden_from chunks table before [] = []
hidden_from chunks table before (e ∷ rows) =
    if is_not_there chunks table before e.1 then e.0 ∷ hidden_from chunks table before rows
    else hidden_from chunks table (before ++ names_of e.1.content) rows

-- the names of those that are
abbrev pub named_from : Chunks → Option (Schema × ℕ) → List ChunkName → List (List ℕ × StoredRow) → List ChunkName
named_from chunks table before [] = before
named_from chunks table before (e ∷ rows) =
    if is_not_there chunks table before e.1 then named_from chunks table before rows
    else named_from chunks table (before ++ names_of e.1.content) rows

abbrev pub hidden_rows : Devs → List (List ℕ)
hidden_rows d = hidden_from d.chunks d.held.table [] d.held.rows

abbrev pub names_there : Devs → List ChunkName
names_there d = named_from d.chunks d.held.table [] d.held.rows

abbrev pub is_id_among : List ℕ → List (List ℕ) → Bool
is_id_among row ids = list_any (is_at (id_cmp row)) ids

-- the set has these ids
pub record HasIds (ids : List (List ℕ)) (set : BTreeSet (List ℕ)) : Type 0 where
  pub same : (row : List ℕ) → contains id_cmp set row ≡ is_id_among row ids

-- without the rows that are hidden
abbrev pub shown : (List ℕ → Bool) → TableData → TableData
shown is_hidden held =
    record { rows = filter (λ e. not (is_hidden e.0)) held.rows; table = held.table; subs = held.subs }

-- ---- whole rows

-- a content fits the schema, and each of its pieces stands for a chunk with the length of its place
pub record IsWhole (stands : Piece → Option (List ℕ)) (table : Option (Schema × ℕ)) (content : PieceContent)
    : Type 0 where
  pub fits : misfits table content ≡ false
  pub lens : lacks stands table content ≡ false

-- each row is whole, where `meaning` is the bytes that each name stands for
pub record WholeRows (meaning : ChunkName → List ℕ) (held : TableData) : Type 0 where
  pub each : (row : List ℕ) (stored : StoredRow) → row_of held row ≡ Some stored
      → IsWhole (kept (λ name. Some (meaning name))) held.table stored.content

-- such a row may be put among these: then each is whole
pub record MayBeWhole (meaning : ChunkName → List ℕ) (held : TableData) (stored : StoredRow) : Type 0 where
  pub before : WholeRows meaning held
  pub row : IsWhole (kept (λ name. Some (meaning name))) held.table stored.content

-- the table has this schema, if it has one
abbrev pub HasNoOther : TableData → Schema → Type 0
HasNoOther held schema = (table : Schema × ℕ) → held.table ≡ Some table → table.0 ≡ schema
