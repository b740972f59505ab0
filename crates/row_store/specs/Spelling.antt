-- Which rows, tables and subscriptions have a payload, and the one payload of each.
use Rattle.std.specs.Prelude.{◌≡◌, ℕ, ◌<◌, ◌≤◌, ◌^◌, Bool, true, false, List, [], ◌∷◌, ◌++◌, length}
use Rattle.std.specs.List.{list_all}
use Rattle.std.specs.Int.{w32, w64, to_be_bytes}
use Rattle.stab_base.specs.declared.limits.TheConstants.{NUMBER_MAX}
use Rattle.row_value.specs.declared.pieces.Piece.{Piece}
use Rattle.row_value.specs.declared.pieces.Piece.TheVariants.{Keep, Fresh}
use Rattle.row_value.specs.declared.pieces.PieceContent.{PieceContent}
use Rattle.row_value.specs.declared.pieces.PieceContent.TheVariants as contents
use Rattle.row_value.specs.declared.schema.Schema.{Schema}
use Rattle.value_codec.specs.Spelling.{flag_spelling, list_spelling, HasContentSpelling, content_spelling}
use Rattle.value_codec.specs.SchemaSpelling.{schema_spelling}
use Rattle.row_store.specs.declared.stored.LastWrite.{LastWrite}
use Rattle.row_store.specs.declared.stored.StoredRow.{StoredRow}
use Rattle.row_store.specs.declared.stored.Terms.{Terms}

-- ---- rows

abbrev pub last_spelling : LastWrite → List ℕ
last_spelling last = to_be_bytes w32 last.client ++ (to_be_bytes w64 last.number ++ to_be_bytes w64 last.version)

-- the last write of a client above the one before it
pub record IsNextLast (before : ℕ) (last : LastWrite) : Type 0 where
  pub above : before < last.client
  pub most : last.client ≤ 64
  pub number : last.number < 2 ^ 64
  pub version : last.version < 2 ^ 64

-- by rising client, each client once
abbrev pub AreLasts : ℕ → List LastWrite → Type 0
AreLasts before [] = Unit {0}
AreLasts before (last ∷ lasts) = IsNextLast before last × AreLasts last.client lasts

abbrev pub is_keep : Piece → Bool
is_keep (Keep name) = true
is_keep (Fresh ordinal) = false

-- each piece names a chunk
abbrev pub all_keep : PieceContent → Bool
all_keep contents.Gone = true
all_keep (contents.Row some objects) = list_all (λ object. list_all is_keep object.pieces) objects

abbrev pub stored_spelling : StoredRow → List ℕ
stored_spelling stored =
    stored.row ++ (to_be_bytes w64 stored.version
    ++ (content_spelling stored.content ++ list_spelling last_spelling stored.pairs))

pub record HasStoredSpelling (stored : StoredRow) : Type 0 where
  pub row : length stored.row ≡ 16
  pub version : stored.version ≤ NUMBER_MAX
  pub content : HasContentSpelling stored.content
  pub keeps : all_keep stored.content ≡ true
  pub lasts : AreLasts 0 stored.pairs

-- a row is 1 and its spelling
abbrev pub row_payload : StoredRow → List ℕ
row_payload stored = 1 ∷ stored_spelling stored

-- ---- tables

-- 1 draft, 2 live, 3 dropped
pub record IsState (state : ℕ) : Type 0 where
  pub least : 1 ≤ state
  pub most : state ≤ 3

-- a table is 2, its schema, and its state
abbrev pub table_payload : Schema → ℕ → List ℕ
table_payload schema state = 2 ∷ (schema_spelling schema ++ state ∷ [])

-- ---- subscriptions

pub record IsClient (client : ℕ) : Type 0 where
  pub least : 1 ≤ client
  pub most : client ≤ 64

-- a subscription is 3, the client, whether it is one, and its terms
abbrev pub sub_payload : ℕ → Bool → Terms → List ℕ
sub_payload client on terms =
    3 ∷ (to_be_bytes w32 client
    ++ (flag_spelling on ++ (to_be_bytes w32 terms.gate
    ++ (to_be_bytes w32 terms.period ++ to_be_bytes w32 terms.tolerance))))
