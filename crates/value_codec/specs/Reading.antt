-- Reading from left to right, up to the first place at which no spelling goes on. A field is a value and the bytes
-- behind it. A fault is the number of bytes from that place on, 0 where bytes are missing at the end.
use Rattle.std.specs.Prelude.{◌≡◌, ℕ, zero, suc, ◌+◌, ◌-◌, ◌≤◌, ◌^◌, Bool, true, false, ◌==◌, ◌&&◌, nat_lt}
use Rattle.std.specs.Prelude.{if◌then◌else◌, List, [], ◌∷◌, length, take, drop, Result, Ok, Err}
use Rattle.std.specs.Int.{Width, w32, w64, byte_len, from_be_bytes, to_be_bytes, cast_signed}
use Rattle.stab_base.specs.declared.chunk_name.ChunkName.{ChunkName}
use Rattle.value_codec.specs.declared.spell_fault.SpellFault.{SpellFault}
use Rattle.value_codec.specs.declared.spell_fault.SpellFault.TheVariants.{Bad, Memory}
use Rattle.row_value.specs.declared.content.Cell.{Cell}
use Rattle.row_value.specs.declared.content.Cell.TheVariants as cells
use Rattle.row_value.specs.declared.pieces.Piece.{Piece}
use Rattle.row_value.specs.declared.pieces.Piece.TheVariants.{Keep, Fresh}
use Rattle.row_value.specs.declared.pieces.PieceObject.{PieceObject}
use Rattle.row_value.specs.declared.pieces.PieceContent.{PieceContent}
use Rattle.row_value.specs.declared.pieces.PieceContent.TheVariants.{Gone, Row}
use Rattle.value_codec.specs.Spelling.{fresh_in}
use Rattle.value_codec.specs.Utf8.{between, utf8_rest}

infixl 10 ◌>>=◌
-- one field, and then the next
abbrev pub ◌>>=◌ : {A B : Type 0} → Result A ℕ → (A → Result B ℕ) → Result B ℕ
(Ok x) >>= f = f x
(Err left) >>= f = Err left

abbrev pub Fails : {Y : Type 0} → List ℕ → SpellFault → Result Y ℕ → Type 0
Fails bytes Memory read = Unit {0}
Fails bytes (Bad at) read = (at ≤ length bytes) × (read ≡ Err (length bytes - at))

-- what a function answered of these bytes, seen by view, is what reading gives, unless memory ran out
abbrev pub Gives : {X Y : Type 0} → List ℕ → (X → Y) → Result X SpellFault → Result Y ℕ → Type 0
Gives bytes view (Ok x) read = read ≡ Ok (view x)
Gives bytes view (Err e) read = Fails bytes e read

-- ---- fields

unfoldable pub byte_at : List ℕ → Result (ℕ × List ℕ) ℕ
byte_at [] = Err 0
byte_at (b ∷ rest) = Ok (b, rest)

abbrev pub number_at : Width → List ℕ → Result (ℕ × List ℕ) ℕ
number_at w bytes =
    if nat_lt (length bytes) (byte_len w) then Err 0
    else Ok (from_be_bytes w (take (byte_len w) bytes), drop (byte_len w) bytes)

unfoldable pub flag_at : List ℕ → Result (Bool × List ℕ) ℕ
flag_at bytes = do
  flag ← byte_at bytes
  if flag.0 == 0 then Ok (false, flag.1) else (if flag.0 == 1 then Ok (true, flag.1) else Err (length bytes))

-- the 16 bytes of a row's id
unfoldable pub id_at : List ℕ → Result (List ℕ × List ℕ) ℕ
id_at bytes = if nat_lt (length bytes) 16 then Err 0 else Ok (take 16 bytes, drop 16 bytes)

-- a text of so many bytes
unfoldable pub utf8_at : ℕ → List ℕ → Result (List ℕ × List ℕ) ℕ
utf8_at len bytes = do
  rest ← utf8_rest between len bytes
  Ok (take len bytes, rest)

unfoldable pub text_at : List ℕ → Result (List ℕ × List ℕ) ℕ
text_at bytes = do
  len ← number_at w32 bytes
  utf8_at len.0 len.1

-- ---- lists; what an item may be depends on what the items before it leave

unfoldable pub items_at : {S X : Type 0} → (S → X → S) → (S → List ℕ → Result (X × List ℕ) ℕ) → S → ℕ → List ℕ
    → Result (List X × List ℕ) ℕ
items_at next item_at s zero bytes = Ok ([], bytes)
items_at next item_at s (suc n) bytes = do
  first ← item_at s bytes
  others ← items_at next item_at (next s first.0) n first.1
  Ok (first.0 ∷ others.0, others.1)

unfoldable pub list_at : {S X : Type 0} → (S → X → S) → (S → List ℕ → Result (X × List ℕ) ℕ) → S → List ℕ
    → Result (List X × List ℕ) ℕ
list_at next item_at s bytes = do
  count ← number_at w32 bytes
  items_at next item_at s count.0 count.1

-- ---- cells

unfoldable pub int_at : List ℕ → Result (Cell × List ℕ) ℕ
int_at bytes = do
  n ← number_at w64 bytes
  Ok (cells.Int (cast_signed w64 n.0), n.1)

unfoldable pub bool_at : List ℕ → Result (Cell × List ℕ) ℕ
bool_at bytes = do
  flag ← flag_at bytes
  Ok (cells.Bool flag.0, flag.1)

unfoldable pub text_cell_at : List ℕ → Result (Cell × List ℕ) ℕ
text_cell_at bytes = do
  text ← text_at bytes
  Ok (cells.Text text.0, text.1)

unfoldable pub cell_at : List ℕ → Result (Cell × List ℕ) ℕ
cell_at bytes = do
  tag ← byte_at bytes
  if tag.0 == 1 then int_at tag.1
      else (if tag.0 == 2 then bool_at tag.1 else (if tag.0 == 3 then text_cell_at tag.1 else Err (length bytes)))

abbrev pub after_cell : Unit {0} → Cell → Unit {0}
after_cell s cell = s

abbrev pub cell_in : Unit {0} → List ℕ → Result (Cell × List ℕ) ℕ
cell_in s bytes = cell_at bytes

-- ---- pieces

unfoldable pub name_at : List ℕ → Result (ChunkName × List ℕ) ℕ
name_at bytes = do
  version ← number_at w64 bytes
  ordinal ← number_at w32 version.1
  Ok (record { version = version.0; ordinal = ordinal.0 }, ordinal.1)

unfoldable pub keep_at : List ℕ → Result (Piece × List ℕ) ℕ
keep_at bytes = do
  name ← name_at bytes
  Ok (Keep name.0, name.1)

unfoldable pub fresh_at : List ℕ → Result (Piece × List ℕ) ℕ
fresh_at bytes = do
  ordinal ← number_at w32 bytes
  Ok (Fresh ordinal.0, ordinal.1)

unfoldable pub piece_at : List ℕ → Result (Piece × List ℕ) ℕ
piece_at bytes = do
  tag ← byte_at bytes
  if tag.0 == 0 then keep_at tag.1 else (if tag.0 == 1 then fresh_at tag.1 else Err (length bytes))

-- these bytes and no others
unfoldable pub exactly_at : List ℕ → List ℕ → Result (List ℕ) ℕ
exactly_at [] bytes = Ok bytes
exactly_at (x ∷ xs) [] = Err 0
exactly_at (x ∷ xs) (b ∷ bytes) = if b == x then exactly_at xs bytes else Err (suc (length bytes))

unfoldable pub fresh_is_at : ℕ → List ℕ → Result (Piece × List ℕ) ℕ
fresh_is_at fresh bytes = do
  rest ← exactly_at (to_be_bytes w32 fresh) bytes
  Ok (Fresh fresh, rest)

-- a piece behind so many new chunks of its content
unfoldable pub piece_in : ℕ → List ℕ → Result (Piece × List ℕ) ℕ
piece_in fresh bytes = do
  tag ← byte_at bytes
  if tag.0 == 0 then keep_at tag.1
      else (if tag.0 == 1 && nat_lt fresh (2 ^ 32) then fresh_is_at fresh tag.1 else Err (length bytes))

abbrev pub after_piece : ℕ → Piece → ℕ
after_piece fresh (Keep name) = fresh
after_piece fresh (Fresh ordinal) = fresh + 1

-- ---- objects and contents

unfoldable pub object_in : ℕ → List ℕ → Result (PieceObject × List ℕ) ℕ
object_in fresh bytes = do
  len ← number_at w32 bytes
  pieces ← list_at after_piece piece_in fresh len.1
  Ok (record { len = len.0; pieces = pieces.0 }, pieces.1)

abbrev pub after_object : ℕ → PieceObject → ℕ
after_object fresh object = fresh + length (fresh_in object.pieces)

-- a row behind so many new chunks; behind 2 ^ 32 of them it has none
unfoldable pub row_from : ℕ → List ℕ → Result (PieceContent × List ℕ) ℕ
row_from fresh bytes = do
  some ← list_at after_cell cell_in tt bytes
  objects ← list_at after_object object_in fresh some.1
  Ok (Row some.0 objects.0, objects.1)

unfoldable pub content_from : ℕ → List ℕ → Result (PieceContent × List ℕ) ℕ
content_from fresh bytes = do
  tag ← byte_at bytes
  if tag.0 == 0 then Ok (Gone, tag.1) else (if tag.0 == 1 then row_from fresh tag.1 else Err (length bytes))

abbrev pub content_at : List ℕ → Result (PieceContent × List ℕ) ℕ
content_at bytes = content_from 0 bytes

-- a content without new chunks
abbrev pub kept_content_at : List ℕ → Result (PieceContent × List ℕ) ℕ
kept_content_at bytes = content_from (2 ^ 32) bytes

-- nothing may follow the last field
unfoldable pub whole : {X : Type 0} → Result (X × List ℕ) ℕ → Result X ℕ
whole read = do
  x ← read
  if length x.1 == 0 then Ok x.0 else Err (length x.1)
