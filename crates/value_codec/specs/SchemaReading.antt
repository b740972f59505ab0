-- Reading a schema from left to right, up to the first place at which no spelling goes on.
use Rattle.std.specs.Prelude.{ℕ, Bool, false, ◌==◌, ◌||◌, nat_lt, if◌then◌else◌, List, [], ◌∷◌, length, Result, Ok, Err}
use Rattle.row_value.specs.declared.schema.ColumnKind.{ColumnKind}
use Rattle.row_value.specs.declared.schema.ColumnKind.TheVariants as kinds
use Rattle.row_value.specs.declared.schema.Scheme.{Scheme}
use Rattle.row_value.specs.declared.schema.Scheme.TheVariants.{Strong, Causal, Eventual}
use Rattle.row_value.specs.declared.schema.Column.{Column}
use Rattle.row_value.specs.declared.schema.Schema.{Schema}
use Rattle.row_value.specs.Fit.{is_object}
use Rattle.value_codec.specs.Reading.{◌>>=◌, byte_at, exactly_at, text_at, items_at}

unfoldable pub scheme_at : List ℕ → Result (Scheme × List ℕ) ℕ
scheme_at bytes = do
  code ← byte_at bytes
  if code.0 == 1 then Ok (Strong, code.1)
      else (if code.0 == 2 then Ok (Causal, code.1)
      else (if code.0 == 3 then Ok (Eventual, code.1) else Err (length bytes)))

-- a chunk size whose first two bytes are 0
unfoldable pub low_chunk_at : List ℕ → Result (ℕ × List ℕ) ℕ
low_chunk_at bytes = do
  third ← byte_at bytes
  if third.0 == 0 then (do
    rest ← exactly_at (64 ∷ []) third.1
    Ok (64, rest))
      else (if third.0 == 4 then (do
        rest ← exactly_at (0 ∷ []) third.1
        Ok (1024, rest)) else Err (length bytes))

-- a chunk size whose first byte is 0
unfoldable pub high_chunk_at : List ℕ → Result (ℕ × List ℕ) ℕ
high_chunk_at bytes = do
  second ← byte_at bytes
  if second.0 == 0 then low_chunk_at second.1
      else (if second.0 == 1 then (do
        rest ← exactly_at (0 ∷ 0 ∷ []) second.1
        Ok (65536, rest)) else Err (length bytes))

unfoldable pub chunk_at : List ℕ → Result (ℕ × List ℕ) ℕ
chunk_at bytes = do
  rest ← exactly_at (0 ∷ []) bytes
  high_chunk_at rest

-- a number from 1 to 32 in one byte
unfoldable pub low_count_at : List ℕ → Result (ℕ × List ℕ) ℕ
low_count_at bytes = do
  last ← byte_at bytes
  if last.0 == 0 || nat_lt 32 last.0 then Err (length bytes) else Ok (last.0, last.1)

unfoldable pub count_at : List ℕ → Result (ℕ × List ℕ) ℕ
count_at bytes = do
  rest ← exactly_at (0 ∷ 0 ∷ 0 ∷ []) bytes
  low_count_at rest

-- a column's kind; behind an object column another one alone
unfoldable pub kind_in : Bool → List ℕ → Result (ColumnKind × List ℕ) ℕ
kind_in only_objects bytes = do
  code ← byte_at bytes
  if code.0 == 4 then Ok (kinds.Object, code.1)
      else (if only_objects then Err (length bytes)
      else (if code.0 == 1 then Ok (kinds.Int, code.1)
      else (if code.0 == 2 then Ok (kinds.Bool, code.1)
      else (if code.0 == 3 then Ok (kinds.Text, code.1) else Err (length bytes)))))

unfoldable pub column_in : Bool → List ℕ → Result (Column × List ℕ) ℕ
column_in only_objects bytes = do
  name ← text_at bytes
  kind ← kind_in only_objects name.1
  Ok (record { name = name.0; kind = kind.0 }, kind.1)

abbrev pub after_column : Bool → Column → Bool
after_column only_objects column = only_objects || is_object column.kind

unfoldable pub columns_at : List ℕ → Result (List Column × List ℕ) ℕ
columns_at bytes = do
  count ← count_at bytes
  items_at after_column column_in false count.0 count.1

unfoldable pub schema_at : List ℕ → Result (Schema × List ℕ) ℕ
schema_at bytes = do
  name ← text_at bytes
  scheme ← scheme_at name.1
  chunk ← chunk_at scheme.1
  columns ← columns_at chunk.1
  Ok (record { name = name.0; scheme = scheme.0; chunk = chunk.0; columns = columns.0 }, columns.1)
