-- What a row that fits its table's schema keeps within limits: its cells, its objects and its chunks.
use Rattle.std.proofs.Common.{◌≡◌, inl, inr, ℕ, zero, suc, ◌+◌, ◌<◌, ◌≤◌, Bool, true, false, List, [], ◌∷◌, length, take, Option, Some, None, refl, sym, ◌∙◌, subst, arith, true≢false}
use Rattle.std.specs.Prelude.{◌-◌, ◌&&◌, nat_lt, nat_le, min, ◌^◌, slice_get, sum_by, Result, Ok, Err, if◌then◌else◌}
use Rattle.std.specs.List.{AllByRecursion}
use Rattle.std.specs.Str.{is_utf8}
use Rattle.std.proofs.lemmas.Bool.{cases_eq}
use Rattle.std.proofs.lemmas.Bool.Decides.{nat_tests}
use Rattle.std.proofs.lemmas.List.{length-take, take_all}
use Rattle.std.proofs.lemmas.Str.{IsUtf8-from_is_utf8}
use Rattle.row_value.specs.declared.schema.ColumnKind.TheVariants as kinds
use Rattle.row_value.specs.declared.schema.ColumnKind.{ColumnKind}
use Rattle.row_value.specs.declared.schema.Column.{Column}
use Rattle.row_value.specs.declared.schema.Schema.{Schema}
use Rattle.row_value.specs.declared.content.Cell.{Cell}
use Rattle.row_value.specs.declared.content.Cell.TheVariants as cells_of
use Rattle.row_value.specs.declared.content.Content.TheVariants as contents
use Rattle.row_value.specs.declared.fit.FitFault.{FitFault}
use Rattle.row_value.specs.declared.fit.FitFault.TheVariants.{RowTooLarge, TooManyChunks}
use Rattle.row_value.specs.Fit.{cell_count, text_most, is_of, spelled_len, row_len, has_cell, is_cell_of, spelled_most, row_most, chunks_most}
use Rattle.row_value.specs.Fit.{wrong_in, or_surplus, misfit, object_misfit, chunks_of, size_fit, objects_fit, cells_fit, fit_of}
use Rattle.row_value.proofs.Wrongs.{wrong_in-first}
use Rattle.value_codec.specs.Spelling.{HasCellSpelling}
use Rattle.frame_laws.specs.Sizes.{HasWord}

-- ---- places

right_at : (right : ℕ → Bool) (places n : ℕ) → wrong_in right places ≡ None → n < places → ((k : ℕ) → k < n → right k ≡ true) → right n ≡ true
right_at right places n none within below = split (right n) refl
  where
    split : (b : Bool) → right n ≡ b → right n ≡ true
    split true is = is
    split false is = absurd (let some = wrong_in-first right places n within is below in let both : Some n ≡ None = sym some ∙ none in cc)

all_right : (right : ℕ → Bool) (places : ℕ) → wrong_in right places ≡ None → (n : ℕ) → n ≤ places → (k : ℕ) → k < n → right k ≡ true
all_right right places none zero le k lt = absurd (omega arith)
all_right right places none (suc n) le k lt = elim (cases_eq k n) [
  | inl same ↦ subst (λ (j : ℕ). right j ≡ true) (sym same) (right_at right places n none (omega arith) (all_right right places none n (omega arith)))
  | inr other ↦ all_right right places none n (omega arith) k (omega arith)
]

no_surplus : (places given : ℕ) (wrong : Option ℕ) → or_surplus places given wrong ≡ None → (wrong ≡ None) × (given ≤ places)
no_surplus places given (Some place) h = absurd cc
no_surplus places given None h = (refl, pick (nat_lt places given) refl h)
  where
    pick : (b : Bool) → nat_lt places given ≡ b → (if b then Some places else None) ≡ None → given ≤ places
    pick true is e = absurd cc
    pick false is e = grind (arith, nat_tests)

-- ---- the limits of a row

pub record IsWithin (schema : Schema) (cells : List Cell) (objects : List (List ℕ)) : Type 0 where
  pub cells_few : length cells ≤ length schema.columns
  pub spelled : sum_by spelled_len cells ≤ spelled_most
  pub objects_few : length objects ≤ length schema.columns
  pub len : row_len cells objects ≤ row_most
  pub chunks : chunks_of schema.chunk objects ≤ chunks_most

second : (a b : Bool) → a && b ≡ true → b ≡ true
second true b h = h
second false b h = absurd (true≢false (sym h))

spelled_within : (columns : List Column) (cells : List Cell) → misfit columns cells ≡ None → sum_by spelled_len cells ≤ spelled_most
unfolding has_cell
spelled_within columns [] h = omega arith
spelled_within columns (cell ∷ cells) h =
    let n = no_surplus (length columns) (length (cell ∷ cells)) (wrong_in (has_cell columns (cell ∷ cells)) (length columns)) h in
    let right : has_cell columns (cell ∷ cells) (length cells) ≡ true =
    all_right (has_cell columns (cell ∷ cells)) (length columns) n.0 (length columns) (omega arith) (length cells) (omega (arith, n.1)) in
    let low = second (is_cell_of (slice_get columns (length cells)) (slice_get (cell ∷ cells) (length cells)))
    (nat_le (sum_by spelled_len (take (length cells + 1) (cell ∷ cells))) spelled_most) right in
    let whole : take (length cells + 1) (cell ∷ cells) ≡ cell ∷ cells = take_all (length cells + 1) (cell ∷ cells) (omega arith) in
    let below : nat_le (sum_by spelled_len (cell ∷ cells)) spelled_most ≡ true = subst (λ (l : List Cell). nat_le (sum_by spelled_len l) spelled_most ≡ true) whole low in
    grind (arith, nat_tests)

abbrev size_answer : Bool → Bool → ℕ → ℕ → Result (Unit {0}) FitFault
size_answer a b len chunks = if a then Err (RowTooLarge len) else (if b then Err (TooManyChunks chunks) else Ok tt)

sizes_within : (size : ℕ) (cells : List Cell) (objects : List (List ℕ)) → size_fit size cells objects ≡ Ok tt → (row_len cells objects ≤ row_most) × (chunks_of size objects ≤ chunks_most)
sizes_within size cells objects h = pick (nat_lt row_most (row_len cells objects)) refl (nat_lt chunks_most (chunks_of size objects)) refl h
  where
    pick : (a : Bool) → nat_lt row_most (row_len cells objects) ≡ a → (b : Bool) → nat_lt chunks_most (chunks_of size objects) ≡ b
        → size_answer a b (min (row_len cells objects) (2 ^ 64 - 1)) (chunks_of size objects) ≡ Ok tt → (row_len cells objects ≤ row_most) × (chunks_of size objects ≤ chunks_most)
    pick true p b q e = absurd cc
    pick false p true q e = absurd cc
    pick false p false q e = (grind (arith, nat_tests), grind (arith, nat_tests))

abbrev cell_columns : Schema → List Column
cell_columns schema = take (cell_count schema.columns) schema.columns

abbrev object_places : Schema → ℕ
object_places schema = length schema.columns - cell_count schema.columns

pub row_within : (schema : Schema) (cells : List Cell) (objects : List (List ℕ)) → fit_of schema (contents.Row cells objects) ≡ Ok tt → IsWithin schema cells objects
unfolding fit_of
row_within schema cells objects h = by_cells (misfit (cell_columns schema) cells) refl h
  where
    by_objects : misfit (cell_columns schema) cells ≡ None → (o : Option ℕ) → object_misfit (object_places schema) objects ≡ o → objects_fit schema cells objects o ≡ Ok tt
        → IsWithin schema cells objects
    by_objects none (Some place) is e = absurd cc
    by_objects none None is e =
        let c = no_surplus (length (cell_columns schema)) (length cells) (wrong_in (has_cell (cell_columns schema) cells) (length (cell_columns schema))) none in
        let o = no_surplus (object_places schema) (length objects) _ is in
        let s = sizes_within schema.chunk cells objects e in
        record {
          cells_few = omega (arith, c.1, length-take (cell_count schema.columns) schema.columns);
          spelled = spelled_within (cell_columns schema) cells none;
          objects_few = omega (arith, o.1);
          len = s.0;
          chunks = s.1;
        }

    by_cells : (o : Option ℕ) → misfit (cell_columns schema) cells ≡ o → cells_fit schema cells objects o ≡ Ok tt → IsWithin schema cells objects
    by_cells (Some place) is e = absurd cc
    by_cells None is e = by_objects is (object_misfit (object_places schema) objects) refl e

-- ---- cells that fit and have words for their numbers have spellings

first : (a b : Bool) → a && b ≡ true → a ≡ true
first true b h = refl
first false b h = h

text_spelled : (kind : ColumnKind) (text : List ℕ) → is_of kind (cells_of.Text text) ≡ true → HasCellSpelling (cells_of.Text text)
text_spelled kinds.Int text h = absurd cc
text_spelled kinds.Bool text h = absurd cc
text_spelled kinds.Text text h =
    let short = first (nat_le (length text) text_most) (is_utf8 text) h in
    let low : length text ≤ 65535 = grind (arith, nat_tests) in
    (omega arith, IsUtf8-from_is_utf8 text (second (nat_le (length text) text_most) (is_utf8 text) h))
text_spelled kinds.Object text h = absurd cc

cell_spelled : (column : Option Column) (cell : Cell) → is_cell_of column (Some cell) ≡ true → HasWord cell → HasCellSpelling cell
cell_spelled None cell h word = absurd cc
cell_spelled (Some column) (cells_of.Int n) h word = word
cell_spelled (Some column) (cells_of.Bool b) h word = tt
cell_spelled (Some column) (cells_of.Text text) h word = text_spelled column.kind text h

all_spelled : (columns : List Column) (cells : List Cell) → ((k : ℕ) → k < length cells → is_cell_of (slice_get columns k) (slice_get cells k) ≡ true) → AllByRecursion HasWord cells
    → AllByRecursion HasCellSpelling cells
all_spelled columns [] right words = tt
all_spelled [] (cell ∷ cells) right words = absurd (let h : false ≡ true = right 0 (omega arith) in cc)
all_spelled (column ∷ columns) (cell ∷ cells) right words =
    (cell_spelled (Some column) cell (right 0 (omega arith)) words.0, all_spelled columns cells (λ k lt. right (suc k) (omega arith)) words.1)

spelled_of : (columns : List Column) (cells : List Cell) → misfit columns cells ≡ None → AllByRecursion HasWord cells → AllByRecursion HasCellSpelling cells
unfolding has_cell
spelled_of columns cells none words =
    let n = no_surplus (length columns) (length cells) (wrong_in (has_cell columns cells) (length columns)) none in
    all_spelled columns cells (λ k lt. first (is_cell_of (slice_get columns k) (slice_get cells k)) (nat_le (sum_by spelled_len (take (k + 1) cells)) spelled_most)
    (all_right (has_cell columns cells) (length columns) n.0 (length columns) (omega arith) k (omega (arith, n.1)))) words

pub cells_spelled : (schema : Schema) (cells : List Cell) (objects : List (List ℕ)) → fit_of schema (contents.Row cells objects) ≡ Ok tt → AllByRecursion HasWord cells
    → AllByRecursion HasCellSpelling cells
unfolding fit_of
cells_spelled schema cells objects h words = by_cells (misfit (cell_columns schema) cells) refl h
  where
    by_cells : (o : Option ℕ) → misfit (cell_columns schema) cells ≡ o → cells_fit schema cells objects o ≡ Ok tt → AllByRecursion HasCellSpelling cells
    by_cells (Some place) is e = absurd cc
    by_cells None is e = spelled_of (cell_columns schema) cells is words
