-- What contents that fit a schema have: cells with spellings, and objects whose lengths alone matter.
use Rattle.std.proofs.Common.{◌≡◌, ℕ, zero, suc, ◌+◌, ◌<◌, ◌≤◌, Bool, true, false, List, [], ◌∷◌, length, map, take, Option, Some, None, refl, sym, ◌∙◌, ap, arith, true≢false}
use Rattle.std.specs.Prelude.{◌==◌, ◌&&◌, nat_le, slice_get, sum_by, Ok, Err, is_ok, if◌then◌else◌}
use Rattle.std.specs.List.{AllByRecursion}
use Rattle.std.specs.Int.{div_ceil}
use Rattle.std.specs.Str.{is_utf8}
use Rattle.std.proofs.lemmas.Bool.Decides.{nat_tests}
use Rattle.std.proofs.lemmas.List.{length-replicate}
use Rattle.std.proofs.lemmas.List.Sums.{sum_by-cons}
use Rattle.std.proofs.lemmas.Str.{IsUtf8-from_is_utf8}
use Rattle.row_value.specs.declared.schema.ColumnKind.{ColumnKind}
use Rattle.row_value.specs.declared.schema.ColumnKind.TheVariants as kinds
use Rattle.row_value.specs.declared.schema.Column.{Column}
use Rattle.row_value.specs.declared.schema.Schema.{Schema}
use Rattle.row_value.specs.declared.content.Cell.{Cell}
use Rattle.row_value.specs.declared.content.Cell.TheVariants as cells_of
use Rattle.row_value.specs.declared.content.Content.{Content}
use Rattle.row_value.specs.declared.content.Content.TheVariants as contents
use Rattle.row_value.specs.declared.fit.FitFault.TheVariants.{BadObject}
use Rattle.row_value.specs.Fit.{cell_count, text_most, is_of, spelled_len, row_len, has_cell, is_cell_of, object_most, len_of, is_short, has_object, chunk_count, spelled_most}
use Rattle.row_value.specs.Fit.{wrong_in, or_surplus, misfit, object_misfit, chunks_of, size_fit, objects_fit, cells_fit, fit_of}
use Rattle.row_value.proofs.Wrongs.{fit-gone}
use Rattle.value_codec.specs.Spelling.{HasCellSpelling}
use Rattle.held_value.specs.declared.local_name.LocalName.{LocalName}
use Rattle.held_value.specs.declared.content.HeldObject.{HeldObject}
use Rattle.held_value.specs.declared.content.HeldContent.{HeldContent}
use Rattle.held_value.specs.declared.content.HeldContent.TheVariants as held_as
use Rattle.client_journal.specs.There.{zeros_for, fits_by_len}
use Rattle.journal_laws.specs.Whole.{whole_object, whole, HasLen, HaveLens}
use Rattle.held_contents.proofs.Fits.{all_right, no_surplus, cell_columns, object_places}
use Rattle.plan_limits.specs.Fit.{HasWord}

second : (a b : Bool) → a && b ≡ true → b ≡ true
second true b h = h
second false b h = absurd (true≢false (sym h))

-- ---- cells that fit and have words for their numbers have spellings

first : (a b : Bool) → a && b ≡ true → a ≡ true
first true b h = refl
first false b h = h

text_spelled : (kind : ColumnKind) (text : List ℕ) → is_of kind (cells_of.Text text) ≡ true → HasCellSpelling (cells_of.Text text)
text_spelled kinds.Int text h = absurd cc
text_spelled kinds.Bool text h = absurd cc
text_spelled kinds.Text text h =
    let short = first (nat_le (length text) text_most) (is_utf8 text) h in
    let low : length text ≤ 65535 = grind (arith, nat_tests) in
    (omega arith, IsUtf8-from_is_utf8 text (second (nat_le (length text) text_most) (is_utf8 text) h))
text_spelled kinds.Object text h = absurd cc

cell_spelled : (column : Option Column) (cell : Cell) → is_cell_of column (Some cell) ≡ true → HasWord cell → HasCellSpelling cell
cell_spelled None cell h word = absurd cc
cell_spelled (Some column) (cells_of.Int n) h word = word
cell_spelled (Some column) (cells_of.Bool b) h word = tt
cell_spelled (Some column) (cells_of.Text text) h word = text_spelled column.kind text h

all_spelled : (columns : List Column) (cells : List Cell) → ((k : ℕ) → k < length cells → is_cell_of (slice_get columns k) (slice_get cells k) ≡ true) → AllByRecursion HasWord cells
    → AllByRecursion HasCellSpelling cells
all_spelled columns [] right words = tt
all_spelled [] (cell ∷ cells) right words = absurd (let h : false ≡ true = right 0 (omega arith) in cc)
all_spelled (column ∷ columns) (cell ∷ cells) right words =
    (cell_spelled (Some column) cell (right 0 (omega arith)) words.0, all_spelled columns cells (λ k lt. right (suc k) (omega arith)) words.1)

spelled_of : (columns : List Column) (cells : List Cell) → misfit columns cells ≡ None → AllByRecursion HasWord cells → AllByRecursion HasCellSpelling cells
unfolding has_cell
spelled_of columns cells none words =
    let n = no_surplus (length columns) (length cells) (wrong_in (has_cell columns cells) (length columns)) none in
    all_spelled columns cells (λ k lt. first (is_cell_of (slice_get columns k) (slice_get cells k)) (nat_le (sum_by spelled_len (take (k + 1) cells)) spelled_most)
    (all_right (has_cell columns cells) (length columns) n.0 (length columns) (omega arith) k (omega (arith, n.1)))) words

pub cells_spelled : (schema : Schema) (cells : List Cell) (objects : List (List ℕ)) → fit_of schema (contents.Row cells objects) ≡ Ok tt → AllByRecursion HasWord cells
    → AllByRecursion HasCellSpelling cells
unfolding fit_of
cells_spelled schema cells objects h words = by_cells (misfit (cell_columns schema) cells) refl h
  where
    by_cells : (o : Option ℕ) → misfit (cell_columns schema) cells ≡ o → cells_fit schema cells objects o ≡ Ok tt → AllByRecursion HasCellSpelling cells
    by_cells (Some place) is e = absurd cc
    by_cells None is e = spelled_of (cell_columns schema) cells is words

-- ---- objects of the same lengths

abbrev pub HaveSameLens : List (List ℕ) → List (List ℕ) → Type 0
HaveSameLens [] [] = Unit {0}
HaveSameLens (object ∷ objects) (other ∷ others) = (length object ≡ length other) × HaveSameLens objects others
HaveSameLens objects others = ⊥

as_many : (objects others : List (List ℕ)) → HaveSameLens objects others → length objects ≡ length others
as_many [] [] h = refl
as_many [] (other ∷ others) h = absurd h
as_many (object ∷ objects) [] h = absurd h
as_many (object ∷ objects) (other ∷ others) h = ap suc (as_many objects others h.1)

same_sum : (f : List ℕ → ℕ) → ((a b : List ℕ) → length a ≡ length b → f a ≡ f b) → (objects others : List (List ℕ)) → HaveSameLens objects others → sum_by f objects ≡ sum_by f others
same_sum f same [] [] h = refl
same_sum f same [] (other ∷ others) h = absurd h
same_sum f same (object ∷ objects) [] h = absurd h
same_sum f same (object ∷ objects) (other ∷ others) h =
    omega (arith, sum_by-cons f object objects, sum_by-cons f other others, same object other h.0, same_sum f same objects others h.1)

same_len : (objects others : List (List ℕ)) → HaveSameLens objects others → (k : ℕ)
    → (len_of (slice_get objects k) ≡ len_of (slice_get others k)) × (is_short (slice_get objects k) ≡ is_short (slice_get others k))
same_len [] [] h k = (refl, refl)
same_len [] (other ∷ others) h k = absurd h
same_len (object ∷ objects) [] h k = absurd h
same_len (object ∷ objects) (other ∷ others) h zero = (h.0, ap (λ (n : ℕ). nat_le n object_most) h.0)
same_len (object ∷ objects) (other ∷ others) h (suc k) = same_len objects others h.1 k

same_places : (objects others : List (List ℕ)) → HaveSameLens objects others → (places : ℕ) → object_misfit places objects ≡ object_misfit places others
same_places objects others h places =
    let tests : has_object objects ≡ has_object others = λ i k. (same_len objects others h k).1 i in
    ap (λ (n : ℕ). or_surplus places n (wrong_in (has_object objects) places)) (as_many objects others h) ∙ ap (λ (f : ℕ → Bool). or_surplus places (length others) (wrong_in f places)) tests

pub fits_by_lengths : (schema : Schema) (cells : List Cell) (objects others : List (List ℕ)) → HaveSameLens objects others
    → fit_of schema (contents.Row cells objects) ≡ fit_of schema (contents.Row cells others)
unfolding fit_of
fits_by_lengths schema cells objects others h = by_cells (misfit (cell_columns schema) cells)
  where
    sizes : size_fit schema.chunk cells objects ≡ size_fit schema.chunk cells others
    sizes =
        let len : row_len cells objects ≡ row_len cells others = omega (arith, same_sum length (λ a b e. e) objects others h) in
        let chunks : chunks_of schema.chunk objects ≡ chunks_of schema.chunk others =
        same_sum (chunk_count schema.chunk) (λ a b e. ap (λ (n : ℕ). if schema.chunk == 0 then 0 else div_ceil n schema.chunk) e) objects others h in
        rw (len, chunks) refl

    by_objects : (o : Option ℕ) → objects_fit schema cells objects o ≡ objects_fit schema cells others o
    by_objects None = sizes
    by_objects (Some place) = ap (λ (n : ℕ). Err (BadObject (cell_count schema.columns + place) n)) (same_len objects others h place).0

    by_cells : (o : Option ℕ) → cells_fit schema cells objects o ≡ cells_fit schema cells others o
    by_cells (Some place) = refl
    by_cells None = ap (objects_fit schema cells objects) (same_places objects others h (object_places schema)) ∙ by_objects (object_misfit (object_places schema) others)

-- ---- a content that is held

zeros_alike : (meaning : LocalName → List ℕ) (os : List HeldObject) → AllByRecursion (HasLen meaning) os → HaveSameLens (zeros_for os) (map (whole_object meaning) os)
zeros_alike meaning [] h = tt
zeros_alike meaning (o ∷ os) h = (length-replicate o.len 0 ∙ h.0, zeros_alike meaning os h.1)

pub held_fits : (schema : Schema) (content : Content) (meaning : LocalName → List ℕ) (held : HeldContent) → fit_of schema content ≡ Ok tt → whole meaning held ≡ content → HaveLens meaning held → fits_by_len schema held ≡ true
held_fits schema content meaning held_as.Gone fit is lens = ap (λ r. is_ok r) (fit-gone schema)
held_fits schema content meaning (held_as.Row some objects) fit is lens =
    ap (λ r. is_ok r) (fits_by_lengths schema some (zeros_for objects) (map (whole_object meaning) objects) (zeros_alike meaning objects lens) ∙ (ap (fit_of schema) is ∙ fit))
