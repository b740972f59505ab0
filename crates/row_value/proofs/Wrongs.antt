-- The first place that isn't right, and what a cell that is right leaves of the room.
use Rattle.std.proofs.Common.{◌≡◌, ℕ, zero, suc, ◌+◌, ◌-◌, ◌<◌, ◌≤◌, Bool, true, false, cond, List, [], ◌∷◌, length, get_or}
use Rattle.std.proofs.Common.{take, Option, Some, None, Ok, Err, refl, sym, ap, ◌∙◌, subst, arith, rules, tests, leb, ltb, inl, inr}
use Rattle.std.specs.Prelude.{IfSome, ◌↔◌, ◌==◌, ◌*◌, ◌/◌, not, ◌&&◌, nat_le, nat_lt, sum_by, slice_get, position, if◌then◌else◌, min}
use Rattle.std.specs.List.{range_with_len, position_or_len}
use Rattle.std.proofs.lemmas.List.Sums.{position_or_len_is, sum_by_more}
use Rattle.std.proofs.lemmas.List.FromFn.{length-range_with_len, get_or-range_with_len}
use Rattle.std.proofs.lemmas.Bool.Decides.{nat_tests}
use Rattle.std.proofs.lemmas.Grind.{common_steps}
use Rattle.row_value.specs.declared.schema.Column.{Column}
use Rattle.row_value.specs.declared.content.Cell.{Cell}
use Rattle.row_value.specs.declared.schema.Schema.{Schema}
use Rattle.row_value.specs.declared.content.Content.TheVariants as contents
use Rattle.row_value.specs.declared.fit.FitFault.TheVariants as faults
use Rattle.row_value.specs.Fit.{wrong_in, misfit, object_misfit, cell_count, cells_fit, objects_fit, size_fit, fit_of, len_of}
use Rattle.row_value.specs.Fit.{or_surplus, has_cell, is_cell_of, is_of, spelled_len, spelled_most, chunk_count, room_at, room_behind}
use Rattle.std.specs.Int.{div_ceil}
use Rattle.std.specs.Str.{IsUtf8, is_utf8}
use Rattle.std.proofs.lemmas.Str.{IsUtf8-from_is_utf8, is_utf8-from_IsUtf8}
use Rattle.std.proofs.lemmas.Bool.{cases_lt}
use Rattle.std.proofs.lemmas.Option.{slice_get_read, slice_get_cases}

-- the places that are looked through
place_at : (places k : ℕ) → k < places → get_or (range_with_len 0 places) k 0 ≡ k
place_at places k within = get_or-range_with_len 0 places k 0 within ∙ omega arith

not_right : (right : ℕ → Bool) (places k : ℕ) → k < places → (b : Bool) → right k ≡ b → not (right (get_or (range_with_len 0 places) k 0)) ≡ not b
not_right right places k within b is = ap (λ n. not (right n)) (place_at places k within) ∙ ap not is

pub wrong_in-first : (right : ℕ → Bool) (places place : ℕ) → place < places → right place ≡ false → ((k : ℕ) → k < place → right k ≡ true) → wrong_in right places ≡ Some place
unfolding wrong_in
wrong_in-first right places place within wrong before =
    let count : length (range_with_len 0 places) ≡ places = length-range_with_len 0 places in
    let first : position_or_len (λ k. not (right k)) (range_with_len 0 places) ≡ place =
    position_or_len_is (λ k. not (right k)) (range_with_len 0 places) place 0 (omega (arith, count))
    (λ k below. not_right right places k (omega arith) true (before k below))
    (λ _. not_right right places place within false wrong) in
    rw (first, count) (let less : nat_lt place places ≡ true = grind (arith, nat_tests) in rw less refl)

pub wrong_in-none : (right : ℕ → Bool) (places : ℕ) → ((k : ℕ) → k < places → right k ≡ true) → wrong_in right places ≡ None
unfolding wrong_in
wrong_in-none right places before =
    let count : length (range_with_len 0 places) ≡ places = length-range_with_len 0 places in
    let last : position_or_len (λ k. not (right k)) (range_with_len 0 places) ≡ places =
    position_or_len_is (λ k. not (right k)) (range_with_len 0 places) places 0 (omega (arith, count))
    (λ k below. not_right right places k below true (before k below))
    (λ past. absurd (omega (arith, count, past))) in
    rw (last, count) (let less : nat_lt places places ≡ false = grind (arith, nat_tests) in rw less refl)

pub or_surplus-within : (places given : ℕ) (wrong : Option ℕ) → IfSome wrong (λ place. place < places) → IfSome (or_surplus places given wrong) (λ place. place ≤ places)
or_surplus-within places given None h = elim (nat_lt places given) as (λ b. IfSome (if b then Some places else None) (λ place. place ≤ places)) [ true ↦ omega arith | false ↦ tt ]
or_surplus-within places given (Some place) h = omega (arith, h)

-- ---- cells

passed_none : (b : Bool) (n : ℕ) → (if b then Some n else None) ≡ None → b ≡ false
passed_none true n e = absurd (let bad : Some n ≡ None = e in cc)
passed_none false n e = refl

passed_some : (b : Bool) (n rest : ℕ) → (if b then Some n else None) ≡ Some rest → (b ≡ true) × (rest ≡ n)
passed_some true n rest e = (refl, (let same : Some n ≡ Some rest = e in cc))
passed_some false n rest e = absurd (let bad : None ≡ Some rest = e in cc)

room_enough : (b : Bool) (n room : ℕ) → (b && nat_le n room) ≡ true → n ≤ room
room_enough true n room e = grind (arith, nat_tests, e)
room_enough false n room e = absurd (let bad : false ≡ true = e in cc)

-- what is known of a place, its column and the room before it
module _ (columns : List Column) (some : List Cell) (place room : ℕ) (column : Column) (within : place < length columns) (is : column ≡ get_or columns place column)
    (left : room + sum_by spelled_len (take place some) ≡ spelled_most) where
  there : slice_get columns place ≡ Some column
  there = slice_get_read columns (length columns) place column refl within is

  more : (cell : Cell) → slice_get some place ≡ Some cell → sum_by spelled_len (take (place + 1) some) ≡ sum_by spelled_len (take place some) + spelled_len cell
  more cell given = elim (slice_get_cases some place).1 [
    | inl h ↦ (let same : h.0 ≡ cell = cc (given, h.2) in sum_by_more spelled_len some place h.0 h.1 ∙ ap (λ (c : Cell). sum_by spelled_len (take place some) + spelled_len c) (h.3 ∙ same))
    | inr h ↦ absurd (let bad : None ≡ Some cell = cc (given, h.1) in cc)
  ]

  -- a cell is right where the room has a rest
  has_cell-fits : (cell : Cell) → slice_get some place ≡ Some cell → has_cell columns some place ≡ (is_of column.kind cell && nat_le (spelled_len cell) room)
  unfolding has_cell
  has_cell-fits cell given = let e = more cell given in rw (there, given, e) (ap (λ b. is_of column.kind cell && b) (grind (arith, nat_tests)))

  none_at : (o : Option Cell) → slice_get some place ≡ o → room_at room column.kind o ≡ None → has_cell columns some place ≡ false
  unfolding has_cell
  none_at None given none = rw (there, given) refl
  none_at (Some cell) given none = has_cell-fits cell given ∙ passed_none (is_of column.kind cell && nat_le (spelled_len cell) room) (room - spelled_len cell) none

  pub no_room : room_at room column.kind (slice_get some place) ≡ None → has_cell columns some place ≡ false
  no_room = none_at (slice_get some place) refl

  some_at : (o : Option Cell) → slice_get some place ≡ o → (rest : ℕ) → room_at room column.kind o ≡ Some rest
      → (has_cell columns some place ≡ true) × (rest + sum_by spelled_len (take (place + 1) some) ≡ spelled_most)
  some_at None given rest is = absurd (let bad : None ≡ Some rest = is in cc)
  some_at (Some cell) given rest is =
      let p = passed_some (is_of column.kind cell && nat_le (spelled_len cell) room) (room - spelled_len cell) rest is in
      let enough : spelled_len cell ≤ room = room_enough (is_of column.kind cell) (spelled_len cell) room p.0 in
      (has_cell-fits cell given ∙ p.0, omega (arith, p.1, enough, more cell given))

  pub has_room : (rest : ℕ) → room_at room column.kind (slice_get some place) ≡ Some rest
      → (has_cell columns some place ≡ true) × (rest + sum_by spelled_len (take (place + 1) some) ≡ spelled_most)
  has_room = some_at (slice_get some place) refl

-- ---- chunks

whole_le : (size q : ℕ) → 0 < size → q ≤ size * q
whole_le size q some = grind arith

div_ceil-le : (n size : ℕ) → 0 < size → div_ceil n size ≤ n
div_ceil-le n size some = let whole = whole_le size (n / size) some in omega arith

sized : (b : Bool) (n m : ℕ) → n ≤ m → cond b 0 n ≤ m
sized true n m h = omega arith
sized false n m h = h

pub chunk_count-le : (size : ℕ) (object : List ℕ) → chunk_count size object ≤ length object
chunk_count-le size object = elim (cases_lt 0 size) [
  | inl some ↦ sized (size == 0) _ _ (div_ceil-le (length object) size some)
  | inr none ↦ (let is : (size == 0) ≡ true = grind (arith, nat_tests) in rw is (omega arith))
]

-- ---- text

test_is : (b u : Bool) → (b ≡ true → u ≡ true) → (u ≡ true → b ≡ true) → b ≡ u
test_is true u on back = sym (on refl)
test_is false true on back = back refl
test_is false false on back = refl

pub utf8_test : (b : Bool) (text : List ℕ) → (b ≡ true ↔ IsUtf8 text) → b ≡ is_utf8 text
utf8_test b text h = test_is b (is_utf8 text) (λ e. is_utf8-from_IsUtf8 text (h.0 e)) (λ e. h.1 (IsUtf8-from_is_utf8 text e))

-- ---- a row

pub fit-gone : (schema : Schema) → fit_of schema contents.Gone ≡ Ok tt
unfolding fit_of
fit-gone schema = refl

pub fit-cell : (schema : Schema) (some : List Cell) (objects : List (List ℕ)) (place : ℕ) → misfit (take (cell_count schema.columns) schema.columns) some ≡ Some place
    → fit_of schema (contents.Row some objects) ≡ Err (faults.BadCell place)
unfolding fit_of
fit-cell schema some objects place h = ap (cells_fit schema some objects) h

pub fit-object : (schema : Schema) (some : List Cell) (objects : List (List ℕ)) (place : ℕ) → misfit (take (cell_count schema.columns) schema.columns) some ≡ None
    → object_misfit (length schema.columns - cell_count schema.columns) objects ≡ Some place
    → fit_of schema (contents.Row some objects) ≡ Err (faults.BadObject (cell_count schema.columns + place) (len_of (slice_get objects place)))
unfolding fit_of
fit-object schema some objects place h g = ap (cells_fit schema some objects) h ∙ ap (objects_fit schema some objects) g

pub fit-size : (schema : Schema) (some : List Cell) (objects : List (List ℕ)) → misfit (take (cell_count schema.columns) schema.columns) some ≡ None
    → object_misfit (length schema.columns - cell_count schema.columns) objects ≡ None → fit_of schema (contents.Row some objects) ≡ size_fit schema.chunk some objects
unfolding fit_of
fit-size schema some objects h g = ap (cells_fit schema some objects) h ∙ ap (objects_fit schema some objects) g
