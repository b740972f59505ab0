-- What the words of a test are read as.
use Rattle.std.proofs.Common.{◌≡◌, ℕ, zero, suc, ◌<◌, ◌^◌, Bool, true, false, ltb, List, [], ◌∷◌, codes, length, take, get_or, true≢false}
use Rattle.std.proofs.Common.{Option, Some, None, Result, Ok, Err, pos, refl, sym, ap, ◌∙◌, subst, inl, inr, arith}
use Rattle.std.specs.Prelude.{not}
use Rattle.std.specs.List.{AllByRecursion, slice_get, position_or_len}
use Rattle.std.specs.Option.{is_some}
use Rattle.std.specs.Str.{IsAscii, bytes_eq, is_utf8}
use Rattle.std.specs.Fmt.{signed_decimal}
use Rattle.std.proofs.lemmas.Bool.{cases_Bool, ltb-false}
use Rattle.std.proofs.lemmas.List.{get_or-take, length-take}
use Rattle.std.proofs.lemmas.List.Folds.{Any-from_list_any, list_any_at}
use Rattle.std.proofs.lemmas.List.Quantifiers.{position-Some}
use Rattle.std.proofs.lemmas.List.Sums.{prefix_len_passes}
use Rattle.std.proofs.lemmas.Option.{get_or_from_slice_get, slice_get_within}
use Rattle.std.proofs.lemmas.Slice.Eq.{bytes_eq-Decides}
use Rattle.std.proofs.lemmas.Str.{IsUtf8-from_ascii, IsUtf8-from_is_utf8, is_utf8-from_IsUtf8}
use Rattle.std.proofs.lemmas.Fmt.{IsAscii-signed}
use Rattle.percent_encoding.specs.Percent.{percent_decode}
use Rattle.row_value.specs.Fit.{is_object, cell_count}
use Rattle.row_value.specs.declared.content.Cell.{Cell}
use Rattle.row_value.specs.declared.content.Cell.TheVariants as cells
use Rattle.row_value.specs.declared.schema.Column.{Column}
use Rattle.row_value.specs.declared.schema.ColumnKind.{ColumnKind}
use Rattle.row_value.specs.declared.schema.ColumnKind.TheVariants as kinds
use Rattle.row_value.specs.declared.schema.Schema.{Schema}
use Rattle.script_words.specs.Words.{is_name}
use Rattle.script_words.specs.Values.{SpellsCell, value_at}
use Rattle.script_words.specs.declared.code.Code.{Code}
use Rattle.script_words.specs.declared.values.Value.{Value}
use Rattle.script_words.specs.declared.values.Value.TheVariants.{OfCell, OfObject}
use Rattle.script_words.proofs.Parts.{some_same, none_some}
use Rattle.script_words.proofs.ValueLemmas.{value_at-ok, value_at-right}
use Rattle.select_lang.specs.Machine.{has_tests}
use Rattle.select_lang.specs.Words.{comparison_word, comparison_at, number_of, with_kind, numbered, column_at, is_kind, SpellsOf, cell_in, cell_of, value_of, cell_at}
use Rattle.select_lang.specs.declared.predicate.Comparison.{Comparison}
use Rattle.select_lang.specs.declared.predicate.Comparison.TheVariants.{Equal, NotEqual, Less, LessOrEqual, Greater, GreaterOrEqual}

-- ---- operators

is_word : (word : List ℕ) (d c : Comparison) → bytes_eq word (comparison_word d) ≡ true → Some d ≡ Some c → word ≡ comparison_word c
is_word word d c is same = (bytes_eq-Decides word (comparison_word d)).0 is ∙ ap comparison_word (some_same d c same)

pub comparison_at-some : (word : List ℕ) (c : Comparison) → comparison_at word ≡ Some c → word ≡ comparison_word c
unfolding comparison_at
comparison_at-some word c e = elim (cases_Bool (bytes_eq word (codes "="))) [
  | inl is ↦ is_word word Equal c is (rw is at e)
  | inr n1 ↦ elim (cases_Bool (bytes_eq word (codes "!="))) [
    | inl is ↦ is_word word NotEqual c is (rw (n1, is) at e)
    | inr n2 ↦ elim (cases_Bool (bytes_eq word (codes "<"))) [
      | inl is ↦ is_word word Less c is (rw (n1, n2, is) at e)
      | inr n3 ↦ elim (cases_Bool (bytes_eq word (codes "<="))) [
        | inl is ↦ is_word word LessOrEqual c is (rw (n1, n2, n3, is) at e)
        | inr n4 ↦ elim (cases_Bool (bytes_eq word (codes ">"))) [
          | inl is ↦ is_word word Greater c is (rw (n1, n2, n3, n4, is) at e)
          | inr n5 ↦ elim (cases_Bool (bytes_eq word (codes ">="))) [
            | inl is ↦ is_word word GreaterOrEqual c is (rw (n1, n2, n3, n4, n5, is) at e)
            | inr n6 ↦ absurd (none_some c (rw (n1, n2, n3, n4, n5, n6) at e))
          ]
        ]
      ]
    ]
  ]
]

pub comparison_at-word : (c : Comparison) → comparison_at (comparison_word c) ≡ Some c
unfolding comparison_at
comparison_at-word Equal = refl
comparison_at-word NotEqual = refl
comparison_at-word Less = refl
comparison_at-word LessOrEqual = refl
comparison_at-word Greater = refl
comparison_at-word GreaterOrEqual = refl

no_name : (c : Comparison) → is_name (comparison_word c) ≡ false
unfolding is_name
no_name Equal = refl
no_name NotEqual = refl
no_name Less = refl
no_name LessOrEqual = refl
no_name Greater = refl
no_name GreaterOrEqual = refl

named_so : (word : List ℕ) (o : Option Comparison) → comparison_at word ≡ o → is_name word ≡ true → o ≡ None
named_so word None is name = refl
named_so word (Some c) is name = absurd (true≢false (sym (subst (λ (w : List ℕ). is_name w ≡ true) (comparison_at-some word c is) name) ∙ no_name c))

-- a name is no operator
pub comparison_at-name : (word : List ℕ) → is_name word ≡ true → comparison_at word ≡ None
comparison_at-name word name = named_so word (comparison_at word) refl name

pub comparison_at-not : comparison_at (codes "not") ≡ None
unfolding comparison_at
comparison_at-not = refl

pub comparison_at-open : comparison_at (codes "(") ≡ None
unfolding comparison_at
comparison_at-open = refl

-- ---- values

in_some : (kind : ColumnKind) (word : List ℕ) (d cell : Cell) → SpellsCell word d → cell_in kind (OfCell d) ≡ Some cell → SpellsCell word cell × (is_kind kind cell ≡ true)
in_some kind word d cell spelled e = elim (cases_Bool (is_kind kind d)) [
  | inl is ↦ let same : d ≡ cell = some_same d cell (rw is at e) in subst (λ (c : Cell). SpellsCell word c × (is_kind kind c ≡ true)) same (spelled, is)
  | inr other ↦ absurd (none_some cell (rw other at e))
]

of_some : (kind : ColumnKind) (word : List ℕ) (r : Result Value Code) (cell : Cell) → value_at word ≡ r → cell_of kind (value_of r) ≡ Some cell → SpellsCell word cell × (is_kind kind cell ≡ true)
of_some kind word (Ok (OfCell d)) cell is e = in_some kind word d cell (value_at-ok word (OfCell d) is) e
of_some kind word (Ok (OfObject object)) cell is e = absurd (none_some cell e)
of_some kind word (Err code) cell is e = absurd (none_some cell e)

pub cell_at-some : (kind : ColumnKind) (word : List ℕ) (cell : Cell) → cell_at kind word ≡ Some cell → SpellsOf kind word cell
unfolding cell_at
cell_at-some kind word cell e = elim (cases_Bool (is_utf8 word)) [
  | inl is ↦ let h = of_some kind word (value_at word) cell refl (rw is at e) in (IsUtf8-from_is_utf8 word is, h.0, h.1)
  | inr other ↦ absurd (none_some cell (rw other at e))
]

pub cell_at-right : (kind : ColumnKind) (word : List ℕ) (cell : Cell) → SpellsOf kind word cell → cell_at kind word ≡ Some cell
unfolding cell_at
cell_at-right kind word cell h = rw (is_utf8-from_IsUtf8 word h.0, value_at-right word (OfCell cell) h.1, h.2) refl

ascii : (bytes : List ℕ) → AllByRecursion (λ b. b < 128) bytes → IsAscii bytes
ascii [] h i = omega arith
ascii (b ∷ bytes) h zero = h.0
ascii (b ∷ bytes) h (suc i) = ascii bytes h.1 i

-- each kind of cell has a value
pub a_value : (kind : ColumnKind) → is_object kind ≡ false → (word : List ℕ) × (cell : Cell) × (cell_at kind word ≡ Some cell)
unfolding percent_decode
a_value kinds.Int h =
    let zero_word = signed_decimal (pos 0) in
    let is = IsUtf8-from_ascii zero_word (IsAscii-signed (pos 0) (omega arith)) in
    (zero_word, cells.Int (pos 0), cell_at-right kinds.Int zero_word (cells.Int (pos 0)) (is, (refl, omega arith), refl))
a_value kinds.Bool h =
    let is = IsUtf8-from_ascii (codes "true") (ascii (codes "true") (omega arith, (omega arith, (omega arith, (omega arith, tt))))) in
    (codes "true", cells.Bool true, cell_at-right kinds.Bool (codes "true") (cells.Bool true) (is, refl, refl))
a_value kinds.Text h =
    let is = IsUtf8-from_ascii (codes "t:") (ascii (codes "t:") (omega arith, (omega arith, tt))) in
    let empty = IsUtf8-from_ascii [] (ascii [] tt) in
    (codes "t:", cells.Text [], cell_at-right kinds.Text (codes "t:") (cells.Text []) (is, ([], refl, refl, empty), refl))
a_value kinds.Object h = absurd (true≢false h)

-- ---- columns

none_named : (columns : List Column) (o : Option ℕ) (p : ℕ × ColumnKind) → numbered columns o ≡ Some p → (n : ℕ) × (o ≡ Some n) × (with_kind n (slice_get columns n) ≡ Some p)
none_named columns None p e = absurd (none_some p e)
none_named columns (Some n) p e = (n, refl, e)

some_kind : (n : ℕ) (o : Option Column) (p : ℕ × ColumnKind) → with_kind n o ≡ Some p → (column : Column) × (o ≡ Some column) × (column.kind ≡ p.1)
some_kind n None p e = absurd (none_some p e)
some_kind n (Some column) p e = elim (cases_Bool (ltb n (2 ^ 32))) [
  | inl is ↦ let same : (n, column.kind) ≡ p = some_same (n, column.kind) p (rw is at e) in (column, refl, ap (λ (q : ℕ × ColumnKind). q.1) same)
  | inr other ↦ absurd (none_some p (rw other at e))
]

pub column_at-name : (schema : Schema) (word : List ℕ) (p : ℕ × ColumnKind) → column_at schema word ≡ Some p → is_name word ≡ true
unfolding column_at
column_at-name schema word p e = elim (cases_Bool (is_name word)) [
  | inl is ↦ is
  | inr other ↦ absurd (none_some p (rw other at e))
]

-- where the column stands that a word names
place : (schema : Schema) (word : List ℕ) (p : ℕ × ColumnKind) → column_at schema word ≡ Some p
    → (n : ℕ) × (column : Column) × (number_of schema.columns word ≡ Some n) × (slice_get schema.columns n ≡ Some column) × (column.kind ≡ p.1)
unfolding column_at
place schema word p e =
    let named = column_at-name schema word p e in
    let f = none_named schema.columns (number_of schema.columns word) p (rw named at e) in
    let k = some_kind f.0 (slice_get schema.columns f.0) p f.2 in
    (f.0, k.0, f.1, k.1, k.2)

turned_true : (b : Bool) → not b ≡ true → b ≡ false
turned_true false h = refl
turned_true true h = absurd (true≢false (sym h))

within_count : (columns : List Column) (n : ℕ) (d : Column) → n < cell_count columns → is_object (get_or columns n d).kind ≡ false
within_count columns n d h =
    let objects = λ (column : Column). is_object column.kind in
    let low : n < position_or_len objects columns = elim (cases_Bool (ltb (position_or_len objects columns) (length columns))) [
      | inl is ↦ rw is at h
      | inr other ↦ (let within : n < length columns = rw other at h in omega (arith, within, ltb-false _ _ other))
    ] in
    turned_true (is_object (get_or columns n d).kind) (prefix_len_passes (λ (column : Column). not (is_object column.kind)) columns n d low)

-- what a place has whose column a word names
at_place : (schema : Schema) (word : List ℕ) (n : ℕ) (column : Column) → number_of schema.columns word ≡ Some n → slice_get schema.columns n ≡ Some column
    → (n < cell_count schema.columns) × (get_or schema.columns n column ≡ column) × (column.name ≡ word)
at_place schema word n column found is =
    let count = cell_count schema.columns in
    let f = position-Some (λ (c : Column). bytes_eq c.name word) (take count schema.columns) n column found in
    let low : n < count = omega (arith, f.0, length-take count schema.columns) in
    let same : get_or schema.columns n column ≡ column = get_or_from_slice_get schema.columns n column column is in
    let taken : get_or (take count schema.columns) n column ≡ column = get_or-take count schema.columns n column low ∙ same in
    (low, same, (bytes_eq-Decides column.name word).0 (subst (λ (c : Column). bytes_eq c.name word ≡ true) taken f.1))

pub column_at-cell : (schema : Schema) (word : List ℕ) (p : ℕ × ColumnKind) → column_at schema word ≡ Some p → is_object p.1 ≡ false
column_at-cell schema word p e =
    let w = place schema word p e in
    let a = at_place schema word w.0 w.1 w.2 w.3 in
    sym (ap is_object w.4) ∙ subst (λ (c : Column). is_object c.kind ≡ false) a.1 (within_count schema.columns w.0 w.1 a.0)

some_is : (o : Option (ℕ × ColumnKind)) (p : ℕ × ColumnKind) → o ≡ Some p → is_some o ≡ true
some_is o p e = ap is_some e

pub column_at-has : (schema : Schema) (word : List ℕ) (p : ℕ × ColumnKind) → column_at schema word ≡ Some p → has_tests schema ≡ true
column_at-has schema word p e =
    let w = place schema word p e in
    let a = at_place schema word w.0 w.1 w.2 w.3 in
    let named : is_some (column_at schema w.1.name) ≡ true = some_is (column_at schema w.1.name) p (ap (column_at schema) a.2 ∙ e) in
    list_any_at (λ (column : Column). is_some (column_at schema column.name)) schema.columns w.0 w.1 (slice_get_within schema.columns w.0 w.1 w.3)
    (subst (λ (c : Column). is_some (column_at schema c.name) ≡ true) (sym a.1) named)

is_some_some : (o : Option (ℕ × ColumnKind)) → is_some o ≡ true → (p : ℕ × ColumnKind) × (o ≡ Some p)
is_some_some None e = absurd (true≢false (sym e))
is_some_some (Some p) e = (p, refl)

pub has_tests-column : (schema : Schema) → has_tests schema ≡ true → (word : List ℕ) × (p : ℕ × ColumnKind) × (column_at schema word ≡ Some p)
has_tests-column schema e =
    let found = Any-from_list_any (λ (column : Column). is_some (column_at schema column.name)) schema.columns e in
    let named = is_some_some (column_at schema found.1.name) found.4 in
    (found.1.name, named.0, named.1)
