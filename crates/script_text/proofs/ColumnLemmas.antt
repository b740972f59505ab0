-- Columns read one behind the other.
use Rattle.std.proofs.Common.{◌≡◌, ◌≢◌, ℕ, ◌+◌, Bool, true, false, not, ◌&&◌, ◌||◌, cond, Option, Some, None, List, [], ◌∷◌, ◌++◌, map, length, Result, Ok, Err, refl, sym, ap, ◌∙◌, subst}
use Rattle.std.proofs.Common.{append-nil, append_assoc}
use Rattle.std.specs.Ordering.{nat_cmp}
use Rattle.std.specs.Cmp.Lexicographic.{slice_cmp}
use Rattle.std.specs.BTreeMap.{is_at}
use Rattle.std.specs.BTreeSet.{insert_key}
use Rattle.std.specs.List.{AllByRecursion, list_any}
use Rattle.std.proofs.Math.Bool.{or-true}
use Rattle.std.proofs.lemmas.List.{length-map}
use Rattle.row_value.specs.Fit.{is_object}
use Rattle.row_value.specs.declared.schema.Column.{Column}
use Rattle.row_value.specs.declared.schema.ColumnKind.{ColumnKind}
use Rattle.value_codec.specs.SchemaSpelling.{AreObjectColumns, CellsFirst}
use Rattle.script_words.specs.declared.code.Code.{Code}
use Rattle.script_words.specs.declared.code.Code.TheVariants.{NoName, Twice, NoValue}
use Rattle.script_words.specs.Words.{is_name, is_among}
use Rattle.script_words.specs.Columns.{column_word, column_of}
use Rattle.script_words.proofs.ColumnLemmas.{column_of-ok, column_of-right}
use Rattle.script_text.specs.declared.fault.BadLine.{BadLine}
use Rattle.script_text.specs.Faults.{bad}
use Rattle.script_text.specs.Names.{IsSetOf}
use Rattle.script_text.specs.Places.{names_of, has_object, new_column, new_column_at}
use Rattle.script_text.specs.Reading.{placed, next_in, each_in, columns_in, some_columns_in}
use Rattle.script_text.proofs.Distinct.{NewTo, met, unmet, set-put}
use Rattle.script_text.proofs.Numbers.{unless-ok, ok_same}
use Rattle.script_text.proofs.Steps.{ok_err, bind-ok}

pub placed-ok : {X : Type 0} (at : ℕ) (r : Result X Code) (x : X) → placed at r ≡ Ok x → r ≡ Ok x
placed-ok at (Ok y) x e = let same : Ok y ≡ Ok x = e in ap Ok (let f : y ≡ x = cc in f)
placed-ok at (Err code) x e = absurd (ok_err x (bad code at) (sym e))

pub named_next : (columns : List Column) (column : Column) → names_of (columns ++ column ∷ []) ≡ names_of columns ++ column.name ∷ []
named_next [] column = refl
named_next (first ∷ columns) column = ap (λ (names : List (List ℕ)). first.name ∷ names) (named_next columns column)

-- ---- cell columns stand before object columns

-- behind columns one of which is of objects stand object columns alone
abbrev pub InOrder : List Column → List Column → Type 0
InOrder before [] = Unit {0}
InOrder before (column ∷ columns) = (has_object before ≡ true → is_object column.kind ≡ true) × InOrder (before ++ column ∷ []) columns

or_nothing : (b : Bool) → (b || false) ≡ b
or_nothing true = refl
or_nothing false = refl

or_with : (a b c : Bool) → (a || (b || c)) ≡ ((a || b) || c)
or_with true b c = refl
or_with false b c = refl

pub has_object-push : (before : List Column) (column : Column) → has_object (before ++ column ∷ []) ≡ (has_object before || is_object column.kind)
has_object-push [] column = or_nothing (is_object column.kind)
has_object-push (first ∷ before) column = ap (λ (b : Bool). is_object first.kind || b) (has_object-push before column) ∙ or_with (is_object first.kind) (has_object before) (is_object column.kind)

in_order-cells : (before columns : List Column) → InOrder before columns → (has_object before ≡ true → AreObjectColumns columns) × CellsFirst columns
in_order-cells before [] h = ((λ e. tt), tt)
in_order-cells before (column ∷ columns) h =
    let more = in_order-cells (before ++ column ∷ []) columns h.1 in
    let later : is_object column.kind ≡ true → AreObjectColumns columns = λ e. more.0 (has_object-push before column ∙ rw e (or-true (has_object before))) in
    ((λ e. (h.0 e, later (h.0 e))), (later, more.1))

either_true : {P : Type 0} (a b : Bool) → (a || b) ≡ true → (a ≡ true → P) → (b ≡ true → P) → P
either_true true b e p q = p refl
either_true false b e p q = q e

cells-in_order : (before columns : List Column) → (has_object before ≡ true → AreObjectColumns columns) → CellsFirst columns → InOrder before columns
cells-in_order before [] h k = tt
cells-in_order before (column ∷ columns) h k = (
  (λ e. (h e).0),
  cells-in_order (before ++ column ∷ []) columns
      (λ e. either_true (has_object before) (is_object column.kind) (sym (has_object-push before column) ∙ e) (λ a. (h a).1) k.0) k.1,
)

-- ---- what is read is spelled so

new-ok : (before : List Column) (word : List ℕ) (column : Column) (o : Option (List ℕ × ColumnKind)) → column_of word ≡ o → new_column before o ≡ Ok column
    → (word ≡ column_word column) × (is_name column.name ≡ true) × (is_among column.name (names_of before) ≡ false) × (has_object before ≡ true → is_object column.kind ≡ true)
new-ok before word column None is e = absurd (ok_err column NoName (sym e))
new-ok before word column (Some q) is e =
    let made : Column = record { name = q.0; kind = q.1 } in
    let p = unless-ok (is_among q.0 (names_of before)) (cond (has_object before && not (is_object q.1)) (Err NoValue) (Ok made)) Twice column e in
    let r = unless-ok (has_object before && not (is_object q.1)) (Ok made) NoValue column p.1 in
    let same : made ≡ column = ok_same _ _ r.1 in
    let w = column_of-ok word q is in
    subst (λ (c : Column). (word ≡ column_word c) × (is_name c.name ≡ true) × (is_among c.name (names_of before) ≡ false) × (has_object before ≡ true → is_object c.kind ≡ true)) same
    (w.0, w.1, p.0, λ has. kept (has_object before) (is_object q.1) r.0 has)
  where
    kept : (a b : Bool) → (a && not b) ≡ false → a ≡ true → b ≡ true
    kept true true e has = refl
    kept true false e has = absurd (let bad : true ≡ false = e in cc)
    kept false b e has = absurd (let bad : false ≡ true = has in cc)

new_column_at-ok : (before : List Column) (word : List ℕ) (column : Column) → new_column_at before word ≡ Ok column
    → (word ≡ column_word column) × (is_name column.name ≡ true) × (is_among column.name (names_of before) ≡ false) × (has_object before ≡ true → is_object column.kind ≡ true)
unfolding new_column_at
new_column_at-ok before word column e = new-ok before word column (column_of word) refl e

-- what columns behind others are
pub record Behind (before all : List Column) (ws : List (List ℕ)) (columns : List Column) : Type 0 where
  pub all_is : all ≡ before ++ columns
  pub words : ws ≡ map column_word columns
  pub names : AllByRecursion (λ column. is_name column.name ≡ true) columns
  pub new : NewTo (names_of before) (names_of columns)
  pub order : InOrder before columns

columns-ok : (at : ℕ) (before : List Column) (ws : List (List ℕ)) (all : List Column) → columns_in at before ws ≡ Ok all → (columns : List Column) × Behind before all ws columns
unfolding each_in
columns-ok at before [] all e = ([], record { all_is = ok_all all e ∙ sym (append-nil before); words = refl; names = tt; new = tt; order = tt }) where
  ok_all : (all : List Column) → ◌≡◌ {A = Result (List Column) BadLine} (Ok before) (Ok all) → all ≡ before
  ok_all all e = cc
columns-ok at before (w ∷ ws) all e =
    let p = bind-ok (placed at (new_column_at before w)) (λ column. columns_in (at + 1) (before ++ column ∷ []) ws) all e in
    let c = new_column_at-ok before w p.0 (placed-ok at (new_column_at before w) p.0 p.1) in
    let q = columns-ok (at + 1) (before ++ p.0 ∷ []) ws all p.2 in (
      p.0 ∷ q.0,
      record {
        all_is = q.1.all_is ∙ append_assoc before (p.0 ∷ []) q.0;
        words = ap (λ (word : List ℕ). word ∷ ws) c.0 ∙ ap (λ (words : List (List ℕ)). column_word p.0 ∷ words) q.1.words;
        names = (c.1, q.1.names);
        new = (c.2, subst (λ (met : List (List ℕ)). NewTo met (names_of q.0)) (named_next before p.0) q.1.new);
        order = (c.3, q.1.order);
      },
    )

pub some_columns-ok : (at : ℕ) (ws : List (List ℕ)) (columns : List Column) → some_columns_in at ws ≡ Ok columns
    → (ws ≡ map column_word columns) × AllByRecursion (λ column. is_name column.name ≡ true) columns × NewTo [] (names_of columns) × CellsFirst columns × (columns ≢ [])
unfolding some_columns_in next_in
some_columns-ok at [] columns e = absurd (ok_err columns _ (sym e))
some_columns-ok at (w ∷ ws) columns e =
    let p = columns-ok at [] (w ∷ ws) columns e in
    subst (λ (cs : List Column). (w ∷ ws ≡ map column_word cs) × AllByRecursion (λ column. is_name column.name ≡ true) cs × NewTo [] (names_of cs) × CellsFirst cs × (cs ≢ [])) (sym p.1.all_is)
    (p.1.words, p.1.names, p.1.new, (in_order-cells [] p.0 p.1.order).1, λ none. let is : w ∷ ws ≡ map column_word [] = p.1.words ∙ ap (map column_word) none in cc)

pub same_count : (ws : List (List ℕ)) (columns : List Column) → ws ≡ map column_word columns → length ws ≡ length columns
same_count ws columns p = ap length p ∙ length-map columns column_word

-- ---- what is spelled is read so

allowed : (a b : Bool) → (a ≡ true → b ≡ true) → (a && not b) ≡ false
allowed true true h = refl
allowed true false h = absurd (let bad : false ≡ true = h refl in cc)
allowed false b h = refl

new_column_at-right : (before : List Column) (column : Column) → is_name column.name ≡ true → is_among column.name (names_of before) ≡ false → (has_object before ≡ true → is_object column.kind ≡ true)
    → new_column_at before (column_word column) ≡ Ok column
unfolding new_column_at
new_column_at-right before column is new order =
    ap (new_column before) (column_of-right column.name column.kind is) ∙ rw (new, allowed (has_object before) (is_object column.kind) order) refl

columns_in-right : (at : ℕ) (before columns : List Column) → AllByRecursion (λ column. is_name column.name ≡ true) columns → NewTo (names_of before) (names_of columns) → InOrder before columns
    → columns_in at before (map column_word columns) ≡ Ok (before ++ columns)
unfolding each_in
columns_in-right at before [] h new order = ap Ok (sym (append-nil before))
columns_in-right at before (column ∷ columns) h new order =
    rw (new_column_at-right before column h.0 new.0 order.0)
    (columns_in-right (at + 1) (before ++ column ∷ []) columns h.1 (subst (λ (met : List (List ℕ)). NewTo met (names_of columns)) (sym (named_next before column)) new.1) order.1
    ∙ ap Ok (append_assoc before (column ∷ []) columns))

pub some_columns_in-right : (at : ℕ) (columns : List Column) → columns ≢ [] → AllByRecursion (λ column. is_name column.name ≡ true) columns → NewTo [] (names_of columns) → CellsFirst columns
    → some_columns_in at (map column_word columns) ≡ Ok columns
unfolding some_columns_in next_in
some_columns_in-right at [] some h new order = absurd (some refl)
some_columns_in-right at (column ∷ columns) some h new order =
    columns_in-right at [] (column ∷ columns) h new (cells-in_order [] (column ∷ columns) (λ e. absurd (let bad : false ≡ true = e in cc)) order)

-- ---- a column's name among those that were met

pub set-next : (more : List (List ℕ)) (columns all : List Column) (column : Column) → all ≡ columns ++ column ∷ [] → IsSetOf more (names_of (columns ++ column ∷ [])) → IsSetOf more (names_of all)
set-next more columns all column is set = subst (IsSetOf more) (sym (ap names_of is)) set

module _ (before : List Column) (keys : List (List ℕ)) (word : List ℕ) (q : List ℕ × ColumnKind) (added : Bool) (is : Some q ≡ column_of word) (e : added ≡ not (list_any (is_at (slice_cmp nat_cmp q.0)) keys))
    (set : IsSetOf keys (names_of before)) where
  pub column-twice : added ≡ false → new_column_at before word ≡ Err Twice
  unfolding new_column_at
  column-twice old =
      let among : is_among q.0 (names_of before) ≡ true = sym (set q.0) ∙ met added (list_any (is_at (slice_cmp nat_cmp q.0)) keys) e old in
      ap (new_column before) (sym is) ∙ rw among refl

  pub column-new : added ≡ true → (late : Bool) → (has_object before && not (is_object q.1)) ≡ late → new_column_at before word ≡ cond late (Err NoValue) (Ok (record { name = q.0; kind = q.1 }))
  unfolding new_column_at
  column-new new late order =
      let among : is_among q.0 (names_of before) ≡ false = sym (set q.0) ∙ unmet added (list_any (is_at (slice_cmp nat_cmp q.0)) keys) e new in
      ap (new_column before) (sym is) ∙ rw (among, order) refl

pub set-named : (before : List Column) (keys more : List (List ℕ)) (column : Column) → more ≡ insert_key (slice_cmp nat_cmp) keys column.name → IsSetOf keys (names_of before)
    → IsSetOf more (names_of (before ++ column ∷ []))
set-named before keys more column put set = subst (IsSetOf more) (sym (named_next before column)) (set-put keys more (names_of before) column.name put set)

pub no_column : (before : List Column) (word : List ℕ) → None ≡ column_of word → new_column_at before word ≡ Err NoName
unfolding new_column_at
no_column before word is = ap (new_column before) (sym is)
