-- Values read one behind the other.
use Rattle.std.proofs.Common.{◌≡◌, ◌≢◌, ℕ, ◌+◌, List, [], ◌∷◌, ◌++◌, Result, Ok, refl, sym, ap, ◌∙◌, subst, append-nil, append_assoc}
use Rattle.row_value.specs.declared.content.Cell.{Cell}
use Rattle.row_value.specs.declared.content.Content.{Content}
use Rattle.row_value.specs.declared.content.Content.TheVariants.{Gone, Row}
use Rattle.script_words.specs.declared.code.Code.TheVariants.{NoValue}
use Rattle.script_words.specs.declared.values.Value.{Value}
use Rattle.script_words.specs.declared.values.Value.TheVariants.{OfCell, OfObject}
use Rattle.script_words.specs.Values.{SpellsCell, SpellsObject, SpellsValue, value_at}
use Rattle.script_words.proofs.ValueLemmas.{value_at-ok, value_at-right}
use Rattle.script_text.specs.declared.fault.BadLine.{BadLine}
use Rattle.script_text.specs.Places.{◌>>=◌, Values, in_order, value_behind, with_value}
use Rattle.script_text.specs.Reading.{placed, next_in, each_in, values_in, content_in}
use Rattle.script_text.specs.Grammar.{AreSpelled, SpellsContent}
use Rattle.script_text.proofs.ColumnLemmas.{placed-ok}
use Rattle.script_text.proofs.Steps.{ok_err, bind-ok}

-- ---- what is read is spelled so

in_order-ok : (objects : List (List ℕ)) (v value : Value) → in_order objects v ≡ Ok value → v ≡ value
in_order-ok [] v value e = let same : Ok v ≡ Ok value = e in cc
in_order-ok (object ∷ objects) (OfCell cell) value e = absurd (ok_err value NoValue (sym e))
in_order-ok (object ∷ objects) (OfObject more) value e = let same : Ok (OfObject more) ≡ Ok value = e in cc

no_cell_behind : (objects : List (List ℕ)) (cell : Cell) (value : Value) → in_order objects (OfCell cell) ≡ Ok value → objects ≡ []
no_cell_behind [] cell value e = refl
no_cell_behind (object ∷ objects) cell value e = absurd (ok_err value NoValue (sym e))

-- the words of cells and of objects behind values that were read
record Behind (row done : Values) (ws of_cells of_objects : List (List ℕ)) (some : List Cell) (objects : List (List ℕ)) : Type 0 where
  words : ws ≡ of_cells ++ of_objects
  cells_are : done.0 ≡ row.0 ++ some
  objects_are : done.1 ≡ row.1 ++ objects
  each_cell : AreSpelled SpellsCell of_cells some
  each_object : AreSpelled SpellsObject of_objects objects
  order : row.1 ≢ [] → of_cells ≡ []

no_cells : (some : List Cell) (of_cells : List (List ℕ)) → of_cells ≡ [] → AreSpelled SpellsCell of_cells some → some ≡ []
no_cells [] of_cells e h = refl
no_cells (cell ∷ some) [] e h = absurd h
no_cells (cell ∷ some) (w ∷ ws) e h = absurd cc

not_empty : (objects : List (List ℕ)) (object : List ℕ) → objects ++ object ∷ [] ≢ []
not_empty [] object e = cc
not_empty (first ∷ objects) object e = cc

row_same : {x y : Values} → ◌≡◌ {A = Result Values BadLine} (Ok x) (Ok y) → y ≡ x
row_same e = cc

values-ok : (at : ℕ) (row : Values) (ws : List (List ℕ)) (done : Values) → values_in at row ws ≡ Ok done
    → (of_cells of_objects : List (List ℕ)) × (some : List Cell) × (objects : List (List ℕ)) × Behind row done ws of_cells of_objects some objects
unfolding each_in value_behind
values-ok at row [] done e =
    let same : done ≡ row = row_same e in (
      [],
      [],
      [],
      [],
      record {
        words = refl;
        cells_are = ap (λ (v : Values). v.0) same ∙ sym (append-nil row.0);
        objects_are = ap (λ (v : Values). v.1) same ∙ sym (append-nil row.1);
        each_cell = tt;
        each_object = tt;
        order = λ some. refl;
      },
    )
values-ok at row (w ∷ ws) done e =
    let p = bind-ok (placed at (value_at w >>= in_order row.1)) (λ value. values_in (at + 1) (with_value row value) ws) done e in
    let v = bind-ok (value_at w) (in_order row.1) p.0 (placed-ok at (value_at w >>= in_order row.1) p.0 p.1) in
    added v.0 p.0 (value_at-ok w v.0 v.1) v.2 (in_order-ok row.1 v.0 p.0 v.2) (values-ok (at + 1) (with_value row p.0) ws done p.2)
  where
    added : (v value : Value) → SpellsValue w v → in_order row.1 v ≡ Ok value → v ≡ value
        → (of_cells of_objects : List (List ℕ)) × (some : List Cell) × (objects : List (List ℕ)) × Behind (with_value row value) done ws of_cells of_objects some objects
        → (of_cells of_objects : List (List ℕ)) × (some : List Cell) × (objects : List (List ℕ)) × Behind row done (w ∷ ws) of_cells of_objects some objects
    added (OfCell cell) value is order same more =
        let none = no_cell_behind row.1 cell value order in
        let h = subst (λ (x : Value). Behind (with_value row x) done ws more.0 more.1 more.2 more.3) (sym same) more.4 in (
          w ∷ more.0,
          more.1,
          cell ∷ more.2,
          more.3,
          record {
            words = ap (λ (words : List (List ℕ)). w ∷ words) h.words;
            cells_are = h.cells_are ∙ append_assoc row.0 (cell ∷ []) more.2;
            objects_are = h.objects_are;
            each_cell = (is, h.each_cell);
            each_object = h.each_object;
            order = λ some. absurd (some none);
          },
        )
    added (OfObject object) value is order same more =
        let h = subst (λ (x : Value). Behind (with_value row x) done ws more.0 more.1 more.2 more.3) (sym same) more.4 in
        let none = h.order (not_empty row.1 object) in
        let no_cell = no_cells more.2 more.0 none h.each_cell in (
          [],
          w ∷ more.1,
          [],
          object ∷ more.3,
          record {
            words = ap (λ (words : List (List ℕ)). w ∷ words) (h.words ∙ ap (λ (words : List (List ℕ)). words ++ more.1) none);
            cells_are = h.cells_are ∙ ap (λ (some : List Cell). row.0 ++ some) no_cell;
            objects_are = h.objects_are ∙ append_assoc row.1 (object ∷ []) more.3;
            each_cell = tt;
            each_object = (is, h.each_object);
            order = λ some. refl;
          },
        )

pub content-ok : (at : ℕ) (ws : List (List ℕ)) (content : Content) → content_in at ws ≡ Ok content → SpellsContent ws content
unfolding content_in next_in
content-ok at [] content e = absurd (ok_err content _ (sym e))
content-ok at (w ∷ ws) content e =
    let p = bind-ok (values_in at ([], []) (w ∷ ws)) (λ row. Ok (Row row.0 row.1)) content e in
    let h = values-ok at ([], []) (w ∷ ws) p.0 p.1 in
    let same : Row h.2 h.3 ≡ content = (let made : Ok (Row (p.0).0 (p.0).1) ≡ Ok content = p.2 in cc (h.4.cells_are, h.4.objects_are)) in
    subst (SpellsContent (w ∷ ws)) same (h.0, h.1, h.4.words, (λ none. cc), h.4.each_cell, h.4.each_object)

-- ---- what is spelled is read so

objects-right : (at : ℕ) (row : Values) (ws : List (List ℕ)) (objects : List (List ℕ)) → AreSpelled SpellsObject ws objects → values_in at row ws ≡ Ok (row.0, row.1 ++ objects)
unfolding each_in value_behind
objects-right at row [] [] h = ap (λ (objects : List (List ℕ)). Ok (row.0, objects)) (sym (append-nil row.1))
objects-right at row [] (object ∷ objects) h = absurd h
objects-right at row (w ∷ ws) [] h = absurd h
objects-right at row (w ∷ ws) (object ∷ objects) h =
    rw (value_at-right w (OfObject object) h.0, object_in_order row.1 object)
    (objects-right (at + 1) (row.0, row.1 ++ object ∷ []) ws objects h.1 ∙ ap (λ (all : List (List ℕ)). Ok (row.0, all)) (append_assoc row.1 (object ∷ []) objects))
  where
    object_in_order : (objects : List (List ℕ)) (object : List ℕ) → in_order objects (OfObject object) ≡ Ok (OfObject object)
    object_in_order [] object = refl
    object_in_order (first ∷ objects) object = refl

values-right : (at : ℕ) (front : List Cell) (ws of_objects : List (List ℕ)) (some : List Cell) (objects : List (List ℕ)) → AreSpelled SpellsCell ws some → AreSpelled SpellsObject of_objects objects
    → values_in at (front, []) (ws ++ of_objects) ≡ Ok (front ++ some, objects)
unfolding each_in value_behind
values-right at front [] of_objects [] objects h k = objects-right at (front, []) of_objects objects k ∙ ap (λ (some : List Cell). Ok (some, objects)) (sym (append-nil front))
values-right at front [] of_objects (cell ∷ some) objects h k = absurd h
values-right at front (w ∷ ws) of_objects [] objects h k = absurd h
values-right at front (w ∷ ws) of_objects (cell ∷ some) objects h k =
    rw (value_at-right w (OfCell cell) h.0)
    (values-right (at + 1) (front ++ cell ∷ []) ws of_objects some objects h.1 k ∙ ap (λ (all : List Cell). Ok (all, objects)) (append_assoc front (cell ∷ []) some))

pub content-right : (at : ℕ) (ws : List (List ℕ)) (content : Content) → SpellsContent ws content → content_in at ws ≡ Ok content
unfolding content_in next_in
content-right at ws Gone h = absurd h
content-right at [] (Row some objects) h = absurd (h.3 refl)
content-right at (w ∷ ws) (Row some objects) h =
    let read : values_in at ([], []) (w ∷ ws) ≡ Ok (some, objects) = ap (values_in at ([], [])) h.2 ∙ values-right at [] h.0 h.1 some objects h.4 h.5 in
    rw read refl
