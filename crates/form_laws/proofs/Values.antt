-- A row that fits a table has a value, since a table has a column.
use Rattle.std.proofs.Common.{◌≡◌, ℕ, zero, suc, ◌≤◌, Bool, false, List, [], ◌∷◌, length, take, Option, Some, None, Ok, refl, sym, ◌∙◌, arith}
use Rattle.std.specs.Prelude.{◌-◌}
use Rattle.std.proofs.lemmas.List.{length-take}
use Rattle.row_value.specs.declared.schema.Column.{Column}
use Rattle.row_value.specs.declared.schema.Schema.{Schema}
use Rattle.row_value.specs.declared.content.Content.{Content}
use Rattle.row_value.specs.declared.content.Content.TheVariants.{Gone, Row}
use Rattle.row_value.specs.Fit.{cell_count, has_cell, has_object, wrong_in, or_surplus, misfit, object_misfit, objects_fit, cells_fit, fit_of}
use Rattle.row_value.proofs.Wrongs.{wrong_in-first}
use Rattle.transcript_text.specs.OneForm.{HasValue}

-- where the first place would be wrong there is none
no_places : (right : ℕ → Bool) (places : ℕ) → right 0 ≡ false → wrong_in right places ≡ None → places ≡ 0
no_places right zero wrong none = refl
no_places right (suc more) wrong none =
    absurd (let found = wrong_in-first right (suc more) 0 (omega arith) wrong (λ k below. absurd (omega arith)) in let both : Some 0 ≡ None = sym found ∙ none in cc)

none_wrong : (places given : ℕ) (wrong : Option ℕ) → or_surplus places given wrong ≡ None → wrong ≡ None
none_wrong places given None h = refl
none_wrong places given (Some place) h = absurd cc

no_cell : (columns : List Column) → has_cell columns [] 0 ≡ false
unfolding has_cell
no_cell [] = refl
no_cell (column ∷ columns) = refl

-- without a cell and an object no row fits
some_value : (schema : Schema) → 1 ≤ length schema.columns → fit_of schema (Row [] []) ≡ Ok tt → ⊥
unfolding fit_of
some_value schema some fit = by_cells (misfit columns []) refl fit
  where
    columns : List Column
    columns = take (cell_count schema.columns) schema.columns

    places : ℕ
    places = length schema.columns - cell_count schema.columns

    by_objects : misfit columns [] ≡ None → (o : Option ℕ) → object_misfit places [] ≡ o → objects_fit schema [] [] o ≡ Ok tt → ⊥
    by_objects none (Some place) is e = absurd cc
    by_objects none None is e =
        let cells : length columns ≡ 0 = no_places (has_cell columns []) (length columns) (no_cell columns) (none_wrong (length columns) 0 (wrong_in (has_cell columns []) (length columns)) none) in
        let objects : places ≡ 0 = no_places (has_object []) places refl (none_wrong places 0 (wrong_in (has_object []) places) is) in
        omega (arith, cells, objects, length-take (cell_count schema.columns) schema.columns, some)

    by_cells : (o : Option ℕ) → misfit columns [] ≡ o → cells_fit schema [] [] o ≡ Ok tt → ⊥
    by_cells (Some place) is e = absurd cc
    by_cells None is e = by_objects is (object_misfit places []) refl e

pub fit_value : (schema : Schema) (content : Content) → 1 ≤ length schema.columns → fit_of schema content ≡ Ok tt → HasValue content
fit_value schema Gone some fit = tt
fit_value schema (Row [] []) some fit = some_value schema some fit
fit_value schema (Row [] (object ∷ objects)) some fit = tt
fit_value schema (Row (cell ∷ cells) objects) some fit = tt
