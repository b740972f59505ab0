use Rattle.std.proofs.Common.{◌≡◌, ℕ, ◌<◌, List, length, Ok, sym, ◌∙◌, ap, subst, arith}
use Rattle.std.specs.Prelude.{◌^◌}
use Rattle.std.specs.List.{AllByRecursion}
use Rattle.stab_base.specs.declared.chunk_name.ChunkName.{ChunkName}
use Rattle.row_value.specs.declared.content.Cell.{Cell}
use Rattle.row_value.specs.declared.content.Content.{Content}
use Rattle.row_value.specs.declared.content.Content.TheVariants as contents
use Rattle.row_value.specs.Fit.{chunks_of, fit_of}
use Rattle.held_value.specs.declared.content.HeldPiece.{HeldPiece}
use Rattle.held_value.specs.declared.content.HeldObject.{HeldObject}
use Rattle.held_value.specs.declared.content.HeldContent.TheVariants.{Row}
use Rattle.held_contents.specs.Holding.{IsFit, HoldsObjects, IsNamedAgainst}
use Rattle.held_contents.proofs.Fits.{row_within, objects_short}
use Rattle.held_contents.proofs.holding.held_new.Goals as goal

short : (size : ℕ) (content : Content) (cells : List Cell) (objects slice : List (List ℕ)) → content ≡ contents.Row cells objects → IsFit size content → slice ≡ objects
    → AllByRecursion (λ (object : List ℕ). length object < 2 ^ 32) slice × (chunks_of size slice < 2 ^ 32)
short size content cells objects slice is fit same =
    let row : fit_of fit.schema (contents.Row cells objects) ≡ Ok tt = sym (ap (fit_of fit.schema) is) ∙ fit.fit in
    let w = row_within fit.schema cells objects row in (
      subst (λ (l : List (List ℕ)). AllByRecursion (λ (object : List ℕ). length object < 2 ^ 32) l) (sym same) (objects_short fit.schema cells objects row),
      omega (arith, w.chunks, ap (λ (n : ℕ). chunks_of n objects) fit.chunk, ap (chunks_of size) same),
    )

held : (size : ℕ) (shown : List (List (HeldPiece × List ℕ))) (names : List (List ChunkName)) (content : Content) (cells copied : List Cell) (objects slice : List (List ℕ)) (made : List HeldObject) (new : List (List ℕ)) → content ≡ contents.Row cells objects
    → copied ≡ cells → slice ≡ objects → HoldsObjects size shown names slice made new → IsNamedAgainst size shown names content (Row copied made) new
held size shown names content cells copied objects slice made new is same given h =
    subst (λ (c : Content). IsNamedAgainst size shown names c (Row copied made) new) (sym is) (same, subst (λ (l : List (List ℕ)). HoldsObjects size shown names l made new) given h)

pub hold_objects-requires-clause-lens : goal.hold_objects-requires-clause-lens
hold_objects-requires-clause-lens c = (short c.args.size c.args.content.now c.in-Row.cells c.in-Row.objects c.as_slice.result.now c.in-Row.is c.requires.fit c.as_slice.ensures).0

pub hold_objects-requires-clause-few : goal.hold_objects-requires-clause-few
hold_objects-requires-clause-few c = (short c.args.size c.args.content.now c.in-Row.cells c.in-Row.objects c.as_slice.result.now c.in-Row.is c.requires.fit c.as_slice.ensures).1

pub returns-in_ok-objects-in-Row : goal.returns-in_ok-objects-in-Row
returns-in_ok-objects-in-Row c =
    held c.args.size c.args.shown.now c.args.names.now c.args.content.now c.in-Row.cells c.in_ok-cells-in-Row.cells c.in-Row.objects c.as_slice.result.now c.in_ok-objects-in-Row.objects c.in_ok-objects-in-Row.brought c.in-Row.is c.in_ok-cells-in-Row.ensures
    c.as_slice.ensures c.in_ok-objects-in-Row.ensures
