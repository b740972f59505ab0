use Rattle.std.proofs.Common.{ℕ, List, ◌++◌, length, ◌∙◌, ap}
use Rattle.std.specs.Prelude.{zip}
use Rattle.std.specs.List.{list_all}
use Rattle.row_value.specs.declared.pieces.Piece.{Piece}
use Rattle.row_value.specs.declared.pieces.PieceObject.{PieceObject}
use Rattle.chunk_store.specs.Standing.{chunk_in}
use Rattle.store_node.specs.Finding.{values_by}
use Rattle.store_node.specs.Update.{is_found}
use Rattle.store_node.proofs.Pieced.{cut_once, object_fresh, object_missing, object_made}
use Rattle.store_node.proofs.update.piece_object.Goals as goal

pub returns-then-not-are_found-clause-object : goal.returns-then-not-are_found-clause-object
returns-then-not-are_found-clause-object c =
    let is_cut = rw c.as_slice.ensures at c.in_ok-chunks.ensures in
    let one = cut_once c.args.size c.args.object.now c.in_ok-chunks.chunks c.requires.size is_cut in
    object_missing c.are_found.result _ _ c.if-not-are_found.true
    (c.are_found.ensures ∙ ap (λ (l : List (List ℕ)). list_all (is_found (chunk_in (values_by c.args.found.now.entries (λ bytes. bytes.now)))) (zip c.args.pieces.now l)) one)

pub returns-then-not-are_found-clause-fresh : goal.returns-then-not-are_found-clause-fresh
returns-then-not-are_found-clause-fresh c =
    let is_cut = rw c.as_slice.ensures at c.in_ok-chunks.ensures in
    c.in_ok-add_all_fresh.ensures ∙ ap (λ (l : List (List ℕ)). c.args.fresh.now.items ++ l) (object_fresh c.args.size c.args.object.now c.in_ok-chunks.chunks c.args.pieces.now c.requires.size is_cut)

pub returns-clause-object : goal.returns-clause-object
returns-clause-object c =
    let is_cut = rw c.as_slice.ensures at c.in_ok-chunks.ensures in
    let one = cut_once c.args.size c.args.object.now c.in_ok-chunks.chunks c.requires.size is_cut in
    object_made c.are_found.result _ _ (made c.len.result c.in_ok-pieces.pieces) c.if-not-are_found.false
    (c.are_found.ensures ∙ ap (λ (l : List (List ℕ)). list_all (is_found (chunk_in (values_by c.args.found.now.entries (λ bytes. bytes.now)))) (zip c.args.pieces.now l)) one)
    (ap (λ (n : ℕ). made n c.in_ok-pieces.pieces) c.len.ensures ∙ ap (λ (l : List Piece). made (length c.args.object.now) l) c.in_ok-pieces.ensures)
  where
    made : ℕ → List Piece → PieceObject
    made n l = record { len = n; pieces = l }

pub returns-clause-fresh : goal.returns-clause-fresh
returns-clause-fresh c =
    let is_cut = rw c.as_slice.ensures at c.in_ok-chunks.ensures in
    c.in_ok-add_all_fresh.ensures ∙ ap (λ (l : List (List ℕ)). c.args.fresh.now.items ++ l) (object_fresh c.args.size c.args.object.now c.in_ok-chunks.chunks c.args.pieces.now c.requires.size is_cut)
