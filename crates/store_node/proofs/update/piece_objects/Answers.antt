use Rattle.std.proofs.Common.{◌+◌, List, sym, ◌∙◌, subst}
use Rattle.row_value.specs.declared.pieces.PieceObject.{PieceObject}
use Rattle.chunk_store.specs.Standing.{chunk_in}
use Rattle.store_node.specs.Finding.{values_by}
use Rattle.store_node.proofs.Pieced.{SoFar, made_more}
use Rattle.store_node.proofs.update.piece_objects.Goals as goal

pub loop-place-preserved : goal.loop-place-preserved
loop-place-preserved c =
    let look = chunk_in (values_by c.args.found.now.entries (λ bytes. bytes.now)) in
    subst (λ (l : List PieceObject). SoFar c.args.size look c.args.pieces.now c.args.objects.now (c.loop-place.place + 1) l c.piece_object.new.fresh.items) (sym c.in_ok-push-in-Some.ensures.ok)
    (made_more c.args.size look c.args.pieces.now c.args.objects.now c.loop-place.place c.loop-place.made c.loop-place.fresh.items c.loop-place.invariant c.index-objects-place.result c.loop-place-test.true c.index-objects-place.is
    c.pieces_at-here.result.now c.pieces_at-here.ensures c.in-Some.object c.piece_object.new.fresh.items (sym c.in-Some.is ∙ c.in_ok-object.ensures.object) c.in_ok-object.ensures.fresh)
