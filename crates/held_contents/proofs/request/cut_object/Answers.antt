use Rattle.std.proofs.Common.{◌≡◌, ◌∙◌}
use Rattle.std.specs.Vec.Iter.{into_iter_items}
use Rattle.held_contents.proofs.Spellings.{cut_same}
use Rattle.held_contents.proofs.request.cut_object.Goals as goal

pub loop-bytes-init : goal.loop-bytes-init
loop-bytes-init c =
    let all : into_iter_items c.into_iter-bytes-iterator.result ≡ c.into_vec-bytes-items.result.items = c.into_iter-bytes-iterator.ensures.into_iter_gives.0 in
    rw c.new-made.ensures
    (all ∙ (c.into_vec-bytes-items.ensures ∙ cut_same c.args.size c.args.object.now c.as_slice.result.now c.in_ok-chunks.chunks c.requires c.as_slice.ensures c.in_ok-chunks.ensures))
