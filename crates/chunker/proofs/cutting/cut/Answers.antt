use Rattle.std.proofs.Common.{◌<◌, sym, arith, length}
use Rattle.std.proofs.lemmas.Bool.{eqb-false}
use Rattle.chunker.proofs.Cuts.{cut_more, nothing_cut, all_cut}
use Rattle.chunker.proofs.cutting.cut.Goals as goal

pub loop-rest-preserved : goal.loop-rest-preserved
loop-rest-preserved c =
    let left = eqb-false (length c.loop-rest.rest.now) 0 (sym c.loop-rest-test.ensures) in
    let some : 0 < length c.loop-rest.rest.now = omega (arith, left) in
    rw (c.in_ok-push.ensures.ok, c.in_ok-from_slice.ensures, c.split_at.ensures.front, c.split_at.ensures.back)
    (cut_more c.args.chunk c.min.result c.args.object.now c.loop-rest.chunks c.loop-rest.rest.now c.loop-rest.invariant c.requires some c.min.ensures)

pub loop-rest-init : goal.loop-rest-init
loop-rest-init c = rw c.new-chunks.ensures (nothing_cut c.args.chunk c.args.object.now)

pub returns : goal.returns
returns c = all_cut c.args.chunk c.args.object.now c.loop-rest.chunks c.loop-rest.rest.now c.loop-rest.invariant (sym c.loop-rest-test.ensures)
