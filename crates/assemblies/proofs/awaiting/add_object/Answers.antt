use Rattle.std.proofs.Common.{refl}
use Rattle.assemblies.specs.Travel.{is_sent}
use Rattle.assemblies.proofs.Listing.{step_piece}
use Rattle.assemblies.proofs.awaiting.add_object.Goals as goal

pub loop-number-preserved : goal.loop-number-preserved
loop-number-preserved c =
    let within = rw c.as_slice-piece-items.ensures at c.loop-number-test.true in
    let sent = rw c.as_slice-piece-items.ensures at c.sends.ensures in
    step_piece (is_sent c.args.sent) c.args.chunk c.args.object.now.len c.args.column c.loop-number.list c.add.new.list c.args.object.now.pieces c.loop-number.number
    _ _ c.chunk_len-len.result c.sends.result _ within refl sent c.chunk_len-len.ensures c.in_ok-add.ensures c.loop-number.invariant
