use Rattle.std.proofs.Common.{sym, arith}
use Rattle.stab_base.specs.Codec.{IsBytes}
use Rattle.slot_store.proofs.Again.{row_takes}
use Rattle.slot_store.proofs.device.slots_in.Goals as goal

pub returns-in-Ok-clause-spelled : goal.returns-in-Ok-clause-spelled
returns-in-Ok-clause-spelled c =
    let fits : IsBytes c.args.payload.now = λ i. omega (arith, c.type_inv.payload i) in
    (row_takes c.args.payload.now c.in-Ok.row fits c.in-Ok.ensures).0

pub returns-in-Ok-clause-same : goal.returns-in-Ok-clause-same
returns-in-Ok-clause-same c =
    let fits : IsBytes c.args.payload.now = λ i. omega (arith, c.type_inv.payload i) in
    sym (row_takes c.args.payload.now c.in-Ok.row fits c.in-Ok.ensures).1
