use Rattle.std.proofs.Common.{map, Err}
use Rattle.std.proofs.lemmas.Result.{err_from_is_err_and, IfOk-weaker}
use Rattle.client_journal.specs.Standing.{devs}
use Rattle.step_tables.specs.Lines.{fact_of}
use Rattle.client_node.specs.declared.fault.CallFault.TheVariants as call
use Rattle.client_node.proofs.Retelling.{ok_only, memory_only, row_told}
use Rattle.client_node.proofs.Serving.{looks_none, looks_then}
use Rattle.client_node.proofs.telling.tell_redone.Goals as goal

pub returns-in_err-tell_table-in-None-clause-looks : goal.returns-in_err-tell_table-in-None-clause-looks
returns-in_err-tell_table-in-None-clause-looks g c =
    let p = err_from_is_err_and c.from_residual-in_err-tell_table-in-None.result c.from_residual-in_err-tell_table-in-None.ensures.1 in
    rw (p.1, p.2) (looks_none g.D.Disk.state g.D.Disk.images g.met.D.Disk.only_now c.args.devs.now c.requires.up c.requires.ready (Err call.Memory) memory_only)

pub returns-in_ok-slots-in-Some-clause-looks : goal.returns-in_ok-slots-in-Some-clause-looks
returns-in_ok-slots-in-Some-clause-looks g c =
    looks_then g.D.Disk.state g.D.Disk.images c.args.devs.now c.tell_rows.new.devs c.requires.up c.requires.ready c.row_slots.new.devs c.in_ok-slots-in-Some.slots c.tell_rows.result c.in_ok-slots-in-Some.ensures.looks c.tell_rows.ensures.looks

pub returns-in_ok-slots-in-Some-clause-told : goal.returns-in_ok-slots-in-Some-clause-told
returns-in_ok-slots-in-Some-clause-told g c =
    let redone = c.args.redone.now in
    let k = c.in_ok-slots-in-Some.ensures in
    IfOk-weaker c.tell_rows.result _ _ (λ told h.
    row_told c.args.client redone.table (devs g.D.Disk.state c.args.devs.now) (devs g.D.Disk.state c.row_slots.new.devs) redone.row c.in-Some.row c.in_ok-slots-in-Some.slots redone.tells c.as_slice.result.now (map fact_of told.items)
    c.in-Some.is k.slots (k.looks.serves.same (ok_only c.in_ok-slots-in-Some.slots)) c.as_slice.ensures h) c.tell_rows.ensures.told

pub returns-in_ok-tell_table-in-None-clause-looks : goal.returns-in_ok-tell_table-in-None-clause-looks
returns-in_ok-tell_table-in-None-clause-looks g c = looks_none g.D.Disk.state g.D.Disk.images g.met.D.Disk.only_now c.args.devs.now c.requires.up c.requires.ready _ (ok_only _)
