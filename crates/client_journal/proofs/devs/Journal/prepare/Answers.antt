use Rattle.std.proofs.Common.{List, length, Err, inr, refl, sym, ◌∙◌, ap, subst, arith}
use Rattle.std.proofs.lemmas.Result.{err_from_is_err_and}
use Rattle.plan_log.specs.Spelling.{IsPlan as IsPlanNumber}
use Rattle.client_journal.specs.declared.fault.JournalFault.TheVariants.{Memory}
use Rattle.client_journal.specs.Devs.{Write}
use Rattle.client_journal.specs.Standing.{devs, IsReady}
use Rattle.client_journal.proofs.Waiting.{none_waits, waits_err}
use Rattle.client_journal.proofs.Prepared.{IsMadeOf, made_is, writes_are, made_ready}
use Rattle.client_journal.proofs.devs.Journal.prepare.Goals as goal

pub made-requires-clause-few : goal.made-requires-clause-few
made-requires-clause-few g c = omega (arith, c.requires.plan.few)

pub bytes_of_row-requires : goal.bytes_of_row-requires
bytes_of_row-requires g c =
    let k = c.in_ok-made.ensures in
    let number : IsPlanNumber c.args.number = record { least = omega (arith, c.requires.newest); most = c.requires.number } in
    (made_is (devs g.D.Disk.state c.args.self.now) c.args.number c.args.plan number c.requires.plan k.old c.in_ok-made.made (record { intend = k.intend; brought = k.brought; commit = k.commit; row = k.row; table = k.table })).row

pub bytes_of_record-requires : goal.bytes_of_record-requires
bytes_of_record-requires g c =
    let k = c.in_ok-made.ensures in
    let number : IsPlanNumber c.args.number = record { least = omega (arith, c.requires.newest); most = c.requires.number } in
    (made_is (devs g.D.Disk.state c.args.self.now) c.args.number c.args.plan number c.requires.plan k.old c.in_ok-made.made (record { intend = k.intend; brought = k.brought; commit = k.commit; row = k.row; table = k.table })).table

pub commit_size-requires : goal.commit_size-requires
commit_size-requires g c =
    let k = c.in_ok-made.ensures in
    let number : IsPlanNumber c.args.number = record { least = omega (arith, c.requires.newest); most = c.requires.number } in
    (made_is (devs g.D.Disk.state c.args.self.now) c.args.number c.args.plan number c.requires.plan k.old c.in_ok-made.made (record { intend = k.intend; brought = k.brought; commit = k.commit; row = k.row; table = k.table })).spelled

pub reserve_for-requires-clause-made : goal.reserve_for-requires-clause-made
reserve_for-requires-clause-made g c =
    let k = c.in_ok-made.ensures in
    let number : IsPlanNumber c.args.number = record { least = omega (arith, c.requires.newest); most = c.requires.number } in
    made_is (devs g.D.Disk.state c.args.self.now) c.args.number c.args.plan number c.requires.plan k.old c.in_ok-made.made (record { intend = k.intend; brought = k.brought; commit = k.commit; row = k.row; table = k.table })

pub plan_tasks-requires : goal.plan_tasks-requires
plan_tasks-requires g c =
    let k = c.in_ok-made.ensures in
    omega (arith, ap length k.brought, c.requires.plan.few)

pub returns-in_err-made-clause-waits : goal.returns-in_err-made-clause-waits
returns-in_err-made-clause-waits g c =
    let p = err_from_is_err_and c.from_residual.result c.from_residual.ensures.1 in
    rw (p.1, p.2) (none_waits g.D.Disk.state g.D.Disk.images g.met.D.Disk.only_now c.args.self.now c.requires.up c.requires.rests (Err Memory) (λ is. cc) (inr refl))

pub returns-in_err-row-clause-waits : goal.returns-in_err-row-clause-waits
returns-in_err-row-clause-waits g c =
    let p = err_from_is_err_and c.from_residual-in_err-row.result c.from_residual-in_err-row.ensures.1 in
    rw (p.1, p.2) (none_waits g.D.Disk.state g.D.Disk.images g.met.D.Disk.only_now c.args.self.now c.requires.up c.requires.rests (Err Memory) (λ is. cc) (inr refl))

pub returns-in_err-table-clause-waits : goal.returns-in_err-table-clause-waits
returns-in_err-table-clause-waits g c =
    let p = err_from_is_err_and c.from_residual-in_err-table.result c.from_residual-in_err-table.ensures.1 in
    rw (p.1, p.2) (none_waits g.D.Disk.state g.D.Disk.images g.met.D.Disk.only_now c.args.self.now c.requires.up c.requires.rests (Err Memory) (λ is. cc) (inr refl))

pub returns-in_err-planned-clause-waits : goal.returns-in_err-planned-clause-waits
returns-in_err-planned-clause-waits g c =
    let p = err_from_is_err_and c.from_residual-in_err-planned.result c.from_residual-in_err-planned.ensures.1 in
    rw (p.1, p.2) (none_waits g.D.Disk.state g.D.Disk.images g.met.D.Disk.only_now c.args.self.now c.requires.up c.requires.rests (Err Memory) (λ is. cc) (inr refl))

pub returns-in_err-reserve_for-clause-waits : goal.returns-in_err-reserve_for-clause-waits
returns-in_err-reserve_for-clause-waits g c =
    let p = err_from_is_err_and c.from_residual-in_err-reserve_for.result c.from_residual-in_err-reserve_for.ensures.1 in
    rw (p.1, p.2) (waits_err g.D.Disk.state g.D.Disk.images c.args.self.now c.reserve_for.new.self c.in_err-reserve_for.field-0.0 c.in_err-reserve_for.ensures.waits)

pub returns-clause-ready : goal.returns-clause-ready
returns-clause-ready g c =
    let s = g.D.Disk.state in
    let old = c.args.self.now in
    let new = c.reserve_for.new.self in
    let k = c.in_ok-made.ensures in
    let r = c.in_ok-reserve_for.ensures in
    let number : IsPlanNumber c.args.number = record { least = omega (arith, c.requires.newest); most = c.requires.number } in
    let made_of : IsMadeOf (devs s old) c.args.number c.args.plan c.in_ok-made.made = record { intend = k.intend; brought = k.brought; commit = k.commit; row = k.row; table = k.table } in
    subst (λ (l : List Write). IsReady s new l) (sym (c.in_ok-tasks.ensures ∙ writes_are (devs s old) c.args.number c.args.plan c.in_ok-made.made made_of))
    (made_ready (devs s old) c.args.number c.args.plan number c.requires.plan k.old s new c.in_ok-made.made made_of (r.waits.same (λ is. cc)) (r.waits.rests (λ is. cc)) c.requires.not_committed c.requires.newest r.chunk_room r.slot_room r.journal_room)

pub overflow_add-row : goal.overflow_add-row
overflow_add-row g c =
    let k = c.in_ok-made.ensures in
    let number : IsPlanNumber c.args.number = record { least = omega (arith, c.requires.newest); most = c.requires.number } in
    let m = made_is (devs g.D.Disk.state c.args.self.now) c.args.number c.args.plan number c.requires.plan k.old c.in_ok-made.made (record { intend = k.intend; brought = k.brought; commit = k.commit; row = k.row; table = k.table }) in
    omega (arith, m.row_short, m.table_short, c.in_ok-row.ensures, c.in_ok-table.ensures)
