use Rattle.std.proofs.Common.{◌≡◌, ◌≤◌, length, Err, sym, ap, subst}
use Rattle.std.proofs.lemmas.Result.{err_from_is_err_and}
use Rattle.vault.specs.Limit.{payload_most}
use Rattle.slot_store.specs.declared.held.TableRecord.{TableRecord}
use Rattle.slot_store.specs.Spelling.{HasRecordSpelling, record_payload}
use Rattle.client_journal.specs.Devs.{PutRecord, changed_by}
use Rattle.client_journal.specs.Standing.{devs}
use Rattle.client_node.proofs.Making.{cause_memory, cause_ok, cause_err, opened_spelled, opened_short}
use Rattle.client_node.proofs.devices.put_opened.Goals as goal

pub declare-requires-clause-spelled : goal.declare-requires-clause-spelled
declare-requires-clause-spelled g c = subst HasRecordSpelling (sym c.in_ok-made.ensures) (opened_spelled c.args.table.now c.requires.opens)

pub declare-requires-clause-short : goal.declare-requires-clause-short
declare-requires-clause-short g c = subst (λ (r : TableRecord). length (record_payload r) ≤ payload_most) (sym c.in_ok-made.ensures) (opened_short c.args.table.now c.requires.opens)

pub returns-in_err-made-clause-cause : goal.returns-in_err-made-clause-cause
returns-in_err-made-clause-cause g c =
    let p = err_from_is_err_and c.from_residual.result c.from_residual.ensures.1 in
    rw (p.1, p.2) (cause_memory g.D.Disk.state c.args.devs.now)

pub returns-in_err-declare-clause-cause : goal.returns-in_err-declare-clause-cause
returns-in_err-declare-clause-cause g c =
    let p = err_from_is_err_and c.from_residual-in_err-declare.result c.from_residual-in_err-declare.ensures.1 in
    let e = c.in_err-declare.ensures in
    rw (p.1, p.2) (cause_err g.D.Disk.state c.args.devs.now c.declare.new.self c.in_err-declare.field-0.0 e.counted e.disk e.only e.fuse)

pub returns-clause-put : goal.returns-clause-put
returns-clause-put g c =
    let d = devs g.D.Disk.state c.args.devs.now in
    subst (λ (r : TableRecord). devs g.D.Disk.state c.declare.new.self ≡ changed_by d (PutRecord r)) c.in_ok-made.ensures c.in_ok-declare.ensures.put

pub returns-clause-cause : goal.returns-clause-cause
returns-clause-cause g c = cause_ok g.D.Disk.state c.args.devs.now c.declare.new.self _ (c.in_ok-declare.ensures.counted (λ is. cc)) c.in_ok-declare.ensures.fuse
