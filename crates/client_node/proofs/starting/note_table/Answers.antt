use Rattle.std.proofs.Common.{Ok, Err, ℕ, List, subst, sym}
use Rattle.std.proofs.lemmas.Result.{err_from_is_err_and, on_ok_weaker}
use Rattle.client_journal.specs.Devs.{ClientDevs}
use Rattle.client_journal.specs.Standing.{devs}
use Rattle.client_node.specs.Noting.{IsNotedAt}
use Rattle.client_node.proofs.NotedAtStart.{all_of}
use Rattle.client_node.proofs.Serving.{looks_ok, looks_fault, looks_then}
use Rattle.client_node.proofs.AskedAgain.{ok_not}
use Rattle.client_node.proofs.starting.note_table.Goals as goal

pub returns-in_err-rows-clause-looks : goal.returns-in_err-rows-clause-looks
returns-in_err-rows-clause-looks g c =
    let p = err_from_is_err_and c.from_residual.result c.from_residual.ensures.1 in
    rw (p.1, p.2) (looks_fault g.D.Disk.state g.D.Disk.images c.args.devs.now c.rows_of.new.self c.requires.up c.requires.ready c.in_err-rows.field-0.0 c.in_err-rows.ensures.asks)

pub note_rows-requires-clause-up : goal.note_rows-requires-clause-up
note_rows-requires-clause-up g c = (looks_ok g.D.Disk.state g.D.Disk.images c.args.devs.now c.rows_of.new.self c.requires.up c.requires.ready _ c.in_ok-rows.ensures.asks (Ok (tt {0})) (ok_not (tt {0}))).serves.up (ok_not (tt {0}))

pub note_rows-requires-clause-ready : goal.note_rows-requires-clause-ready
note_rows-requires-clause-ready g c = (looks_ok g.D.Disk.state g.D.Disk.images c.args.devs.now c.rows_of.new.self c.requires.up c.requires.ready _ c.in_ok-rows.ensures.asks (Ok (tt {0})) (ok_not (tt {0}))).serves.ready (ok_not (tt {0}))

pub returns-clause-looks : goal.returns-clause-looks
returns-clause-looks g c =
    looks_then g.D.Disk.state g.D.Disk.images c.args.devs.now c.note_rows.new.devs c.requires.up c.requires.ready c.rows_of.new.self (tt {0}) c.note_rows.result
    (looks_ok g.D.Disk.state g.D.Disk.images c.args.devs.now c.rows_of.new.self c.requires.up c.requires.ready _ c.in_ok-rows.ensures.asks (Ok (tt {0})) (ok_not (tt {0}))) c.note_rows.ensures.looks

pub returns-clause-noted : goal.returns-clause-noted
returns-clause-noted g c =
    let s = g.D.Disk.state in
    let l = looks_ok s g.D.Disk.images c.args.devs.now c.rows_of.new.self c.requires.up c.requires.ready _ c.in_ok-rows.ensures.asks (Ok (tt {0})) (ok_not (tt {0})) in
    on_ok_weaker c.note_rows.result
    (λ noted. all_of (devs s c.args.devs.now) c.note_rows.new.waiting c.args.table (λ row some. subst (λ (d : ClientDevs). IsNotedAt d c.note_rows.new.waiting c.args.table row) (l.serves.same (ok_not (tt {0}))) (noted row (rw c.as_slice.ensures (c.in_ok-rows.ensures.rows.all row some)))))
    c.note_rows.ensures.noted
