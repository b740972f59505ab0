use Rattle.std.proofs.Common.{[], map, inr, Err, refl, sym}
use Rattle.std.proofs.lemmas.Result.{err_from_is_err_and}
use Rattle.step_tables.specs.ClientMoves.{Next, next_from}
use Rattle.step_tables.specs.Facts as facts
use Rattle.step_tables.specs.Travels.{send_of}
use Rattle.client_node.specs.declared.fault.CallFault.TheVariants as call
use Rattle.client_node.proofs.Serving.{looks_err, looks_other}
use Rattle.client_node.proofs.Pulls.{pull_fault, sends_err, sends_ok}
use Rattle.client_node.proofs.calls.pulling.pull.Goals as goal

pub returns-in_err-opened-clause-looks : goal.returns-in_err-opened-clause-looks
returns-in_err-opened-clause-looks g c =
    let p = err_from_is_err_and c.from_residual.result c.from_residual.ensures.1 in
    rw (p.1, p.2) (looks_err g.D.Disk.state g.D.Disk.images c.args.devs.now c.open_linked.new.devs c.requires.up c.requires.ready c.in_err-opened.field-0.0 c.in_err-opened.ensures.looks)

pub returns-in_err-opened-clause-sends : goal.returns-in_err-opened-clause-sends
returns-in_err-opened-clause-sends g c =
    let p = err_from_is_err_and c.from_residual.result c.from_residual.ensures.1 in
    rw (p.1, p.2) (sends_err g.D.Disk.state c.args.devs.now c.args.is_linked c.args.client (Next c.args.table [] []) (λ opened. facts.Done) (λ opened. map (facts.Torn c.args.client c.args.table) []) (λ opened. next_from c.args.client c.args.table opened.position [])
    (λ sends. facts.Done) (λ sends. []) (λ sends. map send_of sends.items) c.in_err-opened.field-0.0 (c.in_err-opened.ensures.sends c.args.client [] []))

pub returns-in_err-sends-clause-looks : goal.returns-in_err-sends-clause-looks
returns-in_err-sends-clause-looks g c =
    let p = err_from_is_err_and c.from_residual-in_err-sends.result c.from_residual-in_err-sends.ensures.1 in
    rw (p.1, p.2) (looks_other g.D.Disk.state g.D.Disk.images c.args.devs.now c.open_linked.new.devs c.requires.up c.requires.ready c.in_ok-opened.opened (Err call.Memory) c.in_ok-opened.ensures.looks (λ no. cc))

pub returns-in_err-sends-clause-sends : goal.returns-in_err-sends-clause-sends
returns-in_err-sends-clause-sends g c =
    let p = err_from_is_err_and c.from_residual-in_err-sends.result c.from_residual-in_err-sends.ensures.1 in
    rw (p.1, p.2) (pull_fault g.D.Disk.state c.args.devs.now c.args.is_linked c.args.client c.args.table [] [] (λ sends. []) (λ sends. map send_of sends.items) call.Memory (inr refl))

pub returns-clause-looks : goal.returns-clause-looks
returns-clause-looks g c = looks_other g.D.Disk.state g.D.Disk.images c.args.devs.now c.open_linked.new.devs c.requires.up c.requires.ready c.in_ok-opened.opened _ c.in_ok-opened.ensures.looks (λ no. cc)

pub returns-clause-sends : goal.returns-clause-sends
returns-clause-sends g c =
    sends_ok g.D.Disk.state c.args.devs.now c.args.is_linked c.args.client (Next c.args.table [] []) (λ opened. facts.Done) (λ opened. map (facts.Torn c.args.client c.args.table) []) (λ opened. next_from c.args.client c.args.table opened.position [])
    (λ sends. facts.Done) (λ sends. []) (λ sends. map send_of sends.items) c.in_ok-opened.opened c.in_ok-sends.sends refl refl (sym c.in_ok-sends.ensures) (c.in_ok-opened.ensures.sends c.args.client [] [])

pub returns-clause-idle : goal.returns-clause-idle
returns-clause-idle g c = c.in_ok-opened.ensures.idle
