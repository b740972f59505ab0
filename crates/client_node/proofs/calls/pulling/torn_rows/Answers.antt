use Rattle.std.proofs.Common.{map, inr, Err, refl, sym, ◌∙◌}
use Rattle.std.proofs.lemmas.Result.{err_from_is_err_and}
use Rattle.step_tables.specs.ClientMoves.{Next, next_from}
use Rattle.step_tables.specs.Facts as facts
use Rattle.step_tables.specs.Lines.{fact_of}
use Rattle.step_tables.specs.Travels.{send_of}
use Rattle.client_node.specs.declared.fault.CallFault.TheVariants as call
use Rattle.client_node.proofs.Serving.{looks_err, looks_other}
use Rattle.client_node.proofs.Pulls.{pull_fault, asks_rows, sends_err, sends_ok}
use Rattle.client_node.proofs.calls.pulling.torn_rows.Goals as goal

pub returns-in_err-_opened-clause-looks : goal.returns-in_err-_opened-clause-looks
returns-in_err-_opened-clause-looks g c =
    let p = err_from_is_err_and c.from_residual.result c.from_residual.ensures.1 in
    rw (p.1, p.2) (looks_err g.D.Disk.state g.D.Disk.images c.args.devs.now c.open_linked.new.devs c.requires.up c.requires.ready c.in_err-_opened.field-0.0 c.in_err-_opened.ensures.looks)

pub returns-in_err-_opened-clause-sends : goal.returns-in_err-_opened-clause-sends
returns-in_err-_opened-clause-sends g c =
    let p = err_from_is_err_and c.from_residual.result c.from_residual.ensures.1 in
    rw (p.1, p.2) (sends_err g.D.Disk.state c.args.devs.now c.args.is_linked c.args.client (Next c.args.table c.args.tears.now c.args.asks.now) (λ opened. facts.Done) (λ opened. map (facts.Torn c.args.client c.args.table) c.args.tears.now)
    (λ opened. next_from c.args.client c.args.table opened.position c.args.asks.now) (λ torn. facts.Done) (λ torn. map fact_of torn.facts.items) (λ torn. map send_of torn.requests.items) c.in_err-_opened.field-0.0
    (c.in_err-_opened.ensures.sends c.args.client c.args.tears.now c.args.asks.now))

pub returns-in_err-facts-clause-looks : goal.returns-in_err-facts-clause-looks
returns-in_err-facts-clause-looks g c =
    let p = err_from_is_err_and c.from_residual-in_err-facts.result c.from_residual-in_err-facts.ensures.1 in
    rw (p.1, p.2) (looks_other g.D.Disk.state g.D.Disk.images c.args.devs.now c.open_linked.new.devs c.requires.up c.requires.ready c.in_ok-_opened._opened (Err call.Memory) c.in_ok-_opened.ensures.looks (λ no. cc))

pub returns-in_err-facts-clause-sends : goal.returns-in_err-facts-clause-sends
returns-in_err-facts-clause-sends g c =
    let p = err_from_is_err_and c.from_residual-in_err-facts.result c.from_residual-in_err-facts.ensures.1 in
    rw (p.1, p.2) (pull_fault g.D.Disk.state c.args.devs.now c.args.is_linked c.args.client c.args.table c.args.tears.now c.args.asks.now (λ torn. map fact_of torn.facts.items) (λ torn. map send_of torn.requests.items) call.Memory (inr refl))

pub returns-in_err-requests-clause-looks : goal.returns-in_err-requests-clause-looks
returns-in_err-requests-clause-looks g c =
    let p = err_from_is_err_and c.from_residual-in_err-requests.result c.from_residual-in_err-requests.ensures.1 in
    rw (p.1, p.2) (looks_other g.D.Disk.state g.D.Disk.images c.args.devs.now c.open_linked.new.devs c.requires.up c.requires.ready c.in_ok-_opened._opened (Err call.Memory) c.in_ok-_opened.ensures.looks (λ no. cc))

pub returns-in_err-requests-clause-sends : goal.returns-in_err-requests-clause-sends
returns-in_err-requests-clause-sends g c =
    let p = err_from_is_err_and c.from_residual-in_err-requests.result c.from_residual-in_err-requests.ensures.1 in
    rw (p.1, p.2) (pull_fault g.D.Disk.state c.args.devs.now c.args.is_linked c.args.client c.args.table c.args.tears.now c.args.asks.now (λ torn. map fact_of torn.facts.items) (λ torn. map send_of torn.requests.items) call.Memory (inr refl))

pub returns-clause-looks : goal.returns-clause-looks
returns-clause-looks g c = looks_other g.D.Disk.state g.D.Disk.images c.args.devs.now c.open_linked.new.devs c.requires.up c.requires.ready c.in_ok-_opened._opened _ c.in_ok-_opened.ensures.looks (λ no. cc)

pub returns-clause-sends : goal.returns-clause-sends
returns-clause-sends g c =
    sends_ok g.D.Disk.state c.args.devs.now c.args.is_linked c.args.client (Next c.args.table c.args.tears.now c.args.asks.now) (λ opened. facts.Done) (λ opened. map (facts.Torn c.args.client c.args.table) c.args.tears.now)
    (λ opened. next_from c.args.client c.args.table opened.position c.args.asks.now) (λ torn. facts.Done) (λ torn. map fact_of torn.facts.items) (λ torn. map send_of torn.requests.items)
    c.in_ok-_opened._opened (record { facts = c.in_ok-facts.facts; requests = c.in_ok-requests.requests }) refl (sym c.in_ok-facts.ensures)
    (asks_rows c.args.client c.args.table c.in_ok-_opened._opened.position c.args.asks.now c.requires.some ∙ sym c.in_ok-requests.ensures)
    (c.in_ok-_opened.ensures.sends c.args.client c.args.tears.now c.args.asks.now)

pub returns-clause-idle : goal.returns-clause-idle
returns-clause-idle g c = c.in_ok-_opened.ensures.idle
