use Rattle.std.proofs.Common.{suc, Ok, sym, ◌∙◌}
use Rattle.std.proofs.lemmas.Result.{err_from_is_err_and}
use Rattle.world_tables.specs.World.{client_at}
use Rattle.journal_host.specs.Moves.{call_alone}
use Rattle.client_events.proofs.Wholes.{are_clients}
use Rattle.client_events.proofs.Rows.{row_move}
use Rattle.client_events.proofs.Each.{row_bad, row_work, no_fault, follows_held, memory_cause, cause_then}
use Rattle.client_events.proofs.resolving.resolve_one.Goals as goal

pub work-requires : goal.work-requires
work-requires g c =
    let a = c.requires in
    are_clients g.D.Disk.state c.args.clients.now c.resolve_by.new.self (call_alone a.0 c.args.client (row_move a.0 c.args.client c.args.table c.args.by c.args.pair)) (Ok c.in_ok-answer.answer)
    (c.in_ok-answer.ensures.called a.0 a.1)

pub returns-in_err-answer-clause-spent : goal.returns-in_err-answer-clause-spent
returns-in_err-answer-clause-spent g c w n h below =
    let p = err_from_is_err_and c.from_residual.result c.from_residual.ensures.1 in
    rw (p.1, p.2) (c.in_err-answer.ensures.spent w n h below)

pub returns-in_err-answer-clause-cause : goal.returns-in_err-answer-clause-cause
returns-in_err-answer-clause-cause g c =
    let p = err_from_is_err_and c.from_residual.result c.from_residual.ensures.1 in
    rw (p.1, p.2) c.in_err-answer.ensures.cause

pub returns-in_err-answer-clause-plans : goal.returns-in_err-answer-clause-plans
returns-in_err-answer-clause-plans g c n below = c.resolve_by.ensures.plans n below

pub returns-then-is_fault-clause-resolved : goal.returns-then-is_fault-clause-resolved
returns-then-is_fault-clause-resolved g c w last h r =
    row_bad g.D.Disk.state w c.args.clients.now c.resolve_by.new.self c.args.client c.args.table c.args.by c.args.pair last r c.in_ok-answer.answer (c.in_ok-answer.ensures.called w h)
    (sym c.is_fault.ensures ∙ c.if-is_fault.true)

pub returns-then-is_fault-clause-held : goal.returns-then-is_fault-clause-held
returns-then-is_fault-clause-held g c =
    let a = c.requires in
    are_clients g.D.Disk.state c.args.clients.now c.resolve_by.new.self (call_alone a.0 c.args.client (row_move a.0 c.args.client c.args.table c.args.by c.args.pair)) (Ok c.in_ok-answer.answer)
    (c.in_ok-answer.ensures.called a.0 a.1)

pub returns-then-is_fault-clause-cause : goal.returns-then-is_fault-clause-cause
returns-then-is_fault-clause-cause g c = c.in_ok-answer.ensures.cause

pub returns-then-is_fault-clause-plans : goal.returns-then-is_fault-clause-plans
returns-then-is_fault-clause-plans g c n below = c.resolve_by.ensures.plans n below

pub returns-clause-resolved : goal.returns-clause-resolved
returns-clause-resolved g c w last h r =
    row_work g.D.Disk.state w c.args.clients.now c.resolve_by.new.self c.args.client c.args.table c.args.by c.args.pair last r c.in_ok-answer.answer (c.in_ok-answer.ensures.called w h)
    c.work.new.clients (sym c.is_fault.ensures ∙ c.if-is_fault.false) c.work.result c.work.ensures.work

pub returns-clause-spent : goal.returns-clause-spent
returns-clause-spent g c w n h below = memory_cause n (client_at w c.args.client) c.work.result c.work.ensures.memory

pub returns-clause-held : goal.returns-clause-held
returns-clause-held g c =
    let a = c.requires in
    let k = c.in_ok-answer.ensures.called a.0 a.1 in
    follows_held g.D.Disk.state (call_alone a.0 c.args.client (row_move a.0 c.args.client c.args.table c.args.by c.args.pair) k.0 k.1).world c.resolve_by.new.self c.work.new.clients c.args.client c.in_ok-answer.answer c.work.result
    (c.work.ensures.work _ k.2.held)

pub returns-clause-cause : goal.returns-clause-cause
returns-clause-cause g c =
    cause_then g.D.Disk.state c.args.client c.args.clients.now.clients c.resolve_by.new.self.clients c.work.new.clients.clients c.in_ok-answer.answer c.work.result
    (no_fault c.in_ok-answer.answer (sym c.is_fault.ensures ∙ c.if-is_fault.false)) c.in_ok-answer.ensures.cause c.work.ensures.cause

pub returns-clause-plans : goal.returns-clause-plans
returns-clause-plans g c n below = c.work.ensures.plans (suc n) (c.resolve_by.ensures.plans n below)
