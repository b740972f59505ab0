use Rattle.simba_top.proofs.Declared.{early}
use Rattle.simba_top.proofs.Events.{built, framed}
use Rattle.std.proofs.lemmas.Result.{err_from_is_err_and}
use Rattle.simba_top.proofs.Sounds.{nothing_undone}
use Rattle.simba_top.specs.Ends.{IsNext, IsRun}
use Rattle.simba_top.specs.Faults.{Led, GoesOver}
use Rattle.simba_top.proofs.Turns.{passes_over, script_not_sent, event_over}
use Rattle.simba_top.proofs.Underway.{passed_line, are_nodes}
use Rattle.simba_top.proofs.turn.Run.event_texts.Goals as goal

pub carry_out-requires-clause-built : goal.carry_out-requires-clause-built
carry_out-requires-clause-built g c = built c.args.self.now.names c.args.line.now c.in-Some.event (rw c.in-Some.is at c.in_ok-event.ensures.event)

pub carry_out-requires-clause-framed : goal.carry_out-requires-clause-framed
carry_out-requires-clause-framed g c = framed c.args.self.now.names c.args.line.now c.in-Some.event (rw c.in-Some.is at c.in_ok-event.ensures.event)

pub carry_out-requires-clause-early : goal.carry_out-requires-clause-early
carry_out-requires-clause-early g c = early c.args.self.now.names c.args.line.now c.in-Some.event (rw c.in-Some.is at c.in_ok-event.ensures.event)

pub returns-in-None-clause-held : goal.returns-in-None-clause-held
returns-in-None-clause-held g c = passed_line g.D.Disk.state (g.P.Depot.state c.args.depot.now).is_out c.args.self.now c.requires.held

pub returns-in-Some-clause-texts : goal.returns-in-Some-clause-texts
returns-in-Some-clause-texts g c = λ input script told left has.
    c.carry_out.ensures.texts input script told c.args.line.now left has (rw c.in-Some.is at c.in_ok-event.ensures.event)

pub returns-in-None-clause-texts : goal.returns-in-None-clause-texts
returns-in-None-clause-texts g c = λ input script told left has.
    rw c.new.ensures.items (passes_over g.D.Disk.state input script told c.args.line.now c.args.self.now (g.P.Depot.state c.args.depot.now).is_out left has c.requires.few
    (rw c.in-None.is at c.in_ok-event.ensures.passed))

pub returns-in_err-event-clause-left : goal.returns-in_err-event-clause-left
returns-in_err-event-clause-left g c = λ happenings behind.
    let p = err_from_is_err_and c.from_residual.result c.from_residual.ensures.1 in
    rw (p.1, p.2) (λ no sent. nothing_undone g.D.Disk.state happenings c.args.self.now.names c.args.self.now.world (g.P.Depot.state c.args.depot.now).is_out behind)

pub returns-in_err-event-clause-nodes : goal.returns-in_err-event-clause-nodes
returns-in_err-event-clause-nodes g c =
    let p = err_from_is_err_and c.from_residual.result c.from_residual.ensures.1 in
    rw (p.1, p.2) (λ no. are_nodes g.D.Disk.state (g.P.Depot.state c.args.depot.now).is_out c.args.self.now c.requires.held)

pub returns-in_err-event-clause-over : goal.returns-in_err-event-clause-over
returns-in_err-event-clause-over g c = λ input script told left has.
    let p = err_from_is_err_and c.from_residual.result c.from_residual.ensures.1 in
    rw (p.1, p.2) (script_not_sent c.in_err-event.field-0.0)

pub returns-in-Some-clause-over : goal.returns-in-Some-clause-over
returns-in-Some-clause-over g c = λ input script told left has.
    event_over c.carry_out.result c.in-Some.event (λ event. IsNext input script c.args.self.now.count event) (λ event. IsRun (GoesOver (Led g.D.Disk.state c.carry_out.new.self.world) event) script told)
    (c.carry_out.ensures.over input script told c.args.line.now left has (rw c.in-Some.is at c.in_ok-event.ensures.event))
