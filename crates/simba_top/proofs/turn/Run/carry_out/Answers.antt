use Rattle.std.proofs.lemmas.Result.{err_from_is_err_and}
use Rattle.std.proofs.Common.{ℕ, ◌+◌, ◌-◌, ◌^◌, ◌∙◌, refl, ap, inr}
use Rattle.std.specs.Prelude.{min}
use Rattle.gated_tables.specs.Net.{start}
use Rattle.gated_tables.specs.Runs.{net_from}
use Rattle.node_steps.specs.Holds.{IsWorld}
use Rattle.net_steps.specs.Steps.{IsUndone}
use Rattle.simba_top.specs.Stops.{of_world}
use Rattle.simba_top.specs.Stands.{plans_from}
use Rattle.simba_top.proofs.Behind.{at_event}
use Rattle.simba_top.proofs.Sounds.{nothing_undone, run_over}
use Rattle.simba_top.proofs.Underway.{are_nodes, may_come, carried_on, nodes_still, nodes_over}
use Rattle.simba_top.proofs.Turns.{carries_out, row_stops, world_stops, depot_failed, stops_sent, event_is_next, no_limit_ten, by_sent, row_not_sent}
use Rattle.simba_top.proofs.turn.Run.carry_out.Goals as goal

pub step-requires-clause-held : goal.step-requires-clause-held
step-requires-clause-held g c =
    let here = c.requires.held in (
      net_from start here.happenings,
      may_come g.D.Disk.state (g.P.Depot.state c.args.depot.now).is_out c.args.self.now here c.args.event.now c.requires.early,
    )

pub returns-clause-held : goal.returns-clause-held
returns-clause-held g c =
    let here = c.requires.held in
    let state = g.D.Disk.state in
    let out = (g.P.Depot.state c.args.depot.now).is_out in
    let new = (g.P.Depot.state c.step.new.depot).is_out in
    let n = net_from start here.happenings in
    let at = may_come state out c.args.self.now here c.args.event.now c.requires.early in
    carried_on state out c.args.self.now here c.args.event.now c.requires.early g.D.Disk.images c.add.new.self c.add-2.new.self c.step.new.self new c.in_ok-lines.lines c.saturating_add-self.result
    c.requires.built c.in_ok-add.ensures.ok (c.in_ok-lines.ensures.done n at) (c.in_ok-lines.ensures.plans n (plans_from start here.happenings) at here.plans)

pub returns-clause-texts : goal.returns-clause-texts
returns-clause-texts g c = λ input script told line left has spells.
    let state = g.D.Disk.state in
    let out = (g.P.Depot.state c.args.depot.now).is_out in
    let new = (g.P.Depot.state c.step.new.depot).is_out in
    let l = has.world in
    carries_out state input script told line c.args.self.now out left has c.requires.few g.D.Disk.images c.args.event.now c.add.new.self c.add-2.new.self c.step.new.self new
    c.in_ok-lines.lines c.in_ok-texts.texts.items c.saturating_add-self.result
    spells c.in_ok-add.ensures.ok (c.in_ok-add-2.ensures.rows script has.rows) (c.in_ok-add-2.ensures.few script has.rows has.front.rows) c.requires.built c.requires.early
    (c.in_ok-lines.ensures.done (net_from start l.run) (at_event state l.run c.args.self.now.names c.args.self.now.world out l.behind c.args.event.now c.requires.early)) c.in_ok-texts.ensures.texts c.in_ok-texts.ensures.widths
    (c.saturating_add-self.ensures ∙ ap (λ (n : ℕ). min (c.args.self.now.told + n) (2 ^ 64 - 1)) c.len.ensures)

pub returns-in_err-add-2-clause-texts : goal.returns-in_err-add-2-clause-texts
returns-in_err-add-2-clause-texts g c = λ input script told line left has spells.
    let p = err_from_is_err_and c.from_residual-in_err-add-2.result c.from_residual-in_err-add-2.ensures.1 in
    rw (p.1, p.2) (row_stops g.D.Disk.state input script told line c.args.self.now (g.P.Depot.state c.args.depot.now).is_out left has c.requires.few c.args.event.now
    c.in_err-add-2.field-0.0 spells (c.in_err-add-2.ensures.cause script has.rows))

pub returns-in_err-lines-clause-texts : goal.returns-in_err-lines-clause-texts
returns-in_err-lines-clause-texts g c = λ input script told line left has spells.
    let state = g.D.Disk.state in
    let out = (g.P.Depot.state c.args.depot.now).is_out in
    let here = c.requires.held in
    let p = err_from_is_err_and c.from_residual-in_err-lines.result c.from_residual-in_err-lines.ensures.1 in
    rw (p.1, p.2) (world_stops state input script told line c.args.self.now out left has c.requires.few here c.args.event.now c.in_err-lines.field-0.0
    spells (c.in_ok-add-2.ensures.few script has.rows has.front.rows)
    (c.in_err-lines.ensures.limit (net_from start here.happenings) (plans_from start here.happenings) (may_come state out c.args.self.now here c.args.event.now c.requires.early) here.plans))

-- ---- what is left

pub returns-in_err-add-clause-left : goal.returns-in_err-add-clause-left
returns-in_err-add-clause-left g c = λ happenings behind.
    let p = err_from_is_err_and c.from_residual.result c.from_residual.ensures.1 in
    rw (p.1, p.2) (λ no sent. nothing_undone g.D.Disk.state happenings c.args.self.now.names c.args.self.now.world (g.P.Depot.state c.args.depot.now).is_out behind)

pub returns-in_err-add-2-clause-left : goal.returns-in_err-add-2-clause-left
returns-in_err-add-2-clause-left g c = λ happenings behind.
    let p = err_from_is_err_and c.from_residual-in_err-add-2.result c.from_residual-in_err-add-2.ensures.1 in
    rw (p.1, p.2) (λ no sent. nothing_undone g.D.Disk.state happenings c.args.self.now.names c.args.self.now.world (g.P.Depot.state c.args.depot.now).is_out behind)

pub returns-in_err-lines-clause-left : goal.returns-in_err-lines-clause-left
returns-in_err-lines-clause-left g c = λ happenings behind.
    let p = err_from_is_err_and c.from_residual-in_err-lines.result c.from_residual-in_err-lines.ensures.1 in
    let here = c.requires.held in
    let is_out = (g.P.Depot.state c.args.depot.now).is_out in
    let spent = c.in_err-lines.ensures.limit (net_from start here.happenings) (plans_from start here.happenings)
    (may_come g.D.Disk.state is_out c.args.self.now here c.args.event.now c.requires.early) here.plans in
    let at = at_event g.D.Disk.state happenings c.args.self.now.names c.args.self.now.world is_out behind c.args.event.now c.requires.early in
    rw (p.1, p.2) (λ no sent. c.in_err-lines.ensures.left (net_from start happenings) at (λ is. no (ap of_world is)) (no_limit_ten c.in_err-lines.field-0.0 sent)
    (inr (depot_failed g.D.Disk.state is_out c.args.self.now here c.requires.few c.args.event.now c.in_err-lines.field-0.0 no sent spent)))

pub returns-in_err-texts-clause-left : goal.returns-in_err-texts-clause-left
returns-in_err-texts-clause-left g c = λ happenings behind.
    let p = err_from_is_err_and c.from_residual-in_err-texts.result c.from_residual-in_err-texts.ensures.1 in
    rw (p.1, p.2) (λ no sent. absurd {A = IsUndone g.D.Disk.state (net_from start happenings) (g.P.Depot.state c.step.new.depot).is_out c.args.self.now.world c.step.new.self} (no refl))

-- ---- its nodes

pub returns-in_err-add-clause-nodes : goal.returns-in_err-add-clause-nodes
returns-in_err-add-clause-nodes g c =
    let p = err_from_is_err_and c.from_residual.result c.from_residual.ensures.1 in
    rw (p.1, p.2) (λ no. are_nodes g.D.Disk.state (g.P.Depot.state c.args.depot.now).is_out c.args.self.now c.requires.held)

pub returns-in_err-add-2-clause-nodes : goal.returns-in_err-add-2-clause-nodes
returns-in_err-add-2-clause-nodes g c =
    let p = err_from_is_err_and c.from_residual-in_err-add-2.result c.from_residual-in_err-add-2.ensures.1 in
    rw (p.1, p.2) (λ no. are_nodes g.D.Disk.state (g.P.Depot.state c.args.depot.now).is_out c.args.self.now c.requires.held)

pub returns-in_err-lines-clause-nodes : goal.returns-in_err-lines-clause-nodes
returns-in_err-lines-clause-nodes g c =
    let p = err_from_is_err_and c.from_residual-in_err-lines.result c.from_residual-in_err-lines.ensures.1 in
    let here = c.requires.held in
    let state = g.D.Disk.state in
    let out = (g.P.Depot.state c.args.depot.now).is_out in
    let new = (g.P.Depot.state c.step.new.depot).is_out in
    let n = net_from start here.happenings in
    let at = may_come state out c.args.self.now here c.args.event.now c.requires.early in
    let spent = c.in_err-lines.ensures.limit n (plans_from start here.happenings) at here.plans in
    rw (p.1, p.2) (λ no. by_sent c.in_err-lines.field-0.0
    (λ count is. nodes_over state out c.args.self.now here c.args.event.now c.requires.early g.D.Disk.images new c.step.new.self c.requires.built (c.in_err-lines.ensures.over n at count is))
    (λ sent. nodes_still state out c.args.self.now here new c.step.new.self
    (c.in_err-lines.ensures.left n at (λ is. no (ap of_world is)) (no_limit_ten c.in_err-lines.field-0.0 sent)
    (inr (depot_failed state out c.args.self.now here c.requires.few c.args.event.now c.in_err-lines.field-0.0 no sent spent)))))

pub returns-in_err-texts-clause-nodes : goal.returns-in_err-texts-clause-nodes
returns-in_err-texts-clause-nodes g c =
    let p = err_from_is_err_and c.from_residual-in_err-texts.result c.from_residual-in_err-texts.ensures.1 in
    rw (p.1, p.2) (λ no. absurd {A = IsWorld g.D.Disk.state (g.P.Depot.state c.step.new.depot).is_out c.step.new.self.wire.nodes} (no refl))

-- ---- an event that sends too much

pub returns-in_err-add-clause-over : goal.returns-in_err-add-clause-over
returns-in_err-add-clause-over g c = λ input script told line left has spells.
    let p = err_from_is_err_and c.from_residual.result c.from_residual.ensures.1 in
    rw (p.1, p.2) (λ is. absurd cc)

pub returns-in_err-add-2-clause-over : goal.returns-in_err-add-2-clause-over
returns-in_err-add-2-clause-over g c = λ input script told line left has spells.
    let p = err_from_is_err_and c.from_residual-in_err-add-2.result c.from_residual-in_err-add-2.ensures.1 in
    rw (p.1, p.2) (row_not_sent script c.args.event.now c.in_err-add-2.field-0.0 (c.in_err-add-2.ensures.cause script has.rows))

pub returns-in_err-lines-clause-over : goal.returns-in_err-lines-clause-over
returns-in_err-lines-clause-over g c = λ input script told line left has spells.
    let p = err_from_is_err_and c.from_residual-in_err-lines.result c.from_residual-in_err-lines.ensures.1 in
    let state = g.D.Disk.state in
    let out = (g.P.Depot.state c.args.depot.now).is_out in
    let new = (g.P.Depot.state c.step.new.depot).is_out in
    let l = has.world in
    rw (p.1, p.2) (λ is. let sent = stops_sent c.in_err-lines.field-0.0 is in (
      event_is_next state input script told line c.args.self.now out left has c.requires.few c.args.event.now spells (c.in_ok-add-2.ensures.few script has.rows has.front.rows),
      run_over state script told c.args.self.now.names c.args.self.now.world out l g.D.Disk.images c.args.event.now c.step.new.self new c.requires.built c.requires.early
          (c.in_err-lines.ensures.over (net_from start l.run) (at_event state l.run c.args.self.now.names c.args.self.now.world out l.behind c.args.event.now c.requires.early) sent.0 sent.1),
    ))

pub returns-in_err-texts-clause-over : goal.returns-in_err-texts-clause-over
returns-in_err-texts-clause-over g c = λ input script told line left has spells.
    let p = err_from_is_err_and c.from_residual-in_err-texts.result c.from_residual-in_err-texts.ensures.1 in
    rw (p.1, p.2) (λ is. absurd cc)
