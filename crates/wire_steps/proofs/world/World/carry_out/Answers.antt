use Rattle.std.proofs.Common.{◌≡◌, ◌⊎◌, refl, sym, ◌∙◌, subst}
use Rattle.std.proofs.lemmas.Result.{err_from_is_err_and}
use Rattle.world_laws.specs.Begun.{IsSingle}
use Rattle.node_steps.specs.declared.fault.WorldFault.TheVariants.{Depot as DepotFailed}
use Rattle.node_steps.specs.Holds as nodes_hold
use Rattle.wire_steps.specs.Steps.{IsUndone}
use Rattle.wire_steps.proofs.Answered.{plans_stay}
use Rattle.wire_steps.proofs.Started.{nodes_stand, own_reached, own_undone, own_not_over, own_limit, own_plans, carried_tells, carried_done, carried_over, sends_alone}
use Rattle.wire_steps.proofs.world.World.carry_out.Goals as goal

pub step-requires-clause-held : goal.step-requires-clause-held
step-requires-clause-held g c =
    subst (λ (n : _). nodes_hold.IsWorld g.D.Disk.state (g.P.Depot.state c.args.depot.now).is_out n) (sym c.forget.ensures.nodes)
    (nodes_stand g.D.Disk.state (g.P.Depot.state c.args.depot.now).is_out c.args.self.now c.requires.held)

pub returns-in_err-told-clause-over : goal.returns-in_err-told-clause-over
returns-in_err-told-clause-over g c v r h out =
    let p = err_from_is_err_and c.from_residual.result c.from_residual.ensures.1 in
    let k = c.forget.ensures.held v h in
    rw (p.1, p.2) (own_not_over g.D.Disk.state v c.args.event.now c.forget.new.self k.0 g.D.Disk.images (g.P.Depot.state c.step.new.depot).is_out c.args.self.now _ c.in_err-told.field-0.0
    (λ n below. c.in_err-told.ensures.limit v.world n (own_reached v r) k.0.nodes below))

pub returns-in_err-told-clause-limit : goal.returns-in_err-told-clause-limit
returns-in_err-told-clause-limit g c v n r h below =
    let p = err_from_is_err_and c.from_residual.result c.from_residual.ensures.1 in
    let k = c.forget.ensures.held v h in
    rw (p.1, p.2) (own_limit g.D.Disk.state v c.args.event.now c.forget.new.self k.0 n c.in_err-told.field-0.0
    (λ m least. c.in_err-told.ensures.limit v.world m (own_reached v r) k.0.nodes least)
    (plans_stay g.D.Disk.state n c.args.self.now.nodes c.forget.new.self.nodes c.forget.ensures.nodes below))

pub returns-in_err-told-clause-plans : goal.returns-in_err-told-clause-plans
returns-in_err-told-clause-plans g c v n r h below =
    own_plans g.D.Disk.state v.world c.args.event.now n c.step.new.self c.step.new.self c.requires.own refl
    (c.in_err-told.ensures.plans v.world n (own_reached v r) (c.forget.ensures.held v h).0.nodes
    (plans_stay g.D.Disk.state n c.args.self.now.nodes c.forget.new.self.nodes c.forget.ensures.nodes below))

pub returns-in_err-told-clause-left : goal.returns-in_err-told-clause-left
returns-in_err-told-clause-left g c v r h out =
    let p = err_from_is_err_and c.from_residual.result c.from_residual.ensures.1 in
    let k = c.forget.ensures.held v h in
    rw (p.1, p.2) (λ memory limit alone. own_undone g.D.Disk.state v c.args.event.now c.forget.new.self k.0 (g.P.Depot.state c.step.new.depot).is_out c.args.self.now c.forget.ensures.nodes
    c.step.new.self (c.in_err-told.ensures.left v.world (own_reached v r) k.0.nodes out memory alone))

pub returns-in_err-note-clause-plans : goal.returns-in_err-note-clause-plans
returns-in_err-note-clause-plans g c v n r h below =
    own_plans g.D.Disk.state v.world c.args.event.now n c.step.new.self c.note.new.self.nodes c.requires.own c.in_err-note.ensures.nodes
    (c.in_ok-told.ensures.plans v.world n (own_reached v r) (c.forget.ensures.held v h).0.nodes
    (plans_stay g.D.Disk.state n c.args.self.now.nodes c.forget.new.self.nodes c.forget.ensures.nodes below))

pub tell-requires : goal.tell-requires
tell-requires g c =
    let x = c.requires.held in
    let v = x.v in
    let r = own_reached v x.reached in
    let k = c.forget.ensures.held v x.held in
    record {
      told = carried_tells g.D.Disk.state g.D.Disk.images v r c.args.event.now c.requires.built c.requires.own (g.P.Depot.state c.step.new.depot).is_out c.args.self.now c.forget.new.self
          c.forget.ensures.nodes c.step.new.self c.note.new.self c.in_ok-told.told k.0 (c.in_ok-told.ensures.done v.world r k.0.nodes x.out) c.in_ok-note.ensures.nodes
          c.restarted-restarted.result (c.restarted-restarted.ensures v.world x.held.nodes) k.1 c.in_ok-note.ensures.notes;
    }

pub returns-clause-done : goal.returns-clause-done
returns-clause-done g c v reached h out =
    let r = own_reached v reached in
    let f = c.forget.ensures.held v h in
    let k = c.in_ok-told.ensures.done v.world r f.0.nodes out in
    let is = c.restarted-restarted.ensures v.world h.nodes in
    carried_done g.D.Disk.state g.D.Disk.images v r c.args.event.now c.requires.built c.requires.own (g.P.Depot.state c.step.new.depot).is_out c.args.self.now c.forget.new.self
    c.forget.ensures.nodes c.step.new.self c.note.new.self c.in_ok-told.told f.0 k c.in_ok-note.ensures.nodes c.restarted-restarted.result is f.1 c.in_ok-note.ensures.notes
    c.tell.new.self c.tell.ensures.nodes c.tell.result
    (c.tell.ensures.told (carried_tells g.D.Disk.state g.D.Disk.images v r c.args.event.now c.requires.built c.requires.own (g.P.Depot.state c.step.new.depot).is_out c.args.self.now
    c.forget.new.self c.forget.ensures.nodes c.step.new.self c.note.new.self c.in_ok-told.told f.0 k c.in_ok-note.ensures.nodes c.restarted-restarted.result is f.1 c.in_ok-note.ensures.notes))

pub returns-clause-over : goal.returns-clause-over
returns-clause-over g c v reached h out =
    let r = own_reached v reached in
    let f = c.forget.ensures.held v h in
    let k = c.in_ok-told.ensures.done v.world r f.0.nodes out in
    let is = c.restarted-restarted.ensures v.world h.nodes in
    carried_over g.D.Disk.state g.D.Disk.images v r c.args.event.now c.requires.built c.requires.own (g.P.Depot.state c.step.new.depot).is_out c.args.self.now c.forget.new.self
    c.forget.ensures.nodes c.step.new.self c.note.new.self c.in_ok-told.told f.0 k c.in_ok-note.ensures.nodes c.restarted-restarted.result is f.1 c.in_ok-note.ensures.notes
    c.tell.new.self c.tell.ensures.nodes c.tell.result
    (c.tell.ensures.over (carried_tells g.D.Disk.state g.D.Disk.images v r c.args.event.now c.requires.built c.requires.own (g.P.Depot.state c.step.new.depot).is_out c.args.self.now
    c.forget.new.self c.forget.ensures.nodes c.step.new.self c.note.new.self c.in_ok-told.told f.0 k c.in_ok-note.ensures.nodes c.restarted-restarted.result is f.1 c.in_ok-note.ensures.notes))

pub returns-clause-plans : goal.returns-clause-plans
returns-clause-plans g c v n r h below =
    own_plans g.D.Disk.state v.world c.args.event.now n c.step.new.self c.tell.new.self.nodes c.requires.own (c.tell.ensures.nodes ∙ c.in_ok-note.ensures.nodes)
    (c.in_ok-told.ensures.plans v.world n (own_reached v r) (c.forget.ensures.held v h).0.nodes
    (plans_stay g.D.Disk.state n c.args.self.now.nodes c.forget.new.self.nodes c.forget.ensures.nodes below))

pub returns-clause-left : goal.returns-clause-left
returns-clause-left g c v r h out =
    sends_alone (IsUndone g.D.Disk.state v (g.P.Depot.state c.step.new.depot).is_out c.args.self.now c.tell.new.self)
    (λ e. IsSingle c.args.event.now ⊎ (e ≡ DepotFailed)) c.tell.result c.tell.ensures.only
