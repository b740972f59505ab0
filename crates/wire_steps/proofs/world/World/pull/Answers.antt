use Rattle.std.proofs.Common.{◌∙◌, refl, sym}
use Rattle.table_model.specs.declared.event.Event.TheVariants as events
use Rattle.wire_tables.specs.Wire.{wire_step}
use Rattle.wire_steps.proofs.Answered.{comes_as, ends_as}
use Rattle.wire_steps.proofs.Pulled.{pulls_none}
use Rattle.wire_steps.proofs.world.World.pull.Goals as goal

pub pull_torn-requires : goal.pull_torn-requires
pull_torn-requires g c =
    let k = c.requires.held in
    record { held = (k.0, k.1, k.2, sym (c.is_client_ready.ensures k.0.world k.2.nodes) ∙ c.if-is_client_ready.true) }

pub returns-then-is_client_ready-clause-done : goal.returns-then-is_client_ready-clause-done
returns-then-is_client_ready-clause-done g c v r h = c.pull_torn.ensures.done v r h (sym (c.is_client_ready.ensures v.world h.nodes) ∙ c.if-is_client_ready.true)

pub returns-then-is_client_ready-clause-ends : goal.returns-then-is_client_ready-clause-ends
returns-then-is_client_ready-clause-ends g c v r h = c.pull_torn.ensures.ends v r h (sym (c.is_client_ready.ensures v.world h.nodes) ∙ c.if-is_client_ready.true)

pub returns-then-is_client_ready-clause-limit : goal.returns-then-is_client_ready-clause-limit
returns-then-is_client_ready-clause-limit g c v n r h below = c.pull_torn.ensures.limit v n r h below (sym (c.is_client_ready.ensures v.world h.nodes) ∙ c.if-is_client_ready.true)

pub ask-requires : goal.ask-requires
ask-requires g c = record { held = c.requires.held }

pub returns-clause-done : goal.returns-clause-done
returns-clause-done g c v r h =
    comes_as g.D.Disk.state g.D.Disk.images v v (wire_step v (events.Pull c.args.client c.args.table)) (wire_step v (events.Ask c.args.client c.args.table)) c.ask.result
    c.args.self.now c.args.self.now c.ask.new.self refl refl refl
    (pulls_none v c.args.client c.args.table (sym (c.is_client_ready.ensures v.world h.nodes) ∙ c.if-is_client_ready.false)) (c.ask.ensures.done v r h)

pub returns-clause-ends : goal.returns-clause-ends
returns-clause-ends g c v r h =
    ends_as g.D.Disk.state g.D.Disk.images v v (wire_step v (events.Pull c.args.client c.args.table)) (wire_step v (events.Ask c.args.client c.args.table)) c.ask.result
    c.args.self.now c.args.self.now c.ask.new.self refl refl
    (pulls_none v c.args.client c.args.table (sym (c.is_client_ready.ensures v.world h.nodes) ∙ c.if-is_client_ready.false)) (c.ask.ensures.ends v r h)
