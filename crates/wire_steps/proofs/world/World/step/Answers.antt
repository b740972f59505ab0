use Rattle.std.proofs.Common.{suc, ◌+◌, arith, sym, refl}
use Rattle.table_model.specs.declared.event.Event.TheVariants as events
use Rattle.wire_tables.specs.Wire.{wire_step}
use Rattle.node_steps.specs.Fits.{IsOwn}
use Rattle.wire_steps.proofs.Stepped.{delivers, pulls, asks, is_own, event_stepped, event_over, event_limited, event_plans, plans_as, number_more, event_left, event_counted, own_left, ends_apart, own_apart}
use Rattle.wire_steps.proofs.Sounds.{reached_by, goes_on_sound}
use Rattle.wire_steps.proofs.world.World.step.Goals as goal

pub deliver-requires : goal.deliver-requires
deliver-requires g c = record { held = (c.requires.held.v, c.requires.held.reached, c.requires.held.held) }

pub pull-requires : goal.pull-requires
pull-requires g c = record { held = (c.requires.held.v, c.requires.held.reached, c.requires.held.held) }

pub ask-requires : goal.ask-requires
ask-requires g c = record { held = (c.requires.held.v, c.requires.held.reached, c.requires.held.held) }

pub carry_out-requires-clause-own : goal.carry_out-requires-clause-own
carry_out-requires-clause-own g c = is_own c.args.event.now (sym c.in-Other.ensures)

pub returns-in-Deliver-clause-done : goal.returns-in-Deliver-clause-done
returns-in-Deliver-clause-done g c v r h out =
    event_stepped g.D.Disk.state g.D.Disk.images v r (events.Deliver c.in-Deliver.packet) (λ lucks. refl) _ c.args.self.now c.deliver.new.self out
    c.args.event.now (delivers c.args.event.now c.in-Deliver.packet (sym c.in-Deliver.ensures)) c.deliver.result (c.deliver.ensures.done v r h)

pub returns-in-Deliver-clause-over : goal.returns-in-Deliver-clause-over
returns-in-Deliver-clause-over g c v r h out =
    event_over g.D.Disk.state g.D.Disk.images v r (events.Deliver c.in-Deliver.packet) (λ lucks. refl) _ c.args.self.now c.deliver.new.self out
    c.args.event.now (delivers c.args.event.now c.in-Deliver.packet (sym c.in-Deliver.ensures)) c.deliver.result (c.deliver.ensures.ends v r h)

pub returns-in-Deliver-clause-limit : goal.returns-in-Deliver-clause-limit
returns-in-Deliver-clause-limit g c v n r h below =
    event_limited n v.world (events.Deliver c.in-Deliver.packet) c.args.event.now (delivers c.args.event.now c.in-Deliver.packet (sym c.in-Deliver.ensures)) c.deliver.result
    (c.deliver.ensures.limit v n r h below)

pub returns-in-Deliver-clause-plans : goal.returns-in-Deliver-clause-plans
returns-in-Deliver-clause-plans g c v n r h below =
    event_plans g.D.Disk.state n v.world (events.Deliver c.in-Deliver.packet) c.args.event.now (delivers c.args.event.now c.in-Deliver.packet (sym c.in-Deliver.ensures)) c.deliver.new.self
    (plans_as g.D.Disk.state (suc (suc (suc n))) (3 + n) (omega arith) c.deliver.new.self (c.deliver.ensures.plans n below))

pub returns-in-Deliver-clause-left : goal.returns-in-Deliver-clause-left
returns-in-Deliver-clause-left g c v r h out =
    event_left g.D.Disk.state g.D.Disk.images v (wire_step v (events.Deliver c.in-Deliver.packet)) c.args.self.now c.deliver.new.self _ (events.Deliver c.in-Deliver.packet) c.args.event.now
    (delivers c.args.event.now c.in-Deliver.packet (sym c.in-Deliver.ensures)) (λ own. own) c.deliver.result (c.deliver.ensures.ends v r h)

pub returns-in-Deliver-clause-depot : goal.returns-in-Deliver-clause-depot
returns-in-Deliver-clause-depot g c =
    let x = c.requires.held in
    event_counted g.D.Disk.state g.D.Disk.images x.v (wire_step x.v (events.Deliver c.in-Deliver.packet)) c.args.self.now c.deliver.new.self _ c.deliver.result
    (c.deliver.ensures.ends x.v x.reached x.held)

pub returns-in-Pull-clause-done : goal.returns-in-Pull-clause-done
returns-in-Pull-clause-done g c v r h out =
    event_stepped g.D.Disk.state g.D.Disk.images v r (events.Pull c.in-Pull.client c.in-Pull.table) (λ lucks. refl) _ c.args.self.now c.pull.new.self out
    c.args.event.now (pulls c.args.event.now c.in-Pull.client c.in-Pull.table (sym c.in-Pull.ensures)) c.pull.result (c.pull.ensures.done v r h)

pub returns-in-Pull-clause-over : goal.returns-in-Pull-clause-over
returns-in-Pull-clause-over g c v r h out =
    event_over g.D.Disk.state g.D.Disk.images v r (events.Pull c.in-Pull.client c.in-Pull.table) (λ lucks. refl) _ c.args.self.now c.pull.new.self out
    c.args.event.now (pulls c.args.event.now c.in-Pull.client c.in-Pull.table (sym c.in-Pull.ensures)) c.pull.result (c.pull.ensures.ends v r h)

pub returns-in-Pull-clause-limit : goal.returns-in-Pull-clause-limit
returns-in-Pull-clause-limit g c v n r h below =
    event_limited n v.world (events.Pull c.in-Pull.client c.in-Pull.table) c.args.event.now (pulls c.args.event.now c.in-Pull.client c.in-Pull.table (sym c.in-Pull.ensures)) c.pull.result
    (number_more n v.world c.in-Pull.client c.pull.result (c.pull.ensures.limit v n r h below))

pub returns-in-Pull-clause-plans : goal.returns-in-Pull-clause-plans
returns-in-Pull-clause-plans g c v n r h below =
    event_plans g.D.Disk.state n v.world (events.Pull c.in-Pull.client c.in-Pull.table) c.args.event.now (pulls c.args.event.now c.in-Pull.client c.in-Pull.table (sym c.in-Pull.ensures)) c.pull.new.self
    (plans_as g.D.Disk.state (suc n) (1 + n) (omega arith) c.pull.new.self (c.pull.ensures.plans n below))

pub returns-in-Pull-clause-left : goal.returns-in-Pull-clause-left
returns-in-Pull-clause-left g c v r h out =
    event_left g.D.Disk.state g.D.Disk.images v (wire_step v (events.Pull c.in-Pull.client c.in-Pull.table)) c.args.self.now c.pull.new.self _ (events.Pull c.in-Pull.client c.in-Pull.table) c.args.event.now
    (pulls c.args.event.now c.in-Pull.client c.in-Pull.table (sym c.in-Pull.ensures)) (λ own. own) c.pull.result (c.pull.ensures.ends v r h)

pub returns-in-Pull-clause-depot : goal.returns-in-Pull-clause-depot
returns-in-Pull-clause-depot g c =
    let x = c.requires.held in
    event_counted g.D.Disk.state g.D.Disk.images x.v (wire_step x.v (events.Pull c.in-Pull.client c.in-Pull.table)) c.args.self.now c.pull.new.self _ c.pull.result
    (c.pull.ensures.ends x.v x.reached x.held)

pub returns-in-Other-clause-left : goal.returns-in-Other-clause-left
returns-in-Other-clause-left g c v r h out =
    own_left g.D.Disk.state v _ c.args.self.now c.carry_out.new.self c.args.event.now c.carry_out.result (c.carry_out.ensures.left v r h out)

pub returns-in-Deliver-clause-sound : goal.returns-in-Deliver-clause-sound
returns-in-Deliver-clause-sound g c run built h out =
    goes_on_sound g.D.Disk.state g.D.Disk.images run c.args.event.now built c.requires.built _ c.args.self.now c.deliver.new.self c.deliver.result
    (returns-in-Deliver-clause-done g c _ (reached_by run built) h out)

pub returns-in-Pull-clause-sound : goal.returns-in-Pull-clause-sound
returns-in-Pull-clause-sound g c run built h out =
    goes_on_sound g.D.Disk.state g.D.Disk.images run c.args.event.now built c.requires.built _ c.args.self.now c.pull.new.self c.pull.result
    (returns-in-Pull-clause-done g c _ (reached_by run built) h out)

pub returns-in-Other-clause-sound : goal.returns-in-Other-clause-sound
returns-in-Other-clause-sound g c run built h out =
    goes_on_sound g.D.Disk.state g.D.Disk.images run c.args.event.now built c.requires.built _ c.args.self.now c.carry_out.new.self c.carry_out.result
    (c.carry_out.ensures.done _ (reached_by run built) h out)

pub returns-in-Deliver-clause-apart : goal.returns-in-Deliver-clause-apart
returns-in-Deliver-clause-apart g c other =
    let x = c.requires.held in
    ends_apart g.D.Disk.state g.D.Disk.images x.v (wire_step x.v (events.Deliver c.in-Deliver.packet)) c.args.self.now c.deliver.new.self c.deliver.result
    (c.deliver.ensures.ends x.v x.reached x.held)

pub returns-in-Pull-clause-apart : goal.returns-in-Pull-clause-apart
returns-in-Pull-clause-apart g c other =
    let x = c.requires.held in
    ends_apart g.D.Disk.state g.D.Disk.images x.v (wire_step x.v (events.Pull c.in-Pull.client c.in-Pull.table)) c.args.self.now c.pull.new.self c.pull.result
    (c.pull.ensures.ends x.v x.reached x.held)

pub returns-in-Other-clause-apart : goal.returns-in-Other-clause-apart
returns-in-Other-clause-apart g c other = own_apart c.carry_out.result (IsOwn c.args.event.now) (is_own c.args.event.now (sym c.in-Other.ensures)) other

pub returns-in-Ask-clause-done : goal.returns-in-Ask-clause-done
returns-in-Ask-clause-done g c v r h out =
    event_stepped g.D.Disk.state g.D.Disk.images v r (events.Ask c.in-Ask.client c.in-Ask.table) (λ lucks. refl) _ c.args.self.now c.ask.new.self out
    c.args.event.now (asks c.args.event.now c.in-Ask.client c.in-Ask.table (sym c.in-Ask.ensures)) c.ask.result (c.ask.ensures.done v r h)

pub returns-in-Ask-clause-over : goal.returns-in-Ask-clause-over
returns-in-Ask-clause-over g c v r h out =
    event_over g.D.Disk.state g.D.Disk.images v r (events.Ask c.in-Ask.client c.in-Ask.table) (λ lucks. refl) _ c.args.self.now c.ask.new.self out
    c.args.event.now (asks c.args.event.now c.in-Ask.client c.in-Ask.table (sym c.in-Ask.ensures)) c.ask.result (c.ask.ensures.ends v r h)

pub returns-in-Ask-clause-limit : goal.returns-in-Ask-clause-limit
returns-in-Ask-clause-limit g c v n r h below =
    event_limited n v.world (events.Ask c.in-Ask.client c.in-Ask.table) c.args.event.now (asks c.args.event.now c.in-Ask.client c.in-Ask.table (sym c.in-Ask.ensures)) c.ask.result
    (number_more n v.world c.in-Ask.client c.ask.result (c.ask.ensures.limit v n r h below))

pub returns-in-Ask-clause-plans : goal.returns-in-Ask-clause-plans
returns-in-Ask-clause-plans g c v n r h below =
    event_plans g.D.Disk.state n v.world (events.Ask c.in-Ask.client c.in-Ask.table) c.args.event.now (asks c.args.event.now c.in-Ask.client c.in-Ask.table (sym c.in-Ask.ensures)) c.ask.new.self
    (plans_as g.D.Disk.state (suc n) (1 + n) (omega arith) c.ask.new.self (c.ask.ensures.plans n below))

pub returns-in-Ask-clause-left : goal.returns-in-Ask-clause-left
returns-in-Ask-clause-left g c v r h out =
    event_left g.D.Disk.state g.D.Disk.images v (wire_step v (events.Ask c.in-Ask.client c.in-Ask.table)) c.args.self.now c.ask.new.self _ (events.Ask c.in-Ask.client c.in-Ask.table) c.args.event.now
    (asks c.args.event.now c.in-Ask.client c.in-Ask.table (sym c.in-Ask.ensures)) (λ own. own) c.ask.result (c.ask.ensures.ends v r h)

pub returns-in-Ask-clause-depot : goal.returns-in-Ask-clause-depot
returns-in-Ask-clause-depot g c =
    let x = c.requires.held in
    event_counted g.D.Disk.state g.D.Disk.images x.v (wire_step x.v (events.Ask c.in-Ask.client c.in-Ask.table)) c.args.self.now c.ask.new.self _ c.ask.result
    (c.ask.ensures.ends x.v x.reached x.held)

pub returns-in-Ask-clause-sound : goal.returns-in-Ask-clause-sound
returns-in-Ask-clause-sound g c run built h out =
    goes_on_sound g.D.Disk.state g.D.Disk.images run c.args.event.now built c.requires.built _ c.args.self.now c.ask.new.self c.ask.result
    (returns-in-Ask-clause-done g c _ (reached_by run built) h out)

pub returns-in-Ask-clause-apart : goal.returns-in-Ask-clause-apart
returns-in-Ask-clause-apart g c other =
    let x = c.requires.held in
    ends_apart g.D.Disk.state g.D.Disk.images x.v (wire_step x.v (events.Ask c.in-Ask.client c.in-Ask.table)) c.args.self.now c.ask.new.self c.ask.result
    (c.ask.ensures.ends x.v x.reached x.held)
