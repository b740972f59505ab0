use Rattle.std.proofs.Common.{◌∙◌, refl, sym}
use Rattle.table_model.specs.declared.event.Event.TheVariants as events
use Rattle.wire_tables.specs.Wire.{wire_step, arriving_at}
use Rattle.wire_steps.specs.Calls.{pull_step}
use Rattle.wire_steps.proofs.Answered.{comes_as, ends_as}
use Rattle.wire_steps.proofs.Pulled.{none_asked, pulls_torn, torn_pull}
use Rattle.wire_steps.proofs.Viewed.{client_up}
use Rattle.wire_steps.proofs.world.World.pull_torn.Goals as goal

pub pull_rows-requires-clause-held : goal.pull_rows-requires-clause-held
pull_rows-requires-clause-held g c =
    let k = c.requires.held in
    let keeps = k.2.memory.arrives c.args.client (client_up k.0.world c.args.client k.3) in
    torn_pull g.D.Disk.state k.0 k.1 c.args.self.now k.2 c.args.client c.args.table k.3 c.ask.new.arriving (c.in_ok-asked.ensures.kept (arriving_at k.0 c.args.client) keeps)
    c.in_ok-asked.ensures.others

pub pull_rows-requires-clause-none : goal.pull_rows-requires-clause-none
pull_rows-requires-clause-none g c none =
    let k = c.requires.held in
    let keeps = k.2.memory.arrives c.args.client (client_up k.0.world c.args.client k.3) in
    let asks = c.in_ok-asked.ensures.asks (arriving_at k.0 c.args.client) keeps in
    c.from_vec-tears.ensures ∙ (asks.tears ∙ none_asked c.args.table (arriving_at k.0 c.args.client) (sym asks.whole ∙ (sym c.from_vec-asks.ensures ∙ none)))

pub returns-clause-done : goal.returns-clause-done
returns-clause-done g c v r h ready =
    let keeps = h.memory.arrives c.args.client (client_up v.world c.args.client ready) in
    let asks = c.in_ok-asked.ensures.asks (arriving_at v c.args.client) keeps in
    let x = torn_pull g.D.Disk.state v r c.args.self.now h c.args.client c.args.table ready c.ask.new.arriving (c.in_ok-asked.ensures.kept (arriving_at v c.args.client) keeps)
    c.in_ok-asked.ensures.others in
    comes_as g.D.Disk.state g.D.Disk.images v x.kept (wire_step v (events.Pull c.args.client c.args.table)) (pull_step x.kept c.args.client c.args.table c.from_vec-tears.result c.from_vec-asks.result)
    c.pull_rows.result c.args.self.now _ c.pull_rows.new.self refl refl refl
    (λ lucks. pulls_torn v c.args.client c.args.table lucks ready c.from_vec-tears.result c.from_vec-asks.result (c.from_vec-tears.ensures ∙ asks.tears) (c.from_vec-asks.ensures ∙ asks.whole))
    (c.pull_rows.ensures.done x)

pub returns-clause-ends : goal.returns-clause-ends
returns-clause-ends g c v r h ready =
    let keeps = h.memory.arrives c.args.client (client_up v.world c.args.client ready) in
    let asks = c.in_ok-asked.ensures.asks (arriving_at v c.args.client) keeps in
    let x = torn_pull g.D.Disk.state v r c.args.self.now h c.args.client c.args.table ready c.ask.new.arriving (c.in_ok-asked.ensures.kept (arriving_at v c.args.client) keeps)
    c.in_ok-asked.ensures.others in
    ends_as g.D.Disk.state g.D.Disk.images v x.kept (wire_step v (events.Pull c.args.client c.args.table)) (pull_step x.kept c.args.client c.args.table c.from_vec-tears.result c.from_vec-asks.result)
    c.pull_rows.result c.args.self.now _ c.pull_rows.new.self refl refl
    (λ lucks. pulls_torn v c.args.client c.args.table lucks ready c.from_vec-tears.result c.from_vec-asks.result (c.from_vec-tears.ensures ∙ asks.tears) (c.from_vec-asks.ensures ∙ asks.whole))
    (c.pull_rows.ensures.ends x)

pub returns-clause-limit : goal.returns-clause-limit
returns-clause-limit g c v n r h below ready =
    let keeps = h.memory.arrives c.args.client (client_up v.world c.args.client ready) in
    c.pull_rows.ensures.limit
    (torn_pull g.D.Disk.state v r c.args.self.now h c.args.client c.args.table ready c.ask.new.arriving (c.in_ok-asked.ensures.kept (arriving_at v c.args.client) keeps)
    c.in_ok-asked.ensures.others) n below
