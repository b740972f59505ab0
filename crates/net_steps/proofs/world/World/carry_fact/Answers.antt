use Rattle.std.proofs.Common.{ap, refl}
use Rattle.table_model.specs.declared.line.Fact.{Fact}
use Rattle.step_tables.specs.Facts.{FactLine}
use Rattle.step_tables.specs.Lines.{fact_of}
use Rattle.net_steps.proofs.Said.{line_walked}
use Rattle.net_steps.proofs.world.World.carry_fact.Goals as goal

pub returns-in-Sent-clause-walked : goal.returns-in-Sent-clause-walked
returns-in-Sent-clause-walked g c n v sent along has there =
    let it = c.in-Sent in
    line_walked n v.packets sent v (FactLine (fact_of c.args.fact)) it.packet it.from it.to it.name refl (ap (λ (f : Fact). FactLine (fact_of f)) it.is) there
    c.carry_sent.new.self.network c.args.told.now c.carry_sent.new.lines c.carry_sent.result
    (λ p at from to name. c.carry_sent.ensures.sent n v sent p along.wire along.devices has at from to name)
