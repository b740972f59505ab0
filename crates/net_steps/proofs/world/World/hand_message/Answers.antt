use Rattle.std.proofs.lemmas.Result.{err_from_is_err_and}
use Rattle.table_model.specs.declared.event.Event.TheVariants as events
use Rattle.net_steps.proofs.Promised.{memory_ends}
use Rattle.net_steps.proofs.Handed.{that, gone, same_message, no_message, to_take, promised}
use Rattle.net_steps.proofs.world.World.hand_message.Goals as goal
use Rattle.std.proofs.Common.{refl}

pub take-requires-clause-here : goal.take-requires-clause-here
take-requires-clause-here g c =
    let n = c.requires.held.1 in
    let h = c.requires.held.2.held in
    let w = c.requires.way n h in
    let one = that g.D.Disk.state n c.args.number c.args.gate c.args.way c.args.self.now h c.requires.up c.requires.here w in (
      n,
      to_take g.D.Disk.state n c.args.number c.args.gate c.args.way c.args.self.now h c.requires.up c.requires.here w c.in-Some.message
          (same_message c.in-Some.message one.0.message
          (rw c.in-Some.is at (c.in_ok-message.ensures n.wire n.sent one.0 (gone g.D.Disk.state n c.args.number c.args.gate c.args.way c.args.self.now h c.requires.up c.requires.here w) one.1 one.2))),
    )

pub returns-in_err-message-clause-promises : goal.returns-in_err-message-clause-promises
returns-in_err-message-clause-promises g c is_out n b =
    let q = err_from_is_err_and c.from_residual.result c.from_residual.ensures.1 in
    rw q.1 (memory_ends g.D.Disk.state g.D.Disk.images g.met.D.Disk.only_now n (events.Deliver c.args.number) is_out c.args.self.now c.args.self.now b refl q.0 q.2)

pub returns-in_default-clause-promises : goal.returns-in_default-clause-promises
returns-in_default-clause-promises g c is_out n b =
    let w = c.requires.way n b.held in
    let one = that g.D.Disk.state n c.args.number c.args.gate c.args.way c.args.self.now b.held c.requires.up c.requires.here w in
    no_message one.0.message
    (rw c.in_default.is at (c.in_ok-message.ensures n.wire n.sent one.0 (gone g.D.Disk.state n c.args.number c.args.gate c.args.way c.args.self.now b.held c.requires.up c.requires.here w) one.1 one.2))

pub returns-clause-promises : goal.returns-clause-promises
returns-clause-promises g c is_out n b =
    let w = c.requires.way n b.held in
    let one = that g.D.Disk.state n c.args.number c.args.gate c.args.way c.args.self.now b.held c.requires.up c.requires.here w in
    let is = same_message c.in-Some.message one.0.message
    (rw c.in-Some.is at (c.in_ok-message.ensures n.wire n.sent one.0 (gone g.D.Disk.state n c.args.number c.args.gate c.args.way c.args.self.now b.held c.requires.up c.requires.here w) one.1 one.2)) in
    let x = to_take g.D.Disk.state n c.args.number c.args.gate c.args.way c.args.self.now b.held c.requires.up c.requires.here w c.in-Some.message is in
    promised g.D.Disk.state n c.args.number c.args.gate c.args.way c.args.self.now b.held c.requires.up c.requires.here w c.in-Some.message is g.D.Disk.images g.met.D.Disk.only_now is_out b
    c.take.new.self c.take.ensures.wire c.take.result (c.take.ensures.lines n x) (c.take.ensures.held n x) (c.take.ensures.over n x) (c.take.ensures.drawn n x) c.take.ensures.apart
