use Rattle.std.proofs.Common.{◌++◌, ◌∷◌, [], subst, ◌∙◌}
use Rattle.std.proofs.lemmas.Result.{err_from_is_err_and}
use Rattle.stab_base.specs.declared.node.Node.{Node}
use Rattle.stab_base.specs.declared.node.Node.TheVariants as nodes
use Rattle.gated_tables.specs.Net.{asks_for, device_at}
use Rattle.net_steps.specs.Carrying.{AreSent, IsOverFault}
use Rattle.net_steps.proofs.Requested.{memory_asks, sent_asks, unsent_asks}
use Rattle.net_steps.proofs.world.World.ask_for.Goals as goal

pub returns-in_err-lines : goal.returns-in_err-lines
returns-in_err-lines g c is_out n table x to =
    let p = err_from_is_err_and c.from_residual.result c.from_residual.ensures.1 in
    rw p.1 (memory_asks g.D.Disk.state g.D.Disk.images n (λ lucks. asks_for n c.args.client table (device_at n c.args.client) c.args.message.now) p.0 (p.2 ∙ c.in_err-lines.ensures.memory) is_out
    c.args.self.now)

pub returns-in_err-send : goal.returns-in_err-send
returns-in_err-send g c is_out n table x to =
    let p = err_from_is_err_and c.from_residual-in_err-send.result c.from_residual-in_err-send.ensures.1 in
    rw (p.1, p.2) (unsent_asks g.D.Disk.state g.D.Disk.images n g.met.D.Disk.only_now is_out c.args.client c.args.self.now x table c.args.message.now c.requires.short c.send.new.self
    c.in_err-send.ensures.same c.in_err-send.field-0.0 c.in_err-send.ensures.only
    (subst (λ (way : Node). IsOverFault (n.sent ++ record { from = nodes.Client c.args.client; to = way; message = c.args.message.now } ∷ []) c.in_err-send.field-0.0) to
    (c.in_err-send.ensures.over _ _ x.held.sent)))

pub returns : goal.returns
returns g c is_out n table x to =
    sent_asks g.D.Disk.state g.D.Disk.images n g.met.D.Disk.only_now is_out c.args.client c.args.self.now x table c.args.message.now c.requires.short c.send.new.self
    c.in_ok-send.ensures.same c.in_ok-lines.lines c.send.new.lines c.in_ok-lines.ensures.lines
    (subst (λ (way : Node). AreSent n.wire.packets n.sent (record { from = nodes.Client c.args.client; to = way; message = c.args.message.now } ∷ []) c.send.new.self.network c.in_ok-lines.lines c.send.new.lines) to
    (c.in_ok-send.ensures.sent _ _ x.held.sent))
