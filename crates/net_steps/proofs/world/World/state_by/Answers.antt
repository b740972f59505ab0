use Rattle.std.proofs.Common.{sym, ◌∙◌}
use Rattle.net_steps.proofs.Stated.{kept_state, not_kept}
use Rattle.net_steps.proofs.world.World.state_by.Goals as goal

pub returns-then-owner-store : goal.returns-then-owner-store
returns-then-owner-store g c is_out n x = not_kept n.wire.world c.args.store c.args.table (λ own. c.if-owner-store.true (c.owner.ensures n.wire x.held.wire ∙ own))

pub returns : goal.returns
returns g c is_out n x =
    kept_state g.D.Disk.state is_out c.args.store c.args.table n c.args.self.now x (sym (c.owner.ensures n.wire x.held.wire) ∙ c.if-owner-store.false) c.table_state.result
    (c.table_state.ensures n.wire x.held.wire)
