use Rattle.std.proofs.Common.{Bool, ◌&&◌, ap, refl, sym, ◌∙◌}
use Rattle.std.specs.Prelude.{not}
use Rattle.world_tables.specs.World.{hosted_by, is_at_work}
use Rattle.gated_tables.specs.Net.{is_shut}
use Rattle.net_steps.proofs.Stated.{none_kept, shut_by}
use Rattle.net_steps.proofs.world.World.is_shut.Goals as goal

pub returns-then-not-is_live : goal.returns-then-not-is_live
returns-then-not-is_live g c is_out n x =
    sym (ap (λ (live : Bool). not live && not c.is_busy.result) c.if-not-is_live.true)
    ∙ shut_by n c.args.store c.args.table c.in-Some.state (c.in-Some.ensures is_out n x) c.is_live.result c.is_busy.result c.is_live.ensures (c.is_busy.ensures n.wire x.held.wire)

pub returns-else-not-is_live : goal.returns-else-not-is_live
returns-else-not-is_live g c is_out n x =
    let busy = is_at_work n.wire.world c.args.table in
    ap not c.if-not-is_live.false ∙ (sym (ap (λ (live : Bool). not live && not busy) c.if-not-is_live.false)
    ∙ shut_by n c.args.store c.args.table c.in-Some.state (c.in-Some.ensures is_out n x) c.is_live.result busy c.is_live.ensures refl)

pub returns-in-None : goal.returns-in-None
returns-in-None g c is_out n x =
    let o = hosted_by n.wire.world c.args.store c.args.table in sym (ap is_shut (none_kept o (c.in-None.ensures is_out n x)))
