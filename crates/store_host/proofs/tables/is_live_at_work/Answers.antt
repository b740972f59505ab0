use Rattle.std.proofs.Common.{Bool, Some, sym, ap, ◌∙◌}
use Rattle.std.specs.Prelude.{◌&&◌}
use Rattle.world_tables.specs.World.{is_live, hosted_at, is_at_work}
use Rattle.store_host.proofs.Maps.{found, not_found}
use Rattle.store_host.proofs.Moving.{at_work_is}
use Rattle.store_host.proofs.tables.is_live_at_work.Goals as goal

pub returns-in-Some : goal.returns-in-Some
returns-in-Some g c w h =
    let f = found g.D.Disk.state w c.args.tables.now c.args.table c.in-Some.hosted.now h c.in-Some.ensures.value in
    c.is_live_at_work.ensures f.0.store f.2.node
    ∙ (ap (λ (b : Bool). is_live (Some f.0) && b) (sym (at_work_is w c.args.table f.0 f.1))
    ∙ ap (λ o. is_live o && is_at_work w c.args.table) (sym f.1))

pub returns-in-None : goal.returns-in-None
returns-in-None g c w h =
    ap (λ o. is_live o && is_at_work w c.args.table) (sym (not_found g.D.Disk.state w c.args.tables.now c.args.table h c.in-None.ensures.value))
