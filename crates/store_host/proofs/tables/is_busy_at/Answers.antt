use Rattle.std.proofs.Common.{sym, ◌∙◌}
use Rattle.store_host.proofs.Maps.{found}
use Rattle.store_host.proofs.Moving.{at_work_is}
use Rattle.store_host.proofs.tables.is_busy_at.Goals as goal

pub returns-in-Some : goal.returns-in-Some
returns-in-Some g c w h =
    let f = found g.D.Disk.state w c.args.tables.now c.args.table c.in-Some.hosted.now h c.in-Some.ensures.value in
    c.is_busy.ensures f.0.store f.2.node ∙ sym (at_work_is w c.args.table f.0 f.1)
