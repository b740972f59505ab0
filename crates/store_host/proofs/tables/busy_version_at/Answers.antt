use Rattle.std.proofs.Common.{sym, ap, ◌∙◌}
use Rattle.store_host.specs.Calls.{busy_version}
use Rattle.store_host.proofs.Maps.{found, not_found, found_node}
use Rattle.store_host.proofs.tables.busy_version_at.Goals as goal

pub version_in-requires : goal.version_in-requires
version_in-requires g c = found_node g.D.Disk.state c.args.tables.now c.args.table c.in-Some.hosted.now c.requires c.in-Some.ensures.value

pub returns-in-Some : goal.returns-in-Some
returns-in-Some g c w h =
    let f = found g.D.Disk.state w c.args.tables.now c.args.table c.in-Some.hosted.now h c.in-Some.ensures.value in
    c.version_in.ensures f.0.store f.2.node ∙ sym (ap busy_version f.1)

pub returns-in-None : goal.returns-in-None
returns-in-None g c w h = sym (ap busy_version (not_found g.D.Disk.state w c.args.tables.now c.args.table h c.in-None.ensures.value))
