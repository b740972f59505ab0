use Rattle.std.proofs.Common.{sym, ◌∙◌, ap}
use Rattle.store_host.specs.Calls.{state_at}
use Rattle.store_host.proofs.Maps.{found, not_found}
use Rattle.store_host.proofs.host.StoreHost.table_state.Goals as goal

pub returns-in-Some : goal.returns-in-Some
returns-in-Some g c w h =
    let f = found g.D.Disk.state w c.args.self.now.tables c.args.table c.in-Some.hosted.now h.tables c.in-Some.ensures.value in
    c.state.ensures f.0.store f.2.node ∙ ap state_at (sym f.1)

pub returns-in-None : goal.returns-in-None
returns-in-None g c w h = sym (ap state_at (not_found g.D.Disk.state w c.args.self.now.tables c.args.table h.tables c.in-None.ensures.value))
