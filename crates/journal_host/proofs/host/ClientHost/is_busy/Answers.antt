use Rattle.std.proofs.Common.{◌∙◌}
use Rattle.journal_host.proofs.Clients.{found, busy_is}
use Rattle.journal_host.proofs.host.ClientHost.is_busy.Goals as goal

pub returns-in-Some : goal.returns-in-Some
returns-in-Some g c w h =
    let f = found g.D.Disk.state w c.args.self.now.clients c.args.client h.there c.in-Some.node.now c.in-Some.ensures.value in
    c.is_busy.ensures f.0 f.2.client ∙ busy_is w c.args.client f.0 f.1
