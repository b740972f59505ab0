use Rattle.journal_host.proofs.ReadyClients.{ready_there, not_ready}
use Rattle.journal_host.proofs.host.ClientHost.is_ready.Goals as goal

pub returns-in-Some : goal.returns-in-Some
returns-in-Some g c w h = ready_there g.D.Disk.state w c.args.self.now c.args.client h c.in-Some.node.now c.in-Some.ensures.value c.is_ready.result c.is_ready.ensures

pub returns-in-None : goal.returns-in-None
returns-in-None g c w h = not_ready g.D.Disk.state w c.args.self.now c.args.client h c.in-None.ensures.value
