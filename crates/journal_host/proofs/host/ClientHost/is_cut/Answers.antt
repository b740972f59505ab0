use Rattle.std.proofs.Common.{◌∙◌, ap}
use Rattle.std.specs.Prelude.{not}
use Rattle.journal_host.proofs.ReadyClients.{cut_there, not_cut}
use Rattle.journal_host.proofs.host.ClientHost.is_cut.Goals as goal

pub returns-in-Some : goal.returns-in-Some
returns-in-Some g c w h = ap not c.is_linked.ensures ∙ cut_there g.D.Disk.state w c.args.self.now c.args.client h c.in-Some.node.now c.in-Some.ensures.value

pub returns-in-None : goal.returns-in-None
returns-in-None g c w h = not_cut g.D.Disk.state w c.args.self.now c.args.client h c.in-None.ensures.value
