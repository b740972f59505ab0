use Rattle.std.proofs.Common.{◌∙◌}
use Rattle.net_network.proofs.Sending.{as_many}
use Rattle.net_network.proofs.network.Network.sent.Goals as goal

pub returns : goal.returns
returns c ps sent h = c.len.ensures ∙ (c.args.self.now.packets.ok.0 ∙ as_many ps c.args.self.now.packets.items sent h.kept)
