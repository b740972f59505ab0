use Rattle.net_network.proofs.Sending.{adds}
use Rattle.net_network.proofs.network.Network.push.Goals as goal

pub returns-clause-sent : goal.returns-clause-sent
returns-clause-sent c ps sent one h it same =
    adds c.args.self.now (record { packets = c.push.new.self; bytes = c.saturating_add-bytes.result }) ps sent c.args.packet one c.args.len h it same
    c.in_ok-push.ensures.items c.saturating_add-bytes.ensures c.if-bytes-gt-MOST_BYTES.false
