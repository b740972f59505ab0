use Rattle.std.proofs.Common.{Some, None, sym, ap, ◌∙◌}
use Rattle.std.specs.Prelude.{slice_get, option_copied}
use Rattle.net_network.proofs.Sending.{there, nothing, read_whole}
use Rattle.net_network.proofs.network.Network.read.Goals as goal

pub returns-in_default : goal.returns-in_default
returns-in_default c ps sent h =
    nothing ps (slice_get sent c.args.number) (there c.args.self.now ps sent c.args.number None h (sym (ap option_copied c.in_default.is) ∙ c.get.ensures))

pub returns : goal.returns
returns c ps sent h =
    read_whole ps c.in-Some.packet.now (slice_get sent c.args.number) c.whole.result (c.whole.ensures ps)
    (there c.args.self.now ps sent c.args.number (Some c.in-Some.packet.now) h (sym (ap option_copied c.in-Some.is) ∙ c.get.ensures))
