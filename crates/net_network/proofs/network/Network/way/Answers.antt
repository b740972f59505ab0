use Rattle.std.proofs.Common.{Some, None, sym, ap, ◌∙◌}
use Rattle.std.specs.Prelude.{slice_get, option_copied}
use Rattle.net_network.proofs.Sending.{there, no_way, has_way, by_way}
use Rattle.net_network.proofs.network.Network.way.Goals as goal

pub returns-in_err-packet-clause-way : goal.returns-in_err-packet-clause-way
returns-in_err-packet-clause-way c ps sent h =
    no_way ps c.from_residual.result (slice_get sent c.args.number) (there c.args.self.now ps sent c.args.number None h (sym (ap option_copied c.in_err-packet.was) ∙ c.get.ensures))
    c.from_residual.ensures

pub returns-in_err-packet-clause-part : goal.returns-in_err-packet-clause-part
returns-in_err-packet-clause-part c ps sent h = by_way ps c.from_residual.result (slice_get sent c.args.number) (returns-in_err-packet-clause-way c ps sent h)

pub returns-clause-way : goal.returns-clause-way
returns-clause-way c ps sent h =
    has_way ps c.in_ok-packet.packet.now c.part.result (slice_get sent c.args.number) (c.part.ensures ps)
    (there c.args.self.now ps sent c.args.number (Some c.in_ok-packet.packet.now) h (sym (ap option_copied c.in_ok-packet.was) ∙ c.get.ensures))

pub returns-clause-part : goal.returns-clause-part
returns-clause-part c ps sent h =
    by_way ps (Some (record { from = c.in_ok-packet.packet.now.from; to = c.in_ok-packet.packet.now.to; part = c.part.result })) (slice_get sent c.args.number) (returns-clause-way c ps sent h)
