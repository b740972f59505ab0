use Rattle.net_network.proofs.Framing.{short_frame}
use Rattle.net_network.proofs.widths.know_frame.Goals as goal

pub returns : goal.returns
returns c h = short_frame c.args.message.now c.know_widths.ensures h
