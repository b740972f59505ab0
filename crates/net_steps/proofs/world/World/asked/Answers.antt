use Rattle.std.proofs.Common.{◌∙◌, ap}
use Rattle.gate_tables.specs.Gate as gate
use Rattle.net_steps.proofs.Handed.{same_message, no_message}
use Rattle.net_steps.proofs.world.World.asked.Goals as goal

pub returns-in-Some : goal.returns-in-Some
returns-in-Some g c v sent one gone stands way =
    c.asked_of.ensures ∙ ap gate.asked (same_message c.in-Some.message one.message (rw c.in-Some.is at (c.in_ok-message.ensures v sent one gone stands way)))

pub returns-in-None : goal.returns-in-None
returns-in-None g c v sent one gone stands way = no_message one.message (rw c.in-None.is at (c.in_ok-message.ensures v sent one gone stands way))
