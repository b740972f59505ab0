use Rattle.std.proofs.Common.{◌≡◌, true, false, sym, ◌∙◌}
use Rattle.std.proofs.lemmas.Result.{on_ok_weaker}
use Rattle.client_node.proofs.CarriedOut.{more_none}
use Rattle.client_node.proofs.carrying.note_ready.Goals as goal

pub returns-then-can_send-clause-noted : goal.returns-then-can_send-clause-noted
returns-then-can_send-clause-noted c = on_ok_weaker c.note_ready.result (λ noted can. noted) c.note_ready.ensures.noted

pub returns-else-can_send-clause-more : goal.returns-else-can_send-clause-more
returns-else-can_send-clause-more c = more_none c.args.waiting.now

pub returns-else-can_send-clause-noted : goal.returns-else-can_send-clause-noted
returns-else-can_send-clause-noted c can = absurd (let wrong : true ≡ false = sym can ∙ (sym c.can_send.ensures ∙ c.if-can_send.false) in cc)
