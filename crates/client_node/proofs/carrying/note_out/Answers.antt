use Rattle.std.proofs.Common.{sym, ◌∙◌}
use Rattle.std.proofs.lemmas.Result.{on_ok_weaker}
use Rattle.client_node.proofs.CarriedOut.{more_none, some_or_not}
use Rattle.client_node.proofs.carrying.note_out.Goals as goal

pub returns-then-is_some-clause-noted : goal.returns-then-is_some-clause-noted
returns-then-is_some-clause-noted c = on_ok_weaker c.note_out.result (λ noted some. noted) c.note_out.ensures.noted

pub returns-else-is_some-clause-more : goal.returns-else-is_some-clause-more
returns-else-is_some-clause-more c = more_none c.args.waiting.now

pub returns-else-is_some-clause-noted : goal.returns-else-is_some-clause-noted
returns-else-is_some-clause-noted c some = absurd (some_or_not c.args.change.now.slots.out (sym c.is_some.ensures ∙ c.if-is_some.false) some)
