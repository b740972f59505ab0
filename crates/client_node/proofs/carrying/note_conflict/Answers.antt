use Rattle.std.proofs.Common.{sym, ◌∙◌}
use Rattle.std.proofs.lemmas.Result.{on_ok_weaker}
use Rattle.client_node.proofs.CarriedOut.{more_none, some_or_not}
use Rattle.client_node.proofs.carrying.note_conflict.Goals as goal

pub returns-then-is_some-clause-noted : goal.returns-then-is_some-clause-noted
returns-then-is_some-clause-noted c = on_ok_weaker c.note_conflict.result (λ noted some. noted) c.note_conflict.ensures.noted

pub returns-else-is_some-clause-more : goal.returns-else-is_some-clause-more
returns-else-is_some-clause-more c = more_none c.args.waiting.now

pub returns-else-is_some-clause-noted : goal.returns-else-is_some-clause-noted
returns-else-is_some-clause-noted c some = absurd (some_or_not c.args.change.now.slots.conflict (sym c.is_some.ensures ∙ c.if-is_some.false) some)

pub returns-then-is_some-clause-sized : goal.returns-then-is_some-clause-sized
returns-then-is_some-clause-sized c some = c.note_conflict.ensures.sized

pub returns-else-is_some-clause-sized : goal.returns-else-is_some-clause-sized
returns-else-is_some-clause-sized c some = absurd (some_or_not c.args.change.now.slots.conflict (sym c.is_some.ensures ∙ c.if-is_some.false) some)
