use Rattle.std.proofs.Common.{sym, ◌∙◌}
use Rattle.step_tables.specs.Lines.{answer_of}
use Rattle.journal_host.proofs.Shut.{used_none, used_offline}
use Rattle.journal_host.proofs.hosted.unused_answer.Goals as goal

pub returns-then-is_linked : goal.returns-then-is_linked
returns-then-is_linked g c s message t =
    used_none c.args.node.now.is_linked s.agenda message (answer_of c.idle_answer.result) (sym c.is_linked.ensures ∙ c.if-is_linked.true) (c.idle_answer.ensures s t)

pub returns : goal.returns
returns g c s message t = used_offline c.args.node.now.is_linked s.agenda message (sym c.is_linked.ensures ∙ c.if-is_linked.false)
