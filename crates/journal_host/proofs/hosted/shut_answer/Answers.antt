use Rattle.std.proofs.Common.{sym, ◌∙◌}
use Rattle.std.specs.Prelude.{not}
use Rattle.step_tables.specs.Lines.{answer_of}
use Rattle.journal_host.proofs.Shut.{message_shut, call_shut}
use Rattle.journal_host.proofs.hosted.shut_answer.Goals as goal

pub returns-then-is_message : goal.returns-then-is_message
returns-then-is_message g c s o t =
    message_shut (not c.args.node.now.is_linked) s.agenda o c.args.request.now (answer_of c.unused_answer.result) (sym c.is_message.ensures ∙ c.if-is_message.true) (λ message. c.unused_answer.ensures s message t)

pub returns : goal.returns
returns g c s o t = call_shut (not c.args.node.now.is_linked) s.agenda o c.args.request.now (sym c.is_message.ensures ∙ c.if-is_message.false)
