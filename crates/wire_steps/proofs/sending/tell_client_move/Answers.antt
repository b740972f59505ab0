use Rattle.std.proofs.lemmas.Result.{on_ok_weaker}
use Rattle.journal_host.specs.Holds.{outbox_of}
use Rattle.world_tables.specs.World.{owner_of}
use Rattle.wire_steps.proofs.Sent.{told_one}
use Rattle.wire_steps.proofs.sending.tell_client_move.Goals as goal

pub returns-clause-told : goal.returns-clause-told
returns-clause-told g c w ps held h =
    on_ok_weaker c.send_all.result
    (λ k. told_one w ps (outbox_of (owner_of w) c.args.out) c.send_all.new.network c.args.lines.now c.tell_facts.new.lines c.send_all.new.lines c.in_ok-tell_facts.ensures.lines k)
    (c.send_all.ensures.sent w ps held h)
