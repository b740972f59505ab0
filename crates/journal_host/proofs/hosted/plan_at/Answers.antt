use Rattle.std.proofs.Common.{sym, ◌∙◌}
use Rattle.journal_host.proofs.Clients.{busy_up}
use Rattle.journal_host.proofs.hosted.plan_at.Goals as goal

pub plan_at_work-requires-clause-up : goal.plan_at_work-requires-clause-up
plan_at_work-requires-clause-up g c =
    let n = c.requires in busy_up g.D.Disk.state c.args.node.now n.0.disk n.0.agenda n.1 (sym (c.is_busy.ensures n.0 n.1) ∙ c.if-is_busy.true)

pub returns-then-is_busy-clause-busy : goal.returns-then-is_busy-clause-busy
returns-then-is_busy-clause-busy g c s t = sym c.if-is_busy.true ∙ c.is_busy.ensures s t

pub returns-clause-busy : goal.returns-clause-busy
returns-clause-busy g c s t = sym c.if-is_busy.false ∙ c.is_busy.ensures s t
