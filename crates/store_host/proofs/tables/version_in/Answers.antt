use Rattle.std.proofs.Common.{sym, ◌∙◌}
use Rattle.store_host.proofs.Moving.{busy_up, next_version, no_version}
use Rattle.store_host.proofs.tables.version_in.Goals as goal

pub version_at_work-requires-clause-up : goal.version_at_work-requires-clause-up
version_at_work-requires-clause-up g c =
    let n = c.requires in busy_up g.D.Disk.state c.args.node.now n.0.disk n.0.agenda n.1 (sym (c.is_busy.ensures n.0 n.1) ∙ c.if-is_busy.true)

pub returns-then-is_busy : goal.returns-then-is_busy
returns-then-is_busy g c s t =
    next_version s.disk s.agenda c.version_at_work.result (c.version_at_work.ensures s t (sym (c.is_busy.ensures s t) ∙ c.if-is_busy.true))

pub returns : goal.returns
returns g c s t = no_version s.disk s.agenda (sym (c.is_busy.ensures s t) ∙ c.if-is_busy.false)
