use Rattle.std.proofs.Common.{sym}
use Rattle.vault.specs.Standing.{payloads}
use Rattle.plan_log.specs.Standing.{vault_of}
use Rattle.plan_log.proofs.Notes.{plan_some}
use Rattle.plan_log.proofs.device.PlanLog.committed_plan.Goals as goal

pub returns-then-is_committed : goal.returns-then-is_committed
returns-then-is_committed g c up =
    let log = c.args.self.now in
    plan_some (payloads g.D.Disk.state (vault_of log)) log.inner.memory (c.requires.ready up).memory (sym c.if-is_committed.ensures)
