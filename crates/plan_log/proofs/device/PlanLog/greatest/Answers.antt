use Rattle.std.proofs.Common.{◌≤◌, ℕ, sym, subst}
use Rattle.stab_base.specs.declared.limits.TheConstants.{NUMBER_MAX}
use Rattle.vault.specs.Standing.{payloads}
use Rattle.plan_log.specs.Standing.{vault_of}
use Rattle.plan_log.proofs.Journals.{journal_sound}
use Rattle.plan_log.proofs.device.PlanLog.greatest.Goals as goal

pub returns-clause-most : goal.returns-clause-most
returns-clause-most g c up =
    subst (λ (n : ℕ). n ≤ NUMBER_MAX) (sym (c.requires.ready up).memory.greatest) (journal_sound (payloads g.D.Disk.state (vault_of c.args.self.now))).most
