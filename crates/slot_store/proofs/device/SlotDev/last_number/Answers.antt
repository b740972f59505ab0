use Rattle.std.proofs.Common.{◌≤◌, ℕ, sym, subst}
use Rattle.vault.specs.Standing.{payloads}
use Rattle.stab_base.specs.declared.limits.TheConstants.{NUMBER_MAX}
use Rattle.slot_store.specs.Standing.{vault_of}
use Rattle.slot_store.proofs.Keys.{all_kept}
use Rattle.slot_store.proofs.device.SlotDev.last_number.Goals as goal

pub returns-clause-greatest : goal.returns-clause-greatest
returns-clause-greatest g c up = sym (c.requires.ready up).memory.last

pub returns-clause-most : goal.returns-clause-most
returns-clause-most g c up =
    let ps = payloads g.D.Disk.state (vault_of c.args.self.now) in
    subst (λ (n : ℕ). n ≤ NUMBER_MAX) (c.requires.ready up).memory.last (all_kept ps).last
