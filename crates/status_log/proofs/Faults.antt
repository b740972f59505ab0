-- The names of the three faults are three, and `Pending` is none of them.
use Rattle.std.proofs.Common.{◌≡◌, ℕ}
use Rattle.vault.specs.declared.fault.VaultFault.{VaultFault}
use Rattle.vault.specs.declared.fault.VaultFault.TheVariants as vaults
use Rattle.vault.specs.Calls.{AreApart}
use Rattle.status_log.specs.declared.fault.LogFault.{LogFault}
use Rattle.status_log.specs.declared.fault.LogFault.TheVariants.{Pending}
use Rattle.status_log.specs.Fault.{fault_of}

pub apart : AreApart fault_of
apart = record { down = λ same. cc; memory = λ same. cc; disk = λ same. cc }

pub pending_apart : (version : ℕ) (f : VaultFault) → Pending version ≡ fault_of f → ⊥
pending_apart version vaults.Disk same = cc
pending_apart version vaults.Down same = cc
pending_apart version vaults.Memory same = cc
