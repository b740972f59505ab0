-- The names of the three faults are three, and `NoRow` is none of them.
use Rattle.std.proofs.Common.{◌≡◌}
use Rattle.vault.specs.declared.fault.VaultFault.{VaultFault}
use Rattle.vault.specs.declared.fault.VaultFault.TheVariants as vaults
use Rattle.vault.specs.Calls.{AreApart}
use Rattle.slot_store.specs.declared.fault.SlotFault.{SlotFault}
use Rattle.slot_store.specs.declared.fault.SlotFault.TheVariants.{NoRow}
use Rattle.slot_store.specs.Fault.{fault_of}

pub apart : AreApart fault_of
apart = record { down = λ same. cc; memory = λ same. cc; disk = λ same. cc }

pub no_row_apart : (f : VaultFault) → NoRow ≡ fault_of f → ⊥
no_row_apart vaults.Disk same = cc
no_row_apart vaults.Down same = cc
no_row_apart vaults.Memory same = cc
