-- What a device answers where its vault answers a fault.
use Rattle.vault.specs.declared.fault.VaultFault.{VaultFault}
use Rattle.vault.specs.declared.fault.VaultFault.TheVariants as vaults
use Rattle.slot_store.specs.declared.fault.SlotFault.{SlotFault}
use Rattle.slot_store.specs.declared.fault.SlotFault.TheVariants.{Disk, Down, Memory}

abbrev pub fault_of : VaultFault → SlotFault
fault_of vaults.Disk = Disk
fault_of vaults.Down = Down
fault_of vaults.Memory = Memory
