-- What a device answers where its vault answers a fault.
use Rattle.vault.specs.declared.fault.VaultFault.{VaultFault}
use Rattle.vault.specs.declared.fault.VaultFault.TheVariants as vaults
use Rattle.row_store.specs.declared.fault.RowFault.{RowFault}
use Rattle.row_store.specs.declared.fault.RowFault.TheVariants.{Disk, Down, Memory}

abbrev pub fault_of : VaultFault → RowFault
fault_of vaults.Disk = Disk
fault_of vaults.Down = Down
fault_of vaults.Memory = Memory
