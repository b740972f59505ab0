-- What a log answers where its vault answers a fault.
use Rattle.vault.specs.declared.fault.VaultFault.{VaultFault}
use Rattle.vault.specs.declared.fault.VaultFault.TheVariants as vaults
use Rattle.status_log.specs.declared.fault.LogFault.{LogFault}
use Rattle.status_log.specs.declared.fault.LogFault.TheVariants.{Disk, Down, Memory}

abbrev pub fault_of : VaultFault → LogFault
fault_of vaults.Disk = Disk
fault_of vaults.Down = Down
fault_of vaults.Memory = Memory
