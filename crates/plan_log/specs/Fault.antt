-- What a journal answers where its vault answers a fault.
use Rattle.vault.specs.declared.fault.VaultFault.{VaultFault}
use Rattle.vault.specs.declared.fault.VaultFault.TheVariants as vaults
use Rattle.plan_log.specs.declared.fault.PlanFault.{PlanFault}
use Rattle.plan_log.specs.declared.fault.PlanFault.TheVariants.{Disk, Down, Memory}

abbrev pub fault_of : VaultFault → PlanFault
fault_of vaults.Disk = Disk
fault_of vaults.Down = Down
fault_of vaults.Memory = Memory
