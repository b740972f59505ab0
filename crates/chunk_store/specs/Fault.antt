-- What a device answers where its vault answers a fault.
use Rattle.vault.specs.declared.fault.VaultFault.{VaultFault}
use Rattle.vault.specs.declared.fault.VaultFault.TheVariants as vaults
use Rattle.chunk_store.specs.declared.fault.ChunkFault.{ChunkFault}
use Rattle.chunk_store.specs.declared.fault.ChunkFault.TheVariants.{Disk, Down, Memory}

abbrev pub fault_of : VaultFault → ChunkFault
fault_of vaults.Disk = Disk
fault_of vaults.Down = Down
fault_of vaults.Memory = Memory
