-- What a vault answers where its disk makes no room.
use Rattle.disk_trait.specs.declared.disk.RoomFault.{RoomFault}
use Rattle.disk_trait.specs.declared.disk.RoomFault.TheVariants as room
use Rattle.vault.specs.declared.fault.VaultFault.{VaultFault}
use Rattle.vault.specs.declared.fault.VaultFault.TheVariants.{Disk, Memory}

abbrev pub fault_of : RoomFault → VaultFault
fault_of room.Failed = Disk
fault_of room.Memory = Memory
