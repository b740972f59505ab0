-- A fault of the devices as one of the node.
use Rattle.stab_base.specs.declared.limits.TheConstants.{NUMBER_MAX}
use Rattle.store_commit.specs.declared.fault.CommitFault.{CommitFault}
use Rattle.store_commit.specs.declared.fault.CommitFault.TheVariants as commits
use Rattle.store_node.specs.declared.fault.NodeFault.{NodeFault}
use Rattle.store_node.specs.declared.fault.NodeFault.TheVariants.{Busy, Spent, Disk, Memory}

abbrev pub fault_of : CommitFault → NodeFault
fault_of (commits.Busy version) = Busy version
fault_of commits.Spent = Spent NUMBER_MAX
fault_of commits.Disk = Disk
fault_of commits.Down = Disk
fault_of commits.Memory = Memory
