-- Why a call that may take memory was refused.
use Rattle.std.specs.Prelude.{◌≡◌, ◌⊎◌, Result, IfErr}
use Rattle.disk_trait.specs.Calls.{DiskState, IsCounted}
use Rattle.client_journal.specs.declared.devs.Journal.{Journal}
use Rattle.client_journal.specs.declared.fault.JournalFault.{JournalFault}
use Rattle.client_journal.specs.declared.fault.JournalFault.TheVariants.{Disk, Memory}
use Rattle.client_journal.specs.Standing.{all_faults}

-- Of devices that were up: a disk has failed, or memory was refused.
pub record HasCause {D T : Type 0} (state : D → DiskState) (old new : Journal D) (result : Result T JournalFault)
    : Type 0 where
  pub cause : IsCounted Disk (all_faults state old) (all_faults state new) result
  pub only : IfErr result (λ e. (e ≡ Disk) ⊎ (e ≡ Memory))
