-- A fault of the devices, and what is wrong with a content, as faults of the node.
use Rattle.row_value.specs.declared.fit.FitFault.{FitFault}
use Rattle.row_value.specs.declared.fit.FitFault.TheVariants as fits
use Rattle.client_journal.specs.declared.fault.JournalFault.{JournalFault}
use Rattle.client_journal.specs.declared.fault.JournalFault.TheVariants as journals
use Rattle.client_node.specs.declared.fault.CallFault.{CallFault}
use Rattle.client_node.specs.declared.fault.CallFault.TheVariants.{Busy, Spent, Disk, Memory}
use Rattle.client_node.specs.declared.fault.CallFault.TheVariants as call

abbrev pub fault_of : JournalFault → CallFault
fault_of (journals.Busy plan) = Busy plan
fault_of (journals.Spent last) = Spent last
fault_of journals.Disk = Disk
fault_of journals.Down = Disk
fault_of journals.Memory = Memory

abbrev pub fit_fault_of : FitFault → CallFault
fit_fault_of (fits.BadCell column) = call.BadCell column
fit_fault_of (fits.BadObject column len) = call.BadObject column len
fit_fault_of (fits.RowTooLarge len) = call.RowTooLarge len
fit_fault_of (fits.TooManyChunks count) = call.TooManyChunks count
