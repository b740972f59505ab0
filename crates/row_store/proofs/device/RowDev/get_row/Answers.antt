use Rattle.std.proofs.Common.{◌≡◌, ◌≤◌, ℕ, List, [], length, get_or, Some, Ok, sym, ◌∙◌, ap, subst}
use Rattle.std.proofs.lemmas.Option.{get_or_from_slice_get}
use Rattle.vault.specs.Limit.{payload_most}
use Rattle.vault.specs.Standing.{payloads}
use Rattle.std.proofs.lemmas.Result.{err_from_is_err_and}
use Rattle.vault.proofs.Devices.{reads_none, reads_failed, reads_short, reads_done}
use Rattle.row_store.specs.declared.fault.RowFault.TheVariants.{NoRow}
use Rattle.row_store.specs.Fault.{fault_of}
use Rattle.row_store.proofs.Faults.{apart, no_row_apart}
use Rattle.row_store.specs.declared.stored.StoredRow.{StoredRow}
use Rattle.row_store.specs.Reading.{row_in}
use Rattle.row_store.specs.Data.{data_of}
use Rattle.row_store.specs.Memory.{Fits, HasSpare, row_at, stored_or}
use Rattle.row_store.specs.Standing.{vault_of}
use Rattle.row_store.proofs.Found.{short_at}
use Rattle.row_store.proofs.device.RowDev.get_row.Goals as goal

pub returns-in_default-clause-reads : goal.returns-in_default-clause-reads
returns-in_default-clause-reads g c =
    reads_none g.D.Disk.state g.D.Disk.images Fits HasSpare data_of fault_of apart g.met.D.Disk.only_now c.args.self.now.inner c.args.self.now NoRow no_row_apart c.if-is_down.ensures (c.requires.ready c.if-is_down.ensures).vault

pub returns-in_err-read-clause-reads : goal.returns-in_err-read-clause-reads
returns-in_err-read-clause-reads g c =
    let p = err_from_is_err_and c.from_residual.result c.from_residual.ensures.1 in
    rw (p.1, p.2) (reads_failed g.D.Disk.state g.D.Disk.images Fits HasSpare data_of fault_of apart c.args.self.now.inner c.read.new.self c.args.self.now _ c.if-is_down.ensures c.in_err-read.field-0.0 c.in_err-read.ensures.reads)

pub returns-in_err-stored-clause-reads : goal.returns-in_err-stored-clause-reads
returns-in_err-stored-clause-reads g c =
    let p = err_from_is_err_and c.from_residual-in_err-stored.result c.from_residual-in_err-stored.ensures.1 in
    rw (p.1, p.2) (reads_short g.D.Disk.state g.D.Disk.images Fits HasSpare data_of fault_of apart c.args.self.now.inner c.read.new.self c.args.self.now _ c.if-is_down.ensures c.in_ok-read.ensures.reads)

pub returns-clause-reads : goal.returns-clause-reads
returns-clause-reads g c = reads_done g.D.Disk.state g.D.Disk.images Fits HasSpare data_of fault_of apart c.args.self.now.inner c.read.new.self c.args.self.now _ c.if-is_down.ensures c.in_ok-stored.stored c.in_ok-read.ensures.reads

pub stored_in-requires : goal.stored_in-requires
stored_in-requires g c =
    let ps = payloads g.D.Disk.state (vault_of c.args.self.now) in
    let place = c.in-Some.place in
    let is = c.in-Some.ensures.place c.if-is_down.ensures in
    let found : get_or ps place.index [] ≡ c.deref.result.now = get_or_from_slice_get ps place.index c.read.new.self.found.items [] c.in_ok-read.ensures.payload ∙ sym c.deref.ensures.value in
    (row_at ps place, ap row_in (sym found) ∙ is.row)

pub returns-clause-row : goal.returns-clause-row
returns-clause-row g c =
    let ps = payloads g.D.Disk.state (vault_of c.args.self.now) in
    let place = c.in-Some.place in
    let is = c.in-Some.ensures.place c.if-is_down.ensures in
    let found : get_or ps place.index [] ≡ c.deref.result.now = get_or_from_slice_get ps place.index c.read.new.self.found.items [] c.in_ok-read.ensures.payload ∙ sym c.deref.ensures.value in
    let read : row_in (get_or ps place.index []) ≡ Ok c.in_ok-stored.stored = ap row_in found ∙ c.in_ok-stored.ensures.row in
    let same : row_at ps place ≡ c.in_ok-stored.stored = ap stored_or read in
    c.in-Some.ensures.some c.if-is_down.ensures ∙ ap (λ (s : StoredRow). Some s) same

pub returns-clause-short : goal.returns-clause-short
returns-clause-short g c =
    let ps = payloads g.D.Disk.state (vault_of c.args.self.now) in
    let place = c.in-Some.place in
    let is = c.in-Some.ensures.place c.if-is_down.ensures in
    let found : get_or ps place.index [] ≡ c.deref.result.now = get_or_from_slice_get ps place.index c.read.new.self.found.items [] c.in_ok-read.ensures.payload ∙ sym c.deref.ensures.value in
    let ready = c.requires.ready c.if-is_down.ensures in
    subst (λ (l : List ℕ). length l ≤ payload_most) (found ∙ sym c.in_ok-stored.ensures.same) (short_at ps place.index ready.vault.ends.front.short is.within)
