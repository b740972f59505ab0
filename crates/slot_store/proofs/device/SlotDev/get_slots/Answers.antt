use Rattle.std.proofs.Common.{◌≡◌, ◌≤◌, ℕ, List, [], length, get_or, Some, Ok, refl, sym, ◌∙◌, ap, subst}
use Rattle.std.proofs.lemmas.Option.{get_or_from_slice_get}
use Rattle.vault.specs.Limit.{payload_most}
use Rattle.vault.specs.Standing.{payloads}
use Rattle.std.proofs.lemmas.Result.{err_from_is_err_and}
use Rattle.vault.proofs.Devices.{reads_none, reads_failed, reads_short, reads_done}
use Rattle.slot_store.specs.declared.fault.SlotFault.TheVariants.{NoRow}
use Rattle.slot_store.specs.Fault.{fault_of}
use Rattle.slot_store.proofs.Faults.{apart, no_row_apart}
use Rattle.slot_store.specs.declared.held.RowKey.{RowKey}
use Rattle.slot_store.specs.declared.held.RowSlots.{RowSlots}
use Rattle.slot_store.specs.Reading.{row_in}
use Rattle.slot_store.specs.Data.{data_of}
use Rattle.slot_store.specs.Memory.{Fits, HasSpare, row_at, row_or}
use Rattle.slot_store.specs.Standing.{vault_of}
use Rattle.slot_store.proofs.Finds.{short_at, found_stands}
use Rattle.slot_store.proofs.device.SlotDev.get_slots.Goals as goal

pub returns-in_default-clause-reads : goal.returns-in_default-clause-reads
returns-in_default-clause-reads g c =
    reads_none g.D.Disk.state g.D.Disk.images Fits HasSpare data_of fault_of apart g.met.D.Disk.only_now c.args.self.now.inner c.args.self.now NoRow no_row_apart c.if-is_down.ensures
    (c.requires.ready c.if-is_down.ensures).vault

pub returns-in_err-read-clause-reads : goal.returns-in_err-read-clause-reads
returns-in_err-read-clause-reads g c =
    let p = err_from_is_err_and c.from_residual.result c.from_residual.ensures.1 in
    rw (p.1, p.2) (reads_failed g.D.Disk.state g.D.Disk.images Fits HasSpare data_of fault_of apart c.args.self.now.inner c.read.new.self c.args.self.now _ c.if-is_down.ensures
    c.in_err-read.field-0.0 c.in_err-read.ensures.reads)

pub returns-in_err-found-clause-reads : goal.returns-in_err-found-clause-reads
returns-in_err-found-clause-reads g c =
    let p = err_from_is_err_and c.from_residual-in_err-found.result c.from_residual-in_err-found.ensures.1 in
    rw (p.1, p.2) (reads_short g.D.Disk.state g.D.Disk.images Fits HasSpare data_of fault_of apart c.args.self.now.inner c.read.new.self c.args.self.now _ c.if-is_down.ensures
    c.in_ok-read.ensures.reads)

pub returns-clause-reads : goal.returns-clause-reads
returns-clause-reads g c = reads_done g.D.Disk.state g.D.Disk.images Fits HasSpare data_of fault_of apart c.args.self.now.inner c.read.new.self c.args.self.now _ c.if-is_down.ensures
    c.in_ok-found.found c.in_ok-read.ensures.reads

pub slots_in-requires : goal.slots_in-requires
slots_in-requires g c =
    let ps = payloads g.D.Disk.state (vault_of c.args.self.now) in
    let index = c.in-Some.index in
    let is = c.in-Some.ensures.place c.if-is_down.ensures in
    let found : get_or ps index [] ≡ c.deref.result.now = get_or_from_slice_get ps index c.read.new.self.found.items [] c.in_ok-read.ensures.payload ∙ sym c.deref.ensures.value in
    (row_at ps index, ap row_in (sym found) ∙ is.row)

pub returns-clause-row : goal.returns-clause-row
returns-clause-row g c =
    let ps = payloads g.D.Disk.state (vault_of c.args.self.now) in
    let index = c.in-Some.index in
    let is = c.in-Some.ensures.place c.if-is_down.ensures in
    let found : get_or ps index [] ≡ c.deref.result.now = get_or_from_slice_get ps index c.read.new.self.found.items [] c.in_ok-read.ensures.payload ∙ sym c.deref.ensures.value in
    let read : row_in (get_or ps index []) ≡ Ok c.in_ok-found.found = ap row_in found ∙ c.in_ok-found.ensures.row in
    let same : row_at ps index ≡ c.in_ok-found.found = ap row_or read in
    c.in-Some.ensures.some c.if-is_down.ensures ∙ ap (λ (s : RowSlots). Some s) same

pub returns-clause-short : goal.returns-clause-short
returns-clause-short g c =
    let ps = payloads g.D.Disk.state (vault_of c.args.self.now) in
    let index = c.in-Some.index in
    let is = c.in-Some.ensures.place c.if-is_down.ensures in
    let found : get_or ps index [] ≡ c.deref.result.now = get_or_from_slice_get ps index c.read.new.self.found.items [] c.in_ok-read.ensures.payload ∙ sym c.deref.ensures.value in
    let ready = c.requires.ready c.if-is_down.ensures in
    subst (λ (l : List ℕ). length l ≤ payload_most) (found ∙ sym c.in_ok-found.ensures.same) (short_at ps index ready.vault.ends.front.short is.within)

pub returns-clause-same : goal.returns-clause-same
returns-clause-same g c =
    let ps = payloads g.D.Disk.state (vault_of c.args.self.now) in
    let index = c.in-Some.index in
    let is = c.in-Some.ensures.place c.if-is_down.ensures in
    let found : get_or ps index [] ≡ c.deref.result.now = get_or_from_slice_get ps index c.read.new.self.found.items [] c.in_ok-read.ensures.payload ∙ sym c.deref.ensures.value in
    let read : row_in (get_or ps index []) ≡ Ok c.in_ok-found.found = ap row_in found ∙ c.in_ok-found.ensures.row in
    let same : row_at ps index ≡ c.in_ok-found.found = ap row_or read in
    let stands = found_stands ps c.args.table c.args.row.now c.in_ok-found.found (c.in-Some.ensures.some c.if-is_down.ensures ∙ ap (λ (s : RowSlots). Some s) same) in
    (sym (ap (λ (k : RowKey). k.table) stands.key), sym (ap (λ (k : RowKey). k.row) stands.key))
