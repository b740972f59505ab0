use Rattle.std.proofs.Common.{◌≡◌, ◌≤◌, List, ℕ, [], length, get_or, drop, Some, refl, sym, ◌∙◌, ap, subst}
use Rattle.std.proofs.lemmas.Result.{err_from_is_err_and}
use Rattle.std.proofs.lemmas.Option.{get_or_from_slice_get}
use Rattle.vault.specs.Standing.{payloads}
use Rattle.vault.proofs.Devices.{reads_none, reads_failed, reads_short, reads_done}
use Rattle.chunk_store.specs.Payload.{chunks_of}
use Rattle.chunk_store.specs.Standing.{vault_of}
use Rattle.chunk_store.specs.Index.{IsIndex, HasSpare}
use Rattle.chunk_store.specs.Fault.{fault_of}
use Rattle.chunk_store.specs.declared.fault.ChunkFault.TheVariants.{Absent}
use Rattle.chunk_store.proofs.Faults.{apart, absent_apart}
use Rattle.chunk_store.proofs.device.ChunkDev.get.Goals as goal

pub returns-in_default-clause-reads : goal.returns-in_default-clause-reads
returns-in_default-clause-reads g c =
    reads_none g.D.Disk.state g.D.Disk.images IsIndex HasSpare chunks_of fault_of apart g.met.D.Disk.only_now c.args.self.now.inner c.args.self.now Absent absent_apart c.if-is_down.ensures (c.requires.ready c.if-is_down.ensures).vault

pub returns-in_err-read-clause-reads : goal.returns-in_err-read-clause-reads
returns-in_err-read-clause-reads g c =
    let p = err_from_is_err_and c.from_residual.result c.from_residual.ensures.1 in
    rw (p.1, p.2) (reads_failed g.D.Disk.state g.D.Disk.images IsIndex HasSpare chunks_of fault_of apart c.args.self.now.inner c.read.new.self c.args.self.now _ c.if-is_down.ensures c.in_err-read.field-0.0 c.in_err-read.ensures.reads)

pub returns-in_err-bytes-clause-reads : goal.returns-in_err-bytes-clause-reads
returns-in_err-bytes-clause-reads g c =
    let p = err_from_is_err_and c.from_residual-in_err-bytes.result c.from_residual-in_err-bytes.ensures.1 in
    rw (p.1, p.2) (reads_short g.D.Disk.state g.D.Disk.images IsIndex HasSpare chunks_of fault_of apart c.args.self.now.inner c.read.new.self c.args.self.now _ c.if-is_down.ensures c.in_ok-read.ensures.reads)

pub returns-clause-reads : goal.returns-clause-reads
returns-clause-reads g c = reads_done g.D.Disk.state g.D.Disk.images IsIndex HasSpare chunks_of fault_of apart c.args.self.now.inner c.read.new.self c.args.self.now _ c.if-is_down.ensures c.in_ok-bytes.bytes c.in_ok-read.ensures.reads

pub chunk_behind-requires : goal.chunk_behind-requires
chunk_behind-requires g c =
    let ps = payloads g.D.Disk.state (vault_of c.args.self.now) in
    let i = c.in-Some.place.index in
    let place = c.in-Some.ensures.place c.if-is_down.ensures in
    let found : get_or ps i [] ≡ c.deref.result.now = get_or_from_slice_get ps i c.read.new.self.found.items [] c.in_ok-read.ensures.payload ∙ sym c.deref.ensures.value in
    subst (λ (l : List ℕ). 13 ≤ length l) found place.long

pub returns-clause-chunk : goal.returns-clause-chunk
returns-clause-chunk g c =
    let ps = payloads g.D.Disk.state (vault_of c.args.self.now) in
    let i = c.in-Some.place.index in
    let found : get_or ps i [] ≡ c.deref.result.now = get_or_from_slice_get ps i c.read.new.self.found.items [] c.in_ok-read.ensures.payload ∙ sym c.deref.ensures.value in
    c.in-Some.ensures.some c.if-is_down.ensures ∙ ap (λ (l : List ℕ). Some l) (ap (λ (l : List ℕ). drop 13 l) found ∙ sym c.in_ok-bytes.ensures)
