use Rattle.std.proofs.Common.{◌≡◌, ◌≤◌, ◌*◌, length, ap, arith}
use Rattle.std.specs.Prelude.{sum_by}
use Rattle.std.proofs.lemmas.Result.{err_from_is_err_and}
use Rattle.client_journal.proofs.Prepared.{bytes_few}
use Rattle.client_journal.proofs.Waiting.{waits_then}
use Rattle.client_journal.proofs.devs.Journal.reserve_for.Goals as goal

pub bytes_of-requires : goal.bytes_of-requires
bytes_of-requires g c =
    let brought = c.args.made.now.brought.items in
    let small : sum_by length brought ≤ 65536 * length brought = bytes_few brought c.requires.made.chunks in
    rw c.deref.ensures.value (omega (arith, small, c.requires.made.few))

pub overflow_add-puts-2 : goal.overflow_add-puts-2
overflow_add-puts-2 g c =
    let brought = c.args.made.now.brought.items in
    let small : sum_by length brought ≤ 65536 * length brought = bytes_few brought c.requires.made.chunks in
    let same : sum_by length c.deref.result.now ≡ sum_by length brought = ap (λ l. sum_by length l) c.deref.ensures.value in
    omega (arith, small, same, c.requires.made.few, c.bytes_of.ensures, c.len.ensures, c.len-2.ensures)

pub reserve_chunks-requires-clause-bytes : goal.reserve_chunks-requires-clause-bytes
reserve_chunks-requires-clause-bytes g c =
    let brought = c.args.made.now.brought.items in
    let small : sum_by length brought ≤ 65536 * length brought = bytes_few brought c.requires.made.chunks in
    let same : sum_by length c.deref.result.now ≡ sum_by length brought = ap (λ l. sum_by length l) c.deref.ensures.value in
    omega (arith, small, same, c.bytes_of.ensures, c.len.ensures, c.len-2.ensures)

pub returns-in_err-reserve_slots-clause-waits : goal.returns-in_err-reserve_slots-clause-waits
returns-in_err-reserve_slots-clause-waits g c =
    let p = err_from_is_err_and c.from_residual-in_err-reserve_slots.result c.from_residual-in_err-reserve_slots.ensures.1 in
    rw (p.1, p.2) (waits_then g.D.Disk.state g.D.Disk.images c.args.self.now c.reserve_chunks.new.self c.reserve_slots.new.self _ (λ is. cc) c.in_ok-reserve_chunks.ensures.waits _ c.in_err-reserve_slots.ensures.waits)

pub returns-clause-waits : goal.returns-clause-waits
returns-clause-waits g c =
    let two = waits_then g.D.Disk.state g.D.Disk.images c.args.self.now c.reserve_chunks.new.self c.reserve_slots.new.self _ (λ is. cc) c.in_ok-reserve_chunks.ensures.waits _ c.in_ok-reserve_slots.ensures.waits in
    waits_then g.D.Disk.state g.D.Disk.images c.args.self.now c.reserve_slots.new.self c.reserve_journal.new.self _ (λ is. cc) two _ c.reserve_journal.ensures.waits
