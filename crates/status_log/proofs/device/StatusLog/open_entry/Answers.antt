use Rattle.std.proofs.Common.{◌≡◌, ◌+◌, ◌++◌, ◌∷◌, [], List, ℕ, length, Some, refl, sym, ◌∙◌, ap, subst, arith}
use Rattle.vault.specs.Standing.{payloads}
use Rattle.status_log.specs.Entry.{entry_of, size_of}
use Rattle.status_log.specs.Payload.{opens, opening_of, pending_of}
use Rattle.status_log.specs.Memory.{Fits, HasSpare, IsOpening}
use Rattle.status_log.specs.Standing.{vault_of}
use Rattle.status_log.proofs.Again.{opens_again, is_opening}
use Rattle.status_log.proofs.Steps.{step_open}
use Rattle.status_log.specs.Fault.{fault_of}
use Rattle.status_log.proofs.Faults.{apart}
use Rattle.vault.proofs.Devices.{appends_as, refuses_written}
use Rattle.status_log.proofs.device.StatusLog.open_entry.Goals as goal

pub append-requires-clause-change : goal.append-requires-clause-change
append-requires-clause-change g c =
    let e = entry_of c.args.entry.now in
    subst (λ o. IsOpening c.write_open.new.payload.items o) (sym c.opening_of.ensures) (subst (λ (l : List ℕ). IsOpening l (opening_of e)) (sym c.write_open.ensures.items) (is_opening e c.requires.spelled))

pub returns-clause-opens : goal.returns-clause-opens
returns-clause-opens g c none =
    let old = c.args.self.now in
    let e = entry_of c.args.entry.now in
    let ps = payloads g.D.Disk.state (vault_of old) in
    let p = c.write_open.new.payload.items in
    let grown = step_open ps p e (ap opens c.write_open.ensures.items ∙ opens_again e c.requires.spelled) in
    rw c.told.ensures (appends_as g.D.Disk.state g.D.Disk.images Fits HasSpare pending_of fault_of apart old.inner (record old.inner { payload = c.write_open.new.payload }) c.append.new.self old _ refl refl (omega (arith, c.write_open.ensures.capacity)) c.if-is_down.ensures
    (size_of e) (Some e) c.append.result c.write_open.ensures.len grown c.append.ensures.appends)

pub returns-clause-refuses : goal.returns-clause-refuses
returns-clause-refuses g c =
    let old = c.args.self.now in
    rw c.told.ensures (refuses_written g.D.Disk.state fault_of apart old.inner.vault c.append.new.self.vault _ _ old _ c.if-is_down.ensures c.append.result c.append.ensures.appends.refuses)
