use Rattle.std.proofs.Common.{◌+◌, ◌++◌, ◌∷◌, [], length, None, refl, ◌∙◌, ap, arith}
use Rattle.vault.specs.Standing.{payloads}
use Rattle.status_log.specs.Payload.{opens, closes, pending_of}
use Rattle.status_log.specs.Memory.{Fits, HasSpare}
use Rattle.status_log.specs.Standing.{vault_of}
use Rattle.status_log.proofs.Again.{closes_again, opens_not}
use Rattle.status_log.specs.Fault.{fault_of}
use Rattle.status_log.proofs.Faults.{apart}
use Rattle.vault.proofs.Devices.{appends_as}
use Rattle.status_log.proofs.Held.{held_within, held_closed}
use Rattle.status_log.proofs.device.StatusLog.close_entry.Goals as goal

pub append-requires-clause-change : goal.append-requires-clause-change
append-requires-clause-change g c =
    let old = c.args.self.now in
    let up = c.if-is_down.ensures in
    let version = old.inner.memory.entry.version in
    let within = held_within old.inner.memory (payloads g.D.Disk.state (vault_of old)) (c.requires.ready up).memory (c.requires.pending up) in
    (ap opens c.write_close.ensures.items ∙ opens_not version within, ap closes c.write_close.ensures.items ∙ closes_again version within)

pub returns : goal.returns
returns g c =
    let old = c.args.self.now in
    let up = c.if-is_down.ensures in
    let ps = payloads g.D.Disk.state (vault_of old) in
    let p = c.write_close.new.payload.items in
    let grown = held_closed old.inner.memory ps (c.requires.ready up).memory (c.requires.pending up) p c.write_close.ensures.items in
    rw c.told.ensures (appends_as g.D.Disk.state g.D.Disk.images Fits HasSpare pending_of fault_of apart old.inner (record old.inner { payload = c.write_close.new.payload }) c.append.new.self old _ refl refl (omega (arith, c.write_close.ensures.capacity)) up
    9 None c.append.result c.write_close.ensures.len grown c.append.ensures.appends)
