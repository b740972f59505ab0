use Rattle.std.proofs.Common.{◌≡◌, ◌+◌, ◌++◌, ◌∷◌, [], length, refl, sym, ◌∙◌, ap, arith}
use Rattle.vault.specs.Standing.{payloads}
use Rattle.vault.proofs.Devices.{appends_as}
use Rattle.slot_store.specs.Fault.{fault_of}
use Rattle.slot_store.proofs.Faults.{apart}
use Rattle.slot_store.specs.Spelling.{row_payload}
use Rattle.slot_store.specs.Reading.{said_by, SaysRow}
use Rattle.slot_store.specs.Data.{SlotData, with_slots, data_of}
use Rattle.slot_store.specs.Memory.{Fits, HasSpare, shape_of}
use Rattle.slot_store.specs.Standing.{vault_of}
use Rattle.slot_store.proofs.Again.{says_row}
use Rattle.slot_store.proofs.Notes.{grown}
use Rattle.slot_store.proofs.device.SlotDev.put_slots.Goals as goal

pub append-requires-clause-change : goal.append-requires-clause-change
append-requires-clause-change g c =
    let says : said_by c.write_row.new.payload.items ≡ SaysRow c.args.row.now = ap said_by c.write_row.ensures.items ∙ says_row c.args.row.now c.requires.spelled in
    sym (ap shape_of says)

pub returns-clause-puts : goal.returns-clause-puts
returns-clause-puts g c =
    let old = c.args.self.now in
    let ps = payloads g.D.Disk.state (vault_of old) in
    let p = c.write_row.new.payload.items in
    let says : said_by c.write_row.new.payload.items ≡ SaysRow c.args.row.now = ap said_by c.write_row.ensures.items ∙ says_row c.args.row.now c.requires.spelled in
    let after : SlotData = with_slots (data_of ps) c.args.row.now in
    rw c.told.ensures (appends_as g.D.Disk.state g.D.Disk.images Fits HasSpare data_of fault_of apart old.inner (record old.inner { payload = c.write_row.new.payload }) c.append.new.self old _
    refl refl (omega (arith, c.write_row.ensures.capacity)) c.if-is_down.ensures
    (length (row_payload c.args.row.now)) after c.append.result (ap length c.write_row.ensures.items) (grown ps p (SaysRow c.args.row.now) says) c.append.ensures.appends)
