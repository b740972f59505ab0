use Rattle.std.proofs.Common.{◌≡◌, ◌+◌, ◌++◌, ◌∷◌, [], length, refl, sym, ◌∙◌, ap, arith}
use Rattle.vault.specs.Standing.{payloads}
use Rattle.vault.proofs.Devices.{appends_as}
use Rattle.slot_store.specs.Fault.{fault_of}
use Rattle.slot_store.proofs.Faults.{apart}
use Rattle.slot_store.specs.Spelling.{record_payload}
use Rattle.slot_store.specs.Reading.{said_by, SaysTable}
use Rattle.slot_store.specs.Data.{SlotData, with_record, data_of}
use Rattle.slot_store.specs.Memory.{Fits, HasSpare, shape_of}
use Rattle.slot_store.specs.Standing.{vault_of}
use Rattle.slot_store.proofs.Again.{says_table}
use Rattle.slot_store.proofs.Notes.{grown}
use Rattle.slot_store.proofs.device.SlotDev.put_record.Goals as goal

pub append-requires-clause-change : goal.append-requires-clause-change
append-requires-clause-change g c =
    let says : said_by c.write_record.new.payload.items ≡ SaysTable c.args.table.now = ap said_by c.write_record.ensures.items ∙ says_table c.args.table.now c.requires.spelled in
    sym (ap shape_of says)

pub returns-clause-puts : goal.returns-clause-puts
returns-clause-puts g c =
    let old = c.args.self.now in
    let ps = payloads g.D.Disk.state (vault_of old) in
    let p = c.write_record.new.payload.items in
    let says : said_by c.write_record.new.payload.items ≡ SaysTable c.args.table.now = ap said_by c.write_record.ensures.items ∙ says_table c.args.table.now c.requires.spelled in
    let after : SlotData = with_record (data_of ps) c.args.table.now in
    rw c.told.ensures (appends_as g.D.Disk.state g.D.Disk.images Fits HasSpare data_of fault_of apart old.inner (record old.inner { payload = c.write_record.new.payload }) c.append.new.self old _
    refl refl (omega (arith, c.write_record.ensures.capacity)) c.if-is_down.ensures
    (length (record_payload c.args.table.now)) after c.append.result (ap length c.write_record.ensures.items) (grown ps p (SaysTable c.args.table.now) says) c.append.ensures.appends)
