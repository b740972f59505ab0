use Rattle.std.proofs.Common.{◌≡◌, length, refl, sym, ◌∙◌, ap, arith}
use Rattle.vault.specs.Standing.{payloads}
use Rattle.vault.proofs.Devices.{appends_as}
use Rattle.row_store.specs.Fault.{fault_of}
use Rattle.row_store.proofs.Faults.{apart}
use Rattle.row_store.specs.Spelling.{row_payload}
use Rattle.row_store.specs.Reading.{said_by, SaysRow}
use Rattle.row_store.specs.Data.{TableData, with_row, data_of}
use Rattle.row_store.specs.Memory.{Fits, HasSpare, shape_of}
use Rattle.row_store.specs.Standing.{vault_of}
use Rattle.row_store.proofs.Again.{says_row}
use Rattle.row_store.proofs.Notes.{grown}
use Rattle.row_store.proofs.device.RowDev.put_row.Goals as goal

pub append-requires-clause-change : goal.append-requires-clause-change
append-requires-clause-change g c =
    let says : said_by c.write_row.new.payload.items ≡ SaysRow c.args.stored = ap said_by c.write_row.ensures.items ∙ says_row c.args.stored c.requires.spelled in
    sym (ap shape_of says)

pub returns-clause-puts : goal.returns-clause-puts
returns-clause-puts g c =
    let old = c.args.self.now in
    let ps = payloads g.D.Disk.state (vault_of old) in
    let p = c.write_row.new.payload.items in
    let says : said_by c.write_row.new.payload.items ≡ SaysRow c.args.stored = ap said_by c.write_row.ensures.items ∙ says_row c.args.stored c.requires.spelled in
    let after : TableData = with_row (data_of ps) c.args.stored in
    rw c.told.ensures (appends_as g.D.Disk.state g.D.Disk.images Fits HasSpare data_of fault_of apart old.inner (record old.inner { payload = c.write_row.new.payload }) c.append.new.self old _ refl refl (omega (arith, c.write_row.ensures.capacity)) c.if-is_down.ensures
    (length (row_payload c.args.stored)) after c.append.result (ap length c.write_row.ensures.items) (grown ps p (SaysRow c.args.stored) says) c.append.ensures.appends)
