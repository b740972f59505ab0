use Rattle.std.proofs.Common.{◌≡◌, Option, refl, sym, ◌∙◌, ap, arith}
use Rattle.vault.specs.Standing.{payloads}
use Rattle.vault.proofs.Devices.{appends_as}
use Rattle.row_store.specs.Fault.{fault_of}
use Rattle.row_store.proofs.Faults.{apart}
use Rattle.row_store.specs.declared.stored.Terms.{Terms}
use Rattle.row_store.specs.declared.change.Change.TheVariants as changes
use Rattle.row_store.specs.Reading.{said_by, terms_if, SaysSub}
use Rattle.row_store.specs.Data.{TableData, with_sub, data_of}
use Rattle.row_store.specs.Memory.{Fits, HasSpare, shape_of}
use Rattle.row_store.specs.Standing.{vault_of}
use Rattle.row_store.proofs.Again.{says_sub}
use Rattle.row_store.proofs.Notes.{grown}
use Rattle.row_store.proofs.device.RowDev.put_sub.Goals as goal

pub append-requires-clause-change : goal.append-requires-clause-change
append-requires-clause-change g c =
    let terms : Terms = record { gate = c.args.gate; period = c.args.period; tolerance = c.args.tolerance } in
    let says : said_by c.write_sub.new.payload.items ≡ SaysSub (record { client = c.args.client; terms = terms_if c.args.on terms }) = ap said_by c.write_sub.ensures.items ∙ says_sub c.args.client c.args.on terms c.requires.client c.ranges.gate.fits c.ranges.period.fits c.ranges.tolerance.fits in
    ap (λ (t : Option Terms). changes.Sub (record { client = c.args.client; terms = t })) c.terms_if.ensures ∙ sym (ap shape_of says)

pub returns-clause-puts : goal.returns-clause-puts
returns-clause-puts g c =
    let old = c.args.self.now in
    let ps = payloads g.D.Disk.state (vault_of old) in
    let p = c.write_sub.new.payload.items in
    let terms : Terms = record { gate = c.args.gate; period = c.args.period; tolerance = c.args.tolerance } in
    let says : said_by c.write_sub.new.payload.items ≡ SaysSub (record { client = c.args.client; terms = terms_if c.args.on terms }) = ap said_by c.write_sub.ensures.items ∙ says_sub c.args.client c.args.on terms c.requires.client c.ranges.gate.fits c.ranges.period.fits c.ranges.tolerance.fits in
    let after : TableData = with_sub (data_of ps) c.args.client (terms_if c.args.on terms) in
    rw c.told.ensures (appends_as g.D.Disk.state g.D.Disk.images Fits HasSpare data_of fault_of apart old.inner (record old.inner { payload = c.write_sub.new.payload }) c.append.new.self old _ refl refl (omega (arith, c.write_sub.ensures.capacity)) c.if-is_down.ensures
    (18) after c.append.result c.write_sub.ensures.len (grown ps p (SaysSub (record { client = c.args.client; terms = terms_if c.args.on terms })) says) c.append.ensures.appends)
