use Rattle.std.proofs.Common.{◌≡◌, refl, sym, ◌∙◌, ap, arith}
use Rattle.std.proofs.lemmas.Result.{on_ok_weaker}
use Rattle.vault.specs.Standing.{payloads}
use Rattle.vault.proofs.Devices.{appends_as}
use Rattle.plan_log.specs.Fault.{fault_of}
use Rattle.plan_log.proofs.Faults.{apart}
use Rattle.plan_log.specs.Reading.{said_by, SaysIntend}
use Rattle.plan_log.specs.Journal.{Journal, with_intend, journal_of}
use Rattle.plan_log.specs.Memory.{Fits, HasSpare, shape_of}
use Rattle.plan_log.specs.Standing.{vault_of}
use Rattle.plan_log.proofs.Again.{says_intend}
use Rattle.plan_log.proofs.Journals.{grown, intends}
use Rattle.plan_log.proofs.device.PlanLog.intend.Goals as goal

pub append-requires-clause-change : goal.append-requires-clause-change
append-requires-clause-change g c =
    let says : said_by c.write_intend.new.payload.items ≡ SaysIntend c.args.intend.now = ap said_by c.write_intend.ensures.items ∙ says_intend c.args.intend.now c.requires.spelled in
    sym (ap shape_of says)

pub returns-clause-puts : goal.returns-clause-puts
returns-clause-puts g c =
    let old = c.args.self.now in
    let ps = payloads g.D.Disk.state (vault_of old) in
    let p = c.write_intend.new.payload.items in
    let says : said_by p ≡ SaysIntend c.args.intend.now = ap said_by c.write_intend.ensures.items ∙ says_intend c.args.intend.now c.requires.spelled in
    let after : Journal = with_intend (journal_of ps) c.args.intend.now in
    rw c.told.ensures (appends_as g.D.Disk.state g.D.Disk.images Fits HasSpare journal_of fault_of apart old.inner (record old.inner { payload = c.write_intend.new.payload }) c.append.new.self
    old _ refl refl (omega (arith, c.write_intend.ensures.capacity)) c.if-is_down.ensures
    34 after c.append.result c.write_intend.ensures.len (grown ps p (SaysIntend c.args.intend.now) says) c.append.ensures.appends)

pub returns-clause-at_work : goal.returns-clause-at_work
returns-clause-at_work g c =
    let journal : Journal = journal_of (payloads g.D.Disk.state (vault_of c.args.self.now)) in
    on_ok_weaker c.told.result (λ is. is ∙ intends journal c.args.intend.now (c.requires.next c.if-is_down.ensures)) (returns-clause-puts g c).put
