use Rattle.std.proofs.Common.{◌≡◌, ℕ, refl, sym, ◌∙◌, ap, subst, arith}
use Rattle.std.proofs.lemmas.Result.{on_ok_weaker}
use Rattle.vault.specs.Standing.{payloads}
use Rattle.vault.proofs.Devices.{appends_as}
use Rattle.plan_log.specs.Fault.{fault_of}
use Rattle.plan_log.proofs.Faults.{apart}
use Rattle.plan_log.specs.Spelling.{IsPlan, done_payload}
use Rattle.plan_log.specs.Reading.{said_by, SaysDone}
use Rattle.plan_log.specs.Journal.{Journal, with_done, journal_of}
use Rattle.plan_log.specs.Memory.{Fits, HasSpare, shape_of}
use Rattle.plan_log.specs.Standing.{vault_of}
use Rattle.plan_log.proofs.Again.{says_done}
use Rattle.plan_log.proofs.Journals.{grown, ends, plan_of, journal_sound}
use Rattle.plan_log.proofs.device.PlanLog.done.Goals as goal

pub append-requires-clause-change : goal.append-requires-clause-change
append-requires-clause-change g c =
    let old = c.args.self.now in
    let up = c.if-is_down.ensures in
    let ps = payloads g.D.Disk.state (vault_of old) in
    let greatest : ℕ = old.inner.memory.greatest in
    let is : IsPlan greatest = subst IsPlan (sym (c.requires.ready up).memory.greatest) (plan_of (journal_of ps) (journal_sound ps) (c.requires.next up)) in
    let says : said_by c.write_done.new.payload.items ≡ SaysDone greatest = ap said_by c.write_done.ensures.items ∙ says_done greatest is in
    sym (ap shape_of says)

pub returns-clause-puts : goal.returns-clause-puts
returns-clause-puts g c =
    let old = c.args.self.now in
    let up = c.if-is_down.ensures in
    let ps = payloads g.D.Disk.state (vault_of old) in
    let p = c.write_done.new.payload.items in
    let kept : ℕ = old.inner.memory.greatest in
    let greatest : ℕ = (journal_of ps).greatest in
    let same : kept ≡ greatest = (c.requires.ready up).memory.greatest in
    let is : IsPlan greatest = plan_of (journal_of ps) (journal_sound ps) (c.requires.next up) in
    let says : said_by p ≡ SaysDone greatest = ap said_by (c.write_done.ensures.items ∙ ap done_payload same) ∙ says_done greatest is in
    let after : Journal = with_done (journal_of ps) greatest in
    rw c.told.ensures (appends_as g.D.Disk.state g.D.Disk.images Fits HasSpare journal_of fault_of apart old.inner (record old.inner { payload = c.write_done.new.payload }) c.append.new.self old
    _ refl refl (omega (arith, c.write_done.ensures.capacity)) up
    9 after c.append.result c.write_done.ensures.len (grown ps p (SaysDone greatest) says) c.append.ensures.appends)

pub returns-clause-at_work : goal.returns-clause-at_work
returns-clause-at_work g c =
    let journal : Journal = journal_of (payloads g.D.Disk.state (vault_of c.args.self.now)) in
    on_ok_weaker c.told.result (λ is. is ∙ ends journal (c.requires.next c.if-is_down.ensures)) (returns-clause-puts g c).put
