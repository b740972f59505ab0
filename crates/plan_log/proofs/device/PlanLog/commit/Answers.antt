use Rattle.std.proofs.Common.{◌≡◌, length, refl, sym, ◌∙◌, ap, arith}
use Rattle.std.proofs.lemmas.Result.{on_ok_weaker}
use Rattle.vault.specs.Standing.{payloads}
use Rattle.vault.proofs.Devices.{appends_as}
use Rattle.plan_log.specs.Fault.{fault_of}
use Rattle.plan_log.proofs.Faults.{apart}
use Rattle.plan_log.specs.Spelling.{commit_payload}
use Rattle.plan_log.specs.Reading.{said_by, SaysCommit}
use Rattle.plan_log.specs.Journal.{Journal, with_commit, journal_of}
use Rattle.plan_log.specs.Memory.{Fits, HasSpare, shape_of}
use Rattle.plan_log.specs.Standing.{vault_of}
use Rattle.plan_log.proofs.Again.{says_commit}
use Rattle.plan_log.proofs.Journals.{grown, commits}
use Rattle.plan_log.proofs.device.PlanLog.commit.Goals as goal

pub append-requires-clause-change : goal.append-requires-clause-change
append-requires-clause-change g c =
    let says : said_by c.write_commit.new.payload.items ≡ SaysCommit c.args.commit.now = ap said_by c.write_commit.ensures.items ∙ says_commit c.args.commit.now c.requires.spelled in
    sym (ap shape_of says)

pub returns-clause-puts : goal.returns-clause-puts
returns-clause-puts g c =
    let old = c.args.self.now in
    let ps = payloads g.D.Disk.state (vault_of old) in
    let p = c.write_commit.new.payload.items in
    let says : said_by p ≡ SaysCommit c.args.commit.now = ap said_by c.write_commit.ensures.items ∙ says_commit c.args.commit.now c.requires.spelled in
    let after : Journal = with_commit (journal_of ps) c.args.commit.now in
    rw c.told.ensures (appends_as g.D.Disk.state g.D.Disk.images Fits HasSpare journal_of fault_of apart old.inner (record old.inner { payload = c.write_commit.new.payload }) c.append.new.self
    old _ refl refl (omega (arith, c.write_commit.ensures.capacity)) c.if-is_down.ensures
    (length (commit_payload c.args.commit.now)) after c.append.result (ap length c.write_commit.ensures.items) (grown ps p (SaysCommit c.args.commit.now) says) c.append.ensures.appends)

pub returns-clause-at_work : goal.returns-clause-at_work
returns-clause-at_work g c =
    let journal : Journal = journal_of (payloads g.D.Disk.state (vault_of c.args.self.now)) in
    on_ok_weaker c.told.result (λ is. is ∙ commits journal c.args.commit.now (c.requires.next c.if-is_down.ensures)) (returns-clause-puts g c).put
