use Rattle.std.proofs.Common.{◌≡◌, ◌≤◌, ℕ, List, [], length, Option, Result, Ok, Err, inl, inr, refl, sym, ◌∙◌, ap, subst, arith}
use Rattle.std.proofs.lemmas.Result.{err_from_is_err_and}
use Rattle.row_store.specs.declared.stored.StoredRow.{StoredRow}
use Rattle.status_log.specs.Entry.{entry_of}
use Rattle.store_commit.specs.declared.fault.CommitFault.TheVariants.{Disk, Memory}
use Rattle.store_commit.specs.Devs.{Devs, Write}
use Rattle.store_commit.specs.Standing.{devs, seen, IsReady}
use Rattle.store_commit.specs.TakesOn.{IsStanding, IsPlan}
use Rattle.store_commit.specs.Update.{IsUpdate}
use Rattle.store_commit.proofs.Waiting.{waits_then, waits_other, waits_err}
use Rattle.store_commit.proofs.Rooms.{prepared}
use Rattle.store_commit.proofs.Seen.{still_seen}
use Rattle.store_commit.proofs.Stored.{plan_is, few_fresh}
use Rattle.store_commit.proofs.devs.TableDevs.prepare.Goals as goal

pub plan-requires-clause-few : goal.plan-requires-clause-few
plan-requires-clause-few g c =
    let few : length c.args.update.fresh ≤ 645176 = few_fresh (seen g.D.Disk.state c.args.self.now) c.args.update c.requires.update in
    omega (arith, few)

pub reserve_for-requires-clause-plan : goal.reserve_for-requires-clause-plan
reserve_for-requires-clause-plan g c =
    let s = g.D.Disk.state in
    let mid = c.standing.new.self in
    let same : seen s mid ≡ seen s c.args.self.now = still_seen s c.args.self.now mid (c.in_ok-standing.ensures.waits.same (λ is. cc)) c.in_ok-standing.ensures.scanned in
    let e = c.in_ok-plan.ensures in
    let u : IsUpdate (seen s mid) c.args.update = subst (λ (d : Devs). IsUpdate d c.args.update) (sym same) c.requires.update in
    let st : IsStanding (seen s mid).held c.args.update.row c.in_ok-standing.standing = subst (λ (d : Devs). IsStanding d.held c.args.update.row c.in_ok-standing.standing) (sym same) c.in_ok-standing.ensures.row in
    rw (e.entry, e.fresh, e.stored) (plan_is (seen s mid) c.args.version c.args.update c.in_ok-standing.standing c.requires.version e.row e.number e.base u st)

pub returns-in_err-reserve_for-clause-waits : goal.returns-in_err-reserve_for-clause-waits
returns-in_err-reserve_for-clause-waits g c =
    let p = err_from_is_err_and c.from_residual-in_err-reserve_for.result c.from_residual-in_err-reserve_for.ensures.1 in
    let two = waits_then {S = Unit {0}} g.D.Disk.state g.D.Disk.images c.args.self.now c.standing.new.self c.reserve_for.new.self _ (λ is. cc) c.in_ok-standing.ensures.waits (Err c.in_err-reserve_for.field-0.0) c.in_err-reserve_for.ensures.waits in
    rw (p.1, p.2) (waits_err g.D.Disk.state g.D.Disk.images c.args.self.now c.reserve_for.new.self c.in_err-reserve_for.field-0.0 two)

pub returns-in_err-tasks-clause-waits : goal.returns-in_err-tasks-clause-waits
returns-in_err-tasks-clause-waits g c =
    let p = err_from_is_err_and c.from_residual-in_err-tasks.result c.from_residual-in_err-tasks.ensures.1 in
    let two = waits_then g.D.Disk.state g.D.Disk.images c.args.self.now c.standing.new.self c.reserve_for.new.self _ (λ is. cc) c.in_ok-standing.ensures.waits _ c.in_ok-reserve_for.ensures.waits in
    rw (p.1, p.2) (waits_other g.D.Disk.state g.D.Disk.images c.args.self.now c.reserve_for.new.self _ (λ is. cc) two (Err Memory) (λ is. cc) (inr refl))

pub returns-clause-waits : goal.returns-clause-waits
returns-clause-waits g c =
    let two = waits_then g.D.Disk.state g.D.Disk.images c.args.self.now c.standing.new.self c.reserve_for.new.self _ (λ is. cc) c.in_ok-standing.ensures.waits _ c.in_ok-reserve_for.ensures.waits in
    waits_other g.D.Disk.state g.D.Disk.images c.args.self.now c.reserve_for.new.self _ (λ is. cc) two (Ok c.in_ok-tasks.tasks) (λ is. cc) tt

pub returns-clause-ready : goal.returns-clause-ready
returns-clause-ready g c =
    let s = g.D.Disk.state in
    let old = c.args.self.now in
    let mid = c.standing.new.self in
    let new = c.reserve_for.new.self in
    let plan = c.in_ok-plan.plan in
    let same : devs s mid ≡ devs s old = c.in_ok-standing.ensures.waits.same (λ is. cc) in
    let alike : seen s mid ≡ seen s old = still_seen s old mid same c.in_ok-standing.ensures.scanned in
    let later : devs s new ≡ devs s mid = c.in_ok-reserve_for.ensures.waits.same (λ is. cc) in
    let e = c.in_ok-plan.ensures in
    let u : IsUpdate (seen s mid) c.args.update = subst (λ (d : Devs). IsUpdate d c.args.update) (sym alike) c.requires.update in
    let st : IsStanding (seen s mid).held c.args.update.row c.in_ok-standing.standing = subst (λ (d : Devs). IsStanding d.held c.args.update.row c.in_ok-standing.standing) (sym alike) c.in_ok-standing.ensures.row in
    let is_plan : IsPlan (entry_of plan.entry) plan.fresh.items plan.stored = rw (e.entry, e.fresh, e.stored) (plan_is (seen s mid) c.args.version c.args.update c.in_ok-standing.standing c.requires.version e.row e.number e.base u st) in
    let r = c.in_ok-reserve_for.ensures in
    subst (λ (l : List Write). IsReady s new l) (sym c.in_ok-tasks.ensures)
    (prepared s (seen s mid) new c.args.version c.args.update (entry_of plan.entry) plan.fresh.items plan.stored e.entry (ap (λ (d : Devs). d.chunks) later) is_plan (ap (λ (d : Devs). d.pending) (later ∙ same) ∙ c.requires.closed) (r.waits.rests (λ is. cc)) r.chunk_room r.row_room r.log_room)
