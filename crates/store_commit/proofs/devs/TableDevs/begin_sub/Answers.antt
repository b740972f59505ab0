use Rattle.std.proofs.Common.{◌≡◌, List, [], ◌∷◌, map, Result, Ok, Err, inr, refl, sym, ap, subst, arith}
use Rattle.std.proofs.lemmas.Result.{err_from_is_err_and}
use Rattle.row_store.specs.Reading.{terms_if}
use Rattle.store_commit.specs.declared.task.Task.{Task}
use Rattle.store_commit.specs.declared.fault.CommitFault.{CommitFault}
use Rattle.store_commit.specs.declared.fault.CommitFault.TheVariants.{Memory}
use Rattle.store_commit.specs.Devs.{Devs, Write, PutSub}
use Rattle.store_commit.specs.Agenda.{IsKeeping, IsKeepingWhole, IsStill, Runs}
use Rattle.store_commit.proofs.Keeping.{sub_runs, sub_keeps_whole, sub_still}
use Rattle.store_commit.specs.Standing.{devs, seen, write_of, writes_of, IsReady}
use Rattle.store_commit.proofs.Works.{same_ready}
use Rattle.store_commit.proofs.Seen.{still_seen}
use Rattle.store_commit.proofs.Rooms.{sub_ready}
use Rattle.store_commit.proofs.Waiting.{none_waits}
use Rattle.store_commit.proofs.Begins.{isnt_free, wasnt_taken, was_taken}
use Rattle.store_commit.proofs.devs.TableDevs.begin_sub.Goals as goal

pub returns-in_err-free-clause-takes : goal.returns-in_err-free-clause-takes
returns-in_err-free-clause-takes g c =
    let p = err_from_is_err_and c.from_residual.result c.from_residual.ensures.1 in
    rw (p.1, p.2) (isnt_free g.D.Disk.state g.D.Disk.images g.met.D.Disk.only_now ⊥ (λ (x : Unit {0}). PutSub c.args.client (terms_if c.args.on (record { gate = c.args.gate; period = c.args.period; tolerance = c.args.tolerance })) ∷ []) c.args.self.now c.in_err-free.field-0.0 c.requires.ready c.in_err-free.ensures)

pub returns-in_err-tasks-clause-takes : goal.returns-in_err-tasks-clause-takes
returns-in_err-tasks-clause-takes g c =
    let s = g.D.Disk.state in
    let old = c.args.self.now in
    let f = c.in_ok-free.ensures.free in
    let rests : IsReady s old [] = subst (λ (l : List Write). IsReady s old l) f.1 (c.requires.ready f.0) in
    let short : Result (Unit {0}) CommitFault = Err Memory in
    let p = err_from_is_err_and c.from_residual-in_err-tasks.result c.from_residual-in_err-tasks.ensures.1 in
    rw (p.1, p.2) (wasnt_taken s g.D.Disk.images g.met.D.Disk.only_now ⊥ (λ (x : Unit {0}). PutSub c.args.client (terms_if c.args.on (record { gate = c.args.gate; period = c.args.period; tolerance = c.args.tolerance })) ∷ []) old f.0 f.1 rests old Memory (none_waits s g.D.Disk.images g.met.D.Disk.only_now old f.0 rests short (λ is. cc) (inr refl)))

pub returns-in_err-reserve_rows-clause-takes : goal.returns-in_err-reserve_rows-clause-takes
returns-in_err-reserve_rows-clause-takes g c =
    let s = g.D.Disk.state in
    let old = c.args.self.now in
    let f = c.in_ok-free.ensures.free in
    let rests : IsReady s old [] = subst (λ (l : List Write). IsReady s old l) f.1 (c.requires.ready f.0) in
    let p = err_from_is_err_and c.from_residual-in_err-reserve_rows.result c.from_residual-in_err-reserve_rows.ensures.1 in
    rw (p.1, p.2) (wasnt_taken s g.D.Disk.images g.met.D.Disk.only_now ⊥ (λ (x : Unit {0}). PutSub c.args.client (terms_if c.args.on (record { gate = c.args.gate; period = c.args.period; tolerance = c.args.tolerance })) ∷ []) old f.0 f.1 rests c.reserve_rows.new.self c.in_err-reserve_rows.field-0.0 c.in_err-reserve_rows.ensures.waits)

pub returns-clause-takes : goal.returns-clause-takes
returns-clause-takes g c =
    let s = g.D.Disk.state in
    let old = c.args.self.now in
    let f = c.in_ok-free.ensures.free in
    let rests : IsReady s old [] = subst (λ (l : List Write). IsReady s old l) f.1 (c.requires.ready f.0) in
    let mid = c.reserve_rows.new.self in
    let new = record mid { agenda = c.in_ok-tasks.tasks } in
    let w : Write = PutSub c.args.client (terms_if c.args.on (record { gate = c.args.gate; period = c.args.period; tolerance = c.args.tolerance })) in
    let is : writes_of new ≡ w ∷ [] = ap (map write_of) c.in_ok-tasks.ensures in
    let ready = sub_ready s mid (c.in_ok-reserve_rows.ensures.waits.rests (λ is. cc)) c.args.client (terms_if c.args.on (record { gate = c.args.gate; period = c.args.period; tolerance = c.args.tolerance })) c.requires.client c.in_ok-reserve_rows.ensures.room in
    was_taken s g.D.Disk.images g.met.D.Disk.only_now ⊥ (λ (x : Unit {0}). PutSub c.args.client (terms_if c.args.on (record { gate = c.args.gate; period = c.args.period; tolerance = c.args.tolerance })) ∷ []) old f.0 f.1 rests new mid tt tt c.in_ok-reserve_rows.ensures.waits refl refl refl is
    (subst (λ (l : List Write). IsReady s new l) (sym is) (same_ready s g.D.Disk.images mid new refl refl refl (w ∷ []) ready))

pub returns-clause-moments : goal.returns-clause-moments
returns-clause-moments g c meaning n =
    let s = g.D.Disk.state in
    let old = c.args.self.now in
    let new = record c.reserve_rows.new.self { agenda = c.in_ok-tasks.tasks } in
    let same : devs s new ≡ devs s old = c.in_ok-reserve_rows.ensures.waits.same (λ is. cc) in
    let is : writes_of new ≡ PutSub c.args.client (terms_if c.args.on (record { gate = c.args.gate; period = c.args.period; tolerance = c.args.tolerance })) ∷ [] = ap (map write_of) c.in_ok-tasks.ensures in
    subst (λ (d : Devs). Runs (IsKeeping meaning) d (writes_of new)) (sym same) (subst (Runs (IsKeeping meaning) (devs s old)) (sym is) (sub_runs meaning (devs s old) n c.args.client (terms_if c.args.on (record { gate = c.args.gate; period = c.args.period; tolerance = c.args.tolerance }))))

pub returns-clause-whole : goal.returns-clause-whole
returns-clause-whole g c meaning n whole =
    let s = g.D.Disk.state in
    let old = c.args.self.now in
    let new = record c.reserve_rows.new.self { agenda = c.in_ok-tasks.tasks } in
    let same : devs s new ≡ devs s old = c.in_ok-reserve_rows.ensures.waits.same (λ is. cc) in
    let is : writes_of new ≡ PutSub c.args.client (terms_if c.args.on (record { gate = c.args.gate; period = c.args.period; tolerance = c.args.tolerance })) ∷ [] = ap (map write_of) c.in_ok-tasks.ensures in
    subst (λ (d : Devs). Runs (IsKeepingWhole meaning) d (writes_of new)) (sym same) (subst (Runs (IsKeepingWhole meaning) (devs s old)) (sym is) (sub_keeps_whole meaning (devs s old) n whole c.args.client (terms_if c.args.on (record { gate = c.args.gate; period = c.args.period; tolerance = c.args.tolerance }))))

pub returns-clause-still : goal.returns-clause-still
returns-clause-still g c =
    let s = g.D.Disk.state in
    let old = c.args.self.now in
    let new = record c.reserve_rows.new.self { agenda = c.in_ok-tasks.tasks } in
    let same : devs s new ≡ devs s old = c.in_ok-reserve_rows.ensures.waits.same (λ is. cc) in
    let is : writes_of new ≡ PutSub c.args.client (terms_if c.args.on (record { gate = c.args.gate; period = c.args.period; tolerance = c.args.tolerance })) ∷ [] = ap (map write_of) c.in_ok-tasks.ensures in
    subst (λ (d : Devs). Runs (IsStill (devs s old)) d (writes_of new)) (sym same) (subst (Runs (IsStill (devs s old)) (devs s old)) (sym is) (sub_still (devs s old) c.args.client (terms_if c.args.on (record { gate = c.args.gate; period = c.args.period; tolerance = c.args.tolerance }))))

pub returns-clause-seen : goal.returns-clause-seen
returns-clause-seen g c =
    let s = g.D.Disk.state in
    let old = c.args.self.now in
    let new = record c.reserve_rows.new.self { agenda = c.in_ok-tasks.tasks } in
    let same : seen s new ≡ seen s old = still_seen s old new (c.in_ok-reserve_rows.ensures.waits.same (λ is. cc)) c.in_ok-reserve_rows.ensures.scanned in
    let is : writes_of new ≡ PutSub c.args.client (terms_if c.args.on (record { gate = c.args.gate; period = c.args.period; tolerance = c.args.tolerance })) ∷ [] = ap (map write_of) c.in_ok-tasks.ensures in
    subst (λ (d : Devs). Runs (IsStill (seen s old)) d (writes_of new)) (sym same) (subst (Runs (IsStill (seen s old)) (seen s old)) (sym is) (sub_still (seen s old) c.args.client (terms_if c.args.on (record { gate = c.args.gate; period = c.args.period; tolerance = c.args.tolerance }))))
