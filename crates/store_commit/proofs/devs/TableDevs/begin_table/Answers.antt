use Rattle.std.proofs.Common.{◌≡◌, ◌≤◌, List, [], ◌∷◌, length, Result, Ok, Err, inr, refl, sym, subst, arith}
use Rattle.std.proofs.lemmas.Result.{err_from_is_err_and}
use Rattle.row_store.specs.Spelling.{table_payload}
use Rattle.row_store.specs.Standing as rows
use Rattle.store_commit.specs.declared.fault.CommitFault.{CommitFault}
use Rattle.store_commit.specs.declared.fault.CommitFault.TheVariants.{Memory}
use Rattle.store_commit.specs.Devs.{Devs, Write, PutTable}
use Rattle.store_commit.specs.Agenda.{IsKeeping, IsKeepingWhole, IsStill, Runs}
use Rattle.store_commit.proofs.Keeping.{table_runs, table_keeps_whole, table_still}
use Rattle.store_commit.specs.Standing.{devs, seen, writes_of, IsReady}
use Rattle.store_commit.proofs.Works.{same_ready}
use Rattle.store_commit.proofs.Seen.{still_seen}
use Rattle.store_commit.proofs.Rooms.{table_ready}
use Rattle.store_commit.proofs.Waiting.{none_waits}
use Rattle.store_commit.proofs.Begins.{isnt_free, wasnt_taken, was_taken}
use Rattle.store_commit.proofs.Fusing.{keeps_then, keeps_same}
use Rattle.store_commit.proofs.devs.TableDevs.begin_table.Goals as goal

pub returns-in_err-free-clause-takes : goal.returns-in_err-free-clause-takes
returns-in_err-free-clause-takes g c =
    let p = err_from_is_err_and c.from_residual.result c.from_residual.ensures.1 in
    rw (p.1, p.2) (isnt_free g.D.Disk.state g.D.Disk.images g.met.D.Disk.only_now ⊥ (λ (x : Unit {0}). PutTable c.args.schema.now c.args.state ∷ []) c.args.self.now c.in_err-free.field-0.0 c.requires.ready c.in_err-free.ensures)

pub returns-in_err-tasks-clause-takes : goal.returns-in_err-tasks-clause-takes
returns-in_err-tasks-clause-takes g c =
    let s = g.D.Disk.state in
    let old = c.args.self.now in
    let f = c.in_ok-free.ensures.free in
    let rests : IsReady s old [] = subst (λ (l : List Write). IsReady s old l) f.1 (c.requires.ready f.0) in
    let short : Result (Unit {0}) CommitFault = Err Memory in
    let p = err_from_is_err_and c.from_residual-in_err-tasks.result c.from_residual-in_err-tasks.ensures.1 in
    rw (p.1, p.2) (wasnt_taken s g.D.Disk.images g.met.D.Disk.only_now ⊥ (λ (x : Unit {0}). PutTable c.args.schema.now c.args.state ∷ []) old f.0 f.1 rests old Memory (none_waits s g.D.Disk.images g.met.D.Disk.only_now old f.0 rests short (λ is. cc) (inr refl)))

pub returns-in_err-size-clause-takes : goal.returns-in_err-size-clause-takes
returns-in_err-size-clause-takes g c =
    let s = g.D.Disk.state in
    let old = c.args.self.now in
    let f = c.in_ok-free.ensures.free in
    let rests : IsReady s old [] = subst (λ (l : List Write). IsReady s old l) f.1 (c.requires.ready f.0) in
    let short : Result (Unit {0}) CommitFault = Err Memory in
    let p = err_from_is_err_and c.from_residual-in_err-size.result c.from_residual-in_err-size.ensures.1 in
    rw (p.1, p.2) (wasnt_taken s g.D.Disk.images g.met.D.Disk.only_now ⊥ (λ (x : Unit {0}). PutTable c.args.schema.now c.args.state ∷ []) old f.0 f.1 rests old Memory (none_waits s g.D.Disk.images g.met.D.Disk.only_now old f.0 rests short (λ is. cc) (inr refl)))

pub reserve_rows-requires-clause-bytes : goal.reserve_rows-requires-clause-bytes
reserve_rows-requires-clause-bytes g c = omega (arith, c.in_ok-size.ensures, c.requires.short)

pub returns-in_err-reserve_rows-clause-takes : goal.returns-in_err-reserve_rows-clause-takes
returns-in_err-reserve_rows-clause-takes g c =
    let s = g.D.Disk.state in
    let old = c.args.self.now in
    let f = c.in_ok-free.ensures.free in
    let rests : IsReady s old [] = subst (λ (l : List Write). IsReady s old l) f.1 (c.requires.ready f.0) in
    let p = err_from_is_err_and c.from_residual-in_err-reserve_rows.result c.from_residual-in_err-reserve_rows.ensures.1 in
    rw (p.1, p.2) (wasnt_taken s g.D.Disk.images g.met.D.Disk.only_now ⊥ (λ (x : Unit {0}). PutTable c.args.schema.now c.args.state ∷ []) old f.0 f.1 rests c.reserve_rows.new.self c.in_err-reserve_rows.field-0.0 c.in_err-reserve_rows.ensures.waits)

pub returns-clause-takes : goal.returns-clause-takes
returns-clause-takes g c =
    let s = g.D.Disk.state in
    let old = c.args.self.now in
    let f = c.in_ok-free.ensures.free in
    let rests : IsReady s old [] = subst (λ (l : List Write). IsReady s old l) f.1 (c.requires.ready f.0) in
    let mid = c.reserve_rows.new.self in
    let new = record mid { agenda = c.in_ok-tasks.tasks } in
    let w : Write = PutTable c.args.schema.now c.args.state in
    let is : writes_of new ≡ w ∷ [] = c.in_ok-tasks.ensures in
    let room : rows.HasRoom s mid.rows 1 1 (length (table_payload c.args.schema.now c.args.state)) = subst (λ n. rows.HasRoom s mid.rows 1 1 n) c.in_ok-size.ensures c.in_ok-reserve_rows.ensures.room in
    let ready = table_ready s mid (c.in_ok-reserve_rows.ensures.waits.rests (λ is. cc)) c.args.schema.now c.args.state (c.requires.spelled, c.requires.state, c.requires.short) room in
    was_taken s g.D.Disk.images g.met.D.Disk.only_now ⊥ (λ (x : Unit {0}). PutTable c.args.schema.now c.args.state ∷ []) old f.0 f.1 rests new mid tt tt c.in_ok-reserve_rows.ensures.waits refl refl refl is
    (subst (λ (l : List Write). IsReady s new l) (sym is) (same_ready s g.D.Disk.images mid new refl refl refl (w ∷ []) ready))

pub returns-clause-moments : goal.returns-clause-moments
returns-clause-moments g c meaning n =
    let s = g.D.Disk.state in
    let old = c.args.self.now in
    let new = record c.reserve_rows.new.self { agenda = c.in_ok-tasks.tasks } in
    let same : devs s new ≡ devs s old = c.in_ok-reserve_rows.ensures.waits.same (λ is. cc) in
    let is : writes_of new ≡ PutTable c.args.schema.now c.args.state ∷ [] = c.in_ok-tasks.ensures in
    subst (λ (d : Devs). Runs (IsKeeping meaning) d (writes_of new)) (sym same) (subst (Runs (IsKeeping meaning) (devs s old)) (sym is) (table_runs meaning (devs s old) n c.args.schema.now c.args.state))

pub returns-clause-whole : goal.returns-clause-whole
returns-clause-whole g c meaning n whole no_other =
    let s = g.D.Disk.state in
    let old = c.args.self.now in
    let new = record c.reserve_rows.new.self { agenda = c.in_ok-tasks.tasks } in
    let same : devs s new ≡ devs s old = c.in_ok-reserve_rows.ensures.waits.same (λ is. cc) in
    let is : writes_of new ≡ PutTable c.args.schema.now c.args.state ∷ [] = c.in_ok-tasks.ensures in
    subst (λ (d : Devs). Runs (IsKeepingWhole meaning) d (writes_of new)) (sym same) (subst (Runs (IsKeepingWhole meaning) (devs s old)) (sym is) (table_keeps_whole meaning (devs s old) n whole c.args.schema.now c.args.state no_other))

pub returns-clause-still : goal.returns-clause-still
returns-clause-still g c =
    let s = g.D.Disk.state in
    let old = c.args.self.now in
    let new = record c.reserve_rows.new.self { agenda = c.in_ok-tasks.tasks } in
    let same : devs s new ≡ devs s old = c.in_ok-reserve_rows.ensures.waits.same (λ is. cc) in
    let is : writes_of new ≡ PutTable c.args.schema.now c.args.state ∷ [] = c.in_ok-tasks.ensures in
    subst (λ (d : Devs). Runs (IsStill (devs s old)) d (writes_of new)) (sym same) (subst (Runs (IsStill (devs s old)) (devs s old)) (sym is) (table_still (devs s old) c.args.schema.now c.args.state))

pub returns-clause-seen : goal.returns-clause-seen
returns-clause-seen g c =
    let s = g.D.Disk.state in
    let old = c.args.self.now in
    let new = record c.reserve_rows.new.self { agenda = c.in_ok-tasks.tasks } in
    let same : seen s new ≡ seen s old = still_seen s old new (c.in_ok-reserve_rows.ensures.waits.same (λ is. cc)) c.in_ok-reserve_rows.ensures.scanned in
    let is : writes_of new ≡ PutTable c.args.schema.now c.args.state ∷ [] = c.in_ok-tasks.ensures in
    subst (λ (d : Devs). Runs (IsStill (seen s old)) d (writes_of new)) (sym same) (subst (Runs (IsStill (seen s old)) (seen s old)) (sym is) (table_still (seen s old) c.args.schema.now c.args.state))

pub returns-in_err-free-clause-fuse : goal.returns-in_err-free-clause-fuse
returns-in_err-free-clause-fuse g c = keeps_same g.D.Disk.state c.args.self.now c.args.self.now refl refl refl

pub returns-in_err-tasks-clause-fuse : goal.returns-in_err-tasks-clause-fuse
returns-in_err-tasks-clause-fuse g c = keeps_same g.D.Disk.state c.args.self.now c.args.self.now refl refl refl

pub returns-in_err-size-clause-fuse : goal.returns-in_err-size-clause-fuse
returns-in_err-size-clause-fuse g c = keeps_same g.D.Disk.state c.args.self.now c.args.self.now refl refl refl

pub returns-in_err-reserve_rows-clause-fuse : goal.returns-in_err-reserve_rows-clause-fuse
returns-in_err-reserve_rows-clause-fuse g c = c.reserve_rows.ensures.fuse

pub returns-clause-fuse : goal.returns-clause-fuse
returns-clause-fuse g c =
    let s = g.D.Disk.state in
    let mid = c.reserve_rows.new.self in
    let new = record mid { agenda = c.in_ok-tasks.tasks } in
    keeps_then s c.args.self.now mid new c.reserve_rows.ensures.fuse (keeps_same s mid new refl refl refl)
