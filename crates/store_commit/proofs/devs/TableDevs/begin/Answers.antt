use Rattle.std.proofs.Common.{◌≡◌, ◌+◌, ℕ, List, [], Ok, Err, inr, refl, sym, ◌∙◌, ap, subst, arith}
use Rattle.std.proofs.lemmas.Result.{err_from_is_err_and}
use Rattle.stab_base.specs.declared.limits.TheConstants.{NUMBER_MAX}
use Rattle.row_store.specs.Data.{IsTableVersion}
use Rattle.store_commit.specs.Devs.{Devs, Write}
use Rattle.store_commit.specs.Agenda.{update_writes, meaning_with, IsMoment, Runs, Replaces}
use Rattle.store_commit.specs.There.{MayBeWhole}
use Rattle.store_commit.specs.Standing.{devs, seen, writes_of, IsReady}
use Rattle.store_commit.specs.Update.{entry_for, stored_for, IsNextVersion, IsUpdate}
use Rattle.store_commit.proofs.Works.{same_ready}
use Rattle.store_commit.proofs.Updates.{update_runs}
use Rattle.store_commit.proofs.Replacing.{update_replaces}
use Rattle.store_commit.proofs.Brought.{update_whole}
use Rattle.store_commit.proofs.Seen.{seen_all, still_seen}
use Rattle.store_commit.proofs.Waiting.{waits_then, waits_other}
use Rattle.store_commit.proofs.Begins.{one_version, isnt_free, none_left, wasnt_taken, was_taken, not_refused}
use Rattle.store_commit.proofs.devs.TableDevs.begin.Goals as goal

pub returns-in_err-free-clause-takes : goal.returns-in_err-free-clause-takes
returns-in_err-free-clause-takes g c =
    let s = g.D.Disk.state in
    let old = c.args.self.now in
    let update = c.args.update in
    let p = err_from_is_err_and c.from_residual.result c.from_residual.ensures.1 in
    rw (p.1, p.2) (isnt_free s g.D.Disk.images g.met.D.Disk.only_now (IsTableVersion (seen s old).held NUMBER_MAX) (λ (version : ℕ). update_writes (entry_for (seen s old) version update) update.fresh (stored_for (seen s old) version update)) old c.in_err-free.field-0.0 c.requires.ready c.in_err-free.ensures)

pub returns-in_err-last-clause-takes : goal.returns-in_err-last-clause-takes
returns-in_err-last-clause-takes g c =
    let s = g.D.Disk.state in
    let old = c.args.self.now in
    let update = c.args.update in
    let f = c.in_ok-free.ensures.free in
    let rests : IsReady s old [] = subst (λ (l : List Write). IsReady s old l) f.1 (c.requires.ready f.0) in
    let p = err_from_is_err_and c.from_residual-in_err-last.result c.from_residual-in_err-last.ensures.1 in
    rw (p.1, p.2) (wasnt_taken s g.D.Disk.images g.met.D.Disk.only_now (IsTableVersion (seen s old).held NUMBER_MAX) (λ (version : ℕ). update_writes (entry_for (seen s old) version update) update.fresh (stored_for (seen s old) version update)) old f.0 f.1 rests
    c.newest.new.self c.in_err-last.field-0.0 c.in_err-last.ensures.waits)

pub returns-then-last-eq-NUMBER_MAX-clause-takes : goal.returns-then-last-eq-NUMBER_MAX-clause-takes
returns-then-last-eq-NUMBER_MAX-clause-takes g c =
    let s = g.D.Disk.state in
    let old = c.args.self.now in
    let update = c.args.update in
    let f = c.in_ok-free.ensures.free in
    let rests : IsReady s old [] = subst (λ (l : List Write). IsReady s old l) f.1 (c.requires.ready f.0) in
    none_left s g.D.Disk.images g.met.D.Disk.only_now (IsTableVersion (seen s old).held NUMBER_MAX) (λ (version : ℕ). update_writes (entry_for (seen s old) version update) update.fresh (stored_for (seen s old) version update)) old f.0 f.1 rests
    c.newest.new.self c.in_ok-last.last c.in_ok-last.ensures.waits
    (subst (λ (n : ℕ). IsTableVersion (seen s old).held n) c.if-last-eq-NUMBER_MAX.true c.in_ok-last.ensures.greatest)

pub returns-in_err-tasks-clause-takes : goal.returns-in_err-tasks-clause-takes
returns-in_err-tasks-clause-takes g c =
    let s = g.D.Disk.state in
    let old = c.args.self.now in
    let update = c.args.update in
    let f = c.in_ok-free.ensures.free in
    let rests : IsReady s old [] = subst (λ (l : List Write). IsReady s old l) f.1 (c.requires.ready f.0) in
    let p = err_from_is_err_and c.from_residual-in_err-tasks.result c.from_residual-in_err-tasks.ensures.1 in
    let two = waits_then s g.D.Disk.images old c.newest.new.self c.prepare.new.self _ (λ is. cc) c.in_ok-last.ensures.waits _ c.in_err-tasks.ensures.waits in
    rw (p.1, p.2) (wasnt_taken s g.D.Disk.images g.met.D.Disk.only_now (IsTableVersion (seen s old).held NUMBER_MAX) (λ (version : ℕ). update_writes (entry_for (seen s old) version update) update.fresh (stored_for (seen s old) version update)) old f.0 f.1 rests
    c.prepare.new.self c.in_err-tasks.field-0.0 two)

pub returns-clause-takes : goal.returns-clause-takes
returns-clause-takes g c =
    let s = g.D.Disk.state in
    let old = c.args.self.now in
    let update = c.args.update in
    let f = c.in_ok-free.ensures.free in
    let mid = c.prepare.new.self in
    let new = record mid { agenda = c.in_ok-tasks.tasks } in
    let rests : IsReady s old [] = subst (λ (l : List Write). IsReady s old l) f.1 (c.requires.ready f.0) in
    let two = waits_then s g.D.Disk.images old c.newest.new.self mid _ (λ is. cc) c.in_ok-last.ensures.waits _ c.in_ok-tasks.ensures.waits in
    let same : seen s c.newest.new.self ≡ seen s old = still_seen s old c.newest.new.self (c.in_ok-last.ensures.waits.same (λ is. cc)) c.in_ok-last.ensures.scanned in
    let made = subst (λ (d : Devs). writes_of new ≡ update_writes (entry_for d (c.in_ok-last.last + 1) update) update.fresh (stored_for d (c.in_ok-last.last + 1) update)) same c.in_ok-tasks.ensures.tasks in
    was_taken s g.D.Disk.images g.met.D.Disk.only_now (IsTableVersion (seen s old).held NUMBER_MAX) (λ (version : ℕ). update_writes (entry_for (seen s old) version update) update.fresh (stored_for (seen s old) version update)) old f.0 f.1 rests
    new mid _ (c.in_ok-last.last + 1) two refl refl refl made (same_ready s g.D.Disk.images mid new refl refl refl _ c.in_ok-tasks.ensures.ready)

pub prepare-requires-clause-update : goal.prepare-requires-clause-update
prepare-requires-clause-update g c =
    let s = g.D.Disk.state in
    let old = c.args.self.now in
    let f = c.in_ok-free.ensures.free in
    let same : seen s c.newest.new.self ≡ seen s old = still_seen s old c.newest.new.self (c.in_ok-last.ensures.waits.same (λ is. cc)) c.in_ok-last.ensures.scanned in
    subst (λ (d : Devs). IsUpdate d c.args.update) (sym same) (c.requires.update f.0 f.1)

pub prepare-requires-clause-closed : goal.prepare-requires-clause-closed
prepare-requires-clause-closed g c =
    let f = c.in_ok-free.ensures.free in
    ap (λ (d : Devs). d.pending) (c.in_ok-last.ensures.waits.same (λ is. cc)) ∙ c.requires.closed f.0 f.1

pub returns-clause-replaces : goal.returns-clause-replaces
returns-clause-replaces g c meaning none n =
    let s = g.D.Disk.state in
    let old = c.args.self.now in
    let f = c.in_ok-free.ensures.free in
    let all : seen s old ≡ devs s old = seen_all s old none in
    let next : IsNextVersion (devs s old).held (c.in_ok-last.last + 1) = subst (λ (d : Devs). IsNextVersion d.held (c.in_ok-last.last + 1)) all (c.in_ok-last.last, c.in_ok-last.ensures.greatest, refl) in
    let u : IsUpdate (devs s old) c.args.update = subst (λ (d : Devs). IsUpdate d c.args.update) all (c.requires.update f.0 f.1) in
    update_replaces meaning (devs s old) (c.in_ok-last.last + 1) c.args.update n next u

pub returns-clause-moments : goal.returns-clause-moments
returns-clause-moments g c meaning none n =
    let s = g.D.Disk.state in
    let old = c.args.self.now in
    let update = c.args.update in
    let f = c.in_ok-free.ensures.free in
    let version : ℕ = c.in_ok-last.last + 1 in
    let all : seen s old ≡ devs s old = seen_all s old none in
    let r : Replaces (devs s old) (entry_for (devs s old) version update) update.fresh (stored_for (devs s old) version update) = returns-clause-replaces g c meaning none n in
    let R : List Write → Devs → Type 0 = IsMoment (meaning_with meaning version update.fresh) (devs s old).held (stored_for (devs s old) version update) in
    let runs : Runs R (devs s old) (update_writes (entry_for (devs s old) version update) update.fresh (stored_for (devs s old) version update)) =
    update_runs meaning (devs s old) (entry_for (devs s old) version update) update.fresh (stored_for (devs s old) version update) n (c.requires.closed f.0 f.1) r in
    let mid = c.newest.new.self in
    let new = record c.prepare.new.self { agenda = c.in_ok-tasks.tasks } in
    let first : devs s mid ≡ devs s old = c.in_ok-last.ensures.waits.same (λ is. cc) in
    let same : seen s mid ≡ devs s old = still_seen s old mid first c.in_ok-last.ensures.scanned ∙ all in
    let made = subst (λ (d : Devs). writes_of new ≡ update_writes (entry_for d version update) update.fresh (stored_for d version update)) same c.in_ok-tasks.ensures.tasks in
    subst (λ (d : Devs). Runs R d (writes_of new)) (sym (c.in_ok-tasks.ensures.waits.same (λ is. cc) ∙ first)) (subst (λ (l : List Write). Runs R (devs s old) l) (sym made) runs)

pub returns-clause-whole : goal.returns-clause-whole
returns-clause-whole g c meaning none n w =
    let s = g.D.Disk.state in
    let old = c.args.self.now in
    let f = c.in_ok-free.ensures.free in
    let all : seen s old ≡ devs s old = seen_all s old none in
    let next : IsNextVersion (devs s old).held (c.in_ok-last.last + 1) = subst (λ (d : Devs). IsNextVersion d.held (c.in_ok-last.last + 1)) all (c.in_ok-last.last, c.in_ok-last.ensures.greatest, refl) in
    let u : IsUpdate (devs s old) c.args.update = subst (λ (d : Devs). IsUpdate d c.args.update) all (c.requires.update f.0 f.1) in
    update_whole meaning (devs s old) (c.in_ok-last.last + 1) c.args.update n next u w

pub returns-in_err-free-clause-spent : goal.returns-in_err-free-clause-spent
returns-in_err-free-clause-spent g c none up idle is = absurd (not_refused g.D.Disk.state c.args.self.now c.in_err-free.field-0.0 up idle c.in_err-free.ensures)

pub returns-in_err-last-clause-spent : goal.returns-in_err-last-clause-spent
returns-in_err-last-clause-spent g c none up idle is = absurd (let ok = c.in_err-last.ensures.known none in cc)

pub returns-in_err-tasks-clause-spent : goal.returns-in_err-tasks-clause-spent
returns-in_err-tasks-clause-spent g c none up idle is = absurd (c.if-last-eq-NUMBER_MAX.false (one_version (seen g.D.Disk.state c.args.self.now).held c.in_ok-last.last NUMBER_MAX c.in_ok-last.ensures.greatest is))

pub returns-clause-spent : goal.returns-clause-spent
returns-clause-spent g c none up idle is = absurd (c.if-last-eq-NUMBER_MAX.false (one_version (seen g.D.Disk.state c.args.self.now).held c.in_ok-last.last NUMBER_MAX c.in_ok-last.ensures.greatest is))
