use Rattle.std.proofs.Common.{◌≡◌, ◌+◌, ◌≤◌, ℕ, List, [], length, Option, Some, None, Ok, Err, inl, inr, ⊎_elim, refl, sym, ◌∙◌, ap, subst, arith}
use Rattle.std.proofs.lemmas.Result.{err_from_is_err_and}
use Rattle.std.proofs.lemmas.List.{nil_from_length}
use Rattle.std.specs.Prelude.{IfOk, IsErrOf}
use Rattle.std.specs.BTreeSet.{contains}
use Rattle.stab_base.specs.declared.row_version.RowVersion.{RowVersion}
use Rattle.row_store.specs.declared.fault.RowFault.TheVariants as row_faults
use Rattle.row_store.specs.Data.{id_cmp, IsTableVersion, AreChangedSince}
use Rattle.row_store.specs.Standing as rows
use Rattle.store_commit.specs.declared.fault.CommitFault.{CommitFault}
use Rattle.store_commit.specs.declared.fault.CommitFault.TheVariants.{Memory}
use Rattle.store_commit.specs.Devs.{Devs}
use Rattle.store_commit.specs.Standing.{devs, seen, hidden_of, NothingHidden}
use Rattle.store_commit.proofs.Seen.{seen_all, newest_there}
use Rattle.store_commit.proofs.Waiting.{none_waits, row_listed}
use Rattle.store_commit.proofs.Asking.{listed_memory, was_ok}
use Rattle.store_commit.proofs.devs.TableDevs.newest.Goals as goal

pub returns-then-is_empty-clause-waits : goal.returns-then-is_empty-clause-waits
returns-then-is_empty-clause-waits g c = none_waits g.D.Disk.state g.D.Disk.images g.met.D.Disk.only_now c.args.self.now c.requires.up c.requires.rests (Ok c.table_version-most.result) (λ is. cc) tt

pub returns-then-is_empty-clause-greatest : goal.returns-then-is_empty-clause-greatest
returns-then-is_empty-clause-greatest g c =
    let s = g.D.Disk.state in
    let old = c.args.self.now in
    let none : NothingHidden old = nil_from_length _ (c.is_empty.ensures.0 c.if-is_empty.true) in
    subst (λ (d : Devs). IsTableVersion d.held c.table_version-most.result) (sym (seen_all s old none)) (c.table_version-most.ensures.greatest c.requires.up.rows)

pub returns-in_err-rows-clause-waits : goal.returns-in_err-rows-clause-waits
returns-in_err-rows-clause-waits g c =
    let s = g.D.Disk.state in
    let old = c.args.self.now in
    let p = err_from_is_err_and c.from_residual.result c.from_residual.ensures.1 in
    let e = c.changed_since.ensures in
    let not_down : IsErrOf c.changed_since.result row_faults.Down → ⊥ = λ is. let down = e.down.0 is in let up = c.requires.up.rows in cc in
    let kind : c.in_err-rows.field-0.0 ≡ Memory = listed_memory c.changed_since.result c.in_err-rows.field-0.0 e.not_no_row e.not_disk not_down c.in_err-rows.ensures in
    rw (p.1, p.2, kind) (row_listed s g.D.Disk.images g.met.D.Disk.only_now old c.requires.up c.requires.rests c.changed_since.new.self (Err Memory) e.stays e.vault (λ is. cc) (inr refl))

pub returns-in_err-rows-clause-known : goal.returns-in_err-rows-clause-known
returns-in_err-rows-clause-known g c none = absurd (let yes_ = c.is_empty.ensures.1 (ap length none) in let no_ = c.if-is_empty.false in cc)

pub returns-in_err-rows-clause-unchanged : goal.returns-in_err-rows-clause-unchanged
returns-in_err-rows-clause-unchanged g c none = absurd (let yes_ = c.is_empty.ensures.1 (ap length none) in let no_ = c.if-is_empty.false in cc)

pub returns-clause-unchanged : goal.returns-clause-unchanged
returns-clause-unchanged g c none = absurd (let yes_ = c.is_empty.ensures.1 (ap length none) in let no_ = c.if-is_empty.false in cc)

pub returns-clause-waits : goal.returns-clause-waits
returns-clause-waits g c =
    let e = c.changed_since.ensures in
    row_listed g.D.Disk.state g.D.Disk.images g.met.D.Disk.only_now c.args.self.now c.requires.up c.requires.rests c.changed_since.new.self (Ok c.newest_of.result) e.stays e.vault (λ is. cc) tt

pub returns-clause-greatest : goal.returns-clause-greatest
returns-clause-greatest g c =
    let s = g.D.Disk.state in
    let old = c.args.self.now in
    let is = was_ok c.changed_since.result c.in_ok-rows.rows c.in_ok-rows.ensures in
    let held = (devs s old).held in
    let all : AreChangedSince held 0 c.in_ok-rows.rows = subst (λ x. IfOk x (AreChangedSince held 0)) is c.changed_since.ensures.changed in
    newest_there (contains id_cmp (hidden_of old)) held c.as_slice.result.now c.newest_of.result (subst (λ (l : List RowVersion). AreChangedSince held 0 l) (sym c.as_slice.ensures) all) c.newest_of.ensures

pub returns-clause-most : goal.returns-clause-most
returns-clause-most g c =
    let s = g.D.Disk.state in
    let old = c.args.self.now in
    let is = was_ok c.changed_since.result c.in_ok-rows.rows c.in_ok-rows.ensures in
    let held = (devs s old).held in
    let all : AreChangedSince held 0 c.as_slice.result.now = subst (λ (l : List RowVersion). AreChangedSince held 0 l) (sym c.as_slice.ensures) (subst (λ x. IfOk x (AreChangedSince held 0)) is c.changed_since.ensures.changed) in
    let top = c.table_version-most.ensures.greatest c.requires.up.rows in
    let most = c.table_version-most.ensures.most c.requires.up.rows in
    ⊎_elim (λ none. omega arith) (λ a. let le = top.greatest a.0.row a.0.version (all.only a.0 a.1).1 in omega (arith, le, most, a.3)) c.newest_of.ensures.attained
