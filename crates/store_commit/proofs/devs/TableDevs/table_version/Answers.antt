use Rattle.std.proofs.Common.{◌≡◌, ◌+◌, ◌≤◌, ℕ, List, [], length, Option, Some, None, Ok, Err, inl, inr, ⊎_elim, refl, sym, ◌∙◌, ap, subst, arith}
use Rattle.std.proofs.lemmas.Result.{err_from_is_err_and}
use Rattle.std.proofs.lemmas.List.{nil_from_length}
use Rattle.std.specs.Prelude.{IfOk, IsErrOf, not, filter}
use Rattle.std.specs.BTreeMap.{is_at}
use Rattle.std.specs.BTreeSet.{contains}
use Rattle.stab_base.specs.declared.row_version.RowVersion.{RowVersion}
use Rattle.row_store.specs.Data.{id_cmp, row_of, IsTableVersion, AreChangedSince}
use Rattle.row_store.specs.Standing as rows
use Rattle.store_commit.specs.declared.fault.CommitFault.TheVariants.{Memory}
use Rattle.store_commit.specs.Devs.{Devs}
use Rattle.store_commit.specs.Standing.{devs, seen, hidden_of, NothingHidden}
use Rattle.store_commit.proofs.Seen.{seen_all, newest_there, changed_there, row_hidden, row_there}
use Rattle.store_commit.proofs.Asking.{asks_down, asks_none, asks_rows, asks_caused, asks_row, asks_chunk, reads_listed, was_ok}
use Rattle.store_commit.proofs.devs.TableDevs.table_version.Goals as goal

pub returns-then-is_empty-clause-asks : goal.returns-then-is_empty-clause-asks
returns-then-is_empty-clause-asks g c =
    let up = c.if-is_down.ensures in
    asks_none g.D.Disk.state g.D.Disk.images g.met.D.Disk.only_now c.args.self.now up (c.requires up) (Ok c.table_version.result) (λ is. cc) tt

pub returns-then-is_empty-clause-greatest : goal.returns-then-is_empty-clause-greatest
returns-then-is_empty-clause-greatest g c =
    let s = g.D.Disk.state in
    let old = c.args.self.now in
    let up = c.if-is_down.ensures in
    let none : NothingHidden old = nil_from_length _ (c.is_empty.ensures.0 c.if-is_empty.true) in
    subst (λ (d : Devs). IsTableVersion d.held c.table_version.result) (sym (seen_all s old none)) (c.table_version.ensures.greatest up.rows)

pub returns-in_err-rows-clause-asks : goal.returns-in_err-rows-clause-asks
returns-in_err-rows-clause-asks g c =
    let s = g.D.Disk.state in
    let old = c.args.self.now in
    let up = c.if-is_down.ensures in
    let looked = c.requires up in
    let p = err_from_is_err_and c.from_residual.result c.from_residual.ensures.1 in
    let e = c.changed_since.ensures in
    let k = reads_listed s g.D.Disk.images g.met.D.Disk.only_now old.rows c.changed_since.new.self c.changed_since.result looked.rows e.stays e.vault e.not_no_row e.not_disk e.down.0 in
    rw (p.1, p.2) (asks_caused s g.D.Disk.images g.met.D.Disk.only_now old up looked c.changed_since.new.self c.changed_since.result k c.in_err-rows.field-0.0 (sym c.in_err-rows.ensures))

pub returns-clause-asks : goal.returns-clause-asks
returns-clause-asks g c =
    let s = g.D.Disk.state in
    let old = c.args.self.now in
    let up = c.if-is_down.ensures in
    let looked = c.requires up in
    let e = c.changed_since.ensures in
    let k = reads_listed s g.D.Disk.images g.met.D.Disk.only_now old.rows c.changed_since.new.self c.changed_since.result looked.rows e.stays e.vault e.not_no_row e.not_disk e.down.0 in
    asks_rows s g.D.Disk.images g.met.D.Disk.only_now old up looked c.changed_since.new.self c.changed_since.result (Ok c.newest_of.result) k (λ is. cc) (λ is. absurd (e.not_disk is)) tt

pub returns-clause-greatest : goal.returns-clause-greatest
returns-clause-greatest g c =
    let s = g.D.Disk.state in
    let old = c.args.self.now in
    let r = c.changed_since.result in
    let is = was_ok r c.in_ok-rows.rows c.in_ok-rows.ensures in
    let held = (devs s old).held in
    let all : AreChangedSince held 0 c.in_ok-rows.rows = subst (λ x. IfOk x (AreChangedSince held 0)) is c.changed_since.ensures.changed in
    newest_there (contains id_cmp (hidden_of old)) held c.as_slice.result.now c.newest_of.result (subst (λ (l : List RowVersion). AreChangedSince held 0 l) (sym c.as_slice.ensures) all) c.newest_of.ensures
