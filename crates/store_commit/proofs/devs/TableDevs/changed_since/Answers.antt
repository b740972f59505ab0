use Rattle.std.proofs.Common.{◌≡◌, ◌+◌, ◌≤◌, ℕ, List, [], length, Option, Some, None, Ok, Err, inl, inr, ⊎_elim, refl, sym, ◌∙◌, ap, subst, arith}
use Rattle.std.proofs.lemmas.Result.{err_from_is_err_and}
use Rattle.std.proofs.lemmas.List.{nil_from_length}
use Rattle.std.specs.Prelude.{IfOk, IsErrOf, not, filter}
use Rattle.std.specs.BTreeMap.{is_at}
use Rattle.std.specs.BTreeSet.{contains}
use Rattle.stab_base.specs.declared.row_version.RowVersion.{RowVersion}
use Rattle.row_store.specs.Data.{id_cmp, row_of, IsTableVersion, AreChangedSince}
use Rattle.row_store.specs.Standing as rows
use Rattle.store_commit.specs.declared.fault.CommitFault.TheVariants.{Memory}
use Rattle.store_commit.specs.Devs.{Devs}
use Rattle.store_commit.specs.Standing.{devs, seen, hidden_of, NothingHidden}
use Rattle.store_commit.proofs.Seen.{seen_all, newest_there, changed_there, row_hidden, row_there}
use Rattle.store_commit.proofs.Asking.{asks_down, asks_none, asks_rows, asks_caused, asks_row, asks_chunk, reads_listed, was_ok}
use Rattle.store_commit.proofs.devs.TableDevs.changed_since.Goals as goal

pub returns-in_err-rows-clause-asks : goal.returns-in_err-rows-clause-asks
returns-in_err-rows-clause-asks g c =
    let s = g.D.Disk.state in
    let old = c.args.self.now in
    let up = c.if-is_down.ensures in
    let looked = c.requires up in
    let p = err_from_is_err_and c.from_residual.result c.from_residual.ensures.1 in
    let e = c.changed_since.ensures in
    let k = reads_listed s g.D.Disk.images g.met.D.Disk.only_now old.rows c.changed_since.new.self c.changed_since.result looked.rows e.stays e.vault e.not_no_row e.not_disk e.down.0 in
    rw (p.1, p.2) (asks_caused s g.D.Disk.images g.met.D.Disk.only_now old up looked c.changed_since.new.self c.changed_since.result k c.in_err-rows.field-0.0 (sym c.in_err-rows.ensures))

pub returns-in_err-shown-clause-asks : goal.returns-in_err-shown-clause-asks
returns-in_err-shown-clause-asks g c =
    let s = g.D.Disk.state in
    let old = c.args.self.now in
    let up = c.if-is_down.ensures in
    let looked = c.requires up in
    let p = err_from_is_err_and c.from_residual-in_err-shown.result c.from_residual-in_err-shown.ensures.1 in
    let e = c.changed_since.ensures in
    let k = reads_listed s g.D.Disk.images g.met.D.Disk.only_now old.rows c.changed_since.new.self c.changed_since.result looked.rows e.stays e.vault e.not_no_row e.not_disk e.down.0 in
    rw (p.1, p.2) (asks_rows s g.D.Disk.images g.met.D.Disk.only_now old up looked c.changed_since.new.self c.changed_since.result (Err Memory) k (λ is. cc) (λ is. absurd (e.not_disk is)) (inr refl))

pub returns-clause-asks : goal.returns-clause-asks
returns-clause-asks g c =
    let s = g.D.Disk.state in
    let old = c.args.self.now in
    let up = c.if-is_down.ensures in
    let looked = c.requires up in
    let e = c.changed_since.ensures in
    let k = reads_listed s g.D.Disk.images g.met.D.Disk.only_now old.rows c.changed_since.new.self c.changed_since.result looked.rows e.stays e.vault e.not_no_row e.not_disk e.down.0 in
    asks_rows s g.D.Disk.images g.met.D.Disk.only_now old up looked c.changed_since.new.self c.changed_since.result (Ok c.from_vec.result) k (λ is. cc) (λ is. absurd (e.not_disk is)) tt

pub returns-clause-changed : goal.returns-clause-changed
returns-clause-changed g c =
    let s = g.D.Disk.state in
    let old = c.args.self.now in
    let r = c.changed_since.result in
    let is = was_ok r c.in_ok-rows.rows c.in_ok-rows.ensures in
    let held = (devs s old).held in
    let all : AreChangedSince held c.args.position c.in_ok-rows.rows = subst (λ x. IfOk x (AreChangedSince held c.args.position)) is c.changed_since.ensures.changed in
    let hid = contains id_cmp (hidden_of old) in
    let there = changed_there hid held c.args.position c.in_ok-rows.rows all in
    let made = c.from_vec.ensures ∙ (c.in_ok-shown.ensures ∙ ap (λ (l : List RowVersion). filter (λ (each : RowVersion). not (hid each.row)) l) c.as_slice.ensures) in
    subst (λ (l : List RowVersion). AreChangedSince (seen s old).held c.args.position l) (sym made) there
