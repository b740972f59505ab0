use Rattle.std.proofs.Common.{◌≡◌, ◌+◌, ◌≤◌, ℕ, List, [], length, Option, Some, None, Ok, Err, inl, inr, ⊎_elim, refl, sym, ◌∙◌, ap, subst, arith}
use Rattle.std.proofs.lemmas.Result.{err_from_is_err_and}
use Rattle.std.proofs.lemmas.List.{nil_from_length}
use Rattle.std.specs.Prelude.{IfOk, IsErrOf, slice_get}
use Rattle.stab_base.specs.declared.row_version.RowVersion.{RowVersion}
use Rattle.row_store.specs.Data.{IsNextChanged}
use Rattle.row_store.specs.Standing as rows
use Rattle.store_commit.specs.Fault.{row_cause}
use Rattle.store_commit.specs.Devs.{Devs}
use Rattle.store_commit.specs.Standing.{devs, seen, NothingHidden}
use Rattle.store_commit.proofs.Seen.{seen_all, first_changed}
use Rattle.store_commit.proofs.Asking.{asks_listed, asks_err, asks_named, reads_listed, caused_ok}
use Rattle.store_commit.proofs.devs.TableDevs.next_changed.Goals as goal

pub returns-then-is_empty-clause-asks : goal.returns-then-is_empty-clause-asks
returns-then-is_empty-clause-asks g c =
    let s = g.D.Disk.state in
    let old = c.args.self.now in
    let up = c.if-is_down.ensures in
    let looked = c.requires up in
    let e = c.next_changed.ensures in
    let k = reads_listed s g.D.Disk.images g.met.D.Disk.only_now old.rows c.next_changed.new.self c.next_changed.result looked.rows e.stays e.vault e.not_no_row e.not_disk e.down.0 in
    rw c.of_rows.ensures (asks_listed s g.D.Disk.images g.met.D.Disk.only_now old up looked c.next_changed.new.self c.next_changed.result k)

pub returns-then-is_empty-clause-next : goal.returns-then-is_empty-clause-next
returns-then-is_empty-clause-next g c =
    let s = g.D.Disk.state in
    let old = c.args.self.now in
    let none : NothingHidden old = nil_from_length _ (c.is_empty.ensures.0 c.if-is_empty.true) in
    rw c.of_rows.ensures (caused_ok row_cause (IsNextChanged (seen s old).held c.args.position) c.next_changed.result
    (subst (λ (d : Devs). IfOk c.next_changed.result (IsNextChanged d.held c.args.position)) (sym (seen_all s old none)) c.next_changed.ensures.next))

pub returns-in_err-rows-clause-asks : goal.returns-in_err-rows-clause-asks
returns-in_err-rows-clause-asks g c =
    let p = err_from_is_err_and c.from_residual.result c.from_residual.ensures.1 in
    rw (p.1, p.2) (asks_err g.D.Disk.state g.D.Disk.images g.met.D.Disk.only_now c.args.self.now c.changed_since.new.self c.in_err-rows.field-0.0 c.in_err-rows.ensures.asks)

pub returns-clause-asks : goal.returns-clause-asks
returns-clause-asks g c = asks_named g.D.Disk.state g.D.Disk.images g.met.D.Disk.only_now c.args.self.now c.changed_since.new.self c.in_ok-rows.rows c.copied.result c.in_ok-rows.ensures.asks

pub returns-clause-next : goal.returns-clause-next
returns-clause-next g c =
    let s = g.D.Disk.state in
    let old = c.args.self.now in
    let first : c.copied.result ≡ slice_get c.in_ok-rows.rows 0 = c.copied.ensures ∙ (c.first.ensures.value ∙ ap (λ (l : List RowVersion). slice_get l 0) c.as_slice.ensures) in
    subst (IsNextChanged (seen s old).held c.args.position) (sym first) (first_changed (seen s old).held c.args.position c.in_ok-rows.rows c.in_ok-rows.ensures.changed)
