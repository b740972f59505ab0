use Rattle.std.proofs.Common.{◌≡◌, ◌+◌, ◌≤◌, ℕ, List, [], length, Option, Some, None, Ok, Err, inl, inr, ⊎_elim, refl, sym, ◌∙◌, ap, subst, arith}
use Rattle.std.proofs.lemmas.Result.{err_from_is_err_and}
use Rattle.std.proofs.lemmas.List.{nil_from_length}
use Rattle.std.specs.Prelude.{IfOk, IsErrOf, not, filter}
use Rattle.std.specs.BTreeMap.{is_at}
use Rattle.std.specs.BTreeSet.{contains}
use Rattle.stab_base.specs.declared.row_version.RowVersion.{RowVersion}
use Rattle.row_store.specs.Data.{id_cmp, row_of, IsTableVersion, AreChangedSince}
use Rattle.row_store.specs.Standing as rows
use Rattle.store_commit.specs.declared.fault.CommitFault.TheVariants.{Memory}
use Rattle.store_commit.specs.Devs.{Devs}
use Rattle.store_commit.specs.Standing.{devs, seen, hidden_of, NothingHidden}
use Rattle.store_commit.proofs.Seen.{seen_all, newest_there, changed_there, row_hidden, row_there}
use Rattle.store_commit.proofs.Asking.{asks_down, asks_none, asks_rows, asks_caused, asks_row, asks_chunk, reads_listed, was_ok}
use Rattle.store_commit.specs.Fault.{found_of}
use Rattle.store_commit.specs.There.{shown}
use Rattle.store_commit.proofs.Seen.{standing_there, found_there, found_spelled}
use Rattle.store_commit.proofs.Waiting.{found_is}
use Rattle.store_commit.proofs.devs.TableDevs.row.Goals as goal

pub returns-then-contains-clause-asks : goal.returns-then-contains-clause-asks
returns-then-contains-clause-asks g c =
    let up = c.if-is_down.ensures in
    asks_none g.D.Disk.state g.D.Disk.images g.met.D.Disk.only_now c.args.self.now up (c.requires up) (Ok None) (λ is. cc) tt

pub returns-then-contains-clause-row : goal.returns-then-contains-clause-row
returns-then-contains-clause-row g c =
    let old = c.args.self.now in
    row_hidden (contains id_cmp (hidden_of old)) (devs g.D.Disk.state old).held c.args.row.now (sym c.contains.ensures ∙ c.if-contains.true)

pub returns-clause-asks : goal.returns-clause-asks
returns-clause-asks g c =
    let up = c.if-is_down.ensures in
    rw c.found_row.ensures (asks_row g.D.Disk.state g.D.Disk.images g.met.D.Disk.only_now c.args.self.now up (c.requires up) c.get_row.new.self c.get_row.result c.get_row.ensures.reads c.get_row.ensures.no_row_unchanged)

pub returns-clause-row : goal.returns-clause-row
returns-clause-row g c =
    let old = c.args.self.now in
    let held = (devs g.D.Disk.state old).held in
    let hid = contains id_cmp (hidden_of old) in
    let e = c.get_row.ensures in
    let st = found_is held c.args.row.now c.get_row.result e.row e.spelled e.short (λ is. (e.no_row.0 is).1) in
    rw c.found_row.ensures (found_there (shown hid held) c.args.row.now (found_of c.get_row.result) (standing_there hid held c.args.row.now (found_of c.get_row.result) (sym c.contains.ensures ∙ c.if-contains.false) st))

pub returns-clause-spelled : goal.returns-clause-spelled
returns-clause-spelled g c =
    let held = (devs g.D.Disk.state c.args.self.now).held in
    let e = c.get_row.ensures in
    let st = found_is held c.args.row.now c.get_row.result e.row e.spelled e.short (λ is. (e.no_row.0 is).1) in
    rw c.found_row.ensures (found_spelled held c.args.row.now (found_of c.get_row.result) st)
