use Rattle.std.proofs.Common.{◌≡◌, ◌+◌, ◌++◌, ◌∷◌, [], ℕ, List, length, take, drop, Bool, true, false, Option, Some, None, Result, Ok, Err, inr, inl, refl, sym, ◌∙◌, ap, subst, arith}
use Rattle.std.specs.Map.{keys_of}
use Rattle.std.specs.Prelude.{IfOk, IsErrOf}
use Rattle.std.specs.List.Sorted.{IsStrictlySortedBy}
use Rattle.std.proofs.lemmas.Result.{err_from_is_err_and, IfOk-weaker}
use Rattle.chunk_store.specs.Standing as chunks
use Rattle.row_value.specs.declared.schema.Schema.{Schema}
use Rattle.row_store.specs.declared.fault.RowFault.{RowFault}
use Rattle.row_store.specs.declared.stored.StoredRow.{StoredRow}
use Rattle.row_store.specs.Data.{TableData, id_cmp, data_of}
use Rattle.row_store.specs.Standing as rows
use Rattle.store_commit.specs.Scan.{IsScanned}
use Rattle.store_commit.proofs.Asking.{reads_listed, reads_short, reads_err, reads_then}
use Rattle.store_commit.proofs.Scans.{scanned_all}
use Rattle.store_commit.proofs.scan.find_rows.Goals as goal

pub returns-in_err-ids-clause-reads : goal.returns-in_err-ids-clause-reads
returns-in_err-ids-clause-reads g c =
    let p = err_from_is_err_and c.from_residual.result c.from_residual.ensures.1 in
    let s = g.D.Disk.state in
    let e = c.in_err-ids.ensures in
    let r : Result (List (List ℕ)) RowFault = Err c.in_err-ids.field-0.0 in
    let k = reads_listed s g.D.Disk.images g.met.D.Disk.only_now c.args.row_dev.now c.ids.new.self r c.requires.row_looked e.stays e.vault e.not_no_row e.not_disk e.down.0 in
    rw (p.1, p.2) (reads_err s g.D.Disk.images g.met.D.Disk.only_now c.args.row_dev.now c.ids.new.self c.in_err-ids.field-0.0 k)

pub returns-in_err-table-clause-reads : goal.returns-in_err-table-clause-reads
returns-in_err-table-clause-reads g c =
    let p = err_from_is_err_and c.from_residual-in_err-table.result c.from_residual-in_err-table.ensures.1 in
    let s = g.D.Disk.state in
    let e = c.in_ok-ids.ensures in
    let k = reads_listed s g.D.Disk.images g.met.D.Disk.only_now c.args.row_dev.now c.ids.new.self (Ok c.in_ok-ids.ids) c.requires.row_looked e.stays e.vault e.not_no_row e.not_disk e.down.0 in
    rw (p.1, p.2) (reads_short s g.D.Disk.images g.met.D.Disk.only_now c.args.row_dev.now c.ids.new.self c.in_ok-ids.ids k)

pub scan_rows-requires-clause-row_up : goal.scan_rows-requires-clause-row_up
scan_rows-requires-clause-row_up g c = c.in_ok-ids.ensures.stays.down ∙ c.requires.row_up

pub scan_rows-requires-clause-row_looked : goal.scan_rows-requires-clause-row_looked
scan_rows-requires-clause-row_looked g c = c.in_ok-ids.ensures.stays.looked c.requires.row_looked

pub scan_rows-requires-clause-ids : goal.scan_rows-requires-clause-ids
scan_rows-requires-clause-ids g c = c.as_slice.ensures ∙ (c.in_ok-ids.ensures.ids ∙ ap (λ (d : TableData). keys_of d.rows) (sym (ap data_of c.in_ok-ids.ensures.stays.same)))

pub scan_rows-requires-clause-rising : goal.scan_rows-requires-clause-rising
scan_rows-requires-clause-rising g c = subst (IsStrictlySortedBy id_cmp) (sym c.as_slice.ensures) c.in_ok-ids.ensures.rising

pub returns-clause-reads : goal.returns-clause-reads
returns-clause-reads g c =
    let s = g.D.Disk.state in
    let e = c.in_ok-ids.ensures in
    let k = reads_listed s g.D.Disk.images g.met.D.Disk.only_now c.args.row_dev.now c.ids.new.self (Ok c.in_ok-ids.ids) c.requires.row_looked e.stays e.vault e.not_no_row e.not_disk e.down.0 in
    reads_then s g.D.Disk.images g.met.D.Disk.only_now c.args.row_dev.now c.ids.new.self c.scan_rows.new.row_dev c.in_ok-ids.ids c.scan_rows.result k c.scan_rows.ensures.reads

pub returns-clause-found : goal.returns-clause-found
returns-clause-found g c =
    let s = g.D.Disk.state in
    let held = rows.held s c.args.row_dev.now in
    let mid = rows.held s c.ids.new.self in
    let same : mid ≡ held = ap data_of c.in_ok-ids.ensures.stays.same in
    let up_mid = c.in_ok-ids.ensures.stays.down ∙ c.requires.row_up in
    let table : c.in_ok-table.table ≡ held.table = c.in_ok-table.ensures up_mid ∙ ap (λ (d : TableData). d.table) same in
    let rising : IsStrictlySortedBy id_cmp (keys_of held.rows) = subst (IsStrictlySortedBy id_cmp) c.in_ok-ids.ensures.ids c.in_ok-ids.ensures.rising in
    let cs = chunks.chunks s c.args.chunk_dev.now in
    IfOk-weaker c.scan_rows.result _ _ (λ found scanned.
    let at_held = subst (λ (d : TableData). IsScanned cs c.in_ok-table.table d.rows [] found) same scanned in
    scanned_all cs held found (subst (λ (t : Option (Schema × ℕ)). IsScanned cs t held.rows [] found) table at_held) rising) c.scan_rows.ensures.found
