use Rattle.std.proofs.Common.{◌≡◌, ◌+◌, ◌++◌, ◌∷◌, ◌≤◌, [], ℕ, List, length, take, drop, Bool, true, false, Option, Some, None, Result, Ok, Err, inr, inl, refl, sym, ◌∙◌, ap, subst, arith}
use Rattle.std.specs.Prelude.{IsSome, is_some}
use Rattle.std.specs.Map.{keys_of}
use Rattle.std.specs.List.Sorted.{IsStrictlySortedBy}
use Rattle.std.proofs.lemmas.Result.{err_from_is_err_and}
use Rattle.std.proofs.lemmas.List.{drop_all}
use Rattle.chunk_store.specs.Standing as chunks
use Rattle.row_store.specs.declared.fault.RowFault.{RowFault}
use Rattle.row_store.specs.declared.stored.StoredRow.{StoredRow}
use Rattle.row_store.specs.Data.{TableData, id_cmp, row_of, data_of}
use Rattle.row_store.specs.Standing as rows
use Rattle.store_commit.specs.Scan.{IsScanned}
use Rattle.store_commit.proofs.Asking.{reads_none, reads_then, reads_err, reads_named}
use Rattle.store_commit.proofs.Scans.{the_entry, its_id, its_row, scanned_none, scanned_next}
use Rattle.store_commit.proofs.scan.scan_rows.Goals as goal

pub loop-row-init : goal.loop-row-init
loop-row-init g c = (
  reads_none g.D.Disk.state g.D.Disk.images g.met.D.Disk.only_now c.args.row_dev.now tt c.requires.row_looked,
  scanned_none (chunks.chunks g.D.Disk.state c.args.chunk_dev.now) c.args.table.now (rows.held g.D.Disk.state c.args.row_dev.now).rows c.nothing-found.result c.nothing-found.ensures.named c.nothing-found.ensures.hidden,
)

pub scan_row-requires-clause-row_up : goal.scan_row-requires-clause-row_up
scan_row-requires-clause-row_up g c = let k = c.loop-row.invariant.0.stays (λ is. cc) in k.down ∙ c.requires.row_up

pub scan_row-requires-clause-row_looked : goal.scan_row-requires-clause-row_looked
scan_row-requires-clause-row_looked g c = let k = c.loop-row.invariant.0.stays (λ is. cc) in k.looked c.requires.row_looked

pub scan_row-requires-clause-there : goal.scan_row-requires-clause-there
scan_row-requires-clause-there g c =
    let s = g.D.Disk.state in
    let held = rows.held s c.args.row_dev.now in
    let k = c.loop-row.invariant.0.stays (λ is. cc) in
    let rising : IsStrictlySortedBy id_cmp (keys_of held.rows) = subst (IsStrictlySortedBy id_cmp) c.requires.ids c.requires.rising in
    let at = its_row held rising c.args.ids.now c.requires.ids c.loop-row.row-index c.row-item.result c.row-item.result c.loop-row-test.true c.row-item.is in
    ap (λ (d : TableData). is_some (row_of d c.row-item.result)) (ap data_of k.same) ∙ ap is_some at

pub loop-row-preserved : goal.loop-row-preserved
loop-row-preserved g c =
    let s = g.D.Disk.state in
    let held = rows.held s c.args.row_dev.now in
    let now = c.loop-row.row_dev in
    let k = c.loop-row.invariant.0.stays (λ is. cc) in
    let rising : IsStrictlySortedBy id_cmp (keys_of held.rows) = subst (IsStrictlySortedBy id_cmp) c.requires.ids c.requires.rising in
    let e = the_entry held rising c.args.ids.now c.requires.ids c.loop-row.row-index c.row-item.result c.row-item.result c.loop-row-test.true c.row-item.is in
    let id = its_id held rising c.args.ids.now c.requires.ids c.loop-row.row-index c.row-item.result c.row-item.result c.loop-row-test.true c.row-item.is in
    let at = its_row held rising c.args.ids.now c.requires.ids c.loop-row.row-index c.row-item.result c.row-item.result c.loop-row-test.true c.row-item.is in
    let at_now : row_of (rows.held s now) c.row-item.result ≡ Some e.0.1 = ap (λ (d : TableData). row_of d c.row-item.result) (ap data_of k.same) ∙ at in (
      reads_then s g.D.Disk.images g.met.D.Disk.only_now c.args.row_dev.now now c.scan_row.new.row_dev tt (Ok tt) c.loop-row.invariant.0 c.in_ok-scan_row.ensures.reads,
      scanned_next (chunks.chunks s c.args.chunk_dev.now) c.args.table.now held.rows c.loop-row.row-index e.0 e.1 c.row-item.result id c.loop-row.found c.scan_row.new.found c.loop-row.invariant.1 (c.in_ok-scan_row.ensures.noted e.0.1 at_now),
    )

pub returns-in_err-scan_row-clause-reads : goal.returns-in_err-scan_row-clause-reads
returns-in_err-scan_row-clause-reads g c =
    let p = err_from_is_err_and c.from_residual.result c.from_residual.ensures.1 in
    let s = g.D.Disk.state in
    let r : Result (Unit {0}) RowFault = Err c.in_err-scan_row.field-0.0 in
    let both = reads_then s g.D.Disk.images g.met.D.Disk.only_now c.args.row_dev.now c.loop-row.row_dev c.scan_row.new.row_dev tt r c.loop-row.invariant.0 c.in_err-scan_row.ensures.reads in
    rw (p.1, p.2) (reads_err s g.D.Disk.images g.met.D.Disk.only_now c.args.row_dev.now c.scan_row.new.row_dev c.in_err-scan_row.field-0.0 both)

pub returns-clause-reads : goal.returns-clause-reads
returns-clause-reads g c = reads_named g.D.Disk.state g.D.Disk.images g.met.D.Disk.only_now c.args.row_dev.now c.loop-row.row_dev tt c.loop-row.found c.loop-row.invariant.0

pub returns-clause-found : goal.returns-clause-found
returns-clause-found g c =
    let s = g.D.Disk.state in
    let all = (rows.held s c.args.row_dev.now).rows in
    let over : length all ≤ c.loop-row.row-index = all_over all c.args.ids.now c.loop-row.row-index c.requires.ids c.loop-row-test.false in
    subst (λ (l : List (List ℕ × StoredRow)). IsScanned (chunks.chunks s c.args.chunk_dev.now) c.args.table.now all l c.loop-row.found) (drop_all c.loop-row.row-index all over) c.loop-row.invariant.1
  where
    keys_len : (all : List (List ℕ × StoredRow)) → length (keys_of all) ≡ length all
    keys_len [] = refl
    keys_len (e ∷ all) = omega (arith, keys_len all)

    all_over : (all : List (List ℕ × StoredRow)) (ids : List (List ℕ)) (i : ℕ) → ids ≡ keys_of all → length ids ≤ i → length all ≤ i
    all_over all ids i are le = omega (arith, ap (λ (l : List (List ℕ)). length l) are, keys_len all, le)
