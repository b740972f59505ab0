use Rattle.std.proofs.Common.{◌≡◌, ◌≤◌, [], List, length, drop, Some, Ok, Err, refl, sym, ◌∙◌, ap, subst}
use Rattle.std.specs.Map.{keys_of}
use Rattle.std.specs.Prelude.{Result}
use Rattle.std.specs.List.Sorted.{IsStrictlySortedBy}
use Rattle.std.proofs.lemmas.Result.{err_from_is_err_and}
use Rattle.std.proofs.lemmas.List.{drop_all}
use Rattle.slot_store.specs.declared.held.RowKey.{RowKey}
use Rattle.slot_store.specs.declared.held.RowSlots.{RowSlots}
use Rattle.slot_store.specs.Data.{SlotData, key_cmp, slots_of}
use Rattle.client_journal.specs.declared.fault.JournalFault.{JournalFault}
use Rattle.client_journal.specs.declared.scanned.Scanned.{Scanned}
use Rattle.client_journal.specs.Devs.{ClientDevs}
use Rattle.client_journal.specs.Asking.{applied_if}
use Rattle.client_journal.specs.Scan.{NotesRow, IsScanned}
use Rattle.client_journal.specs.Standing.{devs}
use Rattle.client_journal.proofs.Asking.{stay_up, stay_looked, stay_devs, reads_none, reads_then, reads_other, reads_err}
use Rattle.client_journal.proofs.Scans.{the_entry, its_key, its_row, scanned_none, scanned_next, all_over, ok_not_disk}
use Rattle.client_journal.proofs.devs.Journal.scan_rows.Goals as goal

pub loop-key-init : goal.loop-key-init
loop-key-init g c =
    let d = devs g.D.Disk.state c.args.self.now in (
      reads_none g.D.Disk.state g.D.Disk.images g.met.D.Disk.only_now c.args.self.now c.requires.up c.requires.looked (Ok tt) (ok_not_disk tt) tt,
      scanned_none d.chunks (applied_if c.args.commit.now d.held) d.journal.greatest c.nothing-found.result c.nothing-found.ensures.named c.nothing-found.ensures.hidden,
    )

pub scan_row-requires-clause-up : goal.scan_row-requires-clause-up
scan_row-requires-clause-up g c = let k = c.loop-key.invariant.0.stay (ok_not_disk tt) in stay_up g.D.Disk.state c.args.self.now c.loop-key.self k c.requires.up

pub scan_row-requires-clause-looked : goal.scan_row-requires-clause-looked
scan_row-requires-clause-looked g c = let k = c.loop-key.invariant.0.stay (ok_not_disk tt) in stay_looked g.D.Disk.state c.args.self.now c.loop-key.self k c.requires.looked

pub loop-key-preserved : goal.loop-key-preserved
loop-key-preserved g c =
    let s = g.D.Disk.state in
    let d = devs s c.args.self.now in
    let held = applied_if c.args.commit.now d.held in
    let now = c.loop-key.self in
    let same : devs s now ≡ d = stay_devs s c.args.self.now now (c.loop-key.invariant.0.stay (ok_not_disk tt)) in
    let rising : IsStrictlySortedBy key_cmp (keys_of held.rows) = subst (IsStrictlySortedBy key_cmp) c.requires.keys c.requires.rising in
    let e = the_entry held rising c.args.keys.now c.requires.keys c.loop-key.key-index c.key-item.result c.key-item.result c.loop-key-test.true c.key-item.is in
    let key = its_key held rising c.args.keys.now c.requires.keys c.loop-key.key-index c.key-item.result c.key-item.result c.loop-key-test.true c.key-item.is in
    let at = its_row held rising c.args.keys.now c.requires.keys c.loop-key.key-index c.key-item.result c.key-item.result c.loop-key-test.true c.key-item.is in
    let noted = subst (λ (x : ClientDevs). (stored : RowSlots) → slots_of (applied_if c.args.commit.now x.held) c.key-item.result.table c.key-item.result.row ≡ Some stored
    → NotesRow x.chunks (applied_if c.args.commit.now x.held) x.journal.greatest c.key-item.result stored.slots c.loop-key.found c.scan_row.new.found) same c.in_ok-scan_row.ensures.noted in (
      reads_then s g.D.Disk.images c.args.self.now now c.scan_row.new.self tt c.loop-key.invariant.0 (Ok tt) c.in_ok-scan_row.ensures.reads,
      scanned_next d.chunks held d.journal.greatest c.loop-key.key-index e.0 e.1 c.key-item.result key c.loop-key.found c.scan_row.new.found c.loop-key.invariant.1 (noted e.0.1 at),
    )

pub returns-in_err-scan_row-clause-reads : goal.returns-in_err-scan_row-clause-reads
returns-in_err-scan_row-clause-reads g c =
    let p = err_from_is_err_and c.from_residual.result c.from_residual.ensures.1 in
    let s = g.D.Disk.state in
    let r : Result (Unit {0}) JournalFault = Err c.in_err-scan_row.field-0.0 in
    let both = reads_then s g.D.Disk.images c.args.self.now c.loop-key.self c.scan_row.new.self tt c.loop-key.invariant.0 r c.in_err-scan_row.ensures.reads in
    rw (p.1, p.2) (reads_err s g.D.Disk.images c.args.self.now c.scan_row.new.self c.in_err-scan_row.field-0.0 both)

pub returns-clause-reads : goal.returns-clause-reads
returns-clause-reads g c = reads_other g.D.Disk.state g.D.Disk.images c.args.self.now c.loop-key.self tt c.loop-key.invariant.0 _ (ok_not_disk c.loop-key.found) tt

pub returns-clause-found : goal.returns-clause-found
returns-clause-found g c =
    let d = devs g.D.Disk.state c.args.self.now in
    let held = applied_if c.args.commit.now d.held in
    let over : length held.rows ≤ c.loop-key.key-index = all_over held.rows c.args.keys.now c.loop-key.key-index c.requires.keys c.loop-key-test.false in
    subst (λ (l : List (RowKey × RowSlots)). IsScanned d.chunks held d.journal.greatest l c.loop-key.found) (drop_all c.loop-key.key-index held.rows over) c.loop-key.invariant.1
