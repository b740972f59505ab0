use Rattle.std.proofs.Common.{◌≡◌, [], inr, List, Ok, Err, refl, sym, ◌∙◌, ap, subst}
use Rattle.std.specs.Map.{keys_of}
use Rattle.std.specs.List.Sorted.{IsStrictlySortedBy}
use Rattle.std.proofs.lemmas.Result.{err_from_is_err_and, IfOk-weaker}
use Rattle.slot_store.specs.declared.held.RowKey.{RowKey}
use Rattle.slot_store.specs.Data.{SlotData, key_cmp}
use Rattle.client_journal.specs.declared.fault.JournalFault.TheVariants.{Memory}
use Rattle.client_journal.specs.Devs.{ClientDevs}
use Rattle.client_journal.specs.Asking.{applied_if}
use Rattle.client_journal.specs.Scan.{IsScanned}
use Rattle.client_journal.specs.Standing.{devs}
use Rattle.client_journal.proofs.Asking.{stay_up, stay_looked, stay_devs, reads_then, reads_other, reads_err}
use Rattle.client_journal.proofs.Behind.{redone_by_is}
use Rattle.client_journal.proofs.Scans.{scanned_all}
use Rattle.client_journal.proofs.devs.Journal.find_rows.Goals as goal

pub held_keys-requires-clause-up : goal.held_keys-requires-clause-up
held_keys-requires-clause-up g c = let k = c.in_ok-commit.ensures.reads.stay (λ is. cc) in stay_up g.D.Disk.state c.args.self.now c.commit_at_work.new.self k c.requires.up

pub held_keys-requires-clause-looked : goal.held_keys-requires-clause-looked
held_keys-requires-clause-looked g c = let k = c.in_ok-commit.ensures.reads.stay (λ is. cc) in stay_looked g.D.Disk.state c.args.self.now c.commit_at_work.new.self k c.requires.looked

pub returns-in_err-commit-clause-reads : goal.returns-in_err-commit-clause-reads
returns-in_err-commit-clause-reads g c =
    let p = err_from_is_err_and c.from_residual.result c.from_residual.ensures.1 in
    rw (p.1, p.2) (reads_err g.D.Disk.state g.D.Disk.images c.args.self.now c.commit_at_work.new.self c.in_err-commit.field-0.0 c.in_err-commit.ensures.reads)

pub returns-in_err-held-clause-reads : goal.returns-in_err-held-clause-reads
returns-in_err-held-clause-reads g c =
    let p = err_from_is_err_and c.from_residual-in_err-held.result c.from_residual-in_err-held.ensures.1 in
    rw (p.1, p.2) (reads_err g.D.Disk.state g.D.Disk.images c.args.self.now c.held_keys.new.self c.in_err-held.field-0.0
    (reads_then g.D.Disk.state g.D.Disk.images c.args.self.now c.commit_at_work.new.self c.held_keys.new.self c.in_ok-commit.commit c.in_ok-commit.ensures.reads _ c.in_err-held.ensures.reads))

pub returns-in_err-keys-clause-reads : goal.returns-in_err-keys-clause-reads
returns-in_err-keys-clause-reads g c =
    let p = err_from_is_err_and c.from_residual-in_err-keys.result c.from_residual-in_err-keys.ensures.1 in
    rw (p.1, p.2) (reads_other g.D.Disk.state g.D.Disk.images c.args.self.now c.held_keys.new.self c.in_ok-held.held
    (reads_then g.D.Disk.state g.D.Disk.images c.args.self.now c.commit_at_work.new.self c.held_keys.new.self c.in_ok-commit.commit c.in_ok-commit.ensures.reads _ c.in_ok-held.ensures.reads) (Err Memory) (λ is. cc) (inr refl))

pub scan_rows-requires-clause-up : goal.scan_rows-requires-clause-up
scan_rows-requires-clause-up g c =
    let s = g.D.Disk.state in
    let one = stay_up s c.args.self.now c.commit_at_work.new.self (c.in_ok-commit.ensures.reads.stay (λ is. cc)) c.requires.up in
    stay_up s c.commit_at_work.new.self c.held_keys.new.self (c.in_ok-held.ensures.reads.stay (λ is. cc)) one

pub scan_rows-requires-clause-looked : goal.scan_rows-requires-clause-looked
scan_rows-requires-clause-looked g c =
    let s = g.D.Disk.state in
    let one = stay_looked s c.args.self.now c.commit_at_work.new.self (c.in_ok-commit.ensures.reads.stay (λ is. cc)) c.requires.looked in
    stay_looked s c.commit_at_work.new.self c.held_keys.new.self (c.in_ok-held.ensures.reads.stay (λ is. cc)) one

pub scan_rows-requires-clause-keys : goal.scan_rows-requires-clause-keys
scan_rows-requires-clause-keys g c =
    let s = g.D.Disk.state in
    let mid = c.commit_at_work.new.self in
    let new = c.held_keys.new.self in
    let same : devs s new ≡ devs s mid = stay_devs s mid new (c.in_ok-held.ensures.reads.stay (λ is. cc)) in
    c.as_slice.ensures ∙ (c.in_ok-keys.ensures.keys (devs s mid).held c.in_ok-held.ensures.keys ∙ ap (λ (d : ClientDevs). keys_of (applied_if c.in_ok-commit.commit d.held).rows) (sym same))

pub scan_rows-requires-clause-rising : goal.scan_rows-requires-clause-rising
scan_rows-requires-clause-rising g c = subst (IsStrictlySortedBy key_cmp) (sym c.as_slice.ensures) (c.in_ok-keys.ensures.rising c.in_ok-held.ensures.rising)

pub returns-clause-reads : goal.returns-clause-reads
returns-clause-reads g c =
    let s = g.D.Disk.state in
    let i = g.D.Disk.images in
    let two = reads_then s i c.args.self.now c.commit_at_work.new.self c.held_keys.new.self c.in_ok-commit.commit c.in_ok-commit.ensures.reads _ c.in_ok-held.ensures.reads in
    reads_then s i c.args.self.now c.held_keys.new.self c.scan_rows.new.self c.in_ok-held.held two c.scan_rows.result c.scan_rows.ensures.reads

pub returns-clause-found : goal.returns-clause-found
returns-clause-found g c =
    let s = g.D.Disk.state in
    let old = c.args.self.now in
    let mid = c.commit_at_work.new.self in
    let new = c.held_keys.new.self in
    let d = devs s old in
    let same : devs s new ≡ d = stay_devs s mid new (c.in_ok-held.ensures.reads.stay (λ is. cc)) ∙ stay_devs s old mid (c.in_ok-commit.ensures.reads.stay (λ is. cc)) in
    let commit = c.in_ok-commit.commit in
    let are : c.in_ok-keys.keys ≡ keys_of (applied_if commit (devs s mid).held).rows = c.in_ok-keys.ensures.keys (devs s mid).held c.in_ok-held.ensures.keys in
    let first : devs s mid ≡ d = stay_devs s old mid (c.in_ok-commit.ensures.reads.stay (λ is. cc)) in
    let rising : IsStrictlySortedBy key_cmp (keys_of (applied_if commit d.held).rows) = subst (IsStrictlySortedBy key_cmp) (are ∙ ap (λ (x : ClientDevs). keys_of (applied_if commit x.held).rows) first) (c.in_ok-keys.ensures.rising c.in_ok-held.ensures.rising) in
    IfOk-weaker c.scan_rows.result _ _ (λ found scanned.
    scanned_all d (applied_if commit d.held) found (redone_by_is d commit c.in_ok-commit.ensures.commit) rising
    (subst (λ (x : ClientDevs). IsScanned x.chunks (applied_if c.in_ok-commit.commit x.held) x.journal.greatest [] found) same scanned)) c.scan_rows.ensures.found
