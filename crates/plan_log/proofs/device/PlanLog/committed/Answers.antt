use Rattle.std.proofs.Common.{◌≡◌, ◌≤◌, ℕ, List, [], length, get_or, Ok, sym, ◌∙◌, ap, subst}
use Rattle.std.proofs.lemmas.Option.{get_or_from_slice_get}
use Rattle.std.proofs.lemmas.Result.{err_from_is_err_and}
use Rattle.vault.specs.Limit.{payload_most}
use Rattle.vault.specs.Standing.{payloads}
use Rattle.vault.proofs.Devices.{reads_failed, reads_short, reads_done}
use Rattle.plan_log.specs.Fault.{fault_of}
use Rattle.plan_log.proofs.Faults.{apart}
use Rattle.plan_log.specs.declared.plan.Commit.{Commit}
use Rattle.plan_log.specs.Reading.{commit_in}
use Rattle.plan_log.specs.Journal.{Committed, journal_of}
use Rattle.plan_log.specs.Memory.{Fits, HasSpare}
use Rattle.plan_log.specs.Standing.{vault_of}
use Rattle.value_codec.proofs.FieldReads.{ok_is}
use Rattle.plan_log.proofs.Notes.{at_index, some_kept, short_at}
use Rattle.plan_log.proofs.device.PlanLog.committed.Goals as goal

pub index_of-index-requires : goal.index_of-index-requires
index_of-index-requires g c =
    let old = c.args.self.now in
    let up = c.if-is_down.ensures in
    some_kept (payloads g.D.Disk.state (vault_of old)) old.inner.memory (c.requires.ready up).memory (c.requires.at_work up)

pub read-requires-clause-index : goal.read-requires-clause-index
read-requires-clause-index g c up =
    let old = c.args.self.now in
    let ps = payloads g.D.Disk.state (vault_of old) in
    (at_index ps old.inner.memory.work (journal_of ps).at_work c.index_of-index.result (c.requires.ready up).memory.at_work c.index_of-index.ensures).2.within

pub committed_in-requires : goal.committed_in-requires
committed_in-requires g c =
    let old = c.args.self.now in
    let ps = payloads g.D.Disk.state (vault_of old) in
    let index : ℕ = c.index_of-index.result in
    let t = at_index ps old.inner.memory.work (journal_of ps).at_work index (c.requires.ready c.if-is_down.ensures).memory.at_work c.index_of-index.ensures in
    let found : get_or ps index [] ≡ c.deref.result.now = get_or_from_slice_get ps index c.read.new.self.found.items [] c.in_ok-read.ensures.payload ∙ sym c.deref.ensures.value in
    (t.0, ap commit_in (sym found) ∙ t.2.there)

pub returns-clause-commit : goal.returns-clause-commit
returns-clause-commit g c =
    let old = c.args.self.now in
    let ps = payloads g.D.Disk.state (vault_of old) in
    let index : ℕ = c.index_of-index.result in
    let t = at_index ps old.inner.memory.work (journal_of ps).at_work index (c.requires.ready c.if-is_down.ensures).memory.at_work c.index_of-index.ensures in
    let found : get_or ps index [] ≡ c.deref.result.now = get_or_from_slice_get ps index c.read.new.self.found.items [] c.in_ok-read.ensures.payload ∙ sym c.deref.ensures.value in
    let both : Ok t.0 ≡ Ok c.in_ok-commit.commit = sym t.2.there ∙ (ap commit_in found ∙ c.in_ok-commit.ensures.commit) in
    let same : t.0 ≡ c.in_ok-commit.commit = ok_is t.0 c.in_ok-commit.commit both in
    t.1 ∙ ap (λ (x : Commit). Committed x) same

pub returns-clause-short : goal.returns-clause-short
returns-clause-short g c =
    let old = c.args.self.now in
    let ps = payloads g.D.Disk.state (vault_of old) in
    let index : ℕ = c.index_of-index.result in
    let ready = c.requires.ready c.if-is_down.ensures in
    let t = at_index ps old.inner.memory.work (journal_of ps).at_work index ready.memory.at_work c.index_of-index.ensures in
    let found : get_or ps index [] ≡ c.deref.result.now = get_or_from_slice_get ps index c.read.new.self.found.items [] c.in_ok-read.ensures.payload ∙ sym c.deref.ensures.value in
    subst (λ (l : List ℕ). length l ≤ payload_most) (found ∙ sym c.in_ok-commit.ensures.same) (short_at ps index ready.vault.ends.front.short t.2.within)

pub returns-in_err-read-clause-reads : goal.returns-in_err-read-clause-reads
returns-in_err-read-clause-reads g c =
    let p = err_from_is_err_and c.from_residual.result c.from_residual.ensures.1 in
    rw (p.1, p.2) (reads_failed g.D.Disk.state g.D.Disk.images Fits HasSpare journal_of fault_of apart c.args.self.now.inner c.read.new.self c.args.self.now _ c.if-is_down.ensures
    c.in_err-read.field-0.0 c.in_err-read.ensures.reads)

pub returns-in_err-commit-clause-reads : goal.returns-in_err-commit-clause-reads
returns-in_err-commit-clause-reads g c =
    let p = err_from_is_err_and c.from_residual-in_err-commit.result c.from_residual-in_err-commit.ensures.1 in
    rw (p.1, p.2) (reads_short g.D.Disk.state g.D.Disk.images Fits HasSpare journal_of fault_of apart c.args.self.now.inner c.read.new.self c.args.self.now _ c.if-is_down.ensures
    c.in_ok-read.ensures.reads)

pub returns-clause-reads : goal.returns-clause-reads
returns-clause-reads g c = reads_done g.D.Disk.state g.D.Disk.images Fits HasSpare journal_of fault_of apart c.args.self.now.inner c.read.new.self c.args.self.now _ c.if-is_down.ensures
    c.in_ok-commit.commit c.in_ok-read.ensures.reads
