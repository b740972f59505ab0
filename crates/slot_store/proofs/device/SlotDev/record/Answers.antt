use Rattle.std.proofs.Common.{◌≡◌, ◌≤◌, ℕ, List, length, Option, Some, None, Result, Ok, Err, refl, sym, ◌∙◌, ap, subst}
use Rattle.std.specs.Prelude.{IfOk, IfSome}
use Rattle.vault.specs.Standing.{payloads}
use Rattle.vault.specs.Limit.{payload_most}
use Rattle.slot_store.specs.declared.held.TableRecord.{TableRecord}
use Rattle.slot_store.specs.Spelling.{HasRecordSpelling, record_payload}
use Rattle.slot_store.specs.Data.{data_of, record_of}
use Rattle.slot_store.specs.Memory.{IsWhole}
use Rattle.slot_store.specs.Standing.{vault_of}
use Rattle.slot_store.proofs.Finds.{ok_as, record_is, record_whole, short_at}
use Rattle.slot_store.proofs.device.SlotDev.record.Goals as goal

-- what is known of each record that is found, of the answer
of_found : {E : Type 0} (P : TableRecord → Type 0) (o : Option TableRecord) (r : Result (Option TableRecord) E) → ((table : TableRecord) → o ≡ Some table → P table) → IfOk r (λ found. found ≡ o)
    → IfOk r (λ found. IfSome found P)
of_found P o (Ok None) has is = tt
of_found P o (Ok (Some table)) has is = has table (sym is)
of_found P o (Err e) has is = tt

pub returns-clause-record_ : goal.returns-clause-record_
returns-clause-record_ g c up =
    let self = c.args.self.now in
    let fit = (c.requires.ready up).memory in
    ok_as c.record.result (c.record.ensures fit.records) (sym (record_is self.inner.memory (payloads g.D.Disk.state (vault_of self)) fit c.args.table))

pub returns-clause-spelled : goal.returns-clause-spelled
returns-clause-spelled g c up =
    let self = c.args.self.now in
    let ps = payloads g.D.Disk.state (vault_of self) in
    let fit = (c.requires.ready up).memory in
    of_found HasRecordSpelling (record_of (data_of ps) c.args.table) c.record.result (λ table is. (record_whole self.inner.memory ps fit c.args.table table is).spelled) (returns-clause-record_ g c up)

pub returns-clause-short : goal.returns-clause-short
returns-clause-short g c up =
    let self = c.args.self.now in
    let ps = payloads g.D.Disk.state (vault_of self) in
    let ready = c.requires.ready up in
    of_found (λ table. length (record_payload table) ≤ payload_most) (record_of (data_of ps) c.args.table) c.record.result
    (λ table is. let w = record_whole self.inner.memory ps ready.memory c.args.table table is in subst (λ (l : List ℕ). length l ≤ payload_most) w.there (short_at ps w.index ready.vault.ends.front.short w.within))
    (returns-clause-record_ g c up)
