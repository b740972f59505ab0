use Rattle.std.proofs.Common.{◌≡◌, ◌+◌, ◌++◌, ◌∷◌, [], ◌∙◌, ap, subst, sym, List, ℕ, drop, false, rules}
use Rattle.vault.specs.File.{begins_record}
use Rattle.vault.specs.Scan.{BeginsRecord, Finds, HasFound}
use Rattle.vault.proofs.Found.{one_more, all_found, same_then, time_then}
use Rattle.vault.proofs.scan.find_records.Goals as goal

pub returns-in_default-clause-ends : goal.returns-in_default-clause-ends
returns-in_default-clause-ends g c =
    let file = (g.D.Disk.state c.args.disk.now).seen in
    let last : begins_record (drop c.records.gate file) ≡ false = subst (λ (l : List ℕ). begins_record (drop c.records.gate l) ≡ false) c.records.invariant.same.seen (subst (Finds (drop c.records.gate (g.D.Disk.state c.records.disk).seen)) c.in_default.is c.in_ok-len.ensures.finds) in
    (all_found file c.records.gate c.records.places.items c.records.invariant.found last).0

pub returns-in_default-clause-places : goal.returns-in_default-clause-places
returns-in_default-clause-places g c =
    let file = (g.D.Disk.state c.args.disk.now).seen in
    let last : begins_record (drop c.records.gate file) ≡ false = subst (λ (l : List ℕ). begins_record (drop c.records.gate l) ≡ false) c.records.invariant.same.seen (subst (Finds (drop c.records.gate (g.D.Disk.state c.records.disk).seen)) c.in_default.is c.in_ok-len.ensures.finds) in
    (all_found file c.records.gate c.records.places.items c.records.invariant.found last).1

pub records-preserved : goal.records-preserved
records-preserved g c =
    let file = (g.D.Disk.state c.args.disk.now).seen in
    let there : BeginsRecord (drop c.records.gate (g.D.Disk.state c.records.disk).seen) c.in-Some.len = subst (Finds (drop c.records.gate (g.D.Disk.state c.records.disk).seen)) c.in-Some.is c.in_ok-len.ensures.finds in
    let pushed : c.push.new.self.items ≡ c.records.places.items ++ c.records.gate ∷ [] = search rules in
    let grown = one_more (drop c.records.gate (g.D.Disk.state c.records.disk).seen) c.in-Some.len there file c.records.gate c.records.places.items (ap (λ (l : List ℕ). drop c.records.gate l) c.records.invariant.same.seen) c.records.invariant.found in
    record {
      found = subst (HasFound file (c.records.gate + c.in-Some.len)) (sym pushed) grown;
      same = same_then _ _ _ c.records.invariant.same c.record_at.ensures.same;
      time = time_then _ _ _ _ _ _ c.record_at.ensures.same c.records.invariant.time c.record_at.ensures.time;
      faults = c.in_ok-len.ensures.cause.ok ∙ c.records.invariant.faults;
    }
