use Rattle.std.proofs.Common.{◌≡◌, ℕ, Bool, true, cond, None, ap, ◌∙◌, arith}
use Rattle.std.specs.Ordering.{nat_cmp}
use Rattle.std.specs.BTreeMap as tree
use Rattle.std.specs.BTreeMap.{is_at}
use Rattle.std.proofs.lemmas.Bool.Decides.{nat_tests}
use Rattle.journal_host.proofs.host.ClientHost.take_disks.Goals as goal

at_itself : (k : ℕ) → is_at (nat_cmp k) k ≡ true
at_itself k = grind (arith, nat_tests)

pub returns-in-Some-clause-gone : goal.returns-in-Some-clause-gone
returns-in-Some-clause-gone g c =
    c.in-Some.ensures.updates.0 c.in-Some.client
    ∙ ap (λ (b : Bool). cond b None (tree.get nat_cmp c.args.self.now.clients c.in-Some.client)) (at_itself c.in-Some.client)
