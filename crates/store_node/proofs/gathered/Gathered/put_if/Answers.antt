use Rattle.std.proofs.Common.{◌≡◌, ◌+◌, ℕ, length, ap, subst, arith}
use Rattle.std.specs.Prelude.{option_to_list}
use Rattle.store_node.specs.Gathered.{HasRoom}
use Rattle.store_node.proofs.gathered.Gathered.put_if.Goals as goal

pub returns-in-Some-clause-room : goal.returns-in-Some-clause-room
returns-in-Some-clause-room g c n h =
    let one : length (option_to_list c.args.value) ≡ 1 = ap (λ o. length (option_to_list o)) c.in-Some.is in
    let more : length (option_to_list c.args.value) + n ≡ n + 1 = omega (arith, one) in
    c.put.ensures.room n (subst (λ (k : ℕ). HasRoom c.args.self.now k) more h)
