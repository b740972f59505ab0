use Rattle.std.proofs.Common.{◌≡◌, ◌+◌, ◌-◌, ℕ, List, take, drop, get_or, subst, sym, arith, rules}
use Rattle.stab_base.specs.Codec.{IsBytes}
use Rattle.sim_frame.specs.Opening.{IsFirst}
use Rattle.sim_frame.proofs.Fronts.{first_frame}
use Rattle.sim_frame.proofs.whole.first_of.Goals as goal

pub returns-in_ok-from_slice-in-Sized : goal.returns-in_ok-from_slice-in-Sized
returns-in_ok-from_slice-in-Sized c =
    let bytes = c.args.bytes.now in
    let fits : IsBytes bytes = λ i. omega (arith, c.type_inv.bytes i) in
    let body : c.in_ok-from_slice-in-Sized.field-0 ≡ take (c.in-Sized.len + 4 - 5) (drop 5 bytes) = search rules in
    subst (λ (b : List ℕ). IsFirst bytes (record { kind = get_or bytes 4 0; body = b }) (c.in-Sized.len + 4)) (sym body)
    (first_frame bytes c.in-Sized.len fits c.in-Sized.ensures (omega (arith, c.if-bytes-size.false)))
