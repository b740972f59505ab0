-- How long the payload of an intend is.
use Rattle.std.proofs.Common.{◌≡◌, ℕ, Bool, true, false, ◌++◌, length, Result, Ok, Err, refl, arith, length-append}
use Rattle.std.specs.Prelude.{OnErr, IsOk}
use Rattle.value_codec.specs.Spelling.{flag_spelling}
use Rattle.field_codec.specs.Forms.{four, eight}
use Rattle.plan_log.specs.declared.plan.Intend.{Intend}
use Rattle.plan_log.specs.Spelling.{intend_payload}

four_len : (n : ℕ) → length (four n) ≡ 4
unfolding four
four_len n = refl

eight_len : (n : ℕ) → length (eight n) ≡ 8
unfolding eight
eight_len n = refl

flag_len : (b : Bool) → length (flag_spelling b) ≡ 1
flag_len true = refl
flag_len false = refl

pub intend_len : (x : Intend) → length x.row ≡ 16 → length (intend_payload x) ≡ 34
intend_len x sixteen =
    let p = eight x.plan in
    let t = four x.table in
    let s = flag_spelling x.server in
    let c = four x.chunks in
    omega (
      arith,
      sixteen,
      eight_len x.plan,
      four_len x.table,
      flag_len x.server,
      four_len x.chunks,
      length-append p (t ++ (x.row ++ (s ++ c))),
      length-append t (x.row ++ (s ++ c)),
      length-append x.row (s ++ c),
      length-append s c,
    )

-- what can't have failed is there
pub fits : {T E : Type 0} (r : Result T E) (P : Type 0) → OnErr r P → (P → ⊥) → IsOk r
fits (Ok x) P h not = refl
fits (Err e) P h not = absurd (not h)
