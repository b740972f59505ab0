-- The bytes that a text leaves as they are, one by one.
use Rattle.std.proofs.Common.{◌≡◌, ℕ, zero, suc, ◌<◌, Bool, true, false, not, ◌&&◌, inl, inr, refl, subst, sym, arith}
use Rattle.std.proofs.lemmas.Bool.{cases_lt, and_parts}
use Rattle.percent_encoding.specs.AsciiSet.{should_percent_encode}
use Rattle.transcript_text.specs.declared.print.TheConstants.{ESCAPED}
use Rattle.simba_top.specs.Limits.{is_bare}

abbrev same_bit : Bool → Bool → Bool
same_bit true b = b
same_bit false b = not b

same_is : (a b : Bool) → same_bit a b ≡ true → a ≡ b
same_is true b e = sym e
same_is false true e = e
same_is false false e = refl

abbrev every : (ℕ → Bool) → ℕ → Bool
every p zero = true
every p (suc n) = p n && every p n

each_below : (p : ℕ → Bool) (n b : ℕ) → every p n ≡ true → b < n → p b ≡ true
each_below p zero b e h = absurd (omega (arith, h))
each_below p (suc n) b e h =
    let t = and_parts (p n) (every p n) e in
    elim (cases_lt b n) [
      | inl less ↦ each_below p n b t.1 less
      | inr fits ↦ (let same : n ≡ b = omega (arith, h, fits) in subst (λ (m : ℕ). p m ≡ true) same t.0)
    ]

abbrev agrees : ℕ → Bool
agrees b = same_bit (should_percent_encode ESCAPED b) (not (is_bare b))

all_agree : every agrees 256 ≡ true
unfolding should_percent_encode
all_agree = refl

pub escaped_are : (b : ℕ) → b < 256 → should_percent_encode ESCAPED b ≡ not (is_bare b)
escaped_are b h = same_is (should_percent_encode ESCAPED b) (not (is_bare b)) (each_below agrees 256 b all_agree h)
