-- What a plain text is in JSON.
use Rattle.std.specs.Prelude.{◌≡◌, ℕ, ◌<◌, Bool, true, false, not, ◌&&◌, ◌==◌, nat_le, nat_lt, List, [], ◌∷◌, ◌++◌}
use Rattle.std.proofs.Common.{refl, ap, ◌∙◌, arith}
use Rattle.std.proofs.lemmas.Bool.Decides.{nat_tests}
use Rattle.json.specs.Print.{escape_byte, escape, quoted}
use Rattle.run_report.specs.Plain.{is_plain_byte, is_plain}

both : (a b : Bool) → (a && b) ≡ true → (a ≡ true) × (b ≡ true)
both true b h = (refl, h)
both false b h = absurd cc

parts : (a b c d : Bool) → (a && b && not c && not d) ≡ true → (a ≡ true) × (b ≡ true) × (c ≡ false) × (d ≡ false)
parts true true false false h = (refl, refl, refl, refl)
parts true true false true h = absurd cc
parts true true true d h = absurd cc
parts true false c d h = absurd cc
parts false b c d h = absurd cc

above : (k b : ℕ) → k < 32 → nat_le 32 b ≡ true → (b == k) ≡ false
above k b lt h = grind (arith, nat_tests)

not_below : (b : ℕ) → nat_le 32 b ≡ true → nat_lt b 32 ≡ false
not_below b h = grind (arith, nat_tests)

stands : (b : ℕ) → is_plain_byte b ≡ true → escape_byte b ≡ b ∷ []
unfolding escape_byte
stands b h =
    let p = parts (nat_le 32 b) (nat_lt b 127) (b == 34) (b == 92) h in
    rw (p.2, p.3, above 8 b (omega arith) p.0, above 12 b (omega arith) p.0, above 10 b (omega arith) p.0, above 13 b (omega arith) p.0, above 9 b (omega arith) p.0, not_below b p.0) refl

pub escape_plain : (text : List ℕ) → is_plain text ≡ true → escape text ≡ text
escape_plain [] h = refl
escape_plain (b ∷ bs) h =
    let p = both (is_plain_byte b) (is_plain bs) h in
    ap (λ (front : List ℕ). front ++ escape bs) (stands b p.0) ∙ ap (λ (more : List ℕ). b ∷ more) (escape_plain bs p.1)

pub plain_quoted : (text : List ℕ) → is_plain text ≡ true → quoted text ≡ 34 ∷ (text ++ 34 ∷ [])
plain_quoted text h = ap (λ (inner : List ℕ). 34 ∷ (inner ++ 34 ∷ [])) (escape_plain text h)
