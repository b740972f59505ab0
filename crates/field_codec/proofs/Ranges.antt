-- Bytes that pass a test, and numbers within limits.
use Rattle.std.proofs.Common.{◌≡◌, ℕ, suc, ◌+◌, ◌*◌, ◌-◌, ◌/◌, ◌%◌, ◌<◌, ◌≤◌, Bool, true, false, ◌&&◌, cond, leb, ltb, List, [], ◌∷◌, ◌++◌, length, Ok, Err, refl, sym, ap, subst, ◌∙◌, arith, inl, inr}
use Rattle.std.specs.Int.{w32, to_be_bytes}
use Rattle.std.proofs.lemmas.Bool.{ltb-true, leb-true, lt-ltb, le-leb}
use Rattle.stab_base.specs.Codec.{IsBytes}
use Rattle.value_codec.specs.FirstBad.{IsFirstBad}
use Rattle.value_codec.specs.Reading.{byte_at}
use Rattle.value_codec.proofs.FieldReads.{Reads, bind_ok, branch, ok_is, no_fault, gives, byte_reads}
use Rattle.value_codec.proofs.Stops.{Stops, branch_err, err_is, not_ok, head_is, no_byte, bad_byte, pair_reads, pair_stop}
use Rattle.field_codec.specs.Fields.{Reader, then_at, byte_if, may_be, ranged_at}
use Rattle.field_codec.specs.Forms.{IsBetween, four}
use Rattle.field_codec.proofs.Codecs.{Codec, made, followed}

-- ---- a byte that passes a test

abbrev pub Passes : (ℕ → Bool) → ℕ → Type 0
Passes test b = (b < 256) × (test b ≡ true)

abbrev pub one_byte : ℕ → List ℕ
one_byte b = b ∷ []

passes_takes : (test : ℕ → Bool) (bytes : List ℕ) (b : ℕ) (rest : List ℕ) → IsBytes bytes → byte_if test bytes ≡ Ok (b, rest) → Passes test b × (bytes ≡ one_byte b ++ rest)
unfolding byte_if
passes_takes test bytes b rest fits e =
    let a = bind_ok (byte_at bytes) (λ b. cond (test b.0) (gives b.0 b.1) (Err (length bytes))) (b, rest) e in
    let t = byte_reads.takes bytes a.0.0 a.0.1 fits a.1 in
    elim (branch (test a.0.0) (gives a.0.0 a.0.1) (Err (length bytes)) (b, rest) a.2) [
      | inl y ↦ subst (λ (p : ℕ × List ℕ). Passes test p.0 × (bytes ≡ one_byte p.0 ++ p.1)) (ok_is (a.0.0, a.0.1) (b, rest) y.1) ((t.0, y.0), t.1)
      | inr n ↦ absurd (no_fault (length bytes) (b, rest) n.1)
    ]

passes_again : (test : ℕ → Bool) (b : ℕ) (rest : List ℕ) → Passes test b → byte_if test (one_byte b ++ rest) ≡ Ok (b, rest)
unfolding byte_if byte_at
passes_again test b rest h = rw h.1 refl

pub passes_reads : (test : ℕ → Bool) → Reads (Passes test) one_byte (byte_if test)
passes_reads test = record { takes = passes_takes test; again = passes_again test }

none_passes : (test : ℕ → Bool) (b : ℕ) → test b ≡ false → (x : ℕ) (others : List ℕ) → Passes test x → one_byte x ≡ b ∷ others → ⊥
none_passes test b n x others h e = let same : true ≡ false = sym h.1 ∙ ap test (head_is x b [] others e) ∙ n in absurd cc

passes_fails : (test : ℕ → Bool) (some : ℕ) → Passes test some → (bytes : List ℕ) (left : ℕ) → byte_if test bytes ≡ Err left → IsFirstBad (Passes test) one_byte bytes left
unfolding byte_if byte_at
passes_fails test some h [] left e = subst (IsFirstBad (Passes test) one_byte []) (err_is {A = ℕ × List ℕ} 0 left e) (no_byte (Passes test) one_byte some h)
passes_fails test some h (b ∷ bytes) left e =
    elim (branch_err (test b) (gives b bytes) (Err (suc (length bytes))) left e) [
      | inl y ↦ absurd (not_ok (b, bytes) left y.1)
      | inr n ↦ subst (IsFirstBad (Passes test) one_byte (b ∷ bytes)) (err_is {A = ℕ × List ℕ} (suc (length bytes)) left n.1) (bad_byte (Passes test) one_byte some b bytes h (none_passes test b n.0))
    ]

pub passes_stop : (test : ℕ → Bool) (some : ℕ) → Passes test some → Stops (Passes test) one_byte (byte_if test)
passes_stop test some h = record { some = some; has = h; fails = λ bytes left fits e. passes_fails test some h bytes left e }

pub passes : (test : ℕ → Bool) (some : ℕ) → Passes test some → Codec (Passes test) one_byte (byte_if test)
passes test some h = record { reads = passes_reads test; stops = passes_stop test some h }

-- ---- a number from least to most

pub both_are : (a b : Bool) → (a && b) ≡ true → (a ≡ true) × (b ≡ true)
both_are true b e = (refl, e)
both_are false b e = absurd cc

record May (least most worth digits : ℕ) : Type 0 where
  pub low : digits * worth ≤ most
  pub high : least < (digits + 1) * worth

may_is : (least most worth digits : ℕ) → may_be least most worth digits ≡ true → May least most worth digits
may_is least most worth digits e =
    let t = both_are (leb (digits * worth) most) (ltb least ((digits + 1) * worth)) e in
    record { low = leb-true _ _ t.0; high = ltb-true _ _ t.1 }

is_may : (least most worth digits : ℕ) → digits * worth ≤ most → least < (digits + 1) * worth → may_be least most worth digits ≡ true
is_may least most worth digits low high = rw (le-leb (digits * worth) most low, lt-ltb least ((digits + 1) * worth) high) refl

module _ (least most : ℕ) (le : least ≤ most) (lt : most < 4294967296) where
  abbrev first : ℕ → Bool
  first a = may_be least most 16777216 (0 * 256 + a)

  abbrev second : ℕ → ℕ → Bool
  second a b = may_be least most 65536 (a * 256 + b)

  abbrev third : ℕ → ℕ → ℕ → Bool
  third a b c = may_be least most 256 ((a * 256 + b) * 256 + c)

  abbrev fourth : ℕ → ℕ → ℕ → ℕ → Bool
  fourth a b c d = may_be least most 1 (((a * 256 + b) * 256 + c) * 256 + d)

  first_some : Passes first (least / 16777216)
  first_some = (omega arith, is_may least most 16777216 (0 * 256 + least / 16777216) (omega arith) (omega arith))

  second_some : (a : ℕ) → Passes first a → Passes (second a) (least / 65536 - a * 256)
  second_some a h =
      let m = may_is least most 16777216 (0 * 256 + a) h.1 in
      let low : (0 * 256 + a) * 16777216 ≤ most = m.low in
      let high : least < (0 * 256 + a + 1) * 16777216 = m.high in
      (omega arith, is_may least most 65536 (a * 256 + (least / 65536 - a * 256)) (omega arith) (omega arith))

  third_some : (a b : ℕ) → Passes (second a) b → Passes (third a b) (least / 256 - (a * 256 + b) * 256)
  third_some a b h =
      let m = may_is least most 65536 (a * 256 + b) h.1 in
      let low : (a * 256 + b) * 65536 ≤ most = m.low in
      let high : least < (a * 256 + b + 1) * 65536 = m.high in
      (omega arith, is_may least most 256 ((a * 256 + b) * 256 + (least / 256 - (a * 256 + b) * 256)) (omega arith) (omega arith))

  fourth_some : (a b c : ℕ) → Passes (third a b) c → Passes (fourth a b c) (least - ((a * 256 + b) * 256 + c) * 256)
  fourth_some a b c h =
      let m = may_is least most 256 ((a * 256 + b) * 256 + c) h.1 in
      let low : ((a * 256 + b) * 256 + c) * 256 ≤ most = m.low in
      let high : least < ((a * 256 + b) * 256 + c + 1) * 256 = m.high in
      (omega arith, is_may least most 1 (((a * 256 + b) * 256 + c) * 256 + (least - ((a * 256 + b) * 256 + c) * 256)) (omega arith) (omega arith))

  abbrev Ends : ℕ → ℕ → ℕ × ℕ → Type 0
  Ends a b p = Passes (third a b) p.0 × Passes (fourth a b p.0) p.1

  abbrev two_bytes : ℕ × ℕ → List ℕ
  two_bytes p = one_byte p.0 ++ one_byte p.1

  abbrev ends_at : ℕ → ℕ → Reader (ℕ × ℕ)
  ends_at a b = then_at (byte_if (third a b)) (λ c. byte_if (fourth a b c))

  ends_read : (a b : ℕ) → Reads (Ends a b) two_bytes (ends_at a b)
  ends_read a b = pair_reads (Passes (third a b)) one_byte (byte_if (third a b)) (λ c. Passes (fourth a b c)) (λ (c : ℕ). one_byte) (λ c. byte_if (fourth a b c)) (passes_reads (third a b)) (λ c. passes_reads (fourth a b c))

  ends_stop : (a b : ℕ) → Passes (second a) b → Stops (Ends a b) two_bytes (ends_at a b)
  ends_stop a b h =
      pair_stop (Passes (third a b)) one_byte (byte_if (third a b)) (λ c. Passes (fourth a b c)) (λ (c : ℕ). one_byte) (λ c. byte_if (fourth a b c)) (passes_reads (third a b)) (passes_stop (third a b) _ (third_some a b h)) (λ c. passes_reads (fourth a b c)) (λ c k. passes_stop (fourth a b c) _ (fourth_some a b c k))

  abbrev Rests : ℕ → ℕ × (ℕ × ℕ) → Type 0
  Rests a p = Passes (second a) p.0 × Ends a p.0 p.1

  abbrev three_bytes : ℕ × (ℕ × ℕ) → List ℕ
  three_bytes p = one_byte p.0 ++ two_bytes p.1

  abbrev rests_at : ℕ → Reader (ℕ × (ℕ × ℕ))
  rests_at a = then_at (byte_if (second a)) (λ b. ends_at a b)

  rests_read : (a : ℕ) → Reads (Rests a) three_bytes (rests_at a)
  rests_read a = pair_reads (Passes (second a)) one_byte (byte_if (second a)) (λ b. Ends a b) (λ (b : ℕ). two_bytes) (λ b. ends_at a b) (passes_reads (second a)) (λ b. ends_read a b)

  rests_stop : (a : ℕ) → Passes first a → Stops (Rests a) three_bytes (rests_at a)
  rests_stop a h =
      pair_stop (Passes (second a)) one_byte (byte_if (second a)) (λ b. Ends a b) (λ (b : ℕ). two_bytes) (λ b. ends_at a b) (passes_reads (second a)) (passes_stop (second a) _ (second_some a h)) (λ b. ends_read a b) (λ b k. ends_stop a b k)

  abbrev number_of : ℕ × (ℕ × (ℕ × ℕ)) → ℕ
  number_of p = ((p.0 * 256 + p.1.0) * 256 + p.1.1.0) * 256 + p.1.1.1

  abbrev IsNumber : ℕ × (ℕ × (ℕ × ℕ)) → Type 0
  IsNumber p = Passes first p.0 × Rests p.0 p.1

  abbrev four_bytes : ℕ × (ℕ × (ℕ × ℕ)) → List ℕ
  four_bytes p = one_byte p.0 ++ three_bytes p.1

  within : (p : ℕ × (ℕ × (ℕ × ℕ))) → IsNumber p → IsBetween least most (number_of p)
  within p h =
      let m = may_is least most 1 (number_of p) h.1.1.1.1 in
      let low : number_of p * 1 ≤ most = m.low in
      let high : least < (number_of p + 1) * 1 = m.high in
      record { least = omega arith; most = omega arith }

  digits : (a b c d : ℕ) → a < 256 → b < 256 → c < 256 → d < 256 → to_be_bytes w32 (((a * 256 + b) * 256 + c) * 256 + d) ≡ a ∷ (b ∷ (c ∷ (d ∷ [])))
  digits a b c d p q r s =
      let n : ℕ = ((a * 256 + b) * 256 + c) * 256 + d in
      let e : n / 16777216 % 256 ≡ a = omega arith in
      let f : n / 65536 % 256 ≡ b = omega arith in
      let g : n / 256 % 256 ≡ c = omega arith in
      let h : n % 256 ≡ d = omega arith in
      cc

  parts_of : (n : ℕ) → IsBetween least most n → (p : ℕ × (ℕ × (ℕ × ℕ))) × IsNumber p × (number_of p ≡ n)
  parts_of n h =
      let low : least ≤ n = h.least in
      let high : n ≤ most = h.most in
      let a : ℕ = n / 16777216 in
      let b : ℕ = n / 65536 % 256 in
      let c : ℕ = n / 256 % 256 in
      let d : ℕ = n % 256 in (
        (a, (b, (c, d))),
        (
          (omega arith, is_may least most 16777216 (0 * 256 + a) (omega arith) (omega arith)),
          (
            (omega arith, is_may least most 65536 (a * 256 + b) (omega arith) (omega arith)),
            (
              (omega arith, is_may least most 256 ((a * 256 + b) * 256 + c) (omega arith) (omega arith)),
              (omega arith, is_may least most 1 (((a * 256 + b) * 256 + c) * 256 + d) (omega arith) (omega arith)),
            ),
          ),
        ),
        omega arith,
      )

  pub ranged : Codec (IsBetween least most) four (ranged_at least most)
  unfolding ranged_at four
  ranged =
      made number_of (IsBetween least most) four within (λ p h. digits p.0 p.1.0 p.1.1.0 p.1.1.1 h.0.0 h.1.0.0 h.1.1.0.0 h.1.1.1.0) parts_of
      (followed (Passes first) one_byte (byte_if first) Rests (λ (a : ℕ). three_bytes) rests_at (passes first _ first_some) rests_read rests_stop)
