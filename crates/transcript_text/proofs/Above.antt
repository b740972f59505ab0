-- Words, a byte between them that none of them has, and the bytes of numbers and row ids.
use Rattle.std.proofs.Common.{◌≡◌, ◌≢◌, ℕ, zero, suc, ◌<◌, ◌^◌, ℤ, pos, negsuc, List, [], ◌∷◌, ◌++◌, refl, sym, ◌∙◌, subst, arith, FitsSigned}
use Rattle.std.specs.Int.{w64}
use Rattle.std.specs.List.{AllByRecursion, flat_map}
use Rattle.std.specs.Fmt.{decimal, signed_decimal}
use Rattle.std.specs.Str.Parse.{AllDigits}
use Rattle.std.proofs.lemmas.Fmt.{decimal_is_IsNumeral}
use Rattle.std.proofs.lemmas.Str.Parse.{digit_from_value}
use Rattle.std.proofs.lemmas.Bool.Decides.{nat_tests}
use Rattle.uuid.specs.Text.{by_index, hyphenated_text, lower}

-- each byte is greater than c
abbrev pub IsAbove : ℕ → List ℕ → Type 0
IsAbove c word = AllByRecursion (λ b. c < b) word

-- the first byte, if there is one, is c
abbrev pub OpensWith : ℕ → List ℕ → Type 0
OpensWith c [] = Unit {0}
OpensWith c (b ∷ rest) = b ≡ c

-- no byte is c
abbrev pub Avoids : ℕ → List ℕ → Type 0
Avoids c word = AllByRecursion (λ b. b ≢ c) word

above_avoids : (c : ℕ) (word : List ℕ) → IsAbove c word → Avoids c word
above_avoids c [] h = tt
above_avoids c (b ∷ word) h = (λ e. omega (arith, h.0, e), above_avoids c word h.1)

pub parted : (c : ℕ) (a b s t : List ℕ) → Avoids c a → Avoids c b → OpensWith c s → OpensWith c t → a ++ s ≡ b ++ t → (a ≡ b) × (s ≡ t)
parted c [] [] s t p q g h e = (refl, e)
parted c [] (y ∷ b) [] t p q g h e = absurd cc
parted c [] (y ∷ b) (z ∷ s) t p q g h e = let same : z ≡ y = cc in absurd (q.0 (sym same ∙ g))
parted c (x ∷ a) [] s [] p q g h e = absurd cc
parted c (x ∷ a) [] s (z ∷ t) p q g h e = let same : x ≡ z = cc in absurd (p.0 (same ∙ h))
parted c (x ∷ a) (y ∷ b) s t p q g h e =
    let more = parted c a b s t p.1 q.1 g h (cc) in
    (cc more.0, more.1)

pub peel : (c : ℕ) (a b s t : List ℕ) → IsAbove c a → IsAbove c b → OpensWith c s → OpensWith c t → a ++ s ≡ b ++ t → (a ≡ b) × (s ≡ t)
peel c a b s t p q g h e = parted c a b s t (above_avoids c a p) (above_avoids c b q) g h e

above_less : (c d : ℕ) (word : List ℕ) → d < c → IsAbove c word → IsAbove d word
above_less c d [] h p = tt
above_less c d (b ∷ word) h p = (omega arith, above_less c d word h p.1)

pub all_append : (P : ℕ → Type 0) (xs ys : List ℕ) → AllByRecursion P xs → AllByRecursion P ys → AllByRecursion P (xs ++ ys)
all_append P [] ys h p = p
all_append P (x ∷ xs) ys h p = (h.0, all_append P xs ys h.1 p)

-- each word with c before it
abbrev pub led : ℕ → List (List ℕ) → List ℕ
led c words = flat_map (λ (word : List ℕ). c ∷ word) words

led-opens : (c : ℕ) (words : List (List ℕ)) → OpensWith c (led c words)
led-opens c [] = tt
led-opens c (word ∷ words) = refl

pub led_same : (c : ℕ) (xs ys : List (List ℕ)) → AllByRecursion (IsAbove c) xs → AllByRecursion (IsAbove c) ys → led c xs ≡ led c ys → xs ≡ ys
led_same c [] [] p q e = refl
led_same c [] (y ∷ ys) p q e = absurd cc
led_same c (x ∷ xs) [] p q e = absurd cc
led_same c (x ∷ xs) (y ∷ ys) p q e =
    let parts = peel c x y (led c xs) (led c ys) p.0 q.0 (led-opens c xs) (led-opens c ys) (cc) in
    cc (parts.0, led_same c xs ys p.1 q.1 parts.1)

pub led_above : (c d : ℕ) (words : List (List ℕ)) → d < c → AllByRecursion (IsAbove c) words → IsAbove d (led c words)
led_above c d [] h p = tt
led_above c d (word ∷ words) h p = (h, all_append (λ b. d < b) word (led c words) (above_less c d word h p.0) (led_above c d words h p.1))

digits_above : (ds : List ℕ) → AllDigits 10 ds → IsAbove 32 ds
digits_above [] d = tt
digits_above (c ∷ cs) d = (omega (arith, digit_from_value c d.0), digits_above cs d.1)

pub decimal_above : (n : ℕ) → n < 2 ^ 64 → IsAbove 32 (decimal n)
decimal_above n h = digits_above (decimal n) (decimal_is_IsNumeral n h).0.1

-- no digit is a colon
digits_avoid : (ds : List ℕ) → AllDigits 10 ds → Avoids 58 ds
digits_avoid [] d = tt
digits_avoid (c ∷ cs) d = (λ e. omega (arith, e, digit_from_value c d.0), digits_avoid cs d.1)

pub decimal_avoids : (n : ℕ) → n < 2 ^ 64 → Avoids 58 (decimal n)
decimal_avoids n h = digits_avoid (decimal n) (decimal_is_IsNumeral n h).0.1

digits_avoid_a_point : (ds : List ℕ) → AllDigits 10 ds → Avoids 46 ds
digits_avoid_a_point [] d = tt
digits_avoid_a_point (c ∷ cs) d = (λ e. omega (arith, e, digit_from_value c d.0), digits_avoid_a_point cs d.1)

pub decimal_avoids_a_point : (n : ℕ) → n < 2 ^ 64 → Avoids 46 (decimal n)
decimal_avoids_a_point n h = digits_avoid_a_point (decimal n) (decimal_is_IsNumeral n h).0.1

pub signed_avoids_a_point : (z : ℤ) → FitsSigned w64 z → Avoids 46 (signed_decimal z)
signed_avoids_a_point (pos n) h = decimal_avoids_a_point n (omega arith)
signed_avoids_a_point (negsuc n) h = (λ e. omega (arith, e), decimal_avoids_a_point (suc n) (omega arith))

pub has_what_it_avoids : (c : ℕ) (a b : List ℕ) → Avoids c (a ++ c ∷ b) → ⊥
has_what_it_avoids c [] b h = h.0 refl
has_what_it_avoids c (x ∷ a) b h = has_what_it_avoids c a b h.1

pub signed_above : (z : ℤ) → FitsSigned w64 z → IsAbove 32 (signed_decimal z)
signed_above (pos n) h = decimal_above n (omega arith)
signed_above (negsuc n) h = (omega arith, decimal_above (suc n) (omega arith))

by_index_all : (P : ℕ → Type 0) (n : ℕ) (f : ℕ → ℕ) → ((k : ℕ) → P (f k)) → AllByRecursion P (by_index n f)
unfolding by_index
by_index_all P zero f h = tt
by_index_all P (suc n) f h = all_append P (by_index n f) (f n ∷ []) (by_index_all P n f h) (h n, tt)

pub row_above : (row : List ℕ) → IsAbove 32 (hyphenated_text lower row)
row_above row = by_index_all (λ b. 32 < b) 36 _ (λ k. grind (arith, nat_tests))

-- no number begins with a letter
pub decimal_first : (n c : ℕ) (rest : List ℕ) → n < 2 ^ 64 → decimal n ≡ c ∷ rest → c < 58
decimal_first n c rest h e = omega (arith, digit_from_value c (subst (AllDigits 10) e (decimal_is_IsNumeral n h).0.1).0)

pub signed_first : (z : ℤ) (c : ℕ) (rest : List ℕ) → FitsSigned w64 z → signed_decimal z ≡ c ∷ rest → c < 58
signed_first (pos n) c rest h e = decimal_first n c rest (omega arith) e
signed_first (negsuc n) c rest h e = let same : 45 ≡ c = cc in omega arith
