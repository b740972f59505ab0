-- A text's bytes follow each other as table 3-7 says, and none else is one.
use Rattle.std.proofs.Common.{◌≡◌, ℕ, zero, suc, ◌<◌, ◌≤◌, ◌⊎◌, List, [], ◌∷◌, refl, sym, subst, arith, inl, inr}
use Rattle.std.specs.Str.{IsUtf8}
use Rattle.std.specs.Str.Lossy.{second_byte_min, second_byte_max}
use Rattle.std.proofs.lemmas.Bool.{cases_lt, lt-ltb, le-ltb}
use Rattle.std.proofs.lemmas.Str.{IsUtf8-append}
use Rattle.simdutf8.specs.Steps.{IsContinuation, least_after, most_after, IsClosed, first, second, later, StepsThen}
use Rattle.simdutf8.proofs.Chars.{least_is, most_is, StepsThen-IsUtf8, closed-IsUtf8}
use Rattle.value_codec.specs.Utf8.{tail_len}

-- so many bytes of a character, the first of them within bounds, and then a text
abbrev pub Continues : ℕ → ℕ → ℕ → List ℕ → Type 0
Continues zero low high text = IsUtf8 text
Continues (suc need) low high [] = ⊥
Continues (suc need) low high (b ∷ text) = (low ≤ b) × (b ≤ high) × Continues need 0x80 0xBF text

pub record Lead (b : ℕ) : Type 0 where
  pub one : (b < 0x80) ⊎ ((0xC2 ≤ b) × (b ≤ 0xF4))

-- ---- how many bytes follow

tail_0 : (b : ℕ) → b < 0x80 → tail_len b ≡ 0
tail_0 b h = rw (lt-ltb b 0x80 h) refl

tail_1 : (b : ℕ) → 0x80 ≤ b → b < 0xE0 → tail_len b ≡ 1
tail_1 b l h = rw (le-ltb b 0x80 l, lt-ltb b 0xE0 h) refl

tail_2 : (b : ℕ) → 0xE0 ≤ b → b < 0xF0 → tail_len b ≡ 2
tail_2 b l h = rw (le-ltb b 0x80 (omega arith), le-ltb b 0xE0 l, lt-ltb b 0xF0 h) refl

tail_3 : (b : ℕ) → 0xF0 ≤ b → tail_len b ≡ 3
tail_3 b l = rw (le-ltb b 0x80 (omega arith), le-ltb b 0xE0 (omega arith), le-ltb b 0xF0 l) refl

abbrev Follows : ℕ → List ℕ → ℕ → Type 0
Follows b text need = Continues need (second_byte_min b) (second_byte_max b) text

-- ---- what follows the first byte of a text

fourth : (b y z : ℕ) (text : List ℕ) → 0xF0 ≤ b → b ≤ 0xF4 → (least_after b ≤ y) × (y ≤ most_after b) → IsContinuation z → StepsThen IsClosed b y z text → Follows b (y ∷ (z ∷ text)) 3
fourth b y z [] l m r g v = absurd (omega arith)
fourth b y z (w ∷ text) l m r g v =
    let k = most_is b in
    elim v.0 [
      | first p q ↦ absurd (omega arith)
      | second p q t ↦ absurd (omega arith)
      | later p q t ↦ (r.0, r.1, (omega arith, omega arith, (omega arith, omega arith, closed-IsUtf8 y z w text (omega arith) v.1)))
    ]

third : (b y : ℕ) (text : List ℕ) → 0xE0 ≤ b → b ≤ 0xF4 → (least_after b ≤ y) × (y ≤ most_after b) → StepsThen IsClosed 0 b y text → Follows b (y ∷ text) (tail_len b)
third b y [] l m r v = absurd (omega arith)
third b y (z ∷ text) l m r v =
    let k = most_is b in
    elim v.0 [
      | first p q ↦ absurd (omega arith)
      | second p q t ↦ absurd (omega arith)
      | later p q t ↦ elim (cases_lt b 0xF0) [
        | inl s ↦ subst (Follows b (y ∷ (z ∷ text))) (sym (tail_2 b l s)) (r.0, r.1, (omega arith, omega arith, closed-IsUtf8 b y z text (omega arith) v.1))
        | inr s ↦ subst (Follows b (y ∷ (z ∷ text))) (sym (tail_3 b s)) (fourth b y z text s m r t v.1)
      ]
    ]

after_big : (b : ℕ) (text : List ℕ) → 0xC0 ≤ b → StepsThen IsClosed 0 0 b text → Lead b × Follows b text (tail_len b)
after_big b [] big v = absurd (omega arith)
after_big b (y ∷ text) big v =
    let k = most_is b in
    elim v.0 [
      | first p q ↦ absurd (omega arith)
      | later p q t ↦ absurd (omega arith)
      | second p q r ↦ (
        record { one = inr q },
        elim (cases_lt b 0xE0) [
          | inl s ↦ subst (Follows b (y ∷ text)) (sym (tail_1 b (omega arith) s)) (r.0, r.1, closed-IsUtf8 0 b y text (omega arith) v.1)
          | inr s ↦ third b y text s q.1 r v.1
        ],
      )
    ]

pub begun : (b : ℕ) (text : List ℕ) → IsUtf8 (b ∷ text) → Lead b × Continues (tail_len b) (second_byte_min b) (second_byte_max b) text
begun b text u =
    let v : StepsThen IsClosed 0 0 0 (b ∷ text) = (StepsThen-IsUtf8 (b ∷ text)).1 u in
    elim v.0 [
      | second p q r ↦ absurd (omega arith)
      | later p q r ↦ absurd (omega arith)
      | first p q ↦ elim q [
        | inl small ↦ (record { one = inl small }, subst (Follows b text) (sym (tail_0 b small)) (closed-IsUtf8 0 0 b text (omega arith) v.1))
        | inr big ↦ after_big b text big v.1
      ]
    ]

-- ---- and what is a text

closed : IsClosed 0 0 0
closed = (omega arith, omega arith, omega arith)

of_1 : (b : ℕ) (text : List ℕ) → b < 0x80 → Follows b text 0 → IsUtf8 (b ∷ text)
of_1 b text h f =
    let one : IsUtf8 (b ∷ []) = (StepsThen-IsUtf8 (b ∷ [])).0 (first closed (inl h), (omega arith, omega arith, omega arith)) in
    IsUtf8-append (b ∷ []) text one f

of_2 : (b : ℕ) (text : List ℕ) → 0xC2 ≤ b → b < 0xE0 → Follows b text 1 → IsUtf8 (b ∷ text)
of_2 b [] l h f = absurd f
of_2 b (y ∷ text) l h f =
    let m = most_is b in
    let one : IsUtf8 (b ∷ (y ∷ [])) = (StepsThen-IsUtf8 (b ∷ (y ∷ []))).0 (first closed (inr (omega arith)), (second (omega arith, omega arith) (l, omega arith) (f.0, f.1), (omega arith, omega arith, omega arith))) in
    IsUtf8-append (b ∷ (y ∷ [])) text one f.2

of_3 : (b : ℕ) (text : List ℕ) → 0xE0 ≤ b → b < 0xF0 → Follows b text 2 → IsUtf8 (b ∷ text)
of_3 b [] l h f = absurd f
of_3 b (y ∷ []) l h f = absurd f.2
of_3 b (y ∷ (z ∷ text)) l h f =
    let m = most_is b in
    let k = least_is b in
    let one : IsUtf8 (b ∷ (y ∷ (z ∷ []))) = (StepsThen-IsUtf8 (b ∷ (y ∷ (z ∷ [])))).0
    (first closed (inr (omega arith)), (second (omega arith, omega arith) (omega arith, omega arith) (f.0, f.1), (later (inr l) (omega arith, omega arith) (omega arith, omega arith), (omega arith, omega arith, omega arith)))) in
    IsUtf8-append (b ∷ (y ∷ (z ∷ []))) text one f.2.2

of_4 : (b : ℕ) (text : List ℕ) → 0xF0 ≤ b → b ≤ 0xF4 → Follows b text 3 → IsUtf8 (b ∷ text)
of_4 b [] l h f = absurd f
of_4 b (y ∷ []) l h f = absurd f.2
of_4 b (y ∷ (z ∷ [])) l h f = absurd f.2.2
of_4 b (y ∷ (z ∷ (w ∷ text))) l h f =
    let m = most_is b in
    let k = least_is b in
    let one : IsUtf8 (b ∷ (y ∷ (z ∷ (w ∷ [])))) = (StepsThen-IsUtf8 (b ∷ (y ∷ (z ∷ (w ∷ []))))).0
    (first closed (inr (omega arith)), (second (omega arith, omega arith) (omega arith, h) (f.0, f.1), (later (inr (omega arith)) (omega arith, omega arith) (omega arith, omega arith), (later (inl l) (omega arith, omega arith) (omega arith, omega arith), (omega arith, omega arith, omega arith))))) in
    IsUtf8-append (b ∷ (y ∷ (z ∷ (w ∷ [])))) text one f.2.2.2

pub built : (b : ℕ) (text : List ℕ) → Lead b → Continues (tail_len b) (second_byte_min b) (second_byte_max b) text → IsUtf8 (b ∷ text)
built b text lead f =
    elim lead.one [
      | inl small ↦ of_1 b text small (subst (Follows b text) (tail_0 b small) f)
      | inr big ↦ elim (cases_lt b 0xE0) [
        | inl s ↦ of_2 b text big.0 s (subst (Follows b text) (tail_1 b (omega arith) s) f)
        | inr s ↦ elim (cases_lt b 0xF0) [
          | inl t ↦ of_3 b text s t (subst (Follows b text) (tail_2 b s t) f)
          | inr t ↦ of_4 b text t big.1 (subst (Follows b text) (tail_3 b t) f)
        ]
      ]
    ]
