-- The words of cells and objects: their bytes, and that each is one value's alone.
use Rattle.std.proofs.Common.{◌≡◌, ℕ, zero, suc, ◌/◌, ◌%◌, ◌<◌, ◌≤◌, Bool, true, false, ◌&&◌, ltb, List, []}
use Rattle.std.proofs.Common.{◌∷◌, ◌++◌, map, codes, get_or, Ok, refl, sym, ap, ◌∙◌, subst, arith, true≢false, inl, inr}
use Rattle.std.specs.List.{AllByRecursion}
use Rattle.std.specs.Fmt.{decimal, signed_decimal}
use Rattle.std.proofs.lemmas.Bool.{ltb-true, cases_lt}
use Rattle.std.proofs.lemmas.Fmt.{decimal_injective, signed_decimal_injective}
use Rattle.std.proofs.lemmas.List.Elements.{All-from_recursion, recursion_from_All}
use Rattle.percent_encoding.specs.AsciiSet.{should_percent_encode}
use Rattle.percent_encoding.specs.Percent.{percent_encode, percent_decode}
use Rattle.percent_encoding.proofs.PercentLemmas.{All-percent_encode, round_trip}
use Rattle.hex.specs.Hex.{encode_lower, encode_with, lower_digits, decode_of}
use Rattle.hex.proofs.HexLemmas.{decode_of-encode_lower}
use Rattle.transcript_text.specs.declared.print.TheConstants.{ESCAPED}
use Rattle.row_value.specs.declared.content.Cell.{Cell}
use Rattle.row_value.specs.declared.content.Cell.TheVariants as cells
use Rattle.table_model.specs.declared.sum.ObjectSum.{ObjectSum}
use Rattle.transcript_text.specs.OneForm.{AreBytes, HasCellText, HasSumText, HasObject}
use Rattle.transcript_text.proofs.Above.{IsAbove, all_append, parted, decimal_above, decimal_avoids, signed_above, signed_first}

abbrev pub cell_word : Cell → List ℕ
cell_word (cells.Int n) = signed_decimal n
cell_word (cells.Bool true) = codes "true"
cell_word (cells.Bool false) = codes "false"
cell_word (cells.Text text) = codes "t:" ++ percent_encode ESCAPED text

abbrev pub object_word : List ℕ → List ℕ
object_word object = codes "h:" ++ encode_lower object

abbrev pub sum_word : ObjectSum → List ℕ
sum_word object = codes "o:" ++ (decimal object.len ++ (codes ":" ++ encode_lower object.sha256))

-- ---- bytes above a space

-- a test that each number below n passes
every : (ℕ → Bool) → ℕ → Bool
every p zero = true
every p (suc n) = p n && every p n

both : (a b : Bool) → (a && b) ≡ true → (a ≡ true) × (b ≡ true)
both true b e = (refl, e)
both false b e = absurd (true≢false (sym e))

each_below : (p : ℕ → Bool) (n b : ℕ) → every p n ≡ true → b < n → p b ≡ true
unfolding every
each_below p zero b e h = absurd (omega (arith, h))
each_below p (suc n) b e h =
    let t = both (p n) (every p n) e in
    elim (cases_lt b n) [
      | inl less ↦ each_below p n b t.1 less
      | inr last ↦ (let same : b ≡ n = omega (arith, h, last) in subst (λ (m : ℕ). p m ≡ true) (sym same) t.0)
    ]

low_bytes : every (should_percent_encode ESCAPED) 33 ≡ true
unfolding every should_percent_encode
low_bytes = refl

kept_above : (b : ℕ) → should_percent_encode ESCAPED b ≡ false → 32 < b
kept_above b kept = elim (cases_lt b 33) [
  | inl low ↦ absurd (true≢false (sym (each_below (should_percent_encode ESCAPED) 33 b low_bytes low) ∙ kept))
  | inr high ↦ high
]

low_digits : every (λ n. ltb 32 (get_or lower_digits n 0)) 16 ≡ true
unfolding every
low_digits = refl

digit_above : (n : ℕ) → n < 16 → 32 < get_or lower_digits n 0
digit_above n h = ltb-true _ _ (each_below (λ n. ltb 32 (get_or lower_digits n 0)) 16 n low_digits h)

pub all_words : (P : List ℕ → Type 0) (xs ys : List (List ℕ)) → AllByRecursion P xs → AllByRecursion P ys → AllByRecursion P (xs ++ ys)
all_words P [] ys h k = k
all_words P (x ∷ xs) ys h k = (h.0, all_words P xs ys h.1 k)

text_above : (text : List ℕ) → IsAbove 32 (percent_encode ESCAPED text)
text_above text = recursion_from_All (λ b. 32 < b) (percent_encode ESCAPED text) (All-percent_encode (λ b. 32 < b) ESCAPED text kept_above (λ b h. grind (arith, h)))

hex_above : (bytes : List ℕ) → AreBytes bytes → IsAbove 32 (encode_lower bytes)
unfolding encode_with
hex_above [] h = tt
hex_above (b ∷ bytes) h = (digit_above (b / 16) (omega (arith, h.0)), (digit_above (b % 16) (omega arith), hex_above bytes h.1))

pub cells_above : (some : List Cell) → AllByRecursion HasCellText some → AllByRecursion (IsAbove 32) (map cell_word some)
cells_above [] h = tt
cells_above (cells.Int n ∷ some) h = (signed_above n h.0, cells_above some h.1)
cells_above (cells.Bool true ∷ some) h = (truth, cells_above some h.1) where
  truth : IsAbove 32 (codes "true")
  truth = (omega arith, (omega arith, (omega arith, (omega arith, tt))))
cells_above (cells.Bool false ∷ some) h = (falsehood, cells_above some h.1) where
  falsehood : IsAbove 32 (codes "false")
  falsehood = (omega arith, (omega arith, (omega arith, (omega arith, (omega arith, tt)))))
cells_above (cells.Text text ∷ some) h = ((omega arith, (omega arith, text_above text)), cells_above some h.1)

pub objects_above : (objects : List (List ℕ)) → AllByRecursion AreBytes objects → AllByRecursion (IsAbove 32) (map object_word objects)
objects_above [] h = tt
objects_above (object ∷ objects) h = ((omega arith, (omega arith, hex_above object h.0)), objects_above objects h.1)

pub sums_above : (objects : List ObjectSum) → AllByRecursion HasSumText objects → AllByRecursion (IsAbove 32) (map sum_word objects)
sums_above [] h = tt
sums_above (object ∷ objects) h = (
  (omega arith, (omega arith, all_append (λ b. 32 < b) (decimal object.len) (58 ∷ encode_lower object.sha256) (decimal_above object.len h.0.len) (omega arith, hex_above object.sha256 h.0.sha256))),
  sums_above objects h.1,
)

-- ---- one value a word

text_same : (a b : List ℕ) → AreBytes a → AreBytes b → percent_encode ESCAPED a ≡ percent_encode ESCAPED b → a ≡ b
text_same a b p q e =
    sym (round_trip ESCAPED a refl (All-from_recursion (λ b. b < 256) a p)) ∙ ap percent_decode e ∙ round_trip ESCAPED b refl (All-from_recursion (λ b. b < 256) b q)

byte_at : (bytes : List ℕ) → AreBytes bytes → (i : ℕ) → get_or bytes i 0 < 256
byte_at [] h i = omega arith
byte_at (b ∷ bytes) h zero = h.0
byte_at (b ∷ bytes) h (suc i) = byte_at bytes h.1 i

hex_same : (a b : List ℕ) → AreBytes a → AreBytes b → encode_lower a ≡ encode_lower b → a ≡ b
hex_same a b p q e =
    let same : Ok a ≡ Ok b = sym (decode_of-encode_lower a (byte_at a p)) ∙ ap decode_of e ∙ decode_of-encode_lower b (byte_at b q) in
    cc

pub object_same : (a b : List ℕ) → AreBytes a → AreBytes b → object_word a ≡ object_word b → a ≡ b
object_same a b p q e = hex_same a b p q (cc)

abbrev sum_made : ℕ → List ℕ → ObjectSum
sum_made len digest = record { len = len; sha256 = digest }

pub sum_same : (a b : ObjectSum) → HasSumText a → HasSumText b → sum_word a ≡ sum_word b → a ≡ b
sum_same a b p q e =
    let parts = parted 58 (decimal a.len) (decimal b.len) (58 ∷ encode_lower a.sha256) (58 ∷ encode_lower b.sha256) (decimal_avoids a.len p.len) (decimal_avoids b.len q.len) refl refl (cc) in
    let lens : a.len ≡ b.len = decimal_injective a.len b.len p.len q.len parts.0 in
    let digests : a.sha256 ≡ b.sha256 = hex_same a.sha256 b.sha256 p.sha256 q.sha256 (cc parts.1) in
    ap (λ (n : ℕ). sum_made n a.sha256) lens ∙ ap (sum_made b.len) digests

first : (c d : ℕ) (xs ys : List ℕ) → c ∷ xs ≡ d ∷ ys → c ≡ d
first c d xs ys e = cc

second : (a b c d : ℕ) (xs ys : List ℕ) → a ∷ c ∷ xs ≡ b ∷ d ∷ ys → c ≡ d
second a b c d xs ys e = cc

first_word : (v w : List ℕ) (vs ws : List (List ℕ)) → v ∷ vs ≡ w ∷ ws → v ≡ w
first_word v w vs ws e = cc

cell_same : (a b : Cell) → HasCellText a → HasCellText b → cell_word a ≡ cell_word b → a ≡ b
cell_same (cells.Int m) (cells.Int n) p q e = ap cells.Int (signed_decimal_injective m n (omega (arith, p)) (omega (arith, q)) e)
cell_same (cells.Int m) (cells.Bool true) p q e = absurd (omega (arith, signed_first m 116 (codes "rue") p e))
cell_same (cells.Int m) (cells.Bool false) p q e = absurd (omega (arith, signed_first m 102 (codes "alse") p e))
cell_same (cells.Int m) (cells.Text t) p q e = absurd (omega (arith, signed_first m 116 (58 ∷ percent_encode ESCAPED t) p e))
cell_same (cells.Bool true) (cells.Int n) p q e = absurd (omega (arith, signed_first n 116 (codes "rue") q (sym e)))
cell_same (cells.Bool false) (cells.Int n) p q e = absurd (omega (arith, signed_first n 102 (codes "alse") q (sym e)))
cell_same (cells.Text t) (cells.Int n) p q e = absurd (omega (arith, signed_first n 116 (58 ∷ percent_encode ESCAPED t) q (sym e)))
cell_same (cells.Bool true) (cells.Bool true) p q e = refl
cell_same (cells.Bool false) (cells.Bool false) p q e = refl
cell_same (cells.Bool true) (cells.Bool false) p q e = absurd (omega (arith, first 116 102 (codes "rue") (codes "alse") e))
cell_same (cells.Bool false) (cells.Bool true) p q e = absurd (omega (arith, first 102 116 (codes "alse") (codes "rue") e))
cell_same (cells.Bool true) (cells.Text t) p q e = absurd (omega (arith, second 116 116 114 58 (codes "ue") (percent_encode ESCAPED t) e))
cell_same (cells.Bool false) (cells.Text t) p q e = absurd (omega (arith, first 102 116 (codes "alse") (58 ∷ percent_encode ESCAPED t) e))
cell_same (cells.Text t) (cells.Bool true) p q e = absurd (omega (arith, second 116 116 58 114 (percent_encode ESCAPED t) (codes "ue") e))
cell_same (cells.Text t) (cells.Bool false) p q e = absurd (omega (arith, first 116 102 (58 ∷ percent_encode ESCAPED t) (codes "alse") e))
cell_same (cells.Text t) (cells.Text u) p q e = ap cells.Text (text_same t u p q (cc))

-- no cell's word begins with one of the letters from `g` to `s`
no_cell : (cell : Cell) (c : ℕ) (rest : List ℕ) → HasCellText cell → 103 ≤ c → c < 116 → cell_word cell ≡ c ∷ rest → ⊥
no_cell (cells.Int n) c rest h low high e = omega (arith, low, signed_first n c rest h e)
no_cell (cells.Bool true) c rest h low high e = omega (arith, high, first 116 c (codes "rue") rest e)
no_cell (cells.Bool false) c rest h low high e = omega (arith, low, first 102 c (codes "alse") rest e)
no_cell (cells.Text t) c rest h low high e = omega (arith, high, first 116 c (58 ∷ percent_encode ESCAPED t) rest e)

pub no_object : (cell : Cell) (object : List ℕ) → HasCellText cell → cell_word cell ≡ object_word object → ⊥
no_object cell object h e = no_cell cell 104 (58 ∷ encode_lower object) h (omega arith) (omega arith) e

pub no_sum : (cell : Cell) (object : ObjectSum) → HasCellText cell → cell_word cell ≡ sum_word object → ⊥
no_sum cell object h e = no_cell cell 111 (58 ∷ (decimal object.len ++ 58 ∷ encode_lower object.sha256)) h (omega arith) (omega arith) e

-- cells, and objects of any kind behind them, each of which its word tells
module _ {X : Type 0} (word : X → List ℕ) (Has : X → Type 0) (same : (a b : X) → Has a → Has b → word a ≡ word b → a ≡ b)
    (apart : (cell : Cell) (x : X) → HasCellText cell → cell_word cell ≡ word x → ⊥) where
  objects_same : (xs ys : List X) → AllByRecursion Has xs → AllByRecursion Has ys → map word xs ≡ map word ys → xs ≡ ys
  objects_same [] [] p q e = refl
  objects_same [] (y ∷ ys) p q e = absurd cc
  objects_same (x ∷ xs) [] p q e = absurd cc
  objects_same (x ∷ xs) (y ∷ ys) p q e = cc (same x y p.0 q.0 (cc), objects_same xs ys p.1 q.1 (cc))

  pub values_same : (xs ys : List Cell) (os ps : List X) → AllByRecursion HasCellText xs → AllByRecursion HasCellText ys → AllByRecursion Has os → AllByRecursion Has ps
      → map cell_word xs ++ map word os ≡ map cell_word ys ++ map word ps → (xs ≡ ys) × (os ≡ ps)
  values_same [] [] os ps p q h k e = (refl, objects_same os ps h k e)
  values_same [] (y ∷ ys) [] ps p q h k e = absurd cc
  values_same [] (y ∷ ys) (o ∷ os) ps p q h k e = absurd (apart y o q.0 (cc))
  values_same (x ∷ xs) [] os [] p q h k e = absurd cc
  values_same (x ∷ xs) [] os (o ∷ ps) p q h k e = absurd (apart x o p.0 (cc))
  values_same (x ∷ xs) (y ∷ ys) os ps p q h k e =
      let first = cell_same x y p.0 q.0 (cc) in
      let more = values_same xs ys os ps p.1 q.1 h k (cc) in
      (cc (first, more.0), more.1)

  pub not_gone : ((x : X) → word x ≡ codes "gone" → ⊥) → (some : List Cell) (objects : List X) → AllByRecursion HasCellText some → map cell_word some ++ map word objects ≡ codes "gone" ∷ [] → ⊥
  not_gone other [] [] h e = cc
  not_gone other [] (object ∷ objects) h e = other object (cc)
  not_gone other (cell ∷ some) objects h e = no_cell cell 103 (codes "one") h.0 (omega arith) (omega arith) (cc)

pub object_not_gone : (object : List ℕ) → object_word object ≡ codes "gone" → ⊥
object_not_gone object e = omega (arith, first 104 103 (58 ∷ encode_lower object) (codes "one") e)

pub sum_not_gone : (object : ObjectSum) → sum_word object ≡ codes "gone" → ⊥
sum_not_gone object e = omega (arith, first 111 103 (58 ∷ (decimal object.len ++ 58 ∷ encode_lower object.sha256)) (codes "one") e)

-- a row's objects are whole, or by their digests
pub kinds_apart : (some more : List Cell) (objects : List (List ℕ)) (sums : List ObjectSum) → AllByRecursion HasCellText some → AllByRecursion HasCellText more → HasObject sums
    → map cell_word some ++ map object_word objects ≡ map cell_word more ++ map sum_word sums → ⊥
kinds_apart some more objects [] p q h e = h
kinds_apart [] [] [] (y ∷ sums) p q h e = cc
kinds_apart [] [] (x ∷ objects) (y ∷ sums) p q h e =
    omega (arith, first 104 111 (58 ∷ encode_lower x) (58 ∷ (decimal y.len ++ 58 ∷ encode_lower y.sha256)) (first_word _ _ _ _ e))
kinds_apart [] (y ∷ more) [] (z ∷ sums) p q h e = cc
kinds_apart [] (y ∷ more) (x ∷ objects) (z ∷ sums) p q h e = no_object y x q.0 (sym (first_word _ _ _ _ e))
kinds_apart (x ∷ some) [] objects (y ∷ sums) p q h e = no_sum x y p.0 (first_word _ _ _ _ e)
kinds_apart (x ∷ some) (y ∷ more) objects (z ∷ sums) p q h e = kinds_apart some more objects (z ∷ sums) p.1 q.1 h (cc)
