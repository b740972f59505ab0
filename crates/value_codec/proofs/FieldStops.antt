-- Fields and lists: where reading fails, no spelling goes on.
use Rattle.std.proofs.Common.{◌≡◌, ℕ, zero, suc, ◌-◌, ◌^◌, ◌<◌, ◌≤◌, Bool, true, false, cond, eqb, ltb, List, [], ◌∷◌, ◌++◌, length, take, drop, get_or, Option, Some, None, Result, Err, refl, sym, ap}
use Rattle.std.proofs.Common.{subst, ◌∙◌, arith, inl, inr, length-append}
use Rattle.std.specs.List.{flat_map}
use Rattle.std.specs.Int.{Width, w32, w64, byte_len, from_be_bytes, to_be_bytes}
use Rattle.std.specs.Str.{IsUtf8}
use Rattle.std.specs.Str.Lossy.{second_byte_min, second_byte_max}
use Rattle.std.proofs.lemmas.Bool.{eqb-true, eqb-false, ltb-true}
use Rattle.std.proofs.lemmas.List.{append-nil}
use Rattle.std.proofs.lemmas.List.Concat.{flat_map-cons}
use Rattle.std.proofs.lemmas.Str.{IsUtf8-from_ascii}
use Rattle.simdutf8.proofs.Chars.{least_is, most_is}
use Rattle.stab_base.specs.Codec.{IsBytes, counted}
use Rattle.stab_base.proofs.Fields.{IsWide, wide32, wide64}
use Rattle.value_codec.specs.declared.utf8.Inside.{Inside}
use Rattle.value_codec.specs.FirstBad.{IsFirstBad}
use Rattle.value_codec.specs.Spelling.{flag_spelling, list_spelling}
use Rattle.value_codec.specs.Utf8.{between, step, utf8_rest}
use Rattle.value_codec.specs.Reading.{byte_at, number_at, flag_at, id_at, utf8_at, text_at, items_at, list_at, exactly_at}
use Rattle.value_codec.proofs.FieldReads.{gives, Reads, four_reads, utf8_reads}
use Rattle.value_codec.proofs.ListReads.{EachFrom, IsList, items_reads}
use Rattle.value_codec.proofs.Utf8Places.{goes, steps}
use Rattle.value_codec.proofs.Utf8Chars.{Continues}
use Rattle.value_codec.proofs.Utf8Reads.{inside_of, Finishes, first_step, later_step, wrap, room_left, unwrap}
use Rattle.value_codec.proofs.Stops.{Stops, err_is, not_ok, bind_err, branch_err, head_is, tail_is, moved, behind, no_byte, bad_byte, two_fail, two_fail_made}

-- ---- numbers

pub zeros : ℕ → List ℕ
zeros zero = []
zeros (suc n) = 0 ∷ zeros n

pub zeros-length : (n : ℕ) → length (zeros n) ≡ n
unfolding zeros
zeros-length zero = refl
zeros-length (suc n) = ap suc (zeros-length n)

zeros-small : (n i : ℕ) → get_or (zeros n) i 0 < 128
unfolding zeros
zeros-small zero i = omega arith
zeros-small (suc n) zero = omega arith
zeros-small (suc n) (suc i) = zeros-small n i

bytes_append : (xs ys : List ℕ) → IsBytes xs → IsBytes ys → IsBytes (xs ++ ys)
bytes_append [] ys h k i = k i
bytes_append (x ∷ xs) ys h k zero = h 0
bytes_append (x ∷ xs) ys h k (suc i) = bytes_append xs ys (λ j. h (suc j)) k i

number_fails : (w : Width) (limit : ℕ) (wide : IsWide w limit) (bytes : List ℕ) (left : ℕ) → IsBytes bytes → number_at w bytes ≡ Err left → IsFirstBad (λ n. n < limit) (to_be_bytes w) bytes left
number_fails w limit wide bytes left fits e =
    elim (branch_err (ltb (length bytes) (byte_len w)) (Err 0) (gives (from_be_bytes w (take (byte_len w) bytes)) (drop (byte_len w) bytes)) left e) [
      | inr h ↦ absurd (not_ok (from_be_bytes w (take (byte_len w) bytes), drop (byte_len w) bytes) left h.1)
      | inl h ↦
          let short : length bytes < byte_len w = ltb-true _ _ h.0 in
          let none : 0 ≡ left = err_is {A = ℕ × List ℕ} 0 left h.1 in
          let missing : List ℕ = zeros (byte_len w - length bytes) in
          let padded : List ℕ = bytes ++ missing in
          let all_bytes : IsBytes padded = bytes_append bytes missing fits (λ i. omega (arith, zeros-small (byte_len w - length bytes) i)) in
          let nothing : List ℕ = [] in
          record {
            front = bytes;
            rest = nothing;
            parts = sym (append-nil bytes);
            place = none;
            value = from_be_bytes w padded;
            more = missing;
            fits = wide.below padded all_bytes;
            goes_on = wide.back padded (omega (arith, length-append bytes missing, zeros-length (byte_len w - length bytes))) all_bytes;
            stops = λ b later is x others k f. absurd cc;
          }
    ]

number_stop : (w : Width) (limit : ℕ) → IsWide w limit → 0 < limit → Stops (λ n. n < limit) (to_be_bytes w) (number_at w)
number_stop w limit wide some = record { some = 0; has = some; fails = number_fails w limit wide }

pub four_stop : Stops (λ n. n < 2 ^ 32) (to_be_bytes w32) (number_at w32)
four_stop = number_stop w32 (2 ^ 32) wide32 (omega arith)

pub eight_stop : Stops (λ n. n < 2 ^ 64) (to_be_bytes w64) (number_at w64)
eight_stop = number_stop w64 (2 ^ 64) wide64 (omega arith)

-- ---- ids

id_fails : (bytes : List ℕ) (left : ℕ) → IsBytes bytes → id_at bytes ≡ Err left → IsFirstBad (λ id. length id ≡ 16) (λ id. id) bytes left
unfolding id_at
id_fails bytes left fits e =
    elim (branch_err (ltb (length bytes) 16) (Err 0) (gives (take 16 bytes) (drop 16 bytes)) left e) [
      | inr h ↦ absurd (not_ok (take 16 bytes, drop 16 bytes) left h.1)
      | inl h ↦
          let short : length bytes < 16 = ltb-true _ _ h.0 in
          let missing : List ℕ = zeros (16 - length bytes) in
          let nothing : List ℕ = [] in
          record {
            front = bytes;
            rest = nothing;
            parts = sym (append-nil bytes);
            place = err_is {A = List ℕ × List ℕ} 0 left h.1;
            value = bytes ++ missing;
            more = missing;
            fits = length-append bytes missing ∙ omega (arith, zeros-length (16 - length bytes));
            goes_on = refl;
            stops = λ b later is x others k f. absurd cc;
          }
    ]

pub id_stop : Stops (λ id. length id ≡ 16) (λ id. id) id_at
id_stop = record { some = zeros 16; has = zeros-length 16; fails = id_fails }

-- ---- flags, and bytes that are given

flag_fails : (bytes : List ℕ) (left : ℕ) → IsBytes bytes → flag_at bytes ≡ Err left → IsFirstBad (λ b. Unit {0}) flag_spelling bytes left
unfolding flag_at byte_at
flag_fails [] left fits e = subst (IsFirstBad (λ b. Unit {0}) flag_spelling []) (err_is {A = Bool × List ℕ} 0 left e) (no_byte (λ b. Unit {0}) flag_spelling true tt)
flag_fails (b ∷ bytes) left fits e =
    elim (branch_err (eqb b 0) (gives false bytes) (cond (eqb b 1) (gives true bytes) (Err (suc (length bytes)))) left e) [
      | inl h ↦ absurd (not_ok (false, bytes) left h.1)
      | inr h ↦ elim (branch_err (eqb b 1) (gives true bytes) (Err (suc (length bytes))) left h.1) [
        | inl k ↦ absurd (not_ok (true, bytes) left k.1)
        | inr k ↦ subst (IsFirstBad (λ b. Unit {0}) flag_spelling (b ∷ bytes)) (err_is {A = Bool × List ℕ} (suc (length bytes)) left k.1)
            (bad_byte (λ b. Unit {0}) flag_spelling true b bytes tt (none b h.0 k.0))
      ]
    ] where
      none : (b : ℕ) → eqb b 0 ≡ false → eqb b 1 ≡ false → (x : Bool) (others : List ℕ) → Unit {0} → flag_spelling x ≡ b ∷ others → ⊥
      none b n m true others u e = eqb-false b 1 m (sym (head_is 1 b [] others e))
      none b n m false others u e = eqb-false b 0 n (sym (head_is 0 b [] others e))

pub flag_stop : Stops (λ b. Unit {0}) flag_spelling flag_at
flag_stop = record { some = true; has = tt; fails = flag_fails }

abbrev pub Given : Unit {0} → Type 0
Given u = Unit {0}

abbrev pub given : List ℕ → Unit {0} → List ℕ
given text u = text

pub exactly_fails : (text bytes : List ℕ) (left : ℕ) → exactly_at text bytes ≡ Err left → IsFirstBad Given (given text) bytes left
unfolding exactly_at
exactly_fails [] bytes left e = absurd (not_ok bytes left e)
exactly_fails (x ∷ text) [] left e = subst (IsFirstBad Given (given (x ∷ text)) []) (err_is {A = List ℕ} 0 left e) (no_byte Given (given (x ∷ text)) tt tt)
exactly_fails (x ∷ text) (b ∷ bytes) left e =
    elim (branch_err (eqb b x) (exactly_at text bytes) (Err (suc (length bytes))) left e) [
      | inl h ↦ subst (λ (n : ℕ). IsFirstBad Given (given (x ∷ text)) (n ∷ bytes) left) (sym (eqb-true b x h.0))
          (behind x Given (given text) Given (given (x ∷ text)) bytes left (λ u k. (tt, tt, refl)) (λ z others k f. (tt, tt, tail_is x x text others f)) (exactly_fails text bytes left h.1))
      | inr h ↦ subst (IsFirstBad Given (given (x ∷ text)) (b ∷ bytes)) (err_is {A = List ℕ} (suc (length bytes)) left h.1)
          (bad_byte Given (given (x ∷ text)) tt b bytes tt (λ u others k f. eqb-false b x h.0 (sym (head_is x b text others f))))
    ]

-- ---- texts

fill : (len need low high : ℕ) → low ≤ high → need ≤ len → (text : List ℕ) × (length text ≡ len) × Continues need low high text
fill len zero low high bounds room = (zeros len, zeros-length len, IsUtf8-from_ascii (zeros len) (zeros-small len))
fill zero (suc need) low high bounds room = absurd (omega arith)
fill (suc len) (suc need) low high bounds room =
    let later = fill len need 0x80 0xBF (omega arith) (omega arith) in
    (low ∷ later.0, ap suc later.1, (omega arith, bounds, later.2))

bounded : (need low high left b : ℕ) (next : Inside) → step (inside_of need low high) left b ≡ Some next → next.low ≤ next.high
bounded zero low high left b next e =
    let s = first_step low high left b next e in
    let k = least_is b in
    let m = most_is b in
    let in_order : second_byte_min b ≤ second_byte_max b = omega arith in
    subst (λ (n : Inside). n.low ≤ n.high) s.2 in_order
bounded (suc need) low high left b next e =
    let s = later_step need low high left b next e in
    let in_order : 0x80 ≤ 0xBF = omega arith in
    subst (λ (n : Inside). n.low ≤ n.high) s.2 in_order

abbrev IsRest : Inside → ℕ → List ℕ → Type 0
IsRest inside len text = (length text ≡ len) × Finishes inside text

abbrev itself : List ℕ → List ℕ
itself text = text

rest_fails : (len : ℕ) (inside : Inside) (bytes : List ℕ) (left : ℕ) → inside.low ≤ inside.high → inside.need ≤ len → utf8_rest inside len bytes ≡ Err left
    → IsFirstBad (IsRest inside len) itself bytes left
unfolding utf8_rest
rest_fails zero inside bytes left bounds room e = absurd (not_ok bytes left e)
rest_fails (suc len) inside [] left bounds room e =
    let some = fill (suc len) inside.need inside.low inside.high bounds room in
    subst (IsFirstBad (IsRest inside (suc len)) itself []) (err_is {A = List ℕ} 0 left e) (no_byte (IsRest inside (suc len)) itself some.0 (some.1, some.2))
rest_fails (suc len) inside (b ∷ bytes) left bounds room e =
    go (step inside len b) refl (sym (steps inside len b bytes) ∙ e) (λ next. rest_fails len next bytes left) where
      go : (o : Option Inside) → step inside len b ≡ o → goes len bytes o ≡ Err left
          → ((next : Inside) → next.low ≤ next.high → next.need ≤ len → utf8_rest next len bytes ≡ Err left → IsFirstBad (IsRest next len) itself bytes left)
          → IsFirstBad (IsRest inside (suc len)) itself (b ∷ bytes) left
      go None is f again =
          let some = fill (suc len) inside.need inside.low inside.high bounds room in
          subst (IsFirstBad (IsRest inside (suc len)) itself (b ∷ bytes)) (err_is {A = List ℕ} (suc (length bytes)) left f)
          (bad_byte (IsRest inside (suc len)) itself some.0 b bytes (some.1, some.2) (λ text others h g.
          let k = subst (IsRest inside (suc len)) g h in
          let u = unwrap inside.need inside.low inside.high len b others (let l = k.0 in omega arith) k.1 in
          let no : None ≡ Some u.0 = sym is ∙ u.1 in absurd cc))
      go (Some next) is f again =
          behind b (IsRest next len) itself (IsRest inside (suc len)) itself bytes left
          (λ text h. (b ∷ text, (ap suc h.0, wrap inside.need inside.low inside.high len b next text is h.1), refl))
          (λ text others h g.
          let k = subst (IsRest inside (suc len)) g h in
          let l = k.0 in
          let short : length others ≡ len = omega arith in
          let u = unwrap inside.need inside.low inside.high len b others short k.1 in
          let same : u.0 ≡ next = (let both : Some u.0 ≡ Some next = sym u.1 ∙ is in cc) in
          (others, (short, subst (λ (n : Inside). Finishes n others) same u.2), refl))
          (again next (bounded inside.need inside.low inside.high len b next is) (room_left inside.need inside.low inside.high len b next room is) f)

pub utf8_stop : (len : ℕ) → Stops (λ text. (length text ≡ len) × IsUtf8 text) (λ text. text) (utf8_at len)
unfolding utf8_at
utf8_stop len = record {
  some = zeros len;
  has = (zeros-length len, IsUtf8-from_ascii (zeros len) (zeros-small len));
  fails = λ bytes left fits e.
      elim (bind_err (utf8_rest between len bytes) (λ rest. gives (take len bytes) rest) left e) [
        | inl h ↦ rest_fails len between bytes left (omega arith) (omega arith) h
        | inr h ↦ absurd (not_ok (take len bytes, h.0) left h.2)
      ];
}

abbrev pub IsText : List ℕ → Type 0
IsText text = (length text < 2 ^ 32) × IsUtf8 text

text_fails : (bytes : List ℕ) (left : ℕ) → IsBytes bytes → text_at bytes ≡ Err left → IsFirstBad IsText counted bytes left
unfolding text_at
text_fails bytes left fits e =
    moved {W = ℕ × List ℕ} (λ p. (p.0 < 2 ^ 32) × ((length p.1 ≡ p.0) × IsUtf8 p.1)) (λ p. to_be_bytes w32 p.0 ++ p.1) IsText counted bytes left
    (λ p h. (p.1, (omega (arith, h.0, h.1.0), h.1.1), ap (λ (n : ℕ). to_be_bytes w32 n ++ p.1) h.1.0))
    (λ text h. ((length text, text), (h.0, (refl, h.1)), refl))
    (two_fail (λ n. n < 2 ^ 32) (to_be_bytes w32) (number_at w32) (λ len text. (length text ≡ len) × IsUtf8 text) (λ (len : ℕ) (text : List ℕ). text) utf8_at four_reads four_stop utf8_reads (λ len h. utf8_stop len) bytes left fits e)

pub text_stop : Stops IsText counted text_at
text_stop = record { some = zeros 0; has = (omega (arith, zeros-length 0), IsUtf8-from_ascii (zeros 0) (zeros-small 0)); fails = text_fails }

-- ---- lists

module _ {S X : Type 0} (next : S → X → S) (P : S → X → Type 0) (spell : X → List ℕ) (item_at : S → List ℕ → Result (X × List ℕ) ℕ) (each : (s : S) → Reads (P s) spell (item_at s)) (stop : (s : S) → Stops (P s) spell (item_at s)) where
  none_fails : (s : S) (bytes : List ℕ) (left : ℕ) → items_at next item_at s 0 bytes ≡ Err left → ⊥
  unfolding items_at
  none_fails s bytes left e = let nothing : List X = [] in not_ok (nothing, bytes) left e

  parts_of : (n : ℕ) (s : S) (xs : List X) → IsList next P s (suc n) xs → (p : X × List X) × (P s p.0 × IsList next P (next s p.0) n p.1) × (spell p.0 ++ flat_map spell p.1 ≡ flat_map spell xs)
  parts_of n s [] h = absurd (omega (arith, h.0))
  parts_of n s (x ∷ xs) h = ((x, xs), (h.1.0, (omega (arith, h.0), h.1.1)), sym (flat_map-cons spell x xs))

  some_fail : (n : ℕ) (s : S) → ((x : X) → Stops (IsList next P (next s x) n) (flat_map spell) (items_at next item_at (next s x) n))
      → (bytes : List ℕ) (left : ℕ) → IsBytes bytes → items_at next item_at s (suc n) bytes ≡ Err left → IsFirstBad (IsList next P s (suc n)) (flat_map spell) bytes left
  unfolding items_at
  some_fail n s later bytes left fits e =
      moved {W = X × List X} (λ p. P s p.0 × IsList next P (next s p.0) n p.1) (λ p. spell p.0 ++ flat_map spell p.1) (IsList next P s (suc n)) (flat_map spell) bytes left
      (λ p h. (p.0 ∷ p.1, (ap suc h.1.0, (h.0, h.1.1)), flat_map-cons spell p.0 p.1))
      (parts_of n s)
      (two_fail_made (P s) spell (item_at s) (λ (y : X). IsList next P (next s y) n) (λ (y : X). flat_map spell) (λ (y : X). items_at next item_at (next s y) n) (each s) (stop s)
      (λ y. items_reads next P spell item_at each n (next s y)) (λ y h. later y) (λ (y : X) (ys : List X). y ∷ ys) bytes left fits e)

  pub items_stop : (n : ℕ) (s : S) → Stops (IsList next P s n) (flat_map spell) (items_at next item_at s n)
  items_stop zero s = let nothing : List X = [] in record { some = nothing; has = (refl, tt); fails = λ bytes left fits e. absurd (none_fails s bytes left e) }
  items_stop (suc n) s =
      let first = stop s in
      let others = items_stop n (next s first.some) in
      record { some = first.some ∷ others.some; has = (ap suc others.has.0, (first.has, others.has.1)); fails = some_fail n s (λ x. items_stop n (next s x)) }

  list_fails : (s : S) (bytes : List ℕ) (left : ℕ) → IsBytes bytes → list_at next item_at s bytes ≡ Err left
      → IsFirstBad (λ xs. (length xs < 2 ^ 32) × EachFrom next P s xs) (list_spelling spell) bytes left
  unfolding list_at
  list_fails s bytes left fits e =
      moved {W = ℕ × List X} (λ p. (p.0 < 2 ^ 32) × IsList next P s p.0 p.1) (λ p. to_be_bytes w32 p.0 ++ flat_map spell p.1) (λ xs. (length xs < 2 ^ 32) × EachFrom next P s xs) (list_spelling spell) bytes left
      (λ p h. (p.1, (omega (arith, h.0, h.1.0), h.1.1), ap (λ (n : ℕ). to_be_bytes w32 n ++ flat_map spell p.1) h.1.0))
      (λ xs h. ((length xs, xs), (h.0, (refl, h.1)), refl))
      (two_fail (λ n. n < 2 ^ 32) (to_be_bytes w32) (number_at w32) (λ (n : ℕ). IsList next P s n) (λ (n : ℕ). flat_map spell) (λ (n : ℕ). items_at next item_at s n) four_reads four_stop
      (λ n. items_reads next P spell item_at each n s) (λ n h. items_stop n s) bytes left fits e)

  pub list_stop : (s : S) → Stops (λ xs. (length xs < 2 ^ 32) × EachFrom next P s xs) (list_spelling spell) (list_at next item_at s)
  list_stop s = let nothing : List X = [] in record { some = nothing; has = (omega arith, tt); fails = list_fails s }
