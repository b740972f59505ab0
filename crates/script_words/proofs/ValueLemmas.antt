-- A word is read as the value that it spells.
use Rattle.std.proofs.Common.{◌≡◌, ◌≢◌, ℕ, zero, suc, ◌+◌, ◌<◌, ◌≤◌, ◌^◌, ◌%◌, Bool, true, false, ◌&&◌, eqb, ltb, leb, cond, List, [], ◌∷◌, ◌++◌}
use Rattle.std.proofs.Common.{length, get_or, map, codes, Option, Some, None, Result, Ok, Err, ℤ, pos, negsuc, neg_ℤ, refl, sym, ap, ◌∙◌, subst, inl, inr, arith}
use Rattle.std.specs.Prelude.{◌⊎◌}
use Rattle.std.specs.Int.Signed.{mag}
use Rattle.std.specs.Fmt.{decimal, signed_decimal}
use Rattle.std.specs.List.{AllByRecursion, range_with_len}
use Rattle.std.specs.Str.{bytes_eq, is_utf8}
use Rattle.std.specs.Str.Parse.{AllDigits, digits_value, signed_digits_value}
use Rattle.std.proofs.lemmas.Bool.{lt-ltb, le-leb, leb-true, cases_Bool, eqb-true}
use Rattle.std.proofs.lemmas.Fmt.{decimal_is_IsNumeral}
use Rattle.std.proofs.lemmas.List.FromFn.{map-range_with_len_more}
use Rattle.std.proofs.lemmas.Str.{is_utf8-from_IsUtf8, IsUtf8-from_is_utf8}
use Rattle.std.proofs.lemmas.Str.Parse.{digit_at, digit_from_value}
use Rattle.std.proofs.lemmas.Slice.Eq.{bytes_eq-Decides}
use Rattle.percent_encoding.specs.Percent.{percent_decode}
use Rattle.hex.specs.Hex.{decode_of}
use Rattle.hex.specs.declared.error.FromHexError.{FromHexError}
use Rattle.row_value.specs.declared.content.Cell.{Cell}
use Rattle.row_value.specs.declared.content.Cell.TheVariants as cells
use Rattle.script_words.specs.declared.code.Code.{Code}
use Rattle.script_words.specs.declared.code.Code.TheVariants.{NoValue}
use Rattle.script_words.specs.declared.values.Value.{Value}
use Rattle.script_words.specs.declared.values.Value.TheVariants.{OfCell, OfObject}
use Rattle.script_words.specs.Words.{is_length, parts_of, is_colon}
use Rattle.script_words.specs.Values.{repeated, SpellsCell, SpellsObject, SpellsValue, int_of, length_in, text_in, hex_in}
use Rattle.script_words.specs.Values.{object_in, repeat_in, repeat_with, repeat_of, long_of, word_of, value_or, judged, value_at, judged_bytes, bytes_at}
use Rattle.script_words.proofs.WordLemmas.{both}
use Rattle.script_words.proofs.IntLemmas.{int_of-parts}
use Rattle.script_words.proofs.Numerals.{length-text, length-right, value-right}
use Rattle.script_words.proofs.Parts.{some_same, none_some, parts_of-some, parts_of-right, IsPlain, no_colon}

pub repeated-more : (pattern : List ℕ) (n : ℕ) → repeated pattern (n + 1) ≡ repeated pattern n ++ get_or pattern (n % length pattern) 0 ∷ []
repeated-more pattern n = map-range_with_len_more (λ (place : ℕ). get_or pattern (place % length pattern) 0) 0 n n (omega arith)

-- ---- what is read is spelled so

pub length_in-some : (digits : List ℕ) (n : ℕ) → length_in digits ≡ Some n → (digits ≡ decimal n) × (n ≤ 33554432)
unfolding length_in
length_in-some digits n e = elim (cases_Bool (is_length digits && leb (digits_value 10 digits) 33554432)) [
  | inl is ↦
      let p = both (is_length digits) (leb (digits_value 10 digits) 33554432) is in
      let most : digits_value 10 digits ≤ 33554432 = leb-true _ _ p.1 in
      let same : digits_value 10 digits ≡ n = some_same _ _ (rw is at e) in
      (sym (length-text digits p.0 (omega (arith, most))) ∙ ap decimal same, subst (λ (m : ℕ). m ≤ 33554432) same most)
  | inr other ↦ absurd (none_some n (rw other at e))
]

text_in-some : (escaped : List ℕ) (value : Value) → text_in (percent_decode escaped) ≡ Some value → SpellsValue (codes "t:" ++ escaped) value
text_in-some escaped value e = elim (cases_Bool (is_utf8 (percent_decode escaped))) [
  | inl is ↦
      let same : OfCell (cells.Text (percent_decode escaped)) ≡ value = some_same _ _ (rw is at e) in
      subst (SpellsValue (codes "t:" ++ escaped)) same (escaped, refl, refl, IsUtf8-from_is_utf8 (percent_decode escaped) is)
  | inr other ↦ absurd (none_some value (rw other at e))
]

hex_some : (r : Result (List ℕ) FromHexError) (bytes : List ℕ) → hex_in r ≡ Some bytes → r ≡ Ok bytes
hex_some (Ok found) bytes e = ap Ok (some_same _ _ e)
hex_some (Err f) bytes e = absurd (none_some bytes e)

object_some : (o : Option (List ℕ)) (value : Value) → object_in o ≡ Some value → (object : List ℕ) × (o ≡ Some object) × (OfObject object ≡ value)
object_some None value e = absurd (none_some value e)
object_some (Some object) value e = (object, refl, some_same _ _ e)

repeat_some : (len : ℕ) (o : Option (List ℕ)) (value : Value) → repeat_in len o ≡ Some value → (pattern : List ℕ) × (o ≡ Some pattern) × (pattern ≢ []) × (OfObject (repeated pattern len) ≡ value)
repeat_some len None value e = absurd (none_some value e)
repeat_some len (Some []) value e = absurd (none_some value e)
repeat_some len (Some (b ∷ bytes)) value e = (b ∷ bytes, refl, (λ none. cc), some_same _ _ e)

with_some : (digits : List ℕ) (o : Option ℕ) (value : Value) → repeat_with digits o ≡ Some value → (len : ℕ) × (o ≡ Some len) × (repeat_in len (hex_in (decode_of digits)) ≡ Some value)
with_some digits None value e = absurd (none_some value e)
with_some digits (Some len) value e = (len, refl, e)

repeat_of-some : (word : List ℕ) (o : Option (List ℕ × List ℕ)) (value : Value) → parts_of word ≡ o → repeat_of o ≡ Some value → SpellsValue (codes "r:" ++ word) value
unfolding repeat_of
repeat_of-some word None value is e = absurd (none_some value e)
repeat_of-some word (Some p) value is e =
    let w = with_some p.1 (length_in p.0) value e in
    let l = length_in-some p.0 w.0 w.1 in
    let r = repeat_some w.0 (hex_in (decode_of p.1)) value w.2 in
    let text : word ≡ decimal w.0 ++ 58 ∷ p.1 = parts_of-some word p is ∙ ap (λ (digits : List ℕ). digits ++ 58 ∷ p.1) l.0 in
    subst (SpellsValue (codes "r:" ++ word)) r.3
    (inr (w.0, p.1, r.0, ap (λ (w : List ℕ). codes "r:" ++ w) text, l.1, r.2, hex_some (decode_of p.1) r.0 r.1, refl))

lettered : (word letter rest : List ℕ) (p : List ℕ × List ℕ) → word ≡ p.0 ++ 58 ∷ p.1 → bytes_eq p.0 letter ≡ true → word ≡ letter ++ 58 ∷ p.1
lettered word letter rest p is same = is ∙ ap (λ (front : List ℕ). front ++ 58 ∷ p.1) ((bytes_eq-Decides p.0 letter).0 same)

long_of-some : (word : List ℕ) (o : Option (List ℕ × List ℕ)) (value : Value) → parts_of word ≡ o → long_of o ≡ Some value → SpellsValue word value
unfolding long_of
long_of-some word None value is e = absurd (none_some value e)
long_of-some word (Some p) value is e =
    let text = parts_of-some word p is in
    elim (cases_Bool (bytes_eq p.0 (codes "t"))) [
      | inl t ↦ subst (λ (w : List ℕ). SpellsValue w value) (sym (lettered word (codes "t") [] p text t)) (text_in-some p.1 value (rw t at e))
      | inr no_t ↦ elim (cases_Bool (bytes_eq p.0 (codes "h"))) [
        | inl h ↦
            (let o = object_some (hex_in (decode_of p.1)) value (rw (no_t, h) at e) in
            subst (SpellsValue word) o.2 (inl (p.1, lettered word (codes "h") [] p text h, hex_some (decode_of p.1) o.0 o.1)))
        | inr no_h ↦ elim (cases_Bool (bytes_eq p.0 (codes "r"))) [
          | inl r ↦ subst (λ (w : List ℕ). SpellsValue w value) (sym (lettered word (codes "r") [] p text r)) (repeat_of-some p.1 (parts_of p.1) value refl (rw (no_t, no_h, r) at e))
          | inr no_r ↦ absurd (none_some value (rw (no_t, no_h, no_r) at e))
        ]
      ]
    ]

truth : (word : List ℕ) (b : Bool) (value : Value) → word ≡ cond b (codes "true") (codes "false") → OfCell (cells.Bool b) ≡ value → SpellsValue word value
truth word b value is same = subst (SpellsValue word) same is

word_of-some : (word : List ℕ) (value : Value) → word_of word ≡ Some value → SpellsValue word value
unfolding word_of
word_of-some word value e = elim (cases_Bool (bytes_eq word (codes "true"))) [
  | inl t ↦ truth word true value ((bytes_eq-Decides word (codes "true")).0 t) (some_same _ _ (rw t at e))
  | inr no_t ↦ elim (cases_Bool (bytes_eq word (codes "false"))) [
    | inl f ↦ truth word false value ((bytes_eq-Decides word (codes "false")).0 f) (some_same _ _ (rw (no_t, f) at e))
    | inr no_f ↦ long_of-some word (parts_of word) value refl (rw (no_t, no_f) at e)
  ]
]

judged-ok : (o : Option Value) (value : Value) → judged o ≡ Ok value → o ≡ Some value
judged-ok None value e = absurd (let bad : Err NoValue ≡ Ok value = e in cc)
judged-ok (Some found) value e = let same : Ok found ≡ Ok value = e in cc

number_or : (word : List ℕ) (o : Option ℤ) (value : Value) → int_of word ≡ o → value_or (word_of word) o ≡ Some value → SpellsValue word value
number_or word None value is e = word_of-some word value e
number_or word (Some z) value is e = let p = int_of-parts word z is in subst (SpellsValue word) (some_same _ _ e) (p.1, p.0)

pub value_at-ok : (word : List ℕ) (value : Value) → value_at word ≡ Ok value → SpellsValue word value
unfolding value_at
value_at-ok word value e = number_or word (int_of word) value refl (judged-ok (value_or (word_of word) (int_of word)) value e)

-- ---- what is spelled is read so

apart : (a b : ℕ) → a ≢ b → eqb a b ≡ false
apart a b ne = elim (cases_Bool (eqb a b)) [ inl is ↦ absurd (ne (eqb-true a b is)) | inr other ↦ other ]

plain : (bs : List ℕ) (n : ℕ) → 48 ≤ get_or bs 0 0 → digits_value 10 bs ≡ n → signed_digits_value 10 bs ≡ pos n
plain bs n h v =
    let minus : eqb (get_or bs 0 0) 45 ≡ false = apart _ _ (omega arith) in
    let plus : eqb (get_or bs 0 0) 43 ≡ false = apart _ _ (omega arith) in
    rw (minus, plus) (ap pos v)

signed-value : (z : ℤ) → mag z < 2 ^ 63 → signed_digits_value 10 (signed_decimal z) ≡ z
signed-value (pos n) h =
    let d = decimal_is_IsNumeral n (omega (arith, h)) in
    plain (decimal n) n (digit_at (decimal n) 0 d.0.1 d.0.0).0 d.1
signed-value (negsuc n) h =
    let d = decimal_is_IsNumeral (suc n) (omega (arith, h)) in ap (λ (m : ℕ). neg_ℤ (pos m)) d.1

read_back : (v z : ℤ) → v ≡ z → mag z < 2 ^ 63 → cond (ltb (mag v) (2 ^ 63) && bytes_eq (signed_decimal v) (signed_decimal z)) (Some v) None ≡ Some z
read_back v z same h = rw (same, lt-ltb (mag z) (2 ^ 63) h, (bytes_eq-Decides (signed_decimal z) (signed_decimal z)).1 refl) refl

int_of-right : (z : ℤ) → mag z < 2 ^ 63 → int_of (signed_decimal z) ≡ Some z
unfolding int_of
int_of-right z h = read_back (signed_digits_value 10 (signed_decimal z)) z (signed-value z h) h

-- a number begins with a digit or a sign
decimal_first : (n c : ℕ) (rest : List ℕ) → n < 2 ^ 64 → decimal n ≡ c ∷ rest → c < 58
decimal_first n c rest h e = omega (arith, digit_from_value c (subst (AllDigits 10) e (decimal_is_IsNumeral n h).0.1).0)

signed_first : (z : ℤ) (c : ℕ) (rest : List ℕ) → mag z < 2 ^ 63 → signed_decimal z ≡ c ∷ rest → c < 58
signed_first (pos n) c rest h e = decimal_first n c rest (omega (arith, h)) e
signed_first (negsuc n) c rest h e = let same : 45 ≡ c = cc in omega arith

no_int : (c : ℕ) (rest : List ℕ) (o : Option ℤ) → 58 ≤ c → int_of (c ∷ rest) ≡ o → o ≡ None
no_int c rest None letter is = refl
no_int c rest (Some z) letter is = let p = int_of-parts (c ∷ rest) z is in absurd (omega (arith, letter, signed_first z c rest p.0 (sym p.1)))

read_word : (c : ℕ) (rest : List ℕ) (value : Value) → 58 ≤ c → word_of (c ∷ rest) ≡ Some value → value_at (c ∷ rest) ≡ Ok value
unfolding value_at
read_word c rest value letter is = rw (no_int c rest (int_of (c ∷ rest)) letter refl, is) refl

true-read : word_of (codes "true") ≡ Some (OfCell (cells.Bool true))
unfolding word_of
true-read = refl

false-read : word_of (codes "false") ≡ Some (OfCell (cells.Bool false))
unfolding word_of
false-read = refl

parted : (letter : ℕ) (rest : List ℕ) → letter ≢ 58 → parts_of (letter ∷ 58 ∷ rest) ≡ Some (letter ∷ [], rest)
parted letter rest other = parts_of-right (letter ∷ []) rest (no_colon letter other, tt)

text-read : (escaped text : List ℕ) → percent_decode escaped ≡ text → is_utf8 text ≡ true → word_of (codes "t:" ++ escaped) ≡ Some (OfCell (cells.Text text))
unfolding word_of long_of
text-read escaped text is utf8 = rw (parted 116 escaped (λ e. cc), is, utf8) refl

hex-read : (digits object : List ℕ) → decode_of digits ≡ Ok object → word_of (codes "h:" ++ digits) ≡ Some (OfObject object)
unfolding word_of long_of
hex-read digits object is = rw (parted 104 digits (λ e. cc), is) refl

digit_plain : (ds : List ℕ) → AllDigits 10 ds → IsPlain ds
digit_plain [] h = tt
digit_plain (c ∷ ds) h = let d = digit_from_value c h.0 in (no_colon c (λ is. omega (arith, d.1, is)), digit_plain ds h.1)

length_in-right : (n : ℕ) → n ≤ 33554432 → length_in (decimal n) ≡ Some n
unfolding length_in
length_in-right n most = rw (length-right n (omega (arith, most)), value-right n (omega (arith, most)), le-leb n 33554432 most) refl

filled : (len : ℕ) (pattern : List ℕ) → pattern ≢ [] → repeat_in len (Some pattern) ≡ Some (OfObject (repeated pattern len))
filled len [] some = absurd (some refl)
filled len (b ∷ bytes) some = refl

repeat-read : (len : ℕ) (digits pattern : List ℕ) → len ≤ 33554432 → pattern ≢ [] → decode_of digits ≡ Ok pattern
    → word_of (codes "r:" ++ (decimal len ++ (codes ":" ++ digits))) ≡ Some (OfObject (repeated pattern len))
unfolding word_of long_of repeat_of
repeat-read len digits pattern most some is =
    let plain = digit_plain (decimal len) (decimal_is_IsNumeral len (omega (arith, most))).0.1 in
    rw (parted 114 (decimal len ++ 58 ∷ digits) (λ e. cc), parts_of-right (decimal len) digits plain, length_in-right len most, is) (filled len pattern some)

int-read : (z : ℤ) → mag z < 2 ^ 63 → value_at (signed_decimal z) ≡ Ok (OfCell (cells.Int z))
unfolding value_at
int-read z h = rw (int_of-right z h) refl

pub value_at-right : (word : List ℕ) (value : Value) → SpellsValue word value → value_at word ≡ Ok value
value_at-right word (OfCell (cells.Int z)) h = subst (λ (w : List ℕ). value_at w ≡ Ok (OfCell (cells.Int z))) (sym h.0) (int-read z h.1)
value_at-right word (OfCell (cells.Bool true)) h = subst (λ (w : List ℕ). value_at w ≡ Ok (OfCell (cells.Bool true))) (sym h) (read_word 116 (codes "rue") _ (omega arith) true-read)
value_at-right word (OfCell (cells.Bool false)) h = subst (λ (w : List ℕ). value_at w ≡ Ok (OfCell (cells.Bool false))) (sym h) (read_word 102 (codes "alse") _ (omega arith) false-read)
value_at-right word (OfCell (cells.Text text)) h =
    subst (λ (w : List ℕ). value_at w ≡ Ok (OfCell (cells.Text text))) (sym h.1)
    (read_word 116 (58 ∷ h.0) _ (omega arith) (text-read h.0 text h.2 (is_utf8-from_IsUtf8 text h.3)))
value_at-right word (OfObject object) (inl h) =
    subst (λ (w : List ℕ). value_at w ≡ Ok (OfObject object)) (sym h.1) (read_word 104 (58 ∷ h.0) _ (omega arith) (hex-read h.0 object h.2))
value_at-right word (OfObject object) (inr h) =
    subst (λ (w : List ℕ). value_at w ≡ Ok (OfObject object)) (sym h.3)
    (subst (λ (o : List ℕ). value_at (codes "r:" ++ (decimal h.0 ++ (codes ":" ++ h.1))) ≡ Ok (OfObject o)) (sym h.7)
    (read_word 114 (58 ∷ (decimal h.0 ++ 58 ∷ h.1)) _ (omega arith) (repeat-read h.0 h.1 h.2 h.4 h.5 h.6)))

-- ---- bytes of digits

judged_same : (o : Option (List ℕ)) (bytes : List ℕ) → judged_bytes o ≡ Ok bytes → o ≡ Some bytes
judged_same None bytes e = absurd cc
judged_same (Some found) bytes e = let same : ◌≡◌ {A = Result (List ℕ) Code} (Ok found) (Ok bytes) = e in cc

pub bytes_at-ok : (word bytes : List ℕ) → bytes_at word ≡ Ok bytes → decode_of word ≡ Ok bytes
unfolding bytes_at
bytes_at-ok word bytes e = hex_some (decode_of word) bytes (judged_same (hex_in (decode_of word)) bytes e)

pub bytes_at-right : (word bytes : List ℕ) → decode_of word ≡ Ok bytes → bytes_at word ≡ Ok bytes
unfolding bytes_at
bytes_at-right word bytes e = rw e refl
