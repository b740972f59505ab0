-- Values: which words spell a cell or an object, and what a word is read as.
use Rattle.std.specs.Prelude.{◌≡◌, ◌≢◌, ◌⊎◌, ℕ, ◌<◌, ◌≤◌, ◌^◌, ◌%◌, nat_le, nat_lt, Bool, true, false, ◌&&◌, List, []}
use Rattle.std.specs.Prelude.{◌∷◌, ◌++◌, length, map, slice_index, codes, Option, Some, None, Result, Ok, Err}
use Rattle.std.specs.Prelude.{if◌then◌else◌, ℤ}
use Rattle.std.specs.List.{range_with_len}
use Rattle.std.specs.Int.Signed.{mag}
use Rattle.std.specs.Fmt.{decimal, signed_decimal}
use Rattle.std.specs.Str.{IsUtf8, bytes_eq, is_utf8}
use Rattle.std.specs.Str.Parse.{digits_value, signed_digits_value}
use Rattle.percent_encoding.specs.Percent.{percent_decode}
use Rattle.hex.specs.Hex.{decode_of}
use Rattle.hex.specs.declared.error.FromHexError.{FromHexError}
use Rattle.row_value.specs.declared.content.Cell.{Cell}
use Rattle.row_value.specs.declared.content.Cell.TheVariants as cells
use Rattle.script_words.specs.declared.code.Code.{Code}
use Rattle.script_words.specs.declared.code.Code.TheVariants.{NoValue}
use Rattle.script_words.specs.declared.values.Value.{Value}
use Rattle.script_words.specs.declared.values.Value.TheVariants.{OfCell, OfObject}
use Rattle.script_words.specs.Words.{is_length, parts_of}

-- these bytes one behind the other again and again, so many of them
abbrev pub repeated : List ℕ → ℕ → List ℕ
repeated pattern len = map (λ place. slice_index pattern (place % length pattern)) (range_with_len 0 len)

-- ---- which words spell a value

-- a number, `true` or `false`, and `t:` with text in which `%` and two digits stand for a byte
abbrev pub SpellsCell : List ℕ → Cell → Type 0
SpellsCell word (cells.Int z) = (word ≡ signed_decimal z) × (mag z < 2 ^ 63)
SpellsCell word (cells.Bool b) = word ≡ (if b then codes "true" else codes "false")
SpellsCell word (cells.Text text) =
    (escaped : List ℕ) × (word ≡ codes "t:" ++ escaped) × (percent_decode escaped ≡ text) × IsUtf8 text

-- `h:` and two digits a byte; or `r:`, a length up to 33,554,432, a colon, and the digits of what is repeated
abbrev pub SpellsObject : List ℕ → List ℕ → Type 0
SpellsObject word object =
    ((digits : List ℕ) × (word ≡ codes "h:" ++ digits) × (decode_of digits ≡ Ok object))
    ⊎ ((len : ℕ) × (digits pattern : List ℕ) × (word ≡ codes "r:" ++ (decimal len ++ (codes ":" ++ digits)))
    × (len ≤ 33554432) × (pattern ≢ []) × (decode_of digits ≡ Ok pattern) × (object ≡ repeated pattern len))

abbrev pub SpellsValue : List ℕ → Value → Type 0
SpellsValue word (OfCell cell) = SpellsCell word cell
SpellsValue word (OfObject object) = SpellsObject word object

-- ---- what a word is read as

-- the number of 64 bits with a sign whose one text the word is
unfoldable pub int_of : List ℕ → Option ℤ
int_of word =
    let z = signed_digits_value 10 word in
    if nat_lt (mag z) (2 ^ 63) && bytes_eq (signed_decimal z) word then Some z else None

-- the length that digits spell, up to 33,554,432
unfoldable pub length_in : List ℕ → Option ℕ
length_in digits =
    if is_length digits && nat_le (digits_value 10 digits) 33554432 then Some (digits_value 10 digits) else None

abbrev pub text_in : List ℕ → Option Value
text_in text = if is_utf8 text then Some (OfCell (cells.Text text)) else None

-- the bytes of digits
abbrev pub hex_in : Result (List ℕ) FromHexError → Option (List ℕ)
hex_in (Ok bytes) = Some bytes
hex_in (Err e) = None

abbrev pub object_in : Option (List ℕ) → Option Value
object_in None = None
object_in (Some object) = Some (OfObject object)

abbrev pub repeat_in : ℕ → Option (List ℕ) → Option Value
repeat_in len None = None
repeat_in len (Some []) = None
repeat_in len (Some (b ∷ bytes)) = Some (OfObject (repeated (b ∷ bytes) len))

abbrev pub repeat_with : List ℕ → Option ℕ → Option Value
repeat_with digits None = None
repeat_with digits (Some len) = repeat_in len (hex_in (decode_of digits))

unfoldable pub repeat_of : Option (List ℕ × List ℕ) → Option Value
repeat_of None = None
repeat_of (Some p) = repeat_with p.1 (length_in p.0)

-- by what stands before the first colon
unfoldable pub long_of : Option (List ℕ × List ℕ) → Option Value
long_of None = None
long_of (Some p) =
    if bytes_eq p.0 (codes "t") then text_in (percent_decode p.1)
    else if bytes_eq p.0 (codes "h") then object_in (hex_in (decode_of p.1))
    else if bytes_eq p.0 (codes "r") then repeat_of (parts_of p.1)
    else None

unfoldable pub word_of : List ℕ → Option Value
word_of word =
    if bytes_eq word (codes "true") then Some (OfCell (cells.Bool true))
    else if bytes_eq word (codes "false") then Some (OfCell (cells.Bool false))
    else long_of (parts_of word)

abbrev pub value_or : Option Value → Option ℤ → Option Value
value_or other None = other
value_or other (Some z) = Some (OfCell (cells.Int z))

abbrev pub judged : Option Value → Result Value Code
judged None = Err NoValue
judged (Some value) = Ok value

unfoldable pub value_at : List ℕ → Result Value Code
value_at word = judged (value_or (word_of word) (int_of word))

abbrev pub judged_bytes : Option (List ℕ) → Result (List ℕ) Code
judged_bytes None = Err NoValue
judged_bytes (Some bytes) = Ok bytes

-- the bytes of digits, two of them a byte
unfoldable pub bytes_at : List ℕ → Result (List ℕ) Code
bytes_at word = judged_bytes (hex_in (decode_of word))
