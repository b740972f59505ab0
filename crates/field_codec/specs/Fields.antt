-- Readings put together of fields. A reading is of a value and the bytes behind it, up to the first place at which no
-- spelling goes on.
use Rattle.std.specs.Prelude.{ℕ, ◌+◌, ◌*◌, Bool, true, false, ◌==◌, ◌&&◌, nat_lt, nat_le, if◌then◌else◌, List}
use Rattle.std.specs.Prelude.{length, take, drop, Result, Ok, Err, Option, Some, None}
use Rattle.value_codec.specs.Reading.{◌>>=◌, byte_at, flag_at, list_at}

abbrev pub Reader : Type 0 → Type 0
Reader X = List ℕ → Result (X × List ℕ) ℕ

-- ---- one field behind the other

-- a field, and one that depends on it
abbrev pub then_at : {X Y : Type 0} → Reader X → (X → Reader Y) → Reader (X × Y)
then_at first next bytes = do
  a ← first bytes
  b ← next a.0 a.1
  Ok ((a.0, b.0), b.1)

infixr 20 ◌&◌
-- a field, and another
abbrev pub ◌&◌ : {X Y : Type 0} → Reader X → Reader Y → Reader (X × Y)
(first & second) bytes = then_at first (λ x. second) bytes

-- a value that is made of fields
abbrev pub made_at : {X Z : Type 0} → (X → Z) → Reader X → Reader Z
made_at make read bytes = do
  a ← read bytes
  Ok (make a.0, a.1)

-- ---- bytes and numbers within limits

unfoldable pub byte_if : (ℕ → Bool) → Reader ℕ
byte_if test bytes = do
  b ← byte_at bytes
  if test b.0 then Ok (b.0, b.1) else Err (length bytes)

-- whether a number from least to most begins with these digits, of which the last is worth so much
abbrev pub may_be : ℕ → ℕ → ℕ → ℕ → Bool
may_be least most worth digits = nat_le (digits * worth) most && nat_lt least ((digits + 1) * worth)

-- a number from least to most, in four bytes
unfoldable pub ranged_at : ℕ → ℕ → Reader ℕ
ranged_at least most bytes =
    made_at (λ p. ((p.0 * 256 + p.1.0) * 256 + p.1.1.0) * 256 + p.1.1.1)
    (then_at (byte_if (λ a. may_be least most 16777216 (0 * 256 + a)))
    (λ a. then_at (byte_if (λ b. may_be least most 65536 (a * 256 + b)))
    (λ b. then_at (byte_if (λ c. may_be least most 256 ((a * 256 + b) * 256 + c)))
    (λ c. byte_if (λ d. may_be least most 1 (((a * 256 + b) * 256 + c) * 256 + d)))))) bytes

-- so many bytes
unfoldable pub bytes_at : ℕ → Reader (List ℕ)
bytes_at len bytes = if nat_lt (length bytes) len then Err 0 else Ok (take len bytes, drop len bytes)

-- ---- options

-- a value where there is one
abbrev pub inside_if : {X : Type 0} → Bool → Reader X → Reader (Option X)
inside_if true read bytes = made_at (λ x. Some x) read bytes
inside_if false read bytes = Ok (None, bytes)

-- a byte, 0 where there is nothing, 1 in front of a value
unfoldable pub option_at : {X : Type 0} → Reader X → Reader (Option X)
option_at read bytes = made_at (λ p. p.1) (then_at flag_at (λ some. inside_if some read)) bytes

-- whether a byte is this flag's
abbrev pub is_flag : Bool → ℕ → Bool
is_flag true b = b == 1
is_flag false b = b == 0

-- an option of which it is known whether it holds a value
unfoldable pub option_if : {X : Type 0} → Bool → Reader X → Reader (Option X)
option_if some read bytes = made_at (λ p. p.1) (then_at (byte_if (is_flag some)) (λ b. inside_if some read)) bytes

-- ---- lists whose items don't depend on each other

abbrev pub after_item : {X : Type 0} → Unit {0} → X → Unit {0}
after_item s x = s

abbrev pub item_in : {X : Type 0} → Reader X → Unit {0} → Reader X
item_in read s bytes = read bytes

-- a list of them
abbrev pub all_at : {X : Type 0} → Reader X → Reader (List X)
all_at read bytes = list_at after_item (item_in read) tt bytes
