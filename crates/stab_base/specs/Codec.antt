-- Numbers and counted bytes at the front of a list of bytes, with the first fault that is met.
use Rattle.std.specs.Prelude.{◌≡◌, ℕ, List, [], ◌∷◌, ◌++◌, ◌<◌, length, slice_index, take, drop, Result, Ok, Err}
use Rattle.std.specs.Prelude.{nat_lt, if◌then◌else◌}
use Rattle.std.specs.Int.{Width, w32, byte_len, from_be_bytes, to_be_bytes}
use Rattle.stab_base.specs.declared.codec.TakeFault.{TakeFault}
use Rattle.stab_base.specs.declared.codec.TakeFault.TheVariants.{Short, TooLong}

infixl 10 ◌>>=◌
-- one field, and then the next
abbrev pub ◌>>=◌ : {A B : Type 0} → Result A TakeFault → (A → Result B TakeFault) → Result B TakeFault
(Ok x) >>= f = f x
(Err e) >>= f = Err e

-- what a function returned, seen by view, is what reading gives
abbrev pub Reads : {X Y : Type 0} → (X → Y) → Result X TakeFault → Result Y TakeFault → Type 0
Reads view (Ok x) read = read ≡ Ok (view x)
Reads view (Err f) read = read ≡ Err f

-- four bytes of length, and that many bytes
abbrev pub counted : List ℕ → List ℕ
counted bytes = to_be_bytes w32 (length bytes) ++ bytes

-- a field is a value and the bytes behind it
unfoldable pub byte_at : List ℕ → Result (ℕ × List ℕ) TakeFault
byte_at [] = Err (Short 1 0)
byte_at (b ∷ rest) = Ok (b, rest)

abbrev pub number_at : Width → List ℕ → Result (ℕ × List ℕ) TakeFault
number_at w bytes =
    if nat_lt (length bytes) (byte_len w) then Err (Short (byte_len w) (length bytes))
    else Ok (from_be_bytes w (take (byte_len w) bytes), drop (byte_len w) bytes)

unfoldable pub counted_at : ℕ → List ℕ → Result (List ℕ × List ℕ) TakeFault
counted_at most bytes = do
  n ← number_at w32 bytes
  if nat_lt most n.0 then Err (TooLong n.0)
      else (if nat_lt (length n.1) n.0 then Err (Short n.0 (length n.1)) else Ok (take n.0 n.1, drop n.0 n.1))

-- each element is a byte
abbrev pub IsBytes : List ℕ → Type 0
IsBytes bytes = (i : ℕ) → slice_index bytes i < 256
