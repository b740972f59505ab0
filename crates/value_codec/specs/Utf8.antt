-- UTF-8 byte by byte (Unicode, table 3-7): where a text of a given length stops being one.
use Rattle.std.specs.Prelude.{ℕ, zero, suc, ◌-◌, Bool, ◌==◌, ◌&&◌, ◌||◌, nat_lt, nat_le, if◌then◌else◌, List, [], ◌∷◌}
use Rattle.std.specs.Prelude.{length, Option, Some, None, Result, Ok, Err}
use Rattle.std.specs.Str.Lossy.{second_byte_min, second_byte_max}
use Rattle.value_codec.specs.declared.utf8.Inside.{Inside}

-- how many bytes of a character follow its first byte
abbrev pub tail_len : ℕ → ℕ
tail_len b = if nat_lt b 0x80 then 0 else (if nat_lt b 0xE0 then 1 else (if nat_lt b 0xF0 then 2 else 3))

-- whether a character begins so
abbrev pub leads : ℕ → Bool
leads b = nat_lt b 0x80 || (nat_le 0xC2 b && nat_le b 0xF4)

-- between two characters
abbrev pub between : Inside
between = record { need = 0; low = 0x80; high = 0xBF }

-- what is open behind a byte, where so many bytes of the text are left behind it
abbrev pub step : Inside → ℕ → ℕ → Option Inside
step inside left b =
    if inside.need == 0 then (if leads b && nat_le (tail_len b) left
    then Some (record { need = tail_len b; low = second_byte_min b; high = second_byte_max b }) else None)
    else (if nat_le inside.low b && nat_le b inside.high
    then Some (record { need = inside.need - 1; low = 0x80; high = 0xBF }) else None)

-- the bytes behind a text with so many bytes left
unfoldable pub utf8_rest : Inside → ℕ → List ℕ → Result (List ℕ) ℕ
utf8_rest inside zero bytes = Ok bytes
utf8_rest inside (suc left) [] = Err 0
utf8_rest inside (suc left) (b ∷ rest) =
    elim (step inside left b) [ None ↦ Err (suc (length rest)) | Some next ↦ utf8_rest next left rest ]
