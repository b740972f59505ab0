-- The words of a line, and the forms of single words.
use Rattle.std.specs.Prelude.{ℕ, Bool, false, ◌==◌, ◌&&◌, ◌||◌, nat_le, nat_lt, not, List, [], ◌∷◌, length, filter, map}
use Rattle.std.specs.Prelude.{slice_index, Option, Some, None, if◌then◌else◌}
use Rattle.std.specs.Borrow.{Bor}
use Rattle.std.specs.List.{slice_split, list_all, list_any, before_first, after_first, position_or_len}
use Rattle.std.specs.Str.{all_ascii_digits, bytes_eq}

abbrev pub texts : List (Bor (List ℕ)) → List (List ℕ)
texts words = map (λ w. w.now) words

-- the parts between spaces that aren't empty
abbrev pub words_of : List ℕ → List (List ℕ)
words_of line = filter (λ w. not (length w == 0)) (slice_split (λ b. b == 32) line)

abbrev pub is_among : List ℕ → List (List ℕ) → Bool
is_among word words = list_any (bytes_eq word) words

-- `#` is the first byte
abbrev pub is_comment : List ℕ → Bool
is_comment [] = false
is_comment (b ∷ bytes) = b == 35

-- decimal digits of a number from 1, without leading zeros
unfoldable pub is_number : List ℕ → Bool
is_number digits = nat_lt 48 (slice_index digits 0) && all_ascii_digits digits

-- the same, or the digit 0
unfoldable pub is_length : List ℕ → Bool
is_length digits = bytes_eq digits (48 ∷ []) || is_number digits

abbrev pub is_lower : ℕ → Bool
is_lower b = nat_le 97 b && nat_le b 122

-- `a` to `z`, `0` to `9`, `_` and `-`
abbrev pub is_name_byte : ℕ → Bool
is_name_byte b = is_lower b || (nat_le 48 b && nat_le b 57) || (b == 95) || (b == 45)

-- 1 to 64 of these, a letter first
unfoldable pub is_name : List ℕ → Bool
is_name word = is_lower (slice_index word 0) && nat_le (length word) 64 && list_all is_name_byte word

abbrev pub is_colon : ℕ → Bool
is_colon b = b == 58

-- what stands before and behind the first of this byte
unfoldable pub parts_by : ℕ → List ℕ → Option (List ℕ × List ℕ)
parts_by separator word =
    if nat_lt (position_or_len (λ b. b == separator) word) (length word)
    then Some (before_first (λ b. b == separator) word, after_first (λ b. b == separator) word) else None

-- the same of the first colon
abbrev pub parts_of : List ℕ → Option (List ℕ × List ℕ)
parts_of word = parts_by 58 word

-- the same of the first `=`
abbrev pub sides_of : List ℕ → Option (List ℕ × List ℕ)
sides_of word = parts_by 61 word

-- the same of borrowed words
abbrev pub seen_parts : Option (Bor (List ℕ) × Bor (List ℕ)) → Option (List ℕ × List ℕ)
seen_parts None = None
seen_parts (Some p) = Some (p.0.now, p.1.now)
