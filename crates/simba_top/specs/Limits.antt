-- The limits of a script, as numbers, and the bytes that a text cell of a transcript has as they are.
use Rattle.std.specs.Prelude.{ℕ, ◌==◌, ◌^◌, Bool, codes}
use Rattle.std.specs.List.{list_any}

-- bytes of the input, lines of it, and bytes of one line
abbrev pub input_most : ℕ
input_most = 67108864

abbrev pub lines_most : ℕ
lines_most = 1048576

abbrev pub line_most : ℕ
line_most = 34603008

-- different rows that a script names in one table
abbrev pub rows_most : ℕ
rows_most = 65536

-- the last version, and the last number of a client's writes
abbrev pub number_most : ℕ
number_most = 2 ^ 62

-- the unreserved characters of RFC 3986, section 2.3
abbrev pub is_bare : ℕ → Bool
is_bare b =
    list_any (λ c. c == b) (codes "ABCDEFGHIJKLMNOPQRSTUVWXYZabcdefghijklmnopqrstuvwxyz0123456789-._~")
