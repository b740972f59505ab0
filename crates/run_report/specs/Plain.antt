-- Texts that stand in JSON as they are.
use Rattle.std.specs.Prelude.{ℕ, List, Bool, ◌&&◌, ◌==◌, nat_le, nat_lt, not}
use Rattle.std.specs.List.{list_all}

-- printed ASCII without quote (34) and backslash (92)
abbrev pub is_plain_byte : ℕ → Bool
is_plain_byte b = nat_le 32 b && nat_lt b 127 && not (b == 34) && not (b == 92)

abbrev pub is_plain : List ℕ → Bool
is_plain = list_all is_plain_byte
