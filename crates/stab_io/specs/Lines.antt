use Rattle.std.specs.Prelude.{◌≡◌, ℕ, ◌+◌, ◌-◌, ◌==◌, ◌&&◌, nat_lt, nat_le, List, [], ◌∷◌, length, if◌then◌else◌}
use Rattle.std.specs.List.{onto_first, before_first, after_first}
use Rattle.stab_io.specs.declared.limits.Limits.{Limits}

-- the lines of the bytes, without their newlines; a last line without a newline is a line
abbrev pub lines_of : List ℕ → List (List ℕ)
lines_of [] = []
lines_of (b ∷ bs) = if b == 10 then [] ∷ lines_of bs else onto_first b (lines_of bs)

-- the bytes before the first newline, or all
abbrev pub first_line : List ℕ → List ℕ
first_line bytes = before_first (λ b. b == 10) bytes

-- the bytes behind the first newline, or none
abbrev pub behind_line : List ℕ → List ℕ
behind_line bytes = after_first (λ b. b == 10) bytes

abbrev pub HasNoNewline : List ℕ → Type 0
HasNoNewline bytes = first_line bytes ≡ bytes

-- what comes next in an input: a line and the bytes behind it, its end, or the first byte past a limit
pub data Next : Type 0 where
  Line : List ℕ → List ℕ → Next
  End : Next
  LineTooLong : Next
  InputTooLong : Next

-- what comes next, where `used` bytes of the input stand before these and no byte is behind them
unfoldable pub next_of : Limits → ℕ → List ℕ → Next
next_of limits used bytes =
    let text = first_line bytes in
    let rest = behind_line bytes in
    if length bytes == 0 then End
    else (if nat_lt limits.line (length text) && nat_le (used + limits.line) limits.input then LineTooLong
    else (if nat_lt limits.input (used + (length bytes - length rest)) then InputTooLong
    else Line text rest))
