-- Reading local names, held contents, slots and tells from left to right, up to the first place at which no spelling
-- goes on.
use Rattle.std.specs.Prelude.{ℕ, Bool, ◌==◌, ◌&&◌, nat_le, if◌then◌else◌, List, Option, None, Some}
use Rattle.std.specs.Int.{w32, w64}
use Rattle.row_value.specs.declared.content.Cell.{Cell}
use Rattle.value_codec.specs.Reading.{number_at, flag_at, name_at, cell_at, piece_at}
use Rattle.field_codec.specs.Fields.{Reader, then_at, ◌&◌, made_at, byte_if, option_at, inside_if, all_at}
use Rattle.held_value.specs.declared.local_name.LocalName.{LocalName}
use Rattle.held_value.specs.declared.content.HeldPiece.{HeldPiece}
use Rattle.held_value.specs.declared.content.HeldObject.{HeldObject}
use Rattle.held_value.specs.declared.content.HeldContent.{HeldContent}
use Rattle.held_value.specs.declared.content.HeldContent.TheVariants.{Gone, Row}
use Rattle.held_value.specs.declared.slots.Main.{Main}
use Rattle.held_value.specs.declared.slots.Shadow.{Shadow}
use Rattle.held_value.specs.declared.slots.Out.{Out}
use Rattle.held_value.specs.declared.slots.Slots.{Slots}
use Rattle.held_value.specs.declared.tell.Tell.{Tell}
use Rattle.held_value.specs.declared.tell.Tell.TheVariants as tells

unfoldable pub local_at : Reader LocalName
local_at bytes = made_at (λ p. record { plan = p.0; ordinal = p.1 }) (number_at w64 & number_at w32) bytes

unfoldable pub held_piece_at : Reader HeldPiece
held_piece_at bytes = made_at (λ p. record { local = p.0; name = p.1 }) (local_at & option_at name_at) bytes

unfoldable pub held_object_at : Reader HeldObject
held_object_at bytes = made_at (λ p. record { len = p.0; pieces = p.1 }) (number_at w32 & all_at held_piece_at) bytes

-- ---- contents

-- a row behind the byte 1, nothing behind the byte 0
abbrev pub held_of : Option (List Cell × List HeldObject) → HeldContent
held_of None = Gone
held_of (Some p) = Row p.0 p.1

unfoldable pub held_at : Reader HeldContent
held_at bytes = made_at held_of (option_at (all_at cell_at & all_at held_object_at)) bytes

-- ---- slots

unfoldable pub main_at : Reader Main
main_at bytes =
    made_at (λ p. record { number = p.0; read = p.1.0; content = p.1.1 })
    (number_at w64 & number_at w64 & held_at) bytes

unfoldable pub shadow_at : Reader Shadow
shadow_at bytes = made_at (λ p. record { version = p.0; content = p.1 }) (number_at w64 & held_at) bytes

unfoldable pub out_at : Reader Out
out_at bytes =
    made_at (λ p. record {
      number = p.0;
      read = p.1.0;
      base = p.1.1.0;
      whole = p.1.1.1.0;
      content = p.1.1.1.1.0;
      pieces = p.1.1.1.1.1;
    })
    (number_at w64 & number_at w64 & number_at w64 & flag_at & held_at & all_at piece_at) bytes

unfoldable pub slots_at : Reader Slots
slots_at bytes =
    made_at (λ p. record { main = p.0; shadow = p.1.0; out = p.1.1.0; conflict = p.1.1.1 })
    (option_at main_at & option_at shadow_at & option_at out_at & option_at shadow_at) bytes

-- ---- tells

abbrev pub is_tell : ℕ → Bool
is_tell code = nat_le 1 code && nat_le code 9

-- how many numbers stand behind the byte of a kind: the first, where there is one, and the second
abbrev pub has_first : ℕ → Bool
has_first code = nat_le code 7

abbrev pub has_second : ℕ → Bool
has_second code = nat_le code 5

abbrev pub number_or : Option ℕ → ℕ
number_or None = 0
number_or (Some n) = n

abbrev pub tell_of : ℕ → ℕ → ℕ → Tell
tell_of code a b =
    if code == 1 then tells.Wrote a b
    else (if code == 2 then tells.Acked a b
    else (if code == 3 then tells.Refused a b
    else (if code == 4 then tells.Conflict a b
    else (if code == 5 then tells.Resolved a b
    else (if code == 6 then tells.New a
    else (if code == 7 then tells.Position a else (if code == 8 then tells.Opened else tells.Dropped)))))))

unfoldable pub tell_at : Reader Tell
tell_at bytes =
    made_at (λ p. tell_of p.0 (number_or p.1.0) (number_or p.1.1))
    (then_at (byte_if is_tell) (λ code. inside_if (has_first code) (number_at w64) &
    inside_if (has_second code) (number_at w64))) bytes
