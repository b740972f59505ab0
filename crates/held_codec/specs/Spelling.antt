-- Which local names, held contents, slots and tells have a spelling, and the one spelling of each.
use Rattle.std.specs.Prelude.{ℕ, ◌<◌, ◌^◌, List, [], ◌∷◌, ◌++◌}
use Rattle.value_codec.specs.Spelling.{flag_spelling, list_spelling, HasNameSpelling, name_spelling, HasCellSpelling}
use Rattle.value_codec.specs.Spelling.{cell_spelling, HasPieceSpelling, piece_spelling}
use Rattle.field_codec.specs.Forms.{four, eight, IsOption, option_spelling, AreEach}
use Rattle.held_value.specs.declared.local_name.LocalName.{LocalName}
use Rattle.held_value.specs.declared.content.HeldPiece.{HeldPiece}
use Rattle.held_value.specs.declared.content.HeldObject.{HeldObject}
use Rattle.held_value.specs.declared.content.HeldContent.{HeldContent}
use Rattle.held_value.specs.declared.content.HeldContent.TheVariants.{Gone, Row}
use Rattle.held_value.specs.declared.slots.Main.{Main}
use Rattle.held_value.specs.declared.slots.Shadow.{Shadow}
use Rattle.held_value.specs.declared.slots.Out.{Out}
use Rattle.held_value.specs.declared.slots.Slots.{Slots}
use Rattle.held_value.specs.declared.tell.Tell.{Tell}
use Rattle.held_value.specs.declared.tell.Tell.TheVariants as tells

-- ---- names of a client's own

abbrev pub local_spelling : LocalName → List ℕ
local_spelling name = eight name.plan ++ four name.ordinal

abbrev pub HasLocalSpelling : LocalName → Type 0
HasLocalSpelling name = (name.plan < 2 ^ 64) × (name.ordinal < 2 ^ 32)

-- ---- held contents

-- the local name, and the Store's name if it is known
abbrev pub held_piece_spelling : HeldPiece → List ℕ
held_piece_spelling piece = local_spelling piece.local ++ option_spelling name_spelling piece.name

abbrev pub HasHeldPiece : HeldPiece → Type 0
HasHeldPiece piece = HasLocalSpelling piece.local × IsOption HasNameSpelling piece.name

abbrev pub held_object_spelling : HeldObject → List ℕ
held_object_spelling object = four object.len ++ list_spelling held_piece_spelling object.pieces

abbrev pub HasHeldObject : HeldObject → Type 0
HasHeldObject object = (object.len < 2 ^ 32) × AreEach HasHeldPiece object.pieces

-- the byte 0, or the byte 1, the cells and the objects
abbrev pub held_spelling : HeldContent → List ℕ
held_spelling Gone = 0 ∷ []
held_spelling (Row some objects) = 1 ∷ (list_spelling cell_spelling some ++ list_spelling held_object_spelling objects)

abbrev pub HasHeld : HeldContent → Type 0
HasHeld Gone = Unit {0}
HasHeld (Row some objects) = AreEach HasCellSpelling some × AreEach HasHeldObject objects

-- ---- slots

abbrev pub main_spelling : Main → List ℕ
main_spelling main = eight main.number ++ (eight main.read ++ held_spelling main.content)

abbrev pub HasMain : Main → Type 0
HasMain main = (main.number < 2 ^ 64) × ((main.read < 2 ^ 64) × HasHeld main.content)

abbrev pub shadow_spelling : Shadow → List ℕ
shadow_spelling shadow = eight shadow.version ++ held_spelling shadow.content

abbrev pub HasShadow : Shadow → Type 0
HasShadow shadow = (shadow.version < 2 ^ 64) × HasHeld shadow.content

abbrev pub out_spelling : Out → List ℕ
out_spelling out =
    eight out.number ++ (eight out.read ++ (eight out.base
    ++ (flag_spelling out.whole ++ (held_spelling out.content ++ list_spelling piece_spelling out.pieces))))

abbrev pub HasOut : Out → Type 0
HasOut out =
    (out.number < 2 ^ 64) × ((out.read < 2 ^ 64) × ((out.base < 2 ^ 64)
    × (Unit {0} × (HasHeld out.content × AreEach HasPieceSpelling out.pieces))))

-- Main, Shadow, Out and Conflict in this order
abbrev pub slots_spelling : Slots → List ℕ
slots_spelling slots =
    option_spelling main_spelling slots.main ++ (option_spelling shadow_spelling slots.shadow
    ++ (option_spelling out_spelling slots.out ++ option_spelling shadow_spelling slots.conflict))

abbrev pub HasSlots : Slots → Type 0
HasSlots slots =
    IsOption HasMain slots.main × (IsOption HasShadow slots.shadow
    × (IsOption HasOut slots.out × IsOption HasShadow slots.conflict))

-- ---- tells

-- the byte of its kind, and its numbers
abbrev pub tell_spelling : Tell → List ℕ
tell_spelling (tells.Wrote number read) = 1 ∷ (eight number ++ eight read)
tell_spelling (tells.Acked number version) = 2 ∷ (eight number ++ eight version)
tell_spelling (tells.Refused number latest) = 3 ∷ (eight number ++ eight latest)
tell_spelling (tells.Conflict number version) = 4 ∷ (eight number ++ eight version)
tell_spelling (tells.Resolved number version) = 5 ∷ (eight number ++ eight version)
tell_spelling (tells.New version) = 6 ∷ eight version
tell_spelling (tells.Position position) = 7 ∷ eight position
tell_spelling tells.Opened = 8 ∷ []
tell_spelling tells.Dropped = 9 ∷ []

abbrev pub HasTell : Tell → Type 0
HasTell (tells.Wrote number read) = (number < 2 ^ 64) × (read < 2 ^ 64)
HasTell (tells.Acked number version) = (number < 2 ^ 64) × (version < 2 ^ 64)
HasTell (tells.Refused number latest) = (number < 2 ^ 64) × (latest < 2 ^ 64)
HasTell (tells.Conflict number version) = (number < 2 ^ 64) × (version < 2 ^ 64)
HasTell (tells.Resolved number version) = (number < 2 ^ 64) × (version < 2 ^ 64)
HasTell (tells.New version) = version < 2 ^ 64
HasTell (tells.Position position) = position < 2 ^ 64
HasTell tells.Opened = Unit {0}
HasTell tells.Dropped = Unit {0}
