-- The local names that slots name.
use Rattle.std.specs.Prelude.{◌≡◌, ◌==◌, Bool, true, ◌&&◌, List, [], ◌++◌, map, Option, Some, None}
use Rattle.std.specs.List.{list_any, flat_map}
use Rattle.held_value.specs.declared.local_name.LocalName.{LocalName}
use Rattle.held_value.specs.declared.content.HeldPiece.{HeldPiece}
use Rattle.held_value.specs.declared.content.HeldObject.{HeldObject}
use Rattle.held_value.specs.declared.content.HeldContent.{HeldContent}
use Rattle.held_value.specs.declared.content.HeldContent.TheVariants.{Gone, Row}
use Rattle.held_value.specs.declared.slots.Main.{Main}
use Rattle.held_value.specs.declared.slots.Shadow.{Shadow}
use Rattle.held_value.specs.declared.slots.Out.{Out}
use Rattle.held_value.specs.declared.slots.Slots.{Slots}

abbrev pub same_name : LocalName → LocalName → Bool
same_name a b = (a.plan == b.plan) && (a.ordinal == b.ordinal)

-- whether a name is one of these
abbrev pub is_among : List LocalName → LocalName → Bool
is_among names name = list_any (same_name name) names

abbrev pub Has : List LocalName → LocalName → Type 0
Has names name = is_among names name ≡ true

abbrev pub names_of_pieces : List HeldPiece → List LocalName
names_of_pieces pieces = map (λ piece. piece.local) pieces

abbrev pub names_of_objects : List HeldObject → List LocalName
names_of_objects objects = flat_map (λ object. names_of_pieces object.pieces) objects

abbrev pub names_of : HeldContent → List LocalName
names_of Gone = []
names_of (Row some objects) = names_of_objects objects

abbrev pub names_of_main : Option Main → List LocalName
names_of_main None = []
names_of_main (Some main) = names_of main.content

abbrev pub names_of_shadow : Option Shadow → List LocalName
names_of_shadow None = []
names_of_shadow (Some shadow) = names_of shadow.content

abbrev pub names_of_out : Option Out → List LocalName
names_of_out None = []
names_of_out (Some out) = names_of out.content

-- the chunks that a row's slots name
abbrev pub names_in : Slots → List LocalName
names_in slots =
    names_of_main slots.main ++ (names_of_shadow slots.shadow
    ++ (names_of_out slots.out ++ names_of_shadow slots.conflict))
