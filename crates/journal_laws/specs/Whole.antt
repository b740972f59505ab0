-- Slots with whole contents, where the local names stand for bytes.
use Rattle.std.specs.Prelude.{◌≡◌, ℕ, List, [], ◌∷◌, length, map, take, drop, Option, option_map, IfSome}
use Rattle.std.specs.List.{concat, AllByRecursion}
use Rattle.stab_base.specs.declared.chunk_name.ChunkName.{ChunkName}
use Rattle.row_value.specs.declared.content.Content.{Content}
use Rattle.row_value.specs.declared.content.Content.TheVariants as contents
use Rattle.row_value.specs.declared.pieces.Piece.{Piece}
use Rattle.held_value.specs.declared.local_name.LocalName.{LocalName}
use Rattle.held_value.specs.declared.content.HeldPiece.{HeldPiece}
use Rattle.held_value.specs.declared.content.HeldObject.{HeldObject}
use Rattle.held_value.specs.declared.content.HeldContent.{HeldContent}
use Rattle.held_value.specs.declared.content.HeldContent.TheVariants.{Gone, Row}
use Rattle.held_value.specs.declared.slots.Main.{Main as HeldMain}
use Rattle.held_value.specs.declared.slots.Shadow.{Shadow as HeldShadow}
use Rattle.held_value.specs.declared.slots.Out.{Out as HeldOut}
use Rattle.held_value.specs.declared.slots.Slots.{Slots as HeldSlots}
use Rattle.client_journal.specs.Names.{Has, names_of, names_in}
use Rattle.step_tables.specs.Slots.{Main}
use Rattle.step_tables.specs.Slots.{InFlight}
use Rattle.step_tables.specs.Slots.{Shadow}
use Rattle.step_tables.specs.ClientMoves.{Slots}

-- an object of its chunks
abbrev pub whole_object : (LocalName → List ℕ) → HeldObject → List ℕ
whole_object meaning object = concat (map (λ (piece : HeldPiece). meaning piece.local) object.pieces)

-- a content with its objects whole
abbrev pub whole : (LocalName → List ℕ) → HeldContent → Content
whole meaning Gone = contents.Gone
whole meaning (Row some objects) = contents.Row some (map (whole_object meaning) objects)

-- ---- what is said of the chunks, in a list an object

-- the Store's names of the chunks of each object, where they are known
abbrev pub names_in_objects : List HeldObject → List (List (Option ChunkName))
names_in_objects objects =
    map (λ (object : HeldObject). map (λ (piece : HeldPiece). piece.name) object.pieces) objects

abbrev pub names_known : HeldContent → List (List (Option ChunkName))
names_known Gone = []
names_known (Row some objects) = names_in_objects objects

-- pieces one behind the other: as many for each object as it has chunks
abbrev pub split_by : List HeldObject → List Piece → List (List Piece)
split_by [] pieces = []
split_by (object ∷ objects) pieces =
    take (length object.pieces) pieces ∷ split_by objects (drop (length object.pieces) pieces)

abbrev pub pieces_by : HeldContent → List Piece → List (List Piece)
pieces_by Gone pieces = []
pieces_by (Row some objects) pieces = split_by objects pieces

-- ---- slots

abbrev pub whole_main : (LocalName → List ℕ) → HeldMain → Main
whole_main meaning main = record { number = main.number; read = main.read; content = whole meaning main.content }

abbrev pub whole_shadow : (LocalName → List ℕ) → HeldShadow → Shadow
whole_shadow meaning shadow = record {
  version = shadow.version;
  content = whole meaning shadow.content;
  names = names_known shadow.content;
}

abbrev pub whole_out : (LocalName → List ℕ) → HeldOut → InFlight
whole_out meaning out = record {
  number = out.number;
  read = out.read;
  base = out.base;
  content = whole meaning out.content;
  pieces = pieces_by out.content out.pieces;
  whole = out.whole;
}

-- the four slots of a row, each content whole
abbrev pub whole_slots : (LocalName → List ℕ) → HeldSlots → Slots
whole_slots meaning slots = record {
  main = option_map (whole_main meaning) slots.main;
  shadow = option_map (whole_shadow meaning) slots.shadow;
  out = option_map (whole_out meaning) slots.out;
  conflict = option_map (whole_shadow meaning) slots.conflict;
}

-- ---- what is true of held slots

-- the length of an object is that of its chunks
abbrev pub HasLen : (LocalName → List ℕ) → HeldObject → Type 0
HasLen meaning object = object.len ≡ length (whole_object meaning object)

abbrev pub HaveLens : (LocalName → List ℕ) → HeldContent → Type 0
HaveLens meaning Gone = Unit {0}
HaveLens meaning (Row some objects) = AllByRecursion (HasLen meaning) objects

-- a request spells each chunk of its content
abbrev pub SpellsAll : HeldOut → Type 0
SpellsAll out = length out.pieces ≡ length (names_of out.content)

pub record AreHeld (meaning : LocalName → List ℕ) (slots : HeldSlots) : Type 0 where
  pub main : IfSome slots.main (λ main. HaveLens meaning main.content)
  pub shadow : IfSome slots.shadow (λ shadow. HaveLens meaning shadow.content)
  pub out : IfSome slots.out (λ out. HaveLens meaning out.content)
  pub conflict : IfSome slots.conflict (λ shadow. HaveLens meaning shadow.content)
  pub pieces : IfSome slots.out SpellsAll

-- each chunk has the name that it got from its plan
abbrev pub AreNumbered : HeldSlots → Type 0
AreNumbered slots = (name : LocalName) → Has (names_in slots) name → name.plan ≡ 0 → ⊥
