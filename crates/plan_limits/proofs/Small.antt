-- How long contents, slots and commits are that fit.
use Rattle.std.proofs.Common.{◌≡◌, ℕ, suc, ◌+◌, ◌≤◌, Bool, true, false, List, [], ◌∷◌, ◌++◌, length, Option, Some, None, refl, ◌∙◌, ap, arith, length-append}
use Rattle.std.specs.Prelude.{◌*◌, sum_by, IfSome}
use Rattle.std.specs.List.{flat_map}
use Rattle.std.proofs.lemmas.List.Sums.{sum_by-cons}
use Rattle.stab_base.specs.declared.chunk_name.ChunkName.{ChunkName}
use Rattle.row_value.specs.declared.content.Cell.{Cell}
use Rattle.row_value.specs.declared.content.Cell.TheVariants as cells_of
use Rattle.row_value.specs.declared.pieces.Piece.{Piece}
use Rattle.row_value.specs.declared.pieces.Piece.TheVariants.{Keep, Fresh}
use Rattle.row_value.specs.Fit.{spelled_len}
use Rattle.value_codec.specs.Spelling.{flag_spelling, list_spelling, name_spelling, cell_spelling, piece_spelling}
use Rattle.field_codec.specs.Forms.{four, eight, option_spelling}
use Rattle.held_codec.specs.Spelling.{local_spelling, held_piece_spelling, held_object_spelling, held_spelling, main_spelling, shadow_spelling, out_spelling, slots_spelling, tell_spelling}
use Rattle.held_value.specs.declared.local_name.LocalName.{LocalName}
use Rattle.held_value.specs.declared.content.HeldPiece.{HeldPiece}
use Rattle.held_value.specs.declared.content.HeldObject.{HeldObject}
use Rattle.held_value.specs.declared.content.HeldContent.{HeldContent}
use Rattle.held_value.specs.declared.content.HeldContent.TheVariants.{Gone, Row}
use Rattle.held_value.specs.declared.slots.Main.{Main}
use Rattle.held_value.specs.declared.slots.Shadow.{Shadow}
use Rattle.held_value.specs.declared.slots.Out.{Out}
use Rattle.held_value.specs.declared.slots.Slots.{Slots}
use Rattle.held_value.specs.declared.tell.Tell.{Tell}
use Rattle.held_value.specs.declared.tell.Tell.TheVariants as tells
use Rattle.client_journal.specs.Names.{names_of_pieces, names_of_objects, names_of}
use Rattle.slot_store.proofs.Again.{four_len}

pub eight_len : (n : ℕ) → length (eight n) ≡ 8
unfolding eight
eight_len n = refl

flag_len : (b : Bool) → length (flag_spelling b) ≡ 1
flag_len true = refl
flag_len false = refl

-- ---- lists

list_most : {X : Type 0} (spelling : X → List ℕ) (most : ℕ) (xs : List X) → ((x : X) → length (spelling x) ≤ most) → length (flat_map spelling xs) ≤ length xs * most
list_most spelling most [] each = omega arith
list_most spelling most (x ∷ xs) each =
    let rest = list_most spelling most xs each in
    let here = each x in
    let sum = length-append (spelling x) (flat_map spelling xs) in
    let more : suc (length xs) * most ≡ length xs * most + most = grind arith in
    omega (arith, rest, here, sum, more)

counted_most : {X : Type 0} (spelling : X → List ℕ) (xs : List X) → length (list_spelling spelling xs) ≡ 4 + length (flat_map spelling xs)
counted_most spelling xs = omega arith

-- ---- pieces, objects and cells

piece_most : (p : HeldPiece) → length (held_piece_spelling p) ≤ 25
piece_most p = pick p.name
  where
    local : (name : LocalName) → length (local_spelling name) ≡ 12
    local name = omega (arith, length-append (eight name.plan) (four name.ordinal), eight_len name.plan, four_len name.ordinal)

    pick : (o : Option ChunkName) → length (local_spelling p.local ++ option_spelling name_spelling o) ≤ 25
    pick None = omega (arith, local p.local, length-append (local_spelling p.local) (option_spelling name_spelling None))
    pick (Some n) = let twelve : length (name_spelling n) ≡ 12 = refl in omega (arith, twelve, local p.local, length-append (local_spelling p.local) (option_spelling name_spelling (Some n)))

-- how many chunks some objects have
pub count_in : (o : HeldObject) (os : List HeldObject) → length (names_of_objects (o ∷ os)) ≡ length o.pieces + length (names_of_objects os)
count_in o os = length-append (names_of_pieces o.pieces) (names_of_objects os) ∙ ap (λ (n : ℕ). n + length (names_of_objects os)) (as_many o.pieces)
  where
    as_many : (ps : List HeldPiece) → length (names_of_pieces ps) ≡ length ps
    as_many [] = refl
    as_many (p ∷ ps) = ap suc (as_many ps)

objects_most : (os : List HeldObject) → length (flat_map held_object_spelling os) ≤ length os * 8 + length (names_of_objects os) * 25
objects_most [] = omega arith
objects_most (o ∷ os) =
    let pieces : List ℕ = flat_map held_piece_spelling o.pieces in
    omega (
      arith,
      objects_most os,
      list_most held_piece_spelling 25 o.pieces piece_most,
      count_in o os,
      four_len o.len,
      length-append (held_object_spelling o) (flat_map held_object_spelling os),
      length-append (four o.len) (list_spelling held_piece_spelling o.pieces),
      counted_most held_piece_spelling o.pieces,
    )

cells_len : (cs : List Cell) → length (flat_map cell_spelling cs) ≡ sum_by spelled_len cs
cells_len [] = refl
cells_len (c ∷ cs) = omega (arith, length-append (cell_spelling c) (flat_map cell_spelling cs), cells_len cs, one c, sum_by-cons spelled_len c cs)
  where
    one : (c : Cell) → length (cell_spelling c) ≡ spelled_len c
    one (cells_of.Int n) = refl
    one (cells_of.Bool b) = ap suc (flag_len b)
    one (cells_of.Text text) = omega arith

-- ---- contents

-- few cells, objects and chunks
abbrev pub IsSmall : HeldContent → Type 0
IsSmall Gone = Unit {0}
IsSmall (Row some objects) = (sum_by spelled_len some ≤ 524288) × (length objects ≤ 32) × (length (names_of_objects objects) ≤ 32768)

pub content_most : (c : HeldContent) → IsSmall c → length (held_spelling c) ≤ 1343753
content_most Gone h = omega arith
content_most (Row some objects) h =
    omega (
      arith,
      h.0,
      h.1,
      h.2,
      cells_len some,
      objects_most objects,
      length-append (list_spelling cell_spelling some) (list_spelling held_object_spelling objects),
      counted_most cell_spelling some,
      counted_most held_object_spelling objects,
    )

pub names_most : (c : HeldContent) → IsSmall c → length (names_of c) ≤ 32768
names_most Gone h = omega arith
names_most (Row some objects) h = h.2

-- ---- slots

sent_most : (p : Piece) → length (piece_spelling p) ≤ 13
sent_most (Keep name) = let twelve : length (name_spelling name) ≡ 12 = refl in omega (arith, twelve)
sent_most (Fresh ordinal) = omega arith

pub record AreSmall (slots : Slots) : Type 0 where
  pub main : IfSome slots.main (λ main. IsSmall main.content)
  pub shadow : IfSome slots.shadow (λ shadow. IsSmall shadow.content)
  pub out : IfSome slots.out (λ out. IsSmall out.content × (length out.pieces ≤ 32768))
  pub conflict : IfSome slots.conflict (λ shadow. IsSmall shadow.content)

main_most : (o : Option Main) → IfSome o (λ main. IsSmall main.content) → length (option_spelling main_spelling o) ≤ 1343770
main_most None h = omega arith
main_most (Some m) h =
    omega (arith, content_most m.content h, eight_len m.number, eight_len m.read, length-append (eight m.number) (eight m.read ++ held_spelling m.content), length-append (eight m.read) (held_spelling m.content))

shadow_most : (o : Option Shadow) → IfSome o (λ shadow. IsSmall shadow.content) → length (option_spelling shadow_spelling o) ≤ 1343762
shadow_most None h = omega arith
shadow_most (Some s) h = omega (arith, content_most s.content h, eight_len s.version, length-append (eight s.version) (held_spelling s.content))

out_most : (o : Option Out) → IfSome o (λ out. IsSmall out.content × (length out.pieces ≤ 32768)) → length (option_spelling out_spelling o) ≤ 1769767
out_most None h = omega arith
out_most (Some o) h =
    let pieces : List ℕ = list_spelling piece_spelling o.pieces in
    let content : List ℕ = held_spelling o.content in
    let flag : List ℕ = flag_spelling o.whole in
    omega (
      arith,
      h.1,
      content_most o.content h.0,
      list_most piece_spelling 13 o.pieces sent_most,
      counted_most piece_spelling o.pieces,
      flag_len o.whole,
      eight_len o.number,
      eight_len o.read,
      eight_len o.base,
      length-append content pieces,
      length-append flag (content ++ pieces),
      length-append (eight o.base) (flag ++ (content ++ pieces)),
      length-append (eight o.read) (eight o.base ++ (flag ++ (content ++ pieces))),
      length-append (eight o.number) (eight o.read ++ (eight o.base ++ (flag ++ (content ++ pieces)))),
    )

pub slots_most : (s : Slots) → AreSmall s → length (slots_spelling s) ≤ 5801061
slots_most s h =
    let m : List ℕ = option_spelling main_spelling s.main in
    let w : List ℕ = option_spelling shadow_spelling s.shadow in
    let o : List ℕ = option_spelling out_spelling s.out in
    let k : List ℕ = option_spelling shadow_spelling s.conflict in
    omega (
      arith,
      main_most s.main h.main,
      shadow_most s.shadow h.shadow,
      out_most s.out h.out,
      shadow_most s.conflict h.conflict,
      length-append m (w ++ (o ++ k)),
      length-append w (o ++ k),
      length-append o k,
    )

-- ---- names that are dropped, and tells

local_len : (name : LocalName) → length (local_spelling name) ≤ 12
local_len name = omega (arith, length-append (eight name.plan) (four name.ordinal), eight_len name.plan, four_len name.ordinal)

pub drops_most : (names : List LocalName) → length (list_spelling local_spelling names) ≤ 4 + length names * 12
drops_most names = omega (arith, list_most local_spelling 12 names local_len, counted_most local_spelling names)

two_len : (a b : ℕ) → length (eight a ++ eight b) ≡ 16
two_len a b = omega (arith, length-append (eight a) (eight b), eight_len a, eight_len b)

tell_most : (t : Tell) → length (tell_spelling t) ≤ 17
tell_most (tells.Wrote number read) = omega (arith, two_len number read)
tell_most (tells.Acked number version) = omega (arith, two_len number version)
tell_most (tells.Refused number latest) = omega (arith, two_len number latest)
tell_most (tells.Conflict number version) = omega (arith, two_len number version)
tell_most (tells.Resolved number version) = omega (arith, two_len number version)
tell_most (tells.New version) = omega (arith, eight_len version)
tell_most (tells.Position position) = omega (arith, eight_len position)
tell_most tells.Opened = omega arith
tell_most tells.Dropped = omega arith

pub tells_most : (ts : List Tell) → length (list_spelling tell_spelling ts) ≤ 4 + length ts * 17
tells_most ts = omega (arith, list_most tell_spelling 17 ts tell_most, counted_most tell_spelling ts)
