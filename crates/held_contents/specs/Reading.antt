-- What is read of a content: its objects whole, and its chunks one by one.
use Rattle.std.specs.Prelude.{◌≡◌, ℕ, List, [], map, Option, Some, None, IfSome, unwrap_or}
use Rattle.stab_base.specs.declared.chunk_name.ChunkName.{ChunkName}
use Rattle.held_value.specs.declared.local_name.LocalName.{LocalName}
use Rattle.held_value.specs.declared.content.HeldPiece.{HeldPiece}
use Rattle.held_value.specs.declared.content.HeldObject.{HeldObject}
use Rattle.held_value.specs.declared.content.HeldContent.{HeldContent}
use Rattle.held_value.specs.declared.content.HeldContent.TheVariants.{Gone, Row}
use Rattle.held_value.specs.declared.slots.Shadow.{Shadow}
use Rattle.client_journal.specs.Names.{Has, names_of}
use Rattle.client_journal.specs.Devs.{ClientDevs, local_in}

-- each chunk that the content names is on the device, with the bytes that its name stands for
abbrev pub AreThere : (LocalName → List ℕ) → ClientDevs → HeldContent → Type 0
AreThere meaning d held =
    (name : LocalName) → Has (names_of held) name → local_in d.chunks name ≡ Some (meaning name)

-- the same of a content that is shown, if one is
abbrev pub AreThereIf : (LocalName → List ℕ) → ClientDevs → Option HeldContent → Type 0
AreThereIf meaning d shown = IfSome shown (AreThere meaning d)

-- the bytes of a chunk that is on a device, none where it isn't
abbrev pub stands_in : List (ChunkName × List ℕ) → LocalName → List ℕ
stands_in chunks name = unwrap_or (local_in chunks name) []

-- each piece with the bytes that its name stands for
abbrev pub with_bytes : (LocalName → List ℕ) → List HeldPiece → List (HeldPiece × List ℕ)
with_bytes meaning pieces = map (λ (piece : HeldPiece). (piece, meaning piece.local)) pieces

abbrev pub objects_with_bytes : (LocalName → List ℕ) → List HeldObject → List (List (HeldPiece × List ℕ))
objects_with_bytes meaning objects = map (λ (object : HeldObject). with_bytes meaning object.pieces) objects

-- the chunks of each object; a row that is gone has none
abbrev pub chunks_in : (LocalName → List ℕ) → HeldContent → List (List (HeldPiece × List ℕ))
chunks_in meaning Gone = []
chunks_in meaning (Row some objects) = objects_with_bytes meaning objects

-- the chunks of each object that is shown
abbrev pub chunks_shown : (LocalName → List ℕ) → Option HeldContent → List (List (HeldPiece × List ℕ))
chunks_shown meaning None = []
chunks_shown meaning (Some held) = chunks_in meaning held

-- the content that was read last
abbrev pub content_read : Option Shadow → Option HeldContent
content_read None = None
content_read (Some shadow) = Some shadow.content
