-- What holds a new content: chunks that are kept of the row that is shown, and chunks that are brought.
use Rattle.std.specs.Prelude.{◌≡◌, ℕ, ◌+◌, ◌<◌, Ok, List, [], ◌∷◌, ◌++◌, length, map, drop}
use Rattle.std.specs.Prelude.{Option, Some, None}
use Rattle.std.specs.List.{concat, flat_map, AllByRecursion}
use Rattle.stab_base.specs.declared.chunk_name.ChunkName.{ChunkName}
use Rattle.row_value.specs.declared.content.Content.{Content}
use Rattle.row_value.specs.declared.content.Content.TheVariants as contents
use Rattle.row_value.specs.declared.schema.Schema.{Schema}
use Rattle.row_value.specs.Fit.{fit_of}
use Rattle.chunker.specs.Cut.{HaveSize, IsCut}
use Rattle.held_value.specs.declared.local_name.LocalName.{LocalName}
use Rattle.held_value.specs.declared.content.HeldPiece.{HeldPiece}
use Rattle.held_value.specs.declared.content.HeldObject.{HeldObject}
use Rattle.held_value.specs.declared.content.HeldContent.{HeldContent}
use Rattle.held_value.specs.declared.content.HeldContent.TheVariants.{Gone, Row}
use Rattle.client_tables.specs.Held.{held_pieces, brought}
use Rattle.step_tables.specs.Chunks.{first_of}
use Rattle.journal_laws.specs.Moves.{AreShownChunks, object_of}

-- a content of a table whose chunks have this size, as `fits` tells
pub record IsFit (size : ℕ) (content : Content) : Type 0 where
  pub schema : Schema
  pub chunk : schema.chunk ≡ size
  pub fit : fit_of schema content ≡ Ok tt

-- ---- the Store's names

-- chunks that are cut, each with the Store's name where it is known: of the first ones these names are
abbrev pub with_names : List ChunkName → List (List ℕ) → List (Option ChunkName × List ℕ)
with_names names [] = []
with_names [] (bytes ∷ chunks) = (None, bytes) ∷ with_names [] chunks
with_names (name ∷ names) (bytes ∷ chunks) = (Some name, bytes) ∷ with_names names chunks

-- the same of the chunks of each object; where there are no names none is known
abbrev pub all_named : List (List ChunkName) → List (List (List ℕ)) → List (List (Option ChunkName × List ℕ))
all_named names [] = []
all_named names (chunks ∷ cuts) = with_names (first_of names) chunks ∷ all_named (drop 1 names) cuts

-- ---- against the objects that are shown

-- the chunks of the object that is shown at the first place
abbrev pub first_shown : List (List (HeldPiece × List ℕ)) → List (HeldPiece × List ℕ)
first_shown [] = []
first_shown (object ∷ shown) = object

-- the chunks that objects bring which are cut so
abbrev pub brought_of : List (List (HeldPiece × List ℕ)) → List (List (Option ChunkName × List ℕ)) → List (List ℕ)
brought_of shown [] = []
brought_of shown (chunks ∷ cuts) = brought (first_shown shown) chunks ++ brought_of (drop 1 shown) cuts

-- what holds them, each against the object that is shown at its place; the brought chunks are numbered on from object
-- to object
abbrev pub held_objects : List (List (HeldPiece × List ℕ)) → List (List (Option ChunkName × List ℕ)) → ℕ
    → List HeldObject
held_objects shown [] next = []
held_objects shown (chunks ∷ cuts) next =
    record { len = length (object_of chunks); pieces = held_pieces (first_shown shown) chunks next }
    ∷ held_objects (drop 1 shown) cuts (next + length (brought (first_shown shown) chunks))

-- these objects, cut into chunks of a size that have these names, are held by those
pub record HoldsObjects (size : ℕ) (shown : List (List (HeldPiece × List ℕ))) (names : List (List ChunkName))
    (objects : List (List ℕ)) (held : List HeldObject) (new : List (List ℕ)) : Type 0 where
  pub cuts : List (List (List ℕ))
  pub whole : map concat cuts ≡ objects
  pub sizes : AllByRecursion (HaveSize size) cuts
  pub held_is : held ≡ held_objects shown (all_named names cuts) 0
  pub brought_is : new ≡ brought_of shown (all_named names cuts)

-- one more object, against the first that is shown; so many chunks are brought before it
pub record HoldsOne (size : ℕ) (shown : List (List (HeldPiece × List ℕ))) (names : List (List ChunkName))
    (object : List ℕ) (old new : List HeldObject) (before behind : List (List ℕ)) : Type 0 where
  pub chunks : List (List ℕ)
  pub cut : IsCut size object chunks
  pub held_is : new ≡ old ++ record {
    len = length object;
    pieces = held_pieces (first_shown shown) (with_names (first_of names) chunks) (length before);
  } ∷ []
  pub brought_is : behind ≡ before ++ brought (first_shown shown) (with_names (first_of names) chunks)

-- A chunk that the object which is shown at the same place has at the same place is kept, and the others are brought.
-- The Store has these names for the chunks of each object.
abbrev pub IsNamedAgainst : ℕ → List (List (HeldPiece × List ℕ)) → List (List ChunkName) → Content → HeldContent
    → List (List ℕ) → Type 0
IsNamedAgainst size shown names contents.Gone Gone new = new ≡ []
IsNamedAgainst size shown names (contents.Row some objects) (Row cells held) new =
    (cells ≡ some) × HoldsObjects size shown names objects held new
IsNamedAgainst size shown names content held new = ⊥

-- The same of a content none of whose chunks has a name that is known.
abbrev pub IsHeldAgainst : ℕ → List (List (HeldPiece × List ℕ)) → Content → HeldContent → List (List ℕ) → Type 0
IsHeldAgainst size shown content held new = IsNamedAgainst size shown [] content held new

-- ---- what follows of it

-- each shown chunk stands for its bytes, and a plan before this one brought it
abbrev pub AreShown : (LocalName → List ℕ) → ℕ → List (List (HeldPiece × List ℕ)) → Type 0
AreShown meaning number shown = AllByRecursion (AreShownChunks meaning number) shown

abbrev pub pieces_shown : List (List (HeldPiece × List ℕ)) → List HeldPiece
pieces_shown shown =
    flat_map (λ (object : List (HeldPiece × List ℕ)). map (λ (chunk : HeldPiece × List ℕ). chunk.0) object) shown

abbrev pub names_shown : List (List (HeldPiece × List ℕ)) → List LocalName
names_shown shown = map (λ (piece : HeldPiece). piece.local) (pieces_shown shown)

abbrev pub pieces_held : HeldContent → List HeldPiece
pieces_held Gone = []
pieces_held (Row some objects) = flat_map (λ (object : HeldObject). object.pieces) objects

-- a piece that stands for one of so many chunks that are brought; the Store has no name for it yet
pub record IsBroughtPiece (count : ℕ) (piece : HeldPiece) : Type 0 where
  pub plan : piece.local.plan ≡ 0
  pub ordinal : piece.local.ordinal < count
  pub name : piece.name ≡ None

abbrev pub brought_name : ℕ → LocalName
brought_name ordinal = record { plan = 0; ordinal = ordinal }
