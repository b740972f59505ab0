-- The chunks of a row that travel: their columns and places have words, and none is empty or larger than the size.
use Rattle.std.proofs.Common.{◌≡◌, ⊎_elim, ℕ, zero, suc, ◌+◌, ◌*◌, ◌-◌, ◌<◌, ◌≤◌, Bool, true, false, List, [], ◌∷◌, length, get_or, drop, ◌∙◌, ap, arith}
use Rattle.std.specs.Prelude.{◌^◌, if◌then◌else◌}
use Rattle.std.specs.List.{AllByRecursion}
use Rattle.std.proofs.lemmas.List.{length-take, length-drop}
use Rattle.row_value.specs.declared.content.Content.{Content}
use Rattle.row_value.specs.declared.content.Content.TheVariants as contents
use Rattle.row_value.specs.declared.content.Cell.{Cell}
use Rattle.row_value.specs.declared.pieces.Piece.{Piece}
use Rattle.value_codec.specs.SchemaSpelling.{IsChunkSize}
use Rattle.sync_msgs.specs.Spelling.{IsChunk}
use Rattle.chunker.specs.Sized.{len_at}
use Rattle.assemblies.specs.declared.awaiting.Awaited.{Awaited}
use Rattle.assemblies.specs.Places.{awaited_in, awaited_from, awaited_of}
use Rattle.assemblies.specs.Parts.{chunk_at, chunk_in}
use Rattle.assemblies.proofs.Listing.{all-append}
use Rattle.step_tables.specs.Chunks.{cut_up_to, cut, is_of_each}
use Rattle.part_tables.specs.Parts.{objects_by, spelled_by}
use Rattle.frame_laws.proofs.Said.{parts_said}

-- ---- sizes

pub size_some : (size : ℕ) → IsChunkSize size → 0 < size
size_some size is = ⊎_elim (λ a. omega (arith, a)) (λ b. ⊎_elim (λ c. omega (arith, c)) (λ d. omega (arith, d)) b) is

pub size_most : (size : ℕ) → IsChunkSize size → size ≤ 65536
size_most size is = ⊎_elim (λ a. omega (arith, a)) (λ b. ⊎_elim (λ c. omega (arith, c)) (λ d. omega (arith, d)) b) is

-- ---- a chunk

begins_within : (most size place : ℕ) (object : List ℕ) → place < length (cut_up_to most size object) → place * size < length object
begins_within zero size place object lt = absurd (omega (arith, lt))
begins_within (suc most) size place [] lt = absurd (omega (arith, lt))
begins_within (suc most) size zero (byte ∷ bytes) lt = omega arith
begins_within (suc most) size (suc place) (byte ∷ bytes) lt =
    let rest = begins_within most size place (drop size (byte ∷ bytes)) (omega (arith, lt)) in
    let more : suc place * size ≡ place * size + size = grind arith in
    omega (arith, rest, more, length-drop size (byte ∷ bytes))

pub chunk_sized : (size place : ℕ) (object : List ℕ) → IsChunkSize size → place < length (cut size object) → IsChunk (chunk_at size object place)
chunk_sized size place object is lt =
    let begins = begins_within (length object) size place object lt in
    let left = length-drop (place * size) object in
    let len = length-take size (drop (place * size) object) in
    record {
      least = omega (arith, begins, left, len, size_some size is);
      most = omega (arith, len, size_most size is);
    }

-- ---- those that travel

module _ (sends : Piece → Bool) (size : ℕ) (is : IsChunkSize size) (object_at : ℕ → List ℕ) where
  -- a chunk of the object in its column
  abbrev pub HasWords : Awaited → Type 0
  HasWords it = (it.column < 2 ^ 32) × ((it.place < 2 ^ 32) × IsChunk (chunk_at size (object_at it.column) it.place))

  module _ (len column : ℕ) (low : column < 2 ^ 32) (few : length (cut size (object_at column)) < 2 ^ 32) where
    one_more : (place : ℕ) (pieces : List Piece) (b : Bool) → place < length (cut size (object_at column)) → AllByRecursion HasWords (awaited_in sends size len column (place + 1) pieces)
        → AllByRecursion HasWords (if b then record { column = column; place = place; len = len_at size len place } ∷ awaited_in sends size len column (place + 1) pieces
        else awaited_in sends size len column (place + 1) pieces)
    one_more place pieces true lt behind = ((low, (omega (arith, lt, few), chunk_sized size place (object_at column) is lt)), behind)
    one_more place pieces false lt behind = behind

    of_object : (place : ℕ) (pieces : List Piece) → place + length pieces ≤ length (cut size (object_at column)) → AllByRecursion HasWords (awaited_in sends size len column place pieces)
    of_object place [] le = tt
    of_object place (piece ∷ pieces) le = one_more place pieces (sends piece) (omega (arith, le)) (of_object (place + 1) pieces (omega (arith, le)))

  of_objects : (column : ℕ) (objects : List (List ℕ)) (pieces : List (List Piece)) → is_of_each size pieces objects ≡ true → column + length objects < 2 ^ 32
      → AllByRecursion (λ (object : List ℕ). length (cut size object) < 2 ^ 32) objects → ((i : ℕ) → i < length objects → object_at (column + i) ≡ get_or objects i [])
      → AllByRecursion HasWords (awaited_from sends size column (objects_by objects pieces))
  of_objects column [] pieces each low few there = tt
  of_objects column (object ∷ objects) [] each low few there = absurd cc
  of_objects column (object ∷ objects) (here ∷ pieces) each low few there =
      let both = parts_said size here pieces object objects each in
      let at : object_at column ≡ object = ap object_at (omega arith) ∙ there 0 (omega arith) in
      let count : length (cut size (object_at column)) ≡ length (cut size object) = ap (λ (o : List ℕ). length (cut size o)) at in
      all-append HasWords (awaited_in sends size (length object) column 0 here) (awaited_from sends size (column + 1) (objects_by objects pieces))
      (of_object (length object) column (omega (arith, low)) (omega (arith, count, few.0)) 0 here (omega (arith, count, both.0)))
      (of_objects (column + 1) objects pieces both.1 (omega (arith, low)) few.1 (λ i h. ap object_at (omega arith) ∙ there (suc i) (omega (arith, h))))

-- a chunk of a row
abbrev pub IsSizedChunk : ℕ → Content → Awaited → Type 0
IsSizedChunk size content it = (it.column < 2 ^ 32) × ((it.place < 2 ^ 32) × IsChunk (chunk_in size content it.column it.place))

pub of_row : (sends : Piece → Bool) (size : ℕ) (some : List Cell) (objects : List (List ℕ)) (pieces : List (List Piece)) → IsChunkSize size → is_of_each size pieces objects ≡ true
    → length some + length objects < 2 ^ 32 → AllByRecursion (λ (object : List ℕ). length (cut size object) < 2 ^ 32) objects
    → AllByRecursion (IsSizedChunk size (contents.Row some objects)) (awaited_of sends size (spelled_by (contents.Row some objects) pieces))
of_row sends size some objects pieces is each low few =
    of_objects sends size is (λ column. get_or objects (column - length some) []) (length some) objects pieces each low few
    (λ i within. ap (λ n. get_or objects n []) (omega arith))
