-- An object, and a content, joined piece by piece.
use Rattle.std.proofs.Common.{true, false, ◌≡◌, ℕ, zero, suc, ◌+◌, ◌*◌, ◌-◌, ◌<◌, ◌≤◌, Bool, List, [], ◌∷◌, ◌++◌, length, get_or, take, drop, Some, refl, sym, ap, ◌∙◌, arith}
use Rattle.std.specs.Prelude.{◌==◌, cond, map, count_by, slice_get}
use Rattle.std.proofs.Math.Seq.{take-add}
use Rattle.std.proofs.lemmas.List.{take_all, drop-drop, map-append}
use Rattle.std.proofs.lemmas.Grind.{div_ceil_times}
use Rattle.std.proofs.lemmas.List.Sums.{sum_by-cons}
use Rattle.std.proofs.lemmas.Bool.{eqb-true}
use Rattle.std.proofs.lemmas.Bool.Decides.{nat_tests}
use Rattle.stab_base.specs.declared.chunk_name.ChunkName.{ChunkName}
use Rattle.row_value.specs.declared.content.Cell.{Cell}
use Rattle.row_value.specs.declared.content.Content.{Content}
use Rattle.row_value.specs.declared.content.Content.TheVariants as contents
use Rattle.row_value.specs.declared.pieces.Piece.{Piece}
use Rattle.row_value.specs.declared.pieces.PieceObject.{PieceObject}
use Rattle.row_value.specs.declared.pieces.PieceContent.{PieceContent}
use Rattle.row_value.specs.declared.pieces.PieceContent.TheVariants.{Gone, Row}
use Rattle.chunker.specs.Sized.{count_of, len_at}
use Rattle.assemblies.specs.declared.awaiting.Awaited.{Awaited}
use Rattle.assemblies.specs.Places.{awaited_in, awaited_from}
use Rattle.assemblies.specs.Parts.{chunk_at, parts_of, held_of, object_joined, objects_joined, joined, ArePiecesOf, AllArePieces, IsOf}

-- ---- an object is its chunks

-- so many chunks from a place on
abbrev chunks_from : ℕ → List ℕ → ℕ → ℕ → List ℕ
chunks_from size bytes place zero = []
chunks_from size bytes place (suc n) = chunk_at size bytes place ++ chunks_from size bytes (place + 1) n

module _ (size : ℕ) (bytes : List ℕ) where
  chunks_are : (n place : ℕ) → chunks_from size bytes place n ≡ take (n * size) (drop (place * size) bytes)
  chunks_are zero place = ap (λ m. take m (drop (place * size) bytes)) (let none : 0 ≡ 0 * size = omega arith in none)
  chunks_are (suc n) place =
      let next : place * size + size ≡ (place + 1) * size = grind arith in
      let more : size + n * size ≡ suc n * size = grind arith in
      let behind : drop ((place + 1) * size) bytes ≡ drop size (drop (place * size) bytes) =
      sym (drop-drop size (place * size) bytes ∙ ap (λ m. drop m bytes) next) in
      ap (λ (z : List ℕ). chunk_at size bytes place ++ z) (chunks_are n (place + 1) ∙ ap (take (n * size)) behind)
      ∙ sym (take-add size (n * size) (drop (place * size) bytes)) ∙ ap (λ m. take m (drop (place * size) bytes)) more

  pub all_chunks : 0 < size → chunks_from size bytes 0 (count_of size (length bytes)) ≡ bytes
  all_chunks some =
      let most = div_ceil_times (length bytes) size some in
      let sized : (size == 0) ≡ false = grind (arith, nat_tests) in
      let enough : length bytes ≤ count_of size (length bytes) * size = rw sized most.0 in
      chunks_are (count_of size (length bytes)) 0
      ∙ ap (λ m. take (count_of size (length bytes) * size) (drop m bytes)) (let none : 0 * size ≡ 0 = omega arith in none)
      ∙ take_all (count_of size (length bytes) * size) bytes enough

-- ---- pieces of an object

module _ (held : ChunkName → List ℕ) (sends : Piece → Bool) (size len column : ℕ) (bytes : List ℕ) (f : Awaited → List ℕ)
    (gives : (place l : ℕ) → f (record { column = column; place = place; len = l }) ≡ chunk_at size bytes place) where
  IsKept : List Piece → ℕ → Type 0
  IsKept pieces place = (i : ℕ) (piece : Piece) → slice_get pieces i ≡ Some piece → sends piece ≡ false → held_of held piece ≡ chunk_at size bytes (place + i)

  rest_kept : (piece : Piece) (pieces : List Piece) (place : ℕ) → IsKept (piece ∷ pieces) place → IsKept pieces (place + 1)
  unfolding IsKept
  rest_kept piece pieces place kept i p there not_sent = kept (suc i) p there not_sent ∙ ap (chunk_at size bytes) (omega arith)

  first_of : (piece : Piece) (pieces : List Piece) (place : ℕ) (more : List (List ℕ)) (b : Bool) → sends piece ≡ b → IsKept (piece ∷ pieces) place
      → object_joined held sends pieces (map f (awaited_in sends size len column (place + 1) pieces) ++ more) ≡ chunks_from size bytes (place + 1) (length pieces)
      → object_joined held sends (piece ∷ pieces) (map f (awaited_in sends size len column place (piece ∷ pieces)) ++ more) ≡ chunks_from size bytes place (suc (length pieces))
  unfolding IsKept
  first_of piece pieces place more true sent kept rest =
      rw sent (ap (λ (z : List ℕ). z ++ object_joined held sends pieces (map f (awaited_in sends size len column (place + 1) pieces) ++ more)) (gives place (len_at size len place))
      ∙ ap (λ (z : List ℕ). chunk_at size bytes place ++ z) rest)
  first_of piece pieces place more false not_sent kept rest =
      let here : held_of held piece ≡ chunk_at size bytes place = kept 0 piece refl not_sent ∙ ap (chunk_at size bytes) (omega arith) in
      rw not_sent (ap (λ (z : List ℕ). z ++ object_joined held sends pieces (map f (awaited_in sends size len column (place + 1) pieces) ++ more)) here
      ∙ ap (λ (z : List ℕ). chunk_at size bytes place ++ z) rest)

  object_from : (pieces : List Piece) (place : ℕ) (more : List (List ℕ)) → IsKept pieces place
      → object_joined held sends pieces (map f (awaited_in sends size len column place pieces) ++ more) ≡ chunks_from size bytes place (length pieces)
  object_from [] place more kept = refl
  object_from (piece ∷ pieces) place more kept =
      first_of piece pieces place more (sends piece) refl kept (object_from pieces (place + 1) more (rest_kept piece pieces place kept))

  first_behind : (piece : Piece) (pieces : List Piece) (place : ℕ) (more : List (List ℕ)) (b : Bool) → sends piece ≡ b
      → drop (count_by sends pieces) (map f (awaited_in sends size len column (place + 1) pieces) ++ more) ≡ more
      → drop (count_by sends (piece ∷ pieces)) (map f (awaited_in sends size len column place (piece ∷ pieces)) ++ more) ≡ more
  first_behind piece pieces place more true sent rest =
      let count : count_by sends (piece ∷ pieces) ≡ suc (count_by sends pieces) =
      sum_by-cons (λ (p : Piece). cond (sends p) 1 0) piece pieces ∙ ap (λ (b : Bool). cond b 1 0 + count_by sends pieces) sent ∙ omega arith in
      ap (λ n. drop n (map f (awaited_in sends size len column place (piece ∷ pieces)) ++ more)) count ∙ rw sent rest
  first_behind piece pieces place more false not_sent rest =
      let count : count_by sends (piece ∷ pieces) ≡ count_by sends pieces =
      sum_by-cons (λ (p : Piece). cond (sends p) 1 0) piece pieces ∙ ap (λ (b : Bool). cond b 1 0 + count_by sends pieces) not_sent ∙ omega arith in
      ap (λ n. drop n (map f (awaited_in sends size len column place (piece ∷ pieces)) ++ more)) count ∙ rw not_sent rest

  parts_behind : (pieces : List Piece) (place : ℕ) (more : List (List ℕ)) → drop (count_by sends pieces) (map f (awaited_in sends size len column place pieces) ++ more) ≡ more
  parts_behind [] place more = refl
  parts_behind (piece ∷ pieces) place more = first_behind piece pieces place more (sends piece) refl (parts_behind pieces (place + 1) more)

  whole_object : (object : PieceObject) (more : List (List ℕ)) → 0 < size → object.len ≡ len → ArePiecesOf held sends size object bytes
      → object_joined held sends object.pieces (map f (awaited_in sends size len column 0 object.pieces) ++ more) ≡ bytes
  unfolding IsKept
  whole_object object more some is h =
      let count : length object.pieces ≡ count_of size (length bytes) = eqb-true (length object.pieces) (count_of size object.len) h.full ∙ ap (count_of size) h.len in
      object_from object.pieces 0 more (λ i piece there not_sent. h.kept i piece there not_sent ∙ ap (chunk_at size bytes) (omega arith))
      ∙ ap (chunks_from size bytes 0) count ∙ all_chunks size bytes some

-- ---- objects

module _ (held : ChunkName → List ℕ) (sends : Piece → Bool) (size : ℕ) (some : 0 < size) (object_at : ℕ → List ℕ) where
  abbrev chunk_of : Awaited → List ℕ
  chunk_of it = chunk_at size (object_at it.column) it.place

  whole_objects : (objects : List PieceObject) (wholes : List (List ℕ)) (column : ℕ) → AllArePieces held sends size objects wholes
      → ((i : ℕ) → i < length wholes → object_at (column + i) ≡ get_or wholes i []) → objects_joined held sends objects (map chunk_of (awaited_from sends size column objects)) ≡ wholes
  whole_objects [] [] column all there = refl
  whole_objects [] (bytes ∷ wholes) column all there = absurd all
  whole_objects (object ∷ objects) [] column all there = absurd all
  whole_objects (object ∷ objects) (bytes ∷ wholes) column all there =
      let ones = awaited_in sends size object.len column 0 object.pieces in
      let others = awaited_from sends size (column + 1) objects in
      let split : map chunk_of (ones ++ others) ≡ map chunk_of ones ++ map chunk_of others = map-append chunk_of ones others in
      let here : object_at column ≡ bytes = ap object_at (omega arith) ∙ there 0 (omega arith) in
      let gives : (place l : ℕ) → chunk_of (record { column = column; place = place; len = l }) ≡ chunk_at size bytes place =
      λ place l. ap (λ (z : List ℕ). chunk_at size z place) here in
      let first : object_joined held sends object.pieces (map chunk_of ones ++ map chunk_of others) ≡ bytes =
      whole_object held sends size object.len column bytes chunk_of gives object (map chunk_of others) some refl all.0 in
      let left : drop (count_by sends object.pieces) (map chunk_of ones ++ map chunk_of others) ≡ map chunk_of others =
      parts_behind held sends size object.len column bytes chunk_of gives object.pieces 0 (map chunk_of others) in
      let rest : objects_joined held sends objects (map chunk_of others) ≡ wholes =
      whole_objects objects wholes (column + 1) all.1 (λ i h. ap object_at (omega arith) ∙ there (suc i) (omega (arith, h))) in
      ap (λ (z : List (List ℕ)). object_joined held sends object.pieces z ∷ objects_joined held sends objects (drop (count_by sends object.pieces) z)) split
      ∙ ap (λ (z : List ℕ). z ∷ objects_joined held sends objects (drop (count_by sends object.pieces) (map chunk_of ones ++ map chunk_of others))) first
      ∙ ap (λ (z : List (List ℕ)). bytes ∷ objects_joined held sends objects z) left
      ∙ ap (λ (z : List (List ℕ)). bytes ∷ z) rest

pub parts_whole : (held : ChunkName → List ℕ) (sends : Piece → Bool) (size : ℕ) (content : PieceContent) (whole : Content) → 0 < size → IsOf held sends size content whole
    → joined held sends content (parts_of sends size content whole) ≡ whole
parts_whole held sends size Gone contents.Gone some h = refl
parts_whole held sends size Gone (contents.Row same wholes) some h = absurd h
parts_whole held sends size (Row cells objects) contents.Gone some h = absurd h
parts_whole held sends size (Row cells objects) (contents.Row same wholes) some h =
    let objects_are = whole_objects held sends size some (λ column. get_or wholes (column - length same) []) objects wholes (length cells) h.1
    (λ i within. ap (λ n. get_or wholes n []) (let long : length cells ≡ length same = ap length h.0 in omega (arith, long))) in
    ap (λ (z : List (List ℕ)). contents.Row cells z) objects_are ∙ ap (λ (z : List Cell). contents.Row z wholes) h.0
