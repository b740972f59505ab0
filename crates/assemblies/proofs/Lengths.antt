-- The chunks of an object stand at their places, and have the lengths that are awaited.
use Rattle.std.proofs.Common.{true, false, ◌≡◌, ℕ, zero, suc, ◌+◌, ◌*◌, ◌-◌, ◌<◌, Bool, List, [], ◌∷◌, ◌++◌, length, get_or, take, drop, Some, None, min, sym, ap, ◌∙◌, arith}
use Rattle.std.specs.Prelude.{slice_get, if◌then◌else◌}
use Rattle.std.specs.List.{concat, AllByRecursion}
use Rattle.std.proofs.Math.Seq.{take-append_seam, drop-append_seam}
use Rattle.std.proofs.lemmas.List.{append-nil, take_all, drop-drop, length-take, length-drop}
use Rattle.stab_base.specs.declared.chunk_name.ChunkName.{ChunkName}
use Rattle.row_value.specs.declared.content.Content.{Content}
use Rattle.row_value.specs.declared.content.Content.TheVariants as contents
use Rattle.row_value.specs.declared.pieces.Piece.{Piece}
use Rattle.row_value.specs.declared.pieces.PieceObject.{PieceObject}
use Rattle.row_value.specs.declared.pieces.PieceContent.{PieceContent}
use Rattle.row_value.specs.declared.pieces.PieceContent.TheVariants.{Gone, Row}
use Rattle.chunker.specs.Cut.{HaveSize, IsCut}
use Rattle.chunker.specs.Sized.{len_at}
use Rattle.assemblies.specs.declared.awaiting.Awaited.{Awaited}
use Rattle.assemblies.specs.Places.{awaited_in, awaited_from, awaited_of}
use Rattle.assemblies.specs.Parts.{chunk_at, HasItsLen, AllArePieces, IsOf}
use Rattle.assemblies.proofs.Listing.{all-append}

-- ---- chunks that an object was cut into

same_chunk : (a b : List ℕ) → Some a ≡ Some b → a ≡ b
same_chunk a b e = cc

-- at the front
front_at : (size : ℕ) (object : List ℕ) → chunk_at size object 0 ≡ take size object
front_at size object = ap (λ n. take size (drop n object)) (let none : 0 * size ≡ 0 = omega arith in none)

-- behind one chunk of the size
behind_at : (size : ℕ) (chunk rest : List ℕ) (place : ℕ) → length chunk ≡ size → chunk_at size (chunk ++ rest) (suc place) ≡ chunk_at size rest place
behind_at size chunk rest place full =
    let more : suc place * size ≡ length chunk + place * size = (let times : suc place * size ≡ place * size + size = grind arith in omega (arith, times, full)) in
    ap (λ n. take size (drop n (chunk ++ rest))) more ∙ ap (take size) (sym (drop-drop (place * size) (length chunk) (chunk ++ rest)))
    ∙ ap (λ (z : List ℕ). take size (drop (place * size) z)) (drop-append_seam chunk rest)

at_place : (size : ℕ) (chunks : List (List ℕ)) (place : ℕ) (chunk : List ℕ) → HaveSize size chunks → slice_get chunks place ≡ Some chunk → chunk ≡ chunk_at size (concat chunks) place
at_place size [] place chunk h is = absurd (let bad : None ≡ Some chunk = is in cc)
at_place size (x ∷ []) zero chunk h is =
    sym (same_chunk x chunk is) ∙ sym (front_at size (x ++ []) ∙ ap (take size) (append-nil x) ∙ take_all size x h.1)
at_place size (x ∷ []) (suc place) chunk h is = absurd (let bad : None ≡ Some chunk = is in cc)
at_place size (x ∷ y ∷ chunks) zero chunk h is =
    sym (same_chunk x chunk is) ∙ sym (front_at size (x ++ concat (y ∷ chunks)) ∙ ap (λ n. take n (x ++ concat (y ∷ chunks))) (sym h.0) ∙ take-append_seam x (concat (y ∷ chunks)))
at_place size (x ∷ y ∷ chunks) (suc place) chunk h is = at_place size (y ∷ chunks) place chunk h.1 is ∙ sym (behind_at size x (concat (y ∷ chunks)) place h.0)

pub chunk_is_at : (size : ℕ) (object : List ℕ) (chunks : List (List ℕ)) (place : ℕ) (chunk : List ℕ) → IsCut size object chunks → slice_get chunks place ≡ Some chunk → chunk ≡ chunk_at size object place
chunk_is_at size object chunks place chunk cut is = at_place size chunks place chunk cut.sizes is ∙ ap (λ (o : List ℕ). chunk_at size o place) cut.whole

-- ---- the lengths that are awaited

chunk_len : (size : ℕ) (bytes : List ℕ) (place : ℕ) → length (chunk_at size bytes place) ≡ len_at size (length bytes) place
chunk_len size bytes place = length-take size (drop (place * size) bytes) ∙ ap (min size) (length-drop (place * size) bytes)

module _ (sends : Piece → Bool) (size : ℕ) (object_at : ℕ → List ℕ) where
  abbrev HasLen : Awaited → Type 0
  HasLen it = length (chunk_at size (object_at it.column) it.place) ≡ it.len

  module _ (len column : ℕ) (is : len ≡ length (object_at column)) where
    one_len : (place : ℕ) (pieces : List Piece) (b : Bool) → AllByRecursion HasLen (awaited_in sends size len column (place + 1) pieces)
        → AllByRecursion HasLen (if b then record { column = column; place = place; len = len_at size len place } ∷ awaited_in sends size len column (place + 1) pieces
        else awaited_in sends size len column (place + 1) pieces)
    one_len place pieces true behind = (chunk_len size (object_at column) place ∙ ap (λ n. len_at size n place) (sym is), behind)
    one_len place pieces false behind = behind

    lens_in : (place : ℕ) (pieces : List Piece) → AllByRecursion HasLen (awaited_in sends size len column place pieces)
    lens_in place [] = tt
    lens_in place (piece ∷ pieces) = one_len place pieces (sends piece) (lens_in (place + 1) pieces)

  lens_from : (held : ChunkName → List ℕ) (objects : List PieceObject) (wholes : List (List ℕ)) (column : ℕ) → AllArePieces held sends size objects wholes
      → ((i : ℕ) → i < length wholes → object_at (column + i) ≡ get_or wholes i []) → AllByRecursion HasLen (awaited_from sends size column objects)
  lens_from held [] wholes column all there = tt
  lens_from held (object ∷ objects) [] column all there = absurd all
  lens_from held (object ∷ objects) (bytes ∷ wholes) column all there =
      let here : object_at column ≡ bytes = ap object_at (omega arith) ∙ there 0 (omega arith) in
      all-append HasLen (awaited_in sends size object.len column 0 object.pieces) (awaited_from sends size (column + 1) objects)
      (lens_in object.len column (all.0.len ∙ ap length (sym here)) 0 object.pieces)
      (lens_from held objects wholes (column + 1) all.1 (λ i h. ap object_at (omega arith) ∙ there (suc i) (omega (arith, h))))

pub lens_of : (held : ChunkName → List ℕ) (sends : Piece → Bool) (size : ℕ) (content : PieceContent) (whole : Content) → IsOf held sends size content whole
    → AllByRecursion (HasItsLen size whole) (awaited_of sends size content)
lens_of held sends size Gone whole h = tt
lens_of held sends size (Row cells objects) contents.Gone h = absurd h
lens_of held sends size (Row cells objects) (contents.Row same wholes) h =
    lens_from sends size (λ column. get_or wholes (column - length same) []) held objects wholes (length cells) h.1
    (λ i within. ap (λ n. get_or wholes n []) (let long : length cells ≡ length same = ap length h.0 in omega (arith, long)))
