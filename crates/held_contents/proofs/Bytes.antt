-- What new contents stand for: the bytes of their chunks, and the lengths of these.
use Rattle.std.proofs.Common.{◌≡◌, ℕ, suc, ◌+◌, ◌<◌, ◌≤◌, Bool, true, List, [], ◌∷◌, ◌++◌, length, map, drop, Option, Some, None, refl, sym, ◌∙◌, ap, arith, append_assoc, length-append}
use Rattle.std.specs.Prelude.{◌==◌, ◌&&◌, slice_get}
use Rattle.std.specs.List.{concat, list_all, AllByRecursion}
use Rattle.std.proofs.lemmas.Bool.Decides.{nat_tests}
use Rattle.std.proofs.lemmas.List.{length-map}
use Rattle.stab_base.specs.declared.chunk_name.ChunkName.{ChunkName}
use Rattle.chunker.specs.Cut.{HaveSize, IsCut}
use Rattle.chunker.specs.Sized.{count_of, len_at}
use Rattle.chunker.proofs.Cuts.{count_is}
use Rattle.chunker.proofs.Places.{its_len}
use Rattle.held_value.specs.declared.local_name.LocalName.{LocalName}
use Rattle.held_value.specs.declared.content.HeldPiece.{HeldPiece}
use Rattle.client_tables.specs.Held.{kept_in, brought_for, held_pieces, brought}
use Rattle.client_journal.specs.Agenda.{meaning_with}
use Rattle.client_journal.specs.Plan.{numbered_piece}
use Rattle.client_journal.specs.There.{lens_from, has_lens}
use Rattle.journal_laws.specs.Whole.{whole_object, HasLen}
use Rattle.journal_laws.specs.Moves.{plan_meaning, AreShownChunks, object_of}
use Rattle.journal_laws.proofs.Brought.{chunks_held}
use Rattle.held_contents.specs.Holding.{first_shown, brought_of, held_objects, AreShown}

-- ---- what is shown

pub first_is : (meaning : LocalName → List ℕ) (number : ℕ) (shown : List (List (HeldPiece × List ℕ))) → AreShown meaning number shown → AreShownChunks meaning number (first_shown shown)
first_is meaning number [] h = tt
first_is meaning number (object ∷ shown) h = h.0

pub rest_is : (meaning : LocalName → List ℕ) (number : ℕ) (shown : List (List (HeldPiece × List ℕ))) → AreShown meaning number shown → AreShown meaning number (drop 1 shown)
rest_is meaning number [] h = tt
rest_is meaning number (object ∷ shown) h = h.1

-- ---- one object

-- the bytes of chunks
abbrev pub bytes_given : List (Option ChunkName × List ℕ) → List (List ℕ)
bytes_given chunks = map (λ (chunk : Option ChunkName × List ℕ). chunk.1) chunks

pub as_many : (shown : List (HeldPiece × List ℕ)) (chunks : List (Option ChunkName × List ℕ)) (next : ℕ) → length (held_pieces shown chunks next) ≡ length chunks
as_many shown [] next = refl
as_many shown (chunk ∷ chunks) next = ap suc (as_many (drop 1 shown) chunks _)

few_for : (bytes : List ℕ) (k : Option HeldPiece) → length (brought_for bytes k) ≤ 1
few_for bytes None = omega arith
few_for bytes (Some kept) = omega arith

-- no more chunks are brought than there are
pub no_more : (shown : List (HeldPiece × List ℕ)) (chunks : List (Option ChunkName × List ℕ)) → length (brought shown chunks) ≤ length chunks
no_more shown [] = omega arith
no_more shown (chunk ∷ chunks) =
    omega (arith, few_for chunk.1 (kept_in shown chunk.1), no_more (drop 1 shown) chunks, length-append (brought_for chunk.1 (kept_in shown chunk.1)) (brought (drop 1 shown) chunks))

module _ (meaning : LocalName → List ℕ) (number : ℕ) (all : List (List ℕ)) where
  abbrev stands : LocalName → List ℕ
  stands = plan_meaning meaning number all

  abbrev bytes_in : List HeldPiece → List (List ℕ)
  bytes_in ps = map (λ (piece : HeldPiece). stands piece.local) ps

  as_numbered : (ps : List HeldPiece) → bytes_in ps ≡ map (λ (piece : HeldPiece). meaning_with meaning number all piece.local) (map (numbered_piece number) ps)
  as_numbered [] = refl
  as_numbered (p ∷ ps) = ap (λ (l : List (List ℕ)). stands p.local ∷ l) (as_numbered ps)

  pub pieces_bytes : (shown : List (HeldPiece × List ℕ)) (chunks : List (Option ChunkName × List ℕ)) (next : ℕ) (before behind : List (List ℕ)) → AreShownChunks meaning number shown
      → all ≡ before ++ (brought shown chunks ++ behind) → next ≡ length before
      → bytes_in (held_pieces shown chunks next) ≡ bytes_given chunks
  pieces_bytes shown chunks next before behind h is at =
      as_numbered (held_pieces shown chunks next) ∙ chunks_held meaning number all shown chunks next before behind h is at

  lens_are : (size len : ℕ) (ps : List HeldPiece) (cs : List (List ℕ)) (place : ℕ) → bytes_in ps ≡ cs → ((k : ℕ) (c : List ℕ) → slice_get cs k ≡ Some c → length c ≡ len_at size len (place + k))
      → lens_from (λ name. Some (stands name)) size len place ps ≡ true
  lens_are size len [] cs place is each = refl
  lens_are size len (p ∷ ps) [] place is each = absurd cc
  lens_are size len (p ∷ ps) (c ∷ cs) place is each =
      let head : stands p.local ≡ c = cc in
      let tail : bytes_in ps ≡ cs = cc in
      let here : length (stands p.local) ≡ len_at size len place = ap length head ∙ (each 0 c refl ∙ ap (len_at size len) (omega arith)) in
      let test : (length (stands p.local) == len_at size len place) ≡ true = grind (arith, nat_tests) in
      let more : lens_from (λ name. Some (stands name)) size len (place + 1) ps ≡ true =
      lens_are size len ps cs (place + 1) tail (λ k c there. each (suc k) c there ∙ ap (len_at size len) (omega arith)) in
      ap (λ (b : Bool). b && lens_from (λ name. Some (stands name)) size len (place + 1) ps) test ∙ more

  -- ---- all objects

  module _ (size : ℕ) (some : 0 < size) where
    next_shown : (shown : List (List (HeldPiece × List ℕ))) (chunks : List (Option ChunkName × List ℕ)) (cuts : List (List (Option ChunkName × List ℕ))) (before : List (List ℕ))
        → all ≡ before ++ brought_of shown (chunks ∷ cuts) → all ≡ (before ++ brought (first_shown shown) chunks) ++ brought_of (drop 1 shown) cuts
    next_shown shown chunks cuts before is = is ∙ sym (append_assoc before (brought (first_shown shown) chunks) (brought_of (drop 1 shown) cuts))

    next_at : (shown : List (List (HeldPiece × List ℕ))) (chunks : List (Option ChunkName × List ℕ)) (next : ℕ) (before : List (List ℕ)) → next ≡ length before
        → next + length (brought (first_shown shown) chunks) ≡ length (before ++ brought (first_shown shown) chunks)
    next_at shown chunks next before at = omega (arith, at, length-append before (brought (first_shown shown) chunks))

    pub objects_bytes : (shown : List (List (HeldPiece × List ℕ))) (cuts : List (List (Option ChunkName × List ℕ))) (next : ℕ) (before : List (List ℕ)) → AreShown meaning number shown
        → all ≡ before ++ brought_of shown cuts → next ≡ length before
        → map (whole_object stands) (held_objects shown cuts next) ≡ map object_of cuts
    objects_bytes shown [] next before h is at = refl
    objects_bytes shown (chunks ∷ cuts) next before h is at =
        let first = pieces_bytes (first_shown shown) chunks next before (brought_of (drop 1 shown) cuts) (first_is meaning number shown h) is at in
        let rest = objects_bytes (drop 1 shown) cuts (next + length (brought (first_shown shown) chunks)) (before ++ brought (first_shown shown) chunks)
        (rest_is meaning number shown h) (next_shown shown chunks cuts before is) (next_at shown chunks next before at) in
        ap (λ (l : List (List ℕ)). concat l ∷ map (whole_object stands) (held_objects (drop 1 shown) cuts (next + length (brought (first_shown shown) chunks)))) first
        ∙ ap (λ (l : List (List ℕ)). object_of chunks ∷ l) rest

    pub objects_lens : (shown : List (List (HeldPiece × List ℕ))) (cuts : List (List (Option ChunkName × List ℕ))) (next : ℕ) (before : List (List ℕ)) → AreShown meaning number shown
        → all ≡ before ++ brought_of shown cuts → next ≡ length before
        → AllByRecursion (HasLen stands) (held_objects shown cuts next)
    objects_lens shown [] next before h is at = tt
    objects_lens shown (chunks ∷ cuts) next before h is at = (
      ap (λ (l : List (List ℕ)). length (concat l)) (sym (pieces_bytes (first_shown shown) chunks next before (brought_of (drop 1 shown) cuts) (first_is meaning number shown h) is at)),
      objects_lens (drop 1 shown) cuts (next + length (brought (first_shown shown) chunks)) (before ++ brought (first_shown shown) chunks)
          (rest_is meaning number shown h) (next_shown shown chunks cuts before is) (next_at shown chunks next before at),
    )

    object_places : (shown : List (List (HeldPiece × List ℕ))) (chunks : List (Option ChunkName × List ℕ)) (next : ℕ) (before behind : List (List ℕ)) → AreShown meaning number shown → HaveSize size (bytes_given chunks)
        → all ≡ before ++ (brought (first_shown shown) chunks ++ behind) → next ≡ length before
        → has_lens (λ name. Some (stands name)) size (record { len = length (object_of chunks); pieces = held_pieces (first_shown shown) chunks next }) ≡ true
    object_places shown chunks next before behind h sizes is at =
        let ps : List HeldPiece = held_pieces (first_shown shown) chunks next in
        let len : ℕ = length (object_of chunks) in
        let cut : IsCut size (object_of chunks) (bytes_given chunks) = record { whole = refl; sizes = sizes } in
        let count : length ps ≡ count_of size len =
        as_many (first_shown shown) chunks next ∙ (sym (length-map chunks (λ (chunk : Option ChunkName × List ℕ). chunk.1)) ∙ count_is size some (bytes_given chunks) sizes) in
        let test : (length ps == count_of size len) ≡ true = ap (λ (n : ℕ). n == count_of size len) count ∙ itself (count_of size len) in
        let lens = lens_are size len ps (bytes_given chunks) 0 (pieces_bytes (first_shown shown) chunks next before behind (first_is meaning number shown h) is at)
        (λ k c there. its_len size (object_of chunks) (bytes_given chunks) k c some cut there ∙ ap (len_at size len) (omega arith)) in
        ap (λ (b : Bool). b && lens_from (λ name. Some (stands name)) size len 0 ps) test ∙ lens
      where
        itself : (n : ℕ) → (n == n) ≡ true
        itself n = grind (arith, nat_tests)

    pub objects_places : (shown : List (List (HeldPiece × List ℕ))) (cuts : List (List (Option ChunkName × List ℕ))) (next : ℕ) (before : List (List ℕ)) → AreShown meaning number shown → AllByRecursion (λ (chunks : List (Option ChunkName × List ℕ)). HaveSize size (bytes_given chunks)) cuts
        → all ≡ before ++ brought_of shown cuts → next ≡ length before
        → list_all (has_lens (λ name. Some (stands name)) size) (held_objects shown cuts next) ≡ true
    objects_places shown [] next before h sizes is at = refl
    objects_places shown (chunks ∷ cuts) next before h sizes is at =
        let first = object_places shown chunks next before (brought_of (drop 1 shown) cuts) h sizes.0 is at in
        let rest = objects_places (drop 1 shown) cuts (next + length (brought (first_shown shown) chunks)) (before ++ brought (first_shown shown) chunks)
        (rest_is meaning number shown h) sizes.1 (next_shown shown chunks cuts before is) (next_at shown chunks next before at) in
        ap (λ (b : Bool). b && list_all (has_lens (λ name. Some (stands name)) size) (held_objects (drop 1 shown) cuts (next + length (brought (first_shown shown) chunks)))) first ∙ rest

-- ---- the chunks that are brought

module _ (size : ℕ) where
  abbrev AreSmall : List (List ℕ) → Type 0
  AreSmall chunks = AllByRecursion (λ bytes. length bytes ≤ size) chunks

  small_cut : (chunks : List (List ℕ)) → HaveSize size chunks → AreSmall chunks
  small_cut [] h = tt
  small_cut (chunk ∷ []) h = (h.1, tt)
  small_cut (chunk ∷ next ∷ chunks) h = (omega (arith, h.0), small_cut (next ∷ chunks) h.1)

  both_small : (xs ys : List (List ℕ)) → AreSmall xs → AreSmall ys → AreSmall (xs ++ ys)
  both_small [] ys a b = b
  both_small (x ∷ xs) ys a b = (a.0, both_small xs ys a.1 b)

  small_for : (bytes : List ℕ) (k : Option HeldPiece) → length bytes ≤ size → AreSmall (brought_for bytes k)
  small_for bytes None le = (le, tt)
  small_for bytes (Some kept) le = tt

  small_brought : (shown : List (HeldPiece × List ℕ)) (chunks : List (Option ChunkName × List ℕ)) → AreSmall (bytes_given chunks) → AreSmall (brought shown chunks)
  small_brought shown [] h = tt
  small_brought shown (chunk ∷ chunks) h = both_small (brought_for chunk.1 (kept_in shown chunk.1)) _ (small_for chunk.1 (kept_in shown chunk.1) h.0) (small_brought (drop 1 shown) chunks h.1)

  pub all_small : (shown : List (List (HeldPiece × List ℕ))) (cuts : List (List (Option ChunkName × List ℕ))) → AllByRecursion (λ (chunks : List (Option ChunkName × List ℕ)). HaveSize size (bytes_given chunks)) cuts
      → AreSmall (brought_of shown cuts)
  all_small shown [] h = tt
  all_small shown (chunks ∷ cuts) h =
      both_small (brought (first_shown shown) chunks) _ (small_brought (first_shown shown) chunks (small_cut (bytes_given chunks) h.0)) (all_small (drop 1 shown) cuts h.1)
