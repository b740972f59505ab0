-- The chunks of held contents whose lengths are right are the cut of their objects.
use Rattle.std.proofs.Common.{◌≡◌, ℕ, suc, ◌+◌, ◌*◌, ◌-◌, ◌<◌, ◌≤◌, Bool, true, false, List, [], ◌∷◌, length, map, Option, Some, None, min, refl, sym, ◌∙◌, ap, subst, arith, length-append}
use Rattle.std.specs.Prelude.{◌==◌, ◌&&◌, zip, option_map, IfSome}
use Rattle.std.specs.List.{list_all, AllByRecursion}
use Rattle.std.specs.Int.{div_ceil}
use Rattle.std.proofs.lemmas.Bool.{eqb-true}
use Rattle.std.proofs.lemmas.Bool.Decides.{nat_tests}
use Rattle.std.proofs.lemmas.Grind.{div_ceil_times}
use Rattle.stab_base.specs.declared.chunk_name.ChunkName.{ChunkName}
use Rattle.row_value.specs.declared.content.Content.{Content}
use Rattle.row_value.specs.declared.pieces.Piece.{Piece}
use Rattle.chunker.specs.Cut.{HaveSize}
use Rattle.chunker.specs.Sized.{count_of, len_at}
use Rattle.chunker.proofs.Cuts.{one_cut}
use Rattle.held_value.specs.declared.local_name.LocalName.{LocalName}
use Rattle.held_value.specs.declared.content.HeldPiece.{HeldPiece}
use Rattle.held_value.specs.declared.content.HeldObject.{HeldObject}
use Rattle.held_value.specs.declared.content.HeldContent.{HeldContent}
use Rattle.held_value.specs.declared.content.HeldContent.TheVariants.{Gone, Row}
use Rattle.held_value.specs.declared.slots.Shadow.{Shadow}
use Rattle.client_journal.specs.Names.{names_of_objects, names_of}
use Rattle.client_journal.specs.There.{lens_from, has_lens}
use Rattle.step_tables.specs.Chunks.{cut, each_chunk, flat, objects_of, all_against}
use Rattle.step_tables.specs.ClientMoves.{chunks_read}
use Rattle.journal_laws.specs.Whole.{whole_object, whole, whole_shadow, names_in_objects, pieces_by, HasLen}
use Rattle.journal_laws.specs.Moves.{Spells}
use Rattle.journal_laws.proofs.Transitions.{names_count}
use Rattle.row_pieces.proofs.Cuts.{cut_is}
use Rattle.held_contents.specs.Reading.{with_bytes, objects_with_bytes, chunks_in, chunks_shown, content_read}
use Rattle.held_contents.specs.Request.{known_of, known_in, bytes_of, bytes_in, request_pieces, AreCutBy}
use Rattle.held_contents.proofs.Spellings.{AreAsMany, split_again}

both_true : (a b : Bool) → (a && b) ≡ true → (a ≡ true) × (b ≡ true)
both_true true b h = (refl, h)
both_true false b h = absurd cc

module _ (meaning : LocalName → List ℕ) (size : ℕ) (some : 0 < size) where
  abbrev bytes_held : List HeldPiece → List (List ℕ)
  bytes_held ps = map (λ (piece : HeldPiece). meaning piece.local) ps

  -- the last of so many places, and one before it
  last_len : (len place n : ℕ) → n ≡ min size (len - place * size) → (place + 1) * size < len + size → (0 < n) × (n ≤ size)
  last_len len place n is lt = let more : (place + 1) * size ≡ place * size + size = grind arith in (omega (arith, is, lt, more, some), omega (arith, is))

  other_len : (len place n k : ℕ) → n ≡ min size (len - place * size) → (place + (k + 2)) * size < len + size → n ≡ size
  other_len len place n k is lt = let more : (place + (k + 2)) * size ≡ place * size + (k * size + (size + size)) = grind arith in omega (arith, is, lt, more)

  sizes_from : (len place : ℕ) (ps : List HeldPiece) → lens_from (λ name. Some (meaning name)) size len place ps ≡ true → (place + length ps) * size < len + size → HaveSize size (bytes_held ps)
  sizes_from len place [] h lt = tt
  sizes_from len place (p ∷ []) h lt =
      let here = both_true (length (meaning p.local) == len_at size len place) (lens_from (λ name. Some (meaning name)) size len (place + 1) []) h in
      last_len len place (length (meaning p.local)) (eqb-true (length (meaning p.local)) (len_at size len place) here.0) lt
  sizes_from len place (p ∷ q ∷ ps) h lt =
      let here = both_true (length (meaning p.local) == len_at size len place) (lens_from (λ name. Some (meaning name)) size len (place + 1) (q ∷ ps)) h in
      let count : place + length (p ∷ q ∷ ps) ≡ place + (length ps + 2) = omega arith in
      let next : place + length (p ∷ q ∷ ps) ≡ (place + 1) + length (q ∷ ps) = omega arith in (
        other_len len place (length (meaning p.local)) (length ps) (eqb-true (length (meaning p.local)) (len_at size len place) here.0) (subst (λ (n : ℕ). n * size < len + size) count lt),
        sizes_from len (place + 1) (q ∷ ps) here.1 (subst (λ (n : ℕ). n * size < len + size) next lt),
      )

  object_cut : (o : HeldObject) → HasLen meaning o → has_lens (λ name. Some (meaning name)) size o ≡ true → cut size (whole_object meaning o) ≡ bytes_held o.pieces
  object_cut o len h =
      let both = both_true (length o.pieces == count_of size o.len) (lens_from (λ name. Some (meaning name)) size o.len 0 o.pieces) h in
      let sized : (size == 0) ≡ false = grind (arith, nat_tests) in
      let counted : count_of size o.len ≡ div_ceil o.len size = rw sized refl in
      let right : length o.pieces ≡ div_ceil o.len size = eqb-true (length o.pieces) (count_of size o.len) both.0 ∙ counted in
      let count : 0 + length o.pieces ≡ div_ceil o.len size = omega (arith, right) in
      let sizes = sizes_from o.len 0 o.pieces both.1 (subst (λ (n : ℕ). n * size < o.len + size) (sym count) (div_ceil_times o.len size some).1) in
      one_cut size (whole_object meaning o) (cut size (whole_object meaning o)) (bytes_held o.pieces) some (cut_is size (whole_object meaning o) some) (record { whole = refl; sizes = sizes })

  bytes_with : (ps : List HeldPiece) → bytes_held ps ≡ bytes_of (with_bytes meaning ps)
  bytes_with [] = refl
  bytes_with (p ∷ ps) = ap (λ (l : List (List ℕ)). meaning p.local ∷ l) (bytes_with ps)

  zipped : (ps : List HeldPiece) → zip (map (λ (piece : HeldPiece). piece.name) ps) (bytes_held ps) ≡ known_of (with_bytes meaning ps)
  zipped [] = refl
  zipped (p ∷ ps) = ap (λ (l : List (Option ChunkName × List ℕ)). (p.name, meaning p.local) ∷ l) (zipped ps)

  abbrev RightLens : List HeldObject → Type 0
  RightLens os = AllByRecursion (HasLen meaning) os × (list_all (has_lens (λ name. Some (meaning name)) size) os ≡ true)

  parts : (o : HeldObject) (os : List HeldObject) → RightLens (o ∷ os) → (cut size (whole_object meaning o) ≡ bytes_held o.pieces) × RightLens os
  parts o os h =
      let both = both_true (has_lens (λ name. Some (meaning name)) size o) (list_all (has_lens (λ name. Some (meaning name)) size) os) h.1 in
      (object_cut o h.0.0 both.0, (h.0.1, both.1))

  objects_cut : (os : List HeldObject) → RightLens os → map (cut size) (map (whole_object meaning) os) ≡ bytes_in (objects_with_bytes meaning os)
  objects_cut [] h = refl
  objects_cut (o ∷ os) h =
      let p = parts o os h in
      ap (λ (l : List (List ℕ)). l ∷ map (cut size) (map (whole_object meaning) os)) (p.0 ∙ bytes_with o.pieces) ∙ ap (λ (l : List (List (List ℕ))). bytes_of (with_bytes meaning o.pieces) ∷ l) (objects_cut os p.1)

  objects_read : (os : List HeldObject) → RightLens os → each_chunk size (names_in_objects os) (map (whole_object meaning) os) ≡ known_in (objects_with_bytes meaning os)
  objects_read [] h = refl
  objects_read (o ∷ os) h =
      let p = parts o os h in
      ap (λ (l : List (List ℕ)). zip (map (λ (piece : HeldPiece). piece.name) o.pieces) l ∷ each_chunk size (names_in_objects os) (map (whole_object meaning) os)) p.0
      ∙ (ap (λ (l : List (Option ChunkName × List ℕ)). l ∷ each_chunk size (names_in_objects os) (map (whole_object meaning) os)) (zipped o.pieces)
      ∙ ap (λ (l : List (List (Option ChunkName × List ℕ))). known_of (with_bytes meaning o.pieces) ∷ l) (objects_read os p.1))

  pub content_cut : (held : HeldContent) → AreCutBy meaning size held → map (cut size) (objects_of (whole meaning held)) ≡ bytes_in (chunks_in meaning held)
  content_cut Gone h = refl
  content_cut (Row cells objects) h = objects_cut objects h

  pub shadow_read : (shadow : Option Shadow) → IfSome shadow (λ read. AreCutBy meaning size read.content)
      → chunks_read size (option_map (whole_shadow meaning) shadow) ≡ known_in (chunks_shown meaning (content_read shadow))
  shadow_read None h = refl
  shadow_read (Some shadow) h = read shadow.content h
    where
      read : (held : HeldContent) → AreCutBy meaning size held → chunks_read size (Some (whole_shadow meaning (record { version = shadow.version; content = held }))) ≡ known_in (chunks_in meaning held)
      read Gone h = refl
      read (Row cells objects) h = objects_read objects h

-- ---- counts

module _ (meaning : LocalName → List ℕ) where
  many : (ps : List HeldPiece) → length (bytes_of (with_bytes meaning ps)) ≡ length ps
  many [] = refl
  many (p ∷ ps) = ap suc (many ps)

  objects_count : (os : List HeldObject) → length (flat (bytes_in (objects_with_bytes meaning os))) ≡ length (names_of_objects os)
  objects_count [] = refl
  objects_count (o ∷ os) =
      length-append (bytes_of (with_bytes meaning o.pieces)) (flat (bytes_in (objects_with_bytes meaning os))) ∙ omega (arith, many o.pieces, objects_count os, names_count o os)

  pub content_count : (held : HeldContent) → length (flat (bytes_in (chunks_in meaning held))) ≡ length (names_of held)
  content_count Gone = refl
  content_count (Row cells objects) = objects_count objects

  as_many : (os : List HeldObject) → AreAsMany os (bytes_in (objects_with_bytes meaning os))
  as_many [] = tt
  as_many (o ∷ os) = (sym (many o.pieces), as_many os)

  pub pieces_again : (held : HeldContent) (old : List (List (Option ChunkName × List ℕ))) → pieces_by held (flat (all_against 0 old (bytes_in (chunks_in meaning held)))) ≡ all_against 0 old (bytes_in (chunks_in meaning held))
  pieces_again Gone old = refl
  pieces_again (Row cells objects) old = split_again objects 0 old (bytes_in (objects_with_bytes meaning objects)) (as_many objects)

-- ---- spelled

pub held_spelled : (meaning : LocalName → List ℕ) (size : ℕ) (shadow : Option Shadow) (held : HeldContent) (pieces : List Piece) → 0 < size → IfSome shadow (λ read. AreCutBy meaning size read.content)
    → AreCutBy meaning size held → pieces ≡ request_pieces (chunks_shown meaning (content_read shadow)) (bytes_in (chunks_in meaning held)) → Spells meaning size shadow held pieces
held_spelled meaning size shadow held pieces some read now is =
    let old : List (List (Option ChunkName × List ℕ)) = known_in (chunks_shown meaning (content_read shadow)) in
    ap (pieces_by held) is
    ∙ (pieces_again meaning held old
    ∙ (ap (λ (l : List (List (List ℕ))). all_against 0 old l) (sym (content_cut meaning size some held now))
    ∙ ap (λ (o : List (List (Option ChunkName × List ℕ))). all_against 0 o (map (cut size) (objects_of (whole meaning held)))) (sym (shadow_read meaning size some shadow read))))

pub content_spelled : (meaning : LocalName → List ℕ) (size : ℕ) (shadow : Option Shadow) (held : HeldContent) (content : Content) (pieces : List Piece) → 0 < size
    → IfSome shadow (λ read. AreCutBy meaning size read.content) → AreCutBy meaning size held → whole meaning held ≡ content
    → pieces ≡ request_pieces (chunks_shown meaning (content_read shadow)) (map (cut size) (objects_of content)) → Spells meaning size shadow held pieces
content_spelled meaning size shadow held content pieces some read now whole_is is =
    held_spelled meaning size shadow held pieces some read now
    (is ∙ ap (request_pieces (chunks_shown meaning (content_read shadow))) (ap (λ (c : Content). map (cut size) (objects_of c)) (sym whole_is) ∙ content_cut meaning size some held now))

pub cut_count_held : (meaning : LocalName → List ℕ) (size : ℕ) (held : HeldContent) (content : Content) → 0 < size → AreCutBy meaning size held → whole meaning held ≡ content
    → length (flat (map (cut size) (objects_of content))) ≡ length (names_of held)
cut_count_held meaning size held content some now is =
    ap (λ (c : Content). length (flat (map (cut size) (objects_of c)))) (sym is) ∙ (ap (λ (l : List (List (List ℕ))). length (flat l)) (content_cut meaning size some held now) ∙ content_count meaning held)
