-- A content under other local names, which stand for the same chunks.
use Rattle.std.proofs.Common.{◌≡◌, ⊎_elim, ℕ, ◌+◌, Bool, List, [], ◌∷◌, ◌++◌, length, map, Option, Some, refl, sym, ◌∙◌, ap, subst, arith}
use Rattle.std.specs.Prelude.{◌&&◌, ◌==◌, is_ok, replicate}
use Rattle.std.specs.List.{concat, list_all, AllByRecursion}
use Rattle.std.proofs.lemmas.List.{length-map}
use Rattle.stab_base.specs.declared.chunk_name.ChunkName.{ChunkName}
use Rattle.row_value.specs.declared.content.Content.TheVariants as contents
use Rattle.row_value.specs.declared.schema.Schema.{Schema}
use Rattle.row_value.specs.Fit.{fit_of}
use Rattle.chunker.specs.Sized.{count_of, len_at}
use Rattle.held_value.specs.declared.local_name.LocalName.{LocalName}
use Rattle.held_value.specs.declared.content.HeldPiece.{HeldPiece}
use Rattle.held_value.specs.declared.content.HeldObject.{HeldObject}
use Rattle.held_value.specs.declared.content.HeldContent.{HeldContent}
use Rattle.held_value.specs.declared.content.HeldContent.TheVariants as held_as
use Rattle.held_codec.specs.Spelling.{HasLocalSpelling, HasHeldPiece, HasHeldObject, HasHeld}
use Rattle.client_journal.specs.Names.{Has, names_of_pieces, names_of_objects, names_of}
use Rattle.client_journal.specs.There.{has_len, lens_from, has_lens, all_lens, zeros_for, fits_by_len}
use Rattle.client_journal.proofs.Lookups.{has_cases, has_head, has_tail}
use Rattle.client_journal.proofs.Wholes.{has_left, has_right}
use Rattle.journal_laws.specs.Whole.{whole_object, whole, HasLen, HaveLens, names_in_objects, names_known}
use Rattle.held_contents.proofs.Pieces.{AreOnce}
use Rattle.kept_chunks.specs.Kept.{piece_under, object_under, content_under}

module _ (f : LocalName → LocalName) where
  -- ---- its names

  names_joined : (a b : List LocalName) → map f (a ++ b) ≡ map f a ++ map f b
  names_joined [] b = refl
  names_joined (x ∷ a) b = ap (λ (l : List LocalName). f x ∷ l) (names_joined a b)

  pieces_names : (ps : List HeldPiece) → names_of_pieces (map (piece_under f) ps) ≡ map f (names_of_pieces ps)
  pieces_names [] = refl
  pieces_names (p ∷ ps) = ap (λ (l : List LocalName). f p.local ∷ l) (pieces_names ps)

  objects_names : (os : List HeldObject) → names_of_objects (map (object_under f) os) ≡ map f (names_of_objects os)
  objects_names [] = refl
  objects_names (o ∷ os) =
      ap (λ (l : List LocalName). l ++ names_of_objects (map (object_under f) os)) (pieces_names o.pieces)
      ∙ (ap (λ (l : List LocalName). map f (names_of_pieces o.pieces) ++ l) (objects_names os) ∙ sym (names_joined (names_of_pieces o.pieces) (names_of_objects os)))

  pub names_under : (c : HeldContent) → names_of (content_under f c) ≡ map f (names_of c)
  names_under held_as.Gone = refl
  names_under (held_as.Row cells objects) = objects_names objects

  pub has_mapped : (names : List LocalName) (name : LocalName) → Has names name → Has (map f names) (f name)
  has_mapped [] name has = absurd cc
  has_mapped (n ∷ names) name has = ⊎_elim (λ same. has_head (f n) (f name) (map f names) (ap f same)) (λ more. has_tail (f n) (f name) (map f names) (has_mapped names name more)) (has_cases n name names has)

  pub mapped_has : (names : List LocalName) (name : LocalName) → Has (map f names) name → (from : LocalName) × Has names from × (name ≡ f from)
  mapped_has [] name has = absurd cc
  mapped_has (n ∷ names) name has =
      ⊎_elim (λ same. (n, has_head n n names refl, same)) (λ more. let p = mapped_has names name more in (p.0, has_tail n p.0 names p.1, p.2)) (has_cases (f n) name (map f names) has)

  -- names that are different stay so
  pub mapped_once : (names : List LocalName) → AreOnce names → ((a b : LocalName) → Has names a → Has names b → f a ≡ f b → a ≡ b) → AreOnce (map f names)
  mapped_once [] once apart = tt
  mapped_once (n ∷ names) once apart = (
    λ has.
        let p = mapped_has names (f n) has in
        once.0 (subst (λ (q : LocalName). Has names q) (sym (apart n p.0 (has_head n n names refl) (has_tail n p.0 names p.1) p.2)) p.1),
    mapped_once names once.1 (λ a b in_a in_b same. apart a b (has_tail n a names in_a) (has_tail n b names in_b) same),
  )

  -- ---- the Store's names, and lengths

  pieces_known : (ps : List HeldPiece) → map (λ (piece : HeldPiece). piece.name) (map (piece_under f) ps) ≡ map (λ (piece : HeldPiece). piece.name) ps
  pieces_known [] = refl
  pieces_known (p ∷ ps) = ap (λ (l : List (Option ChunkName)). p.name ∷ l) (pieces_known ps)

  objects_known : (os : List HeldObject) → names_in_objects (map (object_under f) os) ≡ names_in_objects os
  objects_known [] = refl
  objects_known (o ∷ os) =
      ap (λ (l : List (Option ChunkName)). l ∷ names_in_objects (map (object_under f) os)) (pieces_known o.pieces)
      ∙ ap (λ (l : List (List (Option ChunkName))). map (λ (piece : HeldPiece). piece.name) o.pieces ∷ l) (objects_known os)

  pub known_under : (c : HeldContent) → names_known (content_under f c) ≡ names_known c
  known_under held_as.Gone = refl
  known_under (held_as.Row cells objects) = objects_known objects

  zeros_under : (os : List HeldObject) → zeros_for (map (object_under f) os) ≡ zeros_for os
  zeros_under [] = refl
  zeros_under (o ∷ os) = ap (λ (l : List (List ℕ)). replicate o.len 0 ∷ l) (zeros_under os)

  pub fits_under : (schema : Schema) (c : HeldContent) → fits_by_len schema (content_under f c) ≡ fits_by_len schema c
  fits_under schema held_as.Gone = refl
  fits_under schema (held_as.Row cells objects) = ap (λ (l : List (List ℕ)). fits_by_zeros l) (zeros_under objects)
    where
      fits_by_zeros : List (List ℕ) → Bool
      fits_by_zeros l = is_ok (fit_of schema (contents.Row cells l))

  -- ---- what the names stand for

  module _ (stands others : LocalName → List ℕ) where
    abbrev pub AreSame : List LocalName → Type 0
    AreSame names = (name : LocalName) → Has names name → others (f name) ≡ stands name

    abbrev bytes_in : (LocalName → List ℕ) → List HeldPiece → List (List ℕ)
    bytes_in means ps = map (λ (piece : HeldPiece). means piece.local) ps

    pieces_same : (ps : List HeldPiece) → AreSame (names_of_pieces ps) → bytes_in others (map (piece_under f) ps) ≡ bytes_in stands ps
    pieces_same [] same = refl
    pieces_same (p ∷ ps) same =
        ap (λ (b : List ℕ). b ∷ bytes_in others (map (piece_under f) ps)) (same p.local (has_head p.local p.local (names_of_pieces ps) refl))
        ∙ ap (λ (l : List (List ℕ)). stands p.local ∷ l) (pieces_same ps (λ q has. same q (has_tail p.local q (names_of_pieces ps) has)))

    object_same : (o : HeldObject) → AreSame (names_of_pieces o.pieces) → whole_object others (object_under f o) ≡ whole_object stands o
    object_same o same = ap (λ (l : List (List ℕ)). concat l) (pieces_same o.pieces same)

    front : (o : HeldObject) (os : List HeldObject) → AreSame (names_of_objects (o ∷ os)) → AreSame (names_of_pieces o.pieces)
    front o os same q has = same q (has_left (names_of_pieces o.pieces) (names_of_objects os) q has)

    behind : (o : HeldObject) (os : List HeldObject) → AreSame (names_of_objects (o ∷ os)) → AreSame (names_of_objects os)
    behind o os same q has = same q (has_right (names_of_pieces o.pieces) (names_of_objects os) q has)

    objects_same : (os : List HeldObject) → AreSame (names_of_objects os) → map (whole_object others) (map (object_under f) os) ≡ map (whole_object stands) os
    objects_same [] same = refl
    objects_same (o ∷ os) same =
        ap (λ (b : List ℕ). b ∷ map (whole_object others) (map (object_under f) os)) (object_same o (front o os same))
        ∙ ap (λ (l : List (List ℕ)). whole_object stands o ∷ l) (objects_same os (behind o os same))

    pub whole_under : (c : HeldContent) → AreSame (names_of c) → whole others (content_under f c) ≡ whole stands c
    whole_under held_as.Gone same = refl
    whole_under (held_as.Row cells objects) same = ap (λ (l : List (List ℕ)). contents.Row cells l) (objects_same objects same)

    objects_lens : (os : List HeldObject) → AreSame (names_of_objects os) → AllByRecursion (HasLen stands) os → AllByRecursion (HasLen others) (map (object_under f) os)
    objects_lens [] same h = tt
    objects_lens (o ∷ os) same h = (h.0 ∙ ap length (sym (object_same o (front o os same))), objects_lens os (behind o os same) h.1)

    pub lens_under : (c : HeldContent) → AreSame (names_of c) → HaveLens stands c → HaveLens others (content_under f c)
    lens_under held_as.Gone same h = tt
    lens_under (held_as.Row cells objects) same h = objects_lens objects same h

    abbrev means : LocalName → Option (List ℕ)
    means name = Some (stands name)

    abbrev now_means : LocalName → Option (List ℕ)
    now_means name = Some (others name)

    places_from : (size len place : ℕ) (ps : List HeldPiece) → AreSame (names_of_pieces ps) → lens_from now_means size len place (map (piece_under f) ps) ≡ lens_from means size len place ps
    places_from size len place [] same = refl
    places_from size len place (p ∷ ps) same =
        ap (λ (b : List ℕ). has_len (Some b) (len_at size len place) && lens_from now_means size len (place + 1) (map (piece_under f) ps)) (same p.local (has_head p.local p.local (names_of_pieces ps) refl))
        ∙ ap (λ (b : Bool). has_len (means p.local) (len_at size len place) && b) (places_from size len (place + 1) ps (λ q has. same q (has_tail p.local q (names_of_pieces ps) has)))

    objects_places : (size : ℕ) (os : List HeldObject) → AreSame (names_of_objects os) → list_all (has_lens now_means size) (map (object_under f) os) ≡ list_all (has_lens means size) os
    objects_places size [] same = refl
    objects_places size (o ∷ os) same =
        ap (λ (n : ℕ). ((n == count_of size o.len) && lens_from now_means size o.len 0 (map (piece_under f) o.pieces)) && list_all (has_lens now_means size) (map (object_under f) os)) (length-map o.pieces (piece_under f))
        ∙ (ap (λ (b : Bool). ((length o.pieces == count_of size o.len) && b) && list_all (has_lens now_means size) (map (object_under f) os)) (places_from size o.len 0 o.pieces (front o os same))
        ∙ ap (λ (b : Bool). has_lens means size o && b) (objects_places size os (behind o os same)))

    pub places_under : (size : ℕ) (c : HeldContent) → AreSame (names_of c) → all_lens now_means size (content_under f c) ≡ all_lens means size c
    places_under size held_as.Gone same = refl
    places_under size (held_as.Row cells objects) same = objects_places size objects same

  -- ---- spellings

  abbrev pub AreSpelled : List LocalName → Type 0
  AreSpelled names = (name : LocalName) → Has names name → HasLocalSpelling name → HasLocalSpelling (f name)

  pieces_spelled : (ps : List HeldPiece) → AreSpelled (names_of_pieces ps) → AllByRecursion HasHeldPiece ps → AllByRecursion HasHeldPiece (map (piece_under f) ps)
  pieces_spelled [] to h = tt
  pieces_spelled (p ∷ ps) to h = ((to p.local (has_head p.local p.local (names_of_pieces ps) refl) h.0.0, h.0.1), pieces_spelled ps (λ q has. to q (has_tail p.local q (names_of_pieces ps) has)) h.1)

  objects_spelled : (os : List HeldObject) → AreSpelled (names_of_objects os) → AllByRecursion HasHeldObject os → AllByRecursion HasHeldObject (map (object_under f) os)
  objects_spelled [] to h = tt
  objects_spelled (o ∷ os) to h = (
    (
      h.0.0,
      (
        omega (arith, h.0.1.0, length-map o.pieces (piece_under f)),
        pieces_spelled o.pieces (λ q has. to q (has_left (names_of_pieces o.pieces) (names_of_objects os) q has)) h.0.1.1,
      ),
    ),
    objects_spelled os (λ q has. to q (has_right (names_of_pieces o.pieces) (names_of_objects os) q has)) h.1,
  )

  pub spelled_under : (c : HeldContent) → AreSpelled (names_of c) → HasHeld c → HasHeld (content_under f c)
  spelled_under held_as.Gone to h = tt
  spelled_under (held_as.Row cells objects) to h = (h.0, (omega (arith, h.1.0, length-map objects (object_under f)), objects_spelled objects to h.1.1))
