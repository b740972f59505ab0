-- Slots under a plan's number are whole as they were before they got it.
use Rattle.std.proofs.Common.{◌≡◌, ℕ, List, [], ◌∷◌, length, map, take, drop, Option, Some, None, refl, sym, ◌∙◌, ap, arith}
use Rattle.std.specs.Prelude.{option_map, IfSome}
use Rattle.std.specs.List.{concat, AllByRecursion}
use Rattle.std.proofs.lemmas.List.{length-map}
use Rattle.stab_base.specs.declared.chunk_name.ChunkName.{ChunkName}
use Rattle.row_value.specs.declared.content.Content.TheVariants as contents
use Rattle.row_value.specs.declared.pieces.Piece.{Piece}
use Rattle.held_value.specs.declared.local_name.LocalName.{LocalName}
use Rattle.held_value.specs.declared.content.HeldPiece.{HeldPiece}
use Rattle.held_value.specs.declared.content.HeldObject.{HeldObject}
use Rattle.held_value.specs.declared.content.HeldContent.{HeldContent}
use Rattle.held_value.specs.declared.content.HeldContent.TheVariants.{Gone, Row}
use Rattle.held_value.specs.declared.slots.Main.{Main as HeldMain}
use Rattle.held_value.specs.declared.slots.Shadow.{Shadow as HeldShadow}
use Rattle.held_value.specs.declared.slots.Out.{Out as HeldOut}
use Rattle.held_value.specs.declared.slots.Slots.{Slots as HeldSlots}
use Rattle.client_journal.specs.Names.{names_of_objects, names_of}
use Rattle.client_journal.specs.Plan.{numbered_name, numbered_piece, numbered_object, numbered_content, numbered_main, numbered_shadow, numbered_out, numbered_slots}
use Rattle.journal_laws.proofs.Transitions.{names_count}
use Rattle.journal_laws.specs.Whole.{whole_object, whole, names_in_objects, names_known, split_by, pieces_by, whole_main, whole_shadow, whole_out, whole_slots, HasLen, HaveLens, SpellsAll, AreHeld}

module _ (means : LocalName → List ℕ) (number : ℕ) where
  -- what a name stands for that gets its number
  abbrev before : LocalName → List ℕ
  before name = means (numbered_name number name)

  pieces_same : (ps : List HeldPiece) → map (λ (piece : HeldPiece). means piece.local) (map (numbered_piece number) ps) ≡ map (λ (piece : HeldPiece). before piece.local) ps
  pieces_same [] = refl
  pieces_same (p ∷ ps) = ap (λ (l : List (List ℕ)). before p.local ∷ l) (pieces_same ps)

  pub object_same : (o : HeldObject) → whole_object means (numbered_object number o) ≡ whole_object before o
  object_same o = ap (λ (l : List (List ℕ)). concat l) (pieces_same o.pieces)

  objects_same : (os : List HeldObject) → map (whole_object means) (map (numbered_object number) os) ≡ map (whole_object before) os
  objects_same [] = refl
  objects_same (o ∷ os) = ap (λ (b : List ℕ). b ∷ map (whole_object means) (map (numbered_object number) os)) (object_same o) ∙ ap (λ (l : List (List ℕ)). whole_object before o ∷ l) (objects_same os)

  content_same : (c : HeldContent) → whole means (numbered_content number c) ≡ whole before c
  content_same Gone = refl
  content_same (Row some objects) = ap (λ (l : List (List ℕ)). contents.Row some l) (objects_same objects)

  piece_names_same : (ps : List HeldPiece) → map (λ (piece : HeldPiece). piece.name) (map (numbered_piece number) ps) ≡ map (λ (piece : HeldPiece). piece.name) ps
  piece_names_same [] = refl
  piece_names_same (p ∷ ps) = ap (λ (l : List (Option ChunkName)). p.name ∷ l) (piece_names_same ps)

  object_names_same : (os : List HeldObject) → names_in_objects (map (numbered_object number) os) ≡ names_in_objects os
  object_names_same [] = refl
  object_names_same (o ∷ os) =
      ap (λ (l : List (Option ChunkName)). l ∷ names_in_objects (map (numbered_object number) os)) (piece_names_same o.pieces)
      ∙ ap (λ (l : List (List (Option ChunkName))). map (λ (piece : HeldPiece). piece.name) o.pieces ∷ l) (object_names_same os)

  pub names_same : (c : HeldContent) → names_known (numbered_content number c) ≡ names_known c
  names_same Gone = refl
  names_same (Row some objects) = object_names_same objects

  split_same : (os : List HeldObject) (pieces : List Piece) → split_by (map (numbered_object number) os) pieces ≡ split_by os pieces
  split_same [] pieces = refl
  split_same (o ∷ os) pieces =
      ap (λ (n : ℕ). take n pieces ∷ split_by (map (numbered_object number) os) (drop n pieces)) (length-map o.pieces (numbered_piece number))
      ∙ ap (λ (l : List (List Piece)). take (length o.pieces) pieces ∷ l) (split_same os (drop (length o.pieces) pieces))

  pub pieces_by_same : (c : HeldContent) (pieces : List Piece) → pieces_by (numbered_content number c) pieces ≡ pieces_by c pieces
  pieces_by_same Gone pieces = refl
  pieces_by_same (Row some objects) pieces = split_same objects pieces

  main_same : (o : Option HeldMain) → option_map (whole_main means) (option_map (numbered_main number) o) ≡ option_map (whole_main before) o
  main_same None = refl
  main_same (Some main) = rw (content_same main.content) refl

  shadow_same : (o : Option HeldShadow) → option_map (whole_shadow means) (option_map (numbered_shadow number) o) ≡ option_map (whole_shadow before) o
  shadow_same None = refl
  shadow_same (Some shadow) = rw (content_same shadow.content, names_same shadow.content) refl

  out_same : (o : Option HeldOut) → option_map (whole_out means) (option_map (numbered_out number) o) ≡ option_map (whole_out before) o
  out_same None = refl
  out_same (Some out) = rw (content_same out.content, pieces_by_same out.content out.pieces) refl

  pub slots_same : (s : HeldSlots) → whole_slots means (numbered_slots number s) ≡ whole_slots before s
  slots_same s = rw (main_same s.main, shadow_same s.shadow, out_same s.out, shadow_same s.conflict) refl

  -- ---- lengths and counts

  lens_same : (os : List HeldObject) → AllByRecursion (HasLen before) os → AllByRecursion (HasLen means) (map (numbered_object number) os)
  lens_same [] h = tt
  lens_same (o ∷ os) h = (h.0 ∙ ap (λ (b : List ℕ). length b) (sym (object_same o)), lens_same os h.1)

  have_same : (c : HeldContent) → HaveLens before c → HaveLens means (numbered_content number c)
  have_same Gone h = tt
  have_same (Row some objects) h = lens_same objects h

  counts_same : (os : List HeldObject) → length (names_of_objects (map (numbered_object number) os)) ≡ length (names_of_objects os)
  counts_same [] = refl
  counts_same (o ∷ os) =
      omega (arith, names_count o os, names_count (numbered_object number o) (map (numbered_object number) os), counts_same os, length-map o.pieces (numbered_piece number))

  count_same : (c : HeldContent) → length (names_of (numbered_content number c)) ≡ length (names_of c)
  count_same Gone = refl
  count_same (Row some objects) = counts_same objects

  main_have : (o : Option HeldMain) → IfSome o (λ main. HaveLens before main.content) → IfSome (option_map (numbered_main number) o) (λ main. HaveLens means main.content)
  main_have None h = tt
  main_have (Some main) h = have_same main.content h

  shadow_have : (o : Option HeldShadow) → IfSome o (λ shadow. HaveLens before shadow.content) → IfSome (option_map (numbered_shadow number) o) (λ shadow. HaveLens means shadow.content)
  shadow_have None h = tt
  shadow_have (Some shadow) h = have_same shadow.content h

  out_have : (o : Option HeldOut) → IfSome o (λ out. HaveLens before out.content) → IfSome (option_map (numbered_out number) o) (λ out. HaveLens means out.content)
  out_have None h = tt
  out_have (Some out) h = have_same out.content h

  out_spells : (o : Option HeldOut) → IfSome o SpellsAll → IfSome (option_map (numbered_out number) o) SpellsAll
  out_spells None h = tt
  out_spells (Some out) h = h ∙ sym (count_same out.content)

  pub held_same : (s : HeldSlots) → AreHeld before s → AreHeld means (numbered_slots number s)
  held_same s a = record {
    main = main_have s.main a.main;
    shadow = shadow_have s.shadow a.shadow;
    out = out_have s.out a.out;
    conflict = shadow_have s.conflict a.conflict;
    pieces = out_spells s.out a.pieces;
  }
