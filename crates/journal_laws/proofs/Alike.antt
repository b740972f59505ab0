-- Slots are whole alike, where their names stand for the same.
use Rattle.std.proofs.Common.{◌≡◌, ℕ, Bool, true, false, List, [], ◌∷◌, ◌++◌, length, map, Option, Some, None, refl, sym, ◌∙◌, ap, subst}
use Rattle.std.specs.Prelude.{◌||◌, option_map, IfSome}
use Rattle.std.specs.List.{concat, AllByRecursion}
use Rattle.std.proofs.lemmas.List.Concat.{flat_map-cons}
use Rattle.std.proofs.lemmas.List.Folds.{list_any-append}
use Rattle.row_value.specs.declared.content.Content.TheVariants as contents
use Rattle.held_value.specs.declared.local_name.LocalName.{LocalName}
use Rattle.held_value.specs.declared.content.HeldPiece.{HeldPiece}
use Rattle.held_value.specs.declared.content.HeldObject.{HeldObject}
use Rattle.held_value.specs.declared.content.HeldContent.{HeldContent}
use Rattle.held_value.specs.declared.content.HeldContent.TheVariants.{Gone, Row}
use Rattle.held_value.specs.declared.slots.Main.{Main as HeldMain}
use Rattle.held_value.specs.declared.slots.Shadow.{Shadow as HeldShadow}
use Rattle.held_value.specs.declared.slots.Out.{Out as HeldOut}
use Rattle.held_value.specs.declared.slots.Slots.{Slots as HeldSlots}
use Rattle.client_journal.specs.Names.{same_name, is_among, Has, names_of_pieces, names_of_objects, names_of, names_of_main, names_of_shadow, names_of_out, names_in}
use Rattle.client_journal.proofs.Lookups.{has_head, has_tail}
use Rattle.journal_laws.specs.Whole.{whole_object, whole, whole_main, whole_shadow, whole_out, whole_slots, HasLen, HaveLens, AreHeld}

-- ---- names of lists put together

pub has_front : (xs ys : List LocalName) (q : LocalName) → Has xs q → Has (xs ++ ys) q
has_front xs ys q h = list_any-append (same_name q) xs ys ∙ ap (λ (b : Bool). b || is_among ys q) h

pub has_behind : (xs ys : List LocalName) (q : LocalName) → Has ys q → Has (xs ++ ys) q
has_behind xs ys q h = list_any-append (same_name q) xs ys ∙ either (is_among xs q) (is_among ys q) h
  where
    either : (a b : Bool) → b ≡ true → a || b ≡ true
    either true b h = refl
    either false b h = h

module _ (meaning others : LocalName → List ℕ) where
  abbrev pub Alike : List LocalName → Type 0
  Alike names = (name : LocalName) → Has names name → others name ≡ meaning name

  abbrev bytes_in : (LocalName → List ℕ) → List HeldPiece → List (List ℕ)
  bytes_in stands ps = map (λ (piece : HeldPiece). stands piece.local) ps

  pieces_alike : (ps : List HeldPiece) → Alike (names_of_pieces ps) → bytes_in others ps ≡ bytes_in meaning ps
  pieces_alike [] same = refl
  pieces_alike (p ∷ ps) same =
      ap (λ (b : List ℕ). b ∷ bytes_in others ps) (same p.local (has_head p.local p.local (names_of_pieces ps) refl))
      ∙ ap (λ (l : List (List ℕ)). meaning p.local ∷ l) (pieces_alike ps (λ q has. same q (has_tail p.local q (names_of_pieces ps) has)))

  abbrev ParentOf : HeldObject → List HeldObject → Type 0
  ParentOf o os = Alike (names_of_pieces o.pieces) × Alike (names_of_objects os)

  parts : (o : HeldObject) (os : List HeldObject) → Alike (names_of_objects (o ∷ os)) → ParentOf o os
  parts o os same =
      let all : Alike (names_of_pieces o.pieces ++ names_of_objects os) = subst Alike (flat_map-cons (λ (q : HeldObject). names_of_pieces q.pieces) o os) same in (
        λ q has. all q (has_front (names_of_pieces o.pieces) (names_of_objects os) q has),
        λ q has. all q (has_behind (names_of_pieces o.pieces) (names_of_objects os) q has),
      )

  object_alike : (o : HeldObject) → Alike (names_of_pieces o.pieces) → whole_object others o ≡ whole_object meaning o
  object_alike o same = ap (λ (l : List (List ℕ)). concat l) (pieces_alike o.pieces same)

  objects_alike : (os : List HeldObject) → Alike (names_of_objects os) → map (whole_object others) os ≡ map (whole_object meaning) os
  objects_alike [] same = refl
  objects_alike (o ∷ os) same =
      let p = parts o os same in
      ap (λ (b : List ℕ). b ∷ map (whole_object others) os) (object_alike o p.0) ∙ ap (λ (l : List (List ℕ)). whole_object meaning o ∷ l) (objects_alike os p.1)

  lens_alike : (os : List HeldObject) → Alike (names_of_objects os) → AllByRecursion (HasLen meaning) os → AllByRecursion (HasLen others) os
  lens_alike [] same h = tt
  lens_alike (o ∷ os) same h = let p = parts o os same in (h.0 ∙ ap (λ (b : List ℕ). length b) (sym (object_alike o p.0)), lens_alike os p.1 h.1)

  content_alike : (c : HeldContent) → Alike (names_of c) → whole others c ≡ whole meaning c
  content_alike Gone same = refl
  content_alike (Row some objects) same = ap (λ (l : List (List ℕ)). contents.Row some l) (objects_alike objects same)

  have_alike : (c : HeldContent) → Alike (names_of c) → HaveLens meaning c → HaveLens others c
  have_alike Gone same h = tt
  have_alike (Row some objects) same h = lens_alike objects same h

  main_alike : (o : Option HeldMain) → Alike (names_of_main o) → option_map (whole_main others) o ≡ option_map (whole_main meaning) o
  main_alike None same = refl
  main_alike (Some main) same = rw (content_alike main.content same) refl

  shadow_alike : (o : Option HeldShadow) → Alike (names_of_shadow o) → option_map (whole_shadow others) o ≡ option_map (whole_shadow meaning) o
  shadow_alike None same = refl
  shadow_alike (Some shadow) same = rw (content_alike shadow.content same) refl

  out_alike : (o : Option HeldOut) → Alike (names_of_out o) → option_map (whole_out others) o ≡ option_map (whole_out meaning) o
  out_alike None same = refl
  out_alike (Some out) same = rw (content_alike out.content same) refl

  main_have : (o : Option HeldMain) → Alike (names_of_main o) → IfSome o (λ main. HaveLens meaning main.content) → IfSome o (λ main. HaveLens others main.content)
  main_have None same h = tt
  main_have (Some main) same h = have_alike main.content same h

  shadow_have : (o : Option HeldShadow) → Alike (names_of_shadow o) → IfSome o (λ shadow. HaveLens meaning shadow.content) → IfSome o (λ shadow. HaveLens others shadow.content)
  shadow_have None same h = tt
  shadow_have (Some shadow) same h = have_alike shadow.content same h

  out_have : (o : Option HeldOut) → Alike (names_of_out o) → IfSome o (λ out. HaveLens meaning out.content) → IfSome o (λ out. HaveLens others out.content)
  out_have None same h = tt
  out_have (Some out) same h = have_alike out.content same h

  module _ (s : HeldSlots) (same : Alike (names_in s)) where
    abbrev m : List LocalName
    m = names_of_main s.main

    abbrev h : List LocalName
    h = names_of_shadow s.shadow

    abbrev o : List LocalName
    o = names_of_out s.out

    abbrev k : List LocalName
    k = names_of_shadow s.conflict

    in_main : Alike m
    in_main q has = same q (has_front m (h ++ (o ++ k)) q has)

    in_shadow : Alike h
    in_shadow q has = same q (has_behind m (h ++ (o ++ k)) q (has_front h (o ++ k) q has))

    in_out : Alike o
    in_out q has = same q (has_behind m (h ++ (o ++ k)) q (has_behind h (o ++ k) q (has_front o k q has)))

    in_conflict : Alike k
    in_conflict q has = same q (has_behind m (h ++ (o ++ k)) q (has_behind h (o ++ k) q (has_behind o k q has)))

    pub slots_alike : whole_slots others s ≡ whole_slots meaning s
    slots_alike = rw (main_alike s.main in_main, shadow_alike s.shadow in_shadow, out_alike s.out in_out, shadow_alike s.conflict in_conflict) refl

    pub held_alike : AreHeld meaning s → AreHeld others s
    held_alike a = record {
      main = main_have s.main in_main a.main;
      shadow = shadow_have s.shadow in_shadow a.shadow;
      out = out_have s.out in_out a.out;
      conflict = shadow_have s.conflict in_conflict a.conflict;
      pieces = a.pieces;
    }
