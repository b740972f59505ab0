-- Contents that stay fit: with the Store's names, and under a plan's number.
use Rattle.std.proofs.Common.{◌≡◌, ⊎_elim, ℕ, zero, suc, ◌+◌, ◌<◌, ◌≤◌, Bool, true, false, List, [], ◌∷◌, ◌++◌, length, map, take, drop, Option, Some, None, refl, sym, ◌∙◌, ap, subst, arith}
use Rattle.std.specs.Prelude.{◌==◌, ◌&&◌, ◌||◌, ◌^◌, not, is_ok, replicate, if◌then◌else◌}
use Rattle.std.specs.List.{list_all, AllByRecursion}
use Rattle.std.proofs.lemmas.Bool.Decides.{nat_tests}
use Rattle.std.proofs.lemmas.List.{length-take, length-drop, length-map}
use Rattle.row_value.specs.declared.content.Content.TheVariants as contents
use Rattle.row_value.specs.declared.pieces.Piece.{Piece}
use Rattle.row_value.specs.declared.pieces.Piece.TheVariants.{Keep, Fresh}
use Rattle.row_value.specs.Fit.{fit_of}
use Rattle.value_codec.specs.Spelling.{HasPieceSpelling, HasNameSpelling}
use Rattle.held_codec.specs.Spelling.{HasLocalSpelling, HasHeldPiece, HasHeldObject, HasHeld}
use Rattle.chunker.specs.Sized.{count_of, len_at}
use Rattle.held_value.specs.declared.local_name.LocalName.{LocalName}
use Rattle.held_value.specs.declared.content.HeldPiece.{HeldPiece}
use Rattle.held_value.specs.declared.content.HeldObject.{HeldObject}
use Rattle.held_value.specs.declared.content.HeldContent.{HeldContent}
use Rattle.held_value.specs.declared.content.HeldContent.TheVariants.{Gone, Row}
use Rattle.slot_store.specs.declared.held.TableRecord.{TableRecord}
use Rattle.client_tables.specs.Names.{name_at, named_pieces, named_objects, named}
use Rattle.client_journal.specs.Names.{same_name, is_among, Has, names_of_pieces, names_of_objects, names_of}
use Rattle.client_journal.specs.Plan.{numbered_name, numbered_piece, numbered_object, numbered_content}
use Rattle.client_journal.specs.There.{has_len, lens_from, has_lens, all_lens, zeros_for, sized, lacks, repeats, misfits, is_wrong}
use Rattle.client_journal.proofs.Lookups.{has_cases, has_head, has_tail}
use Rattle.journal_laws.proofs.Transitions.{names_count}
use Rattle.plan_log.specs.Spelling.{IsPlan as IsPlanNumber}
use Rattle.plan_limits.specs.Fit.{IsFitContent, AreFitPieces, AreOlderOrNew}

-- ---- lists

taken : {X : Type 0} (P : X → Type 0) (n : ℕ) (xs : List X) → AllByRecursion P xs → AllByRecursion P (take n xs) × AllByRecursion P (drop n xs)
taken P zero xs h = (tt, h)
taken P (suc n) [] h = (tt, tt)
taken P (suc n) (x ∷ xs) h = let rest = taken P n xs h.1 in ((h.0, rest.0), rest.1)

-- ---- the same is wrong of a content

-- two contents of one shape, under names that stand for the same
record IsAlike (stands others : LocalName → Option (List ℕ)) (a b : HeldContent) : Type 0 where
  lens : (size : ℕ) → all_lens stands size a ≡ all_lens others size b
  twice : repeats [] (names_of a) ≡ repeats [] (names_of b)
  sized_is : sized a ≡ sized b

wrong_alike : (stands others : LocalName → Option (List ℕ)) (a b : HeldContent) → IsAlike stands others a b → (table : Option TableRecord) → is_wrong stands table a ≡ is_wrong others table b
wrong_alike stands others a b k None = ap (λ (t : Bool). t || true) k.twice
wrong_alike stands others a b k (Some table) =
    let l : lacks stands (Some table) a ≡ lacks others (Some table) b = ap not (k.lens table.schema.chunk) in
    let m : misfits (Some table) a ≡ misfits (Some table) b = ap (λ c. not (is_ok (fit_of table.schema c))) k.sized_is in
    ap (λ (t : Bool). t || (repeats [] (names_of a) || misfits (Some table) a)) l
    ∙ (ap (λ (t : Bool). lacks others (Some table) b || (t || misfits (Some table) a)) k.twice ∙ ap (λ (t : Bool). lacks others (Some table) b || (repeats [] (names_of b) || t)) m)

-- ---- with the Store's names

module _ (version : ℕ) where
  names_kept : (pieces : List Piece) (ps : List HeldPiece) → length ps ≤ length pieces → (names_of_pieces (named_pieces version pieces ps) ≡ names_of_pieces ps) × (length (named_pieces version pieces ps) ≡ length ps)
  names_kept pieces [] le = (refl, refl)
  names_kept [] (p ∷ ps) le = absurd (omega arith)
  names_kept (piece ∷ pieces) (p ∷ ps) le = let rest = names_kept pieces ps (omega arith) in (ap (λ (l : List LocalName). p.local ∷ l) rest.0, ap suc rest.1)

  lens_kept : (stands : LocalName → Option (List ℕ)) (size len place : ℕ) (pieces : List Piece) (ps : List HeldPiece) → length ps ≤ length pieces
      → lens_from stands size len place (named_pieces version pieces ps) ≡ lens_from stands size len place ps
  lens_kept stands size len place pieces [] le = refl
  lens_kept stands size len place [] (p ∷ ps) le = absurd (omega arith)
  lens_kept stands size len place (piece ∷ pieces) (p ∷ ps) le = ap (λ (b : Bool). has_len (stands p.local) (len_at size len place) && b) (lens_kept stands size len (place + 1) pieces ps (omega arith))

  pieces_spelled : version < 2 ^ 64 → (pieces : List Piece) (ps : List HeldPiece) → AllByRecursion HasPieceSpelling pieces → AllByRecursion HasHeldPiece ps → AllByRecursion HasHeldPiece (named_pieces version pieces ps)
  pieces_spelled lt pieces [] a b = tt
  pieces_spelled lt [] (p ∷ ps) a b = tt
  pieces_spelled lt (piece ∷ pieces) (p ∷ ps) a b = ((b.0.0, its piece a.0), pieces_spelled lt pieces ps a.1 b.1)
    where
      its : (piece : Piece) → HasPieceSpelling piece → HasNameSpelling (name_at version piece)
      its (Keep held) h = h
      its (Fresh ordinal) h = record { version = lt; ordinal = h }

  front_of : (pieces : List Piece) (o : HeldObject) (os : List HeldObject) → length (names_of_objects (o ∷ os)) ≤ length pieces → length o.pieces ≤ length (take (length o.pieces) pieces)
  front_of pieces o os le = omega (arith, names_count o os, le, length-take (length o.pieces) pieces)

  rest_of : (pieces : List Piece) (o : HeldObject) (os : List HeldObject) → length (names_of_objects (o ∷ os)) ≤ length pieces → length (names_of_objects os) ≤ length (drop (length o.pieces) pieces)
  rest_of pieces o os le = omega (arith, names_count o os, le, length-drop (length o.pieces) pieces)

  objects_lens : (stands : LocalName → Option (List ℕ)) (size : ℕ) (pieces : List Piece) (os : List HeldObject) → length (names_of_objects os) ≤ length pieces
      → list_all (has_lens stands size) (named_objects version pieces os) ≡ list_all (has_lens stands size) os
  objects_lens stands size pieces [] le = refl
  objects_lens stands size pieces (o ∷ os) le =
      let front : List Piece = take (length o.pieces) pieces in
      let behind : List Piece = drop (length o.pieces) pieces in
      let fits = front_of pieces o os le in
      ap (λ (n : ℕ). ((n == count_of size o.len) && lens_from stands size o.len 0 (named_pieces version front o.pieces)) && list_all (has_lens stands size) (named_objects version behind os)) (names_kept front o.pieces fits).1
      ∙ (ap (λ (b : Bool). ((length o.pieces == count_of size o.len) && b) && list_all (has_lens stands size) (named_objects version behind os)) (lens_kept stands size o.len 0 front o.pieces fits)
      ∙ ap (λ (b : Bool). has_lens stands size o && b) (objects_lens stands size behind os (rest_of pieces o os le)))

  objects_names : (pieces : List Piece) (os : List HeldObject) → length (names_of_objects os) ≤ length pieces → names_of_objects (named_objects version pieces os) ≡ names_of_objects os
  objects_names pieces [] le = refl
  objects_names pieces (o ∷ os) le =
      ap (λ (l : List LocalName). l ++ names_of_objects (named_objects version (drop (length o.pieces) pieces) os)) (names_kept (take (length o.pieces) pieces) o.pieces (front_of pieces o os le)).0
      ∙ ap (λ (l : List LocalName). names_of_pieces o.pieces ++ l) (objects_names (drop (length o.pieces) pieces) os (rest_of pieces o os le))

  objects_zeros : (pieces : List Piece) (os : List HeldObject) → zeros_for (named_objects version pieces os) ≡ zeros_for os
  objects_zeros pieces [] = refl
  objects_zeros pieces (o ∷ os) = ap (λ (l : List (List ℕ)). replicate o.len 0 ∷ l) (objects_zeros (drop (length o.pieces) pieces) os)

  objects_spelled : version < 2 ^ 64 → (pieces : List Piece) (os : List HeldObject) → length (names_of_objects os) ≤ length pieces → AllByRecursion HasPieceSpelling pieces → AllByRecursion HasHeldObject os
      → AllByRecursion HasHeldObject (named_objects version pieces os) × (length (named_objects version pieces os) ≡ length os)
  objects_spelled lt pieces [] le a b = (tt, refl)
  objects_spelled lt pieces (o ∷ os) le a b =
      let front : List Piece = take (length o.pieces) pieces in
      let parts = taken HasPieceSpelling (length o.pieces) pieces a in
      let rest = objects_spelled lt (drop (length o.pieces) pieces) os (rest_of pieces o os le) parts.1 b.1 in
      let few : length (named_pieces version front o.pieces) < 2 ^ 32 = omega (arith, (names_kept front o.pieces (front_of pieces o os le)).1, b.0.1.0) in
      (((b.0.0, (few, pieces_spelled lt front o.pieces parts.0 b.0.1.1)), rest.0), ap suc rest.1)

  named_alike : (stands : LocalName → Option (List ℕ)) (pieces : List Piece) (c : HeldContent) → length (names_of c) ≤ length pieces → IsAlike stands stands (named version pieces c) c
  named_alike stands pieces Gone le = record { lens = λ size. refl; twice = refl; sized_is = refl }
  named_alike stands pieces (Row some objects) le = record {
    lens = λ size. objects_lens stands size pieces objects le;
    twice = ap (repeats []) (objects_names pieces objects le);
    sized_is = ap (λ (l : List (List ℕ)). contents.Row some l) (objects_zeros pieces objects);
  }

  pub content_named : (meaning : LocalName → List ℕ) (table : Option TableRecord) (pieces : List Piece) (c : HeldContent) → version < 2 ^ 64 → AreFitPieces c pieces → IsFitContent meaning table c
      → IsFitContent meaning table (named version pieces c)
  content_named meaning table pieces c lt p k = record {
    right = wrong_alike (λ name. Some (meaning name)) (λ name. Some (meaning name)) (named version pieces c) c (named_alike (λ name. Some (meaning name)) pieces c (omega (arith, p.count))) table ∙ k.right;
    spelled = held c p k.spelled;
  }
    where
      held : (c : HeldContent) → AreFitPieces c pieces → HasHeld c → HasHeld (named version pieces c)
      held Gone p h = tt
      held (Row some objects) p h = let k = objects_spelled lt pieces objects (omega (arith, p.count)) p.spelled.1 h.1.1 in (h.0, (omega (arith, k.1, h.1.0), k.0))

-- ---- under a plan's number

module _ (number : ℕ) where
  abbrev numbers : List LocalName → List LocalName
  numbers names = map (numbered_name number) names

  pieces_numbered : (ps : List HeldPiece) → names_of_pieces (map (numbered_piece number) ps) ≡ numbers (names_of_pieces ps)
  pieces_numbered [] = refl
  pieces_numbered (p ∷ ps) = ap (λ (l : List LocalName). numbered_name number p.local ∷ l) (pieces_numbered ps)

  numbers_both : (a b : List LocalName) → numbers (a ++ b) ≡ numbers a ++ numbers b
  numbers_both [] b = refl
  numbers_both (x ∷ a) b = ap (λ (l : List LocalName). numbered_name number x ∷ l) (numbers_both a b)

  objects_numbered : (os : List HeldObject) → names_of_objects (map (numbered_object number) os) ≡ numbers (names_of_objects os)
  objects_numbered [] = refl
  objects_numbered (o ∷ os) =
      ap (λ (l : List LocalName). l ++ names_of_objects (map (numbered_object number) os)) (pieces_numbered o.pieces)
      ∙ (ap (λ (l : List LocalName). numbers (names_of_pieces o.pieces) ++ l) (objects_numbered os) ∙ sym (numbers_both (names_of_pieces o.pieces) (names_of_objects os)))

  pub names_numbered : (c : HeldContent) → names_of (numbered_content number c) ≡ numbers (names_of c)
  names_numbered Gone = refl
  names_numbered (Row some objects) = objects_numbered objects

  module _ (stands : LocalName → Option (List ℕ)) where
    abbrev before : LocalName → Option (List ℕ)
    before name = stands (numbered_name number name)

    lens_numbered : (size len place : ℕ) (ps : List HeldPiece) → lens_from stands size len place (map (numbered_piece number) ps) ≡ lens_from before size len place ps
    lens_numbered size len place [] = refl
    lens_numbered size len place (p ∷ ps) = ap (λ (b : Bool). has_len (before p.local) (len_at size len place) && b) (lens_numbered size len (place + 1) ps)

    all_numbered : (size : ℕ) (os : List HeldObject) → list_all (has_lens stands size) (map (numbered_object number) os) ≡ list_all (has_lens before size) os
    all_numbered size [] = refl
    all_numbered size (o ∷ os) =
        ap (λ (n : ℕ). ((n == count_of size o.len) && lens_from stands size o.len 0 (map (numbered_piece number) o.pieces)) && list_all (has_lens stands size) (map (numbered_object number) os)) (length-map o.pieces (numbered_piece number))
        ∙ (ap (λ (b : Bool). ((length o.pieces == count_of size o.len) && b) && list_all (has_lens stands size) (map (numbered_object number) os)) (lens_numbered size o.len 0 o.pieces)
        ∙ ap (λ (b : Bool). has_lens before size o && b) (all_numbered size os))

  zeros_numbered : (os : List HeldObject) → zeros_for (map (numbered_object number) os) ≡ zeros_for os
  zeros_numbered [] = refl
  zeros_numbered (o ∷ os) = ap (λ (l : List (List ℕ)). replicate o.len 0 ∷ l) (zeros_numbered os)

  -- names before the number stay apart under it
  same_numbered : (a b : LocalName) → a.plan < number → b.plan < number → same_name (numbered_name number a) (numbered_name number b) ≡ same_name a b
  same_numbered a b x y = pick (a.plan == 0) refl (b.plan == 0) refl
    where
      pick : (s : Bool) → (a.plan == 0) ≡ s → (t : Bool) → (b.plan == 0) ≡ t
          → same_name (if s then record { plan = number; ordinal = a.ordinal } else a) (if t then record { plan = number; ordinal = b.ordinal } else b) ≡ same_name a b
      pick true p true q = ap (λ (e : Bool). e && (a.ordinal == b.ordinal)) (grind (arith, nat_tests))
      pick true p false q = ap (λ (e : Bool). e && (a.ordinal == b.ordinal)) (grind (arith, nat_tests))
      pick false p true q = ap (λ (e : Bool). e && (a.ordinal == b.ordinal)) (grind (arith, nat_tests))
      pick false p false q = refl

  among_numbered : (names : List LocalName) (name : LocalName) → AreOlderOrNew number names → name.plan < number → is_among (numbers names) (numbered_name number name) ≡ is_among names name
  among_numbered [] name older lt = refl
  among_numbered (n ∷ names) name older lt =
      ap (λ (b : Bool). b || is_among (numbers names) (numbered_name number name)) (same_numbered name n lt (older n (has_head n n names refl)))
      ∙ ap (λ (b : Bool). same_name name n || b) (among_numbered names name (λ q has. older q (has_tail n q names has)) lt)

  repeats_numbered : (met names : List LocalName) → AreOlderOrNew number met → AreOlderOrNew number names → repeats (numbers met) (numbers names) ≡ repeats met names
  repeats_numbered met [] a b = refl
  repeats_numbered met (n ∷ names) a b =
      let lt : n.plan < number = b n (has_head n n names refl) in
      ap (λ (t : Bool). t || repeats (numbers (n ∷ met)) (numbers names)) (among_numbered met n a lt)
      ∙ ap (λ (t : Bool). is_among met n || t) (repeats_numbered (n ∷ met) names (λ q has. either q has lt) (λ q has. b q (has_tail n q names has)))
    where
      either : (q : LocalName) → Has (n ∷ met) q → n.plan < number → q.plan < number
      either q has lt = ⊎_elim (λ same. subst (λ (x : LocalName). x.plan < number) (sym same) lt) (λ old. a q old) (has_cases n q met has)

  numbered_alike : (stands : LocalName → Option (List ℕ)) (c : HeldContent) → AreOlderOrNew number (names_of c) → IsAlike stands (λ name. stands (numbered_name number name)) (numbered_content number c) c
  numbered_alike stands Gone older = record { lens = λ size. refl; twice = refl; sized_is = refl }
  numbered_alike stands (Row some objects) older = record {
    lens = λ size. all_numbered stands size objects;
    twice = ap (repeats []) (objects_numbered objects) ∙ repeats_numbered [] (names_of_objects objects) (λ q has. absurd cc) older;
    sized_is = ap (λ (l : List (List ℕ)). contents.Row some l) (zeros_numbered objects);
  }

  pub numbered_right : (stands : LocalName → Option (List ℕ)) (table : Option TableRecord) (c : HeldContent) → AreOlderOrNew number (names_of c)
      → is_wrong stands table (numbered_content number c) ≡ is_wrong (λ name. stands (numbered_name number name)) table c
  numbered_right stands table c older = wrong_alike stands (λ name. stands (numbered_name number name)) (numbered_content number c) c (numbered_alike stands c older) table

  module _ (plan : IsPlanNumber number) where
    name_spelled : (name : LocalName) → HasLocalSpelling name → HasLocalSpelling (numbered_name number name)
    name_spelled name h = pick (name.plan == 0)
      where
        pick : (b : Bool) → HasLocalSpelling (if b then record { plan = number; ordinal = name.ordinal } else name)
        pick true = (omega (arith, plan.most), h.1)
        pick false = h

    held_pieces_spelled : (ps : List HeldPiece) → AllByRecursion HasHeldPiece ps → AllByRecursion HasHeldPiece (map (numbered_piece number) ps)
    held_pieces_spelled [] h = tt
    held_pieces_spelled (p ∷ ps) h = ((name_spelled p.local h.0.0, h.0.1), held_pieces_spelled ps h.1)

    held_objects_spelled : (os : List HeldObject) → AllByRecursion HasHeldObject os → AllByRecursion HasHeldObject (map (numbered_object number) os)
    held_objects_spelled [] h = tt
    held_objects_spelled (o ∷ os) h = ((h.0.0, (omega (arith, length-map o.pieces (numbered_piece number), h.0.1.0), held_pieces_spelled o.pieces h.0.1.1)), held_objects_spelled os h.1)

    pub held_spelled : (c : HeldContent) → HasHeld c → HasHeld (numbered_content number c)
    held_spelled Gone h = tt
    held_spelled (Row some objects) h = (h.0, (omega (arith, length-map objects (numbered_object number), h.1.0), held_objects_spelled objects h.1.1))
