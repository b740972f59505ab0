-- Which pieces hold new contents, and under which names.
use Rattle.std.proofs.Common.{◌≡◌, inl, inr, ⊎_elim, ◌⊎◌, ℕ, ◌+◌, ◌<◌, ◌≤◌, Bool, true, false, List, [], ◌∷◌, ◌++◌, length, map, drop, Option, Some, None, refl, sym, ◌∙◌, ap, subst, arith, length-append}
use Rattle.std.specs.Prelude.{◌||◌, IfSome, if◌then◌else◌}
use Rattle.std.specs.Str.{bytes_eq}
use Rattle.std.specs.List.{flat_map, AllByRecursion, Contains}
use Rattle.std.proofs.lemmas.Bool.{cases_eq, cases_lt}
use Rattle.std.proofs.lemmas.List.Elements.{All-from_recursion, recursion_from_All, All-contains, All-contains_itself}
use Rattle.stab_base.specs.declared.chunk_name.ChunkName.{ChunkName}
use Rattle.held_value.specs.declared.local_name.LocalName.{LocalName}
use Rattle.held_value.specs.declared.content.HeldPiece.{HeldPiece}
use Rattle.held_value.specs.declared.content.HeldObject.{HeldObject}
use Rattle.client_tables.specs.Held.{kept_in, or_name, piece_for, next_behind, brought_for, held_pieces, brought}
use Rattle.client_tables.specs.Plan.{IsBrought}
use Rattle.client_journal.specs.Names.{is_among, Has, names_of_pieces, names_of_objects}
use Rattle.client_journal.specs.There.{repeats}
use Rattle.client_journal.proofs.Lookups.{has_cases, has_head, has_tail}
use Rattle.client_journal.proofs.Wholes.{has_left, has_right, has_either, not_has}
use Rattle.held_contents.specs.Holding.{first_shown, brought_of, held_objects, pieces_shown, names_shown, brought_name}

-- ---- each once

has_not : (xs : List LocalName) (q : LocalName) → is_among xs q ≡ false → Has xs q → ⊥
has_not xs q is has = cc

-- no name stands there again behind itself
abbrev pub AreOnce : List LocalName → Type 0
AreOnce [] = Unit {0}
AreOnce (name ∷ names) = (Has names name → ⊥) × AreOnce names

abbrev IsApart : List LocalName → List LocalName → Type 0
IsApart met names = (name : LocalName) → Has names name → Has met name → ⊥

pub once_repeats : (met names : List LocalName) → AreOnce names → IsApart met names → repeats met names ≡ false
once_repeats met [] once apart = refl
once_repeats met (name ∷ names) once apart =
    let new : is_among met name ≡ false = not_has met name (apart name (has_head name name names refl)) in
    let rest : repeats (name ∷ met) names ≡ false =
    once_repeats (name ∷ met) names once.1 (λ q has among. ⊎_elim (λ same. once.0 (subst (λ (x : LocalName). Has names x) same has)) (λ old. apart q (has_tail name q names has) old) (has_cases name q met among)) in
    ap (λ (b : Bool). b || repeats (name ∷ met) names) new ∙ rest

neither : (a b : Bool) → a || b ≡ false → (a ≡ false) × (b ≡ false)
neither true b h = absurd cc
neither false b h = (refl, h)

pub repeats_once : (met names : List LocalName) → repeats met names ≡ false → AreOnce names × IsApart met names
repeats_once met [] h = (tt, λ q has old. cc)
repeats_once met (name ∷ names) h =
    let both = neither (is_among met name) (repeats (name ∷ met) names) h in
    let rest = repeats_once (name ∷ met) names both.1 in (
      (λ has. rest.1 name has (has_head name name met refl), rest.0),
      λ q has old. ⊎_elim (λ same. has_not met name both.0 (subst (λ (x : LocalName). Has met x) same old)) (λ there. rest.1 q there (has_tail name q met old)) (has_cases name q names has),
    )

-- ---- pieces, whatever holds of those that are shown

module _ (P : HeldPiece → Type 0) where
  abbrev AllShown : List (HeldPiece × List ℕ) → Type 0
  AllShown shown = AllByRecursion (λ (chunk : HeldPiece × List ℕ). P chunk.0) shown

  pub kept_from : (shown : List (HeldPiece × List ℕ)) (bytes : List ℕ) → AllShown shown → IfSome (kept_in shown bytes) P
  kept_from [] bytes h = tt
  kept_from (first ∷ shown) bytes h = pick (bytes_eq first.1 bytes)
    where
      pick : (b : Bool) → IfSome (if b then Some first.0 else None) P
      pick true = h.0
      pick false = tt

  less_shown : (shown : List (HeldPiece × List ℕ)) → AllShown shown → AllShown (drop 1 shown)
  less_shown [] h = tt
  less_shown (first ∷ shown) h = h.1

  -- and of the names that are given: what holds of both of a kept piece and its name holds of what becomes of it
  module _ (N : Option ChunkName → Type 0) (Q : HeldPiece → Type 0) (mixed : (kept : HeldPiece) (name : Option ChunkName) → P kept → N name → Q (record { local = kept.local; name = or_name name kept.name })) (count : ℕ) where
    abbrev pub IsEither : HeldPiece → Type 0
    IsEither piece = Q piece ⊎ (IsBrought count piece.local × N piece.name)

    abbrev AllGiven : List (Option ChunkName × List ℕ) → Type 0
    AllGiven chunks = AllByRecursion (λ (chunk : Option ChunkName × List ℕ). N chunk.0) chunks

    both_all : (xs ys : List HeldPiece) → AllByRecursion IsEither xs → AllByRecursion IsEither ys → AllByRecursion IsEither (xs ++ ys)
    both_all [] ys a b = b
    both_all (x ∷ xs) ys a b = (a.0, both_all xs ys a.1 b)

    object_pieces : (shown : List (HeldPiece × List ℕ)) (chunks : List (Option ChunkName × List ℕ)) (next : ℕ) → AllShown shown → AllGiven chunks → next + length (brought shown chunks) ≤ count
        → AllByRecursion IsEither (held_pieces shown chunks next)
    object_pieces shown [] next h given le = tt
    object_pieces shown (chunk ∷ chunks) next h given le = pick (kept_in shown chunk.1) (kept_from shown chunk.1 h) (omega (arith, le, length-append (brought_for chunk.1 (kept_in shown chunk.1)) (brought (drop 1 shown) chunks)))
        (λ n few. object_pieces (drop 1 shown) chunks n (less_shown shown h) given.1 few)
      where
        pick : (k : Option HeldPiece) → IfSome k P → next + (length (brought_for chunk.1 k) + length (brought (drop 1 shown) chunks)) ≤ count
            → ((n : ℕ) → n + length (brought (drop 1 shown) chunks) ≤ count → AllByRecursion IsEither (held_pieces (drop 1 shown) chunks n))
            → AllByRecursion IsEither (piece_for next chunk.0 k ∷ held_pieces (drop 1 shown) chunks (next_behind next k))
        pick None p few more = (inr ((refl, omega (arith, few)), given.0), more (next + 1) (omega (arith, few)))
        pick (Some kept) p few more = (inl (mixed kept chunk.0 p given.0), more next (omega (arith, few)))

    pub objects_pieces : (shown : List (List (HeldPiece × List ℕ))) (cuts : List (List (Option ChunkName × List ℕ))) (next : ℕ) → AllByRecursion AllShown shown → AllByRecursion AllGiven cuts
        → next + length (brought_of shown cuts) ≤ count
        → AllByRecursion IsEither (flat_map (λ (object : HeldObject). object.pieces) (held_objects shown cuts next))
    objects_pieces shown [] next h given le = tt
    objects_pieces shown (chunks ∷ cuts) next h given le =
        let sum = length-append (brought (first_shown shown) chunks) (brought_of (drop 1 shown) cuts) in
        both_all (held_pieces (first_shown shown) chunks next) _ (object_pieces (first_shown shown) chunks next (first_all shown h) given.0 (omega (arith, le, sum)))
        (objects_pieces (drop 1 shown) cuts (next + length (brought (first_shown shown) chunks)) (rest_all shown h) given.1 (omega (arith, le, sum)))
      where
        first_all : (shown : List (List (HeldPiece × List ℕ))) → AllByRecursion AllShown shown → AllShown (first_shown shown)
        first_all [] h = tt
        first_all (object ∷ shown) h = h.0

        rest_all : (shown : List (List (HeldPiece × List ℕ))) → AllByRecursion AllShown shown → AllByRecursion AllShown (drop 1 shown)
        rest_all [] h = tt
        rest_all (object ∷ shown) h = h.1

-- ---- the shown ones

-- what holds of all pieces that are shown, object by object
pub shown_each : (P : HeldPiece → Type 0) (shown : List (List (HeldPiece × List ℕ))) → AllByRecursion P (pieces_shown shown) → AllByRecursion (AllShown P) shown
shown_each P [] h = tt
shown_each P (object ∷ shown) h = (front object (pieces_shown shown) h, shown_each P shown (behind object (pieces_shown shown) h))
  where
    front : (object : List (HeldPiece × List ℕ)) (rest : List HeldPiece) → AllByRecursion P (map (λ (chunk : HeldPiece × List ℕ). chunk.0) object ++ rest) → AllShown P object
    front [] rest h = tt
    front (chunk ∷ object) rest h = (h.0, front object rest h.1)

    behind : (object : List (HeldPiece × List ℕ)) (rest : List HeldPiece) → AllByRecursion P (map (λ (chunk : HeldPiece × List ℕ). chunk.0) object ++ rest) → AllByRecursion P rest
    behind [] rest h = h
    behind (chunk ∷ object) rest h = behind object rest h.1

pub each_contained : (P : HeldPiece → Type 0) (pieces : List HeldPiece) (piece : HeldPiece) → AllByRecursion P pieces → Contains pieces piece → P piece
each_contained P pieces piece h there = All-contains P pieces piece (All-from_recursion P pieces h) there

pub contained_each : (pieces : List HeldPiece) → AllByRecursion (Contains pieces) pieces
contained_each pieces = recursion_from_All (Contains pieces) pieces (All-contains_itself pieces)

-- a name that stands there is a piece's
pub has_piece : (P : HeldPiece → Type 0) (pieces : List HeldPiece) (name : LocalName) → AllByRecursion P pieces → Has (names_of_pieces pieces) name → (piece : HeldPiece) × P piece × (piece.local ≡ name)
has_piece P [] name h has = absurd cc
has_piece P (piece ∷ pieces) name h has = ⊎_elim (λ same. (piece, h.0, sym same)) (λ more. has_piece P pieces name h.1 more) (has_cases piece.local name (names_of_pieces pieces) has)

pub joined : (a b : List HeldPiece) → names_of_pieces (a ++ b) ≡ names_of_pieces a ++ names_of_pieces b
joined [] b = refl
joined (x ∷ a) b = ap (λ (l : List LocalName). x.local ∷ l) (joined a b)

pub names_are : (objects : List HeldObject) → names_of_objects objects ≡ names_of_pieces (flat_map (λ (object : HeldObject). object.pieces) objects)
names_are [] = refl
names_are (object ∷ objects) = ap (λ (l : List LocalName). names_of_pieces object.pieces ++ l) (names_are objects) ∙ sym (joined object.pieces (flat_map (λ (o : HeldObject). o.pieces) objects))

-- a piece's name stands there
pub contained_has : (pieces : List HeldPiece) (piece : HeldPiece) → Contains pieces piece → Has (names_of_pieces pieces) piece.local
contained_has pieces piece there = each_contained (λ p. Has (names_of_pieces pieces) p.local) pieces piece (all pieces (λ q h. h)) there
  where
    all : (rest : List HeldPiece) → ((q : LocalName) → Has (names_of_pieces rest) q → Has (names_of_pieces pieces) q) → AllByRecursion (λ (p : HeldPiece). Has (names_of_pieces pieces) p.local) rest
    all [] to = tt
    all (p ∷ rest) to = (to p.local (has_head p.local p.local (names_of_pieces rest) refl), all rest (λ q h. to q (has_tail p.local q (names_of_pieces rest) h)))

-- ---- each brought chunk is named

object_brings : (shown : List (HeldPiece × List ℕ)) (chunks : List (Option ChunkName × List ℕ)) (next ordinal : ℕ) → next ≤ ordinal → ordinal < next + length (brought shown chunks)
    → Has (names_of_pieces (held_pieces shown chunks next)) (brought_name ordinal)
object_brings shown [] next ordinal le lt = absurd (omega arith)
object_brings shown (chunk ∷ chunks) next ordinal le lt =
    pick (kept_in shown chunk.1) (omega (arith, lt, length-append (brought_for chunk.1 (kept_in shown chunk.1)) (brought (drop 1 shown) chunks))) (λ n low high. object_brings (drop 1 shown) chunks n ordinal low high)
  where
    pick : (k : Option HeldPiece) → ordinal < next + (length (brought_for chunk.1 k) + length (brought (drop 1 shown) chunks))
        → ((n : ℕ) → n ≤ ordinal → ordinal < n + length (brought (drop 1 shown) chunks) → Has (names_of_pieces (held_pieces (drop 1 shown) chunks n)) (brought_name ordinal))
        → Has (names_of_pieces (piece_for next chunk.0 k ∷ held_pieces (drop 1 shown) chunks (next_behind next k))) (brought_name ordinal)
    pick None few more = elim (cases_eq ordinal next) [
      | inl same ↦ has_head (brought_name next) (brought_name ordinal) (names_of_pieces (held_pieces (drop 1 shown) chunks (next + 1))) (ap brought_name same)
      | inr other ↦ has_tail (brought_name next) (brought_name ordinal) (names_of_pieces (held_pieces (drop 1 shown) chunks (next + 1))) (more (next + 1) (omega arith) (omega (arith, few)))
    ]
    pick (Some kept) few more = has_tail kept.local (brought_name ordinal) (names_of_pieces (held_pieces (drop 1 shown) chunks next)) (more next le (omega (arith, few)))

pub objects_bring : (shown : List (List (HeldPiece × List ℕ))) (cuts : List (List (Option ChunkName × List ℕ))) (next ordinal : ℕ) → next ≤ ordinal → ordinal < next + length (brought_of shown cuts)
    → Has (names_of_objects (held_objects shown cuts next)) (brought_name ordinal)
objects_bring shown [] next ordinal le lt = absurd (omega arith)
objects_bring shown (chunks ∷ cuts) next ordinal le lt =
    let sum = length-append (brought (first_shown shown) chunks) (brought_of (drop 1 shown) cuts) in
    elim (cases_lt ordinal (next + length (brought (first_shown shown) chunks))) [
      | inr later ↦ has_right (names_of_pieces (held_pieces (first_shown shown) chunks next)) _ (brought_name ordinal)
          (objects_bring (drop 1 shown) cuts (next + length (brought (first_shown shown) chunks)) ordinal later (omega (arith, lt, sum)))
      | inl here ↦ has_left (names_of_pieces (held_pieces (first_shown shown) chunks next)) _ (brought_name ordinal) (object_brings (first_shown shown) chunks next ordinal le (omega arith))
    ]

-- ---- no name stands twice

-- a name of a chunk that is brought, of these ordinals
record IsNewIn (least most : ℕ) (name : LocalName) : Type 0 where
  plan : name.plan ≡ 0
  above : least ≤ name.ordinal
  below : name.ordinal < most

abbrev AreNumbered : List LocalName → Type 0
AreNumbered names = (name : LocalName) → Has names name → name.plan ≡ 0 → ⊥

pub once_left : (xs ys : List LocalName) → AreOnce (xs ++ ys) → AreOnce xs
once_left [] ys h = tt
once_left (x ∷ xs) ys h = (λ has. h.0 (has_left xs ys x has), once_left xs ys h.1)

pub once_right : (xs ys : List LocalName) → AreOnce (xs ++ ys) → AreOnce ys
once_right [] ys h = h
once_right (x ∷ xs) ys h = once_right xs ys h.1

pub once_apart : (xs ys : List LocalName) → AreOnce (xs ++ ys) → (name : LocalName) → Has xs name → Has ys name → ⊥
once_apart [] ys h name a b = cc
once_apart (x ∷ xs) ys h name a b =
    ⊎_elim (λ same. h.0 (has_right xs ys x (subst (λ (n : LocalName). Has ys n) same b))) (λ more. once_apart xs ys h.1 name more b) (has_cases x name xs a)

pub once_both : (xs ys : List LocalName) → AreOnce xs → AreOnce ys → ((name : LocalName) → Has xs name → Has ys name → ⊥) → AreOnce (xs ++ ys)
once_both [] ys a b apart = b
once_both (x ∷ xs) ys a b apart = (
  λ has. ⊎_elim (λ l. a.0 l) (λ r. apart x (has_head x x xs refl) r) (has_either xs ys x has),
  once_both xs ys a.1 b (λ q l r. apart q (has_tail x q xs l) r),
)

abbrev pub names_in_object : List (HeldPiece × List ℕ) → List LocalName
names_in_object shown = names_of_pieces (map (λ (chunk : HeldPiece × List ℕ). chunk.0) shown)

pub names_first : (object : List (HeldPiece × List ℕ)) (shown : List (List (HeldPiece × List ℕ))) → names_shown (object ∷ shown) ≡ names_in_object object ++ names_shown shown
names_first object shown = joined (map (λ (chunk : HeldPiece × List ℕ). chunk.0) object) (pieces_shown shown)

-- ---- in one object

kept_name : (first : HeldPiece × List ℕ) (bytes : List ℕ) (kept : HeldPiece) → (b : Bool) → (if b then Some first.0 else None) ≡ Some kept → first.0 ≡ kept
kept_name first bytes kept true is = some_same first.0 kept is
  where
    some_same : (a b : HeldPiece) → Some a ≡ Some b → a ≡ b
    some_same a b e = cc
kept_name first bytes kept false is = absurd cc

object_known : (shown : List (HeldPiece × List ℕ)) (chunks : List (Option ChunkName × List ℕ)) (next : ℕ) (name : LocalName) → Has (names_of_pieces (held_pieces shown chunks next)) name
    → Has (names_in_object shown) name ⊎ IsNewIn next (next + length (brought shown chunks)) name
object_known shown [] next name has = absurd cc
object_known shown (chunk ∷ chunks) next name has = pick (kept_in shown chunk.1) refl has (λ n there. object_known (drop 1 shown) chunks n name there)
  where
    sum : length (brought shown (chunk ∷ chunks)) ≡ length (brought_for chunk.1 (kept_in shown chunk.1)) + length (brought (drop 1 shown) chunks)
    sum = length-append (brought_for chunk.1 (kept_in shown chunk.1)) (brought (drop 1 shown) chunks)

    older : (shown : List (HeldPiece × List ℕ)) → Has (names_in_object (drop 1 shown)) name → Has (names_in_object shown) name
    older [] h = h
    older (first ∷ more) h = has_tail first.0.local name (names_in_object more) h

    held : (shown : List (HeldPiece × List ℕ)) (kept : HeldPiece) → kept_in shown chunk.1 ≡ Some kept → name ≡ kept.local → Has (names_in_object shown) name
    held [] kept is same = absurd cc
    held (first ∷ more) kept is same = has_head first.0.local name (names_in_object more) (same ∙ sym (ap (λ (p : HeldPiece). p.local) (kept_name first chunk.1 kept (bytes_eq first.1 chunk.1) is)))

    pick : (k : Option HeldPiece) → kept_in shown chunk.1 ≡ k → Has (names_of_pieces (piece_for next chunk.0 k ∷ held_pieces (drop 1 shown) chunks (next_behind next k))) name
        → ((n : ℕ) → Has (names_of_pieces (held_pieces (drop 1 shown) chunks n)) name → Has (names_in_object (drop 1 shown)) name ⊎ IsNewIn n (n + length (brought (drop 1 shown) chunks)) name)
        → Has (names_in_object shown) name ⊎ IsNewIn next (next + length (brought shown (chunk ∷ chunks))) name
    pick None is has known =
        let count : length (brought shown (chunk ∷ chunks)) ≡ 1 + length (brought (drop 1 shown) chunks) = sum ∙ ap (λ (k : Option HeldPiece). length (brought_for chunk.1 k) + length (brought (drop 1 shown) chunks)) is in
        ⊎_elim (λ same. inr (record { plan = ap (λ (n : LocalName). n.plan) same; above = omega (arith, ap (λ (n : LocalName). n.ordinal) same); below = omega (arith, count, ap (λ (n : LocalName). n.ordinal) same) }))
        (λ more. ⊎_elim (λ old. inl (older shown old)) (λ new. inr (record { plan = new.plan; above = omega (arith, new.above); below = omega (arith, new.below, count) })) (known (next + 1) more))
        (has_cases (brought_name next) name (names_of_pieces (held_pieces (drop 1 shown) chunks (next + 1))) has)
    pick (Some kept) is has known =
        let count : length (brought shown (chunk ∷ chunks)) ≡ length (brought (drop 1 shown) chunks) = sum ∙ (ap (λ (k : Option HeldPiece). length (brought_for chunk.1 k) + length (brought (drop 1 shown) chunks)) is ∙ omega arith) in
        ⊎_elim (λ same. inl (held shown kept is same))
        (λ more. ⊎_elim (λ old. inl (older shown old)) (λ new. inr (record { plan = new.plan; above = new.above; below = omega (arith, new.below, count) })) (known next more))
        (has_cases kept.local name (names_of_pieces (held_pieces (drop 1 shown) chunks next)) has)

object_once : (shown : List (HeldPiece × List ℕ)) (chunks : List (Option ChunkName × List ℕ)) (next : ℕ) → AreOnce (names_in_object shown) → AreNumbered (names_in_object shown)
    → AreOnce (names_of_pieces (held_pieces shown chunks next))
object_once shown [] next once numbered = tt
object_once shown (chunk ∷ chunks) next once numbered = pick (kept_in shown chunk.1) refl (λ n. object_once (drop 1 shown) chunks n (once_rest shown once) (numbered_rest shown numbered))
  where
    once_rest : (shown : List (HeldPiece × List ℕ)) → AreOnce (names_in_object shown) → AreOnce (names_in_object (drop 1 shown))
    once_rest [] h = tt
    once_rest (first ∷ more) h = h.1

    numbered_rest : (shown : List (HeldPiece × List ℕ)) → AreNumbered (names_in_object shown) → AreNumbered (names_in_object (drop 1 shown))
    numbered_rest [] h = h
    numbered_rest (first ∷ more) h = λ q has. h q (has_tail first.0.local q (names_in_object more) has)

    not_again : (shown : List (HeldPiece × List ℕ)) (kept : HeldPiece) → AreOnce (names_in_object shown) → AreNumbered (names_in_object shown) → kept_in shown chunk.1 ≡ Some kept
        → (Has (names_in_object (drop 1 shown)) kept.local → ⊥) × (kept.local.plan ≡ 0 → ⊥)
    not_again [] kept o n is = absurd cc
    not_again (first ∷ more) kept o n is =
        let same : first.0.local ≡ kept.local = ap (λ (p : HeldPiece). p.local) (kept_name first chunk.1 kept (bytes_eq first.1 chunk.1) is) in (
          λ has. o.0 (subst (λ (q : LocalName). Has (names_in_object more) q) (sym same) has),
          n kept.local (has_head first.0.local kept.local (names_in_object more) (sym same)),
        )

    pick : (k : Option HeldPiece) → kept_in shown chunk.1 ≡ k → ((n : ℕ) → AreOnce (names_of_pieces (held_pieces (drop 1 shown) chunks n))) → AreOnce (names_of_pieces (piece_for next chunk.0 k ∷ held_pieces (drop 1 shown) chunks (next_behind next k)))
    pick None is rest_once = (
      λ has. ⊎_elim (λ old. numbered_rest shown numbered (brought_name next) old refl) (λ new. absurd (omega (arith, new.above))) (object_known (drop 1 shown) chunks (next + 1) (brought_name next) has),
      rest_once (next + 1),
    )
    pick (Some kept) is rest_once =
        let other = not_again shown kept once numbered is in (
          λ has. ⊎_elim (λ old. other.0 old) (λ new. other.1 new.plan) (object_known (drop 1 shown) chunks next kept.local has),
          rest_once next,
        )

-- ---- in all objects

first_part : (shown : List (List (HeldPiece × List ℕ))) → names_shown shown ≡ names_in_object (first_shown shown) ++ names_shown (drop 1 shown)
first_part [] = refl
first_part (object ∷ shown) = names_first object shown

objects_known : (shown : List (List (HeldPiece × List ℕ))) (cuts : List (List (Option ChunkName × List ℕ))) (next : ℕ) (name : LocalName) → Has (names_of_objects (held_objects shown cuts next)) name
    → Has (names_shown shown) name ⊎ IsNewIn next (next + length (brought_of shown cuts)) name
objects_known shown [] next name has = absurd cc
objects_known shown (chunks ∷ cuts) next name has =
    let sum = length-append (brought (first_shown shown) chunks) (brought_of (drop 1 shown) cuts) in
    let shown_is = first_part shown in
    ⊎_elim
    (λ here. ⊎_elim (λ old. inl (subst (λ (l : List LocalName). Has l name) (sym shown_is) (has_left (names_in_object (first_shown shown)) (names_shown (drop 1 shown)) name old)))
    (λ new. inr (record { plan = new.plan; above = new.above; below = omega (arith, new.below, sum) })) (object_known (first_shown shown) chunks next name here))
    (λ more. ⊎_elim (λ old. inl (subst (λ (l : List LocalName). Has l name) (sym shown_is) (has_right (names_in_object (first_shown shown)) (names_shown (drop 1 shown)) name old)))
    (λ new. inr (record { plan = new.plan; above = omega (arith, new.above); below = omega (arith, new.below, sum) }))
    (objects_known (drop 1 shown) cuts (next + length (brought (first_shown shown) chunks)) name more))
    (has_either (names_of_pieces (held_pieces (first_shown shown) chunks next)) _ name has)

pub objects_once : (shown : List (List (HeldPiece × List ℕ))) (cuts : List (List (Option ChunkName × List ℕ))) (next : ℕ) → AreOnce (names_shown shown) → ((name : LocalName) → Has (names_shown shown) name → name.plan ≡ 0 → ⊥)
    → AreOnce (names_of_objects (held_objects shown cuts next))
objects_once shown [] next once numbered = tt
objects_once shown (chunks ∷ cuts) next once numbered =
    once_both (names_of_pieces (held_pieces (first_shown shown) chunks next)) (names_of_objects (held_objects (drop 1 shown) cuts (next + length (brought (first_shown shown) chunks))))
    (object_once (first_shown shown) chunks next (once_left (names_in_object (first_shown shown)) (names_shown (drop 1 shown)) split) front_numbered)
    (objects_once (drop 1 shown) cuts (next + length (brought (first_shown shown) chunks)) (once_right (names_in_object (first_shown shown)) (names_shown (drop 1 shown)) split) behind_numbered)
    apart
  where
    split : AreOnce ((names_in_object (first_shown shown)) ++ (names_shown (drop 1 shown)))
    split = subst AreOnce (first_part shown) once

    front_numbered : AreNumbered (names_in_object (first_shown shown))
    front_numbered name has = numbered name (subst (λ (l : List LocalName). Has l name) (sym (first_part shown)) (has_left (names_in_object (first_shown shown)) (names_shown (drop 1 shown)) name has))

    behind_numbered : AreNumbered (names_shown (drop 1 shown))
    behind_numbered name has = numbered name (subst (λ (l : List LocalName). Has l name) (sym (first_part shown)) (has_right (names_in_object (first_shown shown)) (names_shown (drop 1 shown)) name has))

    apart : (name : LocalName) → Has (names_of_pieces (held_pieces (first_shown shown) chunks next)) name
        → Has (names_of_objects (held_objects (drop 1 shown) cuts (next + length (brought (first_shown shown) chunks)))) name → ⊥
    apart name a b =
        ⊎_elim
        (λ old. ⊎_elim (λ older. once_apart (names_in_object (first_shown shown)) (names_shown (drop 1 shown)) split name old older) (λ new. front_numbered name old new.plan) (objects_known (drop 1 shown) cuts (next + length (brought (first_shown shown) chunks)) name b))
        (λ new. ⊎_elim (λ older. behind_numbered name older new.plan) (λ other. omega (arith, new.below, other.above)) (objects_known (drop 1 shown) cuts (next + length (brought (first_shown shown) chunks)) name b))
        (object_known (first_shown shown) chunks next name a)
