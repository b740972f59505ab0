-- What a client makes of its writes spells their chunks.
use Rattle.std.proofs.Common.{◌≡◌, ◌⊎◌, inl, inr, ℕ, ◌+◌, ◌<◌, Bool, true, false, List, [], ◌∷◌, ◌++◌, length, Option, Some, None, refl, sym, ◌∙◌, ap, subst, arith}
use Rattle.std.specs.Prelude.{◌==◌, ◌&&◌, ◌||◌, not, map, zip, drop, if◌then◌else◌}
use Rattle.std.specs.List.{list_any, list_all}
use Rattle.std.specs.Str.{bytes_eq}
use Rattle.std.proofs.lemmas.Bool.{and_parts, eqb-true}
use Rattle.std.proofs.lemmas.Bool.Decides.{nat_tests}
use Rattle.std.proofs.lemmas.List.{map-append}
use Rattle.std.proofs.lemmas.List.Folds.{list_all-append}
use Rattle.stab_base.specs.declared.chunk_name.ChunkName.{ChunkName}
use Rattle.row_value.specs.declared.pieces.Piece.{Piece}
use Rattle.row_value.specs.declared.pieces.Piece.TheVariants.{Keep, Fresh}
use Rattle.step_tables.specs.Slots.{InFlight, Shadow}
use Rattle.step_tables.specs.Messages.{Header}
use Rattle.step_tables.specs.ClientMoves.{chunks_read, spelled, known, whole_out, shadow_at, shadow_of}
use Rattle.step_tables.specs.Chunks.{Named, cut, same_name, is_among, are_apart, flat, first_of, others_of, each_chunk, is_of_each, objects_of, name_of_new, name_at, names_at, kept_in, are_counted}
use Rattle.step_tables.specs.Chunks.{is_of_version, is_named, is_there, has_kept, kept_as, piece_by, next_by, against, next_behind, all_against, fresh_from, all_fresh}
use Rattle.client_laws.specs.Spells.{known_in, IsApart, Spells, KeepsOthers}

both : (a b : Bool) → a ≡ true → b ≡ true → (a && b) ≡ true
both true b is e = e
both false b is e = absurd cc

neither : (a b : Bool) → (a || b) ≡ false → (a ≡ false) × (b ≡ false)
neither true b e = absurd cc
neither false b e = (refl, e)

not_true : (b : Bool) → not b ≡ true → b ≡ false
not_true true e = absurd cc
not_true false e = refl

-- ---- pieces one behind the other

kept-append : (xs ys : List Piece) → kept_in (xs ++ ys) ≡ kept_in xs ++ kept_in ys
kept-append [] ys = refl
kept-append (Keep name ∷ xs) ys = ap (λ (l : List ChunkName). name ∷ l) (kept-append xs ys)
kept-append (Fresh ordinal ∷ xs) ys = kept-append xs ys

counted-append : (next : ℕ) (xs ys : List Piece) → are_counted next xs ≡ true → are_counted (next_behind next xs) ys ≡ true → are_counted next (xs ++ ys) ≡ true
counted-append next [] ys first more = more
counted-append next (Keep name ∷ xs) ys first more = counted-append next xs ys first more
counted-append next (Fresh ordinal ∷ xs) ys first more =
    let parts = and_parts (ordinal == next) (are_counted (next + 1) xs) first in
    both (ordinal == next) (are_counted (next + 1) (xs ++ ys)) parts.0 (counted-append (next + 1) xs ys parts.1 more)

known-append : (xs ys : List (Option ChunkName)) → known_in (xs ++ ys) ≡ known_in xs ++ known_in ys
known-append [] ys = refl
known-append (None ∷ xs) ys = known-append xs ys
known-append (Some name ∷ xs) ys = ap (λ (l : List ChunkName). name ∷ l) (known-append xs ys)

-- ---- all chunks new

same_number : (n : ℕ) → (n == n) ≡ true
same_number n = grind (arith, nat_tests)

kept_fresh : (next : ℕ) (pieces : List Piece) → kept_in (fresh_from next pieces) ≡ []
kept_fresh next [] = refl
kept_fresh next (piece ∷ pieces) = kept_fresh (next + 1) pieces

length_fresh : (next : ℕ) (pieces : List Piece) → length (fresh_from next pieces) ≡ length pieces
length_fresh next [] = refl
length_fresh next (piece ∷ pieces) = let rest = length_fresh (next + 1) pieces in omega (arith, rest)

counted_fresh : (next : ℕ) (pieces : List Piece) → (are_counted next (fresh_from next pieces) ≡ true) × (next_behind next (fresh_from next pieces) ≡ next + length pieces)
counted_fresh next [] = (refl, omega arith)
counted_fresh next (piece ∷ pieces) =
    let rest = counted_fresh (next + 1) pieces in
    let behind = rest.1 in
    (both (next == next) (are_counted (next + 1) (fresh_from (next + 1) pieces)) (same_number next) rest.0, behind ∙ omega arith)

kept_all_fresh : (next : ℕ) (pieces : List (List Piece)) → kept_in (flat (all_fresh next pieces)) ≡ []
kept_all_fresh next [] = refl
kept_all_fresh next (object ∷ objects) =
    kept-append (fresh_from next object) (flat (all_fresh (next + length object) objects))
    ∙ ap (λ (l : List ChunkName). l ++ kept_in (flat (all_fresh (next + length object) objects))) (kept_fresh next object)
    ∙ kept_all_fresh (next + length object) objects

counted_all_fresh : (next : ℕ) (pieces : List (List Piece)) → are_counted next (flat (all_fresh next pieces)) ≡ true
counted_all_fresh next [] = refl
counted_all_fresh next (object ∷ objects) =
    let here = counted_fresh next object in
    counted-append next (fresh_from next object) (flat (all_fresh (next + length object) objects)) here.0
    (subst (λ (n : ℕ). are_counted n (flat (all_fresh (next + length object) objects)) ≡ true) (sym here.1) (counted_all_fresh (next + length object) objects))

each_fresh : (size next : ℕ) (pieces : List (List Piece)) (objects : List (List ℕ)) → is_of_each size (all_fresh next pieces) objects ≡ is_of_each size pieces objects
each_fresh size next [] [] = refl
each_fresh size next [] (object ∷ objects) = refl
each_fresh size next (here ∷ pieces) [] = refl
each_fresh size next (here ∷ pieces) (object ∷ objects) =
    ap (λ (n : ℕ). (n == length (cut size object)) && is_of_each size (all_fresh (next + length here) pieces) objects) (length_fresh next here)
    ∙ ap (λ (b : Bool). (length here == length (cut size object)) && b) (each_fresh size (next + length here) pieces objects)

pub whole_spells : (size : ℕ) (out : InFlight) → Spells size out → Spells size (whole_out out)
whole_spells size out spells =
    let pieces : List (List Piece) = all_fresh 0 out.pieces in
    let each : is_of_each size out.pieces (objects_of out.content) ≡ true =
    (and_parts (is_of_each size out.pieces (objects_of out.content)) (are_counted 0 (flat out.pieces) && are_apart (kept_in (flat out.pieces))) spells).0 in
    both (is_of_each size pieces (objects_of out.content)) (are_counted 0 (flat pieces) && are_apart (kept_in (flat pieces))) (each_fresh size 0 out.pieces (objects_of out.content) ∙ each)
    (both (are_counted 0 (flat pieces)) (are_apart (kept_in (flat pieces))) (counted_all_fresh 0 out.pieces) (ap are_apart (kept_all_fresh 0 out.pieces)))

-- no row lacks a chunk of it
fresh_there : (row : List Named) (next : ℕ) (pieces : List Piece) (chunks : List (List ℕ)) → list_all (is_there row) (zip (fresh_from next pieces) chunks) ≡ true
fresh_there row next [] chunks = refl
fresh_there row next (piece ∷ pieces) [] = refl
fresh_there row next (piece ∷ pieces) (chunk ∷ chunks) = fresh_there row (next + 1) pieces chunks

all_there : (size : ℕ) (row : List Named) (next : ℕ) (pieces : List (List Piece)) (objects : List (List ℕ))
    → list_all (is_there row) (flat (each_chunk size (all_fresh next pieces) objects)) ≡ true
all_there size row next pieces [] = refl
all_there size row next [] (object ∷ objects) = all_there size row next [] objects
all_there size row next (here ∷ pieces) (object ∷ objects) =
    list_all-append (is_there row) (zip (fresh_from next here) (cut size object)) (flat (each_chunk size (all_fresh (next + length here) pieces) objects))
    ∙ both (list_all (is_there row) (zip (fresh_from next here) (cut size object)))
    (list_all (is_there row) (flat (each_chunk size (all_fresh (next + length here) pieces) objects)))
    (fresh_there row next here (cut size object)) (all_there size row (next + length here) pieces objects)

pub whole_is_there : (size : ℕ) (held : List (List Named)) (out : InFlight) → has_kept size held out.content (whole_out out).pieces ≡ true
whole_is_there size held out = all_there size (flat held) 0 out.pieces (objects_of out.content)

-- ---- against what was read

length_against : (next : ℕ) (old : List (Option ChunkName × List ℕ)) (chunks : List (List ℕ)) → length (against next old chunks) ≡ length chunks
length_against next old [] = refl
length_against next old (chunk ∷ chunks) = let rest = length_against (next_by next (kept_as old chunk)) (drop 1 old) chunks in omega (arith, rest)

counted_by : (next : ℕ) (o : Option ChunkName) (pieces : List Piece) → are_counted (next_by next o) pieces ≡ true → are_counted next (piece_by next o ∷ pieces) ≡ true
counted_by next None pieces e = both (next == next) (are_counted (next + 1) pieces) (same_number next) e
counted_by next (Some name) pieces e = e

counted_against : (next : ℕ) (old : List (Option ChunkName × List ℕ)) (chunks : List (List ℕ)) → are_counted next (against next old chunks) ≡ true
counted_against next old [] = refl
counted_against next old (chunk ∷ chunks) =
    counted_by next (kept_as old chunk) (against (next_by next (kept_as old chunk)) (drop 1 old) chunks) (counted_against (next_by next (kept_as old chunk)) (drop 1 old) chunks)

counted_all_against : (next : ℕ) (old : List (List (Option ChunkName × List ℕ))) (objects : List (List (List ℕ))) → are_counted next (flat (all_against next old objects)) ≡ true
counted_all_against next old [] = refl
counted_all_against next old (object ∷ objects) =
    let here : List Piece = against next (first_of old) object in
    counted-append next here (flat (all_against (next_behind next here) (others_of old) objects)) (counted_against next (first_of old) object)
    (counted_all_against (next_behind next here) (others_of old) objects)

each_against : (size next : ℕ) (old : List (List (Option ChunkName × List ℕ))) (objects : List (List ℕ)) → is_of_each size (all_against next old (map (cut size) objects)) objects ≡ true
each_against size next old [] = refl
each_against size next old (object ∷ objects) =
    let here : List Piece = against next (first_of old) (cut size object) in
    both (length here == length (cut size object)) (is_of_each size (all_against (next_behind next here) (others_of old) (map (cut size) objects)) objects)
    (ap (λ (n : ℕ). n == length (cut size object)) (length_against next (first_of old) (cut size object)) ∙ same_number (length (cut size object)))
    (each_against size (next_behind next here) (others_of old) objects)

-- ---- what is kept is a part of what is known, in its order

abbrev IsPart : List ChunkName → List ChunkName → Type 0
IsPart xs [] = xs ≡ []
IsPart xs (y ∷ ys) = IsPart xs ys ⊎ ((zs : List ChunkName) × (xs ≡ y ∷ zs) × IsPart zs ys)

part_none : (ys : List ChunkName) → IsPart [] ys
part_none [] = refl
part_none (y ∷ ys) = inl (part_none ys)

part_append : (xs zs ys ws : List ChunkName) → IsPart xs ys → IsPart zs ws → IsPart (xs ++ zs) (ys ++ ws)
part_append xs zs [] ws p q = subst (λ (l : List ChunkName). IsPart (l ++ zs) ws) (sym p) q
part_append xs zs (y ∷ ys) ws (inl p) q = inl (part_append xs zs ys ws p q)
part_append xs zs (y ∷ ys) ws (inr p) q = inr (p.0 ++ zs, ap (λ (l : List ChunkName). l ++ zs) p.1, part_append p.0 zs ys ws p.2 q)

part_among : (name : ChunkName) (xs ys : List ChunkName) → IsPart xs ys → is_among ys name ≡ false → is_among xs name ≡ false
part_among name xs [] p e = ap (λ (l : List ChunkName). is_among l name) p
part_among name xs (y ∷ ys) p e = by_test (same_name name y) refl e (λ zs q. part_among name zs ys q (neither (same_name name y) (is_among ys name) e).1) p
  where
    by_test : (b : Bool) → same_name name y ≡ b → (b || is_among ys name) ≡ false → ((zs : List ChunkName) → IsPart zs ys → is_among zs name ≡ false)
        → IsPart xs (y ∷ ys) → is_among xs name ≡ false
    by_test true is e more p = absurd cc
    by_test false is e more (inl p) = more xs p
    by_test false is e more (inr p) = ap (λ (l : List ChunkName). is_among l name) p.1 ∙ ap (λ (b : Bool). b || is_among p.0 name) is ∙ more p.0 p.2

part_apart : (xs ys : List ChunkName) → IsPart xs ys → are_apart ys ≡ true → are_apart xs ≡ true
part_apart xs [] p e = ap are_apart p
part_apart xs (y ∷ ys) (inl p) e = part_apart xs ys p (and_parts (not (is_among ys y)) (are_apart ys) e).1
part_apart xs (y ∷ ys) (inr p) e =
    let parts = and_parts (not (is_among ys y)) (are_apart ys) e in
    ap are_apart p.1 ∙ both (not (is_among p.0 y)) (are_apart p.0) (ap not (part_among y p.0 ys p.2 (not_true (is_among ys y) parts.0))) (part_apart p.0 ys p.2 parts.1)

none_kept : (next : ℕ) (chunks : List (List ℕ)) → kept_in (against next [] chunks) ≡ []
none_kept next [] = refl
none_kept next (chunk ∷ chunks) = none_kept (next + 1) chunks

-- a chunk's piece and those behind it, of an object in whose place this name and these stood
abbrev IsKeptOf : ℕ → List (Option ChunkName) → List (List ℕ) → List (List ℕ) → Option ChunkName → Option ChunkName → Type 0
IsKeptOf next names held chunks o name = IsPart (kept_in (piece_by next o ∷ against (next_by next o) (zip names held) chunks)) (known_in (name ∷ names))

object_part : (next : ℕ) (names : List (Option ChunkName)) (held chunks : List (List ℕ)) → IsPart (kept_in (against next (zip names held) chunks)) (known_in names)
object_part next names held [] = part_none (known_in names)
object_part next [] held (chunk ∷ chunks) = none_kept next (chunk ∷ chunks)
object_part next (name ∷ names) [] (chunk ∷ chunks) =
    subst (λ (l : List ChunkName). IsPart l (known_in (name ∷ names))) (sym (none_kept next (chunk ∷ chunks))) (part_none (known_in (name ∷ names)))
object_part next (name ∷ names) (here ∷ held) (chunk ∷ chunks) =
    by_test (bytes_eq here chunk) name (object_part next names held chunks) (object_part (next + 1) names held chunks)
  where
    by_test : (b : Bool) (n : Option ChunkName) → IsPart (kept_in (against next (zip names held) chunks)) (known_in names)
        → IsPart (kept_in (against (next + 1) (zip names held) chunks)) (known_in names) → IsKeptOf next names held chunks (if b then n else None) n
    by_test true (Some x) kept new = inr (kept_in (against next (zip names held) chunks), refl, kept)
    by_test true None kept new = new
    by_test false (Some x) kept new = inl new
    by_test false None kept new = new

nothing_kept : (next : ℕ) (objects : List (List (List ℕ))) → kept_in (flat (all_against next [] objects)) ≡ []
nothing_kept next [] = refl
nothing_kept next (object ∷ objects) =
    let here : List Piece = against next [] object in
    kept-append here (flat (all_against (next_behind next here) [] objects))
    ∙ ap (λ (l : List ChunkName). l ++ kept_in (flat (all_against (next_behind next here) [] objects))) (none_kept next object)
    ∙ nothing_kept (next_behind next here) objects

unnamed_kept : (size next : ℕ) (held : List (List ℕ)) (objects : List (List (List ℕ))) → kept_in (flat (all_against next (each_chunk {X = Option ChunkName} size [] held) objects)) ≡ []
unnamed_kept size next held [] = refl
unnamed_kept size next [] (object ∷ objects) = nothing_kept next (object ∷ objects)
unnamed_kept size next (here ∷ held) (object ∷ objects) =
    let pieces : List Piece = against next [] object in
    let others : List (List Piece) = all_against (next_behind next pieces) (each_chunk {X = Option ChunkName} size [] held) objects in
    kept-append pieces (flat others) ∙ ap (λ (l : List ChunkName). l ++ kept_in (flat others)) (none_kept next object) ∙ unnamed_kept size (next_behind next pieces) held objects

objects_part : (size next : ℕ) (names : List (List (Option ChunkName))) (held : List (List ℕ)) (objects : List (List (List ℕ)))
    → IsPart (kept_in (flat (all_against next (each_chunk size names held) objects))) (known_in (flat names))
objects_part size next names held [] = part_none (known_in (flat names))
objects_part size next names [] (object ∷ objects) =
    subst (λ (l : List ChunkName). IsPart l (known_in (flat names))) (sym (nothing_kept next (object ∷ objects))) (part_none (known_in (flat names)))
objects_part size next [] (here ∷ held) (object ∷ objects) = unnamed_kept size next (here ∷ held) (object ∷ objects)
objects_part size next (names ∷ more) (here ∷ held) (object ∷ objects) =
    let pieces : List Piece = against next (zip names (cut size here)) object in
    let others : List (List Piece) = all_against (next_behind next pieces) (each_chunk size more held) objects in
    subst (λ (l : List ChunkName). IsPart l (known_in (names ++ flat more))) (sym (kept-append pieces (flat others)))
    (subst (λ (l : List ChunkName). IsPart (kept_in pieces ++ kept_in (flat others)) l) (sym (known-append names (flat more)))
    (part_append (kept_in pieces) (kept_in (flat others)) (known_in names) (known_in (flat more)) (object_part next names (cut size here) object)
    (objects_part size (next_behind next pieces) more held objects)))

pub spelled_spells : (size : ℕ) (shadow : Option Shadow) (out : InFlight) → IsApart shadow → Spells size (spelled size shadow out)
spelled_spells size shadow out k =
    let pieces : List (List Piece) = (spelled size shadow out).pieces in
    both (is_of_each size pieces (objects_of out.content)) (are_counted 0 (flat pieces) && are_apart (kept_in (flat pieces)))
    (each_against size 0 (chunks_read size shadow) (objects_of out.content))
    (both (are_counted 0 (flat pieces)) (are_apart (kept_in (flat pieces))) (counted_all_against 0 (chunks_read size shadow) (map (cut size) (objects_of out.content))) (apart shadow k))
  where
    apart : (shadow : Option Shadow) → IsApart shadow → are_apart (kept_in (flat (all_against 0 (chunks_read size shadow) (map (cut size) (objects_of out.content))))) ≡ true
    apart None k = ap are_apart (nothing_kept 0 (map (cut size) (objects_of out.content)))
    apart (Some x) k = part_apart _ (known_in (flat x.names)) (objects_part size 0 x.names (objects_of x.content) (map (cut size) (objects_of out.content))) k

-- ---- what is read, and what is accepted

known_object : (names : List ChunkName) → known_in (map (λ (name : ChunkName). Some name) names) ≡ names
known_object [] = refl
known_object (name ∷ names) = ap (λ (l : List ChunkName). name ∷ l) (known_object names)

known_flat : (names : List (List ChunkName)) → known_in (flat (known names)) ≡ flat names
known_flat [] = refl
known_flat (object ∷ objects) =
    known-append (map (λ (name : ChunkName). Some name) object) (flat (known objects))
    ∙ ap (λ (l : List ChunkName). l ++ known_in (flat (known objects))) (known_object object)
    ∙ ap (λ (l : List ChunkName). object ++ l) (known_flat objects)

pub read_apart : (size : ℕ) (header : Header) → is_named size header.content header.names ≡ true → IsApart (Some (shadow_of header))
read_apart size header named =
    ap are_apart (known_flat header.names) ∙ (and_parts (is_of_each size header.names (objects_of header.content)) (are_apart (flat header.names)) named).1

kept_apart : (version : ℕ) (name : ChunkName) (pieces : List Piece) → is_of_version version name ≡ false → is_among (kept_in pieces) name ≡ false
    → is_among (map (name_at version) pieces) name ≡ false
kept_apart version name [] older e = refl
kept_apart version name (Keep kept ∷ pieces) older e =
    let parts = neither (same_name name kept) (is_among (kept_in pieces) name) e in
    ap (λ (b : Bool). b || is_among (map (name_at version) pieces) name) parts.0 ∙ kept_apart version name pieces older parts.1
kept_apart version name (Fresh ordinal ∷ pieces) older e =
    ap (λ (b : Bool). (b && (name.ordinal == ordinal)) || is_among (map (name_at version) pieces) name) older ∙ kept_apart version name pieces older e

fresh_apart : (version ordinal next : ℕ) (pieces : List Piece) → ordinal < next → are_counted next pieces ≡ true
    → list_any (is_of_version version) (kept_in pieces) ≡ false → is_among (map (name_at version) pieces) (name_of_new version ordinal) ≡ false
fresh_apart version ordinal next [] low counted older = refl
fresh_apart version ordinal next (Keep kept ∷ pieces) low counted older =
    let parts = neither (is_of_version version kept) (list_any (is_of_version version) (kept_in pieces)) older in
    ap (λ (b : Bool). b || is_among (map (name_at version) pieces) (name_of_new version ordinal)) (other parts.0)
    ∙ fresh_apart version ordinal next pieces low counted parts.1
  where
    other : (kept.version == version) ≡ false → ((version == kept.version) && (ordinal == kept.ordinal)) ≡ false
    other e = grind (arith, nat_tests, e)
fresh_apart version ordinal next (Fresh number ∷ pieces) low counted older =
    let parts = and_parts (number == next) (are_counted (next + 1) pieces) counted in
    ap (λ (b : Bool). b || is_among (map (name_at version) pieces) (name_of_new version ordinal)) (other (eqb-true number next parts.0))
    ∙ fresh_apart version ordinal (next + 1) pieces (omega (arith, low)) parts.1 older
  where
    other : number ≡ next → ((version == version) && (ordinal == number)) ≡ false
    other e = grind (arith, nat_tests, e, low)

all_apart : (version next : ℕ) (pieces : List Piece) → are_counted next pieces ≡ true → are_apart (kept_in pieces) ≡ true
    → list_any (is_of_version version) (kept_in pieces) ≡ false → are_apart (map (name_at version) pieces) ≡ true
all_apart version next [] counted apart older = refl
all_apart version next (Keep kept ∷ pieces) counted apart older =
    let parts = and_parts (not (is_among (kept_in pieces) kept)) (are_apart (kept_in pieces)) apart in
    let others = neither (is_of_version version kept) (list_any (is_of_version version) (kept_in pieces)) older in
    both (not (is_among (map (name_at version) pieces) kept)) (are_apart (map (name_at version) pieces))
    (ap not (kept_apart version kept pieces others.0 (not_true (is_among (kept_in pieces) kept) parts.0))) (all_apart version next pieces counted parts.1 others.1)
all_apart version next (Fresh ordinal ∷ pieces) counted apart older =
    let parts = and_parts (ordinal == next) (are_counted (next + 1) pieces) counted in
    let is = eqb-true ordinal next parts.0 in
    both (not (is_among (map (name_at version) pieces) (name_of_new version ordinal))) (are_apart (map (name_at version) pieces))
    (ap not (fresh_apart version ordinal (next + 1) pieces (omega (arith, is)) parts.1 older)) (all_apart version (next + 1) pieces parts.1 apart older)

flat_names : (version : ℕ) (pieces : List (List Piece)) → flat (names_at version pieces) ≡ map (name_at version) (flat pieces)
flat_names version [] = refl
flat_names version (object ∷ objects) =
    ap (λ (l : List ChunkName). map (name_at version) object ++ l) (flat_names version objects) ∙ sym (map-append (name_at version) object (flat objects))

pub accepted_apart : (size version : ℕ) (out : InFlight) → Spells size out → KeepsOthers version out.pieces → IsApart (Some (shadow_at version out))
accepted_apart size version out spells others =
    let rest = (and_parts (is_of_each size out.pieces (objects_of out.content)) (are_counted 0 (flat out.pieces) && are_apart (kept_in (flat out.pieces))) spells).1 in
    let parts = and_parts (are_counted 0 (flat out.pieces)) (are_apart (kept_in (flat out.pieces))) rest in
    ap are_apart (known_flat (names_at version out.pieces) ∙ flat_names version out.pieces) ∙ all_apart version 0 (flat out.pieces) parts.0 parts.1 others
