-- What a request that spells its chunks makes of its row: an item that is well named.
use Rattle.std.proofs.Common.{◌≡◌, ◌⊎◌, inl, inr, ⊎_elim, ℕ, ◌+◌, ◌≤◌, ◌<◌, Bool, true, List, [], ◌∷◌, ◌++◌, length, refl, sym, ◌∙◌, ap, subst, arith, true≢false}
use Rattle.std.specs.Prelude.{◌==◌, ◌&&◌, not, map}
use Rattle.std.specs.Str.{bytes_eq}
use Rattle.std.proofs.lemmas.Bool.{and_parts, eqb-true}
use Rattle.std.proofs.lemmas.List.{length-map, map-append}
use Rattle.stab_base.specs.declared.chunk_name.ChunkName.{ChunkName}
use Rattle.row_value.specs.declared.pieces.Piece.{Piece}
use Rattle.row_value.specs.declared.pieces.Piece.TheVariants.{Keep, Fresh}
use Rattle.step_tables.specs.Store.{Stored}
use Rattle.step_tables.specs.Messages.{Request}
use Rattle.step_tables.specs.StoreMoves.{item_for, keeps_there}
use Rattle.step_tables.specs.Chunks.{Named, cut, name_of_new, same_name, is_among, are_apart, flat, each_chunk, is_of_each, objects_of, names_of, chunks_of, name_at, names_at, kept_in, are_counted}
use Rattle.step_tables.specs.Chunks.{is_spelled, is_there}
use Rattle.step_tables.proofs.Lists.{among_push}
use Rattle.name_laws.proofs.Names.{Among, AreDifferent, mapped_among, among_mapped, in_names, same_is, true_any, all_true}
use Rattle.name_laws.proofs.Rows.{ComesFrom, IsWellNamed, AreWellNamed, comes_later, push_named, said_of_each, row_known}

-- ---- the names of pieces

-- a kept one, or a new one numbered from here on
named_by : (version next : ℕ) (pieces : List Piece) → are_counted next pieces ≡ true → (name : ChunkName) → Among name (map (name_at version) pieces)
    → Among (Keep name) pieces ⊎ ((name.version ≡ version) × (next ≤ name.ordinal))
named_by version next [] counted name a = absurd a
named_by version next (Keep kept ∷ pieces) counted name (inl same) = inl (inl (ap Keep same))
named_by version next (Keep kept ∷ pieces) counted name (inr more) = ⊎_elim (λ a. inl (inr a)) (λ b. inr b) (named_by version next pieces counted name more)
named_by version next (Fresh ordinal ∷ pieces) counted name (inl same) =
    let here = eqb-true ordinal next (and_parts (ordinal == next) (are_counted (next + 1) pieces) counted).0 in
    let is : name.ordinal ≡ ordinal = ap (λ (n : ChunkName). n.ordinal) same in
    inr (ap (λ (n : ChunkName). n.version) same, omega (arith, here, is))
named_by version next (Fresh ordinal ∷ pieces) counted name (inr more) =
    ⊎_elim (λ a. inl (inr a)) (λ b. inr (b.0, let least = b.1 in omega (arith, least)))
    (named_by version (next + 1) pieces (and_parts (ordinal == next) (are_counted (next + 1) pieces) counted).1 name more)

kept_among : (name : ChunkName) (pieces : List Piece) → Among (Keep name) pieces → Among name (kept_in pieces)
kept_among name [] a = absurd a
kept_among name (Keep kept ∷ pieces) (inl same) = inl (let is : name ≡ kept = cc in is)
kept_among name (Keep kept ∷ pieces) (inr more) = inr (kept_among name pieces more)
kept_among name (Fresh ordinal ∷ pieces) (inl same) = absurd cc
kept_among name (Fresh ordinal ∷ pieces) (inr more) = kept_among name pieces more

-- where each kept name is older, none stands twice
named_apart : (version next : ℕ) (pieces : List Piece) → are_counted next pieces ≡ true → are_apart (kept_in pieces) ≡ true
    → ((name : ChunkName) → Among (Keep name) pieces → name.version < version) → AreDifferent (map (name_at version) pieces)
named_apart version next [] counted apart older = tt
named_apart version next (Keep kept ∷ pieces) counted apart older =
    let parts = and_parts (not (is_among (kept_in pieces) kept)) (are_apart (kept_in pieces)) apart in (
      λ a. ⊎_elim
          (λ again. true≢false (sym parts.0 ∙ ap not (in_names kept (kept_in pieces) (kept_among kept pieces again))))
          (λ b. let less = older kept (inl refl) in let is = b.0 in absurd (omega (arith, less, is)))
          (named_by version next pieces counted kept a),
      named_apart version next pieces counted parts.1 (λ name a. older name (inr a)),
    )
named_apart version next (Fresh ordinal ∷ pieces) counted apart older =
    let parts = and_parts (ordinal == next) (are_counted (next + 1) pieces) counted in (
      λ a. ⊎_elim
          (λ kept. let less = older (name_of_new version ordinal) (inr kept) in absurd (omega (arith, less)))
          (λ b. let least = b.1 in let is = eqb-true ordinal next parts.0 in absurd (omega (arith, least, is)))
          (named_by version (next + 1) pieces parts.1 (name_of_new version ordinal) a),
      named_apart version (next + 1) pieces parts.1 apart (λ name a. older name (inr a)),
    )

flat_names : (version : ℕ) (pieces : List (List Piece)) → flat (names_at version pieces) ≡ map (name_at version) (flat pieces)
flat_names version [] = refl
flat_names version (object ∷ objects) =
    ap (λ (l : List ChunkName). map (name_at version) object ++ l) (flat_names version objects) ∙ sym (map-append (name_at version) object (flat objects))

names_of_each : (size version : ℕ) (pieces : List (List Piece)) (objects : List (List ℕ)) → is_of_each size (names_at version pieces) objects ≡ is_of_each size pieces objects
names_of_each size version [] [] = refl
names_of_each size version [] (object ∷ objects) = refl
names_of_each size version (here ∷ pieces) [] = refl
names_of_each size version (here ∷ pieces) (object ∷ objects) =
    ap (λ (n : ℕ). (n == length (cut size object)) && is_of_each size (names_at version pieces) objects) (length-map here (name_at version))
    ∙ ap (λ (b : Bool). (length here == length (cut size object)) && b) (names_of_each size version pieces objects)

-- ---- the item

module _ (size : ℕ) (items : List Stored) (named : AreWellNamed size items) (request : Request)
    (spelled : is_spelled size request.content request.pieces ≡ true) (there : keeps_there size items request ≡ true) where
  each : is_of_each size request.pieces (objects_of request.content) ≡ true
  each = (and_parts (is_of_each size request.pieces (objects_of request.content)) (are_counted 0 (flat request.pieces) && are_apart (kept_in (flat request.pieces))) spelled).0

  numbered : (are_counted 0 (flat request.pieces) ≡ true) × (are_apart (kept_in (flat request.pieces)) ≡ true)
  numbered = and_parts (are_counted 0 (flat request.pieces)) (are_apart (kept_in (flat request.pieces)))
      (and_parts (is_of_each size request.pieces (objects_of request.content)) (are_counted 0 (flat request.pieces) && are_apart (kept_in (flat request.pieces))) spelled).1

  -- a kept name is one of the row's
  kept_there : (name : ChunkName) → Among (Keep name) (flat request.pieces) → Among name (names_of (chunks_of size items request.row))
  kept_there name a =
      let row : List Named = flat (chunks_of size items request.row) in
      let spelt : List (Piece × List ℕ) = flat (each_chunk size request.pieces (objects_of request.content)) in
      let x = among_mapped (λ (chunk : Piece × List ℕ). chunk.0) (Keep name) spelt
      (subst (Among (Keep name)) (sym (said_of_each size request.pieces (objects_of request.content) each)) a) in
      let stands : is_there row (Keep name, x.0.1) ≡ true = subst (λ (p : Piece). is_there row (p, x.0.1) ≡ true) (sym x.2) (all_true (is_there row) x.0 spelt x.1 there) in
      let held = true_any (λ (h : Named). same_name h.0 name && bytes_eq h.1 x.0.1) row stands in
      let same : held.0.0 ≡ name = same_is held.0.0 name (and_parts (same_name held.0.0 name) (bytes_eq held.0.1 x.0.1) held.2).0 in
      subst (λ (n : ChunkName). Among n (names_of (chunks_of size items request.row))) same (mapped_among (λ (h : Named). h.0) held.0 row held.1)

  kept_known : (name : ChunkName) → Among (Keep name) (flat request.pieces) → ComesFrom items request.row name
  kept_known name a = row_known size items named request.row name (kept_there name a)

  older : (name : ChunkName) → Among (Keep name) (flat request.pieces) → name.version < length items + 1
  older name a =
      let from_ = kept_known name a in
      let most = named.most from_.0 from_.1.stands in
      let is = from_.1.version_is in
      omega (arith, most, is)

  item_known : (name : ChunkName) → Among name (map (name_at (length items + 1)) (flat request.pieces)) → ComesFrom (items ++ item_for items request ∷ []) request.row name
  item_known name a = ⊎_elim
      (λ kept. comes_later items (item_for items request ∷ []) request.row name (kept_known name kept))
      (λ new. (item_for items request, record { stands = among_push items (item_for items request); row_is = refl; version_is = sym new.0 }))
      (named_by (length items + 1) 0 (flat request.pieces) numbered.0 name a)

  pub item_named : IsWellNamed size (items ++ item_for items request ∷ []) (item_for items request)
  item_named = record {
    each = names_of_each size (length items + 1) request.pieces (objects_of request.content) ∙ each;
    different = subst AreDifferent (sym (flat_names (length items + 1) request.pieces))
        (named_apart (length items + 1) 0 (flat request.pieces) numbered.0 numbered.1 older);
    known = λ name a. item_known name (subst (Among name) (flat_names (length items + 1) request.pieces) a);
  }

  pub all_named : AreWellNamed size (items ++ item_for items request ∷ [])
  all_named = push_named size items (item_for items request) named item_named refl
