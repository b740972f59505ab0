-- A chunk that a row has no more comes back by no item: what is kept of it isn't accepted.
use Rattle.std.proofs.Common.{◌≡◌, inl, inr, ⊎_elim, ℕ, Bool, true, false, cond, List, [], ◌∷◌, ◌++◌, Option, Some, refl, sym, ◌∙◌, ap, subst, arith, length-append, true≢false}
use Rattle.std.specs.Prelude.{◌&&◌}
use Rattle.std.specs.List.{list_all}
use Rattle.std.specs.Str.{bytes_eq}
use Rattle.std.proofs.lemmas.Bool.{and_from}
use Rattle.std.proofs.lemmas.Slice.Eq.{bytes_eq-Decides}
use Rattle.stab_base.specs.declared.chunk_name.ChunkName.{ChunkName}
use Rattle.row_value.specs.declared.content.Content.{Content}
use Rattle.row_value.specs.declared.pieces.Piece.{Piece}
use Rattle.row_value.specs.declared.pieces.Piece.TheVariants.{Keep, Fresh}
use Rattle.step_tables.specs.Store.{Stored, current_of, is_of_row}
use Rattle.step_tables.specs.Members.{Among}
use Rattle.step_tables.specs.Chunks.{Named, same_name, has_kept, flat, each_chunk, is_of_each, objects_of, names_of, chunks_with, chunks_in, chunks_of, kept_in, is_there}
use Rattle.step_tables.proofs.Lists.{among_none, among_cons, among_here, among_next, among_left, among_map, among_mapped, last_where-push, same_row-is}
use Rattle.piece_laws.specs.Pieces.{IsNamed, IsGone, IsDead, KeepsKnown, GoTogether}
use Rattle.name_laws.proofs.Names.{any_true, all_true, same_itself}
use Rattle.name_laws.proofs.Rows.{said_of_each}
use Rattle.piece_laws.proofs.Members.{member_is}
use Rattle.piece_laws.proofs.Linked.{IsNext, AreLinked, current_named, named_given, kept_is_there}

module _ (size : ℕ) (h : List Stored) (item : Stored) (next : IsNext size h item) where
  abbrev later : List Stored
  later = h ++ item ∷ []

  pub named_later : (row : List ℕ) (name : ChunkName) (bytes : List ℕ) → IsNamed size h row name bytes → IsNamed size later row name bytes
  named_later row name bytes n = record { item = n.item; stands = among_left h (item ∷ []) n.item n.stands; row_is = n.row_is; chunk = n.chunk }

  pub known_later : (row : List ℕ) (content : Content) (pieces : List (List Piece)) → KeepsKnown size h row content pieces → KeepsKnown size later row content pieces
  known_later row content pieces k name bytes a = named_later row name bytes (k name bytes a)

  pub gone_later : (row : List ℕ) (name : ChunkName) → IsGone size h row name → IsGone size later row name
  gone_later row name g = record {
    none = λ a. go (is_of_row row item) refl (subst (λ (o : Option Stored). Among (names_of (chunks_in size o)) name) (last_where-push (is_of_row row) h item) a);
    given = let given = g.given in let more = length-append h (item ∷ []) in omega (arith, given, more);
  }
    where
      here : is_of_row row item ≡ true → Among (names_of (chunks_with size item)) name → ⊥
      here is a =
          let row_is : item.entry.row ≡ row = same_row-is item.entry.row row is in
          let x = among_mapped (λ (z : Named). z.0) (flat (chunks_with size item)) name a in
          ⊎_elim
          (λ own. let given = g.given in let version = next.version in let same : name.version ≡ item.entry.version = ap (λ (n : ChunkName). n.version) (sym x.2) ∙ own in absurd (omega (arith, given, version, same)))
          (λ old. g.none (subst (λ (r : List ℕ). Among (names_of (chunks_of size h r)) name) row_is
          (subst (λ (n : ChunkName). Among (names_of (chunks_of size h item.entry.row)) n) x.2 (among_map (λ (z : Named). z.0) (flat (chunks_of size h item.entry.row)) x.0 old))))
          (next.chunks x.0.0 x.0.1 x.1)

      go : (b : Bool) → is_of_row row item ≡ b → Among (names_of (chunks_in size (cond b (Some item) (current_of h row)))) name → ⊥
      go true is a = here is a
      go false is a = g.none a

  pub dead_later : (row : List ℕ) (pieces : List (List Piece)) → IsDead size h row pieces → IsDead size later row pieces
  dead_later row pieces d = record { name = d.name; kept = d.kept; gone = gone_later row d.name d.gone }

  pub together_later : (row : List ℕ) (one other : List (List Piece)) → GoTogether size h row one other → GoTogether size later row one other
  together_later row one other (inl same) = inl same
  together_later row one other (inr (inl x)) = inr (inl (dead_later row one x.0, x.1))
  together_later row one other (inr (inr x)) = inr (inr (dead_later row other x.0, x.1))

-- ---- what is kept

pub kept_is : (name : ChunkName) (pieces : List Piece) → Among pieces (Keep name) → Among (kept_in pieces) name
kept_is name [] a = absurd (among_none (Keep name) a)
kept_is name (Keep kept ∷ pieces) a = ⊎_elim
    (λ same. let is : kept ≡ name = cc in subst (λ (n : ChunkName). Among (kept_in (Keep kept ∷ pieces)) n) is (among_here kept (kept_in pieces)))
    (λ more. among_next kept (kept_in pieces) name (kept_is name pieces more)) (among_cons (Keep kept) pieces (Keep name) a)
kept_is name (Fresh ordinal ∷ pieces) a = ⊎_elim (λ same. absurd cc) (λ more. kept_is name pieces more) (among_cons (Fresh ordinal) pieces (Keep name) a)

pub is_kept : (name : ChunkName) (pieces : List Piece) → Among (kept_in pieces) name → Among pieces (Keep name)
is_kept name [] a = absurd (among_none name a)
is_kept name (Keep kept ∷ pieces) a = ⊎_elim
    (λ same. subst (λ (n : ChunkName). Among (Keep kept ∷ pieces) (Keep n)) same (among_here (Keep kept) pieces))
    (λ more. among_next (Keep kept) pieces (Keep name) (is_kept name pieces more)) (among_cons kept (kept_in pieces) name a)
is_kept name (Fresh ordinal ∷ pieces) a = among_next (Fresh ordinal) pieces (Keep name) (is_kept name pieces a)

-- ---- a request that isn't accepted, and one that is

one_fails : {X : Type 0} (p : X → Bool) (xs : List X) → list_all p xs ≡ false → (x : X) × Among xs x × (p x ≡ false)
one_fails p [] is = absurd cc
one_fails {X} p (x ∷ xs) is = go (λ e. one_fails p xs e) (p x) refl is
  where
    go : (list_all p xs ≡ false → (z : X) × Among xs z × (p z ≡ false)) → (b : Bool) → p x ≡ b → (b && list_all p xs) ≡ false → (z : X) × Among (x ∷ xs) z × (p z ≡ false)
    go more false at e = (x, among_here x xs, at)
    go more true at e = let r = more e in (r.0, among_next x xs r.0 r.1, r.2)

there_is_kept : (row : List Named) (name : ChunkName) (bytes : List ℕ) → Among row (name, bytes) → is_there row (Keep name, bytes) ≡ true
there_is_kept row name bytes a = any_true (λ (h : Named). same_name h.0 name && bytes_eq h.1 bytes) (name, bytes) row (member_is (name, bytes) row a)
    (and_from (same_name name name) (bytes_eq bytes bytes) (same_itself name) ((bytes_eq-Decides bytes bytes).1 refl))

module _ (size : ℕ) (h : List Stored) (l : AreLinked size h) (row : List ℕ) (content : Content) (pieces : List (List Piece))
    (each : is_of_each size pieces (objects_of content) ≡ true) where
  abbrev here : List Named
  here = flat (chunks_of size h row)

  abbrev spelt : List (Piece × List ℕ)
  spelt = flat (each_chunk size pieces (objects_of content))

  kept_name : (name : ChunkName) (bytes : List ℕ) → Among spelt (Keep name, bytes) → Among (kept_in (flat pieces)) name
  kept_name name bytes a = kept_is name (flat pieces) (subst (λ (ps : List Piece). Among ps (Keep name)) (said_of_each size pieces (objects_of content) each)
      (among_map (λ (x : Piece × List ℕ). x.0) spelt (Keep name, bytes) a))

  name_kept : (name : ChunkName) → Among (kept_in (flat pieces)) name → (bytes : List ℕ) × Among spelt (Keep name, bytes)
  name_kept name a =
      let x = among_mapped (λ (z : Piece × List ℕ). z.0) spelt (Keep name)
      (subst (λ (ps : List Piece). Among ps (Keep name)) (sym (said_of_each size pieces (objects_of content) each)) (is_kept name (flat pieces) a)) in
      (x.0.1, subst (λ (p : Piece). Among spelt (p, x.0.1)) x.2 x.1)

  -- what isn't there is gone
  pub refused_dead : KeepsKnown size h row content pieces → has_kept size (chunks_of size h row) content pieces ≡ false → IsDead size h row pieces
  refused_dead known is = let x = one_fails (is_there here) spelt is in dead x.0.0 x.0.1 x.1 x.2
    where
      dead : (piece : Piece) (bytes : List ℕ) → Among spelt (piece, bytes) → is_there here (piece, bytes) ≡ false → IsDead size h row pieces
      dead (Fresh ordinal) bytes a e = absurd cc
      dead (Keep name) bytes a e =
          let was = known name bytes a in
          record {
            name = name;
            kept = kept_name name bytes a;
            gone = record {
              none = λ b.
                  let x = among_mapped (λ (z : Named). z.0) here name b in
                  let now : Among here (name, x.0.1) = subst (λ (n : ChunkName). Among here (n, x.0.1)) x.2 x.1 in
                  let alike : x.0.1 ≡ bytes = (l.one name x.0.1 bytes row row (current_named size h l row name x.0.1 now) was).1 in
                  true≢false (sym (there_is_kept here name bytes (subst (λ (z : List ℕ). Among here (name, z)) alike now)) ∙ e);
              given = named_given size h l row name bytes was;
            };
          }

  -- what is there isn't gone
  pub accepted_alive : has_kept size (chunks_of size h row) content pieces ≡ true → IsDead size h row pieces → ⊥
  accepted_alive is d =
      let x = name_kept d.name d.kept in
      d.gone.none (among_map (λ (z : Named). z.0) here (d.name, x.0)
      (kept_is_there here d.name x.0 (all_true (is_there here) (Keep d.name, x.0) spelt (member_is (Keep d.name, x.0) spelt x.1) is)))
