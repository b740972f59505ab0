-- An update as it is asked for may take the place of the row that stands.
use Rattle.std.proofs.Common.{◌≡◌, inl, inr, ⊎_elim, ◌⊎◌, ℕ, ◌+◌, ◌<◌, ◌≤◌, Bool, true, false, List, [], ◌∷◌, ◌++◌, length, Option, Some, None, refl, sym, ◌∙◌, ap, subst, arith}
use Rattle.std.specs.Prelude.{◌||◌, ◌&&◌, not, map, option_map, is_some, if◌then◌else◌}
use Rattle.std.specs.List.{flat_map, list_any}
use Rattle.std.specs.BTreeMap.{is_at}
use Rattle.std.proofs.lemmas.Bool.{cases_eq}
use Rattle.std.proofs.lemmas.List.{map-append}
use Rattle.std.proofs.lemmas.List.Concat.{flat_map-cons}
use Rattle.stab_base.specs.declared.chunk_name.ChunkName.{ChunkName}
use Rattle.row_value.specs.declared.pieces.Piece.{Piece}
use Rattle.row_value.specs.declared.pieces.Piece.TheVariants.{Keep, Fresh}
use Rattle.row_value.specs.declared.pieces.PieceObject.{PieceObject}
use Rattle.row_value.specs.declared.pieces.PieceContent.{PieceContent}
use Rattle.row_value.specs.declared.pieces.PieceContent.TheVariants.{Gone, Row}
use Rattle.value_codec.specs.Spelling.{CountsFrom, HasContentSpelling, pieces_of, fresh_in}
use Rattle.chunk_store.specs.Payload.{name_cmp}
use Rattle.chunk_store.specs.Standing.{chunk_in}
use Rattle.row_store.specs.declared.stored.StoredRow.{StoredRow}
use Rattle.row_store.specs.Data.{TableData, row_of}
use Rattle.store_commit.specs.declared.update.Update.{Update}
use Rattle.store_commit.specs.Devs.{Devs}
use Rattle.store_commit.specs.NamedChunks.{Among, AreDifferent, names_in, names_of, IsNamed, IsNewOf, NamedChunks, is_among}
use Rattle.store_commit.specs.Agenda.{fresh_name, named_piece, named_object, named_content, Replaces}
use Rattle.store_commit.specs.Update.{names_if, unmet, old_names, entry_for, stored_for, IsNextVersion, fresh_of, IsUpdate}
use Rattle.store_commit.proofs.Lookups.{cases_name, one_name, apart_name, name_itself}

-- ---- pieces with names

abbrev pieces_in : PieceObject → List Piece
pieces_in object = object.pieces

pub pieces_named : (v : ℕ) (objects : List PieceObject) → pieces_of (map (named_object v) objects) ≡ map (named_piece v) (pieces_of objects)
pieces_named v [] = refl
pieces_named v (o ∷ os) =
    flat_map-cons pieces_in (named_object v o) (map (named_object v) os)
    ∙ (ap (λ (l : List Piece). map (named_piece v) o.pieces ++ l) (pieces_named v os)
    ∙ (sym (map-append (named_piece v) o.pieces (pieces_of os)) ∙ ap (map (named_piece v)) (sym (flat_map-cons pieces_in o os))))

abbrev IsFreshIn : ℕ → List ℕ → ChunkName → Type 0
IsFreshIn v ordinals name = (ordinal : ℕ) × (name ≡ fresh_name v ordinal) × Among ordinal ordinals

from_named : (v : ℕ) (ps : List Piece) (name : ChunkName) → Among name (names_in (map (named_piece v) ps)) → Among name (names_in ps) ⊎ IsFreshIn v (fresh_in ps) name
from_named v [] name h = absurd h
from_named v (Keep n ∷ ps) name (inl same) = inl (inl same)
from_named v (Keep n ∷ ps) name (inr more) = ⊎_elim (λ kept. inl (inr kept)) (λ new. inr new) (from_named v ps name more)
from_named v (Fresh o ∷ ps) name (inl same) = inr (o, same, inl refl)
from_named v (Fresh o ∷ ps) name (inr more) = ⊎_elim (λ kept. inl kept) (λ new. inr (new.0, new.1, inr new.2)) (from_named v ps name more)

kept_named : (v : ℕ) (ps : List Piece) (name : ChunkName) → Among name (names_in ps) → Among name (names_in (map (named_piece v) ps))
kept_named v [] name h = absurd h
kept_named v (Keep n ∷ ps) name (inl same) = inl same
kept_named v (Keep n ∷ ps) name (inr more) = inr (kept_named v ps name more)
kept_named v (Fresh o ∷ ps) name h = inr (kept_named v ps name h)

fresh_named : (v : ℕ) (ps : List Piece) (ordinal : ℕ) → Among ordinal (fresh_in ps) → Among (fresh_name v ordinal) (names_in (map (named_piece v) ps))
fresh_named v [] ordinal h = absurd h
fresh_named v (Keep n ∷ ps) ordinal h = inr (fresh_named v ps ordinal h)
fresh_named v (Fresh o ∷ ps) ordinal (inl same) = inl (ap (fresh_name v) same)
fresh_named v (Fresh o ∷ ps) ordinal (inr more) = inr (fresh_named v ps ordinal more)

within : (first : ℕ) (ns : List ℕ) (o : ℕ) → CountsFrom first ns → Among o ns → (first ≤ o) × (o < first + length ns)
within first [] o c h = absurd h
within first (n ∷ ns) o c (inl same) = (omega (arith, c.0), omega (arith, c.0))
within first (n ∷ ns) o c (inr more) = let r = within (first + 1) ns o c.1 more in (omega (arith, r.0), omega (arith, r.1))

counted : (first : ℕ) (ns : List ℕ) (i : ℕ) → CountsFrom first ns → first ≤ i → i < first + length ns → Among i ns
counted first [] i c least most = absurd (omega arith)
counted first (n ∷ ns) i c least most = elim (cases_eq i first) [
  | inl same ↦ inl (same ∙ sym c.0)
  | inr other ↦ inr (counted (first + 1) ns i c.1 (omega arith) (omega arith))
]

named_different : (v : ℕ) (ps : List Piece) (first : ℕ) → AreDifferent (names_in ps) → ((name : ChunkName) → Among name (names_in ps) → name.version < v) → CountsFrom first (fresh_in ps)
    → AreDifferent (names_in (map (named_piece v) ps))
named_different v [] first d below c = tt
named_different v (Keep n ∷ ps) first d below c = (
  λ among. ⊎_elim d.0 (λ new. let lt = below n (inl refl) in let version : n.version ≡ v = ap (λ (x : ChunkName). x.version) new.1 in absurd (omega arith)) (from_named v ps n among),
  named_different v ps first d.1 (λ name among. below name (inr among)) c,
)
named_different v (Fresh o ∷ ps) first d below c = (
  λ among. ⊎_elim
      (λ kept. let lt = below (fresh_name v o) kept in absurd (omega arith))
      (λ new. let same : o ≡ new.0 = ap (λ (x : ChunkName). x.ordinal) new.1 in let least = (within (first + 1) (fresh_in ps) new.0 c.1 new.2).0 in absurd (omega (arith, c.0)))
      (from_named v ps (fresh_name v o) among),
  named_different v ps (first + 1) d below c.1,
)

-- ---- the same of a content

module _ (v : ℕ) where
  pub content_from_named : (c : PieceContent) (name : ChunkName) → Among name (names_of (named_content v c)) → Among name (names_of c) ⊎ IsFreshIn v (fresh_of c) name
  content_from_named Gone name h = absurd h
  content_from_named (Row some objects) name h = from_named v (pieces_of objects) name (subst (λ (ps : List Piece). Among name (names_in ps)) (pieces_named v objects) h)

  pub content_kept : (c : PieceContent) (name : ChunkName) → Among name (names_of c) → Among name (names_of (named_content v c))
  content_kept Gone name h = absurd h
  content_kept (Row some objects) name h = subst (λ (ps : List Piece). Among name (names_in ps)) (sym (pieces_named v objects)) (kept_named v (pieces_of objects) name h)

  pub content_fresh : (c : PieceContent) → HasContentSpelling c → (ordinal : ℕ) → ordinal < length (fresh_of c) → Among (fresh_name v ordinal) (names_of (named_content v c))
  content_fresh Gone s ordinal lt = absurd (omega arith)
  content_fresh (Row some objects) s ordinal lt =
      subst (λ (ps : List Piece). Among (fresh_name v ordinal) (names_in ps)) (sym (pieces_named v objects)) (fresh_named v (pieces_of objects) ordinal (counted 0 (fresh_in (pieces_of objects)) ordinal s.fresh (omega arith) (omega arith)))

  pub content_ordinal : (c : PieceContent) → HasContentSpelling c → (ordinal : ℕ) → Among ordinal (fresh_of c) → ordinal < length (fresh_of c)
  content_ordinal Gone s ordinal h = absurd h
  content_ordinal (Row some objects) s ordinal h = let r = (within 0 (fresh_in (pieces_of objects)) ordinal s.fresh h).1 in omega arith

  pub content_different : (c : PieceContent) → HasContentSpelling c → AreDifferent (names_of c) → ((name : ChunkName) → Among name (names_of c) → name.version < v)
      → AreDifferent (names_of (named_content v c))
  content_different Gone s d below = tt
  content_different (Row some objects) s d below =
      subst (λ (ps : List Piece). AreDifferent (names_in ps)) (sym (pieces_named v objects)) (named_different v (pieces_of objects) 0 d below s.fresh)

-- ---- names that weren't met

or_false : (a b : Bool) → a || b ≡ false → (a ≡ false) × (b ≡ false)
or_false true b h = absurd cc
or_false false b h = (refl, h)

neither : (a b : Bool) → a ≡ false → b ≡ false → a || b ≡ false
neither true b p q = absurd cc
neither false b p q = q

pub among_not : (name : ChunkName) (names : List ChunkName) → is_among name names ≡ false → Among name names → ⊥
among_not name [] is h = h
among_not name (n ∷ names) is (inl same) =
    let at : is_at (name_cmp name) n ≡ true = subst (λ (q : ChunkName). is_at (name_cmp name) q ≡ true) same (name_itself name) in
    let apart = (or_false (is_at (name_cmp name) n) (is_among name names) is).0 in
    absurd cc
among_not name (n ∷ names) is (inr more) = among_not name names (or_false (is_at (name_cmp name) n) (is_among name names) is).1 more

pub not_among : (name : ChunkName) (names : List ChunkName) → (Among name names → ⊥) → is_among name names ≡ false
not_among name [] none = refl
not_among name (n ∷ names) none = rw (apart_name name n (λ same. none (inl same)), not_among name names (λ more. none (inr more)))

module _ (there : ChunkName → Bool) where
  -- one of these names that there is, and that wasn't met
  abbrev IsUnmet : ChunkName → List ChunkName → List ChunkName → Type 0
  IsUnmet name met names = Among name names × (there name ≡ true) × (is_among name met ≡ false)

  taken : (n : ChunkName) (met names : List ChunkName) (name : ChunkName) (a b : Bool) → there n ≡ a → is_among n met ≡ b
      → (Among name (unmet there (n ∷ met) names) → IsUnmet name (n ∷ met) names) → (Among name (unmet there met names) → IsUnmet name met names)
      → Among name (if a && not b then n ∷ unmet there (n ∷ met) names else unmet there met names) → IsUnmet name met (n ∷ names)
  taken n met names name true true is in_met next other h = let x = other h in (inr x.0, x.1, x.2)
  taken n met names name true false is in_met next other h = ⊎_elim
      (λ same. (inl same, ap there same ∙ is, ap (λ (q : ChunkName). is_among q met) same ∙ in_met))
      (λ more. let x = next more in (inr x.0, x.1, (or_false (is_at (name_cmp name) n) (is_among name met) x.2).1))
      h
  taken n met names name false b is in_met next other h = let x = other h in (inr x.0, x.1, x.2)

  pub unmet_is : (met names : List ChunkName) (name : ChunkName) → Among name (unmet there met names) → IsUnmet name met names
  unmet_is met [] name h = absurd h
  unmet_is met (n ∷ names) name h =
      taken n met names name (there n) (is_among n met) refl refl (unmet_is (n ∷ met) names name) (unmet_is met names name) h

  left_out : (n : ChunkName) (met names : List ChunkName) (name : ChunkName) (a b : Bool) → there n ≡ a → is_among n met ≡ b → there name ≡ true → is_among name met ≡ false
      → (is_among name (n ∷ met) ≡ false → Among name names → Among name (unmet there (n ∷ met) names)) → (Among name names → Among name (unmet there met names))
      → Among name (n ∷ names) → Among name (if a && not b then n ∷ unmet there (n ∷ met) names else unmet there met names)
  left_out n met names name true true is in_met yes_ unseen next other h = ⊎_elim (λ same. let e : is_among n met ≡ false = subst (λ (q : ChunkName). is_among q met ≡ false) same unseen in absurd cc) other h
  left_out n met names name true false is in_met yes_ unseen next other h = ⊎_elim
      (λ same. inl same)
      (λ more. ⊎_elim (λ same. inl same) (λ apart. inr (next (neither (is_at (name_cmp name) n) (is_among name met) apart unseen) more)) (cases_name name n))
      h
  left_out n met names name false b is in_met yes_ unseen next other h = ⊎_elim (λ same. let e : there n ≡ true = subst (λ (q : ChunkName). there q ≡ true) same yes_ in absurd cc) other h

  pub unmet_all : (met names : List ChunkName) (name : ChunkName) → there name ≡ true → is_among name met ≡ false → Among name names → Among name (unmet there met names)
  unmet_all met [] name yes_ unseen h = absurd h
  unmet_all met (n ∷ names) name yes_ unseen h =
      left_out n met names name (there n) (is_among n met) refl refl yes_ unseen (unmet_all (n ∷ met) names name yes_) (unmet_all met names name yes_ unseen) h

  apart_still : (n : ChunkName) (met names : List ChunkName) (a b : Bool) → AreDifferent (unmet there (n ∷ met) names) → AreDifferent (unmet there met names)
      → AreDifferent (if a && not b then n ∷ unmet there (n ∷ met) names else unmet there met names)
  apart_still n met names true true next other = other
  apart_still n met names true false next other = (
    λ among.
        let x = unmet_is (n ∷ met) names n among in
        let e = (or_false (is_at (name_cmp n) n) (is_among n met) x.2).0 in
        let t = name_itself n in
        absurd cc,
    next,
  )
  apart_still n met names false b next other = other

  pub unmet_different : (met names : List ChunkName) → AreDifferent (unmet there met names)
  unmet_different met [] = tt
  unmet_different met (n ∷ names) = apart_still n met names (there n) (is_among n met) (unmet_different (n ∷ met) names) (unmet_different met names)

-- ---- the row that stands

module _ (held : TableData) (row : List ℕ) where
  pub row_standing : (name : ChunkName) → Among name (names_if (row_of held row)) → (old : StoredRow) × (row_of held row ≡ Some old) × Among name (names_of old.content)
  row_standing name h = pick (row_of held row) refl h
    where
      pick : (o : Option StoredRow) → row_of held row ≡ o → Among name (names_if o) → (old : StoredRow) × (row_of held row ≡ Some old) × Among name (names_of old.content)
      pick None is h = absurd h
      pick (Some old) is h = (old, is, h)

  pub is_standing : (name : ChunkName) (old : StoredRow) → row_of held row ≡ Some old → Among name (names_of old.content) → Among name (names_if (row_of held row))
  is_standing name old is h = subst (λ (o : Option StoredRow). Among name (names_if o)) (sym is) h

is_there : (o : Option (List ℕ)) (bytes : List ℕ) → o ≡ Some bytes → is_some o ≡ true
is_there None bytes e = absurd cc
is_there (Some found) bytes e = refl

-- ---- it may take the row's place

module _ (meaning : ChunkName → List ℕ) (d : Devs) (version : ℕ) (update : Update) (n : NamedChunks meaning d) (next : IsNextVersion d.held version) (u : IsUpdate d update) where
  abbrev there : ChunkName → Bool
  there name = is_some (chunk_in d.chunks name)

  abbrev stands : List ChunkName
  stands = names_if (row_of d.held update.row)

  older : (row : List ℕ) (other : StoredRow) → row_of d.held row ≡ Some other → other.version < version
  older row other is = omega (arith, next.1.greatest row other.version (ap (option_map (λ (s : StoredRow). s.version)) is), next.2)

  named_by : (name : ChunkName) → Among name stands → IsNamed d.held name
  named_by name h = let r = row_standing d.held update.row name h in record { row = update.row; stored = r.0; there = r.1; among = r.2 }

  stands_below : (name : ChunkName) → Among name stands → name.version < version
  stands_below name h = let a = named_by name h in omega (arith, n.below name a, older a.row a.stored a.there)

  pub update_replaces : Replaces d (entry_for d version update) update.fresh (stored_for d version update)
  update_replaces = record {
    row = refl;
    version = refl;
    above = omega (arith, next.2);
    newest = older;
    count = refl;
    different = content_different version update.content u.content u.different (λ name h. stands_below name (u.kept name h));
    kept_or_new = λ name h. ⊎_elim
        (λ kept. inl (row_standing d.held update.row name (u.kept name kept)))
        (λ new. inr (record {
          version = ap (λ (x : ChunkName). x.version) new.1;
          ordinal = let lt = content_ordinal version update.content u.content new.0 new.2 in let same : name.ordinal ≡ new.0 = ap (λ (x : ChunkName). x.ordinal) new.1 in omega (arith, u.fresh);
        }))
        (content_from_named version update.content name h);
    all_new = λ name new.
        let lt : name.ordinal < length (fresh_of update.content) = omega (arith, new.ordinal, u.fresh) in
        let is : fresh_name version name.ordinal ≡ name = ap (λ (x : ℕ). fresh_name x name.ordinal) (sym new.version) in
        subst (λ (q : ChunkName). Among q (names_of (named_content version update.content))) is (content_fresh version update.content u.content name.ordinal lt);
    old_of = λ name h.
        let x = unmet_is there (names_of update.content) stands name h in (
          row_standing d.held update.row name x.0,
          λ again. ⊎_elim
              (among_not name (names_of update.content) x.2)
              (λ new. let lt = stands_below name x.0 in let same : name.version ≡ version = ap (λ (q : ChunkName). q.version) new.1 in absurd (omega arith))
              (content_from_named version update.content name again),
        );
    all_old = λ name old is h none.
        let stood = is_standing d.held update.row name old is h in
        unmet_all there (names_of update.content) stands name
        (is_there (chunk_in d.chunks name) (meaning name) (n.there name (named_by name stood)))
        (not_among name (names_of update.content) (λ kept. none (content_kept version update.content name kept)))
        stood;
  }
