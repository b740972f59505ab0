-- Whole rows are there, and stay whole.
use Rattle.std.proofs.Common.{◌≡◌, inl, inr, ⊎_elim, ◌⊎◌, ℕ, zero, suc, ◌+◌, ◌<◌, ◌≤◌, Bool, true, false, cond, not, List, [], ◌∷◌, ◌++◌, length, get_or, map, Option, Some, None, refl, sym, ◌∙◌, ap, subst, arith}
use Rattle.std.specs.Prelude.{◌==◌, ◌&&◌, ◌||◌, nat_lt, slice_get, filter, replicate, is_ok, if◌then◌else◌, slice_index_or}
use Rattle.std.specs.declared.cmp.Ordering.{Ordering}
use Rattle.std.specs.declared.cmp.Ordering.TheVariants.{Less, Equal, Greater}
use Rattle.std.specs.Ordering.{is_eq}
use Rattle.std.specs.List.{list_any, list_all, AllByRecursion}
use Rattle.std.specs.List.Sorted.{IsStrictlySortedBy}
use Rattle.std.specs.BTreeMap.{is_at}
use Rattle.std.specs.BTreeSet.{BTreeSet, keys, contains}
use Rattle.std.specs.Map.{lookup, keys_of}
use Rattle.std.specs.Cmp.{eq_by_cmp_equiv}
use Rattle.std.proofs.lemmas.Bool.Decides.{nat_tests}
use Rattle.std.proofs.lemmas.List.{length-map}
use Rattle.std.proofs.lemmas.List.Concat.{flat_map-cons}
use Rattle.std.proofs.lemmas.Map.Entries.{lookup_from_place}
use Rattle.std.proofs.lemmas.Map.Keys.{IsDistinct-from_sorted}
use Rattle.stab_base.specs.declared.chunk_name.ChunkName.{ChunkName}
use Rattle.row_value.specs.Fit.{fit_of}
use Rattle.row_value.specs.declared.pieces.Piece.{Piece}
use Rattle.row_value.specs.declared.pieces.Piece.TheVariants.{Keep, Fresh}
use Rattle.row_value.specs.declared.pieces.PieceObject.{PieceObject}
use Rattle.row_value.specs.declared.pieces.PieceContent.{PieceContent}
use Rattle.row_value.specs.declared.pieces.PieceContent.TheVariants.{Gone, Row}
use Rattle.row_value.specs.declared.content.Content.{Content}
use Rattle.row_value.specs.declared.content.Content.TheVariants as contents
use Rattle.row_value.specs.declared.schema.Schema.{Schema}
use Rattle.value_codec.specs.Spelling.{pieces_of}
use Rattle.chunker.specs.Sized.{count_of, len_at, zeros_for, sized, fits_by_len}
use Rattle.chunk_store.specs.Payload.{name_cmp}
use Rattle.chunk_store.specs.Standing.{chunk_in}
use Rattle.row_store.specs.declared.stored.StoredRow.{StoredRow}
use Rattle.row_store.specs.Data.{TableData, id_cmp, row_of, with_row}
use Rattle.row_store.proofs.Versions.{id_cmp_total}
use Rattle.status_log.specs.Entry.{Entry}
use Rattle.store_commit.specs.Devs.{Devs}
use Rattle.store_commit.specs.NamedChunks.{Among, AreDifferent, is_among, names_in, names_of, IsNamed, NamedChunks}
use Rattle.store_commit.specs.There.{kept, has_len, lens_from, has_lens, all_lens, lacks, repeats, shares, exceeds, misfits, Chunks, is_not_there, hidden_from, named_from, hidden_rows, names_there, HasIds, IsWhole, WholeRows, MayBeWhole}
use Rattle.store_commit.specs.Agenda.{AreLeftovers, row_is_to_come, IsMoment, named_piece, named_object, named_content}
use Rattle.store_commit.specs.Scan.{AreSpared}
use Rattle.store_commit.specs.Update.{HasNames}
use Rattle.store_commit.proofs.Lookups.{cases_id, not_itself_id, name_itself, id_itself, row_put, row_put_other}
use Rattle.store_commit.proofs.Plans.{names_in-append}
use Rattle.store_commit.proofs.Replacing.{not_among}

-- ---- the same lengths, where the pieces stand for the same

pub among_piece : (name : ChunkName) (ps : List Piece) → Among (Keep name) ps → Among name (names_in ps)
among_piece name [] h = absurd h
among_piece name (Keep q ∷ ps) h = ⊎_elim (λ same. inl (let e : name ≡ q = cc in e)) (λ more. inr (among_piece name ps more)) h
among_piece name (Fresh o ∷ ps) h = ⊎_elim (λ same. absurd cc) (λ more. among_piece name ps more) h

among_left : {X : Type 0} (x : X) (xs ys : List X) → Among x xs → Among x (xs ++ ys)
among_left x [] ys h = absurd h
among_left x (y ∷ xs) ys h = ⊎_elim (λ same. inl same) (λ more. inr (among_left x xs ys more)) h

among_right : {X : Type 0} (x : X) (xs ys : List X) → Among x ys → Among x (xs ++ ys)
among_right x [] ys h = h
among_right x (y ∷ xs) ys h = inr (among_right x xs ys h)

pub among_either : {X : Type 0} (x : X) (xs ys : List X) → Among x (xs ++ ys) → Among x xs ⊎ Among x ys
among_either x [] ys h = inr h
among_either x (y ∷ xs) ys h = ⊎_elim (λ same. inl (inl same)) (λ more. ⊎_elim (λ a. inl (inr a)) (λ b. inr b) (among_either x xs ys more)) h

module _ (stands others : Piece → Option (List ℕ)) (size : ℕ) where
  abbrev Alike : List Piece → Type 0
  Alike ps = (p : Piece) → Among p ps → stands p ≡ others p

  lens_alike : (len place : ℕ) (ps : List Piece) → Alike ps → lens_from stands size len place ps ≡ lens_from others size len place ps
  lens_alike len place [] same = refl
  lens_alike len place (p ∷ ps) same =
      ap (λ (o : Option (List ℕ)). has_len o (len_at size len place) && lens_from stands size len (place + 1) ps) (same p (inl refl))
      ∙ ap (λ (b : Bool). has_len (others p) (len_at size len place) && b) (lens_alike len (place + 1) ps (λ q among. same q (inr among)))

  object_alike : (o : PieceObject) → Alike o.pieces → has_lens stands size o ≡ has_lens others size o
  object_alike o same = ap (λ (b : Bool). (length o.pieces == count_of size o.len) && b) (lens_alike o.len 0 o.pieces same)

  objects_alike : (os : List PieceObject) → Alike (pieces_of os) → list_all (has_lens stands size) os ≡ list_all (has_lens others size) os
  objects_alike [] same = refl
  objects_alike (o ∷ os) same =
      let parts : pieces_of (o ∷ os) ≡ o.pieces ++ pieces_of os = flat_map-cons (λ (q : PieceObject). q.pieces) o os in
      let all : Alike (o.pieces ++ pieces_of os) = subst Alike parts same in
      ap (λ (b : Bool). b && list_all (has_lens stands size) os) (object_alike o (λ p among. all p (among_left p o.pieces (pieces_of os) among)))
      ∙ ap (λ (b : Bool). has_lens others size o && b) (objects_alike os (λ p among. all p (among_right p o.pieces (pieces_of os) among)))

-- names that stand for the same
lacks_alike : (chunk other : ChunkName → Option (List ℕ)) (table : Option (Schema × ℕ)) (c : PieceContent) → ((name : ChunkName) → Among name (names_of c) → chunk name ≡ other name) → lacks (kept chunk) table c ≡ lacks (kept other) table c
lacks_alike chunk other None c same = refl
lacks_alike chunk other (Some table) Gone same = refl
lacks_alike chunk other (Some table) (Row some objects) same = ap not (objects_alike (kept chunk) (kept other) table.0.chunk objects each)
  where
    each : (p : Piece) → Among p (pieces_of objects) → kept chunk p ≡ kept other p
    each (Keep name) among = same name (among_piece name (pieces_of objects) among)
    each (Fresh ordinal) among = refl

-- ---- names

different_once : (met names : List ChunkName) → AreDifferent names → ((q : ChunkName) → Among q met → Among q names → ⊥) → repeats met names ≡ false
different_once met [] h apart = refl
different_once met (n ∷ names) h apart =
    let new : is_among n met ≡ false = not_among n met (λ among. apart n among (inl refl)) in
    ap (λ (b : Bool). b || repeats (n ∷ met) names) new
    ∙ different_once (n ∷ met) names h.1 (λ q among there. ⊎_elim (λ same. h.0 (subst (λ (x : ChunkName). Among x names) same there)) (λ more. apart q more (inr there)) among)

none_of : {A : Type 0} (p : A → Bool) (xs : List A) → ((x : A) → Among x xs → p x ≡ false) → list_any p xs ≡ false
none_of p [] each = refl
none_of p (x ∷ xs) each = ap (λ (b : Bool). b || list_any p xs) (each x (inl refl)) ∙ none_of p xs (λ y among. each y (inr among))

-- ---- sets

pub no_keys : (set : BTreeSet ChunkName) → HasNames [] set → keys set ≡ []
no_keys set has = pick set.keys refl
  where
    pick : (ks : List ChunkName) → set.keys ≡ ks → set.keys ≡ []
    pick [] is = is
    pick (k ∷ ks) is =
        let yes_ : contains name_cmp set k ≡ true = ap (list_any (is_at (name_cmp k))) is ∙ ap (λ (b : Bool). b || list_any (is_at (name_cmp k)) ks) (name_itself k) in
        let no_ : contains name_cmp set k ≡ false = has.same k in
        absurd cc

pub no_hidden : (set : BTreeSet (List ℕ)) → HasIds [] set → keys set ≡ []
no_hidden set has = pick set.keys refl
  where
    pick : (ks : List (List ℕ)) → set.keys ≡ ks → set.keys ≡ []
    pick [] is = is
    pick (k ∷ ks) is =
        let yes_ : contains id_cmp set k ≡ true = ap (list_any (is_at (id_cmp k))) is ∙ ap (λ (b : Bool). b || list_any (is_at (id_cmp k)) ks) (id_itself k) in
        let no_ : contains id_cmp set k ≡ false = has.same k in
        absurd cc

-- ---- whole rows are there

all_from_get : {A : Type 0} (P : A → Type 0) (xs : List A) → ((i : ℕ) (x : A) → slice_get xs i ≡ Some x → P x) → AllByRecursion P xs
all_from_get P [] each = tt
all_from_get P (x ∷ xs) each = (each zero x refl, all_from_get P xs (λ i y is. each (suc i) y is))

less_apart : (a b : List ℕ) → id_cmp a b ≡ Less → a ≡ b → ⊥
less_apart a b less same = let at : is_at (id_cmp a) b ≡ true = subst (λ (q : List ℕ). is_at (id_cmp a) q ≡ true) same (id_itself a) in let no_ : is_at (id_cmp a) b ≡ false = ap is_eq less in absurd cc

abbrev Rows : Type 0
Rows = List (List ℕ × StoredRow)

abbrev AreApart : Rows → Type 0
AreApart [] = Unit {0}
AreApart (e ∷ es) = AllByRecursion (λ (f : List ℕ × StoredRow). e.0 ≡ f.0 → ⊥) es × AreApart es

above_apart : (id : List ℕ) (es : Rows) → AllByRecursion (λ (q : List ℕ). id_cmp id q ≡ Less) (keys_of es) → AllByRecursion (λ (f : List ℕ × StoredRow). id ≡ f.0 → ⊥) es
above_apart id [] h = tt
above_apart id (e ∷ es) h = (less_apart id e.0 h.0, above_apart id es h.1)

rising_apart : (es : Rows) → IsStrictlySortedBy id_cmp (keys_of es) → AreApart es
unfolding IsStrictlySortedBy
rising_apart [] h = tt
rising_apart (e ∷ es) h = (above_apart e.0 es h.0, rising_apart es h.1)

pub rows_stand : (held : TableData) → IsStrictlySortedBy id_cmp (keys_of held.rows) → AllByRecursion (λ (e : List ℕ × StoredRow). row_of held e.0 ≡ Some e.1) held.rows
rows_stand held rising = all_from_get (λ (e : List ℕ × StoredRow). row_of held e.0 ≡ Some e.1) held.rows (λ i e is. lookup_from_place (eq_by_cmp_equiv id_cmp_total) held.rows i e.0 e.1 (IsDistinct-from_sorted id_cmp (keys_of held.rows) rising) is)

-- what is named is named by a row
module _ (d : Devs) where
  pub named_from_row : (name : ChunkName) (before : List ChunkName) (es : Rows) → AllByRecursion (λ (e : List ℕ × StoredRow). row_of d.held e.0 ≡ Some e.1) es → Among name (named_from d.chunks d.held.table before es)
      → Among name before ⊎ IsNamed d.held name
  named_from_row name before [] all h = inl h
  named_from_row name before (e ∷ es) all h = pick (is_not_there d.chunks d.held.table before e.1) (named_from_row name before es all.1) (named_from_row name (before ++ names_of e.1.content) es all.1) h
    where
      pick : (b : Bool) → (Among name (named_from d.chunks d.held.table before es) → Among name before ⊎ IsNamed d.held name)
          → (Among name (named_from d.chunks d.held.table (before ++ names_of e.1.content) es) → Among name (before ++ names_of e.1.content) ⊎ IsNamed d.held name)
          → Among name (cond b (named_from d.chunks d.held.table before es) (named_from d.chunks d.held.table (before ++ names_of e.1.content) es)) → Among name before ⊎ IsNamed d.held name
      pick true hidden there a = hidden a
      pick false hidden there a = ⊎_elim
          (λ both. ⊎_elim (λ x. inl x) (λ here. inr (record { row = e.0; stored = e.1; there = all.0; among = here })) (among_either name before (names_of e.1.content) both))
          (λ x. inr x)
          (there a)

module _ (meaning : ChunkName → List ℕ) (d : Devs) (n : NamedChunks meaning d) (w : WholeRows meaning d.held) where
  -- each name that stood before is a row's, and none of these rows'
  abbrev StoodBefore : List ChunkName → Rows → Type 0
  StoodBefore before es = (name : ChunkName) → Among name before → (a : IsNamed d.held name) × AllByRecursion (λ (e : List ℕ × StoredRow). a.row ≡ e.0 → ⊥) es

  is_there : (before : List ChunkName) (e : List ℕ × StoredRow) (es : Rows) → row_of d.held e.0 ≡ Some e.1 → StoodBefore before (e ∷ es) → is_not_there d.chunks d.held.table before e.1 ≡ false
  is_there before e es at stood =
      let c = e.1.content in
      let whole = w.each e.0 e.1 at in
      let named : (name : ChunkName) → Among name (names_of c) → IsNamed d.held name = λ name among. record { row = e.0; stored = e.1; there = at; among = among } in
      let lens : lacks (kept (chunk_in d.chunks)) d.held.table c ≡ false = lacks_alike (chunk_in d.chunks) (λ name. Some (meaning name)) d.held.table c (λ name among. n.there name (named name among)) ∙ whole.lens in
      let once : repeats [] (names_of c) ≡ false = different_once [] (names_of c) (n.different e.0 e.1 at) (λ q none among. none) in
      let alone : shares before (names_of c) ≡ false = none_of (λ (name : ChunkName). is_among name before) (names_of c) (λ name among. not_among name before (λ was. let x = stood name was in x.1.0 (n.once name x.0 (named name among)))) in
      let below : exceeds e.1.version (names_of c) ≡ false = none_of (λ (name : ChunkName). nat_lt e.1.version name.version) (names_of c) (λ name among. let le = n.below name (named name among) in grind (arith, nat_tests)) in
      all_false (lacks (kept (chunk_in d.chunks)) d.held.table c) (repeats [] (names_of c)) (shares before (names_of c)) (exceeds e.1.version (names_of c)) (misfits d.held.table c) lens once alone below whole.fits
    where
      all_false : (a b x y z : Bool) → a ≡ false → b ≡ false → x ≡ false → y ≡ false → z ≡ false → a || (b || (x || (y || z))) ≡ false
      all_false a b x y z p q r s t = rw (p, q, r, s, t) refl

  none_hidden : (before : List ChunkName) (es : Rows) → AllByRecursion (λ (e : List ℕ × StoredRow). row_of d.held e.0 ≡ Some e.1) es → AreApart es → StoodBefore before es
      → hidden_from d.chunks d.held.table before es ≡ []
  none_hidden before [] all apart stood = refl
  none_hidden before (e ∷ es) all apart stood =
      ap (λ (b : Bool). cond b (e.0 ∷ hidden_from d.chunks d.held.table before es) (hidden_from d.chunks d.held.table (before ++ names_of e.1.content) es)) (is_there before e es all.0 stood)
      ∙ none_hidden (before ++ names_of e.1.content) es all.1 apart.1 behind
    where
      behind : StoodBefore (before ++ names_of e.1.content) es
      behind name among = ⊎_elim
          (λ was. let x = stood name was in (x.0, x.1.1))
          (λ here. (record { row = e.0; stored = e.1; there = all.0; among = here }, apart.0))
          (among_either name before (names_of e.1.content) among)

  module _ (rising : IsStrictlySortedBy id_cmp (keys_of d.held.rows)) where
    pub whole_shown : hidden_rows d ≡ []
    whole_shown = none_hidden [] d.held.rows (rows_stand d.held rising) (rising_apart d.held.rows rising) (λ name none. absurd none)

    filter_none : {A : Type 0} (p : A → Bool) (xs : List A) → ((x : A) → Among x xs → p x ≡ false) → filter p xs ≡ []
    filter_none p [] each = refl
    filter_none {A} p (x ∷ xs) each = ap (λ (b : Bool). cond b (x ∷ filter p xs) (filter p xs)) (each x (inl refl)) ∙ filter_none p xs (λ y among. each y (inr among))

    pub whole_spared : (spared : BTreeSet ChunkName) → AreSpared d spared → keys spared ≡ []
    whole_spared spared s = no_keys spared (subst (λ (l : List ChunkName). HasNames l spared) none s.2)
      where
        none : filter (λ (name : ChunkName). is_among name (names_there d)) s.0 ≡ []
        none = filter_none (λ (name : ChunkName). is_among name (names_there d)) s.0 (λ name among. not_among name (names_there d) (λ there. let left = s.1.left name among in ⊎_elim (λ no_. no_) (λ a. n.apart left.0 name left.1 left.2 a) (named_from_row d name [] d.held.rows (rows_stand d.held rising) there)))

-- ---- they stay whole

pub still_whole : (meaning other : ChunkName → List ℕ) (held : TableData) → ((name : ChunkName) → IsNamed held name → other name ≡ meaning name) → WholeRows meaning held → WholeRows other held
still_whole meaning other held same w = record {
  each = λ row stored at.
      let whole = w.each row stored at in
      record {
        fits = whole.fits;
        lens = lacks_alike (λ name. Some (other name)) (λ name. Some (meaning name)) held.table stored.content (λ name among. ap (λ (b : List ℕ). Some b) (same name (record { row = row; stored = stored; there = at; among = among }))) ∙ whole.lens;
      };
}

pub whole_put : (meaning : ChunkName → List ℕ) (held : TableData) (stored : StoredRow) → MayBeWhole meaning held stored → WholeRows meaning (with_row held stored)
whole_put meaning held stored m = record { each = λ row found at. pick row found at (cases_id stored.row row) }
  where
    pick : (row : List ℕ) (found : StoredRow) → row_of (with_row held stored) row ≡ Some found → (stored.row ≡ row) ⊎ (is_at (id_cmp stored.row) row ≡ false) → IsWhole (kept (λ name. Some (meaning name))) held.table found.content
    pick row found at (inl same) = let both : Some stored ≡ Some found = sym (row_put held stored row same) ∙ at in let one : stored ≡ found = cc in subst (λ (s : StoredRow). IsWhole (kept (λ name. Some (meaning name))) held.table s.content) one m.row
    pick row found at (inr other) = m.before.each row found (sym (row_put_other held stored row other) ∙ at)

pub moment_whole : (meaning : ChunkName → List ℕ) (before : TableData) (stored : StoredRow) (b : Bool) (held : TableData) → held ≡ (if b then before else with_row before stored) → MayBeWhole meaning before stored → WholeRows meaning held
moment_whole meaning before stored true held is m = subst (WholeRows meaning) (sym is) m.before
moment_whole meaning before stored false held is m = subst (WholeRows meaning) (sym is) (whole_put meaning before stored m)

-- ---- the row of an update

both_true : (a b : Bool) → a && b ≡ true → (a ≡ true) × (b ≡ true)
both_true true b h = (refl, h)
both_true false b h = absurd cc

not_false : (b : Bool) → not b ≡ false → b ≡ true
not_false true h = refl
not_false false h = absurd cc

module _ (v : ℕ) (stands others : Piece → Option (List ℕ)) (size : ℕ) where
  -- each piece goes on to stand for as many bytes
  abbrev GoesOn : List Piece → Type 0
  GoesOn ps = (p : Piece) (len : ℕ) → Among p ps → has_len (stands p) len ≡ true → has_len (others (named_piece v p)) len ≡ true

  lens_named : (len place : ℕ) (ps : List Piece) → GoesOn ps → lens_from stands size len place ps ≡ true → lens_from others size len place (map (named_piece v) ps) ≡ true
  lens_named len place [] to h = refl
  lens_named len place (p ∷ ps) to h =
      let b = both_true (has_len (stands p) (len_at size len place)) (lens_from stands size len (place + 1) ps) h in
      ap (λ (x : Bool). x && lens_from others size len (place + 1) (map (named_piece v) ps)) (to p (len_at size len place) (inl refl) b.0) ∙ lens_named len (place + 1) ps (λ q n among. to q n (inr among)) b.1

  object_named : (o : PieceObject) → GoesOn o.pieces → has_lens stands size o ≡ true → has_lens others size (named_object v o) ≡ true
  object_named o to h =
      let b = both_true (length o.pieces == count_of size o.len) (lens_from stands size o.len 0 o.pieces) h in
      ap (λ (n : ℕ). (n == count_of size o.len) && lens_from others size o.len 0 (map (named_piece v) o.pieces)) (length-map o.pieces (named_piece v))
      ∙ (ap (λ (x : Bool). x && lens_from others size o.len 0 (map (named_piece v) o.pieces)) b.0 ∙ lens_named o.len 0 o.pieces to b.1)

  objects_named : (os : List PieceObject) → GoesOn (pieces_of os) → list_all (has_lens stands size) os ≡ true → list_all (has_lens others size) (map (named_object v) os) ≡ true
  objects_named [] to h = refl
  objects_named (o ∷ os) to h =
      let b = both_true (has_lens stands size o) (list_all (has_lens stands size) os) h in
      let parts : pieces_of (o ∷ os) ≡ o.pieces ++ pieces_of os = flat_map-cons (λ (q : PieceObject). q.pieces) o os in
      let all : GoesOn (o.pieces ++ pieces_of os) = subst GoesOn parts to in
      ap (λ (x : Bool). x && list_all (has_lens others size) (map (named_object v) os)) (object_named o (λ p n among. all p n (among_left p o.pieces (pieces_of os) among)) b.0)
      ∙ objects_named os (λ p n among. all p n (among_right p o.pieces (pieces_of os) among)) b.1

abbrev pub content_pieces : PieceContent → List Piece
content_pieces Gone = []
content_pieces (Row some objects) = pieces_of objects

pub lens_still : (v : ℕ) (stands others : Piece → Option (List ℕ)) (table : Option (Schema × ℕ)) (c : PieceContent)
    → ((p : Piece) (len : ℕ) → Among p (content_pieces c) → has_len (stands p) len ≡ true → has_len (others (named_piece v p)) len ≡ true)
    → lacks stands table c ≡ false → lacks others table (named_content v c) ≡ false
lens_still v stands others None c to h = refl
lens_still v stands others (Some table) Gone to h = refl
lens_still v stands others (Some table) (Row some objects) to h = ap not (objects_named v stands others table.0.chunk objects to (not_false (list_all (has_lens stands table.0.chunk) objects) h))

zeros_still : (v : ℕ) (os : List PieceObject) → zeros_for (map (named_object v) os) ≡ zeros_for os
zeros_still v [] = refl
zeros_still v (o ∷ os) = ap (λ (l : List (List ℕ)). replicate o.len 0 ∷ l) (zeros_still v os)

sized_still : (v : ℕ) (c : PieceContent) → sized (named_content v c) ≡ sized c
sized_still v Gone = refl
sized_still v (Row some objects) = ap (λ (l : List (List ℕ)). contents.Row some l) (zeros_still v objects)

pub fits_still : (v : ℕ) (table : Option (Schema × ℕ)) (c : PieceContent) → misfits table c ≡ false → misfits table (named_content v c) ≡ false
fits_still v None c h = h
fits_still v (Some table) c h = ap (λ (x : Content). not (is_ok (fit_of table.0 x))) (sized_still v c) ∙ h
