-- What waits at a client for its answer keeps what is known: a write that is spelled against what was read, and one that
-- is sent whole.
use Rattle.std.proofs.Common.{◌≡◌, ◌⊎◌, inl, inr, ⊎_elim, ℕ, ◌+◌, Bool, true, false, List, [], ◌∷◌, ◌++◌, length, Option, Some, None, refl, sym, ◌∙◌, ap, subst}
use Rattle.std.specs.Prelude.{not, map, zip, if◌then◌else◌}
use Rattle.std.specs.Str.{bytes_eq}
use Rattle.std.proofs.lemmas.Bool.{and_from}
use Rattle.std.proofs.lemmas.Slice.Eq.{bytes_eq-Decides}
use Rattle.stab_base.specs.declared.chunk_name.ChunkName.{ChunkName}
use Rattle.row_value.specs.declared.content.Content.{Content}
use Rattle.row_value.specs.declared.pieces.Piece.{Piece}
use Rattle.row_value.specs.declared.pieces.Piece.TheVariants.{Keep, Fresh}
use Rattle.step_tables.specs.Slots.{Shadow, InFlight}
use Rattle.step_tables.specs.Store.{Stored}
use Rattle.step_tables.specs.Items.{IsItemOf}
use Rattle.step_tables.specs.Members.{Among}
use Rattle.step_tables.specs.Messages.{Request, Header}
use Rattle.step_tables.specs.ClientMoves.{Slots, known, chunks_read, spelled, shadow_of, shadow_at}
use Rattle.step_tables.specs.Chunks.{same_name, is_among, are_apart}
use Rattle.step_tables.specs.Chunks.{cut, flat, each_chunk, objects_of, names_at, first_of, others_of, kept_in, piece_by, next_by, next_behind, against, all_against, fresh_from, all_fresh}
use Rattle.step_tables.proofs.Lists.{among_none, among_cons, among_here, among_next, among_left, among_right, among_either, among_cases}
use Rattle.piece_laws.specs.Pieces.{IsNamed, IsDead, KeepsKnown, KeepsNone, GoTogether, IsHeaderOf, HasNames, IsOfOut, IsSpelledOut, SlotsNamed}
use Rattle.client_laws.specs.Spells.{known_in, IsApart}
use Rattle.name_laws.proofs.Names as Names
use Rattle.name_laws.proofs.Names.{AreDifferent, same_is, true_any}
use Rattle.name_laws.proofs.Rows.{AreWellNamed}
use Rattle.piece_laws.proofs.Linked.{made_of, IsNext}
use Rattle.piece_laws.proofs.Gone.{known_later, dead_later, together_later, kept_is}
use Rattle.piece_laws.proofs.Tables.{IsPut, Became, put_more}

-- ---- against what was read: a kept chunk stands in it under its name

zip_against : (next : ℕ) (old : List (Option ChunkName × List ℕ)) (chunks : List (List ℕ)) (name : ChunkName) (bytes : List ℕ)
    → Among (zip (against next old chunks) chunks) (Keep name, bytes) → Among old (Some name, bytes)
zip_against next old [] name bytes a = absurd (among_none (Keep name, bytes) a)
zip_against next [] (chunk ∷ chunks) name bytes a = ⊎_elim
    (λ same. absurd (let e : Fresh next ≡ Keep name = ap (λ (x : Piece × List ℕ). x.0) same in cc))
    (λ more. zip_against (next + 1) [] chunks name bytes more)
    (among_cons (Fresh next, chunk) (zip (against (next + 1) [] chunks) chunks) (Keep name, bytes) a)
zip_against next (held ∷ old) (chunk ∷ chunks) name bytes a = go (bytes_eq held.1 chunk) refl (λ n b. zip_against n old chunks name bytes b) a
  where
    here : (said : Option ChunkName) → held.0 ≡ said → held.1 ≡ chunk → ((n : ℕ) → Among (zip (against n old chunks) chunks) (Keep name, bytes) → Among old (Some name, bytes))
        → Among ((piece_by next said, chunk) ∷ zip (against (next_by next said) old chunks) chunks) (Keep name, bytes) → Among (held ∷ old) (Some name, bytes)
    here None is same later b = ⊎_elim
        (λ e. absurd (let f : Fresh next ≡ Keep name = ap (λ (x : Piece × List ℕ). x.0) e in cc))
        (λ more. among_next held old (Some name, bytes) (later (next + 1) more))
        (among_cons (Fresh next, chunk) (zip (against (next + 1) old chunks) chunks) (Keep name, bytes) b)
    here (Some kept) is same later b = ⊎_elim
        (λ e.
        let f : Keep kept ≡ Keep name = ap (λ (x : Piece × List ℕ). x.0) e in
        let names : kept ≡ name = cc in
        let first : held.0 ≡ Some name = is ∙ ap (λ (n : ChunkName). Some n) names in
        let second : held.1 ≡ bytes = same ∙ ap (λ (x : Piece × List ℕ). x.1) e in
        subst (λ (b2 : List ℕ). Among (held ∷ old) (Some name, b2)) second
        (subst (λ (o : Option ChunkName). Among (held ∷ old) (o, held.1)) first (among_here held old)))
        (λ more. among_next held old (Some name, bytes) (later next more))
        (among_cons (Keep kept, chunk) (zip (against next old chunks) chunks) (Keep name, bytes) b)

    go : (t : Bool) → bytes_eq held.1 chunk ≡ t → ((n : ℕ) → Among (zip (against n old chunks) chunks) (Keep name, bytes) → Among old (Some name, bytes))
        → Among ((piece_by next (if t then held.0 else None), chunk) ∷ zip (against (next_by next (if t then held.0 else None)) old chunks) chunks) (Keep name, bytes) → Among (held ∷ old) (Some name, bytes)
    go true is later b = here held.0 refl ((bytes_eq-Decides held.1 chunk).0 is) later b
    go false is later b = ⊎_elim
        (λ e. absurd (let f : Fresh next ≡ Keep name = ap (λ (x : Piece × List ℕ). x.0) e in cc))
        (λ more. among_next held old (Some name, bytes) (later (next + 1) more))
        (among_cons (Fresh next, chunk) (zip (against (next + 1) old chunks) chunks) (Keep name, bytes) b)

read_chunk : {X : Type 0} (old : List (List X)) (x : X) → Among (first_of old) x ⊎ Among (flat (others_of old)) x → Among (flat old) x
read_chunk [] x (inl a) = absurd (among_none x a)
read_chunk [] x (inr a) = absurd (among_none x a)
read_chunk (object ∷ objects) x (inl a) = among_left object (flat objects) x a
read_chunk (object ∷ objects) x (inr a) = among_right object (flat objects) x a

against_read : (size next : ℕ) (old : List (List (Option ChunkName × List ℕ))) (objects : List (List ℕ)) (name : ChunkName) (bytes : List ℕ)
    → Among (flat (each_chunk size (all_against next old (map (cut size) objects)) objects)) (Keep name, bytes) → Among (flat old) (Some name, bytes)
against_read size next old [] name bytes a = absurd (among_none (Keep name, bytes) a)
against_read size next old (object ∷ objects) name bytes a =
    let pieces : List Piece = against next (first_of old) (cut size object) in
    read_chunk old (Some name, bytes) (⊎_elim
    (λ here. inl (zip_against next (first_of old) (cut size object) name bytes here))
    (λ more. inr (against_read size (next_behind next pieces) (others_of old) objects name bytes more))
    (among_either (zip pieces (cut size object)) (flat (each_chunk size (all_against (next_behind next pieces) (others_of old) (map (cut size) objects)) objects)) (Keep name, bytes) a))

some_is : (a b : ChunkName) → Some a ≡ Some b → a ≡ b
some_is a b e = cc

module _ (size : ℕ) (h : List Stored) (row : List ℕ) where
  -- what was read names what the Store has
  read_named : (shadow : Option Shadow) → ((x : Shadow) → shadow ≡ Some x → HasNames h row x) → (name : ChunkName) (bytes : List ℕ)
      → Among (flat (chunks_read size shadow)) (Some name, bytes) → IsNamed size h row name bytes
  read_named None f name bytes a = absurd (among_none (Some name, bytes) a)
  read_named (Some x) f name bytes a =
      let has = f x refl in
      let c = made_of (λ (n : ChunkName). Some n) size has.item.names (objects_of x.content) (Some name) bytes
      (subst (λ (ns : List (List (Option ChunkName))). Among (flat (each_chunk size ns (objects_of x.content))) (Some name, bytes)) has.names a) in
      record {
        item = has.item;
        stands = has.is.stands;
        row_is = has.is.row_is;
        chunk = subst (λ (k : Content). Among (flat (each_chunk size has.item.names (objects_of k))) (name, bytes)) (sym has.content)
            (subst (λ (n : ChunkName). Among (flat (each_chunk size has.item.names (objects_of x.content))) (n, bytes)) (some_is c.0 name c.2) c.1);
      }

  pub spelled_known : (shadow : Option Shadow) → ((x : Shadow) → shadow ≡ Some x → HasNames h row x) → (o : InFlight)
      → KeepsKnown size h row o.content (spelled size shadow o).pieces
  spelled_known shadow f o name bytes a = read_named shadow f name bytes (against_read size 0 (chunks_read size shadow) (objects_of o.content) name bytes a)

-- ---- all chunks sent

fresh_none : (next : ℕ) (pieces : List Piece) → kept_in (fresh_from next pieces) ≡ []
fresh_none next [] = refl
fresh_none next (piece ∷ pieces) = fresh_none (next + 1) pieces

kept_join : (xs ys : List Piece) → kept_in (xs ++ ys) ≡ kept_in xs ++ kept_in ys
kept_join [] ys = refl
kept_join (Keep name ∷ xs) ys = ap (λ (l : List ChunkName). name ∷ l) (kept_join xs ys)
kept_join (Fresh ordinal ∷ xs) ys = kept_join xs ys

pub whole_none : (next : ℕ) (pieces : List (List Piece)) → KeepsNone (all_fresh next pieces)
whole_none next [] = refl
whole_none next (object ∷ objects) =
    kept_join (fresh_from next object) (flat (all_fresh (next + length object) objects))
    ∙ ap (λ (l : List ChunkName). l ++ kept_in (flat (all_fresh (next + length object) objects))) (fresh_none next object)
    ∙ whole_none (next + length object) objects

-- a chunk that is kept is among the pieces
said_among : {X : Type 0} (size : ℕ) (said : List (List X)) (objects : List (List ℕ)) (x : X) (bytes : List ℕ) → Among (flat (each_chunk size said objects)) (x, bytes) → Among (flat said) x
said_among size said [] x bytes a = absurd (among_none (x, bytes) a)
said_among size [] (object ∷ objects) x bytes a = said_among size [] objects x bytes a
said_among {X} size (here ∷ said) (object ∷ objects) x bytes a = ⊎_elim
    (λ b. among_left here (flat said) x (first here (cut size object) b))
    (λ b. among_right here (flat said) x (said_among size said objects x bytes b))
    (among_either (zip here (cut size object)) (flat (each_chunk size said objects)) (x, bytes) a)
  where
    first : (xs : List X) (ys : List (List ℕ)) → Among (zip xs ys) (x, bytes) → Among xs x
    first [] ys b = absurd (among_none (x, bytes) b)
    first (y ∷ xs) [] b = absurd (among_none (x, bytes) b)
    first (y ∷ xs) (z ∷ ys) b = ⊎_elim
        (λ e. subst (Among (y ∷ xs)) (ap (λ (p : X × List ℕ). p.0) e) (among_here y xs))
        (λ more. among_next y xs x (first xs ys more)) (among_cons (y, z) (zip xs ys) (x, bytes) b)

pub none_known : (size : ℕ) (h : List Stored) (row : List ℕ) (content : Content) (pieces : List (List Piece)) → KeepsNone pieces → KeepsKnown size h row content pieces
none_known size h row content pieces none name bytes a =
    absurd (among_none name (subst (λ (l : List ChunkName). Among l name) none (kept_is name (flat pieces) (said_among size pieces (objects_of content) (Keep name) bytes a))))

pub dead_keeps : (size : ℕ) (h : List Stored) (row : List ℕ) (pieces : List (List Piece)) → IsDead size h row pieces → KeepsNone pieces → ⊥
dead_keeps size h row pieces d none = among_none d.name (subst (λ (l : List ChunkName). Among l d.name) none d.kept)

-- ---- slots, as items and requests come

names_later : (size : ℕ) (sent : List Request) (table : ℕ) (h later : List Stored) (row : List ℕ) (x : Shadow) → Became size sent table h later → HasNames h row x → HasNames later row x
names_later size sent table h later row x (inl same) n = subst (λ (l : List Stored). HasNames l row x) (sym same) n
names_later size sent table h later row x (inr b) n = subst (λ (l : List Stored). HasNames l row x) (sym b.2) (record {
  item = n.item;
  is = record { stands = among_left h (b.0 ∷ []) n.item n.is.stands; row_is = n.is.row_is; version_is = n.is.version_is };
  content = n.content;
  names = n.names;
})

module _ (size c : ℕ) (sent : List Request) (table : ℕ) (row : List ℕ) (o : InFlight) where
  of_out_push : (h : List Stored) (item : Stored) (next : IsNext size h item) (q : Request) → IsOfOut size h table row o q → IsOfOut size (h ++ item ∷ []) table row o q
  of_out_push h item next q k = record {
    table_is = k.table_is;
    row_is = k.row_is;
    content_is = k.content_is;
    pieces = ⊎_elim (λ same. inl same) (λ x. inr (x.0, x.1, dead_later size h item next row q.pieces x.2)) k.pieces;
  }

  out_push : (h : List Stored) (item : Stored) → IsPut size sent table h item → IsSpelledOut size c h sent table row o → IsSpelledOut size c (h ++ item ∷ []) sent table row o
  out_push h item put k = record {
    spells = k.spells;
    keeps = known_later size h item put.next row o.content o.pieces k.keeps;
    names = λ version i is. ⊎_elim
        (λ old. k.names version i (record { stands = old; client_is = is.client_is; number_is = is.number_is; row_is = is.row_is; version_is = is.version_is }))
        (λ same. subst (λ (x : Stored). x.names ≡ names_at version o.pieces) same (new version (subst (λ (x : Stored). IsItemOf (h ++ item ∷ []) c o.number row version x) (sym same) is)))
        (among_cases h item i is.stands);
    requests = λ q a b e. of_out_push h item put.next q (k.requests q a b e);
  }
    where
      new : (version : ℕ) → IsItemOf (h ++ item ∷ []) c o.number row version item → item.names ≡ names_at version o.pieces
      new version is =
          let q : Request = put.request in
          let of = k.requests q put.of.stands (put.of.client_is ∙ is.client_is) (put.of.number_is ∙ is.number_is) in
          ⊎_elim
          (λ same. put.of.names_are ∙ (ap (λ (v : ℕ). names_at v q.pieces) is.version_is ∙ ap (names_at version) same))
          (λ x. absurd (put.alive (subst (λ (r : List ℕ). IsDead size h r q.pieces) (sym is.row_is) x.2)))
          of.pieces

  out_later : (h later : List Stored) → Became size sent table h later → IsSpelledOut size c h sent table row o → IsSpelledOut size c later sent table row o
  out_later h later (inl same) k = subst (λ (l : List Stored). IsSpelledOut size c l sent table row o) (sym same) k
  out_later h later (inr b) k = subst (λ (l : List Stored). IsSpelledOut size c l sent table row o) (sym b.2) (out_push h b.0 b.1 k)

pub slots_later : (size c : ℕ) (sent : List Request) (table : ℕ) (h later : List Stored) (row : List ℕ) (slots : Slots) → Became size sent table h later
    → SlotsNamed size c h sent table row slots → SlotsNamed size c later sent table row slots
slots_later size c sent table h later row slots b k = record {
  shadow = λ x at. names_later size sent table h later row x b (k.shadow x at);
  conflict = λ x at. names_later size sent table h later row x b (k.conflict x at);
  out = λ o at. out_later size c sent table row o h later b (k.out o at);
}

-- fewer requests of the client
pub slots_fewer : (size c : ℕ) (h : List Stored) (sent fewer : List Request) (table : ℕ) (row : List ℕ) (slots : Slots)
    → ((q : Request) → Among fewer q → q.client ≡ c → Among sent q) → SlotsNamed size c h sent table row slots → SlotsNamed size c h fewer table row slots
slots_fewer size c h sent fewer table row slots sub k = record {
  shadow = k.shadow;
  conflict = k.conflict;
  out = λ o at. let out = k.out o at in record { spells = out.spells; keeps = out.keeps; names = out.names; requests = λ q a b e. out.requests q (sub q a b) b e };
}

-- ---- what an answer makes of a row

pub header_names : (h : List Stored) (header : Header) → IsHeaderOf h header → HasNames h header.row (shadow_of header)
header_names h header k = record { item = k.item; is = k.is; content = k.content; names = ap known (sym k.names) }

pub accepted_names : (size c : ℕ) (h : List Stored) (sent : List Request) (table : ℕ) (row : List ℕ) (o : InFlight) (version : ℕ) (i : Stored) → IsSpelledOut size c h sent table row o
    → IsItemOf h c o.number row version i → i.content ≡ o.content → HasNames h row (shadow_at version o)
accepted_names size c h sent table row o version i k is content = record {
  item = i;
  is = record { stands = is.stands; row_is = is.row_is; version_is = is.version_is };
  content = content;
  names = ap known (sym (k.names version i is));
}

pub together_became : (size : ℕ) (sent : List Request) (table : ℕ) (h later : List Stored) (row : List ℕ) (one other : List (List Piece)) → Became size sent table h later
    → GoTogether size h row one other → GoTogether size later row one other
together_became size sent table h later row one other (inl same) k = subst (λ (l : List Stored). GoTogether size l row one other) (sym same) k
together_became size sent table h later row one other (inr b) k = subst (λ (l : List Stored). GoTogether size l row one other) (sym b.2) (together_later size h b.0 b.1.next row one other k)

pub known_became : (size : ℕ) (sent : List Request) (table : ℕ) (h later : List Stored) (row : List ℕ) (content : Content) (pieces : List (List Piece)) → Became size sent table h later
    → KeepsKnown size h row content pieces → KeepsKnown size later row content pieces
known_became size sent table h later row content pieces (inl same) k = subst (λ (l : List Stored). KeepsKnown size l row content pieces) (sym same) k
known_became size sent table h later row content pieces (inr b) k = subst (λ (l : List Stored). KeepsKnown size l row content pieces) (sym b.2) (known_later size h b.0 b.1.next row content pieces k)

-- more requests
pub became_more : (size : ℕ) (sent more : List Request) (table : ℕ) (h later : List Stored) → Became size sent table h later → Became size (sent ++ more) table h later
became_more size sent more table h later (inl same) = inl same
became_more size sent more table h later (inr b) = inr (b.0, put_more size sent more table h b.0 b.1, b.2)

-- ---- a row that was read has no name twice

known_flat : (names : List (List ChunkName)) → known_in (flat (known names)) ≡ flat names
known_flat [] = refl
known_flat (object ∷ objects) = one object (known_flat objects)
  where
    one : (here : List ChunkName) → known_in (flat (known objects)) ≡ flat objects → known_in (map (λ (n : ChunkName). Some n) here ++ flat (known objects)) ≡ here ++ flat objects
    one [] rest = rest
    one (name ∷ more) rest = ap (λ (l : List ChunkName). name ∷ l) (one more rest)

pub different_apart : (names : List ChunkName) → AreDifferent names → are_apart names ≡ true
different_apart [] d = refl
different_apart (name ∷ names) d = and_from (not (is_among names name)) (are_apart names) (alone (is_among names name) refl) (different_apart names d.1)
  where
    alone : (b : Bool) → is_among names name ≡ b → not b ≡ true
    alone false is = refl
    alone true is =
        let x = true_any (same_name name) names is in
        absurd (d.0 (subst (λ (n : ChunkName). Names.Among n names) (sym (same_is name x.0 x.2)) x.1))

pub shadow_apart : (size : ℕ) (h : List Stored) (row : List ℕ) (shadow : Option Shadow) → AreWellNamed size h → ((x : Shadow) → shadow ≡ Some x → HasNames h row x) → IsApart shadow
shadow_apart size h row None named has = tt
shadow_apart size h row (Some x) named has =
    let k = has x refl in
    ap (λ (ns : List (List (Option ChunkName))). are_apart (known_in (flat ns))) k.names
    ∙ (ap are_apart (known_flat k.item.names) ∙ different_apart (flat k.item.names) (named.all k.item k.is.stands).different)
