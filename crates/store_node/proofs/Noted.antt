-- The chunks of a row that were noted by their names.
use Rattle.std.proofs.Common.{append-nil, append_assoc, length, take, get_or, ◌+◌, ◌<◌, ◌≡◌, inl, inr, ⊎_elim, ℕ, Bool, true, false, cond, List, [], ◌∷◌, ◌++◌, Option, Some, None, refl, sym, ◌∙◌, ap, subst, true≢false}
use Rattle.std.specs.Prelude.{◌&&◌, option_map}
use Rattle.std.specs.Map.{lookup}
use Rattle.std.specs.declared.cmp.Ordering.{Ordering}
use Rattle.std.specs.declared.cmp.Ordering.TheVariants.{Less, Equal, Greater}
use Rattle.std.specs.Ordering.{match_ordering}
use Rattle.std.specs.List.{list_all}
use Rattle.std.specs.Str.{bytes_eq}
use Rattle.std.specs.BTreeMap.{insert_entry}
use Rattle.std.proofs.lemmas.Slice.Eq.{bytes_eq-Decides}
use Rattle.std.proofs.lemmas.List.{take_more}
use Rattle.stab_base.specs.declared.chunk_name.ChunkName.{ChunkName}
use Rattle.row_value.specs.declared.content.Content.{Content}
use Rattle.row_value.specs.declared.pieces.Piece.{Piece}
use Rattle.row_value.specs.declared.pieces.Piece.TheVariants.{Keep, Fresh}
use Rattle.chunk_store.specs.Payload.{name_cmp}
use Rattle.chunk_store.specs.Standing.{chunk_in}
use Rattle.store_commit.specs.NamedChunks.{Among, AreDifferent}
use Rattle.store_commit.proofs.Lookups.{cases_among, chunk_put, chunk_put_other}
use Rattle.step_tables.specs.Chunks.{Named, flat, objects_of, each_chunk, is_there, has_kept, names_of}
use Rattle.device_laws.proofs.Names.{mapped_among, among_mapped}
use Rattle.device_laws.proofs.Chunks.{names}
use Rattle.device_laws.proofs.Entries.{one_named}
use Rattle.device_laws.proofs.Made.{any_named, is_named_there}
use Rattle.store_node.specs.Finding.{noted, values_by}
use Rattle.store_node.specs.Update.{has_bytes, is_found}

-- ---- what is read of the values of a map

pub values_insert : {K X Y : Type 0} (cmp : K → K → Ordering) (f : X → Y) (es : List (K × X)) (k : K) (v : X) → values_by (insert_entry cmp es k v) f ≡ insert_entry cmp (values_by es f) k (f v)
values_insert cmp f [] k v = refl
values_insert {K} {X} {Y} cmp f (e ∷ es) k v = pick (cmp k e.0) (values_insert cmp f es k v)
  where
    pick : (o : Ordering) → values_by (insert_entry cmp es k v) f ≡ insert_entry cmp (values_by es f) k (f v)
        → values_by (match_ordering o ((k, v) ∷ e ∷ es) ((e.0, v) ∷ es) (e ∷ insert_entry cmp es k v)) f
        ≡ match_ordering o ((k, f v) ∷ (e.0, f e.1) ∷ values_by es f) ((e.0, f v) ∷ values_by es f) ((e.0, f e.1) ∷ insert_entry cmp (values_by es f) k (f v))
    pick Less more = refl
    pick Equal more = refl
    pick Greater more = ap (λ (l : List (K × Y)). (e.0, f e.1) ∷ l) more

pub values_lookup : {K X Y : Type 0} (test : K → Bool) (f : X → Y) (es : List (K × X)) → lookup test (values_by es f) ≡ option_map f (lookup test es)
values_lookup test f [] = refl
values_lookup {K} {X} {Y} test f (e ∷ es) = pick (test e.0) (values_lookup test f es)
  where
    pick : (b : Bool) → lookup test (values_by es f) ≡ option_map f (lookup test es) → cond b (Some (f e.1)) (lookup test (values_by es f)) ≡ option_map f (cond b (Some e.1) (lookup test es))
    pick true more = refl
    pick false more = more

-- ---- chunks that were noted one after the other

pub noted_append : (found : List (ChunkName × List ℕ)) (xs ys : List Named) → noted found (xs ++ ys) ≡ noted (noted found xs) ys
noted_append found [] ys = refl
noted_append found (x ∷ xs) ys = noted_append (insert_entry name_cmp found x.0 x.1) xs ys

-- the same, one chunk or one object further on
pub noted_more : {X : Type 0} (f : X → List ℕ) (all : List Named) (i : ℕ) (start : List (ChunkName × List ℕ)) (now new : List (ChunkName × X)) (name : ChunkName) (value : X) (e : Named) → i < length all
    → values_by now f ≡ noted start (take i all) → new ≡ insert_entry name_cmp now name value → name ≡ (get_or all i e).0 → f value ≡ (get_or all i e).1 → values_by new f ≡ noted start (take (i + 1) all)
noted_more {X} f all i start now new name value e within so_far is name_is value_is =
    ap (λ (l : List (ChunkName × X)). values_by l f) is
    ∙ (values_insert name_cmp f now name value
    ∙ (ap (λ (l : List (ChunkName × List ℕ)). insert_entry name_cmp l name (f value)) so_far
    ∙ (ap (λ (n : ChunkName). insert_entry name_cmp (noted start (take i all)) n (f value)) name_is
    ∙ (ap (λ (b : List ℕ). insert_entry name_cmp (noted start (take i all)) (get_or all i e).0 b) value_is
    ∙ (sym (noted_append start (take i all) (get_or all i e ∷ [])) ∙ ap (noted start) (sym (take_more all i e within)))))))

flat_push : (held : List (List Named)) (object : List Named) → flat (held ++ object ∷ []) ≡ flat held ++ object
flat_push [] object = append-nil object
flat_push (x ∷ held) object = ap (λ (l : List Named). x ++ l) (flat_push held object) ∙ sym (append_assoc x (flat held) object)

pub noted_objects : (held : List (List Named)) (i : ℕ) (now new : List (ChunkName × List ℕ)) (object : List Named) → i < length held → object ≡ get_or held i object → now ≡ noted [] (flat (take i held)) → new ≡ noted now object
    → new ≡ noted [] (flat (take (i + 1) held))
noted_objects held i now new object within at so_far is =
    is ∙ (ap (λ (l : List (ChunkName × List ℕ)). noted l object) so_far ∙ (sym (noted_append [] (flat (take i held)) object)
    ∙ ap (noted []) (sym (flat_push (take i held) object) ∙ ap flat (ap (λ (o : List Named). take i held ++ o ∷ []) at ∙ sym (take_more held i object within)))))

noted_other : (found : List (ChunkName × List ℕ)) (all : List Named) (name : ChunkName) → (Among name (names all) → ⊥) → chunk_in (noted found all) name ≡ chunk_in found name
noted_other found [] name isnt = refl
noted_other found (x ∷ all) name isnt = noted_other (insert_entry name_cmp found x.0 x.1) all name (λ a. isnt (inr a)) ∙ chunk_put_other found x.0 x.1 name (λ same. isnt (inl (sym same)))

noted_here : (found : List (ChunkName × List ℕ)) (all : List Named) → AreDifferent (names all) → (x : Named) → Among x all → chunk_in (noted found all) x.0 ≡ Some x.1
noted_here found [] d x a = absurd a
noted_here found (y ∷ all) d x (inl same) =
    subst (λ (z : Named). chunk_in (noted found (y ∷ all)) z.0 ≡ Some z.1) (sym same) (noted_other (insert_entry name_cmp found y.0 y.1) all y.0 d.0 ∙ chunk_put found y.0 y.1)
noted_here found (y ∷ all) d x (inr more) = noted_here (insert_entry name_cmp found y.0 y.1) all d.1 x more

-- ---- a chunk that is looked for

pub found_as : (look : ChunkName → Option (List ℕ)) (piece : Piece) (name : ChunkName) (chunk bytes : List ℕ) (b : Bool) → piece ≡ Keep name → look name ≡ Some bytes → b ≡ bytes_eq bytes chunk → b ≡ is_found look (piece, chunk)
found_as look piece name chunk bytes b kept found is = is ∙ sym (ap (λ (p : Piece). is_found look (p, chunk)) kept ∙ ap (λ (o : Option (List ℕ)). has_bytes o chunk) found)

pub not_found_as : (look : ChunkName → Option (List ℕ)) (piece : Piece) (name : ChunkName) (chunk : List ℕ) → piece ≡ Keep name → look name ≡ None → false ≡ is_found look (piece, chunk)
not_found_as look piece name chunk kept none = sym (ap (λ (p : Piece). is_found look (p, chunk)) kept ∙ ap (λ (o : Option (List ℕ)). has_bytes o chunk) none)

-- ---- a chunk is found exactly where it is one of the row's

same_when : (a b : Bool) → (a ≡ true → b ≡ true) → (b ≡ true → a ≡ true) → a ≡ b
same_when true b to from = sym (to refl)
same_when false true to from = from refl
same_when false false to from = refl

module _ (row : List Named) (different : AreDifferent (names row)) where
  abbrev look : ChunkName → Option (List ℕ)
  look = chunk_in (noted [] row)

  kept_same : (name : ChunkName) (chunk : List ℕ) → is_found look (Keep name, chunk) ≡ is_there row (Keep name, chunk)
  kept_same name chunk = ⊎_elim here none (cases_among name (names row))
    where
      here : Among name (names row) → is_found look (Keep name, chunk) ≡ is_there row (Keep name, chunk)
      here a =
          let x = among_mapped (λ (c : Named). c.0) name row a in
          let found : look name ≡ Some x.0.1 = ap look x.2 ∙ noted_here [] row different x.0 x.1 in
          ap (λ (o : Option (List ℕ)). has_bytes o chunk) found
          ∙ same_when (bytes_eq x.0.1 chunk) (is_there row (Keep name, chunk))
          (λ same.
          let bytes : x.0.1 ≡ chunk = (bytes_eq-Decides x.0.1 chunk).0 same in
          is_named_there row name chunk (subst (λ (b : List ℕ). Among (name, b) row) bytes (subst (λ (n : ChunkName). Among (n, x.0.1) row) (sym x.2) x.1)))
          (λ there.
          let inside = any_named row name chunk there in
          let one : x.0 ≡ (name, chunk) = one_named row different x.0 (name, chunk) x.1 inside (sym x.2) in
          (bytes_eq-Decides x.0.1 chunk).1 (ap (λ (y : Named). y.1) one))

      none : (Among name (names row) → ⊥) → is_found look (Keep name, chunk) ≡ is_there row (Keep name, chunk)
      none isnt =
          let not_found : look name ≡ None = noted_other [] row name isnt in
          ap (λ (o : Option (List ℕ)). has_bytes o chunk) not_found
          ∙ same_when false (is_there row (Keep name, chunk)) (λ no_. absurd (true≢false (sym no_)))
          (λ there. absurd (isnt (mapped_among (λ (c : Named). c.0) (name, chunk) row (any_named row name chunk there))))

  all_same : (all : List (Piece × List ℕ)) → list_all (is_found look) all ≡ list_all (is_there row) all
  all_same [] = refl
  all_same ((Keep name, chunk) ∷ all) =
      ap (λ (b : Bool). b && list_all (is_found look) all) (kept_same name chunk) ∙ ap (λ (b : Bool). is_there row (Keep name, chunk) && b) (all_same all)
  all_same ((Fresh ordinal, chunk) ∷ all) = all_same all

pub found_is_kept : (size : ℕ) (held : List (List Named)) (content : Content) (pieces : List (List Piece)) → AreDifferent (names_of held)
    → list_all (is_found (chunk_in (noted [] (flat held)))) (flat (each_chunk size pieces (objects_of content))) ≡ has_kept size held content pieces
found_is_kept size held content pieces different = all_same (flat held) different (flat (each_chunk size pieces (objects_of content)))
