-- Objects held one after the other, and what follows for a new content.
use Rattle.std.proofs.Common.{◌≡◌, inl, inr, ⊎_elim, ◌⊎◌, ℕ, suc, ◌+◌, ◌<◌, ◌≤◌, Bool, true, false, List, [], ◌∷◌, ◌++◌, length, map, take, drop, get_or, Option, Some, None, refl, sym, ◌∙◌, ap, subst, arith, append_assoc, length-append, drop-cons, add-one}
use Rattle.std.specs.Prelude.{◌^◌, ◌==◌, ◌&&◌, Result, Ok, Err, IfOk}
use Rattle.std.specs.List.{concat, flat_map, list_all, AllByRecursion, Contains}
use Rattle.std.proofs.lemmas.Bool.{eqb-true}
use Rattle.std.proofs.lemmas.List.{append-nil, take_more, take_all, length-map}
use Rattle.std.proofs.lemmas.List.Sums.{sum_by-cons}
use Rattle.stab_base.specs.declared.chunk_name.ChunkName.{ChunkName}
use Rattle.row_value.specs.declared.content.Content.{Content}
use Rattle.row_value.specs.declared.content.Content.TheVariants as contents
use Rattle.row_value.specs.Fit.{chunk_count, chunks_of}
use Rattle.chunker.specs.Cut.{HaveSize}
use Rattle.chunker.proofs.Cuts.{counted, one_cut}
use Rattle.held_value.specs.declared.local_name.LocalName.{LocalName}
use Rattle.held_value.specs.declared.content.HeldPiece.{HeldPiece}
use Rattle.held_value.specs.declared.content.HeldObject.{HeldObject}
use Rattle.held_value.specs.declared.content.HeldContent.{HeldContent}
use Rattle.held_value.specs.declared.content.HeldContent.TheVariants as held_as
use Rattle.client_tables.specs.Held.{kept_in, or_name, piece_for, next_behind, held_pieces, brought}
use Rattle.client_tables.specs.Plan.{IsBrought}
use Rattle.client_journal.specs.Names.{Has, names_of, names_of_pieces, names_of_objects}
use Rattle.client_journal.specs.There.{has_lens, all_lens, repeats}
use Rattle.client_journal.proofs.Lookups.{has_head, has_tail}
use Rattle.step_tables.specs.Chunks.{first_of, is_of_each, objects_of, cut}
use Rattle.step_tables.specs.ClientMoves.{known}
use Rattle.row_pieces.proofs.Cuts.{cut_is}
use Rattle.journal_laws.specs.Whole.{whole_object, whole, names_in_objects, names_known, HasLen, HaveLens}
use Rattle.journal_laws.specs.Moves.{plan_meaning, AreShownChunks, object_of}
use Rattle.held_contents.specs.Holding.{with_names, all_named, first_shown, brought_of, held_objects, HoldsObjects, HoldsOne, IsNamedAgainst, IsHeldAgainst, AreShown, pieces_shown, names_shown, pieces_held, IsBroughtPiece, brought_name}
use Rattle.held_contents.proofs.Bytes.{bytes_given, no_more, objects_bytes, objects_lens, objects_places, all_small}
use Rattle.held_contents.proofs.Pieces.{IsEither, once_repeats, repeats_once, objects_pieces, shown_each, contained_each, has_piece, names_are, objects_bring, objects_once}

-- ---- the names that are given change no bytes

pub bytes_named : (names : List ChunkName) (chunks : List (List ℕ)) → bytes_given (with_names names chunks) ≡ chunks
bytes_named names [] = refl
bytes_named [] (bytes ∷ chunks) = ap (λ (l : List (List ℕ)). bytes ∷ l) (bytes_named [] chunks)
bytes_named (name ∷ names) (bytes ∷ chunks) = ap (λ (l : List (List ℕ)). bytes ∷ l) (bytes_named names chunks)

pub named_count : (names : List ChunkName) (chunks : List (List ℕ)) → length (with_names names chunks) ≡ length chunks
named_count names chunks = sym (length-map (with_names names chunks) (λ (chunk : Option ChunkName × List ℕ). chunk.1)) ∙ ap length (bytes_named names chunks)

whole_named : (names : List (List ChunkName)) (cuts : List (List (List ℕ))) → map object_of (all_named names cuts) ≡ map concat cuts
whole_named names [] = refl
whole_named names (chunks ∷ cuts) =
    ap (λ (l : List (List ℕ)). concat l ∷ map object_of (all_named (drop 1 names) cuts)) (bytes_named (first_of names) chunks) ∙ ap (λ (l : List (List ℕ)). concat chunks ∷ l) (whole_named (drop 1 names) cuts)

sizes_named : (size : ℕ) (names : List (List ChunkName)) (cuts : List (List (List ℕ))) → AllByRecursion (HaveSize size) cuts
    → AllByRecursion (λ (chunks : List (Option ChunkName × List ℕ)). HaveSize size (bytes_given chunks)) (all_named names cuts)
sizes_named size names [] h = tt
sizes_named size names (chunks ∷ cuts) h = (subst (HaveSize size) (sym (bytes_named (first_of names) chunks)) h.0, sizes_named size (drop 1 names) cuts h.1)

-- ---- so far

-- what the first objects are held by, and what is left
pub record SoFar (size : ℕ) (shown : List (List (HeldPiece × List ℕ))) (names : List (List ChunkName)) (objects : List (List ℕ)) (done : ℕ) (held : List HeldObject) (new : List (List ℕ)) (left : List (List (HeldPiece × List ℕ)))
    (named : List (List ChunkName)) : Type 0 where
  pub cuts : List (List (List ℕ))
  pub whole : map concat cuts ≡ take done objects
  pub sizes : AllByRecursion (HaveSize size) cuts
  pub held_is : (more : List (List (List ℕ))) → held ++ held_objects left (all_named named more) (length new) ≡ held_objects shown (all_named names (cuts ++ more)) 0
  pub brought_is : (more : List (List (List ℕ))) → new ++ brought_of left (all_named named more) ≡ brought_of shown (all_named names (cuts ++ more))
  pub few : length new + chunks_of size (drop done objects) < 2 ^ 32
  pub lens : AllByRecursion (λ (object : List ℕ). length object < 2 ^ 32) (drop done objects)

pub nothing_held : (size : ℕ) (shown : List (List (HeldPiece × List ℕ))) (names : List (List ChunkName)) (objects : List (List ℕ)) → chunks_of size objects < 2 ^ 32 → AllByRecursion (λ (object : List ℕ). length object < 2 ^ 32) objects
    → SoFar size shown names objects 0 [] [] shown names
nothing_held size shown names objects few lens = record {
  cuts = [];
  whole = refl;
  sizes = tt;
  held_is = λ more. refl;
  brought_is = λ more. refl;
  few = omega (arith, few);
  lens = lens;
}

module _ (size : ℕ) (some : 0 < size) (shown left : List (List (HeldPiece × List ℕ))) (names named : List (List ChunkName)) (objects : List (List ℕ)) (done : ℕ) (object : List ℕ) (lt : done < length objects) (is : object ≡ get_or objects done object)
    (held : List HeldObject) (new : List (List ℕ)) (h : SoFar size shown names objects done held new left named) where
  next_objects : drop done objects ≡ object ∷ drop (done + 1) objects
  next_objects = drop-cons objects done object lt ∙ (ap (λ (o : List ℕ). o ∷ drop (suc done) objects) (sym is) ∙ ap (λ (n : ℕ). object ∷ drop n objects) (sym (add-one done)))

  pub next_short : length object < 2 ^ 32
  next_short = let k : AllByRecursion (λ (o : List ℕ). length o < 2 ^ 32) (object ∷ drop (done + 1) objects) = subst (λ (l : List (List ℕ)). AllByRecursion (λ (o : List ℕ). length o < 2 ^ 32) l) next_objects h.lens in k.0

  pub next_few : length new + chunk_count size object < 2 ^ 32
  next_few = omega (arith, h.few, ap (λ (l : List (List ℕ)). chunks_of size l) next_objects, sum_by-cons (chunk_count size) object (drop (done + 1) objects))

  pub one_more : (held_new : List HeldObject) (brought_new : List (List ℕ)) → HoldsOne size left named object held held_new new brought_new
      → SoFar size shown names objects (done + 1) held_new brought_new (drop 1 left) (drop 1 named)
  one_more held_new brought_new k =
      let given : List (Option ChunkName × List ℕ) = with_names (first_of named) k.chunks in
      let bring : List (List ℕ) = brought (first_shown left) given in
      let count : length brought_new ≡ length new + length bring = ap length k.brought_is ∙ length-append new bring in
      record {
        cuts = h.cuts ++ k.chunks ∷ [];
        whole = map_push h.cuts k.chunks ∙ (ap (λ (l : List (List ℕ)). l ++ concat k.chunks ∷ []) h.whole
            ∙ (ap (λ (o : List ℕ). take done objects ++ o ∷ []) (k.cut.whole ∙ is) ∙ sym (take_more objects done object lt)));
        sizes = all_push h.cuts k.chunks h.sizes k.cut.sizes;
        held_is = λ more.
            ap (λ (l : List HeldObject). l ++ held_objects (drop 1 left) (all_named (drop 1 named) more) (length brought_new)) k.held_is
            ∙ (append_assoc held _ (held_objects (drop 1 left) (all_named (drop 1 named) more) (length brought_new))
            ∙ (ap (λ (n : ℕ). held ++ record { len = length object; pieces = held_pieces (first_shown left) given (length new) } ∷ held_objects (drop 1 left) (all_named (drop 1 named) more) n) count
            ∙ (ap (λ (o : List ℕ). held ++ record { len = length o; pieces = held_pieces (first_shown left) given (length new) } ∷ held_objects (drop 1 left) (all_named (drop 1 named) more) (length new + length bring)) (sym (ap concat (bytes_named (first_of named) k.chunks) ∙ k.cut.whole))
            ∙ (h.held_is (k.chunks ∷ more) ∙ ap (λ (l : List (List (List ℕ))). held_objects shown (all_named names l) 0) (sym (append_assoc h.cuts (k.chunks ∷ []) more))))));
        brought_is = λ more.
            ap (λ (l : List (List ℕ)). l ++ brought_of (drop 1 left) (all_named (drop 1 named) more)) k.brought_is
            ∙ (append_assoc new bring (brought_of (drop 1 left) (all_named (drop 1 named) more))
            ∙ (h.brought_is (k.chunks ∷ more) ∙ ap (λ (l : List (List (List ℕ))). brought_of shown (all_named names l)) (sym (append_assoc h.cuts (k.chunks ∷ []) more))));
        few = omega (arith, h.few, count, no_more (first_shown left) given, named_count (first_of named) k.chunks, counted size object k.chunks some k.cut, ap (λ (l : List (List ℕ)). chunks_of size l) next_objects, sum_by-cons (chunk_count size) object (drop (done + 1) objects));
        lens = let l : AllByRecursion (λ (o : List ℕ). length o < 2 ^ 32) (object ∷ drop (done + 1) objects) = subst (λ (l : List (List ℕ)). AllByRecursion (λ (o : List ℕ). length o < 2 ^ 32) l) next_objects h.lens in l.1;
      }
    where
      map_push : (cuts : List (List (List ℕ))) (chunks : List (List ℕ)) → map concat (cuts ++ chunks ∷ []) ≡ map concat cuts ++ concat chunks ∷ []
      map_push [] chunks = refl
      map_push (c ∷ cuts) chunks = ap (λ (l : List (List ℕ)). concat c ∷ l) (map_push cuts chunks)

      all_push : (cuts : List (List (List ℕ))) (chunks : List (List ℕ)) → AllByRecursion (HaveSize size) cuts → HaveSize size chunks → AllByRecursion (HaveSize size) (cuts ++ chunks ∷ [])
      all_push [] chunks a b = (b, tt)
      all_push (c ∷ cuts) chunks a b = (a.0, all_push cuts chunks a.1 b)

pub all_held : (size : ℕ) (shown left : List (List (HeldPiece × List ℕ))) (names named : List (List ChunkName)) (objects : List (List ℕ)) (done : ℕ) (held : List HeldObject) (new : List (List ℕ)) → length objects ≤ done
    → SoFar size shown names objects done held new left named → HoldsObjects size shown names objects held new
all_held size shown left names named objects done held new le h = record {
  cuts = h.cuts;
  whole = h.whole ∙ take_all done objects le;
  sizes = h.sizes;
  held_is = sym (append-nil held) ∙ (h.held_is [] ∙ ap (λ (l : List (List (List ℕ))). held_objects shown (all_named names l) 0) (append-nil h.cuts));
  brought_is = sym (append-nil new) ∙ (h.brought_is [] ∙ ap (λ (l : List (List (List ℕ))). brought_of shown (all_named names l)) (append-nil h.cuts));
}

-- ---- what follows

module _ (size : ℕ) (some_size : 0 < size) (shown : List (List (HeldPiece × List ℕ))) (names : List (List ChunkName)) where
  module _ (meaning : LocalName → List ℕ) (number : ℕ) (are : AreShown meaning number shown) where
    row_whole : (objects : List (List ℕ)) (held : List HeldObject) (new : List (List ℕ)) → HoldsObjects size shown names objects held new
        → map (whole_object (plan_meaning meaning number new)) held ≡ objects
    row_whole objects held new k =
        ap (λ (l : List HeldObject). map (whole_object (plan_meaning meaning number new)) l) k.held_is
        ∙ (objects_bytes meaning number new size some_size shown (all_named names k.cuts) 0 [] are k.brought_is refl ∙ (whole_named names k.cuts ∙ k.whole))

    pub is_whole : (content : Content) (held : HeldContent) (new : List (List ℕ)) → IsNamedAgainst size shown names content held new → whole (plan_meaning meaning number new) held ≡ content
    is_whole contents.Gone held_as.Gone new k = refl
    is_whole contents.Gone (held_as.Row some objects) new k = absurd k
    is_whole (contents.Row some objects) held_as.Gone new k = absurd k
    is_whole (contents.Row some objects) (held_as.Row cells held) new k = let c = k.0 in let o = row_whole objects held new k.1 in cc

    pub lens_held : (content : Content) (held : HeldContent) (new : List (List ℕ)) → IsNamedAgainst size shown names content held new → HaveLens (plan_meaning meaning number new) held
    lens_held contents.Gone held_as.Gone new k = tt
    lens_held contents.Gone (held_as.Row some objects) new k = absurd k
    lens_held (contents.Row some objects) held_as.Gone new k = tt
    lens_held (contents.Row some objects) (held_as.Row cells held) new k =
        subst (λ (l : List HeldObject). AllByRecursion (HasLen (plan_meaning meaning number new)) l) (sym k.1.held_is)
        (objects_lens meaning number new size some_size shown (all_named names k.1.cuts) 0 [] are k.1.brought_is refl)

    pub places_held : (content : Content) (held : HeldContent) (new : List (List ℕ)) → IsNamedAgainst size shown names content held new → all_lens (λ name. Some (plan_meaning meaning number new name)) size held ≡ true
    places_held contents.Gone held_as.Gone new k = refl
    places_held contents.Gone (held_as.Row some objects) new k = absurd k
    places_held (contents.Row some objects) held_as.Gone new k = absurd k
    places_held (contents.Row some objects) (held_as.Row cells held) new k =
        ap (λ (l : List HeldObject). list_all (has_lens (λ name. Some (plan_meaning meaning number new name)) size) l) k.1.held_is
        ∙ objects_places meaning number new size some_size shown (all_named names k.1.cuts) 0 [] are (sizes_named size names k.1.cuts k.1.sizes) k.1.brought_is refl

    -- names that are shown were numbered
    shown_numbered : (name : LocalName) → Has (names_shown shown) name → name.plan ≡ 0 → ⊥
    shown_numbered name has none =
        let p = has_piece (λ piece. piece.local.plan ≡ 0 → ⊥) (pieces_shown shown) name (numbered shown are) has in
        p.1 (ap (λ (n : LocalName). n.plan) p.2 ∙ none)
      where
        in_object : (object : List (HeldPiece × List ℕ)) (rest : List HeldPiece) → AreShownChunks meaning number object → AllByRecursion (λ (piece : HeldPiece). piece.local.plan ≡ 0 → ⊥) rest
            → AllByRecursion (λ (piece : HeldPiece). piece.local.plan ≡ 0 → ⊥) (map (λ (chunk : HeldPiece × List ℕ). chunk.0) object ++ rest)
        in_object [] rest h r = r
        in_object (chunk ∷ object) rest h r = (h.0.numbered, in_object object rest h.1 r)

        numbered : (shown : List (List (HeldPiece × List ℕ))) → AreShown meaning number shown → AllByRecursion (λ (piece : HeldPiece). piece.local.plan ≡ 0 → ⊥) (pieces_shown shown)
        numbered [] h = tt
        numbered (object ∷ shown) h = in_object object (pieces_shown shown) h.0 (numbered shown h.1)

    pub once_held : (content : Content) (held : HeldContent) (new : List (List ℕ)) → IsNamedAgainst size shown names content held new → repeats [] (names_shown shown) ≡ false → repeats [] (names_of held) ≡ false
    once_held contents.Gone held_as.Gone new k once = refl
    once_held contents.Gone (held_as.Row some objects) new k once = absurd k
    once_held (contents.Row some objects) held_as.Gone new k once = absurd k
    once_held (contents.Row some objects) (held_as.Row cells held) new k once =
        ap (λ (l : List HeldObject). repeats [] (names_of_objects l)) k.1.held_is
        ∙ once_repeats [] (names_of_objects (held_objects shown (all_named names k.1.cuts) 0)) (objects_once shown (all_named names k.1.cuts) 0 (repeats_once [] (names_shown shown) once).0 shown_numbered) (λ q has old. cc)

  -- what holds of each piece that is shown, and of each name that is given
  module _ (P : HeldPiece → Type 0) (N : Option ChunkName → Type 0) (Q : HeldPiece → Type 0)
      (mixed : (kept : HeldPiece) (name : Option ChunkName) → P kept → N name → Q (record { local = kept.local; name = or_name name kept.name }))
      (none : N None) (some : AllByRecursion (AllByRecursion (λ (name : ChunkName). N (Some name))) names) (all : AllByRecursion P (pieces_shown shown)) where
    abbrev AreGiven : List (Option ChunkName × List ℕ) → Type 0
    AreGiven chunks = AllByRecursion (λ (chunk : Option ChunkName × List ℕ). N chunk.0) chunks

    given : (few : List ChunkName) (chunks : List (List ℕ)) → AllByRecursion (λ (name : ChunkName). N (Some name)) few → AreGiven (with_names few chunks)
    given few [] h = tt
    given [] (bytes ∷ chunks) h = (none, given [] chunks h)
    given (name ∷ few) (bytes ∷ chunks) h = (h.0, given few chunks h.1)

    all_given : (left : List (List ChunkName)) (cuts : List (List (List ℕ))) → AllByRecursion (AllByRecursion (λ (name : ChunkName). N (Some name))) left → AllByRecursion AreGiven (all_named left cuts)
    all_given left [] h = tt
    all_given [] (chunks ∷ cuts) h = (given [] chunks tt, all_given [] cuts h)
    all_given (few ∷ left) (chunks ∷ cuts) h = (given few chunks h.0, all_given left cuts h.1)

    row_pieces : (objects : List (List ℕ)) (held : List HeldObject) (new : List (List ℕ)) → HoldsObjects size shown names objects held new
        → AllByRecursion (IsEither P N Q mixed (length new)) (flat_map (λ (object : HeldObject). object.pieces) held)
    row_pieces objects held new k =
        subst (λ (l : List HeldObject). AllByRecursion (IsEither P N Q mixed (length new)) (flat_map (λ (object : HeldObject). object.pieces) l)) (sym k.held_is)
        (objects_pieces P N Q mixed (length new) shown (all_named names k.cuts) 0 (shown_each P shown all) (all_given names k.cuts some) (omega (arith, ap length k.brought_is)))

    pub each_piece : (content : Content) (held : HeldContent) (new : List (List ℕ)) → IsNamedAgainst size shown names content held new → AllByRecursion (IsEither P N Q mixed (length new)) (pieces_held held)
    each_piece contents.Gone held_as.Gone new k = tt
    each_piece contents.Gone (held_as.Row some objects) new k = absurd k
    each_piece (contents.Row some objects) held_as.Gone new k = absurd k
    each_piece (contents.Row some objects) (held_as.Row cells held) new k = row_pieces objects held new k.1

  pub names_in_held : (content : Content) (held : HeldContent) (new : List (List ℕ)) → IsNamedAgainst size shown names content held new → (name : LocalName) → Has (names_of held) name
      → Has (names_shown shown) name ⊎ IsBrought (length new) name
  names_in_held content held new k name has =
      let p = has_piece (IsEither Old (λ n. Unit {0}) Old (λ kept n old given. old) (length new)) (pieces_held held) name
      (each_piece Old (λ n. Unit {0}) Old (λ kept n old given. old) tt (any_names names) all_old content held new k) (subst (λ (l : List LocalName). Has l name) (names_held held) has) in
      ⊎_elim (λ old. inl (subst (λ (n : LocalName). Has (names_shown shown) n) p.2 old))
      (λ b. inr (subst (λ (n : LocalName). IsBrought (length new) n) p.2 b.0)) p.1
    where
      Old : HeldPiece → Type 0
      Old piece = Has (names_shown shown) piece.local

      any_few : (few : List ChunkName) → AllByRecursion (λ (name : ChunkName). Unit {0}) few
      any_few [] = tt
      any_few (name ∷ few) = (tt, any_few few)

      any_names : (left : List (List ChunkName)) → AllByRecursion (AllByRecursion (λ (name : ChunkName). Unit {0})) left
      any_names [] = tt
      any_names (few ∷ left) = (any_few few, any_names left)

      names_held : (held : HeldContent) → names_of held ≡ names_of_pieces (pieces_held held)
      names_held held_as.Gone = refl
      names_held (held_as.Row cells objects) = names_are objects

      all_old : AllByRecursion Old (pieces_shown shown)
      all_old = all (pieces_shown shown) (λ q h. h)
        where
          all : (rest : List HeldPiece) → ((q : LocalName) → Has (names_of_pieces rest) q → Has (names_shown shown) q) → AllByRecursion Old rest
          all [] to = tt
          all (p ∷ rest) to = (to p.local (has_head p.local p.local (names_of_pieces rest) refl), all rest (λ q h. to q (has_tail p.local q (names_of_pieces rest) h)))

  pub each_brought : (content : Content) (held : HeldContent) (new : List (List ℕ)) → IsNamedAgainst size shown names content held new → (ordinal : ℕ) → ordinal < length new
      → Has (names_of held) (brought_name ordinal)
  each_brought contents.Gone held_as.Gone new k ordinal lt = absurd (omega (arith, ap length k, lt))
  each_brought contents.Gone (held_as.Row some objects) new k ordinal lt = absurd k
  each_brought (contents.Row some objects) held_as.Gone new k ordinal lt = absurd k
  each_brought (contents.Row some objects) (held_as.Row cells held) new k ordinal lt =
      subst (λ (l : List HeldObject). Has (names_of_objects l) (brought_name ordinal)) (sym k.1.held_is)
      (objects_bring shown (all_named names k.1.cuts) 0 ordinal (omega arith) (omega (arith, lt, ap length k.1.brought_is)))

  pub small_held : (content : Content) (held : HeldContent) (new : List (List ℕ)) → IsNamedAgainst size shown names content held new → AllByRecursion (λ bytes. length bytes ≤ size) new
  small_held contents.Gone held_as.Gone new k = subst (λ (l : List (List ℕ)). AllByRecursion (λ bytes. length bytes ≤ size) l) (sym k) tt
  small_held contents.Gone (held_as.Row some objects) new k = absurd k
  small_held (contents.Row some objects) held_as.Gone new k = absurd k
  small_held (contents.Row some objects) (held_as.Row cells held) new k =
      subst (λ (l : List (List ℕ)). AllByRecursion (λ bytes. length bytes ≤ size) l) (sym k.1.brought_is) (all_small size shown (all_named names k.1.cuts) (sizes_named size names k.1.cuts k.1.sizes))

-- where no name is given, a piece is a shown one or stands for a chunk that is brought
pub pieces_are : (size : ℕ) → 0 < size → (shown : List (List (HeldPiece × List ℕ))) (content : Content) (held : HeldContent) (new : List (List ℕ)) → IsHeldAgainst size shown content held new
    → AllByRecursion (λ (piece : HeldPiece). Contains (pieces_shown shown) piece ⊎ IsBroughtPiece (length new) piece) (pieces_held held)
pieces_are size some shown content held new k =
    each_as (pieces_held held)
    (each_piece size some shown [] (Contains (pieces_shown shown)) IsUnknown (Contains (pieces_shown shown)) mixed refl tt (contained_each (pieces_shown shown)) content held new k)
  where
    IsUnknown : Option ChunkName → Type 0
    IsUnknown name = name ≡ None

    mixed : (kept : HeldPiece) (name : Option ChunkName) → Contains (pieces_shown shown) kept → IsUnknown name → Contains (pieces_shown shown) (record { local = kept.local; name = or_name name kept.name })
    mixed kept name there is = subst (λ (n : Option ChunkName). Contains (pieces_shown shown) (record { local = kept.local; name = or_name n kept.name })) (sym is) there

    each_as : (pieces : List HeldPiece) → AllByRecursion (IsEither (Contains (pieces_shown shown)) IsUnknown (Contains (pieces_shown shown)) mixed (length new)) pieces
        → AllByRecursion (λ (piece : HeldPiece). Contains (pieces_shown shown) piece ⊎ IsBroughtPiece (length new) piece) pieces
    each_as [] h = tt
    each_as (piece ∷ pieces) h = (⊎_elim (λ old. inl old) (λ b. inr (record { plan = b.0.0; ordinal = b.0.1; name = b.1 })) h.0, each_as pieces h.1)

-- ---- the names that are given are those of the content

piece_given : (next : ℕ) (name : ChunkName) (k : Option HeldPiece) → (piece_for next (Some name) k).name ≡ Some name
piece_given next name None = refl
piece_given next name (Some kept) = refl

object_given : (shown : List (HeldPiece × List ℕ)) (few : List ChunkName) (chunks : List (List ℕ)) (next : ℕ) → length few ≡ length chunks
    → map (λ (piece : HeldPiece). piece.name) (held_pieces shown (with_names few chunks) next) ≡ map (λ (name : ChunkName). Some name) few
object_given shown [] [] next same = refl
object_given shown [] (bytes ∷ chunks) next same = absurd (omega (arith, same))
object_given shown (name ∷ few) [] next same = absurd (omega (arith, same))
object_given shown (name ∷ few) (bytes ∷ chunks) next same =
    ap (λ (n : Option ChunkName). n ∷ map (λ (piece : HeldPiece). piece.name) (held_pieces (drop 1 shown) (with_names few chunks) (next_behind next (kept_in shown bytes)))) (piece_given next name (kept_in shown bytes))
    ∙ ap (λ (l : List (Option ChunkName)). Some name ∷ l) (object_given (drop 1 shown) few chunks (next_behind next (kept_in shown bytes)) (omega (arith, same)))

one_count : (size : ℕ) (chunks : List (List ℕ)) → 0 < size → HaveSize size chunks → length (cut size (concat chunks)) ≡ length chunks
one_count size chunks some sizes = ap length (one_cut size (concat chunks) (cut size (concat chunks)) chunks some (cut_is size (concat chunks) some) (record { whole = refl; sizes = sizes }))

objects_given : (size : ℕ) → 0 < size → (shown : List (List (HeldPiece × List ℕ))) (names : List (List ChunkName)) (cuts : List (List (List ℕ))) (next : ℕ) → AllByRecursion (HaveSize size) cuts
    → is_of_each size names (map concat cuts) ≡ true → names_in_objects (held_objects shown (all_named names cuts) next) ≡ known names
objects_given size some shown [] [] next sizes of = refl
objects_given size some shown [] (chunks ∷ cuts) next sizes of = absurd cc
objects_given size some shown (few ∷ names) [] next sizes of = absurd cc
objects_given size some shown (few ∷ names) (chunks ∷ cuts) next sizes of =
    let both = both_true (length few == length (cut size (concat chunks))) (is_of_each size names (map concat cuts)) of in
    let count : length few ≡ length chunks = eqb-true (length few) (length (cut size (concat chunks))) both.0 ∙ one_count size chunks some sizes.0 in
    ap (λ (l : List (Option ChunkName)). l ∷ names_in_objects (held_objects (drop 1 shown) (all_named names cuts) (next + length (brought (first_shown shown) (with_names few chunks))))) (object_given (first_shown shown) few chunks next count)
    ∙ ap (λ (l : List (List (Option ChunkName))). map (λ (name : ChunkName). Some name) few ∷ l) (objects_given size some (drop 1 shown) names cuts (next + length (brought (first_shown shown) (with_names few chunks))) sizes.1 both.1)
  where
    both_true : (a b : Bool) → (a && b) ≡ true → (a ≡ true) × (b ≡ true)
    both_true true b h = (refl, h)
    both_true false b h = absurd cc

pub known_held : (size : ℕ) → 0 < size → (shown : List (List (HeldPiece × List ℕ))) (names : List (List ChunkName)) (content : Content) (held : HeldContent) (new : List (List ℕ)) → is_of_each size names (objects_of content) ≡ true
    → IsNamedAgainst size shown names content held new → names_known held ≡ known names
known_held size some shown [] contents.Gone held_as.Gone new of k = refl
known_held size some shown (few ∷ names) contents.Gone held_as.Gone new of k = absurd cc
known_held size some shown names contents.Gone (held_as.Row some_cells objects) new of k = absurd k
known_held size some shown names (contents.Row some_cells objects) held_as.Gone new of k = absurd k
known_held size some shown names (contents.Row some_cells objects) (held_as.Row cells held) new of k =
    ap names_in_objects k.1.held_is ∙ objects_given size some shown names k.1.cuts 0 k.1.sizes (ap (is_of_each size names) k.1.whole ∙ of)

pub if_ok : {T E : Type 0} (P Q : T → Type 0) (r : Result T E) → ((x : T) → P x → Q x) → IfOk r P → IfOk r Q
if_ok P Q (Ok x) to h = to x h
if_ok P Q (Err e) to h = tt

pub both_ok : {T E : Type 0} (P Q R : T → Type 0) (r : Result T E) → ((x : T) → P x → Q x → R x) → IfOk r P → IfOk r Q → IfOk r R
both_ok P Q R (Ok x) to h k = to x h k
both_ok P Q R (Err e) to h k = tt
