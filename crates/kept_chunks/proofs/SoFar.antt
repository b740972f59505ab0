-- The local names of the chunks that a content brings, one more.
use Rattle.std.proofs.Common.{◌≡◌, ◌⊎◌, inl, inr, ⊎_elim, ℕ, ◌+◌, ◌<◌, ◌≤◌, true, false, List, [], ◌∷◌, ◌++◌, length, take, get_or, refl, sym, ◌∙◌, ap, subst, arith, add-one, append-nil, append_assoc, length-append}
use Rattle.std.specs.List.{AllByRecursion, Contains}
use Rattle.std.specs.BTreeSet.{BTreeSet, contains}
use Rattle.std.proofs.Math.Seq.{get_or-append_seam, take-suc}
use Rattle.std.proofs.lemmas.Bool.{cases_lt}
use Rattle.std.proofs.lemmas.List.{get_or_append_left, map-append}
use Rattle.std.proofs.lemmas.List.Elements.{All-from_recursion, All-contains}
use Rattle.stab_base.specs.declared.chunk_name.ChunkName.{ChunkName}
use Rattle.chunk_store.specs.Payload.{name_cmp}
use Rattle.held_value.specs.declared.local_name.LocalName.{LocalName}
use Rattle.held_value.specs.declared.content.HeldPiece.{HeldPiece}
use Rattle.held_value.specs.declared.content.HeldContent.{HeldContent}
use Rattle.held_value.specs.declared.content.HeldContent.TheVariants as held_as
use Rattle.client_journal.specs.Devs.{chunk_of}
use Rattle.client_journal.specs.Names.{Has, names_of, names_of_pieces}
use Rattle.client_journal.specs.There.{HasNames}
use Rattle.client_journal.proofs.Lookups.{has_cases, has_head}
use Rattle.client_journal.proofs.Wholes.{has_left, has_right, has_either}
use Rattle.held_contents.specs.declared.holding.HeldNew.{HeldNew}
use Rattle.held_contents.specs.Holding.{pieces_held, brought_name}
use Rattle.held_contents.proofs.Pieces.{once_repeats, repeats_once, once_both, names_are}
use Rattle.kept_chunks.specs.declared.keeping.Keeping.{Keeping}
use Rattle.kept_chunks.specs.Kept.{IsHeldAs, IsBroughtAs, IsKept, AreNumbered, content_under, local_for}
use Rattle.kept_chunks.specs.Steps.{Puts, IsSoFar, KeepsSoFar}

pub contained : {X : Type 0} (P : X → Type 0) (xs : List X) (x : X) → AllByRecursion P xs → Contains xs x → P x
contained P xs x h there = All-contains P xs x (All-from_recursion P xs h) there

-- a chunk that is held was numbered by its plan
pub numbered_is : (held : List (List (HeldPiece × List ℕ))) (local : LocalName) (bytes : List ℕ) → IsHeldAs held local bytes → AreNumbered held → local.plan ≡ 0 → ⊥
numbered_is held local bytes h all none =
    let Numbered : HeldPiece × List ℕ → Type 0 = λ chunk. chunk.0.local.plan ≡ 0 → ⊥ in
    contained Numbered h.object (h.piece, bytes) (contained (AllByRecursion Numbered) held h.object all h.there) h.chunk (ap (λ (n : LocalName). n.plan) h.local_is ∙ none)

-- ---- lists with one more

one_name : (n q : LocalName) → Has (n ∷ []) q → q ≡ n
one_name n q has = ⊎_elim (λ same. same) (λ no. absurd cc) (has_cases n q [] has)

more_each : (P : LocalName → List ℕ → Type 0) (locals : List LocalName) (local : LocalName) (done : List (List ℕ)) (bytes : List ℕ) → length locals ≡ length done
    → ((ordinal : ℕ) (none : LocalName) → ordinal < length done → P (get_or locals ordinal none) (get_or done ordinal [])) → P local bytes
    → (ordinal : ℕ) (none : LocalName) → ordinal < length (done ++ bytes ∷ []) → P (get_or (locals ++ local ∷ []) ordinal none) (get_or (done ++ bytes ∷ []) ordinal [])
more_each P locals local done bytes same each one ordinal none less =
    ⊎_elim
    (λ low.
    subst (λ (l : LocalName). P l (get_or (done ++ bytes ∷ []) ordinal [])) (sym (get_or_append_left locals (local ∷ []) none ordinal (omega (arith, low, same))))
    (subst (λ (b : List ℕ). P (get_or locals ordinal none) b) (sym (get_or_append_left done (bytes ∷ []) [] ordinal low)) (each ordinal none low)))
    (λ high.
    let at_done : ordinal ≡ length done = omega (arith, high, less, length-append done (bytes ∷ [])) in
    let at_locals : ordinal ≡ length locals = omega (arith, at_done, same) in
    subst (λ (l : LocalName). P l (get_or (done ++ bytes ∷ []) ordinal [])) (sym (ap (λ (i : ℕ). get_or (locals ++ local ∷ []) i none) at_locals ∙ get_or-append_seam locals local [] none))
    (subst (λ (b : List ℕ). P local b) (sym (ap (λ (i : ℕ). get_or (done ++ bytes ∷ []) i []) at_done ∙ get_or-append_seam done bytes [] [])) one))
    (cases_lt ordinal (length done))

pub front_all : {X : Type 0} (P : X → Type 0) (xs ys : List X) → AllByRecursion P (xs ++ ys) → AllByRecursion P xs
front_all P [] ys h = tt
front_all P (x ∷ xs) ys h = (h.0, front_all P xs ys h.1)

behind_all : {X : Type 0} (P : X → Type 0) (xs ys : List X) → AllByRecursion P (xs ++ ys) → AllByRecursion P ys
behind_all P [] ys h = h
behind_all P (x ∷ xs) ys h = behind_all P xs ys h.1

pub both_all : {X : Type 0} (P : X → Type 0) (xs ys : List X) → AllByRecursion P xs → AllByRecursion P ys → AllByRecursion P (xs ++ ys)
both_all P [] ys h k = k
both_all P (x ∷ xs) ys h k = (h.0, both_all P xs ys h.1 k)

-- ---- none so far

pub none_yet : (held : List (List (HeldPiece × List ℕ))) (content : List LocalName) (taken : BTreeSet ChunkName) → HasNames content taken → IsSoFar held content [] [] [] taken
none_yet held content taken has = record {
  count = refl;
  each = λ ordinal none less. absurd (omega (arith, less));
  below = λ numbered name no. absurd cc;
  once = λ numbered. refl;
  apart = λ numbered name no. absurd cc;
  fewer = omega arith;
  all_brought = λ ordinal less. absurd (omega (arith, less));
  small = λ most h. tt;
  all_taken = subst (λ (l : List LocalName). HasNames l taken) (sym (append-nil content)) has;
}

-- ---- one more

module _ (held : List (List (HeldPiece × List ℕ))) (content : List LocalName) (done : List (List ℕ)) (bytes : List ℕ) (locals : List LocalName) (brought : List (List ℕ)) (taken after : BTreeSet ChunkName)
    (k : IsSoFar held content done locals brought taken) where
  taken_more : (local : LocalName) → HasNames ((content ++ locals) ++ local ∷ []) after → HasNames (content ++ (locals ++ local ∷ [])) after
  taken_more local has = subst (λ (l : List LocalName). HasNames l after) (append_assoc content locals (local ∷ [])) has

  same_count : (local : LocalName) → length (locals ++ local ∷ []) ≡ length (done ++ bytes ∷ [])
  same_count local = omega (arith, k.count, length-append locals (local ∷ []), length-append done (bytes ∷ []))

  -- it is kept
  module _ (local : LocalName) (is_held : IsHeldAs held local bytes) (free : contains name_cmp taken (chunk_of local) ≡ false) (has : HasNames ((content ++ locals) ++ local ∷ []) after) where
    new_name : Has (content ++ locals) local → ⊥
    new_name there = let no : false ≡ true = sym free ∙ (k.all_taken.same local ∙ there) in cc

    pub kept_more : IsSoFar held content (done ++ bytes ∷ []) (locals ++ local ∷ []) brought after
    kept_more = record {
      count = same_count local;
      each = more_each (λ name its. IsHeldAs held name its ⊎ IsBroughtAs brought name its) locals local done bytes k.count k.each (inl is_held);
      below = λ numbered name there none. ⊎_elim (λ old. k.below numbered name old none)
          (λ last. absurd (numbered_is held local bytes is_held numbered (sym (ap (λ (n : LocalName). n.plan) (one_name local name last)) ∙ none))) (has_either locals (local ∷ []) name there);
      once = λ numbered. once_repeats [] (locals ++ local ∷ [])
          (once_both locals (local ∷ []) (repeats_once [] locals (k.once numbered)).0 ((λ no. cc), tt)
          (λ name old last. new_name (has_right content locals local (subst (λ (n : LocalName). Has locals n) (one_name local name last) old)))) (λ q has_it old. cc);
      apart = λ numbered name there other its. ⊎_elim (λ old. k.apart numbered name old other its)
          (λ last. new_name (has_left content locals local (subst (λ (n : LocalName). Has content n) (one_name local name last) its))) (has_either locals (local ∷ []) name there);
      fewer = omega (arith, k.fewer, length-append done (bytes ∷ []));
      all_brought = λ ordinal less. has_left locals (local ∷ []) (brought_name ordinal) (k.all_brought ordinal less);
      small = λ most h. k.small most (front_all (λ its. length its ≤ most) done (bytes ∷ []) h);
      all_taken = taken_more local has;
    }

  -- it is brought
  module _ (has : HasNames ((content ++ locals) ++ brought_name (length brought) ∷ []) after) where
    abbrev next : LocalName
    next = brought_name (length brought)

    abbrev all : List (List ℕ)
    all = brought ++ bytes ∷ []

    one_longer : length all ≡ length brought + 1
    one_longer = omega (arith, length-append brought (bytes ∷ []))

    still : (name : LocalName) (its : List ℕ) → IsHeldAs held name its ⊎ IsBroughtAs brought name its → IsHeldAs held name its ⊎ IsBroughtAs all name its
    still name its h = ⊎_elim (λ a. inl a)
        (λ b. inr (record { plan = b.plan; below = omega (arith, b.below, one_longer); bytes_are = get_or_append_left brought (bytes ∷ []) [] name.ordinal b.below ∙ b.bytes_are })) h

    pub brought_more : IsSoFar held content (done ++ bytes ∷ []) (locals ++ next ∷ []) all after
    brought_more = record {
      count = same_count next;
      each = more_each (λ name its. IsHeldAs held name its ⊎ IsBroughtAs all name its) locals next done bytes k.count (λ ordinal none less. still (get_or locals ordinal none) (get_or done ordinal []) (k.each ordinal none less))
          (inr (record { plan = refl; below = omega (arith, one_longer); bytes_are = get_or-append_seam brought bytes [] [] }));
      below = λ numbered name there none. ⊎_elim (λ old. omega (arith, k.below numbered name old none, one_longer))
          (λ last. omega (arith, ap (λ (n : LocalName). n.ordinal) (one_name next name last), one_longer)) (has_either locals (next ∷ []) name there);
      once = λ numbered. once_repeats [] (locals ++ next ∷ [])
          (once_both locals (next ∷ []) (repeats_once [] locals (k.once numbered)).0 ((λ no. cc), tt)
          (λ name old last. omega (arith, k.below numbered name old (ap (λ (n : LocalName). n.plan) (one_name next name last)), ap (λ (n : LocalName). n.ordinal) (one_name next name last)))) (λ q has_it old. cc);
      apart = λ numbered name there other its. ⊎_elim (λ old. k.apart numbered name old other its)
          (λ last. other (ap (λ (n : LocalName). n.plan) (one_name next name last))) (has_either locals (next ∷ []) name there);
      fewer = omega (arith, k.fewer, one_longer, length-append done (bytes ∷ []));
      all_brought = λ ordinal less. ⊎_elim (λ low. has_left locals (next ∷ []) (brought_name ordinal) (k.all_brought ordinal low))
          (λ high. has_right locals (next ∷ []) (brought_name ordinal) (has_head next (brought_name ordinal) [] (ap brought_name (let same : ordinal ≡ length brought = omega (arith, high, less, one_longer) in same))))
          (cases_lt ordinal (length brought));
      small = λ most h. both_all (λ its. length its ≤ most) brought (bytes ∷ []) (k.small most (front_all (λ its. length its ≤ most) done (bytes ∷ []) h)) (behind_all (λ its. length its ≤ most) done (bytes ∷ []) h);
      all_taken = taken_more next has;
    }

-- a chunk that is put
pub put_more : (held : List (List (HeldPiece × List ℕ))) (content : List LocalName) (done : List (List ℕ)) (bytes : List ℕ) (old new : Keeping) → KeepsSoFar held content done old → Puts held old new bytes → KeepsSoFar held content (done ++ bytes ∷ []) new
put_more held content done bytes old new k p =
    ⊎_elim
    (λ kept.
    rw (kept.added.locals, kept.added.brought)
    (kept_more held content done bytes old.locals.items old.brought old.taken new.taken k kept.local kept.is_held kept.free (kept.added.taken (content ++ old.locals.items) k.all_taken)))
    (λ b.
    rw (b.locals, b.brought)
    (brought_more held content done bytes old.locals.items old.brought old.taken new.taken k (b.taken (content ++ old.locals.items) k.all_taken)))
    p

-- one chunk more is brought at most
pub put_fewer : (held : List (List (HeldPiece × List ℕ))) (bytes : List ℕ) (old new : Keeping) → Puts held old new bytes → length new.brought ≤ length old.brought + 1
put_fewer held bytes old new p = ⊎_elim (λ kept. omega (arith, ap length kept.added.brought)) (λ b. omega (arith, ap length b.brought, length-append old.brought (bytes ∷ []))) p

-- all of them
pub all_kept : (held : List (List (HeldPiece × List ℕ))) (made : HeldNew) (keeping : Keeping) (content : HeldContent) → KeepsSoFar held (names_of made.content) made.brought keeping → content ≡ content_under (local_for keeping.locals.items) made.content
    → IsKept held made (record { content = content; brought = keeping.brought })
all_kept held made keeping content k is = record {
  locals = keeping.locals.items;
  content = is;
  count = k.count;
  each = k.each;
  once = k.once;
  apart = k.apart;
  fewer = k.fewer;
  all_brought = k.all_brought;
  small = k.small;
}

pub names_held : (content : HeldContent) → names_of_pieces (pieces_held content) ≡ names_of content
names_held held_as.Gone = refl
names_held (held_as.Row cells objects) = sym (names_are objects)

pub names_take : (pieces : List HeldPiece) (i : ℕ) (none : HeldPiece) → i < length pieces → names_of_pieces (take (i + 1) pieces) ≡ names_of_pieces (take i pieces) ++ (get_or pieces i none).local ∷ []
names_take pieces i none less =
    let more : take (i + 1) pieces ≡ take i pieces ++ get_or pieces i none ∷ [] = rw add-one (take-suc pieces i none less) in
    ap names_of_pieces more ∙ map-append (λ (p : HeldPiece). p.local) (take i pieces) (get_or pieces i none ∷ [])
