-- What holds a row once the chunks that are held already keep their local names.
use Rattle.std.proofs.Common.{◌≡◌, ◌⊎◌, inl, inr, ⊎_elim, ℕ, zero, suc, ◌<◌, ◌≤◌, Bool, true, false, List, [], ◌∷◌, ◌++◌, length, map, drop, get_or, Option, Some, refl, sym, ◌∙◌, ap, subst, arith, append_assoc, length-append}
use Rattle.std.specs.Prelude.{◌||◌, ◌==◌, ◌^◌, not, if◌then◌else◌}
use Rattle.std.specs.List.{concat, AllByRecursion}
use Rattle.std.proofs.lemmas.Bool.Decides.{nat_tests}
use Rattle.std.proofs.lemmas.List.Sums.{sum_by-cons}
use Rattle.stab_base.specs.declared.chunk_name.ChunkName.{ChunkName}
use Rattle.row_value.specs.declared.content.Content.{Content}
use Rattle.row_value.specs.declared.content.Content.TheVariants as contents
use Rattle.row_value.specs.Fit.{chunk_count, chunks_of}
use Rattle.chunker.specs.Cut.{HaveSize}
use Rattle.chunker.proofs.Cuts.{count_is}
use Rattle.held_value.specs.declared.local_name.LocalName.{LocalName}
use Rattle.held_value.specs.declared.content.HeldPiece.{HeldPiece}
use Rattle.held_value.specs.declared.content.HeldContent.{HeldContent}
use Rattle.held_value.specs.declared.content.HeldContent.TheVariants as held_as
use Rattle.held_codec.specs.Spelling.{HasLocalSpelling, HasHeldPiece, HasHeld}
use Rattle.slot_store.specs.declared.held.TableRecord.{TableRecord}
use Rattle.client_tables.specs.Held.{brought}
use Rattle.client_tables.specs.Plan.{IsBrought}
use Rattle.client_journal.specs.Agenda.{meaning_with}
use Rattle.client_journal.specs.Names.{Has, names_of_pieces, names_of}
use Rattle.client_journal.specs.There.{all_lens, fits_by_len, repeats, is_wrong}
use Rattle.client_journal.proofs.Lookups.{has_cases, has_head, has_tail}
use Rattle.client_journal.proofs.Wholes.{has_left}
use Rattle.step_tables.specs.Chunks.{first_of}
use Rattle.step_tables.specs.ClientMoves.{known}
use Rattle.journal_laws.specs.Moves.{plan_meaning, IsShownChunk, AreShownChunks}
use Rattle.journal_laws.specs.Whole.{whole, names_known, HaveLens}
use Rattle.journal_laws.proofs.Brought.{kept_is}
use Rattle.held_contents.specs.declared.holding.HeldNew.{HeldNew}
use Rattle.held_contents.specs.Holding.{IsFit, IsNamedAgainst, AreShown, pieces_shown, names_shown, brought_name, brought_of, all_named, with_names, first_shown}
use Rattle.held_contents.proofs.Bytes.{no_more}
use Rattle.held_contents.proofs.Fits.{row_within}
use Rattle.held_contents.proofs.Objects.{named_count}
use Rattle.held_contents.proofs.Pieces.{AreOnce, once_repeats, repeats_once, shown_each, has_piece, joined}
use Rattle.plan_limits.specs.Fit.{IsFitContent}
use Rattle.plan_limits.proofs.New.{new_fit}
use Rattle.kept_chunks.specs.Kept.{IsHeldAs, IsBroughtAs, AreNumbered, IsKept, HoldsKept, local_for}
use Rattle.kept_chunks.proofs.Renamed.{AreSame, AreSpelled, names_under, has_mapped, mapped_has, mapped_once, known_under, fits_under, whole_under, lens_under, places_under, spelled_under}
use Rattle.kept_chunks.proofs.SoFar.{contained, front_all}

-- ---- names in lists

has_at : (names : List LocalName) (i : ℕ) (none : LocalName) → i < length names → Has names (get_or names i none)
has_at [] i none less = absurd (omega (arith, less))
has_at (n ∷ names) zero none less = has_head n n names refl
has_at (n ∷ names) (suc i) none less = has_tail n (get_or names i none) names (has_at names i none (omega (arith, less)))

has_index : (names : List LocalName) (name none : LocalName) → Has names name → (i : ℕ) × (i < length names) × (get_or names i none ≡ name)
has_index [] name none has = absurd cc
has_index (n ∷ names) name none has =
    ⊎_elim (λ same. (0, omega arith, sym same)) (λ more. let p = has_index names name none more in (suc p.0, omega (arith, p.1), p.2)) (has_cases n name names has)

-- where no name stands twice, each has one place
once_at : (names : List LocalName) (i j : ℕ) (a b : LocalName) → AreOnce names → i < length names → j < length names → get_or names i a ≡ get_or names j b → i ≡ j
once_at [] i j a b once less other same = absurd (omega (arith, less))
once_at (n ∷ names) zero zero a b once less other same = refl
once_at (n ∷ names) zero (suc j) a b once less other same = absurd (once.0 (subst (λ (q : LocalName). Has names q) (sym same) (has_at names j b (omega (arith, other)))))
once_at (n ∷ names) (suc i) zero a b once less other same = absurd (once.0 (subst (λ (q : LocalName). Has names q) same (has_at names i a (omega (arith, less)))))
once_at (n ∷ names) (suc i) (suc j) a b once less other same = ap suc (once_at names i j a b once.1 (omega (arith, less)) (omega (arith, other)) same)

same_named : (a b : LocalName) → a.plan ≡ b.plan → a.ordinal ≡ b.ordinal → a ≡ b
same_named a b plan ordinal = ap (λ (p : ℕ). record { plan = p; ordinal = a.ordinal }) plan ∙ ap (λ (o : ℕ). record { plan = b.plan; ordinal = o }) ordinal

-- ---- chunks that are shown

pub numbered_shown : (meaning : LocalName → List ℕ) (number : ℕ) (shown : List (List (HeldPiece × List ℕ))) → AreShown meaning number shown → AreNumbered shown
numbered_shown meaning number [] h = tt
numbered_shown meaning number (object ∷ shown) h = (in_object object h.0, numbered_shown meaning number shown h.1)
  where
    in_object : (object : List (HeldPiece × List ℕ)) → AreShownChunks meaning number object → AllByRecursion (λ (chunk : HeldPiece × List ℕ). chunk.0.local.plan ≡ 0 → ⊥) object
    in_object [] h = tt
    in_object (chunk ∷ object) h = (h.0.numbered, in_object object h.1)

abbrev AllShown : (HeldPiece → Type 0) → List (HeldPiece × List ℕ) → Type 0
AllShown P object = AllByRecursion (λ (chunk : HeldPiece × List ℕ). P chunk.0) object

abbrev IsOlder : ℕ → LocalName → Type 0
IsOlder number name = (name.plan ≡ 0 → ⊥) × (name.plan < number)

older_shown : (meaning : LocalName → List ℕ) (number : ℕ) (shown : List (List (HeldPiece × List ℕ))) → AreShown meaning number shown → (name : LocalName) → Has (names_shown shown) name → IsOlder number name
older_shown meaning number shown are name has =
    let p = has_piece (λ piece. IsOlder number piece.local) (pieces_shown shown) name (all shown are) has in
    subst (λ (n : LocalName). IsOlder number n) p.2 p.1
  where
    in_object : (object : List (HeldPiece × List ℕ)) (rest : List HeldPiece) → AreShownChunks meaning number object → AllByRecursion (λ (piece : HeldPiece). IsOlder number piece.local) rest
        → AllByRecursion (λ (piece : HeldPiece). IsOlder number piece.local) (map (λ (chunk : HeldPiece × List ℕ). chunk.0) object ++ rest)
    in_object [] rest h r = r
    in_object (chunk ∷ object) rest h r = ((h.0.numbered, h.0.older), in_object object rest h.1 r)

    all : (shown : List (List (HeldPiece × List ℕ))) → AreShown meaning number shown → AllByRecursion (λ (piece : HeldPiece). IsOlder number piece.local) (pieces_shown shown)
    all [] h = tt
    all (object ∷ shown) h = in_object object (pieces_shown shown) h.0 (all shown h.1)

-- a chunk that is held is shown so
held_chunk : (meaning : LocalName → List ℕ) (number : ℕ) (held : List (List (HeldPiece × List ℕ))) → AreShown meaning number held → (local : LocalName) (bytes : List ℕ) → IsHeldAs held local bytes
    → (meaning local ≡ bytes) × IsOlder number local
held_chunk meaning number held are local bytes h =
    let one : IsShownChunk meaning number (h.piece, bytes) = contained (IsShownChunk meaning number) h.object (h.piece, bytes) (contained (AreShownChunks meaning number) held h.object are h.there) h.chunk in (
      ap meaning (sym h.local_is) ∙ one.bytes,
      subst (λ (n : LocalName). IsOlder number n) h.local_is (one.numbered, one.older),
    )

-- its name is one of those that are shown
held_name : (held : List (List (HeldPiece × List ℕ))) (local : LocalName) (bytes : List ℕ) → IsHeldAs held local bytes → Has (names_shown held) local
held_name held local bytes h =
    subst (λ (n : LocalName). Has (names_shown held) n) h.local_is
    (contained (λ (chunk : HeldPiece × List ℕ). Has (names_shown held) chunk.0.local) h.object (h.piece, bytes)
    (contained (AllShown (λ piece. Has (names_shown held) piece.local)) held h.object (shown_each (λ piece. Has (names_shown held) piece.local) held (each (pieces_shown held) (λ q has. has))) h.there) h.chunk)
  where
    each : (rest : List HeldPiece) → ((q : LocalName) → Has (names_of_pieces rest) q → Has (names_shown held) q) → AllByRecursion (λ (piece : HeldPiece). Has (names_shown held) piece.local) rest
    each [] to = tt
    each (p ∷ rest) to = (to p.local (has_head p.local p.local (names_of_pieces rest) refl), each rest (λ q has. to q (has_tail p.local q (names_of_pieces rest) has)))

held_spelled : (held : List (List (HeldPiece × List ℕ))) → AllByRecursion HasHeldPiece (pieces_shown held) → (local : LocalName) (bytes : List ℕ) → IsHeldAs held local bytes → HasLocalSpelling local
held_spelled held spelled local bytes h =
    subst HasLocalSpelling h.local_is
    (contained (λ (chunk : HeldPiece × List ℕ). HasHeldPiece chunk.0) h.object (h.piece, bytes) (contained (AllShown HasHeldPiece) held h.object (shown_each HasHeldPiece held spelled) h.there) h.chunk).0

pub pieces_joined : (shown more : List (List (HeldPiece × List ℕ))) → pieces_shown (shown ++ more) ≡ pieces_shown shown ++ pieces_shown more
pieces_joined [] more = refl
pieces_joined (object ∷ shown) more =
    ap (λ (l : List HeldPiece). map (λ (chunk : HeldPiece × List ℕ). chunk.0) object ++ l) (pieces_joined shown more)
    ∙ sym (append_assoc (map (λ (chunk : HeldPiece × List ℕ). chunk.0) object) (pieces_shown shown) (pieces_shown more))

shown_name : (shown more : List (List (HeldPiece × List ℕ))) (name : LocalName) → Has (names_shown shown) name → Has (names_shown (shown ++ more)) name
shown_name shown more name has =
    subst (λ (l : List LocalName). Has l name) (sym (ap names_of_pieces (pieces_joined shown more) ∙ joined (pieces_shown shown) (pieces_shown more)))
    (has_left (names_shown shown) (names_shown more) name has)

-- ---- how many are brought

module _ (size : ℕ) (some : 0 < size) where
  few_chunks : (left : List (List ChunkName)) (cuts : List (List (List ℕ))) → AllByRecursion (HaveSize size) cuts → (shown : List (List (HeldPiece × List ℕ))) → length (brought_of shown (all_named left cuts)) ≤ chunks_of size (map concat cuts)
  few_chunks left [] sizes shown = omega arith
  few_chunks left (chunks ∷ cuts) sizes shown =
      let given : List (Option ChunkName × List ℕ) = with_names (first_of left) chunks in
      omega (
        arith,
        sum_by-cons (chunk_count size) (concat chunks) (map concat cuts),
        count_is size some chunks sizes.0,
        no_more (first_shown shown) given,
        named_count (first_of left) chunks,
        few_chunks (drop 1 left) cuts sizes.1 (drop 1 shown),
        length-append (brought (first_shown shown) given) (brought_of (drop 1 shown) (all_named (drop 1 left) cuts)),
      )

  pub few_brought : (shown : List (List (HeldPiece × List ℕ))) (names : List (List ChunkName)) (content : Content) (held : HeldContent) (new : List (List ℕ)) → IsFit size content → IsNamedAgainst size shown names content held new → length new < 2 ^ 32
  few_brought shown names contents.Gone held_as.Gone new fit k = omega (arith, ap length k)
  few_brought shown names contents.Gone (held_as.Row cells objects) new fit k = absurd k
  few_brought shown names (contents.Row cells objects) held_as.Gone new fit k = absurd k
  few_brought shown names (contents.Row cells objects) (held_as.Row copied held) new fit k =
      let w = row_within fit.schema cells objects fit.fit in
      omega (
        arith,
        w.chunks,
        ap (λ (n : ℕ). chunks_of n objects) fit.chunk,
        ap (chunks_of size) k.1.whole,
        few_chunks names k.1.cuts k.1.sizes shown,
        ap length k.1.brought_is,
      )

-- ---- names before the plan's number

module _ (meaning : LocalName → List ℕ) (number : ℕ) where
  -- a name of plan 0 stands for the chunk of its number
  fresh_is : (new : List (List ℕ)) (name : LocalName) → name.plan ≡ 0 → plan_meaning meaning number new name ≡ get_or new name.ordinal []
  fresh_is new name fresh =
      let is : (name.plan == 0) ≡ true = grind (arith, nat_tests) in
      let same : (number == number) ≡ true = grind (arith, nat_tests) in
      ap (λ (b : Bool). meaning_with meaning number new (if b then record { plan = number; ordinal = name.ordinal } else name)) is
      ∙ ap (λ (b : Bool). if b then get_or new name.ordinal [] else meaning (record { plan = number; ordinal = name.ordinal })) same

for_brought : (locals : List LocalName) (name : LocalName) → name.plan ≡ 0 → local_for locals name ≡ get_or locals name.ordinal name
for_brought locals name fresh =
    let is : (name.plan == 0) ≡ true = grind (arith, nat_tests) in
    ap (λ (b : Bool). if b then get_or locals name.ordinal name else name) is

for_other : (locals : List LocalName) (name : LocalName) → (name.plan ≡ 0 → ⊥) → local_for locals name ≡ name
for_other locals name other =
    let not_new : (name.plan == 0) ≡ false = grind (arith, nat_tests) in
    ap (λ (b : Bool). if b then get_or locals name.ordinal name else name) not_new

-- ---- a row

module _ (size : ℕ) (some : 0 < size) (shown more : List (List (HeldPiece × List ℕ))) (content : Content) (given : List (List ChunkName)) (made kept : HeldNew) (k : IsKept (shown ++ more) made kept)
    (names : (name : LocalName) → Has (names_of made.content) name → Has (names_shown shown) name ⊎ IsBrought (length made.brought) name) where
  abbrev held : List (List (HeldPiece × List ℕ))
  held = shown ++ more

  abbrev f : LocalName → LocalName
  f = local_for k.locals

  -- what becomes of a name
  abbrev Becomes : LocalName → Type 0
  Becomes name = (name.plan ≡ 0) × (name.ordinal < length made.brought) × (f name ≡ get_or k.locals name.ordinal name)
      × (IsHeldAs held (f name) (get_or made.brought name.ordinal []) ⊎ IsBroughtAs kept.brought (f name) (get_or made.brought name.ordinal []))

  brought_becomes : (name : LocalName) → IsBrought (length made.brought) name → Becomes name
  brought_becomes name b =
      let is = for_brought k.locals name b.0 in
      (b.0, b.1, is, subst (λ (n : LocalName). IsHeldAs held n (get_or made.brought name.ordinal []) ⊎ IsBroughtAs kept.brought n (get_or made.brought name.ordinal [])) (sym is) (k.each name.ordinal name b.1))

  placed : (name : LocalName) → Becomes name → Has k.locals (f name)
  placed name b = subst (λ (n : LocalName). Has k.locals n) (sym b.2) (has_at k.locals name.ordinal name (omega (arith, b.1, k.count)))

  module _ (meaning : LocalName → List ℕ) (number : ℕ) (are : AreShown meaning number held) where
    abbrev stands : LocalName → List ℕ
    stands = plan_meaning meaning number made.brought

    abbrev others : LocalName → List ℕ
    others = plan_meaning meaning number kept.brought

    are_shown : AreShown meaning number shown
    are_shown = front_all (AreShownChunks meaning number) shown more are

    -- a name is one that is shown, and stays, or it becomes another
    either : (name : LocalName) → Has (names_of made.content) name → (IsOlder number name × (f name ≡ name) × Has (names_shown shown) name) ⊎ Becomes name
    either name has =
        ⊎_elim (λ old. let o = older_shown meaning number shown are_shown name old in inl (o, for_other k.locals name o.0, old)) (λ new. inr (brought_becomes name new)) (names name has)

    same : AreSame f stands others (names_of made.content)
    same name has =
        ⊎_elim
        (λ old. ap others old.1 ∙ (kept_is meaning number kept.brought name old.0.0 old.0.1 ∙ sym (kept_is meaning number made.brought name old.0.0 old.0.1)))
        (λ b.
        ⊎_elim
        (λ h.
        let c = held_chunk meaning number held are (f name) (get_or made.brought name.ordinal []) h in
        kept_is meaning number kept.brought (f name) c.1.0 c.1.1 ∙ (c.0 ∙ sym (fresh_is meaning number made.brought name b.0)))
        (λ n. fresh_is meaning number kept.brought (f name) n.plan ∙ (n.bytes_are ∙ sym (fresh_is meaning number made.brought name b.0)))
        b.3)
        (either name has)

    numbered : AreNumbered held
    numbered = numbered_shown meaning number held are

    -- names that become one are one
    stays_apart : (a b : LocalName) → IsOlder number b → Has (names_of made.content) b → Becomes a → f a ≡ b → ⊥
    stays_apart a b older has becomes is =
        k.apart numbered (f a) (placed a becomes) (subst (λ (n : LocalName). n.plan ≡ 0 → ⊥) (sym is) older.0) (subst (λ (n : LocalName). Has (names_of made.content) n) (sym is) has)

    apart : (a b : LocalName) → Has (names_of made.content) a → Has (names_of made.content) b → f a ≡ f b → a ≡ b
    apart a b in_a in_b is =
        ⊎_elim
        (λ old_a.
        ⊎_elim (λ old_b. sym old_a.1 ∙ (is ∙ old_b.1)) (λ new_b. absurd (stays_apart b a old_a.0 in_a new_b (sym is ∙ old_a.1))) (either b in_b))
        (λ new_a.
        ⊎_elim (λ old_b. absurd (stays_apart a b old_b.0 in_b new_a (is ∙ old_b.1)))
        (λ new_b.
        same_named a b (new_a.0 ∙ sym new_b.0)
        (once_at k.locals a.ordinal b.ordinal a b (repeats_once [] k.locals (k.once numbered)).0 (omega (arith, new_a.1, k.count)) (omega (arith, new_b.1, k.count)) (sym new_a.2 ∙ (is ∙ new_b.2))))
        (either b in_b))
        (either a in_a)

    twice : repeats [] (names_of made.content) ≡ false → repeats [] (names_of kept.content) ≡ false
    twice once =
        ap (repeats []) (ap names_of k.content ∙ names_under f made.content)
        ∙ once_repeats [] (map f (names_of made.content)) (mapped_once f (names_of made.content) (repeats_once [] (names_of made.content) once).0 apart) (λ q has old. cc)

    pub kept_whole : whole stands made.content ≡ content → whole others kept.content ≡ content
    kept_whole is = ap (whole others) k.content ∙ (whole_under f stands others made.content same ∙ is)

    pub kept_lens : HaveLens stands made.content → HaveLens others kept.content
    kept_lens h = subst (HaveLens others) (sym k.content) (lens_under f stands others made.content same h)

    pub kept_names : (name : LocalName) → Has (names_of kept.content) name → Has (names_shown held) name ⊎ IsBrought (length kept.brought) name
    kept_names name has =
        let p = mapped_has f (names_of made.content) name (subst (λ (l : List LocalName). Has l name) (ap names_of k.content ∙ names_under f made.content) has) in
        subst (λ (n : LocalName). Has (names_shown held) n ⊎ IsBrought (length kept.brought) n) (sym p.2)
        (⊎_elim (λ old. inl (subst (λ (n : LocalName). Has (names_shown held) n) (sym old.1) (shown_name shown more p.0 old.2)))
        (λ b. ⊎_elim (λ h. inl (held_name held (f p.0) (get_or made.brought p.0.ordinal []) h)) (λ n. inr (n.plan, n.below)) b.3) (either p.0 p.1))

    module _ (few : length made.brought < 2 ^ 32) (spelled : AllByRecursion HasHeldPiece (pieces_shown held)) where
      to_spelled : AreSpelled f (names_of made.content)
      to_spelled name has its =
          ⊎_elim (λ old. subst HasLocalSpelling (sym old.1) its)
          (λ b. ⊎_elim (λ h. held_spelled held spelled (f name) (get_or made.brought name.ordinal []) h) (λ n. (omega (arith, n.plan), omega (arith, n.below, k.fewer, few))) b.3) (either name has)

      pub kept_fit : (table : TableRecord) → IsFitContent stands (Some table) made.content → IsFitContent others (Some table) kept.content
      kept_fit table fit = record { right = right; spelled = subst HasHeld (sym k.content) (spelled_under f made.content to_spelled fit.spelled) }
        where
          three : (a b c : Bool) → not a || (b || not c) ≡ false → (a ≡ true) × (b ≡ false) × (c ≡ true)
          three true false true h = (refl, refl, refl)
          three false b c h = absurd cc
          three true true c h = absurd cc
          three true false false h = absurd cc

          wrong : (a b c : Bool) → a ≡ true → b ≡ false → c ≡ true → not a || (b || not c) ≡ false
          wrong a b c p q r = rw (p, q, r) refl

          right : is_wrong (λ name. Some (others name)) (Some table) kept.content ≡ false
          right =
              let p = three (all_lens (λ name. Some (stands name)) table.schema.chunk made.content) (repeats [] (names_of made.content)) (fits_by_len table.schema made.content) fit.right in
              wrong (all_lens (λ name. Some (others name)) table.schema.chunk kept.content) (repeats [] (names_of kept.content)) (fits_by_len table.schema kept.content)
              (ap (all_lens (λ name. Some (others name)) table.schema.chunk) k.content ∙ (places_under f stands others table.schema.chunk made.content same ∙ p.0))
              (twice p.1)
              (ap (fits_by_len table.schema) k.content ∙ (fits_under f table.schema made.content ∙ p.2))

  pub kept_brought : ((ordinal : ℕ) → ordinal < length made.brought → Has (names_of made.content) (brought_name ordinal)) → (ordinal : ℕ) → ordinal < length kept.brought → Has (names_of kept.content) (brought_name ordinal)
  kept_brought all ordinal less =
      let p = has_index k.locals (brought_name ordinal) (brought_name 0) (k.all_brought ordinal less) in
      let low : p.0 < length made.brought = omega (arith, p.1, k.count) in
      let is : f (brought_name p.0) ≡ brought_name ordinal = get_default k.locals p.0 (brought_name p.0) (brought_name 0) p.1 ∙ p.2 in
      subst (λ (l : List LocalName). Has l (brought_name ordinal)) (sym (ap names_of k.content ∙ names_under f made.content))
      (subst (λ (n : LocalName). Has (map f (names_of made.content)) n) is (has_mapped f (names_of made.content) (brought_name p.0) (all p.0 low)))
    where
      get_default : (xs : List LocalName) (i : ℕ) (a b : LocalName) → i < length xs → get_or xs i a ≡ get_or xs i b
      get_default [] i a b less = absurd (omega (arith, less))
      get_default (x ∷ xs) zero a b less = refl
      get_default (x ∷ xs) (suc i) a b less = get_default xs i a b (omega (arith, less))

-- all of it
pub holds_kept : (size : ℕ) → 0 < size → (shown more : List (List (HeldPiece × List ℕ))) (content : Content) (given : List (List ChunkName)) (made kept : HeldNew) → IsFit size content → IsKept (shown ++ more) made kept
    → IsNamedAgainst size shown given content made.content made.brought → names_known made.content ≡ known given
    → ((meaning : LocalName → List ℕ) (number : ℕ) → AreShown meaning number shown → whole (plan_meaning meaning number made.brought) made.content ≡ content)
    → ((meaning : LocalName → List ℕ) (number : ℕ) → AreShown meaning number shown → HaveLens (plan_meaning meaning number made.brought) made.content)
    → ((name : LocalName) → Has (names_of made.content) name → Has (names_shown shown) name ⊎ IsBrought (length made.brought) name)
    → ((ordinal : ℕ) → ordinal < length made.brought → Has (names_of made.content) (brought_name ordinal)) → AllByRecursion (λ bytes. length bytes ≤ size) made.brought → HoldsKept size shown more content given kept
holds_kept size some shown more content given made kept fit k against named whole_is lens names all small = record {
  whole_is = λ meaning number are. kept_whole size some shown more content given made kept k names meaning number are (whole_is meaning number (front_all (AreShownChunks meaning number) shown more are));
  lens = λ meaning number are. kept_lens size some shown more content given made kept k names meaning number are (lens meaning number (front_all (AreShownChunks meaning number) shown more are));
  fit = λ meaning number are table chunk schema fits words name_spelled spelled once.
      kept_fit size some shown more content given made kept k names meaning number are (few_brought size some shown given content made.content made.brought fit against) spelled table
      (new_fit meaning number table shown given schema (front_all (AreShownChunks meaning number) shown more are) (front_all HasHeldPiece (pieces_shown shown) (pieces_shown more) (subst (λ (l : List HeldPiece). AllByRecursion HasHeldPiece l) (pieces_joined shown more) spelled)) name_spelled once
      content made.content made.brought fits words (subst (λ (n : ℕ). IsNamedAgainst n shown given content made.content made.brought) (sym chunk) against));
  names = λ meaning number are. kept_names size some shown more content given made kept k names meaning number are;
  named = ap names_known k.content ∙ (known_under (local_for k.locals) made.content ∙ named);
  all_brought = kept_brought size some shown more content given made kept k names all;
  small = k.small size small;
}
