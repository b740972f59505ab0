-- The open entry: the names that are new with an item, and those that its row names no more.
use Rattle.std.proofs.Common.{◌≡◌, inl, inr, ◌⊎◌, ℕ, suc, ◌+◌, ◌<◌, ◌≤◌, Bool, true, false, cond, List, [], ◌∷◌, length, refl, sym, ◌∙◌, ap, subst, arith}
use Rattle.std.specs.Prelude.{◌||◌, ◌&&◌, not, filter, if◌then◌else◌}
use Rattle.std.specs.BTreeMap.{is_at}
use Rattle.std.proofs.lemmas.Bool.{cases_eq}
use Rattle.std.proofs.lemmas.Bool.Decides.{nat_tests}
use Rattle.stab_base.specs.declared.chunk_name.ChunkName.{ChunkName}
use Rattle.chunk_store.specs.Payload.{name_cmp}
use Rattle.status_log.specs.Entry.{Entry}
use Rattle.store_commit.specs.NamedChunks.{Among, AreDifferent, IsNewOf}
use Rattle.store_commit.specs.NamedChunks.{is_among}
use Rattle.store_commit.specs.Update.{unmet}
use Rattle.store_commit.proofs.Lookups.{apart_name}
use Rattle.step_tables.specs.Store.{Stored}
use Rattle.step_tables.specs.Chunks.{Named, name_of_new, is_of_version, names_of, chunks_of, chunks_with, names_before, names_with, new_names, old_names, without_names}
use Rattle.step_tables.specs.Chunks as chunks
use Rattle.device_laws.specs.Stands.{AreNumbered, is_new, AreNext, IsMade, AreMade, IsEntryOf}
use Rattle.device_laws.proofs.Names.{mapped_among, among_mapped, among_tests}
use Rattle.device_laws.proofs.Chunks.{flat, names, count_new, next_within, row_sound, with_from, with_sound, IsSound, IsBetween}
use Rattle.device_laws.proofs.Pieces.{is_kept, among_kept, names_filter}

-- ---- chunks whose names are the next ones

pub next_has : (v k : ℕ) (xs : List Named) → AreNext v k xs → (q : ChunkName) → q.version ≡ v → k ≤ q.ordinal → q.ordinal < k + length xs → Among q (names xs)
next_has v k [] n q is least most = absurd (omega arith)
next_has v k (c ∷ xs) n q is least most = elim (cases_eq q.ordinal k) [
  | inl same ↦ inl (ap (λ (m : ℕ). name_of_new m q.ordinal) is ∙ (ap (name_of_new v) same ∙ sym n.0))
  | inr other ↦ inr (next_has v (k + 1) xs n.1 q is (omega arith) (omega arith))
]

names_length : (xs : List Named) → length (names xs) ≡ length xs
names_length [] = refl
names_length (x ∷ xs) = ap suc (names_length xs)

-- one name, one chunk
pub one_named : (xs : List Named) → AreDifferent (names xs) → (x y : Named) → Among x xs → Among y xs → x.0 ≡ y.0 → x ≡ y
one_named [] d x y a b same = absurd a
one_named (c ∷ xs) d x y (inl p) (inl q) same = p ∙ sym q
one_named (c ∷ xs) d x y (inl p) (inr q) same =
    absurd (d.0 (subst (λ (n : ChunkName). Among n (names xs)) (sym same ∙ ap (λ (z : Named). z.0) p) (mapped_among (λ (z : Named). z.0) y xs q)))
one_named (c ∷ xs) d x y (inr p) (inl q) same =
    absurd (d.0 (subst (λ (n : ChunkName). Among n (names xs)) (same ∙ ap (λ (z : Named). z.0) q) (mapped_among (λ (z : Named). z.0) x xs p)))
one_named (c ∷ xs) d x y (inr p) (inr q) same = one_named xs d.1 x y p q same

-- ---- names that weren't met

twice_not : (b : Bool) → not (not b) ≡ b
twice_not true = refl
twice_not false = refl

pub unmet_filter : (there p : ChunkName → Bool) (met all : List ChunkName) → AreDifferent all → ((q : ChunkName) → Among q all → there q ≡ true)
    → ((q : ChunkName) → Among q all → is_among q met ≡ not (p q))
    → unmet there met all ≡ filter p all
unmet_filter there p met [] d t m = refl
unmet_filter there p met (n ∷ all) d t m =
    ap (λ (b : Bool). if b then n ∷ unmet there (n ∷ met) all else unmet there met all) test
    ∙ pick (p n) (unmet_filter there p (n ∷ met) all d.1 (λ q a. t q (inr a)) seen) (unmet_filter there p met all d.1 (λ q a. t q (inr a)) (λ q a. m q (inr a)))
  where
    test : (there n && not (is_among n met)) ≡ p n
    test = ap (λ (b : Bool). b && not (is_among n met)) (t n (inl refl)) ∙ (ap not (m n (inl refl)) ∙ twice_not (p n))

    seen : (q : ChunkName) → Among q all → is_among q (n ∷ met) ≡ not (p q)
    seen q a =
        let apart : is_at (name_cmp q) n ≡ false = apart_name q n (λ same. d.0 (subst (λ (x : ChunkName). Among x all) same a)) in
        ap (λ (b : Bool). b || is_among q met) apart ∙ m q (inr a)

    pick : (b : Bool) → unmet there (n ∷ met) all ≡ filter p all → unmet there met all ≡ filter p all
        → (if b then n ∷ unmet there (n ∷ met) all else unmet there met all) ≡ cond b (n ∷ filter p all) (filter p all)
    pick true x y = ap (λ (l : List ChunkName). n ∷ l) x
    pick false x y = y

-- ---- what an item brings and leaves

module _ (size : ℕ) (items : List Stored) (item : Stored) (numbered : AreNumbered 0 items) (next : item.entry.version ≡ length items + 1) (made : AreMade size [] items) (m : IsMade size items item) where
  abbrev v : ℕ
  v = item.entry.version

  abbrev before : List Named
  before = flat (chunks_of size items item.entry.row)

  abbrev now : List Named
  now = flat (chunks_with size item)

  -- the new chunks
  abbrev pub news : List Named
  news = filter (is_new v) now

  sound : IsSound (length items) (chunks_of size items item.entry.row)
  sound = row_sound size items numbered made item.entry.row

  less : length items < v
  less = omega (arith, next)

  pub now_from : (x : Named) → Among x now → Among x before ⊎ IsBetween v 0 (0 + count_new v now) x.0
  now_from x a = with_from size items item m x a

  pub now_different : AreDifferent (names now)
  now_different = m.different

  pub now_sound : IsSound v (chunks_with size item)
  now_sound = with_sound size items item m (length items) sound less

  pub before_different : AreDifferent (names before)
  before_different = sound.different

  pub before_below : (x : Named) → Among x before → x.0.version < v
  before_below x a = omega (arith, sound.below x a, next)

  pub before_is_old : (q : ChunkName) → Among q (names before) → is_of_version v q ≡ false
  before_is_old q a =
      let x = among_mapped (λ (c : Named). c.0) q before a in
      let low : x.0.0.version < v = before_below x.0 x.1 in
      let is : q.version ≡ x.0.0.version = ap (λ (n : ChunkName). n.version) x.2 in
      grind (arith, nat_tests)

  pub news_next : AreNext v 0 news
  news_next = m.news

  pub news_names : new_names size item ≡ names news
  news_names = names_filter v now

  pub new_count : length (new_names size item) ≡ length news
  new_count = ap length news_names ∙ names_length news

  pub new_is : (q : ChunkName) → Among q (new_names size item) → (q.version ≡ v) × (q.ordinal < length (new_names size item))
  new_is q a =
      let x = among_mapped (λ (c : Named). c.0) q news (subst (λ (l : List ChunkName). Among q l) news_names a) in
      let w = next_within v 0 news news_next x.0 x.1 in
      let ordinal : q.ordinal ≡ x.0.0.ordinal = ap (λ (n : ChunkName). n.ordinal) x.2 in
      (ap (λ (n : ChunkName). n.version) x.2 ∙ w.0, omega (arith, w.2, new_count))

  pub is_new_name : (q : ChunkName) → q.version ≡ v → q.ordinal < length (new_names size item) → Among q (new_names size item)
  is_new_name q is most = subst (λ (l : List ChunkName). Among q l) (sym news_names) (next_has v 0 news news_next q is (omega arith) (omega (arith, new_count)))

  module _ (entry : Entry) (e : IsEntryOf size items item entry) where
    pub new_of : (q : ChunkName) → Among q (new_names size item) → IsNewOf entry q
    new_of q a = let n = new_is q a in record { version = n.0 ∙ sym e.version; ordinal = omega (arith, n.1, e.fresh) }

    pub of_new : (q : ChunkName) → IsNewOf entry q → Among q (new_names size item)
    of_new q n = is_new_name q (n.version ∙ e.version) (omega (arith, n.ordinal, e.fresh))

  -- what the commit's own words make of the row's names
  pub old_is : (there : ChunkName → Bool) (met : List ChunkName) → ((q : ChunkName) → Among q (names before) → there q ≡ true)
      → met ≡ filter (is_kept v) (names now) → unmet there met (names before) ≡ old_names size items item
  old_is there met t is =
      unmet_filter there (λ q. not (chunks.is_among (names now) q)) met (names before) before_different t
      (λ q a. ap (is_among q) is ∙ (among_kept v q (names now) (before_is_old q a) ∙ (sym (among_tests q (names now)) ∙ sym (twice_not (chunks.is_among (names now) q)))))
