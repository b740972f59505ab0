-- Words that were met, kept as a set, and words none of which stands twice.
use Rattle.std.proofs.Common.{◌≡◌, ℕ, ◌<◌, ◌^◌, Bool, true, false, not, ◌||◌, eqb, List, [], ◌∷◌, ◌++◌, map, refl, sym, ap, ◌∙◌, inl, inr, true≢false}
use Rattle.std.specs.List.{list_any, AllByRecursion, IsDistinct}
use Rattle.std.specs.Ordering.{nat_cmp, match_ordering}
use Rattle.std.specs.declared.cmp.Ordering.{Ordering}
use Rattle.std.specs.declared.cmp.Ordering.TheVariants.{Less, Equal, Greater}
use Rattle.std.specs.Cmp.Lexicographic.{slice_cmp}
use Rattle.std.specs.BTreeMap.{is_at}
use Rattle.std.specs.BTreeSet.{insert_key}
use Rattle.std.specs.Str.{bytes_eq}
use Rattle.std.specs.Cmp.{Equal-is}
use Rattle.std.proofs.Math.Bool.{or_comm, or_assoc}
use Rattle.std.proofs.lemmas.Bool.{cases_Bool, eqb-true, eq-eqb}
use Rattle.std.proofs.lemmas.Fmt.{decimal_injective}
use Rattle.std.proofs.lemmas.List.Folds.{list_any-append}
use Rattle.std.proofs.lemmas.Map.Text.{is_eq-slice_cmp}
use Rattle.std.proofs.lemmas.Slice.Eq.{bytes_eq-Decides}
use Rattle.script_text.specs.Names.{IsSetOf}
use Rattle.script_words.specs.Words.{is_among}
use Rattle.script_text.specs.Grammar.{table_word}

-- names that were met, kept as a set

pub by_bytes : (w v : List ℕ) → is_at (slice_cmp nat_cmp w) v ≡ bytes_eq w v
by_bytes w v = is_eq-slice_cmp w v

pub unmet : (added b : Bool) → added ≡ not b → added ≡ true → b ≡ false
unmet added false e t = refl
unmet added true e t = absurd (true≢false (sym t ∙ e))

pub met : (added b : Bool) → added ≡ not b → added ≡ false → b ≡ true
met added true e f = refl
met added false e f = absurd (true≢false (sym e ∙ f))

absorbed : (a b : Bool) → (a || b) ≡ ((a || b) || a)
absorbed true b = refl
absorbed false true = refl
absorbed false false = refl

pub equal_keys : (k x : List ℕ) → slice_cmp nat_cmp k x ≡ Equal → k ≡ x
equal_keys k x is = (bytes_eq-Decides k x).0 (sym (by_bytes k x) ∙ (Equal-is (slice_cmp nat_cmp k x)).1 is)

module _ (w k : List ℕ) where
  inserted_at : (x : List ℕ) (xs : List (List ℕ)) (o : Ordering) → slice_cmp nat_cmp k x ≡ o
      → list_any (is_at (slice_cmp nat_cmp w)) (insert_key (slice_cmp nat_cmp) xs k) ≡ (list_any (is_at (slice_cmp nat_cmp w)) xs || bytes_eq w k)
      → list_any (is_at (slice_cmp nat_cmp w)) (match_ordering o (k ∷ x ∷ xs) (x ∷ xs) (x ∷ insert_key (slice_cmp nat_cmp) xs k)) ≡ (list_any (is_at (slice_cmp nat_cmp w)) (x ∷ xs) || bytes_eq w k)
  inserted_at x xs Less is more =
      ap (λ (b : Bool). b || (is_at (slice_cmp nat_cmp w) x || list_any (is_at (slice_cmp nat_cmp w)) xs)) (by_bytes w k)
      ∙ or_comm (bytes_eq w k) (is_at (slice_cmp nat_cmp w) x || list_any (is_at (slice_cmp nat_cmp w)) xs)
  inserted_at x xs Equal is more =
      absorbed (is_at (slice_cmp nat_cmp w) x) (list_any (is_at (slice_cmp nat_cmp w)) xs)
      ∙ ap (λ (b : Bool). (is_at (slice_cmp nat_cmp w) x || list_any (is_at (slice_cmp nat_cmp w)) xs) || b) (by_bytes w x ∙ ap (bytes_eq w) (sym (equal_keys k x is)))
  inserted_at x xs Greater is more =
      ap (λ (b : Bool). is_at (slice_cmp nat_cmp w) x || b) more
      ∙ sym (or_assoc (is_at (slice_cmp nat_cmp w) x) (list_any (is_at (slice_cmp nat_cmp w)) xs) (bytes_eq w k))

  pub inserted : (xs : List (List ℕ)) → list_any (is_at (slice_cmp nat_cmp w)) (insert_key (slice_cmp nat_cmp) xs k) ≡ (list_any (is_at (slice_cmp nat_cmp w)) xs || bytes_eq w k)
  inserted [] = or_comm (is_at (slice_cmp nat_cmp w) k) false ∙ by_bytes w k
  inserted (x ∷ xs) = inserted_at x xs (slice_cmp nat_cmp k x) refl (inserted xs)

pub set-put : (keys more before : List (List ℕ)) (k : List ℕ) → more ≡ insert_key (slice_cmp nat_cmp) keys k → IsSetOf keys before → IsSetOf more (before ++ k ∷ [])
set-put keys more before k e set w =
    ap (list_any (is_at (slice_cmp nat_cmp w))) e
    ∙ inserted w k keys
    ∙ ap (λ (b : Bool). b || bytes_eq w k) (set w)
    ∙ ap (λ (b : Bool). is_among w before || b) (or_comm false (bytes_eq w k))
    ∙ sym (list_any-append (bytes_eq w) before (k ∷ []))

-- words, none of which stands twice or among those before
abbrev pub NewTo : List (List ℕ) → List (List ℕ) → Type 0
NewTo before [] = Unit {0}
NewTo before (w ∷ ws) = (is_among w before ≡ false) × NewTo (before ++ w ∷ []) ws

neither : (a b : Bool) → (a || (b || false)) ≡ false → (a ≡ false) × (b ≡ false)
neither true b e = absurd (true≢false e)
neither false true e = absurd (true≢false e)
neither false false e = (refl, refl)

behind_none : (w y : List ℕ) (before : List (List ℕ)) → is_among y (before ++ w ∷ []) ≡ false → (is_among y before ≡ false) × (bytes_eq y w ≡ false)
behind_none w y before e = neither (is_among y before) (bytes_eq y w) (sym (list_any-append (bytes_eq y) before (w ∷ [])) ∙ e)

behind_both : (w y : List ℕ) (before : List (List ℕ)) → is_among y before ≡ false → bytes_eq y w ≡ false → is_among y (before ++ w ∷ []) ≡ false
behind_both w y before p q = list_any-append (bytes_eq y) before (w ∷ []) ∙ rw (p, q) refl

other_way : (x y : List ℕ) → bytes_eq x y ≡ false → bytes_eq y x ≡ false
other_way x y e = elim (cases_Bool (bytes_eq y x)) [
  | inl is ↦ absurd (true≢false (sym ((bytes_eq-Decides x y).1 (sym ((bytes_eq-Decides y x).0 is))) ∙ e))
  | inr other ↦ other
]

split : (w : List ℕ) (before ws : List (List ℕ)) → AllByRecursion (λ y. is_among y (before ++ w ∷ []) ≡ false) ws
    → AllByRecursion (λ y. is_among y before ≡ false) ws × AllByRecursion (λ y. bytes_eq w y ≡ false) ws
split w before [] h = (tt, tt)
split w before (y ∷ ws) h =
    let p = behind_none w y before h.0 in
    let more = split w before ws h.1 in ((p.0, more.0), (other_way y w p.1, more.1))

joined : (w : List ℕ) (before ws : List (List ℕ)) → AllByRecursion (λ y. is_among y before ≡ false) ws → AllByRecursion (λ y. bytes_eq w y ≡ false) ws
    → AllByRecursion (λ y. is_among y (before ++ w ∷ []) ≡ false) ws
joined w before [] h k = tt
joined w before (y ∷ ws) h k = (behind_both w y before h.0 (other_way w y k.0), joined w before ws h.1 k.1)

parted : (before ws : List (List ℕ)) → NewTo before ws → IsDistinct bytes_eq ws × AllByRecursion (λ y. is_among y before ≡ false) ws
unfolding IsDistinct
parted before [] h = (tt, tt)
parted before (w ∷ ws) h =
    let more = parted (before ++ w ∷ []) ws h.1 in
    let p = split w before ws more.1 in ((p.1, more.0), (h.0, p.0))

pub new-distinct : (ws : List (List ℕ)) → NewTo [] ws → IsDistinct bytes_eq ws
new-distinct ws h = (parted [] ws h).0

new-from : (before ws : List (List ℕ)) → IsDistinct bytes_eq ws → AllByRecursion (λ y. is_among y before ≡ false) ws → NewTo before ws
unfolding IsDistinct
new-from before [] d h = tt
new-from before (w ∷ ws) d h = (h.0, new-from (before ++ w ∷ []) ws d.1 (joined w before ws h.1 d.0))

none_before : (ws : List (List ℕ)) → AllByRecursion (λ y. is_among y [] ≡ false) ws
none_before [] = tt
none_before (w ∷ ws) = (refl, none_before ws)

pub distinct-new : (ws : List (List ℕ)) → IsDistinct bytes_eq ws → NewTo [] ws
distinct-new ws d = new-from [] ws d (none_before ws)

-- numbers of tables and their words

apart_numbers : (m n : ℕ) → bytes_eq (table_word m) (table_word n) ≡ false → eqb m n ≡ false
apart_numbers m n e = elim (cases_Bool (eqb m n)) [
  | inl is ↦ absurd (true≢false (sym ((bytes_eq-Decides (table_word m) (table_word n)).1 (ap table_word (eqb-true m n is))) ∙ e))
  | inr other ↦ other
]

apart_words : (m n : ℕ) → m < 2 ^ 64 → n < 2 ^ 64 → eqb m n ≡ false → bytes_eq (table_word m) (table_word n) ≡ false
apart_words m n p q e = elim (cases_Bool (bytes_eq (table_word m) (table_word n))) [
  | inl is ↦
      let same : table_word m ≡ table_word n = (bytes_eq-Decides (table_word m) (table_word n)).0 is in
      absurd (true≢false (sym (eq-eqb m n (decimal_injective m n p q (cc same))) ∙ e))
  | inr other ↦ other
]

all_numbers : (m : ℕ) (ns : List ℕ) → AllByRecursion (λ y. bytes_eq (table_word m) y ≡ false) (map table_word ns) → AllByRecursion (λ n. eqb m n ≡ false) ns
all_numbers m [] h = tt
all_numbers m (n ∷ ns) h = (apart_numbers m n h.0, all_numbers m ns h.1)

all_words : (m : ℕ) (ns : List ℕ) → m < 2 ^ 64 → AllByRecursion (λ n. n < 2 ^ 64) ns → AllByRecursion (λ n. eqb m n ≡ false) ns
    → AllByRecursion (λ y. bytes_eq (table_word m) y ≡ false) (map table_word ns)
all_words m [] p q h = tt
all_words m (n ∷ ns) p q h = (apart_words m n p q.0 h.0, all_words m ns p q.1 h.1)

pub distinct-numbers : (ns : List ℕ) → IsDistinct bytes_eq (map table_word ns) → IsDistinct (λ m n. eqb m n) ns
unfolding IsDistinct
distinct-numbers [] d = tt
distinct-numbers (n ∷ ns) d = (all_numbers n ns d.0, distinct-numbers ns d.1)

pub distinct-words : (ns : List ℕ) → AllByRecursion (λ n. n < 2 ^ 64) ns → IsDistinct (λ m n. eqb m n) ns → IsDistinct bytes_eq (map table_word ns)
unfolding IsDistinct
distinct-words [] p d = tt
distinct-words (n ∷ ns) p d = (all_words n ns p.0 p.1 d.0, distinct-words ns p.1 d.1)
