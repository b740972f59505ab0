-- Names that were met, kept as a set, and names none of which stands twice.
use Rattle.std.proofs.Common.{◌≡◌, ℕ, zero, suc, ◌+◌, ◌<◌, ◌≤◌, Bool, true, false, cond, not, ◌&&◌, ◌||◌, List, [], ◌∷◌, length, take, drop, get_or, refl, sym, ◌∙◌, ap, subst, arith, add-one}
use Rattle.std.specs.List.{list_any, list_all, AllByRecursion}
use Rattle.std.specs.BTreeMap.{is_at}
use Rattle.std.specs.BTreeSet.{BTreeSet, contains, keys}
use Rattle.std.proofs.lemmas.Bool.Decides.{nat_tests}
use Rattle.std.proofs.lemmas.List.{drop_all}
use Rattle.stab_base.specs.declared.chunk_name.ChunkName.{ChunkName}
use Rattle.value_codec.specs.Spelling.{HasNameSpelling}
use Rattle.step_tables.specs.Chunks.{name_cmp, same_name, is_among, are_apart}
use Rattle.row_pieces.proofs.Countings.{next_of}

-- the set has these names
pub record HasNames (names : List ChunkName) (set : BTreeSet ChunkName) : Type 0 where
  pub same : (name : ChunkName) → contains name_cmp set name ≡ is_among names name

-- and no other is added than this one
abbrev pub IsAdded : BTreeSet ChunkName → BTreeSet ChunkName → ChunkName → Type 0
IsAdded set next name = (q : ChunkName) → contains name_cmp next q ≡ cond (is_at (name_cmp name) q) true (contains name_cmp set q)

same_test : (a b : ChunkName) → is_at (name_cmp a) b ≡ same_name b a
same_test a b = grind (arith, nat_tests)

either_way : (a b : Bool) → cond a true b ≡ (a || b)
either_way true b = refl
either_way false b = refl

pub no_names : (set : BTreeSet ChunkName) → keys set ≡ [] → HasNames [] set
no_names set none = record { same = λ q. ap (list_any (is_at (name_cmp q))) none }

names_front : (set next : BTreeSet ChunkName) (names : List ChunkName) (name : ChunkName) → HasNames names set → IsAdded set next name → HasNames (name ∷ names) next
names_front set next names name has added = record {
  same = λ q.
      added q ∙ (ap (λ (b : Bool). cond (is_at (name_cmp name) q) true b) (has.same q)
      ∙ (ap (λ (b : Bool). cond b true (is_among names q)) (same_test name q) ∙ either_way (same_name q name) (is_among names q)));
}

-- ---- none of them stands twice, or was met before

abbrev are_new : List ChunkName → List ChunkName → Bool
are_new met [] = true
are_new met (name ∷ names) = not (is_among met name) && are_new (name ∷ met) names

-- none was met before
abbrev are_unmet : List ChunkName → List ChunkName → Bool
are_unmet met names = list_all (λ (name : ChunkName). not (is_among met name)) names

turned : (a b : ChunkName) → same_name a b ≡ same_name b a
turned a b = grind (arith, nat_tests)

-- one met before more is none of them, and no other is either
unmet_more : (name : ChunkName) (met names : List ChunkName) → are_unmet (name ∷ met) names ≡ (not (is_among names name) && are_unmet met names)
unmet_more name met [] = refl
unmet_more name met (q ∷ names) =
    ap (λ (b : Bool). not (b || is_among met q) && are_unmet (name ∷ met) names) (turned q name)
    ∙ (ap (λ (b : Bool). not (same_name name q || is_among met q) && b) (unmet_more name met names)
    ∙ shuffled (same_name name q) (is_among met q) (is_among names name) (are_unmet met names))
  where
    shuffled : (a b c d : Bool) → (not (a || b) && (not c && d)) ≡ (not (a || c) && (not b && d))
    shuffled true b c d = refl
    shuffled false true true d = refl
    shuffled false true false d = refl
    shuffled false false true d = refl
    shuffled false false false d = refl

new_split : (met names : List ChunkName) → are_new met names ≡ (are_unmet met names && are_apart names)
new_split met [] = refl
new_split met (name ∷ names) =
    ap (λ (b : Bool). not (is_among met name) && b) (new_split (name ∷ met) names ∙ ap (λ (b : Bool). b && are_apart names) (unmet_more name met names))
    ∙ shuffled (is_among met name) (is_among names name) (are_unmet met names) (are_apart names)
  where
    shuffled : (a b c d : Bool) → (not a && ((not b && c) && d)) ≡ ((not a && c) && (not b && d))
    shuffled true b c d = refl
    shuffled false true true d = refl
    shuffled false true false d = refl
    shuffled false false c d = refl

none_met : (names : List ChunkName) → are_unmet [] names ≡ true
none_met [] = refl
none_met (name ∷ names) = none_met names

new_apart : (names : List ChunkName) → are_new [] names ≡ are_apart names
new_apart names = new_split [] names ∙ ap (λ (b : Bool). b && are_apart names) (none_met names)

-- ---- name by name

pub record IsMet (names : List ChunkName) (met : BTreeSet ChunkName) (i : ℕ) : Type 0 where
  pub seen : List ChunkName
  pub has : HasNames seen met
  pub left : are_new seen (drop i names) ≡ are_apart names
  pub spelled : AllByRecursion HasNameSpelling (take i names)

pub none_yet : (names : List ChunkName) (met : BTreeSet ChunkName) → keys met ≡ [] → IsMet names met 0
none_yet names met none = record { seen = []; has = no_names met none; left = new_apart names; spelled = tt }

module _ (names : List ChunkName) (met : BTreeSet ChunkName) (i : ℕ) (name e : ChunkName) (lt : i < length names) (is : name ≡ get_or names i e) (inv : IsMet names met i) where
  next_one : are_apart names ≡ (not (is_among inv.seen name) && are_new (name ∷ inv.seen) (drop (i + 1) names))
  next_one = sym inv.left ∙ ap (are_new inv.seen) (next_of names i name e lt is)

  pub met_once : (next : BTreeSet ChunkName) → IsAdded met next name → contains name_cmp met name ≡ false → AllByRecursion HasNameSpelling (take (i + 1) names) → IsMet names next (i + 1)
  met_once next added new spelled = record {
    seen = name ∷ inv.seen;
    has = names_front met next inv.seen name inv.has added;
    left = sym (next_one ∙ ap (λ (b : Bool). not b && are_new (name ∷ inv.seen) (drop (i + 1) names)) (sym (inv.has.same name) ∙ new));
    spelled = spelled;
  }

  pub met_twice : contains name_cmp met name ≡ true → are_apart names ≡ false
  met_twice old = next_one ∙ ap (λ (b : Bool). not b && are_new (name ∷ inv.seen) (drop (i + 1) names)) (sym (inv.has.same name) ∙ old)

pub met_all : (names : List ChunkName) (met : BTreeSet ChunkName) (i : ℕ) → length names ≤ i → IsMet names met i → are_apart names ≡ true
met_all names met i le inv = sym inv.left ∙ ap (are_new inv.seen) (drop_all i names le)

-- one more item has what all items before it have
all_next : {X : Type 0} (P : X → Type 0) (xs : List X) (i : ℕ) (x e : X) → i < length xs → x ≡ get_or xs i e → AllByRecursion P (take i xs) → P x → AllByRecursion P (take (suc i) xs)
all_next P [] i x e lt is all one = absurd (omega (arith, lt))
all_next P (y ∷ xs) zero x e lt is all one = (subst P is one, tt)
all_next P (y ∷ xs) (suc i) x e lt is all one = (all.0, all_next P xs i x e (omega (arith, lt)) is all.1 one)

pub all_more : {X : Type 0} (P : X → Type 0) (xs : List X) (i : ℕ) (x e : X) → i < length xs → x ≡ get_or xs i e → AllByRecursion P (take i xs) → P x → AllByRecursion P (take (i + 1) xs)
all_more P xs i x e lt is all one = rw add-one (all_next P xs i x e lt is all one)
