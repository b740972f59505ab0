-- Different names among others are no more than those.
use Rattle.std.proofs.Common.{◌≡◌, ⊎_elim, ℕ, zero, suc, ◌+◌, ◌<◌, ◌≤◌, Bool, true, false, List, [], ◌∷◌, length, map, refl, sym, ◌∙◌, ap, subst, arith}
use Rattle.std.specs.Prelude.{◌||◌, if◌then◌else◌}
use Rattle.std.specs.List.{range_with_len}
use Rattle.held_value.specs.declared.local_name.LocalName.{LocalName}
use Rattle.client_journal.specs.Names.{same_name, is_among, Has}
use Rattle.client_journal.specs.NamedSlots.{AreDifferent}
use Rattle.client_journal.proofs.Lookups.{has_cases, has_head, has_tail}
use Rattle.held_contents.specs.Holding.{brought_name}

-- without the first that is the same
remove : LocalName → List LocalName → List LocalName
remove name [] = []
remove name (x ∷ xs) = if same_name name x then xs else x ∷ remove name xs

one_less : (name : LocalName) (xs : List LocalName) → Has xs name → suc (length (remove name xs)) ≡ length xs
unfolding remove
one_less name [] has = absurd cc
one_less name (x ∷ xs) has = pick (same_name name x) has (one_less name xs)
  where
    pick : (b : Bool) → b || is_among xs name ≡ true → (Has xs name → suc (length (remove name xs)) ≡ length xs) → suc (length (if b then xs else x ∷ remove name xs)) ≡ suc (length xs)
    pick true has more = refl
    pick false has more = ap suc (more has)

is_same : (a b : LocalName) → same_name a b ≡ true → a ≡ b
is_same a b is = ⊎_elim (λ same. same) (λ none. absurd (let bad : false ≡ true = none in cc)) (has_cases b a [] (ap (λ (t : Bool). t || false) is))

stays : (name q : LocalName) (xs : List LocalName) → (q ≡ name → ⊥) → Has xs q → Has (remove name xs) q
unfolding remove
stays name q [] other has = absurd cc
stays name q (x ∷ xs) other has = pick (same_name name x) refl (λ h. stays name q xs other h)
  where
    pick : (b : Bool) → same_name name x ≡ b → (Has xs q → Has (remove name xs) q) → Has (if b then xs else x ∷ remove name xs) q
    pick true is more = ⊎_elim (λ same. absurd (other (same ∙ sym (is_same name x is)))) (λ there. there) (has_cases x q xs has)
    pick false is more = ⊎_elim (λ same. has_head x q (remove name xs) same) (λ there. has_tail x q (remove name xs) (more there)) (has_cases x q xs has)

pub no_more : (names others : List LocalName) → AreDifferent names → ((q : LocalName) → Has names q → Has others q) → length names ≤ length others
no_more [] others different among = omega arith
no_more (name ∷ names) others different among =
    let rest = no_more names (remove name others) different.1 (λ q has. stays name q others (λ same. let there : Has names name = subst (λ (n : LocalName). Has names n) same has in let not = different.0 in absurd cc) (among q (has_tail name q names has))) in
    let less = one_less name others (among name (has_head name name names refl)) in
    omega (arith, rest, less)

-- so many brought names among others
abbrev pub brought_names : ℕ → ℕ → List LocalName
brought_names first count = map (λ (ordinal : ℕ). brought_name ordinal) (range_with_len first count)

later : (first count : ℕ) (q : LocalName) → Has (brought_names first count) q → (q.plan ≡ 0) × (first ≤ q.ordinal) × (q.ordinal < first + count)
later first zero q has = absurd cc
later first (suc count) q has =
    ⊎_elim (λ same. (ap (λ (n : LocalName). n.plan) same, omega (arith, ap (λ (n : LocalName). n.ordinal) same), omega (arith, ap (λ (n : LocalName). n.ordinal) same)))
    (λ more. let k = later (first + 1) count q more in (k.0, omega (arith, k.1), omega (arith, k.2)))
    (has_cases (brought_name first) q (brought_names (first + 1) count) has)

all_different : (first count : ℕ) → AreDifferent (brought_names first count)
all_different first zero = tt
all_different first (suc count) = (not_there (is_among (brought_names (first + 1) count) (brought_name first)) refl, all_different (first + 1) count)
  where
    not_there : (b : Bool) → is_among (brought_names (first + 1) count) (brought_name first) ≡ b → b ≡ false
    not_there false is = refl
    not_there true is = absurd (let k = later (first + 1) count (brought_name first) is in omega (arith, k.1))

many : (first count : ℕ) → length (brought_names first count) ≡ count
many first zero = refl
many first (suc count) = ap suc (many (first + 1) count)

named_by : (q : LocalName) → q.plan ≡ 0 → q ≡ brought_name q.ordinal
named_by q none = ap (λ (plan : ℕ). record { plan = plan; ordinal = q.ordinal }) none

pub few_brought : (count : ℕ) (others : List LocalName) → ((ordinal : ℕ) → ordinal < count → Has others (brought_name ordinal)) → count ≤ length others
few_brought count others each =
    let most = no_more (brought_names 0 count) others (all_different 0 count)
    (λ q has. let k = later 0 count q has in subst (λ (n : LocalName). Has others n) (sym (named_by q k.0)) (each q.ordinal (omega (arith, k.2)))) in
    omega (arith, most, many 0 count)
