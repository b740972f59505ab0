-- The owner of a table, computed, is its owner.
use Rattle.std.proofs.Common.{◌≡◌, ℕ, ◌<◌, ◌≤◌, ◌⊎◌, inl, inr, Bool, true, false, ◌||◌, List, [], ◌∷◌, refl, sym, ap, ◌∙◌, subst, arith}
use Rattle.std.specs.Prelude.{◌==◌, ◌&&◌, nat_lt, nat_le, if◌then◌else◌}
use Rattle.std.specs.List.{list_any}
use Rattle.std.specs.Ordering.{nat_cmp, eq_by_cmp}
use Rattle.std.specs.Cmp.{nat_cmp_total}
use Rattle.std.specs.FinSet as set
use Rattle.std.proofs.lemmas.Bool.{cases_order}
use Rattle.std.proofs.lemmas.Bool.Decides.{nat_tests}
use Rattle.std.proofs.lemmas.Map.Lookups.{exact_unsigned}
use Rattle.std.proofs.lemmas.Map.Views.{tells_apart}
use Rattle.ring_map.specs.Place.{position_of, store_position, way}
use Rattle.ring_map.specs.Owners.{comes_first, owner_on}
use Rattle.ring_map.specs.Ring.{ComesFirst, IsOwner}

-- ---- two Stores

abbrev IsBefore : ℕ → ℕ → ℕ → ℕ → Type 0
IsBefore a b s o = (a < b) ⊎ ((a ≡ b) × (s ≤ o))

abbrev is_before : ℕ → ℕ → ℕ → ℕ → Bool
is_before a b s o = nat_lt a b || ((a == b) && nat_le s o)

before : (a b s o : ℕ) → is_before a b s o ≡ true → IsBefore a b s o
before a b s o is = elim (cases_order a b) [
  | inl same ↦ inr (same, grind (arith, nat_tests, is, same))
  | inr (inl less) ↦ inl less
  | inr (inr more) ↦ absurd (grind (arith, nat_tests, is, more))
]

not_before : (a b s o : ℕ) → is_before a b s o ≡ false → IsBefore b a o s
not_before a b s o is = elim (cases_order a b) [
  | inl same ↦ inr (sym same, grind (arith, nat_tests, is, same))
  | inr (inl less) ↦ absurd (grind (arith, nat_tests, is, less))
  | inr (inr more) ↦ inl more
]

then_before : (a b c s o q : ℕ) → IsBefore a b s o → IsBefore b c o q → IsBefore a c s q
then_before a b c s o q (inl x) (inl y) = inl (omega (arith, x, y))
then_before a b c s o q (inl x) (inr y) = inl (omega (arith, x, y))
then_before a b c s o q (inr x) (inl y) = inl (omega (arith, x, y))
then_before a b c s o q (inr x) (inr y) = inr (x.0 ∙ y.0, omega (arith, x, y))

-- ---- one of some Stores

abbrev among : List ℕ → ℕ → Bool
among stores q = list_any (eq_by_cmp nat_cmp q) stores

itself : (s : ℕ) → eq_by_cmp nat_cmp s s ≡ true
itself s = grind (arith, nat_tests)

or_true : (b : Bool) → (b || true) ≡ true
or_true true = refl
or_true false = refl

-- one of them, and none comes before it
abbrev IsFirst : ℕ → List ℕ → ℕ → Type 0
IsFirst from stores store = (among stores store ≡ true) × ((other : ℕ) → among stores other ≡ true → ComesFirst from store other)

same_first : (from s : ℕ) → ComesFirst from s s
same_first from s = inr (refl, omega arith)

-- one Store more
module _ (from s o : ℕ) (stores : List ℕ) (is : IsFirst from stores o) where
  first_of : (P : ℕ → Type 0) → P s → ((other : ℕ) → among stores other ≡ true → P other) → (other : ℕ) → among (s ∷ stores) other ≡ true → P other
  first_of P own others other there = go (eq_by_cmp nat_cmp other s) refl
    where
      go : (b : Bool) → eq_by_cmp nat_cmp other s ≡ b → P other
      go true same = subst P (sym (tells_apart exact_unsigned other s same)) own
      go false apart = others other (sym (ap (λ (b : Bool). b || among stores other) apart) ∙ there)

  joined : (b : Bool) → comes_first from s o ≡ b → IsFirst from (s ∷ stores) (if b then s else o)
  joined true near = (
    ap (λ (b : Bool). b || among stores s) (itself s),
    let own : ComesFirst from s o = before (way from (store_position s)) (way from (store_position o)) s o near in
        first_of (λ other. ComesFirst from s other) (same_first from s)
        (λ other there. then_before (way from (store_position s)) (way from (store_position o)) (way from (store_position other)) s o other own (is.1 other there)),
  )
  joined false far = (
    ap (λ (b : Bool). eq_by_cmp nat_cmp o s || b) is.0 ∙ or_true (eq_by_cmp nat_cmp o s),
    first_of (λ other. ComesFirst from o other) (not_before (way from (store_position s)) (way from (store_position o)) s o far) is.1,
  )

first : (name : List ℕ) (store : ℕ) (stores : List ℕ) → IsFirst (position_of name) (store ∷ stores) (owner_on name (store ∷ stores))
first name store [] = (
  ap (λ (b : Bool). b || false) (itself store),
  λ other there. go other (eq_by_cmp nat_cmp other store) refl there,
)
  where
    go : (other : ℕ) (b : Bool) → eq_by_cmp nat_cmp other store ≡ b → (eq_by_cmp nat_cmp other store || false) ≡ true → ComesFirst (position_of name) store other
    go other true same there = subst (λ q. ComesFirst (position_of name) store q) (sym (tells_apart exact_unsigned other store same)) (same_first (position_of name) store)
    go other false apart there = absurd (let e : false ≡ true = sym (ap (λ (b : Bool). b || false) apart) ∙ there in cc)
first name store (next ∷ more) =
    let from = position_of name in
    let o = owner_on name (next ∷ more) in
    joined from store o (next ∷ more) (first name next more) (comes_first from store o) refl

-- ---- the owner

pub both_first : (from a b : ℕ) → ComesFirst from a b → ComesFirst from b a → a ≡ b
both_first from a b (inl x) (inl y) = absurd (omega arith)
both_first from a b (inl x) (inr y) = absurd (omega arith)
both_first from a b (inr x) (inl y) = absurd (omega arith)
both_first from a b (inr x) (inr y) = omega arith

pub owner_is : (stores name : List ℕ) (store : ℕ) → IsOwner (set.from_list stores) name store → store ≡ owner_on name stores
owner_is [] name store o = absurd (let none = set.contains-from_list nat_cmp_total [] store in let e : false ≡ true = sym none ∙ o.on_ring in cc)
owner_is (s ∷ stores) name store o =
    let f = first name s stores in
    both_first (position_of name) store (owner_on name (s ∷ stores))
    (o.first (owner_on name (s ∷ stores)) (set.contains-from_list nat_cmp_total (s ∷ stores) (owner_on name (s ∷ stores)) ∙ f.0))
    (f.1 store (sym (set.contains-from_list nat_cmp_total (s ∷ stores) store) ∙ o.on_ring))

-- and the only Store of none is 0
pub none_is : (stores name : List ℕ) → set.from_list {R = nat_cmp} stores ≡ set.empty → 0 ≡ owner_on name stores
none_is [] name e = refl
none_is (s ∷ stores) name e = absurd (
    let there = set.contains-from_list nat_cmp_total (s ∷ stores) s in
    let none = set.contains-empty nat_cmp s in
    let both : true ≡ false = sym (ap (λ (b : Bool). b || among stores s) (itself s)) ∙ (sym there ∙ (ap (λ x. set.contains x s) e ∙ none)) in cc)
