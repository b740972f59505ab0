-- Where a member of a list stands, and what a look-up finds behind a change or among some of the entries.
use Rattle.std.proofs.Common.{◌≡◌, ⊎_elim, ℕ, suc, Bool, List, [], ◌∷◌, Some, None, ap, arith}
use Rattle.std.specs.Prelude.{filter, slice_get, if◌then◌else◌}
use Rattle.std.specs.List.{flat_map}
use Rattle.std.proofs.lemmas.Bool.Decides.{nat_tests}
use Rattle.std.specs.Ordering.{nat_cmp}
use Rattle.std.specs.Map.{lookup}
use Rattle.std.specs.BTreeMap.{is_at}
use Rattle.step_tables.specs.Members.{Among}
use Rattle.step_tables.proofs.Lists.{among_none, among_here, among_next, among_cons, among_left, among_right, among_either}

pub place_of : {X : Type 0} (xs : List X) (x : X) → Among xs x → (k : ℕ) × (slice_get xs k ≡ Some x)
place_of [] x a = absurd (among_none x a)
place_of {X} (y ∷ ys) x a = ⊎_elim (λ e. here e) (λ more. let r = place_of ys x more in (suc r.0, r.1)) (among_cons y ys x a)
  where
    here : y ≡ x → (k : ℕ) × (slice_get (y ∷ ys) k ≡ Some x)
    here e = (0, ap (λ (z : X). Some z) e)

-- the members of lists that are made of each member
pub flat_member : {X Y : Type 0} (f : X → List Y) (xs : List X) (y : Y) → Among (flat_map f xs) y → (x : X) × Among xs x × Among (f x) y
flat_member f [] y a = absurd (among_none y a)
flat_member f (x ∷ xs) y a = ⊎_elim
    (λ here. (x, among_here x xs, here))
    (λ more. let r = flat_member f xs y more in (r.0, among_next x xs r.0 r.1, r.2)) (among_either (f x) (flat_map f xs) y a)

pub member_flat : {X Y : Type 0} (f : X → List Y) (xs : List X) (x : X) (y : Y) → Among xs x → Among (f x) y → Among (flat_map f xs) y
member_flat f [] x y a b = absurd (among_none x a)
member_flat {X} {Y} f (z ∷ xs) x y a b = ⊎_elim
    (λ e. among_left (f z) (flat_map f xs) y (here e))
    (λ more. among_right (f z) (flat_map f xs) y (member_flat f xs x y more b)) (among_cons z xs x a)
  where
    here : z ≡ x → Among (f z) y
    here e = rw e b

pub lookup_some : {V : Type 0} (f : ℕ → Bool) (t : ℕ) (es : List (ℕ × V)) → lookup (is_at (nat_cmp t)) (filter (λ (e : ℕ × V). f e.0) es) ≡ (if f t then lookup (is_at (nat_cmp t)) es else None)
lookup_some f t [] = grind (arith, nat_tests)
lookup_some f t (e ∷ es) = grind (arith, nat_tests, lookup_some f t es)
