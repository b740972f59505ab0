-- Members of lists, the first and the last item that passes a test, and look-ups in maps.
use Rattle.std.proofs.Common.{◌≡◌, ◌≢◌, ◌⊎◌, ℕ, zero, suc, Bool, true, false, cond, List, [], ◌∷◌, ◌++◌, filter, Option, Some, None, refl, sym, ap, ◌∙◌, inl, inr, true≢false}
use Rattle.std.specs.Prelude.{slice_get, map, reverse, option_map, if◌then◌else◌, ◌==◌}
use Rattle.std.specs.List.{find}
use Rattle.std.specs.Option.{option_or}
use Rattle.std.specs.declared.cmp.Ordering.{Ordering}
use Rattle.std.specs.declared.cmp.Ordering.TheVariants.{Less, Equal, Greater}
use Rattle.std.specs.Ordering.{nat_cmp, is_eq, match_ordering, eq_by_cmp}
use Rattle.std.specs.Cmp.{IsTotalOrder, IsEquivalence, eq_by_cmp_equiv, nat_cmp_total, unsigned_tied}
use Rattle.std.specs.BTreeMap.{is_at, insert_entry}
use Rattle.std.specs.Map.{lookup}
use Rattle.std.proofs.lemmas.Cmp.{nat_list_cmp_total}
use Rattle.std.proofs.lemmas.Map.Text.{is_eq-slice_cmp}
use Rattle.std.proofs.lemmas.Slice.Eq.{bytes_eq-Decides}
use Rattle.std.proofs.lemmas.List.{reverse-append}
use Rattle.std.proofs.lemmas.List.Folds.{find-append}
use Rattle.table_model.specs.Last.{last_where}
use Rattle.table_model.specs.History.{same_row}
use Rattle.step_tables.specs.Client.{row_cmp}
use Rattle.step_tables.specs.Members.{Among}

-- ---- members

pub among_here : {X : Type 0} (x : X) (xs : List X) → Among (x ∷ xs) x
unfolding Among
among_here x xs = inl refl

pub among_next : {X : Type 0} (y : X) (xs : List X) (x : X) → Among xs x → Among (y ∷ xs) x
unfolding Among
among_next y xs x a = inr a

pub among_none : {X : Type 0} (x : X) → Among [] x → ⊥
unfolding Among
among_none x a = a

pub among_cons : {X : Type 0} (y : X) (xs : List X) (x : X) → Among (y ∷ xs) x → (y ≡ x) ⊎ Among xs x
unfolding Among
among_cons y xs x a = a

pub among_push : {X : Type 0} (xs : List X) (x : X) → Among (xs ++ x ∷ []) x
unfolding Among
among_push [] x = inl refl
among_push (y ∷ ys) x = inr (among_push ys x)

pub among_left : {X : Type 0} (xs ys : List X) (x : X) → Among xs x → Among (xs ++ ys) x
unfolding Among
among_left [] ys x a = absurd a
among_left (y ∷ xs) ys x (inl e) = inl e
among_left (y ∷ xs) ys x (inr a) = inr (among_left xs ys x a)

pub among_right : {X : Type 0} (xs ys : List X) (x : X) → Among ys x → Among (xs ++ ys) x
unfolding Among
among_right [] ys x a = a
among_right (y ∷ xs) ys x a = inr (among_right xs ys x a)

pub among_either : {X : Type 0} (xs ys : List X) (x : X) → Among (xs ++ ys) x → Among xs x ⊎ Among ys x
unfolding Among
among_either [] ys x a = inr a
among_either (y ∷ xs) ys x (inl e) = inl (inl e)
among_either (y ∷ xs) ys x (inr a) = behind (among_either xs ys x a)
  where
    behind : Among xs x ⊎ Among ys x → ((y ≡ x) ⊎ Among xs x) ⊎ Among ys x
    behind (inl h) = inl (inr h)
    behind (inr h) = inr h

pub among_cases : {X : Type 0} (xs : List X) (y x : X) → Among (xs ++ y ∷ []) x → Among xs x ⊎ (y ≡ x)
unfolding Among
among_cases xs y x a = last (among_either xs (y ∷ []) x a)
  where
    last : Among xs x ⊎ ((y ≡ x) ⊎ ⊥) → Among xs x ⊎ (y ≡ x)
    last (inl h) = inl h
    last (inr (inl e)) = inr e
    last (inr (inr h)) = absurd h

pub among_get : {X : Type 0} (xs : List X) (k : ℕ) (x : X) → slice_get xs k ≡ Some x → Among xs x
unfolding Among
among_get [] k x at = absurd cc
among_get (y ∷ ys) zero x at = inl cc
among_get (y ∷ ys) (suc k) x at = inr (among_get ys k x at)

pub among_map : {X Y : Type 0} (f : X → Y) (xs : List X) (x : X) → Among xs x → Among (map f xs) (f x)
unfolding Among
among_map f [] x a = a
among_map f (y ∷ xs) x (inl e) = inl (ap f e)
among_map f (y ∷ xs) x (inr a) = inr (among_map f xs x a)

pub among_mapped : {X Y : Type 0} (f : X → Y) (xs : List X) (y : Y) → Among (map f xs) y → (x : X) × Among xs x × (f x ≡ y)
unfolding Among
among_mapped f [] y a = absurd a
among_mapped f (x ∷ xs) y (inl e) = (x, inl refl, e)
among_mapped f (x ∷ xs) y (inr a) = let h = among_mapped f xs y a in (h.0, inr h.1, h.2)

pub among_filter : {X : Type 0} (p : X → Bool) (xs : List X) (x : X) → Among xs x → p x ≡ true → Among (filter p xs) x
unfolding Among
among_filter p [] x a is = a
among_filter {X} p (y ∷ xs) x a is = passed (λ h. among_filter p xs x h is) (p y) refl a
  where
    passed : (Among xs x → Among (filter p xs) x) → (b : Bool) → p y ≡ b → (y ≡ x) ⊎ Among xs x → Among (cond b (y ∷ filter p xs) (filter p xs)) x
    passed more true at (inl e) = inl e
    passed more true at (inr h) = inr (more h)
    passed more false at (inl e) = absurd (true≢false (sym is ∙ ap p (sym e) ∙ at))
    passed more false at (inr h) = more h

pub among_filtered : {X : Type 0} (p : X → Bool) (xs : List X) (x : X) → Among (filter p xs) x → Among xs x × (p x ≡ true)
unfolding Among
among_filtered p [] x a = absurd a
among_filtered {X} p (y ∷ xs) x a = passed (among_filtered p xs x) (p y) refl a
  where
    passed : (Among (filter p xs) x → Among xs x × (p x ≡ true)) → (b : Bool) → p y ≡ b → Among (cond b (y ∷ filter p xs) (filter p xs)) x → ((y ≡ x) ⊎ Among xs x) × (p x ≡ true)
    passed more true at (inl e) = (inl e, ap p (sym e) ∙ at)
    passed more true at (inr h) = (inr (more h).0, (more h).1)
    passed more false at h = (inr (more h).0, (more h).1)

-- ---- the first item that passes

pub among_found : {X : Type 0} (p : X → Bool) (xs : List X) (x : X) → find p xs ≡ Some x → Among xs x × (p x ≡ true)
unfolding Among
among_found p [] x at = absurd cc
among_found {X} p (y ∷ xs) x at = passed (among_found p xs x) (p y) refl at
  where
    passed : (find p xs ≡ Some x → Among xs x × (p x ≡ true)) → (b : Bool) → p y ≡ b → cond b (Some y) (find p xs) ≡ Some x → ((y ≡ x) ⊎ Among xs x) × (p x ≡ true)
    passed more true is e = let same : y ≡ x = cc in (inl same, ap p (sym same) ∙ is)
    passed more false is e = (inr (more e).0, (more e).1)

pub find_some : {X : Type 0} (p : X → Bool) (xs : List X) (x : X) → Among xs x → p x ≡ true → (y : X) × (find p xs ≡ Some y)
unfolding Among
find_some p [] x a is = absurd a
find_some {X} p (y ∷ xs) x a is = passed (λ h. find_some p xs x h is) (p y) refl a
  where
    passed : (Among xs x → (z : X) × (find p xs ≡ Some z)) → (b : Bool) → p y ≡ b → (y ≡ x) ⊎ Among xs x → (z : X) × (cond b (Some y) (find p xs) ≡ Some z)
    passed more true at h = (y, refl)
    passed more false at (inl e) = absurd (true≢false (sym is ∙ ap p (sym e) ∙ at))
    passed more false at (inr h) = more h

pub find_left : {X : Type 0} (p : X → Bool) (xs ys : List X) (x : X) → find p xs ≡ Some x → find p (xs ++ ys) ≡ Some x
find_left p xs ys x at = find-append p xs ys ∙ ap (λ o. option_or o (find p ys)) at

pub find_right : {X : Type 0} (p : X → Bool) (xs ys : List X) → find p xs ≡ None → find p (xs ++ ys) ≡ find p ys
find_right p xs ys at = find-append p xs ys ∙ ap (λ o. option_or o (find p ys)) at

-- ---- the last item that passes

pub last_where-append : {X : Type 0} (p : X → Bool) (xs ys : List X) → last_where p (xs ++ ys) ≡ option_or (last_where p ys) (last_where p xs)
last_where-append p xs ys = ap (find p) (reverse-append xs ys) ∙ find-append p (reverse ys) (reverse xs)

pub last_where-push : {X : Type 0} (p : X → Bool) (xs : List X) (x : X) → last_where p (xs ++ x ∷ []) ≡ cond (p x) (Some x) (last_where p xs)
last_where-push p xs x = last_where-append p xs (x ∷ []) ∙ one (p x)
  where
    one : (b : Bool) → option_or (cond b (Some x) None) (last_where p xs) ≡ cond b (Some x) (last_where p xs)
    one true = refl
    one false = refl

pub last_where-cons : {X : Type 0} (p : X → Bool) (x : X) (xs : List X) → last_where p (x ∷ xs) ≡ option_or (last_where p xs) (cond (p x) (Some x) None)
last_where-cons p x xs = last_where-append p (x ∷ []) xs

pub among_last : {X : Type 0} (p : X → Bool) (xs : List X) (x : X) → last_where p xs ≡ Some x → Among xs x × (p x ≡ true)
unfolding Among
among_last p [] x at = absurd cc
among_last {X} p (y ∷ xs) x at = later (among_last p xs x) (last_where p xs) refl (sym (last_where-cons p y xs) ∙ at)
  where
    one : (b : Bool) → p y ≡ b → cond b (Some y) None ≡ Some x → ((y ≡ x) ⊎ Among xs x) × (p x ≡ true)
    one true is e = let same : y ≡ x = cc in (inl same, ap p (sym same) ∙ is)
    one false is e = absurd cc

    later : (last_where p xs ≡ Some x → Among xs x × (p x ≡ true)) → (o : Option X) → last_where p xs ≡ o
        → option_or o (cond (p y) (Some y) None) ≡ Some x → ((y ≡ x) ⊎ Among xs x) × (p x ≡ true)
    later more None is e = one (p y) refl e
    later more (Some z) is e = let k = more (is ∙ e) in (inr k.0, k.1)

pub last_some : {X : Type 0} (p : X → Bool) (xs : List X) (x : X) → Among xs x → p x ≡ true → (y : X) × (last_where p xs ≡ Some y)
unfolding Among
last_some p [] x a is = absurd a
last_some {X} p (y ∷ xs) x a is = let k = at (λ h. last_some p xs x h is) (last_where p xs) refl a in (k.0, last_where-cons p y xs ∙ k.1)
  where
    one : (b : Bool) → p y ≡ b → y ≡ x → (z : X) × (cond b (Some y) None ≡ Some z)
    one true at e = (y, refl)
    one false at e = absurd (true≢false (sym is ∙ ap p (sym e) ∙ at))

    at : (Among xs x → (z : X) × (last_where p xs ≡ Some z)) → (o : Option X) → last_where p xs ≡ o
        → (y ≡ x) ⊎ Among xs x → (z : X) × (option_or o (cond (p y) (Some y) None) ≡ Some z)
    at more (Some z) found h = (z, refl)
    at more None found (inl e) = one (p y) refl e
    at more None found (inr h) = absurd (let k : Some (more h).0 ≡ None = sym (more h).1 ∙ found in cc)

pub last_where-map : {X Y : Type 0} (p : Y → Bool) (f : X → Y) (xs : List X) → last_where p (map f xs) ≡ option_map f (last_where (λ x. p (f x)) xs)
last_where-map p f [] = refl
last_where-map {X} {Y} p f (x ∷ xs) =
    last_where-cons p (f x) (map f xs)
    ∙ ap (λ (o : Option Y). option_or o (cond (p (f x)) (Some (f x)) None)) (last_where-map p f xs)
    ∙ (both (last_where (λ (z : X). p (f z)) xs) (p (f x)) ∙ sym (ap (option_map f) (last_where-cons (λ (z : X). p (f z)) x xs)))
  where
    both : (o : Option X) (b : Bool) → option_or (option_map f o) (cond b (Some (f x)) None) ≡ option_map f (option_or o (cond b (Some x) None))
    both (Some z) b = refl
    both None true = refl
    both None false = refl

-- items that fail, behind others
pub last_where_stays : {X : Type 0} (p : X → Bool) (xs ys : List X) → ((y : X) → Among ys y → p y ≡ false) → last_where p (xs ++ ys) ≡ last_where p xs
last_where_stays {X} p xs ys fails = last_where-append p xs ys ∙ ap (λ o. option_or o (last_where p xs)) (none (last_where p ys) refl)
  where
    none : (o : Option X) → last_where p ys ≡ o → last_where p ys ≡ None
    none None at = at
    none (Some y) at = absurd (let k = among_last p ys y at in true≢false (sym k.1 ∙ fails y k.0))

-- ---- maps

laws : {K : Type 0} {R : K → K → Ordering} → IsTotalOrder R → IsEquivalence (eq_by_cmp R)
laws o = eq_by_cmp_equiv o

twice : {X : Type 0} (b : Bool) (x y z : X) → cond b x z ≡ cond b x (cond b y z)
twice true x y z = refl
twice false x y z = refl

turned : {X : Type 0} (a b : Bool) (x y z : X) → (a ≡ true → b ≡ false) → cond b y (cond a x z) ≡ cond a x (cond b y z)
turned true true x y z h = absurd (true≢false (h refl))
turned true false x y z h = refl
turned false b x y z h = refl

pub lookup-insert : {K V : Type 0} (R : K → K → Ordering) → IsTotalOrder R → (es : List (K × V)) (k : K) (v : V) (q : K)
    → lookup (is_at (R q)) (insert_entry R es k v) ≡ cond (is_at (R k) q) (Some v) (lookup (is_at (R q)) es)
lookup-insert R o [] k v q = ap (λ (b : Bool). cond b (Some v) None) ((laws o).symm q k)
lookup-insert {K} {V} R o (e ∷ es) k v q =
    let rest = lookup (is_at (R q)) es in
    (elim (R k e.0) as (λ (r : Ordering). R k e.0 ≡ r → lookup (is_at (R q)) (match_ordering r ((k, v) ∷ e ∷ es) ((e.0, v) ∷ es) (e ∷ insert_entry R es k v)) ≡ cond (is_at (R k) q) (Some v) (cond (is_at (R q) e.0) (Some e.1) rest)) [
      | Less ↦ λ h. ap (λ (b : Bool). cond b (Some v) (cond (is_at (R q) e.0) (Some e.1) rest)) ((laws o).symm q k)
      | Equal ↦ λ h.
          let same : is_at (R k) q ≡ is_at (R q) e.0 = (laws o).congr k e.0 q (ap is_eq h) ∙ (laws o).symm e.0 q in
          twice (is_at (R q) e.0) (Some v) (Some e.1) rest ∙ ap (λ (b : Bool). cond b (Some v) (cond (is_at (R q) e.0) (Some e.1) rest)) (sym same)
      | Greater ↦ λ h.
          let apart : is_at (R k) q ≡ true → is_at (R q) e.0 ≡ false = λ at. sym ((laws o).congr k q e.0 at) ∙ ap is_eq h in
          ap (λ (l : Option V). cond (is_at (R q) e.0) (Some e.1) l) (lookup-insert R o es k v q) ∙ turned (is_at (R k) q) (is_at (R q) e.0) (Some v) (Some e.1) rest apart
    ]) refl

pub lookup-insert_nat : {V : Type 0} (es : List (ℕ × V)) (k : ℕ) (v : V) (q : ℕ)
    → lookup (is_at (nat_cmp q)) (insert_entry nat_cmp es k v) ≡ (if k == q then Some v else lookup (is_at (nat_cmp q)) es)
lookup-insert_nat es k v q =
    lookup-insert nat_cmp nat_cmp_total es k v q ∙ ap (λ b. cond b (Some v) (lookup (is_at (nat_cmp q)) es)) (unsigned_tied k q)

pub lookup-insert_row : {V : Type 0} (es : List (List ℕ × V)) (k : List ℕ) (v : V) (q : List ℕ)
    → lookup (is_at (row_cmp q)) (insert_entry row_cmp es k v) ≡ (if same_row k q then Some v else lookup (is_at (row_cmp q)) es)
lookup-insert_row es k v q = lookup-insert row_cmp nat_list_cmp_total es k v q

-- ---- rows

pub same_row-is : (a b : List ℕ) → same_row a b ≡ true → a ≡ b
same_row-is a b h = (bytes_eq-Decides a b).0 (sym (is_eq-slice_cmp a b) ∙ h)

pub same_row-refl : (a : List ℕ) → same_row a a ≡ true
same_row-refl a = is_eq-slice_cmp a a ∙ (bytes_eq-Decides a a).1 refl

-- what the test of two rows tells, for `grind`
pub same_row_tells : (a b : List ℕ) → ((same_row a b ≡ true) × (a ≡ b)) ⊎ ((same_row a b ≡ false) × (a ≢ b))
same_row_tells a b = told (same_row a b) refl
  where
    told : (t : Bool) → same_row a b ≡ t → ((t ≡ true) × (a ≡ b)) ⊎ ((t ≡ false) × (a ≢ b))
    told true h = inl (refl, same_row-is a b h)
    told false h = inr (refl, λ e. true≢false (sym (same_row-refl a) ∙ ap (same_row a) e ∙ h))
