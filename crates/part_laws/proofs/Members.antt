-- Members of lists, tests of them, and what holds of each.
use Rattle.std.proofs.Common.{◌≡◌, ⊎_elim, ℕ, zero, suc, Bool, true, false, cond, List, [], ◌∷◌, length, Some, None, refl, sym, ◌∙◌, ap, subst, arith}
use Rattle.std.specs.Prelude.{◌||◌, map, zip, filter, slice_get}
use Rattle.std.specs.List.{AllByRecursion, list_any, list_all}
use Rattle.std.proofs.lemmas.Bool.{and_parts}
use Rattle.step_tables.specs.Chunks.{flat, each_chunk, cut}
use Rattle.step_tables.specs.Members.{Among}
use Rattle.step_tables.proofs.Lists.{among_here, among_next, among_none, among_cons, among_left, among_right, among_either}

pub all_among : {X : Type 0} (p : X → Bool) (xs : List X) (x : X) → list_all p xs ≡ true → Among xs x → p x ≡ true
all_among p [] x is a = absurd (among_none x a)
all_among p (y ∷ ys) x is a =
    let parts = and_parts (p y) (list_all p ys) is in
    ⊎_elim (λ e. sym (ap p e) ∙ parts.0) (λ more. all_among p ys x parts.1 more) (among_cons y ys x a)

pub any_among : {X : Type 0} (p : X → Bool) (xs : List X) → list_any p xs ≡ true → (x : X) × Among xs x × (p x ≡ true)
any_among p [] is = absurd (let bad : false ≡ true = is in cc)
any_among {X} p (y ∷ ys) is = pick (any_among p ys) (p y) refl is
  where
    pick : (list_any p ys ≡ true → (x : X) × Among ys x × (p x ≡ true)) → (b : Bool) → p y ≡ b → (b || list_any p ys) ≡ true → (x : X) × Among (y ∷ ys) x × (p x ≡ true)
    pick rest true here e = (y, among_here y ys, here)
    pick rest false here e = let r = rest e in (r.0, among_next y ys r.0 r.1, r.2)

pub each_among : {X : Type 0} (P : X → Type 0) (xs : List X) (x : X) → AllByRecursion P xs → Among xs x → P x
each_among P [] x all a = absurd (among_none x a)
each_among P (y ∷ ys) x all a = ⊎_elim (λ e. subst P e all.0) (λ more. each_among P ys x all.1 more) (among_cons y ys x a)

pub each_filter : {X : Type 0} (P : X → Type 0) (p : X → Bool) (xs : List X) → AllByRecursion P xs → AllByRecursion P (filter p xs)
each_filter P p [] all = tt
each_filter {X} P p (x ∷ xs) all = pick (p x) (each_filter P p xs all.1)
  where
    pick : (b : Bool) → AllByRecursion P (filter p xs) → AllByRecursion P (cond b (x ∷ filter p xs) (filter p xs))
    pick true more = (all.0, more)
    pick false more = more

-- ---- lists side by side

same_some : {X : Type 0} (x y : X) → Some x ≡ Some y → x ≡ y
same_some x y e = cc

pub zip_at : {X Y : Type 0} (xs : List X) (ys : List Y) (place : ℕ) (x : X) → length xs ≡ length ys → slice_get xs place ≡ Some x → (y : Y) × (slice_get ys place ≡ Some y) × Among (zip xs ys) (x, y)
zip_at [] ys place x e at = absurd (let bad : None ≡ Some x = at in cc)
zip_at (first ∷ xs) [] place x e at = absurd (omega (arith, e))
zip_at (first ∷ xs) (y ∷ ys) zero x e at = (y, refl, subst (λ z. Among ((first, y) ∷ zip xs ys) (z, y)) (same_some first x at) (among_here (first, y) (zip xs ys)))
zip_at (first ∷ xs) (y ∷ ys) (suc place) x e at =
    let more = zip_at xs ys place x (omega (arith, e)) at in (more.0, more.1, among_next (first, y) (zip xs ys) (x, more.0) more.2)

-- ---- what is said of chunks, mapped

zip_mapped : {X Y : Type 0} (f : X → Y) (xs : List X) (chunks : List (List ℕ)) (y : Y) (chunk : List ℕ) → Among (zip (map f xs) chunks) (y, chunk) → (x : X) × Among (zip xs chunks) (x, chunk) × (f x ≡ y)
zip_mapped f [] chunks y chunk a = absurd (among_none (y, chunk) a)
zip_mapped f (x ∷ xs) [] y chunk a = absurd (among_none (y, chunk) a)
zip_mapped {X} {Y} f (x ∷ xs) (first ∷ chunks) y chunk a = ⊎_elim here (λ more. there (zip_mapped f xs chunks y chunk more)) (among_cons (f x, first) (zip (map f xs) chunks) (y, chunk) a)
  where
    here : ◌≡◌ {A = Y × List ℕ} (f x, first) (y, chunk) → (z : X) × Among (zip (x ∷ xs) (first ∷ chunks)) (z, chunk) × (f z ≡ y)
    here e = (x, subst (λ c. Among ((x, first) ∷ zip xs chunks) (x, c)) (ap (λ (p : Y × List ℕ). p.1) e) (among_here (x, first) (zip xs chunks)), ap (λ (p : Y × List ℕ). p.0) e)

    there : (z : X) × Among (zip xs chunks) (z, chunk) × (f z ≡ y) → (z : X) × Among (zip (x ∷ xs) (first ∷ chunks)) (z, chunk) × (f z ≡ y)
    there r = (r.0, among_next (x, first) (zip xs chunks) (r.0, chunk) r.1, r.2)

pub said_mapped : {X Y : Type 0} (f : X → Y) (size : ℕ) (said : List (List X)) (objects : List (List ℕ)) (y : Y) (chunk : List ℕ)
    → Among (flat (each_chunk size (map (λ (object : List X). map f object) said) objects)) (y, chunk) → (x : X) × Among (flat (each_chunk size said objects)) (x, chunk) × (f x ≡ y)
said_mapped f size said [] y chunk a = absurd (among_none (y, chunk) a)
said_mapped f size [] (object ∷ objects) y chunk a = said_mapped f size [] objects y chunk a
said_mapped {X} {Y} f size (here ∷ said) (object ∷ objects) y chunk a =
    ⊎_elim (λ l. first (zip_mapped f here (cut size object) y chunk l)) (λ r. behind (said_mapped f size said objects y chunk r))
    (among_either (zip (map f here) (cut size object)) (flat (each_chunk size (map (λ (o : List X). map f o) said) objects)) (y, chunk) a)
  where
    first : (z : X) × Among (zip here (cut size object)) (z, chunk) × (f z ≡ y) → (z : X) × Among (flat (each_chunk size (here ∷ said) (object ∷ objects))) (z, chunk) × (f z ≡ y)
    first r = (r.0, among_left (zip here (cut size object)) (flat (each_chunk size said objects)) (r.0, chunk) r.1, r.2)

    behind : (z : X) × Among (flat (each_chunk size said objects)) (z, chunk) × (f z ≡ y) → (z : X) × Among (flat (each_chunk size (here ∷ said) (object ∷ objects))) (z, chunk) × (f z ≡ y)
    behind r = (r.0, among_right (zip here (cut size object)) (flat (each_chunk size said objects)) (r.0, chunk) r.1, r.2)
