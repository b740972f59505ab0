-- Items by their versions, and the last of a row.
use Rattle.std.proofs.Common.{◌≡◌, ◌≢◌, ◌⊎◌, ℕ, ◌+◌, ◌≤◌, ◌<◌, Bool, true, false, cond, List, [], ◌∷◌, ◌++◌, length, Option, Some, None, refl, sym, ap, ◌∙◌, subst, arith, inl, inr, ⊎_elim, true≢false}
use Rattle.std.specs.Prelude.{◌==◌, ◌&&◌, nat_lt, not, if◌then◌else◌}
use Rattle.std.specs.List.{list_any}
use Rattle.std.specs.Option.{option_or}
use Rattle.std.proofs.lemmas.Bool.Decides.{nat_tests}
use Rattle.table_model.specs.Last.{last_where}
use Rattle.table_model.specs.History.{same_row}
use Rattle.step_tables.specs.Store.{Stored, current_of, is_of_row, next_changed}
use Rattle.step_tables.specs.Members.{Among}
use Rattle.step_tables.specs.Messages.{Pair}
use Rattle.step_tables.specs.StoreMoves.{item_at, version_of, is_by, pair_of}
use Rattle.step_tables.specs.Items.{latest, IsItemOf, IsItemAt, IsBase, IsYours}
use Rattle.step_tables.proofs.Lists.{among_here, among_next, among_none, among_cons, among_found, find_some, among_last, last_some, last_where-cons, last_where-push, same_row-is, same_row-refl}
use Rattle.step_tables.proofs.Lists.{same_row_tells}
use Rattle.store_laws.specs.Part.{Counts}

-- ---- versions

pub above : (n : ℕ) (h : List Stored) (i : Stored) → Counts n h → Among h i → n < i.entry.version
above n [] i c a = absurd (among_none i a)
above n (x ∷ h) i c a = grind (arith, among_cons x h i a, above (n + 1) h i c.1, c.0)

pub counted_up : (n : ℕ) (h : List Stored) (i : Stored) → Counts n h → Among h i → i.entry.version ≤ n + length h
counted_up n [] i c a = absurd (among_none i a)
counted_up n (x ∷ h) i c a = grind (arith, among_cons x h i a, counted_up (n + 1) h i c.1, c.0)

pub one_version : (n : ℕ) (h : List Stored) (i o : Stored) → Counts n h → Among h i → Among h o → i.entry.version ≡ o.entry.version → i ≡ o
one_version n [] i o c a b e = absurd (among_none i a)
one_version n (x ∷ h) i o c a b e =
    grind (arith, among_cons x h i a, among_cons x h o b, above (n + 1) h i c.1, above (n + 1) h o c.1, c.0, one_version (n + 1) h i o c.1)

pub Counts-push : (n : ℕ) (h : List Stored) (i : Stored) → Counts n h → i.entry.version ≡ n + length h + 1 → Counts n (h ++ i ∷ [])
Counts-push n [] i c e = (grind arith, tt)
Counts-push n (x ∷ h) i c e = (c.0, Counts-push (n + 1) h i c.1 (grind arith))

is_at_version : (v : ℕ) (i : Stored) → (i.entry.version == v) ≡ true → i.entry.version ≡ v
is_at_version v i e = grind (arith, nat_tests)

pub item_at-is : (v : ℕ) (h : List Stored) (i : Stored) → item_at v h ≡ Some i → Among h i × (i.entry.version ≡ v)
item_at-is v h i at = let k = among_found (λ (x : Stored). x.entry.version == v) h i at in (k.0, is_at_version v i k.1)

pub item_at-none : (v : ℕ) (h : List Stored) (o : Stored) → item_at v h ≡ None → Among h o → o.entry.version ≡ v → ⊥
item_at-none v h o none a e =
    let k = find_some (λ (x : Stored). x.entry.version == v) h o a (grind (arith, nat_tests)) in
    absurd (let both : Some k.0 ≡ None = sym k.1 ∙ none in cc)

-- behind counted items nothing has a version up to where they begin
pub pushed_at : (n : ℕ) (h : List Stored) (i : Stored) → Counts n h → i.entry.version ≡ n + length h + 1 → item_at i.entry.version (h ++ i ∷ []) ≡ Some i
pushed_at n [] i c e = grind (arith, nat_tests)
pushed_at n (x ∷ h) i c e = grind (arith, nat_tests, pushed_at (n + 1) h i c.1)

-- ---- the last item of a row, or of a client on it

pub last_most : (p : Stored → Bool) (n : ℕ) (h : List Stored) (z o : Stored) → Counts n h → last_where p h ≡ Some z → Among h o → p o ≡ true
    → o.entry.version ≤ z.entry.version
last_most p n [] z o c at a is = absurd (among_none o a)
last_most p n (x ∷ h) z o c at a is =
    later (λ w e b. last_most p (n + 1) h w o c.1 e b is) (last_where p h) refl (sym (last_where-cons p x h) ∙ at) (among_cons x h o a)
  where
    later : ((w : Stored) → last_where p h ≡ Some w → Among h o → o.entry.version ≤ w.entry.version) → (q : Option Stored) → last_where p h ≡ q
        → option_or q (cond (p x) (Some x) None) ≡ Some z → (x ≡ o) ⊎ Among h o → o.entry.version ≤ z.entry.version
    later f (Some w) e same (inl here) = grind (arith, above (n + 1) h w c.1 (among_last p h w e).0, c.0)
    later f (Some w) e same (inr there) = grind (arith, f w e there)
    later f None e same (inl here) = let px : p x ≡ true = rw here is in let k : Some x ≡ Some z = rw px at same in let e2 : x ≡ z = cc in grind (arith, e2, here)
    later f None e same (inr there) = absurd (let k = last_some p h o there is in let both : Some k.0 ≡ None = sym k.1 ∙ e in cc)

of_row : (row : List ℕ) (i : Stored) → is_of_row row i ≡ true → i.entry.row ≡ row
of_row row i e = same_row-is i.entry.row row e

is_row : (row : List ℕ) (i : Stored) → i.entry.row ≡ row → is_of_row row i ≡ true
is_row row i e = rw e (same_row-refl row)

pub current_is : (h : List Stored) (row : List ℕ) (z : Stored) → current_of h row ≡ Some z → Among h z × (z.entry.row ≡ row)
current_is h row z at = let k = among_last (is_of_row row) h z at in (k.0, of_row row z k.1)

pub current_none : (h : List Stored) (row : List ℕ) (o : Stored) → current_of h row ≡ None → Among h o → o.entry.row ≢ row
current_none h row o none a = λ e.
    absurd (let k = last_some (is_of_row row) h o a (is_row row o e) in let both : Some k.0 ≡ None = sym k.1 ∙ none in cc)

-- no item of a row has a version above its last one's
pub latest_most : (h : List Stored) (o : Stored) → Counts 0 h → Among h o → o.entry.version ≤ latest h o.entry.row
latest_most h o c a = go (current_of h o.entry.row) refl
  where
    go : (q : Option Stored) → current_of h o.entry.row ≡ q → o.entry.version ≤ version_of q
    go (Some z) at = last_most (is_of_row o.entry.row) 0 h z o c at a (is_row o.entry.row o refl)
    go None at = absurd (current_none h o.entry.row o at a refl)

-- the last version is an item's, where it isn't 0
pub latest_item : (h : List Stored) (row : List ℕ) → 0 < latest h row → (i : Stored) × IsItemAt h row (latest h row) i
latest_item h row = go (current_of h row) refl
  where
    go : (q : Option Stored) → current_of h row ≡ q → 0 < version_of q → (i : Stored) × IsItemAt h row (version_of q) i
    go (Some z) at less = let k = current_is h row z at in (z, record { stands = k.0; row_is = k.1; version_is = refl })
    go None at less = absurd (omega arith)

pub base_low : (h : List Stored) (row : List ℕ) (base : ℕ) → Counts 0 h → IsBase h row base → base ≤ latest h row
base_low h row base c (inl zero) = grind (arith, zero)
base_low h row base c (inr k) =
    let low : k.0.entry.version ≤ latest h k.0.entry.row = latest_most h k.0 c k.1.stands in
    let here : k.0.entry.version ≤ latest h row = subst (λ (r : List ℕ). k.0.entry.version ≤ latest h r) k.1.row_is low in
    grind (arith, here, k.1.version_is)

pub latest-push : (h : List Stored) (i : Stored) (row : List ℕ) → latest (h ++ i ∷ []) row ≡ (if same_row i.entry.row row then i.entry.version else latest h row)
latest-push h i row = ap version_of (last_where-push (is_of_row row) h i) ∙ both (same_row i.entry.row row)
  where
    both : (b : Bool) → version_of (cond b (Some i) (current_of h row)) ≡ (if b then i.entry.version else latest h row)
    both true = refl
    both false = refl

-- ---- a client's last pair on a row

by_is : (c : ℕ) (row : List ℕ) (i : Stored) → is_by c row i ≡ true → (i.entry.client ≡ c) × (i.entry.row ≡ row)
by_is c row i e = grind (arith, nat_tests, same_row_tells i.entry.row row)

is_by-own : (c : ℕ) (row : List ℕ) (i : Stored) → i.entry.client ≡ c → i.entry.row ≡ row → is_by c row i ≡ true
is_by-own c row i client same = grind (arith, nat_tests, same_row_tells i.entry.row row)

pub own_is : (c : ℕ) (row : List ℕ) (h : List Stored) (i : Stored) → last_where (is_by c row) h ≡ Some i → Among h i × (i.entry.client ≡ c) × (i.entry.row ≡ row)
own_is c row h i at = let k = among_last (is_by c row) h i at in let m = by_is c row i k.1 in (k.0, m.0, m.1)

pub own_none : (c : ℕ) (row : List ℕ) (h : List Stored) (o : Stored) → last_where (is_by c row) h ≡ None → Among h o → o.entry.client ≡ c → o.entry.row ≢ row
own_none c row h o none a client = λ same.
    absurd (let k = last_some (is_by c row) h o a (is_by-own c row o client same) in let both : Some k.0 ≡ None = sym k.1 ∙ none in cc)

pub own_last : (c : ℕ) (row : List ℕ) (h : List Stored) (i o : Stored) → Counts 0 h → last_where (is_by c row) h ≡ Some i → Among h o → o.entry.client ≡ c → o.entry.row ≡ row
    → o.entry.version ≤ i.entry.version
own_last c row h i o k at a client same = last_most (is_by c row) 0 h i o k at a (is_by-own c row o client same)

-- ---- the next change

-- what a table tells of the change behind a position: an item, the last of its row, the only row that changed last between
pub record IsNextChange (p : ℕ) (h : List Stored) (s : Stored) : Type 0 where
  pub stands : Among h s
  pub above_p : p < s.entry.version
  pub last : latest h s.entry.row ≡ s.entry.version
  pub others : (row : List ℕ) → latest h row ≤ s.entry.version → (row ≡ s.entry.row) ⊎ (latest h row ≤ p)

latest-cons : (x : Stored) (h : List Stored) (row : List ℕ)
    → ((z : Stored) × (current_of h row ≡ Some z) × (latest (x ∷ h) row ≡ latest h row))
    ⊎ ((current_of h row ≡ None) × (((x.entry.row ≡ row) × (latest (x ∷ h) row ≡ x.entry.version)) ⊎ ((x.entry.row ≢ row) × (latest (x ∷ h) row ≡ 0))))
latest-cons x h row = go (current_of h row) refl (ap version_of (last_where-cons (is_of_row row) x h))
  where
    one : (b : Bool) → same_row x.entry.row row ≡ b → latest (x ∷ h) row ≡ version_of (cond b (Some x) None)
        → ((x.entry.row ≡ row) × (latest (x ∷ h) row ≡ x.entry.version)) ⊎ ((x.entry.row ≢ row) × (latest (x ∷ h) row ≡ 0))
    one true is e = inl (same_row-is x.entry.row row is, e)
    one false is e = inr ((λ same. true≢false (sym (is_row row x same) ∙ is)), e)

    go : (q : Option Stored) → current_of h row ≡ q → latest (x ∷ h) row ≡ version_of (option_or q (cond (same_row x.entry.row row) (Some x) None))
        → ((z : Stored) × (current_of h row ≡ Some z) × (latest (x ∷ h) row ≡ latest h row))
        ⊎ ((current_of h row ≡ None) × (((x.entry.row ≡ row) × (latest (x ∷ h) row ≡ x.entry.version)) ⊎ ((x.entry.row ≢ row) × (latest (x ∷ h) row ≡ 0))))
    go (Some z) at e = inl (z, at, e ∙ sym (ap version_of at))
    go None at e = inr (at, one (same_row x.entry.row row) refl e)

any_none : (row : List ℕ) (h : List Stored) → list_any (is_of_row row) h ≡ false → current_of h row ≡ None
any_none row h e = go (current_of h row) refl
  where
    any_some : (xs : List Stored) (z : Stored) → Among xs z → is_of_row row z ≡ true → list_any (is_of_row row) xs ≡ true
    any_some [] z a is = absurd (among_none z a)
    any_some (y ∷ ys) z a is = grind (arith, among_cons y ys z a, any_some ys z)

    go : (q : Option Stored) → current_of h row ≡ q → current_of h row ≡ None
    go None at = at
    go (Some z) at = let k = among_last (is_of_row row) h z at in absurd (true≢false (sym (any_some h z k.0 k.1) ∙ e))

none_any : (row : List ℕ) (h : List Stored) → current_of h row ≡ None → list_any (is_of_row row) h ≡ false
none_any row h none = go h (λ o a. current_none h row o none a)
  where
    go : (xs : List Stored) → ((o : Stored) → Among xs o → o.entry.row ≢ row) → list_any (is_of_row row) xs ≡ false
    go [] f = refl
    go (y ∷ ys) f =
        let apart : y.entry.row ≢ row = f y (among_here y ys) in
        grind (arith, same_row_tells y.entry.row row, apart, go ys (λ o a. f o (among_next y ys o a)))

pub next_is : (p n : ℕ) (h : List Stored) (s : Stored) → Counts n h → next_changed p h ≡ Some s → IsNextChange p h s
next_is p n [] s c at = absurd cc
next_is p n (x ∷ h) s c at = go (nat_lt p x.entry.version && not (list_any (is_of_row x.entry.row) h)) refl at (λ e. next_is p (n + 1) h s c.1 e)
  where
    higher : (row : List ℕ) (z : Stored) → current_of h row ≡ Some z → x.entry.version < latest h row
    higher row z e = rw e (grind (arith, above (n + 1) h z c.1 (current_is h row z e).0, c.0))

    go : (b : Bool) → (nat_lt p x.entry.version && not (list_any (is_of_row x.entry.row) h)) ≡ b → (if b then Some x else next_changed p h) ≡ Some s
        → (next_changed p h ≡ Some s → IsNextChange p h s) → IsNextChange p (x ∷ h) s
    go true is e f =
        let same : x ≡ s = cc in
        let none : current_of h x.entry.row ≡ None = any_none x.entry.row h (grind (arith, nat_tests, is)) in
        subst (λ (y : Stored). IsNextChange p (x ∷ h) y) same (record {
          stands = among_here x h;
          above_p = grind (arith, nat_tests, is);
          last = ⊎_elim (λ k. absurd (let both : Some k.0 ≡ None = sym k.1 ∙ none in cc)) (λ k. ⊎_elim (λ y. y.1) (λ y. absurd (y.0 refl)) k.1) (latest-cons x h x.entry.row);
          others = λ row low. ⊎_elim (λ k. absurd (let up = higher row k.0 k.1 in let e2 = k.2 in omega arith))
              (λ k. ⊎_elim (λ y. inl (sym y.0)) (λ y. inr (let e2 = y.1 in omega arith)) k.1) (latest-cons x h row);
        })
    go false is e f =
        let k = f e in
        let there : x.entry.version < s.entry.version = grind (arith, above (n + 1) h s c.1 k.stands, c.0) in
        record {
          stands = among_next x h s k.stands;
          above_p = k.above_p;
          last = ⊎_elim (λ m. m.2 ∙ k.last) (λ m. absurd (current_none h s.entry.row s m.0 k.stands refl)) (latest-cons x h s.entry.row);
          others = λ row low. ⊎_elim
              (λ m. let w : (row ≡ s.entry.row) ⊎ (latest h row ≤ p) = k.others row (let e2 = m.2 in omega arith) in ⊎_elim (λ y. inl y) (λ y. inr (let e2 = m.2 in omega arith)) w)
              (λ m. ⊎_elim (λ y. inr (low_enough row m.0 y.0 y.1)) (λ y. inr (let e2 = y.1 in omega arith)) m.1) (latest-cons x h row);
        }
      where
        low_enough : (row : List ℕ) → current_of h row ≡ None → x.entry.row ≡ row → latest (x ∷ h) row ≡ x.entry.version → latest (x ∷ h) row ≤ p
        low_enough row none same e2 = grind (arith, nat_tests, is, e2, none_any x.entry.row h (rw same none))
