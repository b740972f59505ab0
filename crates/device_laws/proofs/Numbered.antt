-- Items by their versions, and the last item of a row.
use Rattle.std.proofs.Common.{◌≡◌, ℕ, ◌+◌, ◌<◌, ◌≤◌, Bool, true, false, cond, List, [], ◌∷◌, ◌++◌, length, Option, Some, None, ◌∙◌, ap, subst, arith}
use Rattle.std.specs.Option.{option_or}
use Rattle.table_model.specs.History.{same_row}
use Rattle.step_tables.specs.Store.{Stored, current_of, is_of_row}
use Rattle.step_tables.specs.Members.{Among}
use Rattle.step_tables.proofs.Lists.{among_none, among_cons, among_last, last_where-cons, last_where-push, same_row-is, same_row-refl}
use Rattle.device_laws.specs.Stands.{AreNumbered}

-- ---- versions

pub numbered_above : (n : ℕ) (items : List Stored) (i : Stored) → AreNumbered n items → Among items i → n < i.entry.version
numbered_above n [] i c a = absurd (among_none i a)
numbered_above n (x ∷ h) i c a = grind (arith, among_cons x h i a, numbered_above (n + 1) h i c.1, c.0)

pub numbered_most : (n : ℕ) (items : List Stored) (i : Stored) → AreNumbered n items → Among items i → i.entry.version ≤ n + length items
numbered_most n [] i c a = absurd (among_none i a)
numbered_most n (x ∷ h) i c a = grind (arith, among_cons x h i a, numbered_most (n + 1) h i c.1, c.0)

pub one_version : (n : ℕ) (items : List Stored) (i o : Stored) → AreNumbered n items → Among items i → Among items o → i.entry.version ≡ o.entry.version → i ≡ o
one_version n [] i o c a b e = absurd (among_none i a)
one_version n (x ∷ h) i o c a b e =
    grind (arith, among_cons x h i a, among_cons x h o b, numbered_above (n + 1) h i c.1, numbered_above (n + 1) h o c.1, c.0, one_version (n + 1) h i o c.1)

pub numbered_push : (n : ℕ) (items : List Stored) (i : Stored) → AreNumbered n items → i.entry.version ≡ n + length items + 1 → AreNumbered n (items ++ i ∷ [])
numbered_push n [] i c e = (grind arith, tt)
numbered_push n (x ∷ h) i c e = (c.0, numbered_push (n + 1) h i c.1 (grind arith))

-- ---- the last item of a row

pub current_row : (items : List Stored) (row : List ℕ) (i : Stored) → current_of items row ≡ Some i → Among items i × (i.entry.row ≡ row)
current_row items row i at = let k = among_last (is_of_row row) items i at in (k.0, same_row-is i.entry.row row k.1)

pub current_own : (items : List Stored) (i : Stored) (row : List ℕ) → i.entry.row ≡ row → current_of (items ++ i ∷ []) row ≡ Some i
current_own items i row is =
    last_where-push (is_of_row row) items i ∙ ap (λ (b : Bool). cond b (Some i) (current_of items row)) (subst (λ (r : List ℕ). same_row i.entry.row r ≡ true) is (same_row-refl i.entry.row))

pub current_other : (items : List Stored) (i : Stored) (row : List ℕ) → same_row i.entry.row row ≡ false → current_of (items ++ i ∷ []) row ≡ current_of items row
current_other items i row other = last_where-push (is_of_row row) items i ∙ ap (λ (b : Bool). cond b (Some i) (current_of items row)) other

-- the last item of all is the last of its row
pub last_item : (n : ℕ) (x : Stored) (items : List Stored) → AreNumbered n (x ∷ items)
    → (i : Stored) × (current_of (x ∷ items) i.entry.row ≡ Some i) × (i.entry.version ≡ n + length (x ∷ items))
last_item n x [] c =
    (x, last_where-cons (is_of_row x.entry.row) x [] ∙ ap (λ (b : Bool). cond b (Some x) None) (same_row-refl x.entry.row), omega (arith, c.0))
last_item n x (y ∷ items) c =
    let r = last_item (n + 1) y items c.1 in
    (r.0, last_where-cons (is_of_row r.0.entry.row) x (y ∷ items) ∙ ap (λ (o : Option Stored). option_or o (cond (same_row x.entry.row r.0.entry.row) (Some x) None)) r.1, omega (arith, r.2))
