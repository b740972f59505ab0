-- The rows that a tree lacks, as it takes one after the other.
use Rattle.std.proofs.Common.{◌≡◌, ℕ, ◌+◌, ◌<◌, Bool, true, false, cond, not, ◌&&◌, List, [], ◌∷◌, length, drop, get_or, refl, sym, ap, subst, ◌∙◌, arith}
use Rattle.std.specs.Prelude.{filter}
use Rattle.std.specs.List.{list_any}
use Rattle.std.specs.Ordering.{nat_cmp}
use Rattle.std.specs.Cmp.Lexicographic.{slice_cmp}
use Rattle.std.specs.BTreeMap.{is_at}
use Rattle.std.specs.BTreeSet as tree
use Rattle.std.specs.BTreeSet.{BTreeSet, btree_set_len}
use Rattle.std.proofs.lemmas.List.{drop_more}
use Rattle.table_model.specs.History.{same_row}
use Rattle.table_model.specs.declared.entry.Entry.{Entry}
use Rattle.run_report.specs.Rows.{rows_in}

abbrev pub has : BTreeSet (List ℕ) → List ℕ → Bool
has set row = tree.contains (slice_cmp nat_cmp) set row

-- the rows of entries that the tree doesn't have
abbrev pub lacking : BTreeSet (List ℕ) → List Entry → List (List ℕ)
lacking set entries = filter (λ row. not (has set row)) (rows_in entries)

none_there : (rows : List (List ℕ)) → filter (λ row. not (list_any (is_at (slice_cmp nat_cmp row)) [])) rows ≡ rows
none_there [] = refl
none_there (row ∷ rows) = ap (λ (more : List (List ℕ)). row ∷ more) (none_there rows)

pub all_lack : (set : BTreeSet (List ℕ)) → set.keys ≡ [] → (rows : List (List ℕ)) → filter (λ row. not (has set row)) rows ≡ rows
all_lack set e rows = subst (λ (keys : List (List ℕ)). filter (λ row. not (list_any (is_at (slice_cmp nat_cmp row)) keys)) rows ≡ rows) (sym e) (none_there rows)

passes : {X : Type 0} (p : X → Bool) (x : X) (ys zs : List X) → filter p ys ≡ zs → (a c : Bool) → c ≡ (a && p x)
    → filter p (cond a (x ∷ ys) ys) ≡ cond c (x ∷ zs) zs
passes p x ys zs h true c e = rw (e, h) refl
passes p x ys zs h false c e = rw e h

-- a filter behind a filter
filter_twice : {X : Type 0} (p q r : X → Bool) → ((x : X) → r x ≡ (q x && p x)) → (xs : List X) → filter p (filter q xs) ≡ filter r xs
filter_twice p q r h [] = refl
filter_twice p q r h (x ∷ xs) = passes p x (filter q xs) (filter r xs) (filter_twice p q r h xs) (q x) (r x) (h x)

neither : (a b c : Bool) → c ≡ cond a true b → not c ≡ (not a && not b)
neither true b c e = ap not e
neither false b c e = ap not e

length_if : {X : Type 0} (b : Bool) (x : X) (xs : List X) → length (cond b (x ∷ xs) xs) ≡ cond b 1 0 + length xs
length_if true x xs = omega arith
length_if false x xs = omega arith

sums : (new old one all rest lack : ℕ) → new ≡ old + one → all ≡ one + rest → rest ≡ lack → new + lack ≡ old + all
sums new old one all rest lack a b c = omega (arith, a, b, c)

taken : (entry : Entry) (later : List Entry) (old new : BTreeSet (List ℕ)) (added : Bool) → added ≡ not (has old entry.row)
    → tree.Updates (slice_cmp nat_cmp) old new entry.row true → btree_set_len new ≡ btree_set_len old + cond added 1 0
    → btree_set_len new + length (lacking new later) ≡ btree_set_len old + length (lacking old (entry ∷ later))
taken entry later old new added is updates more =
    let rest = filter (λ row. not (has old row)) (filter (λ row. not (same_row entry.row row)) (rows_in later)) in
    let same : rest ≡ lacking new later = filter_twice (λ row. not (has old row)) (λ row. not (same_row entry.row row)) (λ row. not (has new row))
    (λ row. neither (same_row entry.row row) (has old row) (has new row) (updates.0 row)) (rows_in later) in
    sums (btree_set_len new) (btree_set_len old) (cond (not (has old entry.row)) 1 0) _ (length rest) (length (lacking new later))
    (more ∙ ap (λ (b : Bool). btree_set_len old + cond b 1 0) is) (length_if (not (has old entry.row)) entry.row rest) (ap length same)

pub counted : (history : List Entry) (i : ℕ) (entry d : Entry) (old new : BTreeSet (List ℕ)) (added : Bool) (count : ℕ) → i < length history
    → entry ≡ get_or history i d → added ≡ not (has old entry.row) → tree.Updates (slice_cmp nat_cmp) old new entry.row true
    → btree_set_len new ≡ btree_set_len old + cond added 1 0 → btree_set_len old + length (lacking old (drop i history)) ≡ count
    → btree_set_len new + length (lacking new (drop (i + 1) history)) ≡ count
counted history i entry d old new added count lt here is updates more before =
    taken entry (drop (i + 1) history) old new added is updates more
    ∙ ap (λ (e : Entry). btree_set_len old + length (lacking old (e ∷ drop (i + 1) history))) here
    ∙ ap (λ (es : List Entry). btree_set_len old + length (lacking old es)) (sym (drop_more history i d lt))
    ∙ before

pub begun : (set : BTreeSet (List ℕ)) (history : List Entry) → set.keys ≡ [] → btree_set_len set ≡ 0
    → btree_set_len set + length (lacking set (drop 0 history)) ≡ length (rows_in history)
begun set history empty none = omega (arith, none, ap length (all_lack set empty (rows_in history)))
