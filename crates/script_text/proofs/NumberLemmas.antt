-- The numbers of columns by their names.
use Rattle.std.proofs.Common.{◌≡◌, ℕ, ◌+◌, ◌<◌, Bool, true, false, cond, List, [], ◌∷◌, ◌++◌, length, take, get_or, Option, Some, None, refl, sym, ap, ◌∙◌, inl, inr, arith, true≢false}
use Rattle.std.specs.Prelude.{is_some, Vec}
use Rattle.std.specs.Ordering.{nat_cmp, match_ordering}
use Rattle.std.specs.declared.cmp.Ordering.{Ordering}
use Rattle.std.specs.declared.cmp.Ordering.TheVariants.{Less, Equal, Greater}
use Rattle.std.specs.Cmp.Lexicographic.{slice_cmp}
use Rattle.std.specs.BTreeMap.{is_at, insert_entry}
use Rattle.std.specs.List.{position_from}
use Rattle.std.specs.Str.{bytes_eq}
use Rattle.std.proofs.lemmas.Bool.{cases_Bool}
use Rattle.std.proofs.lemmas.List.{take_more, length-take-le}
use Rattle.std.proofs.lemmas.Slice.Eq.{bytes_eq-Decides}
use Rattle.row_value.specs.declared.schema.Column.{Column}
use Rattle.script_text.specs.Names.{column_number, number_in, with_number, FindsColumns}
use Rattle.script_text.proofs.Distinct.{by_bytes, equal_keys}

same_word : (w name : List ℕ) → bytes_eq w name ≡ true → w ≡ name
same_word w name e = (bytes_eq-Decides w name).0 e

-- ---- a name that gets a number

module _ {A : Type 0} (w : List ℕ) (k : Vec ℕ A) (n : ℕ) where
  there : (e : Vec ℕ A × ℕ) (es : List (Vec ℕ A × ℕ)) (o : Ordering) → slice_cmp nat_cmp k.items e.0.items ≡ o
      → number_in (insert_entry (λ a b. slice_cmp nat_cmp a.items b.items) es k n) w ≡ cond (bytes_eq w k.items) (Some n) (number_in es w)
      → number_in (match_ordering o ((k, n) ∷ e ∷ es) ((e.0, n) ∷ es) (e ∷ insert_entry (λ a b. slice_cmp nat_cmp a.items b.items) es k n)) w
      ≡ cond (bytes_eq w k.items) (Some n) (number_in (e ∷ es) w)
  there e es Less is more = rw (by_bytes w k.items) refl
  there e es Equal is more =
      rw (by_bytes w e.0.items, sym (equal_keys k.items e.0.items is)) (twice (bytes_eq w k.items) (number_in es w))
    where
      twice : (b : Bool) (o : Option ℕ) → cond b (Some n) o ≡ cond b (Some n) (cond b (Some e.1) o)
      twice true o = refl
      twice false o = refl
  there e es Greater is more = rw (by_bytes w e.0.items, more) (either (bytes_eq w e.0.items) (bytes_eq w k.items) (λ a b. apart a b)) where
    apart : bytes_eq w e.0.items ≡ true → bytes_eq w k.items ≡ true → ⊥
    apart a b =
        let same : bytes_eq k.items e.0.items ≡ true = (bytes_eq-Decides k.items e.0.items).1 (sym (same_word w k.items b) ∙ same_word w e.0.items a) in
        let other : is_at (slice_cmp nat_cmp k.items) e.0.items ≡ false = rw is refl in
        true≢false (sym same ∙ sym (by_bytes k.items e.0.items) ∙ other)

    either : (a b : Bool) → (a ≡ true → b ≡ true → ⊥) → cond a (Some e.1) (cond b (Some n) (number_in es w)) ≡ cond b (Some n) (cond a (Some e.1) (number_in es w))
    either true true h = absurd (h refl refl)
    either true false h = refl
    either false b h = refl

  inserted : (es : List (Vec ℕ A × ℕ)) → number_in (insert_entry (λ a b. slice_cmp nat_cmp a.items b.items) es k n) w ≡ cond (bytes_eq w k.items) (Some n) (number_in es w)
  inserted [] = rw (by_bytes w k.items) refl
  inserted (e ∷ es) = there e es (slice_cmp nat_cmp k.items e.0.items) refl (inserted es)

module _ {A : Type 0} (es : List (Vec ℕ A × ℕ)) (name : List ℕ) (n : ℕ) where
  -- a name that has a number keeps it
  pub kept-number : is_some (number_in es name) ≡ true → (w : List ℕ) → number_in es w ≡ with_number (number_in es w) name n w
  kept-number some w = chosen (number_in es w) refl where
    chosen : (o : Option ℕ) → number_in es w ≡ o → o ≡ with_number o name n w
    chosen (Some m) is = refl
    chosen None is = elim (cases_Bool (bytes_eq w name)) [
      | inl same ↦ absurd (true≢false (sym some ∙ ap (λ (word : List ℕ). is_some (number_in es word)) (sym (same_word w name same)) ∙ ap is_some is))
      | inr other ↦ rw other refl
    ]

  -- a name that has none gets this one
  pub new-number : (k : Vec ℕ A) → k.items ≡ name → is_some (number_in es name) ≡ false → (w : List ℕ)
      → number_in (insert_entry (λ a b. slice_cmp nat_cmp a.items b.items) es k n) w ≡ with_number (number_in es w) name n w
  new-number k is none w = inserted w k n es ∙ ap (λ (t : List ℕ). cond (bytes_eq w t) (Some n) (number_in es w)) is ∙ chosen (number_in es w) refl where
    chosen : (o : Option ℕ) → number_in es w ≡ o → cond (bytes_eq w name) (Some n) o ≡ with_number o name n w
    chosen None has = refl
    chosen (Some m) has = elim (cases_Bool (bytes_eq w name)) [
      | inl same ↦ absurd (true≢false (sym (ap is_some has) ∙ ap (λ (word : List ℕ). is_some (number_in es word)) (same_word w name same) ∙ none))
      | inr other ↦ rw other refl
    ]

-- ---- one column more

pushed : (w : List ℕ) (columns : List Column) (column : Column) (from : ℕ)
    → position_from (λ (c : Column). bytes_eq w c.name) from (columns ++ column ∷ [])
    ≡ with_number (position_from (λ (c : Column). bytes_eq w c.name) from columns) column.name (from + length columns) w
pushed w [] column from = let same : from ≡ from + 0 = omega arith in ap (λ (n : ℕ). cond (bytes_eq w column.name) (Some n) None) same
pushed w (first ∷ columns) column from = elim (cases_Bool (bytes_eq w first.name)) [
  | inl is ↦ rw is refl
  | inr other ↦
      let count : (from + 1) + length columns ≡ from + length (first ∷ columns) = omega arith in
      rw other (pushed w columns column (from + 1) ∙ ap (λ (n : ℕ). with_number (position_from (λ (c : Column). bytes_eq w c.name) (from + 1) columns) column.name n w) count)
]

last-pushed : (columns : List Column) (column : Column) (w : List ℕ) (n : ℕ) → length columns ≡ n → column_number (columns ++ column ∷ []) w ≡ with_number (column_number columns w) column.name n w
last-pushed columns column w n count =
    let same : 0 + length columns ≡ n = omega (arith, count) in
    pushed w columns column 0 ∙ ap (λ (m : ℕ). with_number (column_number columns w) column.name m w) same

pub finds-more : {A : Type 0} (old new : List (Vec ℕ A × ℕ)) (columns : List Column) (i : ℕ) (d column : Column) → i < length columns → get_or columns i d ≡ column → FindsColumns old (take i columns)
    → ((w : List ℕ) → number_in new w ≡ with_number (number_in old w) column.name i w) → FindsColumns new (take (i + 1) columns)
finds-more old new columns i d column within is had put = λ w.
    let count : length (take i columns) ≡ i = length-take-le i columns (omega (arith, within)) in
    let one : with_number (number_in old w) column.name i w ≡ with_number (column_number (take i columns) w) column.name i w = ap (λ (o : Option ℕ). with_number o column.name i w) (had w) in
    let more : take i columns ++ column ∷ [] ≡ take (i + 1) columns = ap (λ (c : Column). take i columns ++ c ∷ []) (sym is) ∙ sym (take_more columns i d within) in
    put w ∙ one ∙ sym (last-pushed (take i columns) column w i count) ∙ ap (λ (cs : List Column). column_number cs w) more
