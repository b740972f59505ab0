-- The word that the reader can't take is the first at which no predicate goes on.
use Rattle.std.proofs.Common.{◌≡◌, ℕ, zero, suc, ◌+◌, ◌<◌, ◌≤◌, true, false, ltb, List, [], ◌∷◌, ◌++◌, codes, length, take, drop, true≢false}
use Rattle.std.proofs.Common.{Option, Some, None, Result, Ok, Err, refl, sym, ap, ◌∙◌, subst, inl, inr, arith, append_assoc, length-append}
use Rattle.std.specs.Prelude.{◌⊎◌}
use Rattle.std.proofs.lemmas.Bool.{cases_Bool, ltb-true, ltb-false}
use Rattle.std.proofs.lemmas.List.{append-nil}
use Rattle.row_value.specs.declared.schema.ColumnKind.{ColumnKind}
use Rattle.row_value.specs.declared.schema.Schema.{Schema}
use Rattle.script_words.proofs.Parts.{some_same, none_some}
use Rattle.select_lang.specs.declared.predicate.Comparison.{Comparison}
use Rattle.select_lang.specs.declared.predicate.Comparison.TheVariants.{Equal}
use Rattle.select_lang.specs.declared.reader.Next.{Next}
use Rattle.select_lang.specs.declared.reader.Next.TheVariants.{Test, NotOrColumn, Operator, Value, Join}
use Rattle.select_lang.specs.Formula.{Formula, Compares}
use Rattle.select_lang.specs.Level.{Open, with_test, predicate_in}
use Rattle.select_lang.specs.Words.{comparison_word, column_at}
use Rattle.select_lang.specs.Grammar.{Parted, SpellsAll, SpellsAny, SpellsTest, SpellsFormula, GoesOn, StopsAt, IsBadWord, most_nested}
use Rattle.select_lang.specs.Machine.{State, state, start, read, ended, or_at, told, read_all, has_tests, parsed}
use Rattle.select_lang.proofs.Runs.{run, behind-some, run-append, run-step, column-read, operator-read, value-read, close-read, IsBehindName, predicate-run}
use Rattle.select_lang.proofs.Trails.{Stands, Here, stands_at_start, stands-run, stands-ended}
use Rattle.select_lang.proofs.WordLaws.{a_value, column_at-cell, column_at-has, has_tests-column, comparison_at-word}

-- ---- from every state some words lead to an end

abbrev pub Ends : Schema → State → Type 0
Ends schema s = (rest : List (List ℕ)) × (t : State) × (f : Formula) × (run schema s rest ≡ Some t) × (ended t ≡ Some f)

before : (schema : Schema) (s t : State) (word : List ℕ) → read schema s word ≡ Some t → Ends schema t → Ends schema s
before schema s t word is h = (word ∷ h.0, h.1, h.2, run-step schema s t word h.0 is ∙ h.3, h.4)

join_ends : (schema : Schema) (outer : List Open) (o : Open) → Ends schema (state outer o Join)
unfolding ended
join_ends schema [] o = ([], state [] o Join, predicate_in o, refl, refl)
join_ends schema (p ∷ outer) o = before schema _ _ (codes ")") (close-read schema outer p o) (join_ends schema outer (with_test p (predicate_in o)))

value_ends : (schema : Schema) (outer : List Open) (o : Open) (column : List ℕ) (p : ℕ × ColumnKind) (c : Comparison) → column_at schema column ≡ Some p → Ends schema (state outer o (Value p.0 p.1 c))
value_ends schema outer o column p c named =
    let v = a_value p.1 (column_at-cell schema column p named) in
    before schema _ _ v.0 (value-read schema outer o p.0 p.1 c v.0 v.1 v.2) (join_ends schema outer (with_test o (Compares p.0 c v.1)))

operator_ends : (schema : Schema) (outer : List Open) (o : Open) (next : Next) (column : List ℕ) (p : ℕ × ColumnKind) → IsBehindName p.0 p.1 next → column_at schema column ≡ Some p
    → Ends schema (state outer o next)
operator_ends schema outer o next column p is named =
    before schema _ _ (comparison_word Equal) (operator-read schema outer o next p.0 p.1 Equal (comparison_word Equal) is (comparison_at-word Equal)) (value_ends schema outer o column p Equal named)

test_begins : (schema : Schema) (outer : List Open) (o : Open) → has_tests schema ≡ true → Ends schema (state outer o Test)
test_begins schema outer o has =
    let named = has_tests-column schema has in
    let c = column-read schema outer o named.0 named.1 named.2 in
    before schema _ _ named.0 c.1 (operator_ends schema outer o c.0 named.0 named.1 c.2 named.2)

state_ends : (schema : Schema) (outer : List Open) (o : Open) (next : Next) (here : List (List ℕ)) → has_tests schema ≡ true → Here schema o next here → Ends schema (state outer o next)
state_ends schema outer o Test here has h = test_begins schema outer o has
state_ends schema outer o (NotOrColumn number kind) here has h = operator_ends schema outer o (NotOrColumn number kind) (codes "not") (number, kind) (inr refl) h.3
state_ends schema outer o (Operator number kind) here has h = operator_ends schema outer o (Operator number kind) h.1 (number, kind) (inl refl) h.4
state_ends schema outer o (Value number kind c) here has h = value_ends schema outer o h.1 (number, kind) c h.4
state_ends schema outer o Join here has h = join_ends schema outer o

-- words that were read go on to a predicate
stands-goes_on : (schema : Schema) (words : List (List ℕ)) (s : State) → has_tests schema ≡ true → Stands schema words s → GoesOn schema words
stands-goes_on schema words s has h =
    let e = state_ends schema s.outer s.inner s.next h.here has h.inner in
    (e.0, e.2, stands-ended schema (words ++ e.0) e.1 e.2 (stands-run schema e.0 words s e.1 h e.3) e.4)

run-goes_on : (schema : Schema) (words : List (List ℕ)) (t : State) → has_tests schema ≡ true → run schema (start most_nested) words ≡ Some t → GoesOn schema words
run-goes_on schema words t has e = stands-goes_on schema words t has (stands-run schema words [] (start most_nested) t (stands_at_start schema) e)

-- ---- fronts

split : (words : List (List ℕ)) (k : ℕ) → words ≡ take k words ++ drop k words
split [] zero = refl
split [] (suc k) = refl
split (word ∷ words) zero = refl
split (word ∷ words) (suc k) = ap (λ (ws : List (List ℕ)). word ∷ ws) (split words k)

front_goes_on : (schema : Schema) (words : List (List ℕ)) (k : ℕ) → GoesOn schema words → GoesOn schema (take k words)
front_goes_on schema words k h =
    let text : words ++ h.0 ≡ take k words ++ (drop k words ++ h.0) = ap (λ (ws : List (List ℕ)). ws ++ h.0) (split words k) ∙ append_assoc (take k words) (drop k words) h.0 in
    (drop k words ++ h.0, h.1, subst (λ (ws : List (List ℕ)). SpellsFormula schema ws h.1) text h.2)

take_front : (words more : List (List ℕ)) (k : ℕ) → k < length words → take (k + 1) (words ++ more) ≡ take (k + 1) words
take_front [] more k h = absurd (omega (arith, h))
take_front (word ∷ words) more zero h = refl
take_front (word ∷ words) more (suc k) h =
    let e : suc k + 1 ≡ suc (k + 1) = omega arith in
    rw e (ap (λ (ws : List (List ℕ)). word ∷ ws) (take_front words more k (omega (arith, h))))

take_past : (words : List (List ℕ)) (word : List ℕ) (more : List (List ℕ)) → take (length words + 1) (words ++ word ∷ more) ≡ words ++ word ∷ []
take_past [] word more = refl
take_past (w ∷ words) word more =
    let e : length (w ∷ words) + 1 ≡ suc (length words + 1) = omega arith in
    rw e (ap (λ (ws : List (List ℕ)). w ∷ ws) (take_past words word more))

-- ---- what the reader tells

-- it stops at a word, or behind all of them
abbrev pub Halts : Schema → ℕ → State → List (List ℕ) → ℕ → Type 0
Halts schema at s words place =
    ((front : List (List ℕ)) × (word : List ℕ) × (more : List (List ℕ)) × (t : State) × (words ≡ front ++ word ∷ more) × (run schema s front ≡ Some t) × (read schema t word ≡ None)
    × (place ≡ at + length front))
    ⊎ ((t : State) × (run schema s words ≡ Some t) × (ended t ≡ None) × (place ≡ at + length words))

or_at-err : (at place : ℕ) (o : Option Formula) → or_at at o ≡ Err place → (o ≡ None) × (place ≡ at)
or_at-err at place None e = (refl, cc)
or_at-err at place (Some f) e = absurd (let bad : Ok f ≡ Err place = e in cc)

or_at-ok : (at : ℕ) (f : Formula) (o : Option Formula) → or_at at o ≡ Ok f → o ≡ Some f
or_at-ok at f None e = absurd (let bad : Err at ≡ Ok f = e in cc)
or_at-ok at f (Some g) e = let same : Ok g ≡ Ok f = e in cc

told-err : (at place : ℕ) (o : Option State) (more : State → Result Formula ℕ) → told at o more ≡ Err place → ((o ≡ None) × (place ≡ at)) ⊎ ((t : State) × (o ≡ Some t) × (more t ≡ Err place))
told-err at place None more e = inl (refl, let same : Err at ≡ Err place = e in cc)
told-err at place (Some t) more e = inr (t, refl, e)

told-ok : (at : ℕ) (f : Formula) (o : Option State) (more : State → Result Formula ℕ) → told at o more ≡ Ok f → (t : State) × (o ≡ Some t) × (more t ≡ Ok f)
told-ok at f None more e = absurd (let bad : Err at ≡ Ok f = e in cc)
told-ok at f (Some t) more e = (t, refl, e)

stops_later : (schema : Schema) (at place : ℕ) (s t : State) (word : List ℕ) (words : List (List ℕ)) → read schema s word ≡ Some t → Halts schema (at + 1) t words place
    → Halts schema at s (word ∷ words) place
stops_later schema at place s t word words is (inl h) =
    inl (word ∷ h.0, h.1, h.2, h.3, ap (λ (ws : List (List ℕ)). word ∷ ws) h.4, run-step schema s t word h.0 is ∙ h.5, h.6, omega (arith, h.7))
stops_later schema at place s t word words is (inr h) = inr (h.0, run-step schema s t word words is ∙ h.1, h.2, omega (arith, h.3))

read_all-err : (schema : Schema) (words : List (List ℕ)) (at place : ℕ) (s : State) → read_all schema at s words ≡ Err place → Halts schema at s words place
read_all-err schema [] at place s e = let p = or_at-err at place (ended s) e in inr (s, refl, p.0, omega (arith, p.1))
read_all-err schema (word ∷ words) at place s e =
    elim (told-err at place (read schema s word) (λ (t : State). read_all schema (at + 1) t words) e) [
      | inl h ↦ inl ([], word, words, s, refl, refl, h.0, omega (arith, h.1))
      | inr h ↦ stops_later schema at place s h.0 word words h.1 (read_all-err schema words (at + 1) place h.0 h.2)
    ]

read_all-ok : (schema : Schema) (words : List (List ℕ)) (at : ℕ) (f : Formula) (s : State) → read_all schema at s words ≡ Ok f → (t : State) × (run schema s words ≡ Some t) × (ended t ≡ Some f)
read_all-ok schema [] at f s e = (s, refl, or_at-ok at f (ended s) e)
read_all-ok schema (word ∷ words) at f s e =
    let h = told-ok at f (read schema s word) (λ (t : State). read_all schema (at + 1) t words) e in
    let more = read_all-ok schema words (at + 1) f h.0 h.2 in
    (more.0, run-step schema s h.0 word words h.1 ∙ more.1, more.2)

-- ---- where no test can begin

-- what the parts have, any of them has
parted-has : (schema : Schema) (word : List ℕ) (Spells : List (List ℕ) → Formula → Type 0) → ((words : List (List ℕ)) (f : Formula) → Spells words f → has_tests schema ≡ true)
    → (fs : List Formula) (words : List (List ℕ)) → Parted word Spells words fs → has_tests schema ≡ true
parted-has schema word Spells has [] words h = absurd h
parted-has schema word Spells has (f ∷ []) words h = has words f h
parted-has schema word Spells has (f ∷ g ∷ fs) words h = has h.0 f h.3

any-has : (schema : Schema) (Tests : List (List ℕ) → Formula → Type 0) → ((words : List (List ℕ)) (f : Formula) → Tests words f → has_tests schema ≡ true)
    → (words : List (List ℕ)) (f : Formula) → SpellsAny Tests words f → has_tests schema ≡ true
any-has schema Tests has words f h = parted-has schema (codes "or") (SpellsAll Tests) (λ ws g k. parted-has schema (codes "and") Tests has k.0 ws k.1) h.0 words h.1

test-has : (schema : Schema) (depth : ℕ) (words : List (List ℕ)) (f : Formula) → SpellsTest schema depth words f → has_tests schema ≡ true
unfolding SpellsTest
test-has schema zero words f h = column_at-has schema h.column (h.number, h.kind) h.named
test-has schema (suc depth) words f (inl h) = column_at-has schema h.column (h.number, h.kind) h.named
test-has schema (suc depth) words f (inr (inl h)) = test-has schema depth h.0 h.1 h.3
test-has schema (suc depth) words f (inr (inr h)) = any-has schema (SpellsTest schema depth) (test-has schema depth) h.0 f h.2

formula-has : (schema : Schema) (words : List (List ℕ)) (f : Formula) → SpellsFormula schema words f → has_tests schema ≡ true
formula-has schema words f h = any-has schema (SpellsTest schema most_nested) (test-has schema most_nested) words f h

-- ---- the bad word

fronts_go_on : (schema : Schema) (words more : List (List ℕ)) (t : State) → has_tests schema ≡ true → run schema (start most_nested) words ≡ Some t
    → (k : ℕ) → k < length words → GoesOn schema (take (k + 1) (words ++ more))
fronts_go_on schema words more t has e k h = subst (GoesOn schema) (sym (take_front words more k h)) (front_goes_on schema words (k + 1) (run-goes_on schema words t has e))

-- no predicate goes on with a word that can't come there
refused : (schema : Schema) (words : List (List ℕ)) (word : List ℕ) (t : State) → run schema (start most_nested) words ≡ Some t → read schema t word ≡ None → GoesOn schema (words ++ word ∷ []) → ⊥
refused schema words word t e none h =
    let p = predicate-run schema ((words ++ word ∷ []) ++ h.0) h.1 h.2 in
    let text = append_assoc words (word ∷ []) h.0 in
    let run_on : run schema t (word ∷ h.0) ≡ Some p.0 =
    sym (run-append schema words (word ∷ h.0) (start most_nested) t e) ∙ ap (λ (ws : List (List ℕ)). run schema (start most_nested) ws) (sym text) ∙ p.1 in
    let b = behind-some (read schema t word) (λ (u : State). run schema u h.0) p.0 run_on in
    none_some b.0 (sym none ∙ b.1)

stops-bad : (schema : Schema) (words : List (List ℕ)) (place : ℕ) → has_tests schema ≡ true → Halts schema 0 (start most_nested) words place → IsBadWord schema words place
stops-bad schema words place has (inl h) =
    let at : place ≡ length h.0 = omega (arith, h.7) in
    let before = fronts_go_on schema h.0 (h.1 ∷ h.2) h.3 has h.5 in
    let low : length h.0 < length (h.0 ++ h.1 ∷ h.2) = omega (arith, length-append h.0 (h.1 ∷ h.2)) in
    let no_front : GoesOn schema (take (length h.0 + 1) (h.0 ++ h.1 ∷ h.2)) → ⊥ = λ g. refused schema h.0 h.1 h.3 h.5 h.6 (subst (GoesOn schema) (take_past h.0 h.1 h.2) g) in
    let bad : IsBadWord schema (h.0 ++ h.1 ∷ h.2) (length h.0) = record { before = before; here = inl (low, no_front) } in
    subst (λ (n : ℕ). IsBadWord schema words n) (sym at) (subst (λ (ws : List (List ℕ)). IsBadWord schema ws (length h.0)) (sym h.4) bad)
stops-bad schema words place has (inr h) =
    let at : place ≡ length words = omega (arith, h.3) in
    let before : (k : ℕ) → k < length words → GoesOn schema (take (k + 1) words) =
    λ k less. subst (λ (ws : List (List ℕ)). GoesOn schema (take (k + 1) ws)) (append-nil words) (fronts_go_on schema words [] h.0 has h.1 k less) in
    let unspelled : (f : Formula) → SpellsFormula schema words f → ⊥ =
    λ f spelled. (let p = predicate-run schema words f spelled in
    let same : h.0 ≡ p.0 = some_same h.0 p.0 (sym h.1 ∙ p.1) in
    none_some f (sym h.2 ∙ ap ended same ∙ p.2)) in
    let bad : IsBadWord schema words (length words) = record { before = before; here = inr (refl, unspelled) } in
    subst (λ (n : ℕ). IsBadWord schema words n) (sym at) bad

-- where no test can begin, no predicate goes on with the first word
none-bad : (schema : Schema) (words : List (List ℕ)) → has_tests schema ≡ false → IsBadWord schema words 0
none-bad schema [] has = record { before = λ k less. absurd (omega (arith, less)); here = inr (refl, λ f h. absurd (true≢false (sym (formula-has schema [] f h) ∙ has))) }
none-bad schema (word ∷ words) has = record {
  before = λ k less. absurd (omega (arith, less));
  here = inl (omega arith, λ g. absurd (true≢false (sym (formula-has schema (take 1 (word ∷ words) ++ g.0) g.1 g.2) ∙ has)));
}

pub parsed-bad : (schema : Schema) (words : List (List ℕ)) (at : ℕ) → parsed schema words ≡ Err at → IsBadWord schema words at
parsed-bad schema words at e = elim (cases_Bool (has_tests schema)) [
  | inl has ↦ stops-bad schema words at has (read_all-err schema words 0 at (start most_nested) (rw has at e))
  | inr other ↦ (let told : Err 0 ≡ Err at = rw other at e in let same : 0 ≡ at = cc in subst (λ (n : ℕ). IsBadWord schema words n) same (none-bad schema words other))
]

pub parsed-spelled : (schema : Schema) (words : List (List ℕ)) (f : Formula) → parsed schema words ≡ Ok f → SpellsFormula schema words f
parsed-spelled schema words f e = elim (cases_Bool (has_tests schema)) [
  | inl has ↦
      let r = read_all-ok schema words 0 f (start most_nested) (rw has at e) in
      stands-ended schema words r.0 f (stands-run schema words [] (start most_nested) r.0 (stands_at_start schema) r.1) r.2
  | inr other ↦ absurd (let bad : Err 0 ≡ Ok f = rw other at e in cc)
]

-- ---- laws

pub one_reading : (schema : Schema) (words : List (List ℕ)) (f g : Formula) → SpellsFormula schema words f → SpellsFormula schema words g → f ≡ g
one_reading schema words f g h k =
    let p = predicate-run schema words f h in
    let q = predicate-run schema words g k in
    let same : p.0 ≡ q.0 = some_same p.0 q.0 (sym p.1 ∙ q.1) in
    some_same f g (sym p.2 ∙ ap ended same ∙ q.2)

spelled-goes_on : (schema : Schema) (words : List (List ℕ)) (f : Formula) → SpellsFormula schema words f → GoesOn schema words
spelled-goes_on schema words f h = ([], f, subst (λ (ws : List (List ℕ)). SpellsFormula schema ws f) (sym (append-nil words)) h)

here_apart : (schema : Schema) (words : List (List ℕ)) (at : ℕ) (f : Formula) → SpellsFormula schema words f
    → StopsAt schema words at → ⊥
here_apart schema words at f h (inl bad) = bad.1 (front_goes_on schema words (at + 1) (spelled-goes_on schema words f h))
here_apart schema words at f h (inr bad) = bad.1 f h

pub apart : (schema : Schema) (words : List (List ℕ)) (f : Formula) (at : ℕ) → SpellsFormula schema words f → IsBadWord schema words at → ⊥
apart schema words f at h bad = here_apart schema words at f h bad.here

at_most : (schema : Schema) (words : List (List ℕ)) (at : ℕ) → StopsAt schema words at
    → at ≤ length words
at_most schema words at (inl h) = omega (arith, h.0)
at_most schema words at (inr h) = omega (arith, h.0)

here_first : (schema : Schema) (words : List (List ℕ)) (a b : ℕ) → StopsAt schema words a
    → IsBadWord schema words b → a < b → ⊥
here_first schema words a b (inl h) bad less = h.1 (bad.before a less)
here_first schema words a b (inr h) bad less = absurd (omega (arith, h.0, less, at_most schema words b bad.here))

pub one_place : (schema : Schema) (words : List (List ℕ)) (a b : ℕ) → IsBadWord schema words a → IsBadWord schema words b → a ≡ b
one_place schema words a b x y =
    elim (cases_Bool (ltb a b)) [
      | inl less ↦ absurd (here_first schema words a b x.here y (ltb-true a b less))
      | inr other ↦ elim (cases_Bool (ltb b a)) [
        | inl less ↦ absurd (here_first schema words b a y.here x (ltb-true b a less))
        | inr same ↦ omega (arith, ltb-false a b other, ltb-false b a same)
      ]
    ]
