-- The reader reads what is spelled.
use Rattle.std.proofs.Common.{◌≡◌, ℕ, zero, suc, ◌+◌, ◌-◌, Bool, true, false, cond, List, [], ◌∷◌, ◌++◌, codes, true≢false}
use Rattle.std.proofs.Common.{Option, Some, None, refl, sym, ap, ◌∙◌, subst, inl, inr, arith, append_assoc, add-one}
use Rattle.std.specs.Prelude.{◌⊎◌}
use Rattle.std.specs.Option.{is_none}
use Rattle.std.specs.Str.{bytes_eq}
use Rattle.std.proofs.lemmas.Bool.{cases_Bool, lt-ltb}
use Rattle.std.proofs.lemmas.Slice.Eq.{bytes_eq-Decides}
use Rattle.row_value.specs.declared.schema.ColumnKind.{ColumnKind}
use Rattle.row_value.specs.declared.schema.Schema.{Schema}
use Rattle.script_words.specs.Words.{is_name}
use Rattle.script_words.proofs.Parts.{some_same}
use Rattle.select_lang.specs.declared.predicate.Comparison.{Comparison}
use Rattle.select_lang.specs.declared.reader.Next.{Next}
use Rattle.select_lang.specs.declared.reader.Next.TheVariants.{Test, NotOrColumn, Operator, Value, Join}
use Rattle.select_lang.specs.Formula.{Formula, NotThat, Compares, all_of, any_of, turned}
use Rattle.select_lang.specs.Level.{Open, new_level, with_all, has_room, predicate_in}
use Rattle.select_lang.specs.Words.{comparison_word, comparison_at, column_at, cell_at}
use Rattle.select_lang.specs.Grammar.{Parted, SpellsAll, SpellsAny, SpellsComparison, SpellsTest, SpellsFormula, most_nested}
use Rattle.select_lang.specs.Machine.{State, state, start, read, tested, ended}
use Rattle.select_lang.proofs.WordLaws.{comparison_at-name, comparison_at-not, comparison_at-open, comparison_at-word, cell_at-right, column_at-name}

-- the state behind words, if each can come there
abbrev pub behind : Option State → (State → Option State) → Option State
behind None more = None
behind (Some s) more = more s

abbrev pub run : Schema → State → List (List ℕ) → Option State
run schema s [] = Some s
run schema s (word ∷ words) = behind (read schema s word) (λ t. run schema t words)

pub behind-some : (o : Option State) (more : State → Option State) (t : State) → behind o more ≡ Some t → (s : State) × (o ≡ Some s) × (more s ≡ Some t)
behind-some None more t e = absurd (let bad : None ≡ Some t = e in cc)
behind-some (Some s) more t e = (s, refl, e)

pub run-append : (schema : Schema) (words more : List (List ℕ)) (s t : State) → run schema s words ≡ Some t → run schema s (words ++ more) ≡ run schema t more
run-append schema [] more s t e = let same : Some s ≡ Some t = e in ap (λ (u : State). run schema u more) (some_same s t same)
run-append schema (word ∷ words) more s t e =
    let b = behind-some (read schema s word) (λ (u : State). run schema u words) t e in
    rw b.1 (run-append schema words more b.0 t b.2)

pub run-step : (schema : Schema) (s t : State) (word : List ℕ) (words : List (List ℕ)) → read schema s word ≡ Some t → run schema s (word ∷ words) ≡ run schema t words
run-step schema s t word words e = rw e refl

-- ---- single words

no_open : (word : List ℕ) → is_name word ≡ true → bytes_eq word (codes "(") ≡ false
unfolding is_name
no_open word name = elim (cases_Bool (bytes_eq word (codes "("))) [
  | inl is ↦ absurd (let same = (bytes_eq-Decides word (codes "(")).0 is in let bad : false ≡ true = subst (λ (w : List ℕ). is_name w ≡ true) same name in true≢false (sym bad))
  | inr other ↦ other
]

-- what may come behind a column's name
abbrev pub IsBehindName : ℕ → ColumnKind → Next → Type 0
IsBehindName number kind next = (next ≡ Operator number kind) ⊎ (next ≡ NotOrColumn number kind)

behind_not : (b : Bool) (number : ℕ) (kind : ColumnKind) → IsBehindName number kind (cond b (NotOrColumn number kind) (Operator number kind))
behind_not true number kind = inr refl
behind_not false number kind = inl refl

pub column-read : (schema : Schema) (outer : List Open) (o : Open) (word : List ℕ) (p : ℕ × ColumnKind) → column_at schema word ≡ Some p
    → (next : Next) × (read schema (state outer o Test) word ≡ Some (state outer o next)) × IsBehindName p.0 p.1 next
unfolding read
column-read schema outer o word p is =
    let name = no_open word (column_at-name schema word p is) in
    elim (cases_Bool (bytes_eq word (codes "not"))) [
      | inl n ↦ (cond (has_room o) (NotOrColumn p.0 p.1) (Operator p.0 p.1), rw (name, n, is) refl, behind_not (has_room o) p.0 p.1)
      | inr other ↦ (Operator p.0 p.1, rw (name, other, is) refl, inl refl)
    ]

pub operator-read : (schema : Schema) (outer : List Open) (o : Open) (next : Next) (number : ℕ) (kind : ColumnKind) (c : Comparison) (word : List ℕ) → IsBehindName number kind next
    → comparison_at word ≡ Some c → read schema (state outer o next) word ≡ Some (state outer o (Value number kind c))
unfolding read
operator-read schema outer o next number kind c word (inl is) e = rw is (rw e refl)
operator-read schema outer o next number kind c word (inr is) e = rw is (rw e refl)

pub value-read : (schema : Schema) (outer : List Open) (o : Open) (number : ℕ) (kind : ColumnKind) (c : Comparison) (word : List ℕ) (cell : _) → cell_at kind word ≡ Some cell
    → read schema (state outer o (Value number kind c)) word ≡ Some (tested outer o (Compares number c cell))
unfolding read
value-read schema outer o number kind c word cell e = rw e refl

pub and-read : (schema : Schema) (outer : List Open) (o : Open) → read schema (state outer o Join) (codes "and") ≡ Some (state outer o Test)
unfolding read
and-read schema outer o = refl

pub or-read : (schema : Schema) (outer : List Open) (o : Open) → read schema (state outer o Join) (codes "or") ≡ Some (state outer (with_all o) Test)
unfolding read
or-read schema outer o = refl

pub close-read : (schema : Schema) (outer : List Open) (o inner : Open) → read schema (state (o ∷ outer) inner Join) (codes ")") ≡ Some (tested outer o (predicate_in inner))
unfolding read
close-read schema outer o inner = refl

open-read : (schema : Schema) (outer : List Open) (o : Open) → has_room o ≡ true → read schema (state outer o Test) (codes "(") ≡ Some (state (o ∷ outer) (new_level (o.room - o.nots - 1)) Test)
unfolding read
open-read schema outer o room = rw room refl

-- ---- a comparison

pub comparison-run : (schema : Schema) (outer : List Open) (o : Open) (words : List (List ℕ)) (f : Formula) → SpellsComparison schema words f
    → run schema (state outer o Test) words ≡ Some (tested outer o f)
comparison-run schema outer o words f h =
    let p : ℕ × ColumnKind = (h.number, h.kind) in
    let named = column-read schema outer o h.column p h.named in
    let by : run schema (state outer o Test) (h.column ∷ comparison_word h.comparison ∷ h.value ∷ []) ≡ Some (tested outer o (Compares h.number h.comparison h.cell)) =
    rw named.1 (rw (operator-read schema outer o named.0 h.number h.kind h.comparison (comparison_word h.comparison) named.2 (comparison_at-word h.comparison))
    (rw (value-read schema outer o h.number h.kind h.comparison h.value h.cell (cell_at-right h.kind h.value h.cell h.spelled)) refl)) in
    rw h.text (by ∙ ap (λ (g : Formula). Some (tested outer o g)) (sym h.formula))

-- ---- tests, by how deep they nest

-- each test that is spelled so is read where so much room is left
abbrev pub Reads : Schema → ℕ → (List (List ℕ) → Formula → Type 0) → Type 0
Reads schema depth Tests =
    (outer : List Open) (o : Open) (words : List (List ℕ)) (f : Formula) → o.room ≡ o.nots + depth → Tests words f
    → run schema (state outer o Test) words ≡ Some (tested outer o f)

abbrev pub level : ℕ → List Formula → List Formula → Open
level room any all = record { any = any; all = all; nots = 0; room = room }

module _ (schema : Schema) (depth : ℕ) (Tests : List (List ℕ) → Formula → Type 0) (reads : Reads schema depth Tests) where
  pub all-run : (fs : List Formula) (words : List (List ℕ)) (outer : List Open) (any all : List Formula) → Parted (codes "and") Tests words fs
      → run schema (state outer (level depth any all) Test) words ≡ Some (state outer (level depth any (all ++ fs)) Join)
  all-run [] words outer any all h = absurd h
  all-run (f ∷ []) words outer any all h = reads outer (level depth any all) words f (omega arith) h
  all-run (f ∷ g ∷ fs) words outer any all h =
      let first = reads outer (level depth any all) h.0 f (omega arith) h.3 in
      let rest = all-run (g ∷ fs) h.1 outer any (all ++ f ∷ []) h.4 in
      rw h.2 (run-append schema h.0 (codes "and" ∷ h.1) _ _ first
      ∙ run-step schema _ _ (codes "and") h.1 (and-read schema outer (level depth any (all ++ f ∷ [])))
      ∙ rest ∙ ap (λ (gs : List Formula). Some (state outer (level depth any gs) Join)) (append_assoc all (f ∷ []) (g ∷ fs)))

  pub any-run : (fs : List Formula) (words : List (List ℕ)) (outer : List Open) (any : List Formula) → Parted (codes "or") (SpellsAll Tests) words fs
      → (more all : List Formula) × (run schema (state outer (level depth any []) Test) words ≡ Some (state outer (level depth more all) Join)) × (more ++ all_of all ∷ [] ≡ any ++ fs)
  any-run [] words outer any h = absurd h
  any-run (f ∷ []) words outer any h = (any, h.0, all-run h.0 words outer any [] h.1, ap (λ (g : Formula). any ++ g ∷ []) (sym h.2))
  any-run (f ∷ g ∷ fs) words outer any h =
      let first = all-run h.3.0 h.0 outer any [] h.3.1 in
      let rest = any-run (g ∷ fs) h.1 outer (any ++ all_of h.3.0 ∷ []) h.4 in (
        rest.0,
        rest.1,
        rw h.2 (run-append schema h.0 (codes "or" ∷ h.1) _ _ first ∙ run-step schema _ _ (codes "or") h.1 (or-read schema outer (level depth any h.3.0)) ∙ rest.2),
        rest.3 ∙ append_assoc any (all_of h.3.0 ∷ []) (g ∷ fs) ∙ ap (λ (e : Formula). any ++ e ∷ g ∷ fs) (sym h.3.2),
      )

-- a test is no operator at its front
pub test-head : (schema : Schema) (depth : ℕ) (words : List (List ℕ)) (f : Formula) → SpellsTest schema depth words f
    → (word : List ℕ) × (rest : List (List ℕ)) × (words ≡ word ∷ rest) × (comparison_at word ≡ None)
unfolding SpellsTest
test-head schema zero words f h = (h.column, comparison_word h.comparison ∷ h.value ∷ [], h.text, comparison_at-name h.column (column_at-name schema h.column _ h.named))
test-head schema (suc depth) words f (inl h) = (h.column, comparison_word h.comparison ∷ h.value ∷ [], h.text, comparison_at-name h.column (column_at-name schema h.column _ h.named))
test-head schema (suc depth) words f (inr (inl h)) = (codes "not", h.0, h.2, comparison_at-not)
test-head schema (suc depth) words f (inr (inr h)) = (codes "(", h.0 ++ codes ")" ∷ [], h.1, comparison_at-open)

-- ---- `not`

abbrev pub after_one : Open → Open
after_one o = record o { nots = o.nots + 1 }

turned-more : (n : ℕ) (f : Formula) → turned (suc n) f ≡ turned n (NotThat f)
turned-more zero f = refl
turned-more (suc n) f = ap NotThat (turned-more n f)

not-read : (schema : Schema) (outer : List Open) (o : Open) (c : Option (ℕ × ColumnKind)) → has_room o ≡ true → column_at schema (codes "not") ≡ c
    → (next : Next) × (read schema (state outer o Test) (codes "not") ≡ Some (cond (is_none c) (state outer (after_one o) Test) (state outer o next)))
    × ((word : List ℕ) → comparison_at word ≡ None → is_none c ≡ false → read schema (state outer o next) word ≡ read schema (state outer (after_one o) Test) word)
unfolding read
not-read schema outer o None room is = (Test, rw (is, room) refl, λ word none some. absurd (true≢false some))
not-read schema outer o (Some p) room is = (NotOrColumn p.0 p.1, rw (is, room) refl, λ word none some. rw (none, room) refl)

skipped : (schema : Schema) (s t u : State) (b : Bool) (before word : List ℕ) (words : List (List ℕ)) → read schema s before ≡ Some (cond b t u)
    → (b ≡ false → read schema u word ≡ read schema t word) → run schema s (before ∷ word ∷ words) ≡ run schema t (word ∷ words)
skipped schema s t u true before word words is same = run-step schema s t before (word ∷ words) is
skipped schema s t u false before word words is same = run-step schema s u before (word ∷ words) is ∙ ap (λ (r : Option State). behind r (λ (v : State). run schema v words)) (same refl)

not-run : (schema : Schema) (depth : ℕ) → Reads schema depth (SpellsTest schema depth) → (outer : List Open) (o : Open) (rest : List (List ℕ)) (g : Formula)
    → o.room ≡ o.nots + suc depth → SpellsTest schema depth rest g → run schema (state outer o Test) (codes "not" ∷ rest) ≡ Some (tested outer o (NotThat g))
not-run schema depth reads outer o rest g room h =
    let has : has_room o ≡ true = lt-ltb o.nots o.room (omega (arith, room)) in
    let t = test-head schema depth rest g h in
    let n = not-read schema outer o (column_at schema (codes "not")) has refl in
    let more : o.room ≡ (after_one o).nots + depth = omega (arith, room) in
    let inner = reads outer (after_one o) rest g more h in
    let skip = skipped schema (state outer o Test) (state outer (after_one o) Test) (state outer o n.0) (is_none (column_at schema (codes "not"))) (codes "not") t.0 t.1 n.1 (n.2 t.0 t.3) in
    let turn : turned (o.nots + 1) g ≡ turned o.nots (NotThat g) = rw add-one (turned-more o.nots g) in
    ap (λ (ws : List (List ℕ)). run schema (state outer o Test) (codes "not" ∷ ws)) t.2 ∙ skip
    ∙ ap (λ (ws : List (List ℕ)). run schema (state outer (after_one o) Test) ws) (sym t.2) ∙ inner
    ∙ ap (λ (f : Formula). Some (state outer (record { any = o.any; all = o.all ++ f ∷ []; nots = 0; room = o.room }) Join)) turn

-- ---- parentheses

open-run : (schema : Schema) (depth : ℕ) → Reads schema depth (SpellsTest schema depth) → (outer : List Open) (o : Open) (words : List (List ℕ)) (f : Formula)
    → o.room ≡ o.nots + suc depth → SpellsAny (SpellsTest schema depth) words f
    → run schema (state outer o Test) (codes "(" ∷ (words ++ codes ")" ∷ [])) ≡ Some (tested outer o f)
open-run schema depth reads outer o words f room h =
    let has : has_room o ≡ true = lt-ltb o.nots o.room (omega (arith, room)) in
    let left : o.room - o.nots - 1 ≡ depth = omega (arith, room) in
    let first = run-step schema (state outer o Test) _ (codes "(") (words ++ codes ")" ∷ []) (open-read schema outer o has) in
    let inner = any-run schema depth (SpellsTest schema depth) reads h.0 words (o ∷ outer) [] h.1 in
    let closing = run-append schema words (codes ")" ∷ []) _ _ inner.2 in
    let last = run-step schema _ _ (codes ")") [] (close-read schema outer o (level depth inner.0 inner.1)) in
    let same : predicate_in (level depth inner.0 inner.1) ≡ f = ap any_of inner.3 ∙ sym h.2 in
    first ∙ ap (λ (room : ℕ). run schema (state (o ∷ outer) (new_level room) Test) (words ++ codes ")" ∷ [])) left
    ∙ closing ∙ last ∙ ap (λ (g : Formula). Some (tested outer o g)) same

-- ---- whatever is spelled

pub test-run : (schema : Schema) (depth : ℕ) (outer : List Open) (o : Open) (words : List (List ℕ)) (f : Formula) → o.room ≡ o.nots + depth → SpellsTest schema depth words f
    → run schema (state outer o Test) words ≡ Some (tested outer o f)
unfolding SpellsTest
test-run schema zero outer o words f room h = comparison-run schema outer o words f h
test-run schema (suc depth) outer o words f room (inl h) = comparison-run schema outer o words f h
test-run schema (suc depth) outer o words f room (inr (inl h)) =
    rw h.2 (not-run schema depth (test-run schema depth) outer o h.0 h.1 room h.3 ∙ ap (λ (g : Formula). Some (tested outer o g)) (sym h.4))
test-run schema (suc depth) outer o words f room (inr (inr h)) = rw h.1 (open-run schema depth (test-run schema depth) outer o h.0 f room h.2)

-- a predicate is read to its end
pub predicate-run : (schema : Schema) (words : List (List ℕ)) (f : Formula) → SpellsFormula schema words f
    → (t : State) × (run schema (start most_nested) words ≡ Some t) × (ended t ≡ Some f)
unfolding ended
predicate-run schema words f h =
    let inner = any-run schema most_nested (SpellsTest schema most_nested) (test-run schema most_nested) h.0 words [] [] h.1 in
    (state [] (level most_nested inner.0 inner.1) Join, inner.2, ap (λ (fs : List Formula). Some (any_of fs)) inner.3 ∙ ap (λ (g : Formula). Some g) (sym h.2))
