-- What the reader has read is spelled.
use Rattle.std.proofs.Common.{◌≡◌, ℕ, zero, suc, ◌+◌, ◌-◌, ◌<◌, ◌≤◌, true, List, [], ◌∷◌, ◌++◌, codes}
use Rattle.std.proofs.Common.{Option, Some, None, refl, sym, ap, ◌∙◌, subst, inl, inr, arith, append_assoc, add-one}
use Rattle.std.specs.Str.{bytes_eq}
use Rattle.std.proofs.lemmas.Bool.{cases_Bool, lt-ltb, ltb-true}
use Rattle.std.proofs.lemmas.List.{append-nil}
use Rattle.std.proofs.lemmas.Slice.Eq.{bytes_eq-Decides}
use Rattle.row_value.specs.declared.content.Cell.{Cell}
use Rattle.row_value.specs.declared.schema.ColumnKind.{ColumnKind}
use Rattle.row_value.specs.declared.schema.Schema.{Schema}
use Rattle.script_words.proofs.Parts.{some_same, none_some}
use Rattle.select_lang.specs.declared.predicate.Comparison.{Comparison}
use Rattle.select_lang.specs.declared.reader.Next.{Next}
use Rattle.select_lang.specs.declared.reader.Next.TheVariants.{Test, NotOrColumn, Operator, Value, Join}
use Rattle.select_lang.specs.Formula.{Formula, NotThat, Compares, all_of, turned}
use Rattle.select_lang.specs.Level.{Open, new_level, with_test, with_all, has_room, inside, predicate_in}
use Rattle.select_lang.specs.Words.{comparison_word, comparison_at, column_at, cell_at}
use Rattle.select_lang.specs.Grammar.{Parted, SpellsAll, SpellsAny, SpellsComparison, SpellsTest, SpellsFormula, most_nested}
use Rattle.select_lang.specs.Machine.{State, state, start, read, ended, opened, not_read, column_read, operator_read, not_or_read}
use Rattle.select_lang.specs.Machine.{value_read, closed, test_read, join_read, ended_by}
use Rattle.select_lang.proofs.Runs.{run, behind-some}
use Rattle.select_lang.proofs.WordLaws.{comparison_at-some, cell_at-some}

-- ---- parts that have ended, each with the word behind it

abbrev pub Front : List ℕ → (List (List ℕ) → Formula → Type 0) → List (List ℕ) → List Formula → Type 0
Front word Spells words [] = words ≡ []
Front word Spells words (f ∷ fs) = (first rest : List (List ℕ)) × (words ≡ first ++ word ∷ rest) × Spells first f × Front word Spells rest fs

front_more : (word : List ℕ) (Spells : List (List ℕ) → Formula → Type 0) (fs : List Formula) (words part : List (List ℕ)) (f : Formula) → Front word Spells words fs → Spells part f
    → Front word Spells (words ++ (part ++ word ∷ [])) (fs ++ f ∷ [])
front_more word Spells [] words part f h is = (part, [], ap (λ (ws : List (List ℕ)). ws ++ (part ++ word ∷ [])) h, is, refl)
front_more word Spells (g ∷ fs) words part f h is =
    (h.0, h.1 ++ (part ++ word ∷ []), ap (λ (ws : List (List ℕ)). ws ++ (part ++ word ∷ [])) h.2 ∙ append_assoc h.0 (word ∷ h.1) (part ++ word ∷ []), h.3, front_more word Spells fs h.1 part f h.4 is)

one_more : (word : List ℕ) (Spells : List (List ℕ) → Formula → Type 0) (fs : List Formula) (f g : Formula) (first rest words : List (List ℕ)) → words ≡ first ++ word ∷ rest → Spells first f
    → Parted word Spells rest (fs ++ g ∷ []) → Parted word Spells words (f ∷ (fs ++ g ∷ []))
one_more word Spells [] f g first rest words text is more = (first, rest, text, is, more)
one_more word Spells (h ∷ fs) f g first rest words text is more = (first, rest, text, is, more)

front_ended : (word : List ℕ) (Spells : List (List ℕ) → Formula → Type 0) (fs : List Formula) (words part : List (List ℕ)) (f : Formula) → Front word Spells words fs → Spells part f
    → Parted word Spells (words ++ part) (fs ++ f ∷ [])
front_ended word Spells [] words part f h is = subst (λ (ws : List (List ℕ)). Spells (ws ++ part) f) (sym h) is
front_ended word Spells (g ∷ fs) words part f h is =
    one_more word Spells fs g f h.0 (h.1 ++ part) (words ++ part) (ap (λ (ws : List (List ℕ)). ws ++ part) h.2 ∙ append_assoc h.0 (word ∷ h.1) part) h.3
    (front_ended word Spells fs h.1 part f h.4 is)

front_from : (word : List ℕ) (Spells : List (List ℕ) → Formula → Type 0) (fs : List Formula) (words : List (List ℕ)) → Parted word Spells words fs → Front word Spells (words ++ word ∷ []) fs
front_from word Spells [] words h = absurd h
front_from word Spells (f ∷ []) words h = (words, [], refl, h, refl)
front_from word Spells (f ∷ g ∷ fs) words h =
    (h.0, h.1 ++ word ∷ [], ap (λ (ws : List (List ℕ)). ws ++ word ∷ []) h.2 ∙ append_assoc h.0 (word ∷ h.1) (word ∷ []), h.3, front_from word Spells (g ∷ fs) h.1 h.4)

-- ---- `not`s

abbrev pub nots : ℕ → List (List ℕ)
nots zero = []
nots (suc n) = codes "not" ∷ nots n

nots-more : (n : ℕ) → nots n ++ codes "not" ∷ [] ≡ nots (suc n)
nots-more zero = refl
nots-more (suc n) = ap (λ (ws : List (List ℕ)). codes "not" ∷ ws) (nots-more n)

deeper : (schema : Schema) (n depth : ℕ) (words : List (List ℕ)) (f : Formula) → SpellsTest schema depth words f → SpellsTest schema (n + depth) (nots n ++ words) (turned n f)
unfolding SpellsTest
deeper schema zero depth words f h = let same : depth ≡ 0 + depth = omega arith in subst (λ (d : ℕ). SpellsTest schema d words f) same h
deeper schema (suc n) depth words f h =
    let same : suc (n + depth) ≡ suc n + depth = omega arith in
    let more = deeper schema n depth words f h in
    subst (λ (d : ℕ). SpellsTest schema d (codes "not" ∷ (nots n ++ words)) (NotThat (turned n f))) same (inr (inl (nots n ++ words, turned n f, refl, more, refl)))

any_depth : (schema : Schema) (depth : ℕ) (words : List (List ℕ)) (f : Formula) → SpellsComparison schema words f → SpellsTest schema depth words f
unfolding SpellsTest
any_depth schema zero words f h = h
any_depth schema (suc depth) words f h = inl h

-- ---- what has been read where a test may begin, and behind one

pub record Begun (schema : Schema) (o : Open) (words : List (List ℕ)) : Type 0 where
  pub ors : List (List ℕ)
  pub ands : List (List ℕ)
  pub text : words ≡ ors ++ (ands ++ nots o.nots)
  pub any : Front (codes "or") (SpellsAll (SpellsTest schema o.room)) ors o.any
  pub all : Front (codes "and") (SpellsTest schema o.room) ands o.all
  pub within : o.nots ≤ o.room

pub record Tested (schema : Schema) (o : Open) (words : List (List ℕ)) : Type 0 where
  pub ors : List (List ℕ)
  pub last : List (List ℕ)
  pub text : words ≡ ors ++ last
  pub any : Front (codes "or") (SpellsAll (SpellsTest schema o.room)) ors o.any
  pub all : Parted (codes "and") (SpellsTest schema o.room) last o.all
  pub none : o.nots ≡ 0

pub begun_new : (schema : Schema) (room : ℕ) → Begun schema (new_level room) []
begun_new schema room = record { ors = []; ands = []; text = refl; any = refl; all = refl; within = omega arith }

-- a test that stands behind them
test_ends : (schema : Schema) (o : Open) (words part : List (List ℕ)) (f : Formula) (depth : ℕ) → Begun schema o words → o.nots + depth ≡ o.room → SpellsTest schema depth part f
    → Tested schema (with_test o f) (words ++ part)
test_ends schema o words part f depth b room h =
    let test = subst (λ (d : ℕ). SpellsTest schema d (nots o.nots ++ part) (turned o.nots f)) room (deeper schema o.nots depth part f h) in
    record {
      ors = b.ors;
      last = b.ands ++ (nots o.nots ++ part);
      text = ap (λ (ws : List (List ℕ)). ws ++ part) b.text ∙ simp append_assoc;
      any = b.any;
      all = front_ended (codes "and") (SpellsTest schema o.room) o.all b.ands (nots o.nots ++ part) (turned o.nots f) b.all test;
      none = refl;
    }

-- `and`, `or`
and_begins : (schema : Schema) (o : Open) (words : List (List ℕ)) → Tested schema o words → Begun schema o (words ++ codes "and" ∷ [])
and_begins schema o words h = record {
  ors = h.ors;
  ands = h.last ++ codes "and" ∷ [];
  text = ap (λ (ws : List (List ℕ)). ws ++ codes "and" ∷ []) h.text ∙ append_assoc h.ors h.last (codes "and" ∷ [])
      ∙ rw h.none (ap (λ (ws : List (List ℕ)). h.ors ++ ws) (sym (append-nil (h.last ++ codes "and" ∷ []))));
  any = h.any;
  all = front_from (codes "and") (SpellsTest schema o.room) o.all h.last h.all;
  within = omega (arith, h.none);
}

or_begins : (schema : Schema) (o : Open) (words : List (List ℕ)) → Tested schema o words → Begun schema (with_all o) (words ++ codes "or" ∷ [])
or_begins schema o words h = record {
  ors = h.ors ++ (h.last ++ codes "or" ∷ []);
  ands = [];
  text = ap (λ (ws : List (List ℕ)). ws ++ codes "or" ∷ []) h.text ∙ append_assoc h.ors h.last (codes "or" ∷ []) ∙ rw h.none (sym (append-nil (h.ors ++ (h.last ++ codes "or" ∷ []))));
  any = front_more (codes "or") (SpellsAll (SpellsTest schema o.room)) o.any h.ors h.last (all_of o.all) h.any (o.all, h.all, refl);
  all = refl;
  within = omega (arith, h.none);
}

not_begins : (schema : Schema) (o : Open) (words : List (List ℕ)) → Begun schema o words → o.nots < o.room → Begun schema (record o { nots = o.nots + 1 }) (words ++ codes "not" ∷ [])
not_begins schema o words b less =
    let more : nots o.nots ++ codes "not" ∷ [] ≡ nots (o.nots + 1) = rw add-one (nots-more o.nots) in
    record {
      ors = b.ors;
      ands = b.ands;
      text = ap (λ (ws : List (List ℕ)). ws ++ codes "not" ∷ []) b.text ∙ append_assoc b.ors (b.ands ++ nots o.nots) (codes "not" ∷ [])
          ∙ ap (λ (ws : List (List ℕ)). b.ors ++ ws) (append_assoc b.ands (nots o.nots) (codes "not" ∷ []) ∙ ap (λ (ws : List (List ℕ)). b.ands ++ ws) more);
      any = b.any;
      all = b.all;
      within = omega (arith, less);
    }

-- the predicate behind a test
predicate_ends : (schema : Schema) (o : Open) (words : List (List ℕ)) → Tested schema o words → SpellsAny (SpellsTest schema o.room) words (predicate_in o)
predicate_ends schema o words h = (
  o.any ++ all_of o.all ∷ [],
  subst (λ (ws : List (List ℕ)). Parted (codes "or") (SpellsAll (SpellsTest schema o.room)) ws (o.any ++ all_of o.all ∷ [])) (sym h.text)
      (front_ended (codes "or") (SpellsAll (SpellsTest schema o.room)) o.any h.ors h.last (all_of o.all) h.any (o.all, h.all, refl)),
  refl,
)

-- ---- what has been read outside, and in all

abbrev pub Outside : Schema → List Open → List (List ℕ) → ℕ → Type 0
Outside schema [] words room = (words ≡ []) × (room ≡ most_nested)
Outside schema (o ∷ outer) words room =
    (front here : List (List ℕ)) × (words ≡ front ++ (here ++ codes "(" ∷ [])) × Outside schema outer front o.room × Begun schema o here × (o.nots + 1 + room ≡ o.room)

abbrev pub Here : Schema → Open → Next → List (List ℕ) → Type 0
Here schema o Test words = Begun schema o words
Here schema o (NotOrColumn number kind) words =
    (before : List (List ℕ)) × (words ≡ before ++ codes "not" ∷ []) × Begun schema o before × (column_at schema (codes "not") ≡ Some (number, kind)) × (o.nots < o.room)
Here schema o (Operator number kind) words =
    (before : List (List ℕ)) × (column : List ℕ) × (words ≡ before ++ column ∷ []) × Begun schema o before × (column_at schema column ≡ Some (number, kind))
Here schema o (Value number kind comparison) words =
    (before : List (List ℕ)) × (column : List ℕ) × (words ≡ before ++ column ∷ comparison_word comparison ∷ []) × Begun schema o before × (column_at schema column ≡ Some (number, kind))
Here schema o Join words = Tested schema o words

pub record Stands (schema : Schema) (words : List (List ℕ)) (s : State) : Type 0 where
  pub front : List (List ℕ)
  pub here : List (List ℕ)
  pub text : words ≡ front ++ here
  pub outside : Outside schema s.outer front s.inner.room
  pub inner : Here schema s.inner s.next here

pub stands_at_start : (schema : Schema) → Stands schema [] (start most_nested)
stands_at_start schema = record { front = []; here = []; text = refl; outside = (refl, refl); inner = begun_new schema most_nested }

-- whatever is read behind words, if a word was
abbrev pub Goes : Schema → List (List ℕ) → Option State → Type 0
Goes schema words None = Unit {0}
Goes schema words (Some t) = Stands schema words t

longer : (words front here : List (List ℕ)) (word : List ℕ) → words ≡ front ++ here → words ++ word ∷ [] ≡ front ++ (here ++ word ∷ [])
longer words front here word e = ap (λ (ws : List (List ℕ)). ws ++ word ∷ []) e ∙ append_assoc front here (word ∷ [])

-- with another word here
stays : (schema : Schema) (words front here : List (List ℕ)) (word : List ℕ) (outer : List Open) (o : Open) (next : Next) → words ≡ front ++ here → Outside schema outer front o.room
    → Here schema o next (here ++ word ∷ []) → Stands schema (words ++ word ∷ []) (state outer o next)
stays schema words front here word outer o next text out is = record { front = front; here = here ++ word ∷ []; text = longer words front here word text; outside = out; inner = is }

-- whether there is room, and what it is
room_left : (o : Open) → has_room o ≡ true → o.nots < o.room
room_left o e = ltb-true _ _ e

opens : (schema : Schema) (words front here : List (List ℕ)) (outer : List Open) (o : Open) → words ≡ front ++ here → Outside schema outer front o.room → Begun schema o here
    → Goes schema (words ++ codes "(" ∷ []) (opened outer o (inside o))
opens schema words front here outer o text out begun = elim (cases_Bool (has_room o)) [
  | inl is ↦ rw is (record {
    front = words ++ codes "(" ∷ [];
    here = [];
    text = sym (append-nil (words ++ codes "(" ∷ []));
    outside = (front, here, longer words front here (codes "(") text, out, begun, omega (arith, room_left o is));
    inner = begun_new schema (o.room - o.nots - 1);
  })
  | inr other ↦ rw other tt
]

nots_go : (schema : Schema) (words front here : List (List ℕ)) (outer : List Open) (o : Open) (c : Option (ℕ × ColumnKind)) → words ≡ front ++ here → Outside schema outer front o.room
    → Begun schema o here → column_at schema (codes "not") ≡ c → Goes schema (words ++ codes "not" ∷ []) (not_read outer o c)
nots_go schema words front here outer o None text out begun is = elim (cases_Bool (has_room o)) [
  | inl room ↦ rw room (stays schema words front here (codes "not") outer (record o { nots = o.nots + 1 }) Test text out (not_begins schema o here begun (room_left o room)))
  | inr other ↦ rw other tt
]
nots_go schema words front here outer o (Some p) text out begun is = elim (cases_Bool (has_room o)) [
  | inl room ↦ rw room (stays schema words front here (codes "not") outer o (NotOrColumn p.0 p.1) text out (here, refl, begun, is, room_left o room))
  | inr other ↦ rw other (stays schema words front here (codes "not") outer o (Operator p.0 p.1) text out (here, codes "not", refl, begun, is))
]

columns_go : (schema : Schema) (words front here : List (List ℕ)) (outer : List Open) (o : Open) (word : List ℕ) (c : Option (ℕ × ColumnKind)) → words ≡ front ++ here
    → Outside schema outer front o.room → Begun schema o here → column_at schema word ≡ c → Goes schema (words ++ word ∷ []) (column_read outer o c)
columns_go schema words front here outer o word None text out begun is = tt
columns_go schema words front here outer o word (Some p) text out begun is = stays schema words front here word outer o (Operator p.0 p.1) text out (here, word, refl, begun, is)

tests_go : (schema : Schema) (words front here : List (List ℕ)) (outer : List Open) (o : Open) (word : List ℕ) → words ≡ front ++ here → Outside schema outer front o.room → Begun schema o here
    → Goes schema (words ++ word ∷ []) (test_read schema outer o word)
tests_go schema words front here outer o word text out begun = elim (cases_Bool (bytes_eq word (codes "("))) [
  | inl is ↦
      let same = (bytes_eq-Decides word (codes "(")).0 is in
      rw is (subst (λ (w : List ℕ). Goes schema (words ++ w ∷ []) (opened outer o (inside o))) (sym same) (opens schema words front here outer o text out begun))
  | inr no_open ↦ elim (cases_Bool (bytes_eq word (codes "not"))) [
    | inl is ↦
        (let same = (bytes_eq-Decides word (codes "not")).0 is in
        rw (no_open, is) (subst (λ (w : List ℕ). Goes schema (words ++ w ∷ []) (not_read outer o (column_at schema w))) (sym same)
        (nots_go schema words front here outer o (column_at schema (codes "not")) text out begun refl)))
    | inr no_not ↦ rw (no_open, no_not) (columns_go schema words front here outer o word (column_at schema word) text out begun refl)
  ]
]

-- a column and its operator
compared : (before here : List (List ℕ)) (column word : List ℕ) (c : Comparison) → here ≡ before ++ column ∷ [] → word ≡ comparison_word c
    → here ++ word ∷ [] ≡ before ++ column ∷ comparison_word c ∷ []
compared before here column word c text is = ap (λ (ws : List (List ℕ)). ws ++ word ∷ []) text ∙ append_assoc before (column ∷ []) (word ∷ []) ∙ ap (λ (w : List ℕ). before ++ column ∷ w ∷ []) is

operators_go : (schema : Schema) (words front here before : List (List ℕ)) (outer : List Open) (o : Open) (column word : List ℕ) (number : ℕ) (kind : ColumnKind) (c : Option Comparison)
    → words ≡ front ++ here → Outside schema outer front o.room → here ≡ before ++ column ∷ [] → Begun schema o before → column_at schema column ≡ Some (number, kind) → comparison_at word ≡ c
    → Goes schema (words ++ word ∷ []) (operator_read outer o number kind c)
operators_go schema words front here before outer o column word number kind None text out at begun named is = tt
operators_go schema words front here before outer o column word number kind (Some c) text out at begun named is =
    stays schema words front here word outer o (Value number kind c) text out (before, column, compared before here column word c at (comparison_at-some word c is), begun, named)

behind_not_go : (schema : Schema) (words front here before : List (List ℕ)) (outer : List Open) (o : Open) (word : List ℕ) (number : ℕ) (kind : ColumnKind) (c : Option Comparison)
    → words ≡ front ++ here → Outside schema outer front o.room → here ≡ before ++ codes "not" ∷ [] → Begun schema o before → column_at schema (codes "not") ≡ Some (number, kind) → o.nots < o.room
    → comparison_at word ≡ c → Goes schema (words ++ word ∷ []) (not_or_read schema outer o number kind word c)
behind_not_go schema words front here before outer o word number kind None text out at begun named less is =
    let room : has_room o ≡ true = lt-ltb o.nots o.room less in
    let turned = subst (λ (ws : List (List ℕ)). Begun schema (record o { nots = o.nots + 1 }) ws) (sym at) (not_begins schema o before begun less) in
    rw room (tests_go schema words front here outer (record o { nots = o.nots + 1 }) word text out turned)
behind_not_go schema words front here before outer o word number kind (Some c) text out at begun named less is =
    stays schema words front here word outer o (Value number kind c) text out (before, codes "not", compared before here (codes "not") word c at (comparison_at-some word c is), begun, named)

values_go : (schema : Schema) (words front here before : List (List ℕ)) (outer : List Open) (o : Open) (column word : List ℕ) (number : ℕ) (kind : ColumnKind) (c : Comparison) (value : Option Cell)
    → words ≡ front ++ here → Outside schema outer front o.room → here ≡ before ++ column ∷ comparison_word c ∷ [] → Begun schema o before → column_at schema column ≡ Some (number, kind)
    → cell_at kind word ≡ value → Goes schema (words ++ word ∷ []) (value_read outer o number c value)
values_go schema words front here before outer o column word number kind c None text out at begun named is = tt
values_go schema words front here before outer o column word number kind c (Some cell) text out at begun named is =
    let test : SpellsComparison schema (column ∷ comparison_word c ∷ word ∷ []) (Compares number c cell) = record {
      column = column;
      number = number;
      kind = kind;
      comparison = c;
      value = word;
      cell = cell;
      text = refl;
      named = named;
      spelled = cell_at-some kind word cell is;
      formula = refl;
    } in
    let ends = test_ends schema o before (column ∷ comparison_word c ∷ word ∷ []) (Compares number c cell) (o.room - o.nots) begun (omega (arith, begun.within))
    (any_depth schema (o.room - o.nots) (column ∷ comparison_word c ∷ word ∷ []) (Compares number c cell) test) in
    let joined : here ++ word ∷ [] ≡ before ++ column ∷ comparison_word c ∷ word ∷ [] =
    ap (λ (ws : List (List ℕ)). ws ++ word ∷ []) at ∙ append_assoc before (column ∷ comparison_word c ∷ []) (word ∷ []) in
    stays schema words front here word outer (with_test o (Compares number c cell)) Join text out
    (subst (λ (ws : List (List ℕ)). Tested schema (with_test o (Compares number c cell)) ws) (sym joined) ends)

closes_go : (schema : Schema) (words front here : List (List ℕ)) (outer : List Open) (inner : Open) → words ≡ front ++ here → Outside schema outer front inner.room → Tested schema inner here
    → Goes schema (words ++ codes ")" ∷ []) (closed outer inner)
unfolding SpellsTest
closes_go schema words front here [] inner text out h = tt
closes_go schema words front here (o ∷ outer) inner text out h =
    let test : SpellsTest schema (suc inner.room) (codes "(" ∷ (here ++ codes ")" ∷ [])) (predicate_in inner) = inr (inr (here, refl, predicate_ends schema inner here h)) in
    let ends = test_ends schema o out.1 (codes "(" ∷ (here ++ codes ")" ∷ [])) (predicate_in inner) (suc inner.room) out.4 (omega (arith, out.5)) test in
    let joined : words ++ codes ")" ∷ [] ≡ out.0 ++ (out.1 ++ codes "(" ∷ (here ++ codes ")" ∷ [])) =
    longer words front here (codes ")") text ∙ ap (λ (ws : List (List ℕ)). ws ++ (here ++ codes ")" ∷ [])) out.2 ∙ append_assoc out.0 (out.1 ++ codes "(" ∷ []) (here ++ codes ")" ∷ [])
    ∙ ap (λ (ws : List (List ℕ)). out.0 ++ ws) (append_assoc out.1 (codes "(" ∷ []) (here ++ codes ")" ∷ [])) in
    record { front = out.0; here = out.1 ++ codes "(" ∷ (here ++ codes ")" ∷ []); text = joined; outside = out.3; inner = ends }

joins_go : (schema : Schema) (words front here : List (List ℕ)) (outer : List Open) (o : Open) (word : List ℕ) → words ≡ front ++ here → Outside schema outer front o.room → Tested schema o here
    → Goes schema (words ++ word ∷ []) (join_read outer o word)
joins_go schema words front here outer o word text out h = elim (cases_Bool (bytes_eq word (codes "and"))) [
  | inl is ↦
      let same = (bytes_eq-Decides word (codes "and")).0 is in
      rw is (stays schema words front here word outer o Test text out (subst (λ (w : List ℕ). Begun schema o (here ++ w ∷ [])) (sym same) (and_begins schema o here h)))
  | inr no_and ↦ elim (cases_Bool (bytes_eq word (codes "or"))) [
    | inl is ↦
        (let same = (bytes_eq-Decides word (codes "or")).0 is in
        rw (no_and, is) (stays schema words front here word outer (with_all o) Test text out
        (subst (λ (w : List ℕ). Begun schema (with_all o) (here ++ w ∷ [])) (sym same) (or_begins schema o here h))))
    | inr no_or ↦ elim (cases_Bool (bytes_eq word (codes ")"))) [
      | inl is ↦
          (let same = (bytes_eq-Decides word (codes ")")).0 is in
          rw (no_and, no_or, is) (subst (λ (w : List ℕ). Goes schema (words ++ w ∷ []) (closed outer o)) (sym same) (closes_go schema words front here outer o text out h)))
      | inr no_close ↦ rw (no_and, no_or, no_close) tt
    ]
  ]
]

words_go : (schema : Schema) (words front here : List (List ℕ)) (outer : List Open) (o : Open) (next : Next) (word : List ℕ) → words ≡ front ++ here → Outside schema outer front o.room
    → Here schema o next here → Goes schema (words ++ word ∷ []) (read schema (state outer o next) word)
unfolding read
words_go schema words front here outer o Test word text out h = tests_go schema words front here outer o word text out h
words_go schema words front here outer o (NotOrColumn number kind) word text out h =
    behind_not_go schema words front here h.0 outer o word number kind (comparison_at word) text out h.1 h.2 h.3 h.4 refl
words_go schema words front here outer o (Operator number kind) word text out h =
    operators_go schema words front here h.0 outer o h.1 word number kind (comparison_at word) text out h.2 h.3 h.4 refl
words_go schema words front here outer o (Value number kind c) word text out h =
    values_go schema words front here h.0 outer o h.1 word number kind c (cell_at kind word) text out h.2 h.3 h.4 refl
words_go schema words front here outer o Join word text out h = joins_go schema words front here outer o word text out h

pub stands-read : (schema : Schema) (words : List (List ℕ)) (s t : State) (word : List ℕ) → Stands schema words s → read schema s word ≡ Some t → Stands schema (words ++ word ∷ []) t
stands-read schema words s t word h e = subst (Goes schema (words ++ word ∷ [])) e (words_go schema words h.front h.here s.outer s.inner s.next word h.text h.outside h.inner)

pub stands-run : (schema : Schema) (more words : List (List ℕ)) (s t : State) → Stands schema words s → run schema s more ≡ Some t → Stands schema (words ++ more) t
stands-run schema [] words s t h e = subst (λ (ws : List (List ℕ)). Stands schema ws t) (sym (append-nil words)) (subst (Stands schema words) (some_same s t e) h)
stands-run schema (word ∷ more) words s t h e =
    let b = behind-some (read schema s word) (λ (u : State). run schema u more) t e in
    let next = stands-run schema more (words ++ word ∷ []) b.0 t (stands-read schema words s b.0 word h b.1) b.2 in
    subst (λ (ws : List (List ℕ)). Stands schema ws t) (append_assoc words (word ∷ []) more) next

ended_so : (schema : Schema) (words front here : List (List ℕ)) (outer : List Open) (o : Open) (next : Next) (f : Formula) → words ≡ front ++ here → Outside schema outer front o.room
    → Here schema o next here
    → ended_by outer o next ≡ Some f → SpellsFormula schema words f
ended_so schema words front here [] o Join f text out h e =
    let is = predicate_ends schema o here h in
    let same : predicate_in o ≡ f = some_same (predicate_in o) f e in
    let whole : here ≡ words = ap (λ (ws : List (List ℕ)). ws ++ here) (sym out.0) ∙ sym text in
    subst (λ (ws : List (List ℕ)). SpellsFormula schema ws f) whole (subst (SpellsFormula schema here) same (subst (λ (room : ℕ). SpellsAny (SpellsTest schema room) here (predicate_in o)) out.1 is))
ended_so schema words front here [] o Test f text out h e = absurd (none_some f e)
ended_so schema words front here [] o (NotOrColumn number kind) f text out h e = absurd (none_some f e)
ended_so schema words front here [] o (Operator number kind) f text out h e = absurd (none_some f e)
ended_so schema words front here [] o (Value number kind c) f text out h e = absurd (none_some f e)
ended_so schema words front here (p ∷ outer) o next f text out h e = absurd (none_some f e)

pub stands-ended : (schema : Schema) (words : List (List ℕ)) (s : State) (f : Formula) → Stands schema words s → ended s ≡ Some f → SpellsFormula schema words f
unfolding ended
stands-ended schema words s f h e = ended_so schema words h.front h.here s.outer s.inner s.next f h.text h.outside h.inner e
