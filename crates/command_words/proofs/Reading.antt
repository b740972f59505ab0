-- The command that the parse finds in the words is the one that the definition says.
use Rattle.std.proofs.Common.{◌≡◌, ◌∙◌, ◌⊎◌, ℕ, Bool, true, false, ◌&&◌, ◌||◌, eqb, List, [], ◌∷◌, ◌++◌, Option, Some}
use Rattle.std.proofs.Common.{None, option_map, Result, Ok, Err, IfOk, MatchResult, refl, sym, ap, ap₂, subst, inl, inr, codes, is_some}
use Rattle.std.specs.Prelude.{fold, option_and_then}
use Rattle.std.specs.List.{list_any}
use Rattle.std.specs.Str.{bytes_eq}
use Rattle.std.proofs.lemmas.Bool.{cases_Bool, eqb-true}
use Rattle.std.proofs.lemmas.Slice.Eq.{bytes_eq-Decides}
use Rattle.clap.specs.Words.{App, FailsBy, HasMatchesOf, IsAmong, Text, fault_of, first_of, is_simple_and_free, kind_of, subcommand_of}
use Rattle.clap.specs.declared.error.Error.{Error}
use Rattle.clap.specs.declared.parser.matches.ArgMatches.{ArgMatches}
use Rattle.clap.specs.declared.error.kind.ErrorKind.TheVariants.{OutOfMemory}
use Rattle.command_words.specs.declared.fault.WordsFault.{WordsFault}
use Rattle.command_words.specs.declared.fault.WordsFault.TheVariants.{Usage, Memory}
use Rattle.clap.specs.Walk.{Names, Walk, arg_by_index, finished, idle, nothing_held, rows_after, settled, subcommand_met, to_positional, value, walk, walk_from, walked}
use Rattle.clap.specs.Simple.{Shape, built, built_leaf, entered, inherited, names_of, new_shape, rows_at}
use Rattle.clap.specs.Kinds.{Kinds, or_else}
use Rattle.clap.specs.Faults.{check_fault, defaults_fault, entered_fault, level_fault, settle_fault, step_fault, turn_fault, walk_fault}
use Rattle.clap.specs.declared.error.kind.ErrorKind.{ErrorKind}
use Rattle.clap.proofs.FaultLemmas.{stopped_fault}
use Rattle.clap.proofs.WalkLemmas.{walk_stopped}
use Rattle.clap.proofs.OnLiterals.{clap_on_literals}
use Rattle.command_words.specs.declared.command.Command.{Command}
use Rattle.command_words.specs.declared.command.Command.TheVariants.{Run, Report, Load}
use Rattle.command_words.specs.Commands.{IsCause, command_of, number_of, one_word, two_words}
use Rattle.command_words.specs.Program.{FailsAt, IsFoundIn, command_in, is_flag, load, program, start}
use Rattle.command_words.proofs.Turns.{turn_is, walked_is, first_none, second_none, only_first}

-- ---- what the parse does, in names of its own

abbrev whole : App
whole = built program

abbrev names : Names
names = names_of whole

-- a subcommand as it is built
abbrev sub : Shape → Shape
sub s = built_leaf (inherited start.top s)

abbrev own_fault : Shape → List Text → Kinds
own_fault s words = level_fault s [] nothing_held words false []

-- what is asked behind the walk
abbrev behind : Shape → Bool → Kinds → Walk → Kinds
behind s has below w = or_else below (or_else (settle_fault s.rules s.args_override_self w.held)
    (or_else (defaults_fault (settled s.rules w.held).rows s.rules) (check_fault s (finished s.rules w.held) has)))

abbrev at_top : Kinds → Walk → Kinds
at_top walking w = or_else walking (behind whole.top (is_some (entered whole w.stopped)) (entered_fault whole w.stopped) w)

neither : (a b : Bool) → (a || b) ≡ false → (a ≡ false) × (b ≡ false)
neither false b e = (refl, e)
neither true b e = absurd cc

is_nothing : (k : ErrorKind) (ks : Kinds) → k ∷ ks ≡ [] → ⊥
is_nothing k ks e = cc

-- a level that has no fault has none in its walk, and none in the first turn
walking_none : (s : Shape) (ns : Names) (words : List Text) (has : Bool) (below : Kinds) → level_fault s ns nothing_held words has below ≡ []
    → walk_fault s ns (walk_from nothing_held) words ≡ []
walking_none s ns words has below e = first_none (walk_fault s ns (walk_from nothing_held) words) (behind s has below (walk s.rules ns nothing_held words)) e

turn_none : (s : Shape) (ns : Names) (w : Walk) (word : Text) (rest : List Text) → walk_fault s ns w (word ∷ rest) ≡ [] → turn_fault s ns w word ≡ []
unfolding walk_fault
turn_none s ns w word rest e = first_none (turn_fault s ns w word) (walk_fault s ns (walked s.rules ns w word) rest) e

turns_none : (s : Shape) (ns : Names) (w : Walk) (word : Text) (rest : List Text) → walk_fault s ns w (word ∷ rest) ≡ []
    → walk_fault s ns (walked s.rules ns w word) rest ≡ []
unfolding walk_fault
turns_none s ns w word rest e = second_none (turn_fault s ns w word) (walk_fault s ns (walked s.rules ns w word) rest) e

-- a word that no positional takes
stray : (s : Shape) (word : Text) (more : List Text) → s.rules ≡ [] → s.is_leaf ≡ true → is_flag word ≡ false → own_fault s (word ∷ more) ≡ [] → ⊥
stray s word more none leaf plain e =
    let turn = turn_none s [] (walk_from nothing_held) word more (walking_none s [] (word ∷ more) false [] e) in
    let step : step_fault s 1 nothing_held value ≡ [] = sym (turn_is s [] nothing_held 1 word refl plain) ∙ turn in
    is_nothing _ _ (rw (none, leaf) at step)

-- ---- what is said of all words

abbrev pub Told : List Text → Type 0
Told words = ((fault_of program words ≡ []) × (command_of words ≡ command_in (subcommand_of program words)))
    ⊎ ((fault_of program words ≡ [] → ⊥) × (command_of words ≡ None))

no_load : (word text : Text) (more : List Text) → bytes_eq word (codes "load") ≡ false → command_of (word ∷ text ∷ more) ≡ None
no_load word text [] e = rw e refl
no_load word text (more ∷ rest) e = refl

-- a word that stands alone
module _ (name : Text) (s : Shape) (command : Command)
    (enters : (rest : List Text) → fault_of program (name ∷ rest) ≡ own_fault s rest)
    (finds : (rest : List Text) → subcommand_of program (name ∷ rest) ≡ Some (rows_at s rest))
    (rules : s.rules ≡ []) (leaf : s.is_leaf ≡ true) (passes : own_fault s [] ≡ []) (no_number : bytes_eq name (codes "load") ≡ false)
    (one : one_word name ≡ Some command) (same : command_in (Some (rows_at s [])) ≡ Some command) where
  told_alone : (rest : List Text) → list_any is_flag rest ≡ false → Told (name ∷ rest)
  told_alone [] plain = inl (enters [] ∙ passes, one ∙ sym same ∙ ap command_in (sym (finds [])))
  told_alone (word ∷ more) plain = inr (
    (λ e. stray s word more rules leaf (neither (is_flag word) _ plain).0 (sym (enters (word ∷ more)) ∙ e)),
    no_load name word more no_number,
  )

-- ---- the subcommands

run_enters : (rest : List Text) → fault_of program (codes "run" ∷ rest) ≡ own_fault (sub (new_shape (codes "run"))) rest
unfolding clap_on_literals
run_enters rest = ap₂ at_top (stopped_fault whole.top names (walk_from nothing_held) (codes "run", []) rest)
    (sym (walk_stopped whole.top.rules names (walk_from nothing_held) (codes "run") [] rest)) ∙ only_first (own_fault (sub (new_shape (codes "run"))) rest)

run_finds : (rest : List Text) → subcommand_of program (codes "run" ∷ rest) ≡ Some (rows_at (sub (new_shape (codes "run"))) rest)
unfolding clap_on_literals
run_finds rest = ap (λ (w : Walk). entered whole w.stopped) (sym (walk_stopped whole.top.rules names (walk_from nothing_held) (codes "run") [] rest))

told_run : (rest : List Text) → list_any is_flag rest ≡ false → Told (codes "run" ∷ rest)
unfolding clap_on_literals
told_run = told_alone (codes "run") (sub (new_shape (codes "run"))) Run run_enters run_finds refl refl refl refl refl refl

report_enters : (rest : List Text) → fault_of program (codes "report" ∷ rest) ≡ own_fault (sub (new_shape (codes "report"))) rest
unfolding clap_on_literals
report_enters rest = ap₂ at_top (stopped_fault whole.top names (walk_from nothing_held) (codes "report", []) rest)
    (sym (walk_stopped whole.top.rules names (walk_from nothing_held) (codes "report") [] rest)) ∙ only_first (own_fault (sub (new_shape (codes "report"))) rest)

report_finds : (rest : List Text) → subcommand_of program (codes "report" ∷ rest) ≡ Some (rows_at (sub (new_shape (codes "report"))) rest)
unfolding clap_on_literals
report_finds rest = ap (λ (w : Walk). entered whole w.stopped) (sym (walk_stopped whole.top.rules names (walk_from nothing_held) (codes "report") [] rest))

told_report : (rest : List Text) → list_any is_flag rest ≡ false → Told (codes "report" ∷ rest)
unfolding clap_on_literals
told_report = told_alone (codes "report") (sub (new_shape (codes "report"))) Report report_enters report_finds refl refl refl refl refl refl

load_enters : (rest : List Text) → fault_of program (codes "load" ∷ rest) ≡ own_fault (sub load.top) rest
unfolding clap_on_literals
load_enters rest = ap₂ at_top (stopped_fault whole.top names (walk_from nothing_held) (codes "load", []) rest)
    (sym (walk_stopped whole.top.rules names (walk_from nothing_held) (codes "load") [] rest)) ∙ only_first (own_fault (sub load.top) rest)

load_finds : (rest : List Text) → subcommand_of program (codes "load" ∷ rest) ≡ Some (rows_at (sub load.top) rest)
unfolding clap_on_literals
load_finds rest = ap (λ (w : Walk). entered whole w.stopped) (sym (walk_stopped whole.top.rules names (walk_from nothing_held) (codes "load") [] rest))

-- ---- the number behind `load`

module _ (text : Text) (plain : is_flag text ≡ false) where
  -- the walk behind it
  abbrev next : Walk
  next = to_positional (sub load.top).rules (arg_by_index (sub load.top).rules 1) text (walk_from nothing_held) nothing_held

  number_walked : ◌≡◌ {A = Walk} (walked (sub load.top).rules [] (walk_from nothing_held) text) next
  number_walked = walked_is (sub load.top) [] nothing_held 1 text refl plain

  number_passes : own_fault (sub load.top) (text ∷ []) ≡ []
  unfolding clap_on_literals
  number_passes = ap₂ (λ (turn : Kinds) (w : Walk). or_else (or_else turn []) (behind (sub load.top) false [] w))
      (turn_is (sub load.top) [] nothing_held 1 text refl plain) number_walked

  number_found : first_of (codes "N") (rows_after (sub load.top).rules [] (text ∷ [])) ≡ Some text
  unfolding clap_on_literals
  number_found = ap (λ (w : Walk). first_of (codes "N") (finished (sub load.top).rules w.held)) number_walked

  no_third : (word : Text) (more : List Text) → is_flag word ≡ false → own_fault (sub load.top) (text ∷ word ∷ more) ≡ [] → ⊥
  no_third word more other e =
      let walking = walking_none (sub load.top) [] (text ∷ word ∷ more) false [] e in
      let rest = turns_none (sub load.top) [] (walk_from nothing_held) text (word ∷ more) walking in
      let turn = turn_none (sub load.top) [] (walked (sub load.top).rules [] (walk_from nothing_held) text) word more rest in
      let here : turn_fault (sub load.top) [] next word ≡ [] = sym (ap (λ (w : Walk). turn_fault (sub load.top) [] w word) number_walked) ∙ turn in
      let step : step_fault (sub load.top) 2 next.held value ≡ [] = sym (turn_is (sub load.top) [] next.held 2 word refl other) ∙ here in
      is_nothing _ _ step

no_number : fault_of program (codes "load" ∷ []) ≡ [] → ⊥
unfolding clap_on_literals
no_number e = is_nothing _ _ e

told_load : (rest : List Text) → list_any is_flag rest ≡ false → Told (codes "load" ∷ rest)
told_load [] plain = inr (no_number, refl)
told_load (text ∷ []) plain =
    let p = neither (is_flag text) _ plain in
    inl (
      load_enters (text ∷ []) ∙ number_passes text p.0,
      ap (λ (o : Option Text). option_map Load (option_and_then number_of o)) (sym (number_found text p.0)) ∙ ap command_in (sym (load_finds (text ∷ []))),
    )
told_load (text ∷ word ∷ more) plain =
    let p = neither (is_flag text) _ plain in
    let q = neither (is_flag word) _ p.1 in
    inr ((λ e. no_third text p.0 word more q.0 (sym (load_enters (text ∷ word ∷ more)) ∙ e)), refl)

-- ---- any words

differs : (a b : Text) → (a ≡ b → ⊥) → bytes_eq a b ≡ false
differs a b other = elim (cases_Bool (bytes_eq a b)) [
  | inl same ↦ absurd (other ((bytes_eq-Decides a b).0 same))
  | inr isnt ↦ isnt
]

is_other : (a b : Text) → bytes_eq a b ≡ false → a ≡ b → ⊥
is_other a b unlike same =
    let equal = (bytes_eq-Decides a b).1 same in
    cc

none_met : (word : Text) → bytes_eq (codes "run") word ≡ false → bytes_eq (codes "report") word ≡ false → bytes_eq (codes "load") word ≡ false
    → subcommand_met names idle word ≡ None
none_met word a b c = rw (a, b, c) refl

told_other : (word : Text) (rest : List Text) → is_flag word ≡ false → (word ≡ codes "run" → ⊥) → (word ≡ codes "report" → ⊥) → (word ≡ codes "load" → ⊥)
    → Told (word ∷ rest)
told_other word rest plain isnt_run isnt_report isnt_load = inr (fails, none rest)
  where
    met : subcommand_met names idle word ≡ None
    met = none_met word (differs _ _ (λ e. isnt_run (sym e))) (differs _ _ (λ e. isnt_report (sym e))) (differs _ _ (λ e. isnt_load (sym e)))

    fails : fault_of program (word ∷ rest) ≡ [] → ⊥
    fails e =
        let walking = walking_none whole.top names (word ∷ rest) _ _ e in
        let turn = turn_none whole.top names (walk_from nothing_held) word rest walking in
        let step : step_fault whole.top 1 nothing_held value ≡ [] = sym (turn_is whole.top names nothing_held 1 word met plain) ∙ turn in
        is_nothing _ _ step

    none : (more : List Text) → command_of (word ∷ more) ≡ None
    none [] = rw (differs word _ isnt_run, differs word _ isnt_report) refl
    none (text ∷ more) = no_load word text more (differs word _ isnt_load)

nothing_told : fault_of program [] ≡ [] → ⊥
unfolding clap_on_literals
nothing_told e = is_nothing _ _ e

-- where no word is a flag, the parse fails or finds the command
pub told : (words : List Text) → list_any is_flag words ≡ false → Told words
told [] plain = inr (nothing_told, refl)
told (word ∷ rest) plain =
    let p = neither (is_flag word) _ plain in
    elim (cases_Bool (bytes_eq word (codes "run"))) [
      | inl same ↦ subst (λ (first : Text). Told (first ∷ rest)) (sym ((bytes_eq-Decides word (codes "run")).0 same)) (told_run rest p.1)
      | inr run ↦ elim (cases_Bool (bytes_eq word (codes "report"))) [
        | inl same ↦ subst (λ (first : Text). Told (first ∷ rest)) (sym ((bytes_eq-Decides word (codes "report")).0 same)) (told_report rest p.1)
        | inr report ↦ elim (cases_Bool (bytes_eq word (codes "load"))) [
          | inl same ↦ subst (λ (first : Text). Told (first ∷ rest)) (sym ((bytes_eq-Decides word (codes "load")).0 same)) (told_load rest p.1)
          | inr other ↦ told_other word rest p.0 (is_other _ _ run) (is_other _ _ report) (is_other _ _ other)
        ]
      ]
    ]

-- ---- words that are flags

flag_alone : (word : Text) → is_flag word ≡ true → one_word word ≡ None
flag_alone [] e = absurd cc
flag_alone (b ∷ bytes) e = rw (eqb-true b 45 e) refl

flag_first : (word text : Text) → is_flag word ≡ true → two_words word text ≡ None
flag_first [] text e = absurd cc
flag_first (b ∷ bytes) text e = rw (eqb-true b 45 e) refl

flag_is_no_number : (text : Text) → is_flag text ≡ true → number_of text ≡ None
flag_is_no_number [] e = absurd cc
flag_is_no_number (b ∷ bytes) e = rw (eqb-true b 45 e) refl

either_none : (word text : Text) → number_of text ≡ None → two_words word text ≡ None
either_none word text none = elim (cases_Bool (bytes_eq word (codes "load"))) [
  | inl is ↦ rw (is, none) refl
  | inr isnt ↦ rw isnt refl
]

-- words one of which is a flag are no command
pub flagged : (words : List Text) → list_any is_flag words ≡ true → command_of words ≡ None
flagged [] e = refl
flagged (word ∷ []) e = elim (cases_Bool (is_flag word)) [
  | inl is ↦ flag_alone word is
  | inr isnt ↦ absurd (let bad : false ≡ true = rw isnt at e in cc)
]
flagged (word ∷ text ∷ []) e = elim (cases_Bool (is_flag word)) [
  | inl is ↦ flag_first word text is
  | inr isnt ↦ elim (cases_Bool (is_flag text)) [
    | inl is ↦ either_none word text (flag_is_no_number text is)
    | inr other ↦ absurd (let bad : false ≡ true = rw (isnt, other) at e in cc)
  ]
]
flagged (word ∷ text ∷ more ∷ rest) e = refl

-- ---- what the parse answers

found_is : (words : List Text) → list_any is_flag words ≡ false → fault_of program words ≡ [] → command_of words ≡ command_in (subcommand_of program words)
found_is words plain passes = elim (told words plain) [ inl p ↦ p.1 | inr q ↦ absurd (q.0 passes) ]

fails_is : (words : List Text) → list_any is_flag words ≡ false → (fault_of program words ≡ [] → ⊥) → command_of words ≡ None
fails_is words plain fails = elim (told words plain) [ inl p ↦ absurd (fails p.0) | inr q ↦ q.1 ]

among : (k : ErrorKind) (ks : Kinds) → IsAmong k ks → ks ≡ [] → ⊥
among k [] h e = h
among k (x ∷ xs) h e = is_nothing x xs e

module _ (words : List Text) (plain : list_any is_flag words ≡ false) where
  answers : (r : Result ArgMatches Error) → FailsBy (fault_of program words) r → IfOk r (HasMatchesOf program words)
      → MatchResult r (IsFoundIn words) (FailsAt words)
  unfolding clap_on_literals
  answers (Ok m) fails matches = found_is words plain fails ∙ ap command_in (sym (matches refl).1)
  answers (Err e) (inl memory) matches = inl memory
  answers (Err e) (inr known) matches = inr (fails_is words plain (among (kind_of e) (fault_of program words) known))

  pub parse_answers : (a : App) (r : Result ArgMatches Error) → a ≡ program → (is_simple_and_free a ≡ true → FailsBy (fault_of a words) r)
      → IfOk r (HasMatchesOf a words) → MatchResult r (IsFoundIn words) (FailsAt words)
  unfolding clap_on_literals
  parse_answers a r is fails matches =
      answers r (subst (λ (x : App). is_simple_and_free x ≡ true → FailsBy (fault_of x words) r) is fails refl)
      (subst (λ (x : App). IfOk r (HasMatchesOf x words)) is matches)

pub none_caused : (words : List Text) (fault : WordsFault) → command_of words ≡ None → IsCause words fault
none_caused words (Usage text) none = none
none_caused words Memory none = tt

-- what a failed parse tells
pub fault_caused : (words : List Text) (e : Error) (fault : WordsFault) → FailsAt words e → (kind_of e ≡ OutOfMemory → fault ≡ Memory)
    → IsCause words fault × ((fault ≡ Memory) ⊎ (command_of words ≡ None))
fault_caused words e fault (inl memory) tells = (subst (IsCause words) (sym (tells memory)) tt, inl (tells memory))
fault_caused words e fault (inr none) tells = (none_caused words fault none, inr none)
