-- A line that a run has carried out isn't bad and passes no limit.
use Rattle.std.proofs.Common.{◌≡◌, ◌⊎◌, ℕ, ◌<◌, ◌≤◌, List, [], ◌∷◌, ◌++◌, length, sym, ap, subst, ◌∙◌, inl, inr, append_assoc}
use Rattle.std.proofs.Common.{arith}
use Rattle.table_model.specs.declared.event.Event.{Event}
use Rattle.stab_io.specs.Lines.{Next, Line, LineTooLong, InputTooLong}
use Rattle.script_text.specs.Names.{Names}
use Rattle.script_text.specs.Grammar.{IsPassed, Spells}
use Rattle.simba_top.specs.declared.row_names.TheConstants.{MOST_ROWS}
use Rattle.simba_top.specs.RowNames.{rows_named, FewRows, NamesTooMany}
use Rattle.simba_top.specs.Script.{next_in, Behind, Spelled}
use Rattle.simba_top.proofs.RowNames.{rows_grow}
use Rattle.simba_top.proofs.Fronts.{Grammar, same_line}

-- a line behind a front that a longer one has carried out is passed over or spells an event
module _ (Is : Names → List ℕ → Type 0) (passed : (names : Names) (line : List ℕ) → IsPassed line → Is names line → ⊥)
    (spells : (names : Names) (line : List ℕ) (event : Event) → Spells names line event → Is names line → ⊥) where
  pub line_apart : (total : ℕ) (names after : Names) (rest end : List ℕ) (lines : List (List ℕ)) (script : List Event) (line left : List ℕ)
      → Behind total rest lines end → Spelled names lines script after → 0 < length lines → next_in total rest ≡ Line line left → Is names line → ⊥
  line_apart total names after rest end [] script line left behind spelled some next is = absurd (omega (arith, some))
  line_apart total names after rest end (same ∷ lines) script line left behind (inl s) some next is =
      passed names same s.0 (subst (λ (l : List ℕ). Is names l) (same_line total rest line same left behind.0 next behind.1) is)
  line_apart total names after rest end (same ∷ lines) script line left behind (inr s) some next is =
      spells names same s.0 s.3 (subst (λ (l : List ℕ). Is names l) (same_line total rest line same left behind.0 next behind.1) is)

-- and no byte past a limit
pub no_limit : (total : ℕ) (rest end : List ℕ) (lines : List (List ℕ)) (next : Next) → Behind total rest lines end → 0 < length lines
    → next_in total rest ≡ next → (next ≡ LineTooLong) ⊎ (next ≡ InputTooLong) → ⊥
no_limit total rest end [] next behind some is which = absurd (omega (arith, some))
no_limit total rest end (line ∷ lines) next behind some is which =
    let e : Line line behind.0 ≡ next = sym behind.1 ∙ is in
    elim which [ inl l ↦ (let f = e ∙ l in cc f) | inr i ↦ (let f = e ∙ i in cc f) ]

-- ---- no event is one too many

-- the event that the line behind a front spells is the next of a longer one
pub event_next : Grammar → (total : ℕ) (names after : Names) (rest end : List ℕ) (lines : List (List ℕ)) (script : List Event) (line left : List ℕ) (event : Event)
    → Behind total rest lines end → Spelled names lines script after → 0 < length lines → next_in total rest ≡ Line line left → Spells names line event
    → (more : List Event) × (script ≡ event ∷ more)
event_next grammar total names after rest end [] script line left event behind spelled some next spells = absurd (omega (arith, some))
event_next grammar total names after rest end (same ∷ lines) script line left event behind (inl s) some next spells =
    absurd (grammar.passed_spells names same event s.0
    (subst (λ (l : List ℕ). Spells names l event) (same_line total rest line same left behind.0 next behind.1) spells))
event_next grammar total names after rest end (same ∷ lines) script line left event behind (inr s) some next spells =
    let one : s.0 ≡ event = grammar.one_event names same s.0 event s.3
    (subst (λ (l : List ℕ). Spells names l event) (same_line total rest line same left behind.0 next behind.1) spells) in
    (s.1, s.2 ∙ ap (λ (e : Event). e ∷ s.1) one)

pub not_too_many : (script whole more : List Event) (event : Event) → whole ≡ script ++ event ∷ more → FewRows whole → NamesTooMany script event → ⊥
not_too_many script whole more event is few many =
    let longer : script ++ event ∷ more ≡ (script ++ event ∷ []) ++ more = sym (append_assoc script (event ∷ []) more) in
    let fits : length (rows_named many.0 ((script ++ event ∷ []) ++ more)) ≤ MOST_ROWS =
    subst (λ (events : List Event). length (rows_named many.0 events) ≤ MOST_ROWS) (is ∙ longer) (few many.0) in
    omega (arith, many.1, rows_grow many.0 (script ++ event ∷ []) more, fits)
