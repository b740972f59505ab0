-- The fronts of an input: each goes on by one line, and all of one input agree.
use Rattle.std.proofs.Common.{◌≡◌, ℕ, ◌+◌, ◌<◌, ◌≤◌, List, [], ◌∷◌, ◌++◌, length, refl, sym, ap, subst, ◌∙◌, inl, inr, append-nil, length-append, lit≤, arith}
use Rattle.table_model.specs.declared.event.Event.{Event}
use Rattle.stab_io.specs.Lines.{Line, End, next_of}
use Rattle.script_text.specs.declared.fault.BadLine.{BadLine}
use Rattle.script_text.specs.Names.{Names, no_names, with_event}
use Rattle.script_text.specs.Grammar.{IsPassed, Spells, IsFault, PassesLimit}
use Rattle.simba_top.specs.declared.run.TheConstants.{MOST_LINES}
use Rattle.simba_top.specs.RowNames.{FewRows}
use Rattle.simba_top.specs.Script.{next_in, Behind, Spelled, IsFront, IsWhole}

-- what the proofs here take of the grammar: a line has one meaning
pub record Grammar : Type 0 where
  pub one_event : (names : Names) (line : List ℕ) (a b : Event) → Spells names line a → Spells names line b → a ≡ b
  pub passed_spells : (names : Names) (line : List ℕ) (event : Event) → IsPassed line → Spells names line event → ⊥
  pub passed_fault : (names : Names) (line : List ℕ) (fault : BadLine) → IsPassed line → IsFault names line fault → ⊥
  pub fault_spells : (names : Names) (line : List ℕ) (event : Event) (fault : BadLine) → Spells names line event → IsFault names line fault → ⊥
  pub passed_limit : (names : Names) (line : List ℕ) (limit : ℕ) → IsPassed line → PassesLimit names line limit → ⊥
  pub spells_limit : (names : Names) (line : List ℕ) (event : Event) (limit : ℕ) → Spells names line event → PassesLimit names line limit → ⊥
  pub fault_limit : (names : Names) (line : List ℕ) (fault : BadLine) (limit : ℕ) → IsFault names line fault → PassesLimit names line limit → ⊥
  pub one_fault : (names : Names) (line : List ℕ) (f g : BadLine) → IsFault names line f → IsFault names line g → f ≡ g
  pub one_limit : (names : Names) (line : List ℕ) (l m : ℕ) → PassesLimit names line l → PassesLimit names line m → l ≡ m

pub none_is_end : (total : ℕ) → next_in total [] ≡ End
unfolding next_of
none_is_end total = refl

-- one line more

behind-push : (total : ℕ) (bytes : List ℕ) (lines : List (List ℕ)) (rest line left : List ℕ)
    → Behind total bytes lines rest → next_in total rest ≡ Line line left → Behind total bytes (lines ++ line ∷ []) left
behind-push total bytes [] rest line left behind next = (left, subst (λ (b : List ℕ). next_in total b ≡ Line line left) behind next, refl)
behind-push total bytes (first ∷ lines) rest line left behind next =
    (behind.0, behind.1, behind-push total behind.0 lines rest line left behind.2 next)

passed-push : (names : Names) (lines : List (List ℕ)) (script : List Event) (after : Names) (line : List ℕ)
    → Spelled names lines script after → IsPassed line → Spelled names (lines ++ line ∷ []) script after
passed-push names [] script after line spelled passed = inl (passed, spelled)
passed-push names (first ∷ lines) script after line (inl s) passed = inl (s.0, passed-push names lines script after line s.1 passed)
passed-push names (first ∷ lines) script after line (inr s) passed =
    inr (s.0, s.1, s.2, s.3, passed-push (with_event names s.0) lines s.1 after line s.4 passed)

event-push : (names : Names) (lines : List (List ℕ)) (script : List Event) (after : Names) (line : List ℕ) (event : Event)
    → Spelled names lines script after → Spells after line event
    → Spelled names (lines ++ line ∷ []) (script ++ event ∷ []) (with_event after event)
event-push names [] script after line event spelled spells =
    inr (
      event,
      [],
      ap (λ (es : List Event). es ++ event ∷ []) spelled.0,
      subst (λ (n : Names). Spells n line event) spelled.1 spells,
      (refl, ap (λ (n : Names). with_event n event) spelled.1),
    )
event-push names (first ∷ lines) script after line event (inl s) spells = inl (s.0, event-push names lines script after line event s.1 spells)
event-push names (first ∷ lines) script after line event (inr s) spells =
    inr (
      s.0,
      s.1 ++ event ∷ [],
      ap (λ (es : List Event). es ++ event ∷ []) s.2,
      s.3,
      event-push (with_event names s.0) lines s.1 after line event s.4 spells,
    )

module _ (input : List ℕ) (script : List Event) (count : ℕ) (names : Names) (rest line left : List ℕ)
    (front : IsFront input script count names rest) (next : next_in (length input) rest ≡ Line line left) (few : count < MOST_LINES) where
  counted : count + 1 ≡ length (front.lines ++ line ∷ [])
  counted = ap (λ n. n + 1) front.counted ∙ sym (length-append front.lines (line ∷ []))

  pub front_passed : IsPassed line → IsFront input script (count + 1) names left
  front_passed passed = record {
    lines = front.lines ++ line ∷ [];
    behind = behind-push (length input) input front.lines rest line left front.behind next;
    spelled = passed-push no_names front.lines script names line front.spelled passed;
    counted = counted;
    few = omega arith;
    rows = front.rows;
  }

  pub front_event : (event : Event) → Spells names line event → FewRows (script ++ event ∷ []) → IsFront input (script ++ event ∷ []) (count + 1) (with_event names event) left
  front_event event spells rows = record {
    lines = front.lines ++ line ∷ [];
    behind = behind-push (length input) input front.lines rest line left front.behind next;
    spelled = event-push no_names front.lines script names line event front.spelled spells;
    counted = counted;
    few = omega arith;
    rows = rows;
  }

-- the empty front
pub front_start : (input : List ℕ) → IsFront input [] 0 no_names input
front_start input = record { lines = []; behind = refl; spelled = (refl, refl); counted = refl; few = lit≤ tt; rows = λ table. lit≤ tt }

-- what a longer front, which leaves the bytes `end`, has behind a shorter one, which leaves `bytes`
pub record Rest (total : ℕ) (names : Names) (front all : List (List ℕ)) (script whole : List Event) (bytes end : List ℕ) (after : Names) : Type 0 where
  pub lines : List (List ℕ)
  pub events : List Event
  pub more : all ≡ front ++ lines
  pub behind : Behind total bytes lines end
  pub grows : whole ≡ script ++ events
  pub spelled : Spelled names lines events after

module _ (total : ℕ) (bytes line same left left' : List ℕ) (next : next_in total bytes ≡ Line line left) (also : next_in total bytes ≡ Line same left') where
  same_next : Line line left ≡ Line same left'
  same_next = sym next ∙ also

  pub same_line : line ≡ same
  same_line = let e = same_next in cc

  same_left : left ≡ left'
  same_left = let e = same_next in cc

pub not_end : (total : ℕ) (line left : List ℕ) → next_in total [] ≡ Line line left → ⊥
not_end total line left next = let e : End ≡ Line line left = sym (none_is_end total) ∙ next in cc e

rest_passed : (total : ℕ) (names : Names) (front all : List (List ℕ)) (script whole : List Event) (left end : List ℕ) (after : Names) (line same : List ℕ)
    → line ≡ same → Rest total names front all script whole left end after → Rest total names (line ∷ front) (same ∷ all) script whole left end after
rest_passed total names front all script whole left end after line same here rest = record {
  lines = rest.lines;
  events = rest.events;
  more = let e = rest.more in cc;
  behind = rest.behind;
  grows = rest.grows;
  spelled = rest.spelled;
}

rest_event : (total : ℕ) (names : Names) (front all : List (List ℕ)) (script whole more more' : List Event) (left end : List ℕ) (after : Names) (line same : List ℕ) (event : Event)
    → line ≡ same → script ≡ event ∷ more → whole ≡ event ∷ more' → Rest total names front all more more' left end after
    → Rest total names (line ∷ front) (same ∷ all) script whole left end after
rest_event total names front all script whole more more' left end after line same event here is also rest = record {
  lines = rest.lines;
  events = rest.events;
  more = let e = rest.more in cc;
  behind = rest.behind;
  grows = also ∙ ap (λ (es : List Event). event ∷ es) rest.grows ∙ ap (λ (es : List Event). es ++ rest.events) (sym is);
  spelled = rest.spelled;
}

module _ (grammar : Grammar) (total : ℕ) where
  rest_of : (bytes : List ℕ) (from : Names) (front all : List (List ℕ)) (script whole : List Event) (left end : List ℕ) (names after : Names)
      → length front ≤ length all
      → Behind total bytes front left → Spelled from front script names → Behind total bytes all end → Spelled from all whole after
      → Rest total names front all script whole left end after
  rest_of bytes from [] all script whole left end names after fits behind spelled behind_all spelled_all = record {
    lines = all;
    events = whole;
    more = refl;
    behind = subst (λ (b : List ℕ). Behind total b all end) (sym behind) behind_all;
    grows = ap (λ (es : List Event). es ++ whole) (sym spelled.0);
    spelled = subst (λ (n : Names). Spelled n all whole after) (sym spelled.1) spelled_all;
  }
  rest_of bytes from (line ∷ front) [] script whole left end names after fits behind spelled behind_all spelled_all = absurd (omega (arith, fits))
  rest_of bytes from (line ∷ front) (same ∷ all) script whole left end names after fits behind (inl s) behind_all (inl t) =
      rest_passed total names front all script whole left end after line same (same_line total bytes line same behind.0 behind_all.0 behind.1 behind_all.1)
      (rest_of behind.0 from front all script whole left end names after (omega (arith, fits)) behind.2 s.1
      (subst (λ (b : List ℕ). Behind total b all end) (sym (same_left total bytes line same behind.0 behind_all.0 behind.1 behind_all.1)) behind_all.2) t.1)
  rest_of bytes from (line ∷ front) (same ∷ all) script whole left end names after fits behind (inl s) behind_all (inr t) =
      absurd (grammar.passed_spells from same t.0 (subst IsPassed (same_line total bytes line same behind.0 behind_all.0 behind.1 behind_all.1) s.0) t.3)
  rest_of bytes from (line ∷ front) (same ∷ all) script whole left end names after fits behind (inr s) behind_all (inl t) =
      absurd (grammar.passed_spells from same s.0 t.0
      (subst (λ (l : List ℕ). Spells from l s.0) (same_line total bytes line same behind.0 behind_all.0 behind.1 behind_all.1) s.3))
  rest_of bytes from (line ∷ front) (same ∷ all) script whole left end names after fits behind (inr s) behind_all (inr t) =
      let here : line ≡ same = same_line total bytes line same behind.0 behind_all.0 behind.1 behind_all.1 in
      let one : s.0 ≡ t.0 = grammar.one_event from same s.0 t.0 (subst (λ (l : List ℕ). Spells from l s.0) here s.3) t.3 in
      rest_event total names front all script whole s.1 t.1 left end after line same s.0 here s.2 (t.2 ∙ ap (λ (e : Event). e ∷ t.1) (sym one))
      (rest_of behind.0 (with_event from s.0) front all s.1 t.1 left end names after (omega (arith, fits)) behind.2 s.4
      (subst (λ (b : List ℕ). Behind total b all end) (sym (same_left total bytes line same behind.0 behind_all.0 behind.1 behind_all.1)) behind_all.2)
      (subst (λ (e : Event). Spelled (with_event from e) all t.1 after) (sym one) t.4))

-- what the longer of two fronts of an input has behind the shorter
pub rest_of_fronts : Grammar → (input : List ℕ) (script whole : List Event) (count count' : ℕ) (names names' : Names) (left end : List ℕ)
    → (front : IsFront input script count names left) → (all : IsFront input whole count' names' end) → count ≤ count'
    → Rest (length input) names front.lines all.lines script whole left end names'
rest_of_fronts grammar input script whole count count' names names' left end front all fits =
    rest_of grammar (length input) input no_names front.lines all.lines script whole left end names names'
    (let a = front.counted in let b = all.counted in omega (arith, fits, a, b)) front.behind front.spelled all.behind all.spelled

-- no front has more lines than the whole input
whole_is_longest : (total : ℕ) (bytes left : List ℕ) (front all : List (List ℕ)) → Behind total bytes front left → Behind total bytes all []
    → length front ≤ length all
whole_is_longest total bytes left [] all behind whole = omega arith
whole_is_longest total bytes left (line ∷ front) [] behind whole =
    absurd (not_end total line behind.0 (subst (λ (b : List ℕ). next_in total b ≡ Line line behind.0) (sym whole) behind.1))
whole_is_longest total bytes left (line ∷ front) (same ∷ all) behind whole =
    let fits = whole_is_longest total behind.0 left front all behind.2
    (subst (λ (b : List ℕ). Behind total b all []) (sym (same_left total bytes line same behind.0 whole.0 behind.1 whole.1)) whole.2) in
    omega (arith, fits)

-- so a front counts no more lines
pub front_fits : (input : List ℕ) (script whole : List Event) (count count' : ℕ) (names names' : Names) (left : List ℕ)
    → IsFront input script count names left → IsFront input whole count' names' [] → count ≤ count'
front_fits input script whole count count' names names' left front all =
    let fits = whole_is_longest (length input) input left front.lines all.lines front.behind all.behind in
    let a = front.counted in let b = all.counted in omega (arith, fits, a, b)

-- what the script of a whole input has behind a front of it
pub rest_of_front : Grammar → (input : List ℕ) (script whole : List Event) (count count' : ℕ) (names names' : Names) (left : List ℕ)
    → (front : IsFront input script count names left) → (all : IsFront input whole count' names' [])
    → Rest (length input) names front.lines all.lines script whole left [] names'
rest_of_front grammar input script whole count count' names names' left front all =
    rest_of_fronts grammar input script whole count count' names names' left [] front all
    (front_fits input script whole count count' names names' left front all)

ends_here : (total : ℕ) (names after : Names) (script whole : List Event) (lines : List (List ℕ)) (events : List Event)
    → Behind total [] lines [] → Spelled names lines events after → whole ≡ script ++ events → script ≡ whole
ends_here total names after script whole [] events behind spelled grows =
    sym (grows ∙ ap (λ (es : List Event). script ++ es) spelled.0 ∙ append-nil script)
ends_here total names after script whole (line ∷ lines) events behind spelled grows = absurd (not_end total line behind.0 behind.1)

pub same_script : Grammar → (input : List ℕ) (a b : List Event) → IsWhole input a → IsWhole input b → a ≡ b
same_script grammar input a b whole other =
    let rest = rest_of_front grammar input a b whole.0 other.0 whole.1 other.1 [] whole.2 other.2 in
    ends_here (length input) whole.1 other.1 a b rest.lines rest.events rest.behind rest.spelled rest.grows
