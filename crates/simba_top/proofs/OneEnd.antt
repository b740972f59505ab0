-- An input has one end: a line that is bad, or that passes a limit, is the last that any run over it comes to.
use Rattle.std.proofs.Common.{◌≡◌, ◌⊎◌, ℕ, ◌-◌, ◌<◌, ◌≤◌, List, [], ◌∷◌, ◌++◌, length, refl, sym, ap, subst, ◌∙◌, inl, inr, append-nil, length-append, arith}
use Rattle.std.proofs.lemmas.Bool.{cases_lt}
use Rattle.table_model.specs.declared.event.Event.{Event}
use Rattle.stab_io.specs.declared.limits.TheConstants.{INPUT_LIMIT}
use Rattle.stab_io.specs.Lines.{Next, Line, LineTooLong, InputTooLong}
use Rattle.script_text.specs.declared.fault.BadLine.{BadLine}
use Rattle.script_text.specs.Names.{Names}
use Rattle.script_text.specs.Grammar.{Spells, IsFault, PassesLimit}
use Rattle.simba_top.specs.declared.run.TheConstants.{MOST_LINES}
use Rattle.simba_top.specs.RowNames.{NamesTooMany}
use Rattle.simba_top.specs.Script.{next_in, Behind, Spelled, IsFront, IsWhole}
use Rattle.simba_top.specs.Ends.{IsBadAt, IsLimitAt, Passes}
use Rattle.simba_top.proofs.Fronts.{Grammar, Rest, rest_of_fronts, front_fits, none_is_end, not_end}
use Rattle.simba_top.proofs.Complete.{line_apart, no_limit, event_next, not_too_many}

-- the lines behind a front, where a longer one has some
pub some_lines : {total : ℕ} {names : Names} {front all : List (List ℕ)} {script whole : List Event} {bytes end : List ℕ} {after : Names}
    → (rest : Rest total names front all script whole bytes end after) → length front < length all → 0 < length rest.lines
some_lines {front = front} rest longer =
    let e = ap (λ (lines : List (List ℕ)). length lines) rest.more ∙ length-append front rest.lines in omega (arith, e, longer)

module _ (grammar : Grammar) (input : List ℕ) (script whole : List Event) (count count' : ℕ) (names' : Names) (end : List ℕ)
    (all : IsFront input whole count' names' end) where
  -- a longer front's lines behind this one
  module _ (names : Names) (left : List ℕ) (front : IsFront input script count names left) (longer : count < count') where
    abbrev more : Rest (length input) names front.lines all.lines script whole left end names'
    more = rest_of_fronts grammar input script whole count count' names names' left end front all (omega (arith, longer))

    some : 0 < length more.lines
    some = some_lines more (let a = front.counted in let b = all.counted in omega (arith, longer, a, b))

  bad_is_last_line : (fault : BadLine) → IsBadAt input script count fault → count < count' → ⊥
  bad_is_last_line fault bad longer =
      let rest = more bad.names bad.rest bad.front longer in
      line_apart (λ names line. IsFault names line fault) (λ names line. grammar.passed_fault names line fault)
      (λ names line event. grammar.fault_spells names line event fault)
      (length input) bad.names names' bad.rest end rest.lines rest.events bad.line bad.left rest.behind rest.spelled
      (some bad.names bad.rest bad.front longer) bad.next bad.bad

  pub bad_is_last : (fault : BadLine) → IsBadAt input script count fault → count' ≤ count
  bad_is_last fault bad = elim (cases_lt count count') [ inl longer ↦ absurd (bad_is_last_line fault bad longer) | inr fits ↦ fits ]

  limit_is_last_line : (limit : ℕ) → IsLimitAt input script count limit → count < count' → ⊥
  limit_is_last_line limit at longer =
      let rest = more at.names at.rest at.front longer in
      let lines = some at.names at.rest at.front longer in
      elim at.passes [
        | inl p ↦ no_limit (length input) at.rest end rest.lines InputTooLong rest.behind lines p.1 (inr refl)
        | inr (inl p) ↦ (let most = p.1 in let few = all.few in omega (arith, longer, most, few))
        | inr (inr (inl p)) ↦ no_limit (length input) at.rest end rest.lines LineTooLong rest.behind lines p.2 (inl refl)
        | inr (inr (inr (inl p))) ↦
            (let next = event_next grammar (length input) at.names names' at.rest end rest.lines rest.events p.2.0 p.2.1 p.2.2 rest.behind rest.spelled lines p.2.3 p.2.4 in
            not_too_many script whole next.0 p.2.2 (rest.grows ∙ ap (λ (events : List Event). script ++ events) next.1) all.rows p.2.5)
        | inr (inr (inr (inr p))) ↦
            line_apart (λ names line. PassesLimit names line limit) (λ names line. grammar.passed_limit names line limit)
            (λ names line event. grammar.spells_limit names line event limit)
            (length input) at.names names' at.rest end rest.lines rest.events p.1.0 p.1.1 rest.behind rest.spelled lines p.1.2 p.1.3
      ]

  pub limit_is_last : (limit : ℕ) → IsLimitAt input script count limit → count' ≤ count
  limit_is_last limit at = elim (cases_lt count count') [ inl longer ↦ absurd (limit_is_last_line limit at longer) | inr fits ↦ fits ]

-- ---- two fronts of as many lines are one

pub record Same (a b : List Event) (n m : Names) (left right : List ℕ) : Type 0 where
  pub script : a ≡ b
  pub names : n ≡ m
  pub rest : left ≡ right

no_lines_more : (total : ℕ) (n m : Names) (a b events : List Event) (left right : List ℕ) (lines : List (List ℕ))
    → length lines ≡ 0 → Behind total left lines right → Spelled n lines events m → b ≡ a ++ events → Same a b n m left right
no_lines_more total n m a b events left right [] none behind spelled grows = record {
  script = sym (grows ∙ ap (λ (es : List Event). a ++ es) spelled.0 ∙ append-nil a);
  names = sym spelled.1;
  rest = sym behind;
}
no_lines_more total n m a b events left right (line ∷ lines) none behind spelled grows = absurd (omega (arith, none))

module _ (grammar : Grammar) (input : List ℕ) (a b : List Event) (count count' : ℕ) (n m : Names) (left right : List ℕ)
    (front : IsFront input a count n left) (other : IsFront input b count' m right) (same : count ≡ count') where
  pub same_front : Same a b n m left right
  same_front =
      let rest = rest_of_fronts grammar input a b count count' n m left right front other (omega (arith, same)) in
      let longer = ap (λ (lines : List (List ℕ)). length lines) rest.more ∙ length-append front.lines rest.lines in
      no_lines_more (length input) n m a b rest.events left right rest.lines
      (let p = front.counted in let q = other.counted in omega (arith, same, longer, p, q)) rest.behind rest.spelled rest.grows

-- ---- one limit of the next line

next_line : (line left line' left' : List ℕ) (next : Next) → next ≡ Line line left → next ≡ Line line' left' → line ≡ line'
next_line line left line' left' next a b = let e : Line line left ≡ Line line' left' = sym a ∙ b in cc

module _ (grammar : Grammar) (input : List ℕ) (script : List Event) (count : ℕ) (names : Names) (rest : List ℕ) where
  -- a limit that the next line passes, once it is read
  abbrev pub OfLine : ℕ → Type 0
  OfLine limit = (count < MOST_LINES) × ((line : List ℕ) × (left : List ℕ) × (next_in (length input) rest ≡ Line line left)
      × (((limit ≡ 9) × ((event : Event) × Spells names line event × NamesTooMany script event)) ⊎ PassesLimit names line limit))

  -- the four causes of a limit
  abbrev pub Causes : ℕ → Type 0
  Causes limit =
      ((limit ≡ 1) × (next_in (length input) rest ≡ InputTooLong) × ((count < MOST_LINES) ⊎ (length input - length rest ≡ INPUT_LIMIT)))
      ⊎ (((limit ≡ 2) × (count ≡ MOST_LINES) × (length input - length rest < INPUT_LIMIT))
      ⊎ (((limit ≡ 3) × (count < MOST_LINES) × (next_in (length input) rest ≡ LineTooLong))
      ⊎ OfLine limit))

  pub causes : (limit : ℕ) → Passes input script count names rest limit → Causes limit
  causes limit (inl p) = inl p
  causes limit (inr (inl p)) = inr (inl (p.0, p.1, p.3))
  causes limit (inr (inr (inl p))) = inr (inr (inl p))
  causes limit (inr (inr (inr (inl p)))) = inr (inr (inr (p.1, (p.2.0, p.2.1, p.2.3, inl (p.0, (p.2.2, p.2.4, p.2.5))))))
  causes limit (inr (inr (inr (inr p)))) = inr (inr (inr (p.0, (p.1.0, p.1.1, p.1.2, inr p.1.3))))

  -- of one line
  of_line : (line : List ℕ) (l m : ℕ)
      → ((l ≡ 9) × ((event : Event) × Spells names line event × NamesTooMany script event)) ⊎ PassesLimit names line l
      → ((m ≡ 9) × ((event : Event) × Spells names line event × NamesTooMany script event)) ⊎ PassesLimit names line m
      → l ≡ m
  of_line line l m (inl p) (inl q) = p.0 ∙ sym q.0
  of_line line l m (inl p) (inr q) = absurd (grammar.spells_limit names line p.1.0 m p.1.1 q)
  of_line line l m (inr p) (inl q) = absurd (grammar.spells_limit names line q.1.0 l q.1.1 p)
  of_line line l m (inr p) (inr q) = grammar.one_limit names line l m p q

  one_cause : (l m : ℕ) → Causes l → Causes m → l ≡ m
  one_cause l m (inl p) (inl q) = p.0 ∙ sym q.0
  one_cause l m (inl p) (inr (inl q)) = absurd (full_and_not p.2 q.1 q.2)
    where
      full_and_not : (count < MOST_LINES) ⊎ (length input - length rest ≡ INPUT_LIMIT) → count ≡ MOST_LINES → length input - length rest < INPUT_LIMIT → ⊥
      full_and_not (inl few) most used = omega (arith, few, most)
      full_and_not (inr full) most used = omega (arith, full, used)
  one_cause l m (inl p) (inr (inr (inl q))) = absurd (let e = sym p.1 ∙ q.2 in cc e)
  one_cause l m (inl p) (inr (inr (inr q))) = absurd (let e = sym p.1 ∙ q.1.2 in cc e)
  one_cause l m (inr (inl p)) (inl q) = absurd (full_and_not q.2 p.1 p.2)
    where
      full_and_not : (count < MOST_LINES) ⊎ (length input - length rest ≡ INPUT_LIMIT) → count ≡ MOST_LINES → length input - length rest < INPUT_LIMIT → ⊥
      full_and_not (inl few) most used = omega (arith, few, most)
      full_and_not (inr full) most used = omega (arith, full, used)
  one_cause l m (inr (inl p)) (inr (inl q)) = p.0 ∙ sym q.0
  one_cause l m (inr (inl p)) (inr (inr (inl q))) = absurd (let most = p.1 in let few = q.1 in omega (arith, most, few))
  one_cause l m (inr (inl p)) (inr (inr (inr q))) = absurd (let most = p.1 in let few = q.0 in omega (arith, most, few))
  one_cause l m (inr (inr (inl p))) (inl q) = absurd (let e = sym q.1 ∙ p.2 in cc e)
  one_cause l m (inr (inr (inl p))) (inr (inl q)) = absurd (let most = q.1 in let few = p.1 in omega (arith, most, few))
  one_cause l m (inr (inr (inl p))) (inr (inr (inl q))) = p.0 ∙ sym q.0
  one_cause l m (inr (inr (inl p))) (inr (inr (inr q))) = absurd (let e = sym p.2 ∙ q.1.2 in cc e)
  one_cause l m (inr (inr (inr p))) (inl q) = absurd (let e = sym q.1 ∙ p.1.2 in cc e)
  one_cause l m (inr (inr (inr p))) (inr (inl q)) = absurd (let most = q.1 in let few = p.0 in omega (arith, most, few))
  one_cause l m (inr (inr (inr p))) (inr (inr (inl q))) = absurd (let e = sym q.2 ∙ p.1.2 in cc e)
  one_cause l m (inr (inr (inr p))) (inr (inr (inr q))) =
      let same : p.1.0 ≡ q.1.0 = next_line p.1.0 p.1.1 q.1.0 q.1.1 (next_in (length input) rest) p.1.2 q.1.2 in
      of_line q.1.0 l m
      (subst (λ (line : List ℕ). ((l ≡ 9) × ((event : Event) × Spells names line event × NamesTooMany script event)) ⊎ PassesLimit names line l) same p.1.3) q.1.3

  pub one_passes : (l m : ℕ) → Passes input script count names rest l → Passes input script count names rest m → l ≡ m
  one_passes l m p q = one_cause l m (causes l p) (causes m q)

  -- a bad line passes no limit
  pub bad_passes : (fault : BadLine) (line left : List ℕ) → count < MOST_LINES → next_in (length input) rest ≡ Line line left → IsFault names line fault
      → (limit : ℕ) → Causes limit → ⊥
  bad_passes fault line left few next bad limit (inl p) = let e = sym next ∙ p.1 in cc e
  bad_passes fault line left few next bad limit (inr (inl p)) = let most = p.1 in omega (arith, few, most)
  bad_passes fault line left few next bad limit (inr (inr (inl p))) = let e = sym next ∙ p.2 in cc e
  bad_passes fault line left few next bad limit (inr (inr (inr p))) =
      of_bad p.1.3 (subst (λ (l : List ℕ). IsFault names l fault) (next_line line left p.1.0 p.1.1 (next_in (length input) rest) next p.1.2) bad)
    where
      of_bad : ((limit ≡ 9) × ((event : Event) × Spells names p.1.0 event × NamesTooMany script event)) ⊎ PassesLimit names p.1.0 limit
          → IsFault names p.1.0 fault → ⊥
      of_bad (inl x) here = grammar.fault_spells names p.1.0 x.1.0 fault x.1.1 here
      of_bad (inr x) here = grammar.fault_limit names p.1.0 fault limit here x

-- ---- ends of one input

module _ (grammar : Grammar) (input : List ℕ) where
  -- the front of an end, against another whose lines go no further, and which goes no further
  pub not_bad : (script whole : List Event) (count : ℕ) (fault : BadLine) → IsBadAt input script count fault → IsWhole input whole → ⊥
  not_bad script whole count fault bad all =
      let last = bad_is_last grammar input script whole count all.0 all.1 [] all.2 fault bad in
      let fits = front_fits input script whole count all.0 bad.names all.1 bad.rest bad.front all.2 in
      let same = same_front grammar input script whole count all.0 bad.names all.1 bad.rest [] bad.front all.2 (omega (arith, last, fits)) in
      not_end (length input) bad.line bad.left (subst (λ (b : List ℕ). next_in (length input) b ≡ Line bad.line bad.left) same.rest bad.next)

  none_passes : (script : List Event) (count : ℕ) (names : Names) (limit : ℕ) → Passes input script count names [] limit → ⊥
  none_passes script count names limit passes =
      let end = none_is_end (length input) in
      elim passes [
        | inl p ↦ (let e = sym end ∙ p.1 in cc e)
        | inr (inl p) ↦ (let some = p.2 in omega (arith, some))
        | inr (inr (inl p)) ↦ (let e = sym end ∙ p.2 in cc e)
        | inr (inr (inr (inl p))) ↦ not_end (length input) p.2.0 p.2.1 p.2.3
        | inr (inr (inr (inr p))) ↦ not_end (length input) p.1.0 p.1.1 p.1.2
      ]

  pub not_limit : (script whole : List Event) (count limit : ℕ) → IsLimitAt input script count limit → IsWhole input whole → ⊥
  not_limit script whole count limit at all =
      let last = limit_is_last grammar input script whole count all.0 all.1 [] all.2 limit at in
      let fits = front_fits input script whole count all.0 at.names all.1 at.rest at.front all.2 in
      let same = same_front grammar input script whole count all.0 at.names all.1 at.rest [] at.front all.2 (omega (arith, last, fits)) in
      none_passes script count at.names limit (subst (λ (b : List ℕ). Passes input script count at.names b limit) same.rest at.passes)

  pub bad_limit_apart : (a b : List Event) (n m : ℕ) (fault : BadLine) (limit : ℕ) → IsBadAt input a n fault → IsLimitAt input b m limit → ⊥
  bad_limit_apart a b n m fault limit bad at =
      let after = bad_is_last grammar input a b n m at.names at.rest at.front fault bad in
      let before = limit_is_last grammar input b a m n bad.names bad.rest bad.front limit at in
      let same = same_front grammar input b a m n at.names bad.names at.rest bad.rest at.front bad.front (omega (arith, after, before)) in
      let here : next_in (length input) at.rest ≡ Line bad.line bad.left =
      subst (λ (r : List ℕ). next_in (length input) r ≡ Line bad.line bad.left) (sym same.rest) bad.next in
      bad_passes grammar input b m at.names at.rest fault bad.line bad.left (let few = bad.few in omega (arith, few, after, before)) here
      (subst (λ (x : Names). IsFault x bad.line fault) (sym same.names) bad.bad) limit (causes grammar input b m at.names at.rest limit at.passes)

  pub bad_is_one : (a b : List Event) (n m : ℕ) (f g : BadLine) → IsBadAt input a n f → IsBadAt input b m g → (a ≡ b) × (n ≡ m) × (f ≡ g)
  bad_is_one a b n m f g bad other =
      let after = bad_is_last grammar input a b n m other.names other.rest other.front f bad in
      let before = bad_is_last grammar input b a m n bad.names bad.rest bad.front g other in
      let same = same_front grammar input a b n m bad.names other.names bad.rest other.rest bad.front other.front (omega (arith, after, before)) in
      let here : next_in (length input) bad.rest ≡ Line other.line other.left =
      subst (λ (r : List ℕ). next_in (length input) r ≡ Line other.line other.left) (sym same.rest) other.next in
      let line : bad.line ≡ other.line = next_line bad.line bad.left other.line other.left (next_in (length input) bad.rest) bad.next here in (
        same.script,
        omega (arith, after, before),
        grammar.one_fault bad.names bad.line f g bad.bad
            (subst (λ (l : List ℕ). IsFault bad.names l g) (sym line) (subst (λ (x : Names). IsFault x other.line g) (sym same.names) other.bad)),
      )

  -- the same place of the input
  moved : (a b : List Event) (n m : ℕ) (x y : Names) (left right : List ℕ) (limit : ℕ) → a ≡ b → n ≡ m → x ≡ y → left ≡ right
      → Passes input b m y right limit → Passes input a n x left limit
  moved a b n m x y left right limit script count names rest passes =
      subst (λ (s : List Event). Passes input s n x left limit) (sym script)
      (subst (λ (c : ℕ). Passes input b c x left limit) (sym count)
      (subst (λ (z : Names). Passes input b m z left limit) (sym names)
      (subst (λ (r : List ℕ). Passes input b m y r limit) (sym rest) passes)))

  pub limit_is_one : (a b : List Event) (n m l k : ℕ) → IsLimitAt input a n l → IsLimitAt input b m k → (a ≡ b) × (n ≡ m) × (l ≡ k)
  limit_is_one a b n m l k at other =
      let after = limit_is_last grammar input a b n m other.names other.rest other.front l at in
      let before = limit_is_last grammar input b a m n at.names at.rest at.front k other in
      let count : n ≡ m = omega (arith, after, before) in
      let same = same_front grammar input a b n m at.names other.names at.rest other.rest at.front other.front count in (
        same.script,
        count,
        one_passes grammar input a n at.names at.rest l k at.passes
            (moved a b n m at.names other.names at.rest other.rest k same.script count same.names same.rest other.passes),
      )
