-- How all conflicts of a table are resolved, read and spelled.
use Rattle.std.proofs.Common.{◌≡◌, List, ℕ, [], ◌∷◌, codes, Ok, Err, refl, sym, ap, ◌∙◌, subst}
use Rattle.conflicts.specs.declared.stored.Stored.{Stored}
use Rattle.conflicts.specs.declared.stored.Stored.TheVariants as resolvers
use Rattle.row_value.specs.declared.schema.Column.{Column}
use Rattle.script_words.specs.declared.code.Code.TheVariants.{NoName}
use Rattle.script_text.specs.declared.fault.BadLine.{BadLine}
use Rattle.script_text.specs.declared.resolving.Rule.{Rule}
use Rattle.script_text.specs.declared.resolving.Rule.TheVariants as rules
use Rattle.script_text.specs.Places.{rule_at}
use Rattle.script_text.specs.Reading.{next_in, word_in, larger_in, ruled_in, rule_in}
use Rattle.script_text.specs.Grammar.{SpellsRule, RuleFault, AllFault, NoMore}
use Rattle.script_text.proofs.EditLemmas.{column_at-ok, column_at-right}
use Rattle.script_text.proofs.PlaceLemmas.{one_word}
use Rattle.script_text.proofs.Steps.{ok_err, word_in-ok, word_in-err, word_in-fault, word_in-right, end_in-right, end-ok, end-err, end-fault, first_fault, refused_first}

abbrev rule_word : Rule → List ℕ
rule_word rules.Mine = codes "mine"
rule_word rules.Theirs = codes "theirs"
rule_word rules.Larger = codes "larger"

rule_at-ok : (word : List ℕ) (rule : Rule) → rule_at word ≡ Ok rule → word ≡ rule_word rule
unfolding rule_at
rule_at-ok word rule e =
    one_word rule_word rules.Mine rule word _
    (one_word rule_word rules.Theirs rule word _
    (one_word rule_word rules.Larger rule word _ (λ none. absurd (ok_err rule NoName (sym none)))))
    e

rule_at-right : (rule : Rule) → rule_at (rule_word rule) ≡ Ok rule
unfolding rule_at
rule_at-right rules.Mine = refl
rule_at-right rules.Theirs = refl
rule_at-right rules.Larger = refl

module _ (columns : List Column) where
  larger-ok : (ws : List (List ℕ)) (by : Stored) → larger_in columns ws ≡ Ok by → SpellsRule columns (codes "larger" ∷ ws) by
  unfolding larger_in
  larger-ok ws by e =
      let a = word_in-ok _ _ _ ws by e in
      let r = end-ok 5 (resolvers.Larger a.2) a.1 by a.5 in
      let is : codes "larger" ∷ ws ≡ codes "larger" ∷ a.0 ∷ [] = cc (a.3, r.0) in
      subst (SpellsRule columns (codes "larger" ∷ ws)) r.1 (a.0, is, column_at-ok columns a.0 a.2 a.4)

  ruled-ok : (rule : Rule) (ws : List (List ℕ)) (by : Stored) → ruled_in columns rule ws ≡ Ok by → SpellsRule columns (rule_word rule ∷ ws) by
  ruled-ok rules.Mine ws by e =
      let r = end-ok 4 resolvers.Mine ws by e in
      subst (SpellsRule columns (codes "mine" ∷ ws)) r.1 (ap (λ (t : List (List ℕ)). codes "mine" ∷ t) r.0)
  ruled-ok rules.Theirs ws by e =
      let r = end-ok 4 resolvers.Theirs ws by e in
      subst (SpellsRule columns (codes "theirs" ∷ ws)) r.1 (ap (λ (t : List (List ℕ)). codes "theirs" ∷ t) r.0)
  ruled-ok rules.Larger ws by e = larger-ok ws by e

  pub rule-ok : (ws : List (List ℕ)) (by : Stored) → rule_in columns ws ≡ Ok by → SpellsRule columns ws by
  unfolding rule_in
  rule-ok ws by e =
      let a = word_in-ok _ _ _ ws by e in
      let is : ws ≡ rule_word a.2 ∷ a.1 = a.3 ∙ ap (λ (w : List ℕ). w ∷ a.1) (rule_at-ok a.0 a.2 a.4) in
      subst (λ (t : List (List ℕ)). SpellsRule columns t by) (sym is) (ruled-ok a.2 a.1 by a.5)

  pub rule-right : (ws : List (List ℕ)) (by : Stored) → SpellsRule columns ws by → rule_in columns ws ≡ Ok by
  unfolding rule_in larger_in
  rule-right ws resolvers.Mine h =
      rw h (word_in-right 3 rule_at (codes "mine") [] (ruled_in columns) rules.Mine (rule_at-right rules.Mine) ∙ rw (end_in-right 4) refl)
  rule-right ws resolvers.Theirs h =
      rw h (word_in-right 3 rule_at (codes "theirs") [] (ruled_in columns) rules.Theirs (rule_at-right rules.Theirs) ∙ rw (end_in-right 4) refl)
  rule-right ws (resolvers.Larger column) h =
      rw h.1
      (word_in-right 3 rule_at (codes "larger") (h.0 ∷ []) (ruled_in columns) rules.Larger (rule_at-right rules.Larger)
      ∙ word_in-right 4 _ h.0 _ _ column (column_at-right columns h.0 column h.2)
      ∙ rw (end_in-right 5) refl)

  module _ (f : BadLine) where
    larger-err : (ws : List (List ℕ)) → larger_in columns ws ≡ Err f → RuleFault columns rules.Larger 4 ws f
    unfolding larger_in
    larger-err ws e = word_in-err _ _ _ [] NoMore f ws e (λ va a xa ia oa ha. end-err 5 _ a f ha)

    larger-fault : (ws : List (List ℕ)) → RuleFault columns rules.Larger 4 ws f → larger_in columns ws ≡ Err f
    unfolding larger_in
    larger-fault ws h = word_in-fault _ _ _ [] NoMore f ws h (λ va a xa ia oa ha. end-fault 5 _ a f ha)

    ruled-err : (rule : Rule) (ws : List (List ℕ)) → ruled_in columns rule ws ≡ Err f → RuleFault columns rule 4 ws f
    ruled-err rules.Mine ws e = end-err 4 resolvers.Mine ws f e
    ruled-err rules.Theirs ws e = end-err 4 resolvers.Theirs ws f e
    ruled-err rules.Larger ws e = larger-err ws e

    ruled-fault : (rule : Rule) (ws : List (List ℕ)) → RuleFault columns rule 4 ws f → ruled_in columns rule ws ≡ Err f
    ruled-fault rules.Mine ws h = end-fault 4 resolvers.Mine ws f h
    ruled-fault rules.Theirs ws h = end-fault 4 resolvers.Theirs ws f h
    ruled-fault rules.Larger ws h = larger-fault ws h

    pub rule-err : (ws : List (List ℕ)) → rule_in columns ws ≡ Err f → AllFault columns 3 ws f
    unfolding rule_in word_in next_in
    rule-err [] e = cc
    rule-err (w ∷ ws) e =
        first_fault f 3 (rule_at w) (λ rule. ruled_in columns rule ws) (λ rule. RuleFault columns rule 4 ws f) e (λ rule. ruled-err rule ws)

    pub rule-fault : (ws : List (List ℕ)) → AllFault columns 3 ws f → rule_in columns ws ≡ Err f
    unfolding rule_in word_in next_in
    rule-fault [] h = cc
    rule-fault (w ∷ ws) h =
        refused_first f 3 (rule_at w) (λ rule. ruled_in columns rule ws) (λ rule. RuleFault columns rule 4 ws f) h (λ rule. ruled-fault rule ws)
