-- A line has one first word at fault, and none where it spells an event or passes a limit.
use Rattle.std.proofs.Common.{◌≡◌, ◌≢◌, ℕ, List, [], ◌∷◌, Some, None, Ok, Err, sym, ap, ◌∙◌, subst, inl, inr, true≢false}
use Rattle.table_model.specs.declared.event.Event.{Event}
use Rattle.script_text.specs.declared.fault.BadLine.{BadLine}
use Rattle.script_text.specs.declared.verb.Verb.{Verb}
use Rattle.script_text.specs.Verbs.{verb_of, name_of}
use Rattle.script_text.specs.Names.{Names}
use Rattle.script_words.specs.Words.{words_of}
use Rattle.script_text.specs.Reading.{words_in}
use Rattle.script_text.specs.Grammar.{IsPassed, Spells, SpelledBy, IsFault, limit_of, WordsLimit, PassesLimit}
use Rattle.script_text.proofs.Numbers.{some_same}
use Rattle.script_text.proofs.VerbWords.{verb-again}
use Rattle.script_text.proofs.Readings.{words-fault, words-clear}
use Rattle.script_text.proofs.Spelled.{spelled}

module _ (names : Names) where
  pub one_fault : (line : List ℕ) (f g : BadLine) → IsFault names line f → IsFault names line g → f ≡ g
  one_fault line f g p q = elim p.1 [
    | inl a ↦ elim q.1 [ inl b ↦ a.1 ∙ sym b.1 | inr b ↦ absurd (a.0 b.0) ]
    | inr a ↦ elim q.1 [
      | inl b ↦ absurd (b.0 a.0)
      | inr b ↦ (let same : Err f ≡ Err g = sym (words-fault names (words_of line) f a.1) ∙ words-fault names (words_of line) g b.1 in cc)
    ]
  ]

  pub fault_apart : (line : List ℕ) (e : Event) (f : BadLine) → Spells names line e → IsFault names line f → ⊥
  fault_apart line e f s p = elim p.1 [
    | inl a ↦ a.0 s.1
    | inr a ↦ (let same : Ok (Ok (Some e)) ≡ Err f = sym (spelled names (words_of line) e s.2) ∙ words-fault names (words_of line) f a.1 in cc)
  ]

-- passed over

spelled_word : (names : Names) (ws : List (List ℕ)) (e : Event) → SpelledBy names ws e → ws ≢ []
spelled_word names ws e h none = let same : Ok (Ok None) ≡ Ok (Ok (Some e)) = sym (ap (words_in names) none) ∙ spelled names ws e h in cc

pub passed_event : (names : Names) (line : List ℕ) (e : Event) → IsPassed line → Spells names line e → ⊥
passed_event names line e p s = elim p [
  | inl comment ↦ true≢false (sym comment ∙ s.0)
  | inr none ↦ spelled_word names (words_of line) e s.2 none
]

-- limits

same_verb : (v w : Verb) → name_of v ≡ name_of w → v ≡ w
same_verb v w e = some_same _ _ (sym (verb-again v) ∙ ap verb_of e ∙ verb-again w)

at_verb : (verb : Verb) (ws : List (List ℕ)) (limit : ℕ) → WordsLimit (name_of verb ∷ ws) limit → limit_of verb ws ≡ Some limit
at_verb verb ws limit h = subst (λ (v : Verb). limit_of v ws ≡ Some limit) (sym (same_verb verb h.0 h.1)) h.2

words_limit-one : (ws : List (List ℕ)) (l m : ℕ) → WordsLimit ws l → WordsLimit ws m → l ≡ m
words_limit-one [] l m p q = absurd p
words_limit-one (first ∷ ws) l m p q =
    some_same _ _ (sym p.2 ∙ at_verb p.0 ws m (subst (λ (w : List ℕ). WordsLimit (w ∷ ws) m) p.1 q))

pub one_limit : (names : Names) (line : List ℕ) (l m : ℕ) → PassesLimit names line l → PassesLimit names line m → l ≡ m
one_limit names line l m p q = words_limit-one (words_of line) l m p.3 q.3

pub limit_event : (names : Names) (limit : ℕ) (line : List ℕ) (e : Event) → Spells names line e → PassesLimit names line limit → ⊥
limit_event names limit line e s p = words-clear names (words_of line) e limit (spelled names (words_of line) e s.2) p.3
