-- Words judged one behind the other.
use Rattle.std.proofs.Common.{◌≡◌, ℕ, ◌+◌, ◌<◌, ◌≤◌, List, [], ◌∷◌, length, drop, get_or, Result, Ok, Err, refl, ap, ◌∙◌, arith, add-one, add_assoc, zero, suc}
use Rattle.std.specs.Borrow.{Bor}
use Rattle.script_words.specs.declared.code.Code.{Code}
use Rattle.script_text.specs.declared.fault.BadLine.{BadLine}
use Rattle.script_text.specs.declared.fault.ScriptFault.{ScriptFault}
use Rattle.script_text.specs.declared.fault.ScriptFault.TheVariants as faults
use Rattle.script_words.specs.Words.{texts}
use Rattle.script_text.specs.Reading.{placed, each_in, Reads}

behind : (words : List (Bor (List ℕ))) (i : ℕ) (d : Bor (List ℕ)) → i < length words → drop i (texts words) ≡ (get_or words i d).now ∷ drop (suc i) (texts words)
behind [] i d h = absurd (omega (arith, h))
behind (w ∷ ws) zero d h = refl
behind (w ∷ ws) (suc i) d h = behind ws i d (omega (arith, h))

pub dropped_next : (words : List (Bor (List ℕ))) (i : ℕ) (d : Bor (List ℕ)) → i < length words → drop i (texts words) ≡ (get_or words i d).now ∷ drop (i + 1) (texts words)
dropped_next words i d h = rw add-one (behind words i d h)

pub dropped : (words : List (Bor (List ℕ))) (i : ℕ) → length words ≤ i → drop i (texts words) ≡ []
dropped [] zero h = refl
dropped [] (suc i) h = refl
dropped (w ∷ ws) zero h = absurd (omega (arith, h))
dropped (w ∷ ws) (suc i) h = dropped ws i (omega (arith, h))

module _ {R X : Type 0} (judge : R → List ℕ → Result X Code) (add : R → X → R) where
  pub one : (at : ℕ) (row : R) (w : List ℕ) (ws : List (List ℕ)) (x : X) → placed at (judge row w) ≡ Ok x → each_in judge add at row (w ∷ ws) ≡ each_in judge add (at + 1) (add row x) ws
  unfolding each_in
  one at row w ws x e = rw e refl

  none : (at : ℕ) (row : R) (w : List ℕ) (ws : List (List ℕ)) (fault : BadLine) → placed at (judge row w) ≡ Err fault → each_in judge add at row (w ∷ ws) ≡ Err fault
  unfolding each_in
  none at row w ws fault e = rw e refl

  -- what is read behind a place is what all words are read as
  abbrev pub left : ℕ → List (Bor (List ℕ)) → ℕ → R → Result R BadLine
  left at words i row = each_in judge add (at + i) row (drop i (texts words))

  pub each-init : (at : ℕ) (words : List (Bor (List ℕ))) (row : R) → each_in judge add at row (texts words) ≡ left at words 0 row
  each-init at words row = ap (λ (n : ℕ). each_in judge add n row (texts words)) (let same : at ≡ at + 0 = omega arith in same)

  module _ (at i : ℕ) (words : List (Bor (List ℕ))) (d : Bor (List ℕ)) (row : R) (all : Result R BadLine) (h : i < length words) (before : all ≡ left at words i row) where
    pub each-turn : (x : X) → placed (at + i) (judge row (get_or words i d).now) ≡ Ok x → all ≡ left at words (i + 1) (add row x)
    each-turn x e =
        before
        ∙ ap (each_in judge add (at + i) row) (dropped_next words i d h)
        ∙ one (at + i) row (get_or words i d).now (drop (i + 1) (texts words)) x e
        ∙ ap (λ (n : ℕ). each_in judge add n (add row x) (drop (i + 1) (texts words))) (add_assoc at i 1)

    pub each-fault : (fault : ScriptFault) → Reads {X = X} (Err fault) (placed (at + i) (judge row (get_or words i d).now)) → Reads {X = R} (Err fault) all
    each-fault (faults.BadLine f) e = before ∙ ap (each_in judge add (at + i) row) (dropped_next words i d h) ∙ none (at + i) row (get_or words i d).now (drop (i + 1) (texts words)) f e
    each-fault (faults.Limit limit) e = absurd e
    each-fault faults.Memory e = tt

  pub each-end : (at i : ℕ) (words : List (Bor (List ℕ))) (row : R) (all : Result R BadLine) → length words ≤ i → all ≡ left at words i row → all ≡ Ok row
  unfolding each_in
  each-end at i words row all h before = before ∙ ap (each_in judge add (at + i) row) (dropped words i h)
