-- A line read word by word: what a reading that succeeds has met, and where one that fails stops.
use Rattle.std.proofs.Common.{◌≡◌, ℕ, ◌+◌, List, [], ◌∷◌, Option, Result, Ok, Err, refl, sym}
use Rattle.std.specs.Option.{MatchOption}
use Rattle.std.specs.Result.{MatchResult}
use Rattle.row_value.specs.declared.content.Content.TheVariants.{Row}
use Rattle.script_words.specs.declared.code.Code.{Code}
use Rattle.script_words.specs.declared.code.Code.TheVariants.{Missing, Surplus}
use Rattle.script_text.specs.declared.fault.BadLine.{BadLine}
use Rattle.script_text.specs.Faults.{bad}
use Rattle.script_text.specs.Places.{◌>>=◌, new_column_at, with_column, value_behind, with_value}
use Rattle.script_text.specs.Reading.{next_in, placed, word_in, end_in, each_in, values_in, content_in, some_columns_in}
use Rattle.script_text.specs.Grammar.{Rest, NoMore, EachFault, ValuesFault, ColumnsFault, OneOrMore, FirstFault, fault_of}

pub ok_err : {X E : Type 0} (x : X) (e : E) → ◌≡◌ {A = Result X E} (Ok x) (Err e) → ⊥
ok_err x e h = cc

pub bind-ok : {A B E : Type 0} (r : Result A E) (f : A → Result B E) (y : B) → (r >>= f) ≡ Ok y → (x : A) × (r ≡ Ok x) × (f x ≡ Ok y)
bind-ok (Ok x) f y e = (x, refl, e)
bind-ok (Err d) f y e = absurd (ok_err y d (sym e))

pub bind-err : {A B E : Type 0} (r : Result A E) (f : A → B) (d : E) → (r >>= λ x. Ok (f x)) ≡ Err d → r ≡ Err d
bind-err (Ok x) f d e = absurd (ok_err (f x) d e)
bind-err (Err c) f d e = cc

module _ {X Y : Type 0} (at : ℕ) (place : List ℕ → Result X Code) (next : X → List (List ℕ) → Result Y BadLine) where
  met : (w : List ℕ) (rest : List (List ℕ)) (y : Y) (r : Result X Code) → place w ≡ r → (placed at r >>= λ x. next x rest) ≡ Ok y → (x : X) × (place w ≡ Ok x) × (next x rest ≡ Ok y)
  met w rest y (Ok x) is e = (x, is, e)
  met w rest y (Err code) is e = absurd (ok_err y (bad code at) (sym e))

  pub word_in-ok : (ws : List (List ℕ)) (y : Y) → word_in at place ws next ≡ Ok y → (w : List ℕ) × (rest : List (List ℕ)) × (x : X) × (ws ≡ w ∷ rest) × (place w ≡ Ok x) × (next x rest ≡ Ok y)
  unfolding word_in next_in
  word_in-ok [] y e = absurd (ok_err y (bad Missing at) (sym e))
  word_in-ok (w ∷ rest) y e = let p = met w rest y (place w) refl e in (w, rest, p.0, refl, p.1, p.2)

  module _ (places : List (List ℕ → Option Code)) (more : Rest) (f : BadLine) where
    stop : (w : List ℕ) (rest : List (List ℕ)) (r : Result X Code) → place w ≡ r → (placed at r >>= λ x. next x rest) ≡ Err f
        → ((x : X) → place w ≡ Ok x → next x rest ≡ Err f → FirstFault (at + 1) places more rest f) → MatchOption (fault_of r) (FirstFault (at + 1) places more rest f) (λ code. f ≡ bad code at)
    stop w rest (Ok x) is e go = go x is e
    stop w rest (Err code) is e go = cc

    pub word_in-err : (ws : List (List ℕ)) → word_in at place ws next ≡ Err f
        → ((w : List ℕ) (rest : List (List ℕ)) (x : X) → ws ≡ w ∷ rest → place w ≡ Ok x → next x rest ≡ Err f → FirstFault (at + 1) places more rest f)
        → FirstFault at ((λ w. fault_of (place w)) ∷ places) more ws f
    unfolding word_in next_in
    word_in-err [] e go = cc
    word_in-err (w ∷ rest) e go = stop w rest (place w) refl e (λ x is more. go w rest x refl is more)

    refused : (w : List ℕ) (rest : List (List ℕ)) (r : Result X Code) → place w ≡ r → MatchOption (fault_of r) (FirstFault (at + 1) places more rest f) (λ code. f ≡ bad code at)
        → ((x : X) → place w ≡ Ok x → FirstFault (at + 1) places more rest f → next x rest ≡ Err f) → (placed at r >>= λ x. next x rest) ≡ Err f
    refused w rest (Ok x) is h go = go x is h
    refused w rest (Err code) is h go = cc

    pub word_in-fault : (ws : List (List ℕ)) → FirstFault at ((λ w. fault_of (place w)) ∷ places) more ws f
        → ((w : List ℕ) (rest : List (List ℕ)) (x : X) → ws ≡ w ∷ rest → place w ≡ Ok x → FirstFault (at + 1) places more rest f → next x rest ≡ Err f) → word_in at place ws next ≡ Err f
    unfolding word_in next_in
    word_in-fault [] h go = cc
    word_in-fault (w ∷ rest) h go = refused w rest (place w) refl h (λ x is more. go w rest x refl is more)

pub word_in-right : {X Y : Type 0} (at : ℕ) (place : List ℕ → Result X Code) (w : List ℕ) (ws : List (List ℕ)) (next : X → List (List ℕ) → Result Y BadLine) (x : X) → place w ≡ Ok x
    → word_in at place (w ∷ ws) next ≡ next x ws
unfolding word_in next_in
word_in-right at place w ws next x e = rw e refl

pub end_in-right : (at : ℕ) → end_in at [] ≡ Ok tt
unfolding end_in
end_in-right at = refl

module _ {Y : Type 0} (at : ℕ) (y : Y) where
  pub end-ok : (ws : List (List ℕ)) (z : Y) → (end_in at ws >>= λ done. Ok y) ≡ Ok z → (ws ≡ []) × (y ≡ z)
  unfolding end_in
  end-ok [] z e = (refl, cc)
  end-ok (w ∷ ws) z e = absurd (ok_err z (bad Surplus at) (sym e))

  pub end-err : (ws : List (List ℕ)) (f : BadLine) → (end_in at ws >>= λ done. Ok y) ≡ Err f → NoMore at ws f
  unfolding end_in
  end-err [] f e = absurd (ok_err y f e)
  end-err (w ∷ ws) f e = cc

  pub end-fault : (ws : List (List ℕ)) (f : BadLine) → NoMore at ws f → (end_in at ws >>= λ done. Ok y) ≡ Err f
  unfolding end_in
  end-fault [] f h = absurd h
  end-fault (w ∷ ws) f h = cc

-- a word that is judged, and what goes on from it

module _ {X Y : Type 0} (f : BadLine) (at : ℕ) where
  pub first_fault : (r : Result X Code) (go : X → Result Y BadLine) (P : X → Type 0) → (placed at r >>= go) ≡ Err f → ((x : X) → go x ≡ Err f → P x) → MatchResult r P (λ code. f ≡ bad code at)
  first_fault (Ok x) go P e more = more x e
  first_fault (Err code) go P e more = cc

  pub refused_first : (r : Result X Code) (go : X → Result Y BadLine) (P : X → Type 0) → MatchResult r P (λ code. f ≡ bad code at) → ((x : X) → P x → go x ≡ Err f) → (placed at r >>= go) ≡ Err f
  refused_first (Ok x) go P h more = more x h
  refused_first (Err code) go P h more = cc

-- words judged one behind the other

module _ {R X : Type 0} (judge : R → List ℕ → Result X Code) (add : R → X → R) (f : BadLine) where
  pub each-err : (at : ℕ) (row : R) (ws : List (List ℕ)) → each_in judge add at row ws ≡ Err f → EachFault judge add row at ws f
  unfolding each_in
  each-err at row [] e = absurd (ok_err row f e)
  each-err at row (w ∷ ws) e =
      first_fault f at (judge row w) (λ x. each_in judge add (at + 1) (add row x) ws) (λ x. EachFault judge add (add row x) (at + 1) ws f) e (λ x. each-err (at + 1) (add row x) ws)

  pub each-fault : (at : ℕ) (row : R) (ws : List (List ℕ)) → EachFault judge add row at ws f → each_in judge add at row ws ≡ Err f
  unfolding each_in
  each-fault at row [] h = absurd h
  each-fault at row (w ∷ ws) h =
      refused_first f at (judge row w) (λ x. each_in judge add (at + 1) (add row x) ws) (λ x. EachFault judge add (add row x) (at + 1) ws f) h (λ x. each-fault (at + 1) (add row x) ws)

module _ (f : BadLine) where
  pub some_columns-err : (at : ℕ) (ws : List (List ℕ)) → some_columns_in at ws ≡ Err f → OneOrMore ColumnsFault at ws f
  unfolding some_columns_in next_in
  some_columns-err at [] e = cc
  some_columns-err at (w ∷ ws) e = each-err new_column_at with_column f at [] (w ∷ ws) e

  pub some_columns-fault : (at : ℕ) (ws : List (List ℕ)) → OneOrMore ColumnsFault at ws f → some_columns_in at ws ≡ Err f
  unfolding some_columns_in next_in
  some_columns-fault at [] h = cc
  some_columns-fault at (w ∷ ws) h = each-fault new_column_at with_column f at [] (w ∷ ws) h

  pub content-err : (at : ℕ) (ws : List (List ℕ)) → content_in at ws ≡ Err f → OneOrMore ValuesFault at ws f
  unfolding content_in next_in
  content-err at [] e = cc
  content-err at (w ∷ ws) e = each-err value_behind with_value f at ([], []) (w ∷ ws) (bind-err (values_in at ([], []) (w ∷ ws)) (λ row. Row row.0 row.1) f e)

  pub content-fault : (at : ℕ) (ws : List (List ℕ)) → OneOrMore ValuesFault at ws f → content_in at ws ≡ Err f
  unfolding content_in next_in
  content-fault at [] h = cc
  content-fault at (w ∷ ws) h = rw (each-fault value_behind with_value f at ([], []) (w ∷ ws) h) refl
