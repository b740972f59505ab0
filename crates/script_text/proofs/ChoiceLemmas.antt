-- How a conflict is resolved, read and spelled.
use Rattle.std.proofs.Common.{◌≡◌, ℕ, false, List, [], ◌∷◌, codes, Result, Ok, Err, refl, sym, ap, ◌∙◌, subst, inl, inr}
use Rattle.std.specs.Str.{bytes_eq}
use Rattle.std.proofs.lemmas.Bool.{cases_Bool}
use Rattle.std.proofs.lemmas.Slice.Eq.{bytes_eq-Decides}
use Rattle.conflicts.specs.declared.pair.Choice.{Choice}
use Rattle.conflicts.specs.declared.pair.Choice.TheVariants as choices
use Rattle.row_value.specs.declared.content.Content.{Content}
use Rattle.row_value.specs.declared.content.Content.TheVariants.{Gone, Row}
use Rattle.std.specs.Fmt.{digits}
use Rattle.script_words.specs.Words.{parts_by}
use Rattle.script_words.specs.Values.{int_of, long_of, word_of, value_at}
use Rattle.script_words.specs.declared.code.Code.TheVariants.{NoName, NoValue}
use Rattle.script_text.specs.declared.fault.BadLine.{BadLine}
use Rattle.script_text.specs.declared.resolving.Way.{Way}
use Rattle.script_text.specs.declared.resolving.Way.TheVariants as ways
use Rattle.script_text.specs.Faults.{bad}
use Rattle.script_text.specs.Places.{way_at, value_behind}
use Rattle.script_text.specs.Reading.{next_in, word_in, end_in, each_in, content_in, new_in, chosen_in, choice_in}
use Rattle.script_text.specs.Grammar.{SpellsContent, SpellsNew, SpellsChoice, NewFault, WayFault, ChoiceFault}
use Rattle.script_text.proofs.ContentLemmas.{content-ok, content-right}
use Rattle.script_text.proofs.PlaceLemmas.{one_word}
use Rattle.script_text.proofs.Steps.{ok_err, bind-ok, bind-err, word_in-ok, word_in-right, end_in-right, end-ok, end-err, end-fault, content-err, content-fault, first_fault, refused_first}

-- ---- the word that says how

abbrev way_word : Way → List ℕ
way_word ways.Mine = codes "mine"
way_word ways.Theirs = codes "theirs"
way_word ways.New = codes "new"

way_at-ok : (word : List ℕ) (way : Way) → way_at word ≡ Ok way → word ≡ way_word way
unfolding way_at
way_at-ok word way e =
    one_word way_word ways.Mine way word _
    (one_word way_word ways.Theirs way word _
    (one_word way_word ways.New way word _ (λ none. absurd (ok_err way NoName (sym none)))))
    e

way_at-right : (way : Way) → way_at (way_word way) ≡ Ok way
unfolding way_at
way_at-right ways.Mine = refl
way_at-right ways.Theirs = refl
way_at-right ways.New = refl

-- ---- a new content

gone_value : value_at (codes "gone") ≡ Err NoValue
unfolding value_at word_of long_of int_of parts_by digits
gone_value = refl

row_new : (ws : List (List ℕ)) (content : Content) → SpellsContent ws content → SpellsNew ws content
row_new ws Gone h = absurd h
row_new ws (Row some objects) h = h

new-ok : (ws : List (List ℕ)) (content : Content) → new_in ws ≡ Ok content → SpellsNew ws content
unfolding new_in next_in
new-ok [] content e = absurd (ok_err content _ (sym e))
new-ok (w ∷ ws) content e = elim (cases_Bool (bytes_eq w (codes "gone"))) [
  | inl is ↦
      let r = end-ok 7 Gone ws content (rw is at e) in
      let words : w ∷ ws ≡ codes "gone" ∷ [] = cc ((bytes_eq-Decides w (codes "gone")).0 is, r.0) in
      subst (SpellsNew (w ∷ ws)) r.1 words
  | inr other ↦ row_new (w ∷ ws) content (content-ok 6 (w ∷ ws) content (rw other at e))
]

-- no value is spelled so
not_gone : (w : List ℕ) (ws : List (List ℕ)) (content : Content) → content_in 6 (w ∷ ws) ≡ Ok content → bytes_eq w (codes "gone") ≡ false
unfolding content_in next_in each_in value_behind
not_gone w ws content e = elim (cases_Bool (bytes_eq w (codes "gone"))) [
  | inl is ↦
      let word : w ≡ codes "gone" = (bytes_eq-Decides w (codes "gone")).0 is in
      absurd (ok_err content (bad NoValue 6) (sym (rw (word, gone_value) at e)))
  | inr other ↦ other
]

new-right : (ws : List (List ℕ)) (content : Content) → SpellsNew ws content → new_in ws ≡ Ok content
unfolding new_in next_in end_in
new-right ws Gone h = rw h refl
new-right [] (Row some objects) h = absurd (h.3 refl)
new-right (w ∷ ws) (Row some objects) h =
    let read = content-right 6 (w ∷ ws) (Row some objects) h in
    rw (not_gone w ws (Row some objects) read) read

module _ (f : BadLine) where
  new-err : (ws : List (List ℕ)) → new_in ws ≡ Err f → NewFault 6 ws f
  unfolding new_in next_in
  new-err [] e = cc
  new-err (w ∷ ws) e = elim (cases_Bool (bytes_eq w (codes "gone"))) [
    | inl is ↦ rw is (end-err 7 Gone ws f (rw is at e))
    | inr other ↦ rw other (content-err f 6 (w ∷ ws) (rw other at e))
  ]

  new-fault : (ws : List (List ℕ)) → NewFault 6 ws f → new_in ws ≡ Err f
  unfolding new_in next_in
  new-fault [] h = cc
  new-fault (w ∷ ws) h = elim (cases_Bool (bytes_eq w (codes "gone"))) [
    | inl is ↦ rw is (end-fault 7 Gone ws f (rw is at h))
    | inr other ↦ rw other (content-fault f 6 (w ∷ ws) (rw other at h))
  ]

-- ---- the choice

choice_told : {x y : Choice} → ◌≡◌ {A = Result Choice BadLine} (Ok x) (Ok y) → x ≡ y
choice_told e = cc

chosen-ok : (way : Way) (ws : List (List ℕ)) (choice : Choice) → chosen_in way ws ≡ Ok choice → SpellsChoice (way_word way ∷ ws) choice
chosen-ok ways.Mine ws choice e =
    let r = end-ok 6 choices.Mine ws choice e in
    subst (SpellsChoice (codes "mine" ∷ ws)) r.1 (ap (λ (t : List (List ℕ)). codes "mine" ∷ t) r.0)
chosen-ok ways.Theirs ws choice e =
    let r = end-ok 6 choices.Theirs ws choice e in
    subst (SpellsChoice (codes "theirs" ∷ ws)) r.1 (ap (λ (t : List (List ℕ)). codes "theirs" ∷ t) r.0)
chosen-ok ways.New ws choice e =
    let p = bind-ok (new_in ws) (λ content. Ok (choices.New content)) choice e in
    subst (SpellsChoice (codes "new" ∷ ws)) (choice_told p.2) (ws, refl, new-ok ws p.0 p.1)

pub choice-ok : (ws : List (List ℕ)) (choice : Choice) → choice_in ws ≡ Ok choice → SpellsChoice ws choice
unfolding choice_in
choice-ok ws choice e =
    let a = word_in-ok _ _ _ ws choice e in
    let is : ws ≡ way_word a.2 ∷ a.1 = a.3 ∙ ap (λ (w : List ℕ). w ∷ a.1) (way_at-ok a.0 a.2 a.4) in
    subst (λ (t : List (List ℕ)). SpellsChoice t choice) (sym is) (chosen-ok a.2 a.1 choice a.5)

pub choice-right : (ws : List (List ℕ)) (choice : Choice) → SpellsChoice ws choice → choice_in ws ≡ Ok choice
unfolding choice_in
choice-right ws choices.Mine h =
    rw h (word_in-right 5 way_at (codes "mine") [] chosen_in ways.Mine (way_at-right ways.Mine) ∙ rw (end_in-right 6) refl)
choice-right ws choices.Theirs h =
    rw h (word_in-right 5 way_at (codes "theirs") [] chosen_in ways.Theirs (way_at-right ways.Theirs) ∙ rw (end_in-right 6) refl)
choice-right ws (choices.New content) h =
    rw h.1 (word_in-right 5 way_at (codes "new") h.0 chosen_in ways.New (way_at-right ways.New) ∙ rw (new-right h.0 content h.2) refl)

module _ (f : BadLine) where
  chosen-err : (way : Way) (ws : List (List ℕ)) → chosen_in way ws ≡ Err f → WayFault way 6 ws f
  chosen-err ways.Mine ws e = end-err 6 choices.Mine ws f e
  chosen-err ways.Theirs ws e = end-err 6 choices.Theirs ws f e
  chosen-err ways.New ws e = new-err f ws (bind-err (new_in ws) choices.New f e)

  chosen-fault : (way : Way) (ws : List (List ℕ)) → WayFault way 6 ws f → chosen_in way ws ≡ Err f
  chosen-fault ways.Mine ws h = end-fault 6 choices.Mine ws f h
  chosen-fault ways.Theirs ws h = end-fault 6 choices.Theirs ws f h
  chosen-fault ways.New ws h = rw (new-fault f ws h) refl

  pub choice-err : (ws : List (List ℕ)) → choice_in ws ≡ Err f → ChoiceFault 5 ws f
  unfolding choice_in word_in next_in
  choice-err [] e = cc
  choice-err (w ∷ ws) e =
      first_fault f 5 (way_at w) (λ way. chosen_in way ws) (λ way. WayFault way 6 ws f) e (λ way. chosen-err way ws)

  pub choice-fault : (ws : List (List ℕ)) → ChoiceFault 5 ws f → choice_in ws ≡ Err f
  unfolding choice_in word_in next_in
  choice-fault [] h = cc
  choice-fault (w ∷ ws) h =
      refused_first f 5 (way_at w) (λ way. chosen_in way ws) (λ way. WayFault way 6 ws f) h (λ way. chosen-fault way ws)
