-- A line as bytes: passed over, read, or at fault.
use Rattle.std.proofs.Common.{◌≡◌, ◌≢◌, ℕ, Bool, false, not, eqb, List, [], ◌∷◌, length, Option, Some, None, Result, Ok, Err, sym, subst, ◌∙◌, inl, inr, arith, true≢false}
use Rattle.std.specs.Prelude.{filter}
use Rattle.std.specs.Option.{IfSome, IfNone}
use Rattle.std.specs.Result.{IfOk, IfErr}
use Rattle.std.specs.List.{slice_split, onto_first}
use Rattle.std.specs.Str.{IsUtf8, IsAscii, is_utf8}
use Rattle.std.proofs.lemmas.Bool.{cases_Bool, eqb-true}
use Rattle.std.proofs.lemmas.Str.{IsUtf8-from_ascii, IsUtf8-from_is_utf8, is_utf8-from_IsUtf8}
use Rattle.std.proofs.lemmas.Str.Ascii.{IsAscii-nil, IsAscii-cons}
use Rattle.table_model.specs.declared.event.Event.{Event}
use Rattle.script_words.specs.declared.code.Code.TheVariants.{NotUtf8}
use Rattle.script_text.specs.declared.fault.BadLine.{BadLine}
use Rattle.script_text.specs.declared.fault.ScriptFault.{ScriptFault}
use Rattle.script_text.specs.declared.fault.ScriptFault.TheVariants as faults
use Rattle.script_text.specs.Faults.{bad}
use Rattle.script_text.specs.Names.{Names}
use Rattle.script_words.specs.Words.{words_of, is_comment}
use Rattle.script_text.specs.Reading.{words_in, line_in, Tells}
use Rattle.script_text.specs.Grammar.{IsPassed, Spells, IsFault, WordsLimit, PassesLimit, Blames}
use Rattle.script_text.proofs.Steps.{ok_err}
use Rattle.script_text.proofs.Readings.{WordsTold, words-ok, words-err, words-fault}

abbrev is_space : ℕ → Bool
is_space b = eqb b 32

abbrev is_word : List ℕ → Bool
is_word w = not (eqb (length w) 0)

full : (x : ℕ) (parts : List (List ℕ)) → filter is_word (onto_first x parts) ≡ [] → ⊥
full x [] e = cc
full x (part ∷ parts) e = elim (cases_Bool (eqb (length (x ∷ part)) 0)) [
  | inl is ↦ absurd (let zero : length (x ∷ part) ≡ 0 = eqb-true _ _ is in omega (arith, zero))
  | inr other ↦ let f : (x ∷ part) ∷ filter is_word parts ≡ [] = rw other at e in cc
]

pub blank : (line : List ℕ) → words_of line ≡ [] → IsAscii line
blank [] e = IsAscii-nil
blank (b ∷ line) e = elim (cases_Bool (is_space b)) [
  | inl is ↦
      let same : b ≡ 32 = eqb-true b 32 is in
      IsAscii-cons b line (omega (arith, same)) (blank line (rw is at e))
  | inr other ↦ absurd (full b (slice_split is_space line) (rw other at e))
]

-- what a line in its grammar says
abbrev pub LineTold : Names → List ℕ → Result (Option Event) ℕ → Type 0
LineTold names line (Ok None) = IsPassed line
LineTold names line (Ok (Some event)) = Spells names line event
LineTold names line (Err limit) = PassesLimit names line limit

told_same : {X E : Type 0} {x y : X} → ◌≡◌ {A = Result X E} (Ok x) (Ok y) → x ≡ y
told_same e = cc

limit_word : (ws : List (List ℕ)) (limit : ℕ) → WordsLimit ws limit → ws ≢ []
limit_word [] limit h e = absurd h
limit_word (w ∷ ws) limit h e = cc

module _ (names : Names) (line : List ℕ) where
  not_passed : is_comment line ≡ false → (words_of line ≢ []) → IsPassed line → ⊥
  not_passed other some p = elim p [ inl comment ↦ true≢false (sym comment ∙ other) | inr none ↦ some none ]

  no_fault : (told : Result (Option Event) ℕ) → IsUtf8 line → words_in names (words_of line) ≡ Ok told → (f : BadLine) → IsFault names line f → ⊥
  no_fault told text h f p = elim p.1 [
    | inl a ↦ a.0 text
    | inr a ↦ ok_err told f (sym h ∙ words-fault names (words_of line) f a.1)
  ]

  lifted : (told : Result (Option Event) ℕ) → is_comment line ≡ false → IsUtf8 line → words_in names (words_of line) ≡ Ok told → WordsTold names (words_of line) told → LineTold names line told
  lifted (Ok None) other text read h = inr h
  lifted (Ok (Some event)) other text read h = (other, text, h)
  lifted (Err limit) other text read h = (not_passed other (limit_word (words_of line) limit h), text, no_fault (Err limit) text read, h)

  pub line-ok : (told : Result (Option Event) ℕ) → line_in names line ≡ Ok told → LineTold names line told
  unfolding line_in
  line-ok told h = elim (cases_Bool (is_comment line)) [
    | inl comment ↦ subst (LineTold names line) (told_same (rw comment at h)) (inl comment)
    | inr other ↦ elim (cases_Bool (is_utf8 line)) [
      | inl text ↦ (let read : words_in names (words_of line) ≡ Ok told = rw (other, text) at h in lifted told other (IsUtf8-from_is_utf8 line text) read (words-ok names (words_of line) told read))
      | inr bytes ↦ absurd (ok_err told (bad NotUtf8 0) (sym (rw (other, bytes) at h)))
    ]
  ]

  pub line-err : (f : BadLine) → line_in names line ≡ Err f → IsFault names line f
  unfolding line_in
  line-err f h = elim (cases_Bool (is_comment line)) [
    | inl comment ↦ absurd (ok_err (Ok None) f (rw comment at h))
    | inr other ↦ elim (cases_Bool (is_utf8 line)) [
      | inl text ↦
          let q = words-err names (words_of line) f (rw (other, text) at h) in
          (not_passed other q.0, inr (IsUtf8-from_is_utf8 line text, q.1))
      | inr bytes ↦
          let no_text : IsUtf8 line → ⊥ = λ u. true≢false (sym (is_utf8-from_IsUtf8 line u) ∙ bytes) in
          let same : Err (bad NotUtf8 0) ≡ Err f = rw (other, bytes) at h in
          (not_passed other (λ none. no_text (IsUtf8-from_ascii line (blank line none))), inl (no_text, cc))
    ]
  ]

module _ (names : Names) (line : List ℕ) where
  pub read-passed : (r : Result (Option Event) ScriptFault) → Tells r (line_in names line) → IfOk r (λ found. IfNone found (IsPassed line))
  read-passed (Ok None) h = line-ok names line (Ok None) h
  read-passed (Ok (Some event)) h = tt
  read-passed (Err fault) h = tt

  pub read-event : (r : Result (Option Event) ScriptFault) → Tells r (line_in names line) → IfOk r (λ found. IfSome found (Spells names line))
  read-event (Ok None) h = tt
  read-event (Ok (Some event)) h = line-ok names line (Ok (Some event)) h
  read-event (Err fault) h = tt

  pub read-fault : (r : Result (Option Event) ScriptFault) → Tells r (line_in names line) → IfErr r (Blames names line)
  read-fault (Ok found) h = tt
  read-fault (Err (faults.BadLine fault)) h = line-err names line fault h
  read-fault (Err (faults.Limit limit)) h = line-ok names line (Err limit) h
  read-fault (Err faults.Memory) h = tt
