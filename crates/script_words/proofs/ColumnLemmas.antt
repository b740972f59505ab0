-- The words of columns.
use Rattle.std.proofs.Common.{◌≡◌, ◌≢◌, ℕ, Bool, true, false, ◌&&◌, eqb, leb, cond, List, [], ◌∷◌, ◌++◌, length, get_or, codes, Option, Some, None, refl, sym, ap, ◌∙◌, subst, inl, inr, true≢false}
use Rattle.std.specs.List.{list_all}
use Rattle.std.specs.Str.{bytes_eq}
use Rattle.std.proofs.lemmas.Bool.{cases_Bool, eqb-true}
use Rattle.std.proofs.lemmas.Slice.Eq.{bytes_eq-Decides}
use Rattle.row_value.specs.declared.schema.ColumnKind.{ColumnKind}
use Rattle.row_value.specs.declared.schema.ColumnKind.TheVariants as kinds
use Rattle.script_words.specs.Words.{is_name, is_name_byte, is_lower, parts_of}
use Rattle.script_words.specs.Columns.{kind_word, kind_of, named, column_of}
use Rattle.script_words.proofs.WordLemmas.{both}
use Rattle.script_words.proofs.Parts.{some_same, none_some, parts_of-some, parts_of-right, IsFree}

pub kind_of-right : (kind : ColumnKind) → kind_of (kind_word kind) ≡ Some kind
unfolding kind_of
kind_of-right kinds.Int = refl
kind_of-right kinds.Bool = refl
kind_of-right kinds.Text = refl
kind_of-right kinds.Object = refl

picked : (word text : List ℕ) (k kind : ColumnKind) (rest : Option ColumnKind) → kind_word k ≡ text → (rest ≡ Some kind → word ≡ kind_word kind)
    → cond (bytes_eq word text) (Some k) rest ≡ Some kind → word ≡ kind_word kind
picked word text k kind rest is more e = elim (cases_Bool (bytes_eq word text)) [
  | inl same ↦ (bytes_eq-Decides word text).0 same ∙ sym is ∙ ap kind_word (some_same _ _ (rw same at e))
  | inr other ↦ more (rw other at e)
]

pub kind_of-some : (word : List ℕ) (kind : ColumnKind) → kind_of word ≡ Some kind → word ≡ kind_word kind
unfolding kind_of
kind_of-some word kind e =
    picked word (codes "int") kinds.Int kind _ refl
    (picked word (codes "bool") kinds.Bool kind _ refl
    (picked word (codes "text") kinds.Text kind _ refl
    (picked word (codes "object") kinds.Object kind _ refl (λ none. absurd (none_some kind none)))))
    e

named-some : (name : List ℕ) (o : Option ColumnKind) (q : List ℕ × ColumnKind) → named name o ≡ Some q → (o ≡ Some q.1) × (name ≡ q.0) × (is_name q.0 ≡ true)
named-some name None q e = absurd (none_some q e)
named-some name (Some kind) q e = elim (cases_Bool (is_name name)) [
  | inl is ↦
      let same : (name, kind) ≡ q = some_same _ _ (rw is at e) in
      (ap (λ (r : List ℕ × ColumnKind). Some r.1) same, ap (λ (r : List ℕ × ColumnKind). r.0) same, subst (λ (r : List ℕ × ColumnKind). is_name r.0 ≡ true) same is)
  | inr other ↦ absurd (none_some q (rw other at e))
]

column-some : (word : List ℕ) (q : List ℕ × ColumnKind) (o : Option (List ℕ × List ℕ)) → parts_of word ≡ o → elim o [ None ↦ None | Some p ↦ named p.0 (kind_of p.1) ] ≡ Some q
    → (kind : List ℕ) × (word ≡ q.0 ++ 58 ∷ kind) × (kind_of kind ≡ Some q.1) × (is_name q.0 ≡ true)
column-some word q None is e = absurd (none_some q e)
column-some word q (Some p) is e =
    let r = named-some p.0 (kind_of p.1) q e in
    (p.1, parts_of-some word p is ∙ ap (λ (name : List ℕ). name ++ 58 ∷ p.1) r.1, r.0, r.2)

column_of-some : (word : List ℕ) (q : List ℕ × ColumnKind) → column_of word ≡ Some q → (kind : List ℕ) × (word ≡ q.0 ++ 58 ∷ kind) × (kind_of kind ≡ Some q.1) × (is_name q.0 ≡ true)
unfolding column_of
column_of-some word q e = column-some word q (parts_of word) refl e

pub column_of-ok : (word : List ℕ) (q : List ℕ × ColumnKind) → column_of word ≡ Some q → (word ≡ q.0 ++ (codes ":" ++ kind_word q.1)) × (is_name q.0 ≡ true)
column_of-ok word q e =
    let p = column_of-some word q e in
    (p.1 ∙ ap (λ (kind : List ℕ). q.0 ++ 58 ∷ kind) (kind_of-some p.0 q.1 p.2), p.3)

-- no byte of a name is this one
free_byte : (separator b : ℕ) → is_name_byte separator ≡ false → is_name_byte b ≡ true → eqb b separator ≡ false
free_byte separator b other e = elim (cases_Bool (eqb b separator)) [
  | inl is ↦ absurd (true≢false (sym (subst (λ (c : ℕ). is_name_byte c ≡ true) (eqb-true b separator is) e) ∙ other))
  | inr not_is ↦ not_is
]

name_bytes : (name : List ℕ) → is_name name ≡ true → list_all is_name_byte name ≡ true
unfolding is_name
name_bytes name e = (both (is_lower (get_or name 0 0) && leb (length name) 64) (list_all is_name_byte name) e).1

free_bytes : (separator : ℕ) (name : List ℕ) → is_name_byte separator ≡ false → list_all is_name_byte name ≡ true → IsFree separator name
free_bytes separator [] other e = tt
free_bytes separator (b ∷ name) other e =
    let p = both (is_name_byte b) (list_all is_name_byte name) e in
    (free_byte separator b other p.0, free_bytes separator name other p.1)

pub free_name : (separator : ℕ) (name : List ℕ) → is_name_byte separator ≡ false → is_name name ≡ true → IsFree separator name
free_name separator name other is = free_bytes separator name other (name_bytes name is)

pub column_of-right : (name : List ℕ) (kind : ColumnKind) → is_name name ≡ true → column_of (name ++ (codes ":" ++ kind_word kind)) ≡ Some (name, kind)
unfolding column_of
column_of-right name kind is =
    ap (λ (o : Option (List ℕ × List ℕ)). elim o as (λ p. Option (List ℕ × ColumnKind)) [ None ↦ None | Some p ↦ named p.0 (kind_of p.1) ])
    (parts_of-right name (kind_word kind) (free_name 58 name refl is))
    ∙ rw (kind_of-right kind, is) refl
