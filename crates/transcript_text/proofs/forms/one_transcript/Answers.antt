use Rattle.std.proofs.Common.{◌≡◌, ℕ, List, [], ◌∷◌, ◌++◌, refl, sym, ◌∙◌, append_assoc}
use Rattle.std.specs.List.{AllByRecursion}
use Rattle.table_model.specs.declared.line.TextLine.{TextLine}
use Rattle.transcript_text.specs.Text.{text_of, transcript_text}
use Rattle.transcript_text.specs.OneForm.{HasText}
use Rattle.transcript_text.proofs.Above.{peel}
use Rattle.transcript_text.proofs.LineWords.{line_same, text_above}
use Rattle.transcript_text.proofs.forms.one_transcript.Goals as goal

begun : (line : TextLine) (more : List TextLine) → transcript_text (line ∷ more) ≡ text_of line ++ 10 ∷ transcript_text more
begun line more = append_assoc (text_of line) (10 ∷ []) (transcript_text more)

not_empty : (text more : List ℕ) → [] ≡ text ++ 10 ∷ more → ⊥
not_empty [] more e = cc
not_empty (b ∷ text) more e = cc

transcript_same : (xs ys : List TextLine) → AllByRecursion HasText xs → AllByRecursion HasText ys → transcript_text xs ≡ transcript_text ys → xs ≡ ys
transcript_same [] [] p q e = refl
transcript_same [] (y ∷ ys) p q e = absurd (not_empty (text_of y) (transcript_text ys) (e ∙ begun y ys))
transcript_same (x ∷ xs) [] p q e = absurd (not_empty (text_of x) (transcript_text xs) (sym e ∙ begun x xs))
transcript_same (x ∷ xs) (y ∷ ys) p q e =
    let parts = peel 10 (text_of x) (text_of y) (10 ∷ transcript_text xs) (10 ∷ transcript_text ys) (text_above x p.0) (text_above y q.0) refl refl
    (sym (begun x xs) ∙ e ∙ begun y ys) in
    cc (line_same x y p.0 q.0 parts.0, transcript_same xs ys p.1 q.1 (cc parts.1))

pub returns : goal.returns
returns c = transcript_same
