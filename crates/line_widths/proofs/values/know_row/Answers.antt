use Rattle.std.proofs.Common.{◌≡◌, List, ℕ, length, subst}
use Rattle.transcript_text.specs.OneForm.{HasRowText}
use Rattle.line_widths.proofs.Texts.{row_text}
use Rattle.line_widths.proofs.values.know_row.Goals as goal

pub returns : goal.returns
returns c =
    let known = c.know_sixteen.ensures in
    subst (λ (row : List ℕ). HasRowText row) c.to_bytes.ensures (row_text c.to_bytes.result known.size known.bytes)
