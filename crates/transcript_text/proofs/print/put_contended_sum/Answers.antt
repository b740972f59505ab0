use Rattle.std.proofs.Common.{◌≡◌, ◌++◌, codes, OnOk, ℕ, List, subst, append_assoc}
use Rattle.std.specs.Fmt.{decimal}
use Rattle.std.specs.String.{string_bytes}
use Rattle.transcript_text.specs.Text.{row_sum_text}
use Rattle.transcript_text.proofs.print.put_contended_sum.Goals as goal

behind_a_conflict : (before text more : List ℕ) (number version : ℕ) → text ≡ before ++ (codes "ok conflict " ++ (decimal number ++ (codes " " ++ decimal version)))
    → text ++ more ≡ before ++ (codes "ok conflict " ++ (decimal number ++ (codes " " ++ (decimal version ++ more))))
behind_a_conflict before text more number version e = rw e (simp append_assoc)

pub returns : goal.returns
returns c =
    subst (λ (text : List ℕ). OnOk c.put_row_sum.result (string_bytes c.put_row_sum.new.out ≡ text))
    (behind_a_conflict (string_bytes c.args.out.now) (string_bytes c.put_conflict.new.out) (row_sum_text c.args.row.now) c.args.number c.args.version c.in_ok-put_conflict.ensures)
    c.put_row_sum.ensures
