-- A write with values that were drawn before it.
use Rattle.std.proofs.Common.{◌≡◌, ℕ, List, Result, Ok, Err, IfOk, sym, ap, ◌∙◌}
use Rattle.load_script.specs.Draws.{Drawn}
use Rattle.load_script.specs.Text.{write_line}
use Rattle.load_script.specs.Script.{values_of, write_of}

abbrev written : ℕ → ℕ → ℕ → Drawn (List ℕ) → Drawn (List ℕ)
written c t r values = record { made = write_line c t r values.made; x = values.x }

abbrev as_made : ℕ → List ℕ → Drawn (List ℕ)
as_made x line = record { made = line; x = x }

pub writes : {E : Type 0} (c t r x behind : ℕ) (values seen : List ℕ) (line : Result (List ℕ) E) → values_of x ≡ record { made = values; x = behind } → seen ≡ values
    → IfOk line (λ it. it ≡ write_line c t r seen) → IfOk line (λ it. write_of c t r x ≡ record { made = it; x = behind })
writes c t r x behind values seen (Ok it) drawn same is =
    ap (written c t r) drawn ∙ ap (as_made behind) (ap (write_line c t r) (sym same) ∙ sym is)
writes c t r x behind values seen (Err e) drawn same is = tt
