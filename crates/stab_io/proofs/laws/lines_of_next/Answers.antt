use Rattle.std.proofs.Common.{subst}
use Rattle.stab_io.specs.Lines.{Next}
use Rattle.stab_io.proofs.LineLaws.{Says, says, line_law, whole_law, fits_law, end_law, no_lines, line_limit_law, input_limit_law}
use Rattle.stab_io.proofs.laws.lines_of_next.Goals as goal

pub returns : goal.returns
returns c = record {
  line = λ limits used bytes text rest e. line_law limits used bytes text rest (subst (λ (n : Next). Says limits used bytes n) e (says limits used bytes));
  whole = λ limits used bytes text rest e. whole_law limits used bytes text rest (subst (λ (n : Next). Says limits used bytes n) e (says limits used bytes));
  fits = λ limits used bytes text rest e. fits_law limits used bytes text rest (subst (λ (n : Next). Says limits used bytes n) e (says limits used bytes));
  end = λ limits used bytes e. end_law limits used bytes (subst (λ (n : Next). Says limits used bytes n) e (says limits used bytes));
  no_lines = no_lines;
  line_limit = λ limits used bytes e. line_limit_law limits used bytes (subst (λ (n : Next). Says limits used bytes n) e (says limits used bytes));
  input_limit = λ limits used bytes e. input_limit_law limits used bytes (subst (λ (n : Next). Says limits used bytes n) e (says limits used bytes));
}
