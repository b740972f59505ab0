use Rattle.std.proofs.Common.{sym, ◌∙◌}
use Rattle.row_value.proofs.Wrongs.{fit-gone, fit-cell, fit-object, fit-size}
use Rattle.row_value.proofs.fit.fits.Goals as goal

pub returns-in_default : goal.returns-in_default
returns-in_default c = rw c.in_default.is (sym (fit-gone c.args.schema.now))

pub returns-in-Some : goal.returns-in-Some
returns-in-Some c =
    let wrong = sym (rw (c.cell_count-count.ensures.count, c.as_slice-columns.ensures) at c.misfit.ensures) ∙ c.in-Some.is in
    rw c.in-Row.is (sym (fit-cell _ _ _ _ wrong))

pub returns-in-Some-object_misfit : goal.returns-in-Some-object_misfit
returns-in-Some-object_misfit c =
    let right = sym (rw (c.cell_count-count.ensures.count, c.as_slice-columns.ensures) at c.misfit.ensures) ∙ c.in_default-misfit.is in
    let wrong = sym (rw (c.cell_count-count.ensures.count, c.as_slice-columns.ensures) at c.object_misfit.ensures.value) ∙ c.in-Some-object_misfit.is in
    rw (c.in-Row.is, c.cell_count-count.ensures.count, c.as_slice-columns.ensures, c.len_at.ensures) (sym (fit-object _ _ _ _ right wrong))

pub returns : goal.returns
returns c =
    let right = sym (rw (c.cell_count-count.ensures.count, c.as_slice-columns.ensures) at c.misfit.ensures) ∙ c.in_default-misfit.is in
    let there = sym (rw (c.cell_count-count.ensures.count, c.as_slice-columns.ensures) at c.object_misfit.ensures.value) ∙ c.in_default-object_misfit.is in
    rw c.in-Row.is ((rw (c.as_slice.ensures, c.as_slice-2.ensures) at c.size_fit.ensures) ∙ sym (fit-size _ _ _ right there))
