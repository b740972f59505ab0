use Rattle.std.proofs.Common.{false, ◌∙◌, sym, ap}
use Rattle.std.proofs.lemmas.List.{get_or_default}
use Rattle.assemblies.specs.declared.awaiting.Awaited.{Awaited}
use Rattle.assemblies.proofs.Slots.{none_lacks, has_come, has_other_len}
use Rattle.assemblies.proofs.assembly.lacking_at.Goals as goal

pub returns-in_err-number : goal.returns-in_err-number
returns-in_err-number c =
    rw c.from_residual.ensures (none_lacks c.args.column c.args.place c.args.len c.args.awaited.now c.args.came.now c.in_err-number.ensures)

pub returns-then-came-number : goal.returns-then-came-number
returns-then-came-number c =
    has_come c.args.column c.args.place c.args.len c.args.awaited.now c.args.came.now c.requires.rising c.in_ok-number.number c.in_ok-number.ensures
    (λ d within. get_or_default c.args.came.now c.in_ok-number.number d false within ∙ c.if-came-number.true)

pub returns-else-awaited-number : goal.returns-else-awaited-number
returns-else-awaited-number c =
    let nowhere : Awaited = record { column = 0; place = 0; len = 0 } in
    has_other_len c.args.column c.args.place c.args.len c.args.awaited.now c.args.came.now c.requires.rising c.in_ok-number.number c.in_ok-number.ensures
    (λ d within same. c.if-awaited-number.false (sym (ap (λ (it : Awaited). it.len) (get_or_default c.args.awaited.now c.in_ok-number.number d nowhere within)) ∙ same))
