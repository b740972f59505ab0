use Rattle.std.proofs.Common.{sym, ap, ◌∙◌}
use Rattle.simba_top.specs.RowNames.{seen}
use Rattle.simba_top.proofs.RowNames.{none_named, none_too_many, added_rows, added_few, added_cause}
use Rattle.simba_top.proofs.row_names.RowNames.add.Goals as goal

pub returns-in-Some-clause-rows : goal.returns-in-Some-clause-rows
returns-in-Some-clause-rows c = λ script has.
    added_rows script c.args.event.now c.in-Some.table c.in-Some.row.now c.args.self.now c.add_row.new.self c.add_row.result
    (sym c.row_in.ensures ∙ ap seen c.in-Some.is) has c.add_row.ensures.rows

pub returns-in-Some-clause-few : goal.returns-in-Some-clause-few
returns-in-Some-clause-few c = λ script has few.
    added_few script c.args.event.now c.in-Some.table c.in-Some.row.now c.args.self.now c.add_row.new.self c.add_row.result
    (sym c.row_in.ensures ∙ ap seen c.in-Some.is) has c.add_row.ensures.rows c.add_row.ensures.few few

pub returns-in-Some-clause-cause : goal.returns-in-Some-clause-cause
returns-in-Some-clause-cause c = λ script has.
    added_cause script c.args.event.now c.in-Some.table c.in-Some.row.now c.args.self.now c.add_row.new.self c.add_row.result
    (sym c.row_in.ensures ∙ ap seen c.in-Some.is) has c.add_row.ensures.rows c.add_row.ensures.cause

pub returns-in-None-clause-rows : goal.returns-in-None-clause-rows
returns-in-None-clause-rows c = λ script has. none_named script c.args.event.now (sym c.row_in.ensures ∙ ap seen c.in-None.is) c.args.self.now has

pub returns-in-None-clause-few : goal.returns-in-None-clause-few
returns-in-None-clause-few c = λ script has few. none_too_many script c.args.event.now (sym c.row_in.ensures ∙ ap seen c.in-None.is) few
