use Rattle.journal_laws.proofs.Becomes.{before_whole, before_held, row_plan_of, plain_plan_of}
use Rattle.journal_laws.proofs.plans_are_of_the_table.Goals as goal

pub returns-clause-row : goal.returns-clause-row
returns-clause-row k = λ c meaning d disk number plan p row slots st rest j newest table last position none is held planned. row_plan_of c meaning d disk number st rest newest plan p j table last position none row slots is held planned

pub returns-clause-no_row : goal.returns-clause-no_row
returns-clause-no_row k = λ c meaning d disk number plan p st rest j newest table last position altered is no_put says. plain_plan_of c meaning d disk number st rest newest plan p j table last position altered is no_put says

pub returns-clause-before : goal.returns-clause-before
returns-clause-before k = λ c meaning d disk number brought table row st rest newest. before_whole c meaning d disk number st rest newest brought table row

pub returns-clause-held : goal.returns-clause-held
returns-clause-held k = λ c meaning d disk number brought table row st rest newest. before_held c meaning d disk number st rest newest brought table row
