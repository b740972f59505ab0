use Rattle.std.proofs.Common.{[], None}
use Rattle.step_tables.specs.ClientMoves.{ClientDisk}
use Rattle.journal_laws.proofs.Transitions.{seen_whole, none_still, other_still, late_still, conflict_still, whole_still, unresolved_still}
use Rattle.journal_laws.proofs.Takes.{old_still}
use Rattle.journal_laws.proofs.what_changes_nothing.Goals as goal

abbrev no_disk : ClientDisk
no_disk = record { last = 0; tables = []; plan = None }

pub returns-clause-none_waits : goal.returns-clause-none_waits
returns-clause-none_waits k = none_still

pub returns-clause-another_waits : goal.returns-clause-another_waits
returns-clause-another_waits k = other_still

pub returns-clause-late : goal.returns-clause-late
returns-clause-late k = λ slots out last waits. late_still 0 (λ name. []) no_disk 0 [] slots out waits last

pub returns-clause-conflict : goal.returns-clause-conflict
returns-clause-conflict k = λ slots out latest waits. conflict_still 0 (λ name. []) no_disk 0 [] slots out waits latest

pub returns-clause-whole : goal.returns-clause-whole
returns-clause-whole k = λ slots out waits full. whole_still 0 (λ name. []) no_disk 0 [] slots out waits full

pub returns-clause-old_row : goal.returns-clause-old_row
returns-clause-old_row k = λ scheme slots yours x old. old_still scheme yours x slots old

pub returns-clause-seen : goal.returns-clause-seen
returns-clause-seen k = λ meaning slots. seen_whole 0 meaning no_disk 0 [] slots.conflict slots.shadow

pub returns-clause-no_conflict : goal.returns-clause-no_conflict
returns-clause-no_conflict k = unresolved_still
