use Rattle.device_laws.proofs.NamedDevices.{left_are_leftovers, one_list_left}
use Rattle.device_laws.proofs.Recoveries.{open_follows, closed_follows}
use Rattle.device_laws.proofs.recoveries_follow_the_table.Goals as goal

pub returns-clause-left : goal.returns-clause-left
returns-clause-left c = λ schema d disk some st. left_are_leftovers schema d disk st

pub returns-clause-only : goal.returns-clause-only
returns-clause-only c = λ schema d disk names st l sorted. one_list_left schema d disk st names l sorted

pub returns-clause-open : goal.returns-clause-open
returns-clause-open c = λ schema d disk store table pending some st is. open_follows schema d disk store table pending st is

pub returns-clause-closed : goal.returns-clause-closed
returns-clause-closed c = closed_follows
