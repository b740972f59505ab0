use Rattle.std.proofs.Common.{refl}
use Rattle.device_laws.proofs.Small.{first_stands, second_stands}
use Rattle.device_laws.proofs.a_small_table_is_worked_out.Goals as goal

pub returns-clause-first : goal.returns-clause-first
returns-clause-first c = first_stands

pub returns-clause-second : goal.returns-clause-second
returns-clause-second c = second_stands

pub returns-clause-chunks : goal.returns-clause-chunks
returns-clause-chunks c = refl

pub returns-clause-spelled : goal.returns-clause-spelled
returns-clause-spelled c = refl

pub returns-clause-there : goal.returns-clause-there
returns-clause-there c = refl

pub returns-clause-update : goal.returns-clause-update
returns-clause-update c = refl

pub returns-clause-tasks : goal.returns-clause-tasks
returns-clause-tasks c = λ from. refl
