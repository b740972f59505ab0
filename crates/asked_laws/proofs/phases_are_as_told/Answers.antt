use Rattle.asked_laws.proofs.PhaseTells.{phase_is, phase_up}
use Rattle.asked_laws.proofs.phases_are_as_told.Goals as goal

pub returns-clause-told : goal.returns-clause-told
returns-clause-told c = phase_is

pub returns-clause-up : goal.returns-clause-up
returns-clause-up c = phase_up
