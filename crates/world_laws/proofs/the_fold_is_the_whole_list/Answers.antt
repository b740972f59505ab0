use Rattle.world_laws.proofs.Whole.{read_is, shadow_is, position_is, conflict_is}
use Rattle.world_laws.proofs.the_fold_is_the_whole_list.Goals as goal

pub returns-clause-read : goal.returns-clause-read
returns-clause-read c = λ client table row lines. read_is client table row lines

pub returns-clause-shadow : goal.returns-clause-shadow
returns-clause-shadow c = λ client table row lines. shadow_is client table row lines

pub returns-clause-position : goal.returns-clause-position
returns-clause-position c = λ client table lines. position_is client table lines

pub returns-clause-conflict : goal.returns-clause-conflict
returns-clause-conflict c = λ client table row number lines. conflict_is client table row number lines
