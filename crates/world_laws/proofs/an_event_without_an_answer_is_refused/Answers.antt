use Rattle.std.proofs.Common.{refl, ⊎_elim, arith}
use Rattle.step_tables.proofs.Lists.{among_here, among_cons, among_none}
use Rattle.world_laws.specs.Worked.{the_row}
use Rattle.world_laws.proofs.an_event_without_an_answer_is_refused.Goals as goal

pub returns : goal.returns
returns c = λ sound. absurd (let e = sound.1.lines_are in cc)
