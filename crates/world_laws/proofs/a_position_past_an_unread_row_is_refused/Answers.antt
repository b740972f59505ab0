use Rattle.std.proofs.Common.{refl, ⊎_elim, arith}
use Rattle.step_tables.proofs.Lists.{among_here, among_cons, among_none}
use Rattle.world_laws.specs.Worked.{the_row}
use Rattle.world_laws.proofs.a_position_past_an_unread_row_is_refused.Goals as goal

pub returns : goal.returns
returns c = λ sound. absurd (let read = sound.3.2.1.1.1.0.1 the_row (omega arith) in omega arith)
