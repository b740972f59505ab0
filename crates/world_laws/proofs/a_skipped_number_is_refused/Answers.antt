use Rattle.std.proofs.Common.{refl, ⊎_elim, arith}
use Rattle.step_tables.proofs.Lists.{among_here, among_cons, among_none}
use Rattle.world_laws.specs.Worked.{the_row}
use Rattle.world_laws.proofs.a_skipped_number_is_refused.Goals as goal

pub returns : goal.returns
returns c = λ sound. ⊎_elim (λ n. absurd (let e = n.0 in omega arith)) (λ e. absurd cc) sound.3.2.1.0
