use Rattle.std.proofs.Common.{refl}
use Rattle.step_tables.proofs.Lists.{among_here}
use Rattle.world_laws.proofs.a_conflict_with_oneself_is_refused.Goals as goal

pub returns : goal.returns
returns c = λ sound. sound.3.2.1.1.1.0.0.passed.none 1 _ (among_here _ _) refl refl
