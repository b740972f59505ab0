use Rattle.std.proofs.Common.{sym, ⊎_elim, arith, true≢false}
use Rattle.step_tables.proofs.Lists.{among_none}
use Rattle.world_laws.proofs.a_base_that_is_no_entry_is_refused.Goals as goal

pub returns : goal.returns
returns c = λ sound. ⊎_elim (λ n. ⊎_elim (λ zero. absurd (omega arith)) (λ o. among_none _ o.1) n.over) (λ a. true≢false (sym a.0)) sound.3.2.1.1.0
