use Rattle.std.proofs.Common.{sym, ⊎_elim, arith, true≢false}
use Rattle.world_laws.proofs.a_strong_entry_behind_is_refused.Goals as goal

pub returns : goal.returns
returns c = λ sound. ⊎_elim (λ n. absurd (let b = n.over.1 in let w = n.written.told in grind (arith, b, w))) (λ a. true≢false (sym a.0)) sound.3.2.1.1.1.1.0
