use Rattle.std.proofs.Common.{sym, ⊎_elim, arith, true≢false}
use Rattle.world_laws.proofs.a_skipped_version_is_refused.Goals as goal

pub returns : goal.returns
returns c = λ sound. ⊎_elim (λ n. absurd (let e = n.next in omega arith)) (λ a. true≢false (sym a.0)) sound.3.2.1.1.0
