use Rattle.std.proofs.Common.{sym, ⊎_elim, true≢false}
use Rattle.world_laws.proofs.an_entry_without_a_write_is_refused.Goals as goal

pub returns : goal.returns
returns c = λ sound. ⊎_elim (λ n. absurd (let e = n.written.told in cc)) (λ a. true≢false (sym a.0)) sound.3.2.1.0
