use Rattle.std.proofs.Common.{refl, sym, ⊎_elim, arith, true≢false}
use Rattle.step_tables.proofs.Lists.{among_here}
use Rattle.world_laws.proofs.an_unread_entry_is_refused.Goals as goal

pub returns : goal.returns
returns c = λ sound.
    ⊎_elim (λ n. absurd (let b = n.over.1 _ (among_here _ _) refl (let w = n.written.told in grind arith) in let client = b.0 in omega arith)) (λ a. true≢false (sym a.0)) sound.3.2.1.1.1.1.0
