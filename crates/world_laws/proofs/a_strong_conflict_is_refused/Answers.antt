use Rattle.world_laws.proofs.a_strong_conflict_is_refused.Goals as goal

pub returns : goal.returns
returns c = λ sound. absurd (let causal = sound.3.2.1.1.1.0.0.causal in cc)
