use Rattle.std.proofs.Common.{◌≡◌, ◌⊎◌, inl, inr, ℕ, List, [], ◌∷◌, refl, ap, ⊎_elim, arith}
use Rattle.stab_base.specs.declared.chunk_name.ChunkName.{ChunkName}
use Rattle.table_model.specs.declared.entry.Entry.{Entry}
use Rattle.step_tables.proofs.Lists.{among_here, among_next, among_cons, among_none}
use Rattle.world_laws.specs.Worked.{the_row, named}
use Rattle.world_laws.proofs.other_chunk_names_are_refused.Goals as goal

pub returns-clause-missing : goal.returns-clause-missing
returns-clause-missing c = λ k. absurd (let n = k.counted the_row in omega arith)

pub returns-clause-turned : goal.returns-clause-turned
returns-clause-turned c = λ k. ⊎_elim (λ low. absurd (omega arith)) (λ same. absurd (let e = same.0 in omega arith)) k.rise.0.0

pub returns-clause-unknown : goal.returns-clause-unknown
returns-clause-unknown c = λ k.
    let x = k.versions (named 3 0) (among_next (named 1 0) _ _ (among_next (named 2 0) _ _ (among_here (named 3 0) []))) in
    ⊎_elim (λ e. absurd (let v = ap (λ (o : Entry). o.version) e in let w = x.2 in omega arith))
    (λ b. ⊎_elim (λ e. absurd (let v = ap (λ (o : Entry). o.version) e in let w = x.2 in omega arith)) (λ z. among_none _ z) (among_cons _ _ _ b))
    (among_cons _ _ _ x.1)
