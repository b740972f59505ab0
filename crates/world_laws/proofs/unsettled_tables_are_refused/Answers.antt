use Rattle.std.proofs.Common.{◌≡◌, Option, Some, None, refl, arith}
use Rattle.step_tables.proofs.Lists.{among_here}
use Rattle.world_laws.specs.Worked.{the_row}
use Rattle.world_laws.proofs.unsettled_tables_are_refused.Goals as goal

pub returns-clause-waiting : goal.returns-clause-waiting
returns-clause-waiting c = λ k. k.rows 1 1 (among_here _ _) the_row

pub returns-clause-behind : goal.returns-clause-behind
returns-clause-behind c = λ k. absurd (let e = k.rows 2 1 (among_here _ _) the_row in omega arith)

not_none : {X : Type 0} (x : X) → Some x ≡ None → ⊥
not_none x e = absurd cc

pub returns-clause-strong : goal.returns-clause-strong
returns-clause-strong c = λ k. not_none _ (k.strong 1 1 the_row refl)
