use Rattle.std.proofs.Common.{◌≡◌, Some, subst}
use Rattle.part_tables.specs.Parts.{Part}
use Rattle.part_tables.specs.Arriving.{arrived}
use Rattle.part_client.specs.Keeping.{IsTakenAt}
use Rattle.part_client.proofs.table.TableParts.take_torn.Goals as goal

some_same : (p q : Part) → Some p ≡ Some q → p ≡ q
some_same p q e = cc

pub returns-in-None-clause-taken : goal.returns-in-None-clause-taken
returns-in-None-clause-taken c opened a p k e h =
    subst (λ (q : Part). IsTakenAt c.args.part.table (arrived opened a q) c.answer_gone.new.self c.answer_gone.result) (some_same _ p (rw c.in-None.is at e)) (c.answer_gone.ensures opened a k)
