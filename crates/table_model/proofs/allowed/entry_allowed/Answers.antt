use Rattle.std.proofs.Common.{Bool, subst, sym}
use Rattle.std.specs.Prelude.{◌↔◌, IsTrue}
use Rattle.table_model.specs.Allowed.{IsAllowed}
use Rattle.table_model.proofs.AllowedEntries.{allowed}
use Rattle.table_model.proofs.allowed.entry_allowed.Goals as goal

pub returns-clause-allowed : goal.returns-clause-allowed
returns-clause-allowed c =
    subst (λ (b : Bool). IsTrue b ↔ IsAllowed c.args.scheme c.args.history.now c.args.entry.now c.args.read) (sym c.allowed_by.ensures)
    (allowed c.args.scheme c.args.history.now c.args.entry.now c.args.read)
