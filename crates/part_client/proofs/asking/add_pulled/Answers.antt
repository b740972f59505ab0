use Rattle.std.proofs.Common.{◌∙◌, Option, sym, ap}
use Rattle.std.specs.Prelude.{◌||◌}
use Rattle.std.specs.BTreeSet.{contains}
use Rattle.step_tables.specs.Client.{row_cmp}
use Rattle.part_client.specs.declared.pulls.Pulling.{Pulling}
use Rattle.part_client.specs.Asking.{is_pulled_row}
use Rattle.part_client.proofs.Risings.{one_put}
use Rattle.part_client.proofs.asking.add_pulled.Goals as goal

pub returns-in_ok-_is_new : goal.returns-in_ok-_is_new
returns-in_ok-_is_new c q =
    one_put q c.in-Some.x.came.row.row _ (contains row_cmp c.args.rows.now q) (rw c.row.ensures at (c.in_ok-_is_new.ensures.updates.0 q))
    ∙ ap (λ (o : Option Pulling). contains row_cmp c.args.rows.now q || is_pulled_row o q) (sym c.in-Some.is)
