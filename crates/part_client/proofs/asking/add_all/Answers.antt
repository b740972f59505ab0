use Rattle.std.proofs.Common.{◌≡◌, ◌∷◌}
use Rattle.std.specs.BTreeSet.{contains}
use Rattle.step_tables.specs.Client.{row_cmp}
use Rattle.part_client.proofs.Risings.{one_added}
use Rattle.part_client.proofs.asking.add_all.Goals as goal

pub loop-row-preserved : goal.loop-row-preserved
loop-row-preserved c q =
    let step : c.loop-row.row-iterator ≡ c.in-Some.row.now ∷ c.next.new.self = c.in-Some.ensures.steps in
    one_added q c.in-Some.row.now c.next.new.self _ (contains row_cmp c.loop-row.rows q) _ (c.in_ok-_is_new.ensures.updates.0 q) (rw step at (c.loop-row.invariant q))
