use Rattle.std.proofs.Common.{◌≡◌, ◌∷◌, ◌∙◌, Bool, ap, sym}
use Rattle.std.specs.Prelude.{◌||◌}
use Rattle.std.specs.BTreeMap.{is_at}
use Rattle.std.proofs.lemmas.Map.Made.{is_some-lookup}
use Rattle.std.specs.BTreeSet.{contains}
use Rattle.step_tables.specs.Client.{row_cmp}
use Rattle.part_client.proofs.Risings.{one_added, all_added}
use Rattle.part_client.proofs.asking.add_keys.Goals as goal

pub loop-row-preserved : goal.loop-row-preserved
loop-row-preserved c q =
    let step : c.loop-row.row-iterator ≡ c.in-Some.row.now ∷ c.next.new.self = c.in-Some.ensures.steps in
    one_added q c.in-Some.row.now c.next.new.self _ (contains row_cmp c.loop-row.rows q) _ (c.in_ok-_is_new.ensures.updates.0 q) (rw step at (c.loop-row.invariant q))

pub returns : goal.returns
returns c q =
    all_added q c.loop-row.row-iterator _ _ c.in-None.ensures.steps.0 (c.loop-row.invariant q)
    ∙ ap (λ (b : Bool). contains row_cmp c.args.rows.now q || b) (sym (is_some-lookup (is_at (row_cmp q)) c.args.more.now.entries))
