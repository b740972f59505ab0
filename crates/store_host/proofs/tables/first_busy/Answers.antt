use Rattle.std.proofs.Common.{ap, sym, ◌∙◌, rules}
use Rattle.std.specs.List.{find}
use Rattle.world_tables.specs.World.{is_at_work}
use Rattle.store_host.proofs.Moving.{find_hit, find_miss, drop_done}
use Rattle.store_host.proofs.tables.first_busy.Goals as goal

pub returns-then-is_busy_at : goal.returns-then-is_busy_at
returns-then-is_busy_at g c w h =
    let ns = c.args.numbers.now in
    sym (find_hit (is_at_work w) ns c.loop-table.table-index (search rules) (sym (c.is_busy_at.ensures w h) ∙ c.if-is_busy_at.true))
    ∙ c.loop-table.invariant w h

pub loop-table-preserved : goal.loop-table-preserved
loop-table-preserved g c w h =
    let ns = c.args.numbers.now in
    find_miss (is_at_work w) ns c.loop-table.table-index (search rules) (sym (c.is_busy_at.ensures w h) ∙ c.if-is_busy_at.false) ∙ c.loop-table.invariant w h

pub returns : goal.returns
returns g c w h =
    let ns = c.args.numbers.now in
    sym (ap (find (is_at_work w)) (drop_done ns c.loop-table.table-index (search rules))) ∙ c.loop-table.invariant w h
