use Rattle.std.proofs.Common.{ap, sym, ◌∙◌, rules}
use Rattle.std.specs.List.{find}
use Rattle.store_host.specs.Calls.{is_live_at_work}
use Rattle.store_host.proofs.Moving.{find_hit, find_miss, drop_done}
use Rattle.store_host.proofs.tables.first_live_busy.Goals as goal

pub returns-then-is_live_at_work : goal.returns-then-is_live_at_work
returns-then-is_live_at_work g c w h =
    let ns = c.args.numbers.now in
    sym (find_hit (is_live_at_work w) ns c.loop-number.number-index (search rules) (sym (c.is_live_at_work.ensures w h) ∙ c.if-is_live_at_work.true))
    ∙ c.loop-number.invariant w h

pub loop-number-preserved : goal.loop-number-preserved
loop-number-preserved g c w h =
    let ns = c.args.numbers.now in
    find_miss (is_live_at_work w) ns c.loop-number.number-index (search rules) (sym (c.is_live_at_work.ensures w h) ∙ c.if-is_live_at_work.false) ∙ c.loop-number.invariant w h

pub returns : goal.returns
returns g c w h =
    let ns = c.args.numbers.now in
    sym (ap (find (is_live_at_work w)) (drop_done ns c.loop-number.number-index (search rules))) ∙ c.loop-number.invariant w h
