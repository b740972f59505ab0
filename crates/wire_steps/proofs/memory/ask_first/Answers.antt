use Rattle.std.proofs.Common.{sym, subst}
use Rattle.part_tables.specs.Arriving.{asking}
use Rattle.wire_steps.specs.Holds.{KeepsThere}
use Rattle.wire_steps.proofs.Maps.{put_here, put_other, none_kept}
use Rattle.wire_steps.proofs.memory.ask_first.Goals as goal

pub returns-clause-asks : goal.returns-clause-asks
returns-clause-asks c a none = c.in_ok-asks.ensures.asks a (none_kept c.new-it.result a c.new-it.ensures.nothing none)

pub returns-clause-kept : goal.returns-clause-kept
returns-clause-kept c a none =
    subst (KeepsThere (asking c.args.table a)) (sym (put_here c.args.arriving.now c.insert.new.self c.args.client c.ask.new.self c.in_ok-insert.ensures.updates.0))
    (c.in_ok-asks.ensures.kept a (none_kept c.new-it.result a c.new-it.ensures.nothing none))

pub returns-clause-others : goal.returns-clause-others
returns-clause-others c q apart =
    put_other c.args.arriving.now c.insert.new.self c.args.client c.ask.new.self c.in_ok-insert.ensures.updates.0 q apart
