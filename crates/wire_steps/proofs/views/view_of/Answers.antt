use Rattle.step_tables.specs.Store.{current_of}
use Rattle.wire_steps.proofs.Viewed.{none_now, nothing_viewed}
use Rattle.wire_steps.proofs.views.view_of.Goals as goal

pub returns-in-None : goal.returns-in-None
returns-in-None c items row at =
    nothing_viewed c.args.size items c.args.client row c.nothing_seen.result (none_now items row (current_of items row) c.args.found at c.in-None.is)
    c.nothing_seen.ensures.version c.nothing_seen.ensures.yours c.nothing_seen.ensures.chunks
