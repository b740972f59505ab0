use Rattle.assemblies.specs.Travel.{is_sent}
use Rattle.assemblies.proofs.Listing.{rises_from}
use Rattle.assemblies.proofs.awaiting.awaited_of.Goals as goal

pub returns-in_ok-add_objects-in-Row-clause-rising : goal.returns-in_ok-add_objects-in-Row-clause-rising
returns-in_ok-add_objects-in-Row-clause-rising c =
    rw (c.in_ok-add_objects-in-Row.ensures, c.new-list.ensures)
    (rises_from (is_sent c.args.sent) c.args.chunk c.len-first.result c.as_slice.result.now)
