use Rattle.std.proofs.Common.{refl, ◌∙◌}
use Rattle.client_journal.specs.Standing.{devs}
use Rattle.client_node.proofs.NotedIds.{bounds_rise}
use Rattle.client_node.proofs.AskedAgain.{first_noted}
use Rattle.client_node.proofs.requesting.first_ready.Goals as goal

pub first_between-requires-clause-rising : goal.first_between-requires-clause-rising
first_between-requires-clause-rising g c = bounds_rise c.args.table c.first_key.result c.first_key-2.result c.first_key.ensures c.first_key-2.ensures

pub returns-clause-found : goal.returns-clause-found
returns-clause-found g c =
    first_noted (devs g.D.Disk.state c.args.devs.now) c.args.table c.args.set.now c.first_key.result c.first_key-2.result c.first_key.ensures c.first_key-2.ensures c.first_between.result c.first_between.ensures.found c.first_between.ensures.sorted
