use Rattle.journal_tests.proofs.Moves.{rest_stays, held_found, ready_looked}
use Rattle.plan_bench.proofs.old_name.held.Goals as goal

pub slots-requires : goal.slots-requires
slots-requires g c up = ready_looked g.D.Disk.state c.args.client.now _ c.requires.moving.ready

pub returns-clause-rests : goal.returns-clause-rests
returns-clause-rests g c = rest_stays g.D.Disk.state g.D.Disk.images c.args.client.now c.slots.new.self c.slots.result c.slots.ensures.asks c.requires

pub returns-clause-found : goal.returns-clause-found
returns-clause-found g c = held_found g.D.Disk.state g.D.Disk.images c.args.client.now c.slots.new.self c.args.row.now c.slots.result c.slots.ensures.asks c.requires c.slots.ensures.slots
