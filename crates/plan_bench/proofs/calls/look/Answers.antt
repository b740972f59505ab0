use Rattle.std.proofs.Common.{ap}
use Rattle.client_journal.specs.Standing.{write_of}
use Rattle.std.specs.Prelude.{map}
use Rattle.journal_tests.proofs.Moves.{looked_on}
use Rattle.plan_bench.proofs.calls.look.Goals as goal

pub look-requires : goal.look-requires
look-requires g c = record { synced = c.requires.synced }

pub returns : goal.returns
returns g c =
    let e = c.look.ensures in
    looked_on g.D.Disk.state c.args.client.now c.look.new.self c.look.result c.requires e.looked e.same e.sound e.room (ap (λ a. map write_of a.items) e.agenda)
