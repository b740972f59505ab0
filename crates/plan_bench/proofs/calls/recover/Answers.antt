use Rattle.journal_tests.proofs.Moves.{recovered}
use Rattle.plan_bench.proofs.calls.recover.Goals as goal

pub recover-requires : goal.recover-requires
recover-requires g c up = c.requires.starting

pub returns : goal.returns
returns g c = recovered g.D.Disk.state g.D.Disk.images c.args.client.now c.recover.new.self c.recover.result (c.recover.ensures.recovers c.requires.up) c.requires.are
