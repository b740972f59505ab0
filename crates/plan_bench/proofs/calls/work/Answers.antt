use Rattle.std.proofs.Common.{refl}
use Rattle.journal_tests.proofs.Moves.{works_on}
use Rattle.plan_bench.proofs.calls.work.Goals as goal

pub work-requires : goal.work-requires
work-requires g c = record { ready = λ up. c.requires.ready }

pub returns : goal.returns
returns g c = works_on g.D.Disk.state g.D.Disk.images c.args.client.now c.work.new.self c.work.result _ refl (c.work.ensures.works c.requires.up) c.requires
