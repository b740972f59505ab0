use Rattle.std.proofs.Common.{Ok, refl}
use Rattle.client_journal.specs.Standing.{writes_of}
use Rattle.journal_tests.proofs.Moves.{works_on, idle_rests}
use Rattle.plan_bench.proofs.Turns.{fewer}
use Rattle.plan_bench.proofs.calls.work_all.Goals as goal

pub work-requires : goal.work-requires
work-requires g c = record { ready = λ up. c.loop-client.invariant.ready }

pub loop-client-smaller : goal.loop-client-smaller
loop-client-smaller g c =
    let old = c.loop-client.client in
    fewer g.D.Disk.state g.D.Disk.images old c.work.new.self (Ok c.in_ok-work.field-0) (writes_of old) refl c.loop-client-test.ensures (c.in_ok-work.ensures.works c.loop-client.invariant.up)

pub loop-client-preserved : goal.loop-client-preserved
loop-client-preserved g c =
    let old = c.loop-client.client in
    works_on g.D.Disk.state g.D.Disk.images old c.work.new.self (Ok c.in_ok-work.field-0) (writes_of old) refl (c.in_ok-work.ensures.works c.loop-client.invariant.up) c.loop-client.invariant

pub returns : goal.returns
returns g c = idle_rests g.D.Disk.state c.loop-client.client c.loop-client.invariant c.loop-client-test.ensures
