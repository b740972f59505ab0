use Rattle.store_commit.specs.Standing.{writes_of, AreUp, IsReady}
use Rattle.new_rows.proofs.work.work_some.Given as goal

abbrev pub invariant-loop : goal.invariant-loop
invariant-loop g l = AreUp l.devs × IsReady g.D.Disk.state l.devs (writes_of l.devs)
