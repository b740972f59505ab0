use Rattle.std.specs.Prelude.{◌≡◌, length}
use Rattle.store_commit.specs.Devs.{changed_by_all}
use Rattle.store_commit.specs.Standing.{devs, writes_of, AreUp, IsReady}
use Rattle.new_rows.proofs.work.work_all.Given as goal

abbrev pub invariant-loop-devs : goal.invariant-loop-devs
invariant-loop-devs g l =
    AreUp l.devs × IsReady g.D.Disk.state l.devs (writes_of l.devs)
    × (changed_by_all (devs g.D.Disk.state l.devs) (writes_of l.devs) ≡ changed_by_all (devs g.D.Disk.state l.fn.devs) (writes_of l.fn.devs))

abbrev pub decreases-loop-devs : goal.decreases-loop-devs
decreases-loop-devs g l = length (writes_of l.devs)
