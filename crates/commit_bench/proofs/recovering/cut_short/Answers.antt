use Rattle.store_commit.specs.Standing.{writes_of}
use Rattle.new_rows.proofs.Starts.{ready_synced, ready_sound}
use Rattle.commit_bench.proofs.recovering.cut_short.Goals as goal

pub returns-clause-sound : goal.returns-clause-sound
returns-clause-sound g c =
    let k = c.in_ok-work_some.ensures in
    let s = g.D.Disk.state in
    let mid = c.work_some.new.devs in
    (c.restart.ensures.rests k.up (ready_synced s mid (writes_of mid) k.ready) (ready_sound s mid (writes_of mid) k.ready)).1
