use Rattle.std.proofs.Common.{◌≡◌, sym, subst}
use Rattle.disk_trait.specs.Fuse.{behind, inner_of}
use Rattle.store_commit.specs.Standing.{writes_of, IsReady}
use Rattle.device_tests.proofs.Stands.{works_sound}
use Rattle.device_tests.proofs.updates.work_stopped.Goals as goal

pub work-requires : goal.work-requires
work-requires g c =
    let start = c.stop_after.new.self in
    let same : writes_of start ≡ writes_of c.args.devs.now = cc c.stop_after.ensures.agenda in
    record { ready = λ up. subst (IsReady (behind g.D.Disk.state) start) (sym same) (c.stop_after.ensures.ready (writes_of c.args.devs.now) c.requires.ready) }

pub returns : goal.returns
returns g c =
    let state = behind g.D.Disk.state in
    let start = c.stop_after.new.self in
    let up = c.stop_after.ensures.up c.requires.up in
    let same : writes_of start ≡ writes_of c.args.devs.now = cc c.stop_after.ensures.agenda in
    let ready : IsReady state start (writes_of start) = subst (IsReady state start) (sym same) (c.stop_after.ensures.ready (writes_of c.args.devs.now) c.requires.ready) in
    let again = c.restart.ensures in
    record {
      up = again.up;
      synced = again.synced;
      sound = works_sound state (λ f. g.D.Disk.images (inner_of f)) start c.work.new.self c.restart.new.self c.work.result (writes_of start) (c.work.ensures.works up) up ready again.left again.rests;
      idle = again.idle;
    }
