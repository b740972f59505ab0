use Rattle.std.proofs.Common.{Ok, Err, refl, ◌∙◌}
use Rattle.std.proofs.lemmas.Result.{err_from_is_err_and}
use Rattle.step_tables.specs.StoreMoves.{done}
use Rattle.store_host.proofs.Hosting.{telling, told_cause, done_cause, next_is}
use Rattle.disk_trait.specs.Fuse.{inner_of}
use Rattle.store_node.specs.Node.{behind_next}
use Rattle.store_node.proofs.Working.{node_rows}
use Rattle.store_host.proofs.Lefts.{rows_told, or_next}
use Rattle.store_host.proofs.hosted.Hosted.work.Goals as goal

pub returns-in_err-tell-in-Ok-clause-cause : goal.returns-in_err-tell-in-Ok-clause-cause
returns-in_err-tell-in-Ok-clause-cause g c =
    let n = c.requires in
    let k = c.in-Ok.ensures.works n.0 n.1 in
    let p = err_from_is_err_and c.from_residual.result c.from_residual.ensures.1 in
    rw (p.1, p.2) (told_cause g.D.Disk.state c.args.self.now.node c.work.new.self c.tell.new.self.node k.counted c.tell.ensures.devs
    (Err c.in_err-tell-in-Ok.field-0.0) c.in_err-tell-in-Ok.ensures.memory)

pub returns-in_ok-tell-in-Ok-clause-done : goal.returns-in_ok-tell-in-Ok-clause-done
returns-in_ok-tell-in-Ok-clause-done g c store schema table hosted h =
    let k = c.in-Ok.ensures.works hosted.store h.node in
    let mid = record c.args.self.now { node = c.work.new.self } in (
      c.in_ok-tell-in-Ok.ensures.told store schema table hosted (done hosted.store.disk hosted.store.agenda)
          (telling g.D.Disk.state store schema table hosted (done hosted.store.disk hosted.store.agenda) c.args.self.now mid h k.done.0 hosted.made (c.work.ensures.declared ∙ h.made) refl),
      k.done.1 ∙ next_is g.D.Disk.state store schema table hosted.store.agenda,
    )

pub returns-in_ok-tell-in-Ok-clause-cause : goal.returns-in_ok-tell-in-Ok-clause-cause
returns-in_ok-tell-in-Ok-clause-cause g c =
    let n = c.requires in
    let k = c.in-Ok.ensures.works n.0 n.1 in
    told_cause g.D.Disk.state c.args.self.now.node c.work.new.self c.tell.new.self.node k.counted c.tell.ensures.devs (Ok c.in-Ok.step) tt

pub returns-in-Err-clause-cause : goal.returns-in-Err-clause-cause
returns-in-Err-clause-cause g c =
    let n = c.requires in
    let k = c.in-Err.ensures.works n.0 n.1 in
    done_cause g.D.Disk.state c.args.self.now.node c.work.new.self c.in-Err.fault k.cause k.only

pub returns-then-not-is_up-clause-left : goal.returns-then-not-is_up-clause-left
returns-then-not-is_up-clause-left g c store schema table hosted h made =
    let node = c.args.self.now.node in
    or_next g.D.Disk.state g.D.Disk.images node node hosted.store.disk (behind_next hosted.store.disk hosted.store.agenda)
    (node_rows g.D.Disk.state g.D.Disk.images (λ d image left. g.met.D.Disk.only_now (inner_of d) image left) node hosted.store.disk hosted.store.agenda h.node (h.made ∙ made))

pub returns-in_err-tell-in-Ok-clause-left : goal.returns-in_err-tell-in-Ok-clause-left
returns-in_err-tell-in-Ok-clause-left g c store schema table hosted h made =
    rows_told g.D.Disk.state g.D.Disk.images c.args.self.now.node c.work.new.self c.tell.new.self.node hosted.store.disk (behind_next hosted.store.disk hosted.store.agenda) c.tell.ensures.devs
    (c.in-Ok.ensures.works hosted.store h.node).rows_left

pub returns-in_ok-tell-in-Ok-clause-left : goal.returns-in_ok-tell-in-Ok-clause-left
returns-in_ok-tell-in-Ok-clause-left g c store schema table hosted h made =
    rows_told g.D.Disk.state g.D.Disk.images c.args.self.now.node c.work.new.self c.tell.new.self.node hosted.store.disk (behind_next hosted.store.disk hosted.store.agenda) c.tell.ensures.devs
    (c.in-Ok.ensures.works hosted.store h.node).rows_left

pub returns-in-Err-clause-left : goal.returns-in-Err-clause-left
returns-in-Err-clause-left g c store schema table hosted h made = (c.in-Err.ensures.works hosted.store h.node).rows_left
