use Rattle.disk_trait.specs.Fuse.{behind, inner_of}
use Rattle.store_commit.proofs.Fuses.{chunk_still_ready, row_still_ready, log_still_ready, chunk_still_leaves, row_still_leaves, log_still_leaves, none_still_leaves, row_leaves}
use Rattle.store_commit.proofs.fused.TableDevs+FuseDisk+D.stop_after.Goals as goal

pub returns-in_default-clause-any_moment : goal.returns-in_default-clause-any_moment
returns-in_default-clause-any_moment g c up synced sound =
    none_still_leaves (behind g.D.Disk.state) (λ f. g.D.Disk.images (inner_of f)) (λ f image left. g.met.D.Disk.only_now (inner_of f) image left) c.args.self.now up synced sound

pub returns-in-Chunks-clause-ready : goal.returns-in-Chunks-clause-ready
returns-in-Chunks-clause-ready g c ws r = chunk_still_ready (behind g.D.Disk.state) c.args.self.now ws r c.stop_after.new.self c.stop_after.ensures.stays

pub returns-in-Chunks-clause-any_moment : goal.returns-in-Chunks-clause-any_moment
returns-in-Chunks-clause-any_moment g c up synced sound =
    chunk_still_leaves (behind g.D.Disk.state) (λ f. g.D.Disk.images (inner_of f)) (λ f image left. g.met.D.Disk.only_now (inner_of f) image left) c.args.self.now up synced sound c.stop_after.new.self
    (c.stop_after.ensures.any_moment up.chunks synced.chunks sound.chunks)

pub returns-in-Rows-clause-ready : goal.returns-in-Rows-clause-ready
returns-in-Rows-clause-ready g c ws r = row_still_ready (behind g.D.Disk.state) c.args.self.now ws r c.stop_after-in-Rows.new.self c.stop_after-in-Rows.ensures.stops.stays

pub returns-in-Rows-clause-any_moment : goal.returns-in-Rows-clause-any_moment
returns-in-Rows-clause-any_moment g c up synced sound =
    row_still_leaves (behind g.D.Disk.state) (λ f. g.D.Disk.images (inner_of f)) (λ f image left. g.met.D.Disk.only_now (inner_of f) image left) c.args.self.now up synced sound c.stop_after-in-Rows.new.self
    (c.stop_after-in-Rows.ensures.stops.any_moment up.rows synced.rows sound.rows)

pub returns-in-Log-clause-ready : goal.returns-in-Log-clause-ready
returns-in-Log-clause-ready g c ws r = log_still_ready (behind g.D.Disk.state) c.args.self.now ws r c.stop_after-in-Log.new.self c.stop_after-in-Log.ensures.stays

pub returns-in-Log-clause-any_moment : goal.returns-in-Log-clause-any_moment
returns-in-Log-clause-any_moment g c up synced sound =
    log_still_leaves (behind g.D.Disk.state) (λ f. g.D.Disk.images (inner_of f)) (λ f image left. g.met.D.Disk.only_now (inner_of f) image left) c.args.self.now up synced sound c.stop_after-in-Log.new.self
    (c.stop_after-in-Log.ensures.any_moment up.log synced.log sound.log)

pub returns-in_default-clause-rows_left : goal.returns-in_default-clause-rows_left
returns-in_default-clause-rows_left g c up synced sound =
    row_leaves (behind g.D.Disk.state) (λ f. g.D.Disk.images (inner_of f)) (λ f image left. g.met.D.Disk.only_now (inner_of f) image left) c.args.self.now up synced sound

pub returns-in-Chunks-clause-rows_left : goal.returns-in-Chunks-clause-rows_left
returns-in-Chunks-clause-rows_left g c up synced sound =
    row_leaves (behind g.D.Disk.state) (λ f. g.D.Disk.images (inner_of f)) (λ f image left. g.met.D.Disk.only_now (inner_of f) image left) c.args.self.now up synced sound

pub returns-in-Log-clause-rows_left : goal.returns-in-Log-clause-rows_left
returns-in-Log-clause-rows_left g c up synced sound =
    row_leaves (behind g.D.Disk.state) (λ f. g.D.Disk.images (inner_of f)) (λ f image left. g.met.D.Disk.only_now (inner_of f) image left) c.args.self.now up synced sound

pub returns-in-Rows-clause-rows_left : goal.returns-in-Rows-clause-rows_left
returns-in-Rows-clause-rows_left g c up synced sound = c.stop_after-in-Rows.ensures.stops.any_moment up.rows synced.rows sound.rows
