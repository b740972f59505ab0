use Rattle.disk_trait.specs.Fuse.{behind, inner_of}
use Rattle.client_journal.proofs.Fuses.{chunk_still_ready, slot_still_ready, journal_still_ready, chunk_still_leaves, slot_still_leaves, journal_still_leaves, none_still_leaves}
use Rattle.client_journal.proofs.fused.Journal+FuseDisk+D.stop_after.Goals as goal

pub returns-in_default-clause-any_moment : goal.returns-in_default-clause-any_moment
returns-in_default-clause-any_moment g c up synced sound =
    none_still_leaves (behind g.D.Disk.state) (λ f. g.D.Disk.images (inner_of f)) (λ f image left. g.met.D.Disk.only_now (inner_of f) image left) c.args.self.now up synced sound

pub returns-in-Chunks-clause-ready : goal.returns-in-Chunks-clause-ready
returns-in-Chunks-clause-ready g c ws r = chunk_still_ready (behind g.D.Disk.state) c.args.self.now ws r c.stop_after.new.self c.stop_after.ensures.stays

pub returns-in-Chunks-clause-any_moment : goal.returns-in-Chunks-clause-any_moment
returns-in-Chunks-clause-any_moment g c up synced sound =
    chunk_still_leaves (behind g.D.Disk.state) (λ f. g.D.Disk.images (inner_of f)) (λ f image left. g.met.D.Disk.only_now (inner_of f) image left) c.args.self.now up synced sound c.stop_after.new.self
    (c.stop_after.ensures.any_moment up.chunks synced.chunks sound.chunks)

pub returns-in-Slots-clause-ready : goal.returns-in-Slots-clause-ready
returns-in-Slots-clause-ready g c ws r = slot_still_ready (behind g.D.Disk.state) c.args.self.now ws r c.stop_after-in-Slots.new.self c.stop_after-in-Slots.ensures.stops.stays

pub returns-in-Slots-clause-any_moment : goal.returns-in-Slots-clause-any_moment
returns-in-Slots-clause-any_moment g c up synced sound =
    slot_still_leaves (behind g.D.Disk.state) (λ f. g.D.Disk.images (inner_of f)) (λ f image left. g.met.D.Disk.only_now (inner_of f) image left) c.args.self.now up synced sound c.stop_after-in-Slots.new.self
    (c.stop_after-in-Slots.ensures.stops.any_moment up.slots synced.slots sound.slots)

pub returns-in-Plans-clause-ready : goal.returns-in-Plans-clause-ready
returns-in-Plans-clause-ready g c ws r = journal_still_ready (behind g.D.Disk.state) c.args.self.now ws r c.stop_after-in-Plans.new.self c.stop_after-in-Plans.ensures.stays

pub returns-in-Plans-clause-any_moment : goal.returns-in-Plans-clause-any_moment
returns-in-Plans-clause-any_moment g c up synced sound =
    journal_still_leaves (behind g.D.Disk.state) (λ f. g.D.Disk.images (inner_of f)) (λ f image left. g.met.D.Disk.only_now (inner_of f) image left) c.args.self.now up synced sound c.stop_after-in-Plans.new.self
    (c.stop_after-in-Plans.ensures.any_moment up.journal synced.journal sound.journal)
