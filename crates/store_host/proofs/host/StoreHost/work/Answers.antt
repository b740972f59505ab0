use Rattle.std.proofs.Common.{inl, inr, ap, ◌∙◌, ⊎_elim}
use Rattle.step_tables.specs.Messages as messages
use Rattle.world_tables.specs.World.{busy_step, move_table}
use Rattle.store_host.proofs.Stores.{write_done, write_failed, work_parts, up_declared}
use Rattle.disk_trait.specs.Fuse.{inner_of}
use Rattle.step_tables.specs.StoreMoves.{Work}
use Rattle.store_host.proofs.Froms.{work_from}
use Rattle.store_host.proofs.Lefts.{none_still, still_left, work_falls}
use Rattle.store_host.proofs.host.StoreHost.work.Goals as goal

pub returns-in-Ok-clause-done : goal.returns-in-Ok-clause-done
returns-in-Ok-clause-done g c w h =
    let busy = c.in-Some.ensures w h in
    let k = c.in-Ok.ensures.done w h.tables in
    (write_done g.D.Disk.state w c.args.self.now h c.args.store c.work_at.new.tables c.work_at.new.outs c.in-Some.table busy k.0, k.1 ∙ ap (busy_step w) busy)

pub fall-requires : goal.fall-requires
fall-requires g c =
    let n = c.requires.held in
    let busy = c.in-Some.ensures n.0 n.1 in
    ⊎_elim
    (λ a. (_, work_parts g.D.Disk.state n.0 c.args.self.now n.1 c.args.store c.work_at.new.tables c.work_at.new.outs c.in-Some.table messages.FailedBefore busy _ a))
    (λ a. (_, work_parts g.D.Disk.state n.0 c.args.self.now n.1 c.args.store c.work_at.new.tables c.work_at.new.outs c.in-Some.table messages.FailedAfter busy _ a))
    (c.in-Err-Disk.ensures.failed n.0 n.1.tables (let is = c.in-Err-Disk.field-0-is in cc))

pub returns-in-Err-Disk-clause-failed : goal.returns-in-Err-Disk-clause-failed
returns-in-Err-Disk-clause-failed g c w h failed =
    let old = c.args.self.now in
    let declared = up_declared g.D.Disk.state w old h c.args.store c.requires.up in
    let busy = c.in-Some.ensures w h in
    ⊎_elim
    (λ a. inl (write_failed g.D.Disk.state w old h c.args.store c.fall.new.self declared c.work_at.new.tables c.work_at.new.outs c.in-Some.table messages.FailedBefore busy a c.fall.ensures.fallen))
    (λ a. inr (write_failed g.D.Disk.state w old h c.args.store c.fall.new.self declared c.work_at.new.tables c.work_at.new.outs c.in-Some.table messages.FailedAfter busy a c.fall.ensures.fallen))
    (c.in-Err-Disk.ensures.failed w h.tables (let is = c.in-Err-Disk.field-0-is in cc))

pub returns-in_default-clause-left : goal.returns-in_default-clause-left
returns-in_default-clause-left g c w h =
    let old = c.args.self.now in
    still_left g.D.Disk.state g.D.Disk.images w old.tables old.tables
    (none_still g.D.Disk.state g.D.Disk.images (λ d image left. g.met.D.Disk.only_now (inner_of d) image left) w old.tables h.tables)

pub returns-in-Err-Disk-clause-left : goal.returns-in-Err-Disk-clause-left
returns-in-Err-Disk-clause-left g c w h =
    let old = c.args.self.now in
    let table = c.in-Some.table in
    let busy = c.in-Some.ensures w h in
    let left = c.in-Err-Disk.ensures.left w h.tables in
    let mid = c.work_at.new.tables in
    ⊎_elim
    (λ a. work_falls g.D.Disk.state g.D.Disk.images w (move_table table (Work messages.FailedBefore) w).world old.tables mid c.fall.new.self.tables h.tables a.held
    (c.fall.ensures.left (move_table table (Work messages.FailedBefore) w).world (work_parts g.D.Disk.state w old h c.args.store mid c.work_at.new.outs table messages.FailedBefore busy _ a))
    (work_from messages.FailedBefore w table) left)
    (λ a. work_falls g.D.Disk.state g.D.Disk.images w (move_table table (Work messages.FailedAfter) w).world old.tables mid c.fall.new.self.tables h.tables a.held
    (c.fall.ensures.left (move_table table (Work messages.FailedAfter) w).world (work_parts g.D.Disk.state w old h c.args.store mid c.work_at.new.outs table messages.FailedAfter busy _ a))
    (work_from messages.FailedAfter w table) left)
    (c.in-Err-Disk.ensures.failed w h.tables (let is = c.in-Err-Disk.field-0-is in cc))
