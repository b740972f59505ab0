use Rattle.std.proofs.Common.{true, inl, inr, ⊎_elim, refl, ℕ, sym, subst}
use Rattle.step_tables.specs.Messages as messages
use Rattle.step_tables.specs.StoreMoves.{Work}
use Rattle.world_tables.specs.World.{owner_of, schema_at}
use Rattle.store_host.proofs.Maps.{found}
use Rattle.store_host.proofs.Moving.{some_there, table_moved, work_done, tables_cause}
use Rattle.disk_trait.specs.Fuse.{inner_of}
use Rattle.std.specs.BTreeMap as tree
use Rattle.store_host.specs.declared.hosted.Hosted.{Hosted}
use Rattle.store_host.specs.Holds.{AreLeft}
use Rattle.store_host.proofs.Lefts.{next_at, still_left, none_still}
use Rattle.store_host.proofs.tables.work_at.Goals as goal

pub returns-in-Some-clause-done : goal.returns-in-Some-clause-done
returns-in-Some-clause-done g c w h =
    let f = found g.D.Disk.state w c.args.tables.now c.args.table c.in-Some.hosted.now h c.in-Some.ensures.value in
    work_done g.D.Disk.state w c.args.tables.now (c.get_mut.follows.lender c.work.new.self) c.args.table c.work.new.self c.in-Some.hosted.now c.in-Some.ensures.value
    (c.get_mut.follows.holds c.work.new.self) h
    c.work.result f.0 c.args.outs.now c.work.new.outs f.1 (c.work.ensures.done (owner_of w c.args.table) (schema_at w c.args.table) c.args.table f.0 f.2)

pub returns-in-Some-clause-failed : goal.returns-in-Some-clause-failed
returns-in-Some-clause-failed g c w h failed =
    let f = found g.D.Disk.state w c.args.tables.now c.args.table c.in-Some.hosted.now h c.in-Some.ensures.value in
    ⊎_elim
    (λ t. inl (table_moved g.D.Disk.state w c.args.tables.now (c.get_mut.follows.lender c.work.new.self) c.args.table c.work.new.self c.in-Some.hosted.now c.in-Some.ensures.value
    (c.get_mut.follows.holds c.work.new.self) h
    (Work messages.FailedBefore) f.0 c.args.outs.now c.work.new.outs true f.1 t refl))
    (λ t. inr (table_moved g.D.Disk.state w c.args.tables.now (c.get_mut.follows.lender c.work.new.self) c.args.table c.work.new.self c.in-Some.hosted.now c.in-Some.ensures.value
    (c.get_mut.follows.holds c.work.new.self) h
    (Work messages.FailedAfter) f.0 c.args.outs.now c.work.new.outs true f.1 t refl))
    (c.work.ensures.failed (owner_of w c.args.table) (schema_at w c.args.table) c.args.table f.0 f.2 failed)

pub returns-in-Some-clause-cause : goal.returns-in-Some-clause-cause
returns-in-Some-clause-cause g c =
    tables_cause g.D.Disk.state c.args.tables.now (c.get_mut.follows.lender c.work.new.self) c.args.table c.work.new.self c.in-Some.hosted.now c.in-Some.ensures.value
    ((c.get_mut.follows.holds c.work.new.self).3 (some_there _ _ c.in-Some.ensures.value)).0 c.work.result c.work.ensures.cause

pub returns-in-Some-clause-left : goal.returns-in-Some-clause-left
returns-in-Some-clause-left g c w h =
    next_at g.D.Disk.state g.D.Disk.images (λ d image left. g.met.D.Disk.only_now (inner_of d) image left) w c.args.tables.now h (c.get_mut.follows.lender c.work.new.self) c.args.table
    c.work.new.self c.in-Some.hosted.now c.in-Some.ensures.value
    (c.get_mut.follows.holds c.work.new.self) (λ hosted k made. c.work.ensures.left _ _ _ hosted k made)

pub returns-in-None-clause-left : goal.returns-in-None-clause-left
returns-in-None-clause-left g c w h =
    subst (λ (t : tree.BTreeMap ℕ (Hosted g.row.D.Denot)). AreLeft g.D.Disk.state g.D.Disk.images w c.args.tables.now t) (sym c.get_mut.follows.holds-at-none)
    (still_left g.D.Disk.state g.D.Disk.images w c.args.tables.now c.args.tables.now
    (none_still g.D.Disk.state g.D.Disk.images (λ d image left. g.met.D.Disk.only_now (inner_of d) image left) w c.args.tables.now h))
