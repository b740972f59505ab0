use Rattle.std.proofs.Common.{[], false, ℕ, sym, subst}
use Rattle.step_tables.specs.Messages as messages
use Rattle.step_tables.specs.StoreMoves.{Crash}
use Rattle.world_tables.specs.World.{owner_of, schema_at}
use Rattle.store_host.proofs.Maps.{found}
use Rattle.store_host.proofs.Moving.{table_moved, crash_answer}
use Rattle.disk_trait.specs.Fuse.{inner_of}
use Rattle.std.specs.BTreeMap as tree
use Rattle.store_host.specs.declared.hosted.Hosted.{Hosted}
use Rattle.store_host.specs.Holds.{AreStill}
use Rattle.store_host.proofs.Lefts.{still_at, none_still}
use Rattle.store_host.proofs.tables.halt_at.Goals as goal

pub returns-in-Some-clause-fallen : goal.returns-in-Some-clause-fallen
returns-in-Some-clause-fallen g c w h =
    let f = found g.D.Disk.state w c.args.tables.now c.args.table c.in-Some.hosted.now h c.in-Some.ensures.value in
    (table_moved g.D.Disk.state w c.args.tables.now (c.get_mut.follows.lender c.halt.new.self) c.args.table c.halt.new.self c.in-Some.hosted.now c.in-Some.ensures.value
    (c.get_mut.follows.holds c.halt.new.self) h
    (Crash messages.FailedBefore) f.0 [] [] false f.1 (c.halt.ensures.halted (owner_of w c.args.table) (schema_at w c.args.table) c.args.table f.0 f.2)
    (crash_answer f.0.store.disk f.0.store.agenda messages.FailedBefore)).held

pub returns-in-Some-clause-left : goal.returns-in-Some-clause-left
returns-in-Some-clause-left g c w h =
    still_at g.D.Disk.state g.D.Disk.images (λ d image left. g.met.D.Disk.only_now (inner_of d) image left) w c.args.tables.now h (c.get_mut.follows.lender c.halt.new.self) c.args.table
    c.halt.new.self c.in-Some.hosted.now c.in-Some.ensures.value
    (c.get_mut.follows.holds c.halt.new.self) (λ hosted k made. c.halt.ensures.left _ _ _ hosted k made)

pub returns-in_default-clause-left : goal.returns-in_default-clause-left
returns-in_default-clause-left g c w h =
    subst (λ (t : tree.BTreeMap ℕ (Hosted g.row.D.Denot)). AreStill g.D.Disk.state g.D.Disk.images w c.args.tables.now t) (sym c.get_mut.follows.holds-at-none)
    (none_still g.D.Disk.state g.D.Disk.images (λ d image left. g.met.D.Disk.only_now (inner_of d) image left) w c.args.tables.now h)
