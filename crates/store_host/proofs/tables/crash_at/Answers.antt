use Rattle.std.proofs.Common.{ℕ, Some, sym, subst}
use Rattle.std.specs.BTreeMap as tree
use Rattle.disk_trait.specs.Fuse.{inner_of}
use Rattle.store_host.specs.declared.hosted.Hosted.{Hosted}
use Rattle.store_host.specs.Holds.{AreLeft}
use Rattle.store_host.specs.Calls.{AreCrashed}
use Rattle.store_host.proofs.Lefts.{next_at, still_left, none_still}
use Rattle.store_host.proofs.Maps.{not_found}
use Rattle.store_host.proofs.Crashed.{table_crashed, none_crashed, crash_nowhere}
use Rattle.store_host.proofs.tables.crash_at.Goals as goal

pub returns-in-Some-clause-crashed : goal.returns-in-Some-clause-crashed
returns-in-Some-clause-crashed g c w h =
    table_crashed g.D.Disk.state w c.args.calls c.args.tables.now h (c.get_mut.follows.lender c.crash.new.self) c.args.table c.crash.new.self c.in-Some.hosted.now c.in-Some.ensures.value
    (c.get_mut.follows.holds c.crash.new.self) (λ hosted k. c.crash.ensures.crashed _ _ _ hosted k)

pub returns-in-Some-clause-left : goal.returns-in-Some-clause-left
returns-in-Some-clause-left g c w h =
    next_at g.D.Disk.state g.D.Disk.images (λ d image left. g.met.D.Disk.only_now (inner_of d) image left) w c.args.tables.now h (c.get_mut.follows.lender c.crash.new.self) c.args.table
    c.crash.new.self c.in-Some.hosted.now c.in-Some.ensures.value
    (c.get_mut.follows.holds c.crash.new.self) (λ hosted k made. c.crash.ensures.left _ _ _ hosted k made)

pub returns-in_default-clause-crashed : goal.returns-in_default-clause-crashed
returns-in_default-clause-crashed g c w h =
    subst (λ (t : tree.BTreeMap ℕ (Hosted g.row.D.Denot)). AreCrashed g.D.Disk.state w (Some c.args.table) c.args.calls c.args.tables.now t) (sym c.get_mut.follows.holds-at-none)
    (none_crashed g.D.Disk.state w c.args.calls c.args.tables.now h (Some c.args.table)
    (λ luck. crash_nowhere w c.args.table luck (not_found g.D.Disk.state w c.args.tables.now c.args.table h c.in_default.ensures.value)))

pub returns-in_default-clause-left : goal.returns-in_default-clause-left
returns-in_default-clause-left g c w h =
    subst (λ (t : tree.BTreeMap ℕ (Hosted g.row.D.Denot)). AreLeft g.D.Disk.state g.D.Disk.images w c.args.tables.now t) (sym c.get_mut.follows.holds-at-none)
    (still_left g.D.Disk.state g.D.Disk.images w c.args.tables.now c.args.tables.now
    (none_still g.D.Disk.state g.D.Disk.images (λ d image left. g.met.D.Disk.only_now (inner_of d) image left) w c.args.tables.now h))
