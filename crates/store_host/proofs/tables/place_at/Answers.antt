use Rattle.std.proofs.Common.{ℕ, Ok, sym, subst}
use Rattle.std.specs.BTreeMap as tree
use Rattle.disk_trait.specs.Fuse.{inner_of}
use Rattle.store_node.specs.Sides.{put_of}
use Rattle.store_host.specs.declared.hosted.Hosted.{Hosted}
use Rattle.store_host.specs.Calls.{ArePlaced, HasTakeCause}
use Rattle.store_host.specs.Holds.{AreStill}
use Rattle.store_host.proofs.Moving.{tables_placed, tables_take_cause, lost_put, no_take_cause, found_up}
use Rattle.store_host.proofs.Maps.{found_node}
use Rattle.store_host.proofs.Lefts.{still_at, none_still}
use Rattle.store_host.proofs.tables.place_at.Goals as goal

pub place-requires-clause-node : goal.place-requires-clause-node
place-requires-clause-node g c = found_node g.D.Disk.state c.args.tables.now c.args.table c.in-Some.hosted.now c.requires.held c.in-Some.ensures.value

pub place-requires-clause-up : goal.place-requires-clause-up
place-requires-clause-up g c = found_up c.args.tables.now c.args.table c.in-Some.hosted.now c.requires.up c.in-Some.ensures.value

pub returns-in-Some-clause-placed : goal.returns-in-Some-clause-placed
returns-in-Some-clause-placed g c w h =
    tables_placed g.D.Disk.state w c.args.tables.now (c.get_mut.follows.lender c.place.new.self) c.place.new.self c.in-Some.hosted.now h c.args.table c.in-Some.ensures.value
    (c.get_mut.follows.holds c.place.new.self) (put_of c.args.put) c.place.result (λ hosted k. c.place.ensures.placed _ _ _ hosted k)

pub returns-in-Some-clause-cause : goal.returns-in-Some-clause-cause
returns-in-Some-clause-cause g c =
    let n = c.requires.held in
    tables_take_cause g.D.Disk.state n.0 c.args.tables.now (c.get_mut.follows.lender c.place.new.self) c.place.new.self c.in-Some.hosted.now n.1 c.args.table c.in-Some.ensures.value
    (c.get_mut.follows.holds c.place.new.self) c.place.result c.place.ensures.cause

pub returns-in-Some-clause-left : goal.returns-in-Some-clause-left
returns-in-Some-clause-left g c w h =
    still_at g.D.Disk.state g.D.Disk.images (λ d image left. g.met.D.Disk.only_now (inner_of d) image left) w c.args.tables.now h (c.get_mut.follows.lender c.place.new.self) c.args.table
    c.place.new.self c.in-Some.hosted.now c.in-Some.ensures.value
    (c.get_mut.follows.holds c.place.new.self) (λ hosted k made. c.place.ensures.left _ _ _ hosted k made)

pub returns-in-None-clause-placed : goal.returns-in-None-clause-placed
returns-in-None-clause-placed g c w h =
    subst (λ (t : tree.BTreeMap ℕ (Hosted g.row.D.Denot)). ArePlaced g.D.Disk.state w c.args.table (put_of c.args.put) t (Ok tt)) (sym c.get_mut.follows.holds-at-none)
    (lost_put g.D.Disk.state w c.args.tables.now c.args.table (put_of c.args.put) h c.in-None.ensures.value)

pub returns-in-None-clause-cause : goal.returns-in-None-clause-cause
returns-in-None-clause-cause g c =
    subst (λ (t : tree.BTreeMap ℕ (Hosted g.row.D.Denot)). HasTakeCause g.D.Disk.state c.args.tables.now t (Ok tt)) (sym c.get_mut.follows.holds-at-none) (no_take_cause g.D.Disk.state c.args.tables.now)

pub returns-in-None-clause-left : goal.returns-in-None-clause-left
returns-in-None-clause-left g c w h =
    subst (λ (t : tree.BTreeMap ℕ (Hosted g.row.D.Denot)). AreStill g.D.Disk.state g.D.Disk.images w c.args.tables.now t) (sym c.get_mut.follows.holds-at-none)
    (none_still g.D.Disk.state g.D.Disk.images (λ d image left. g.met.D.Disk.only_now (inner_of d) image left) w c.args.tables.now h)
