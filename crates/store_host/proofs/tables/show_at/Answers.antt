use Rattle.std.proofs.Common.{ℕ, sym, subst}
use Rattle.store_host.proofs.Moving.{some_there, tables_shown, tables_cause, found_up}
use Rattle.store_host.proofs.Maps.{found_node}
use Rattle.disk_trait.specs.Fuse.{inner_of}
use Rattle.std.specs.BTreeMap as tree
use Rattle.store_host.specs.declared.hosted.Hosted.{Hosted}
use Rattle.store_host.specs.Holds.{AreStill}
use Rattle.store_host.proofs.Lefts.{still_at, none_still}
use Rattle.store_host.proofs.tables.show_at.Goals as goal

pub show-requires-clause-node : goal.show-requires-clause-node
show-requires-clause-node g c = found_node g.D.Disk.state c.args.tables.now c.args.table c.in-Some.hosted.now c.requires.held c.in-Some.ensures.value

pub show-requires-clause-up : goal.show-requires-clause-up
show-requires-clause-up g c = found_up c.args.tables.now c.args.table c.in-Some.hosted.now c.requires.up c.in-Some.ensures.value

pub returns-in-Some-clause-shown : goal.returns-in-Some-clause-shown
returns-in-Some-clause-shown g c w h =
    tables_shown g.D.Disk.state w c.args.tables.now (c.get_mut.follows.lender c.show.new.self) c.show.new.self c.in-Some.hosted.now h c.args.table c.in-Some.ensures.value
    (c.get_mut.follows.holds c.show.new.self) c.args.row.now c.show.result (λ hosted k. c.show.ensures.shown _ _ _ hosted k)

pub returns-in-Some-clause-cause : goal.returns-in-Some-clause-cause
returns-in-Some-clause-cause g c =
    tables_cause g.D.Disk.state c.args.tables.now (c.get_mut.follows.lender c.show.new.self) c.args.table c.show.new.self c.in-Some.hosted.now c.in-Some.ensures.value
    ((c.get_mut.follows.holds c.show.new.self).3 (some_there _ _ c.in-Some.ensures.value)).0 c.show.result c.show.ensures.cause

pub returns-in-Some-clause-left : goal.returns-in-Some-clause-left
returns-in-Some-clause-left g c w h =
    still_at g.D.Disk.state g.D.Disk.images (λ d image left. g.met.D.Disk.only_now (inner_of d) image left) w c.args.tables.now h (c.get_mut.follows.lender c.show.new.self) c.args.table
    c.show.new.self c.in-Some.hosted.now c.in-Some.ensures.value
    (c.get_mut.follows.holds c.show.new.self) (λ hosted k made. c.show.ensures.left _ _ _ hosted k made)

pub returns-in-None-clause-left : goal.returns-in-None-clause-left
returns-in-None-clause-left g c w h =
    subst (λ (t : tree.BTreeMap ℕ (Hosted g.row.D.Denot)). AreStill g.D.Disk.state g.D.Disk.images w c.args.tables.now t) (sym c.get_mut.follows.holds-at-none)
    (none_still g.D.Disk.state g.D.Disk.images (λ d image left. g.met.D.Disk.only_now (inner_of d) image left) w c.args.tables.now h)
