use Rattle.std.proofs.Common.{ℕ, Ok, sym, subst}
use Rattle.std.specs.BTreeMap as tree
use Rattle.store_host.specs.declared.hosted.Hosted.{Hosted}
use Rattle.store_host.specs.Calls.{AreTaken, HasTakeCause}
use Rattle.store_host.proofs.Moving.{tables_taken, tables_take_cause, lost, no_take_cause, found_up}
use Rattle.store_host.proofs.Maps.{found_node}
use Rattle.disk_trait.specs.Fuse.{inner_of}
use Rattle.store_host.specs.Holds.{AreStill, IsUpTable}
use Rattle.store_host.proofs.Lefts.{still_at, none_still}
use Rattle.store_host.proofs.tables.deliver_to.Goals as goal

pub deliver-requires-clause-node : goal.deliver-requires-clause-node
deliver-requires-clause-node g c = found_node g.D.Disk.state c.args.tables.now _ c.in-Some.hosted.now c.requires.held c.in-Some.ensures.value

pub deliver-requires-clause-up : goal.deliver-requires-clause-up
deliver-requires-clause-up g c = found_up c.args.tables.now _ c.in-Some.hosted.now (subst (λ (t : ℕ). IsUpTable c.args.tables.now t) (sym c.table_of-table.ensures) c.requires.up) c.in-Some.ensures.value

pub returns-in-Some-clause-taken : goal.returns-in-Some-clause-taken
returns-in-Some-clause-taken g c w h =
    tables_taken g.D.Disk.state w c.args.tables.now (c.get_mut.follows.lender c.deliver.new.self) c.deliver.new.self c.in-Some.hosted.now h c.args.from c.args.message.now _ c.table_of-table.ensures c.in-Some.ensures.value
    (c.get_mut.follows.holds c.deliver.new.self) c.args.outs.now c.deliver.new.outs c.deliver.result (λ hosted k. c.deliver.ensures.taken _ _ _ hosted k)

pub returns-in-Some-clause-cause : goal.returns-in-Some-clause-cause
returns-in-Some-clause-cause g c =
    let n = c.requires.held in
    tables_take_cause g.D.Disk.state n.0 c.args.tables.now (c.get_mut.follows.lender c.deliver.new.self) c.deliver.new.self c.in-Some.hosted.now n.1 _ c.in-Some.ensures.value
    (c.get_mut.follows.holds c.deliver.new.self) c.deliver.result c.deliver.ensures.cause

pub returns-in-None-clause-taken : goal.returns-in-None-clause-taken
returns-in-None-clause-taken g c w h =
    subst (λ (t : tree.BTreeMap ℕ (Hosted g.row.D.Denot)). AreTaken g.D.Disk.state w c.args.from c.args.message.now t c.args.outs.now c.args.outs.now (Ok tt)) (sym c.get_mut.follows.holds-at-none)
    (lost g.D.Disk.state w c.args.tables.now c.args.from c.args.message.now c.args.outs.now _ c.table_of-table.ensures h c.in-None.ensures.value)

pub returns-in-None-clause-cause : goal.returns-in-None-clause-cause
returns-in-None-clause-cause g c =
    subst (λ (t : tree.BTreeMap ℕ (Hosted g.row.D.Denot)). HasTakeCause g.D.Disk.state c.args.tables.now t (Ok tt)) (sym c.get_mut.follows.holds-at-none) (no_take_cause g.D.Disk.state c.args.tables.now)

pub returns-in-Some-clause-left : goal.returns-in-Some-clause-left
returns-in-Some-clause-left g c w h =
    still_at g.D.Disk.state g.D.Disk.images (λ d image left. g.met.D.Disk.only_now (inner_of d) image left) w c.args.tables.now h (c.get_mut.follows.lender c.deliver.new.self) _
    c.deliver.new.self c.in-Some.hosted.now c.in-Some.ensures.value
    (c.get_mut.follows.holds c.deliver.new.self) (λ hosted k made. c.deliver.ensures.left _ _ _ hosted k made)

pub returns-in-None-clause-left : goal.returns-in-None-clause-left
returns-in-None-clause-left g c w h =
    subst (λ (t : tree.BTreeMap ℕ (Hosted g.row.D.Denot)). AreStill g.D.Disk.state g.D.Disk.images w c.args.tables.now t) (sym c.get_mut.follows.holds-at-none)
    (none_still g.D.Disk.state g.D.Disk.images (λ d image left. g.met.D.Disk.only_now (inner_of d) image left) w c.args.tables.now h)
