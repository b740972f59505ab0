use Rattle.std.proofs.Common.{ℕ, sym, subst}
use Rattle.std.proofs.lemmas.Result.{on_ok_weaker}
use Rattle.world_tables.specs.World.{owner_of, schema_at}
use Rattle.store_host.proofs.Maps.{found}
use Rattle.store_host.proofs.Moving.{some_there, same_tables, table_started, tables_cause}
use Rattle.disk_trait.specs.Fuse.{inner_of}
use Rattle.std.specs.BTreeMap as tree
use Rattle.store_host.specs.declared.hosted.Hosted.{Hosted}
use Rattle.store_host.specs.Holds.{AreStill}
use Rattle.store_host.proofs.Lefts.{still_at, none_still}
use Rattle.store_host.proofs.tables.start_at.Goals as goal

pub returns-in-Some-clause-started : goal.returns-in-Some-clause-started
returns-in-Some-clause-started g c w h =
    let f = found g.D.Disk.state w c.args.tables.now c.args.table c.in-Some.hosted.now h c.in-Some.ensures.value in
    on_ok_weaker c.start.result
    (λ t. table_started g.D.Disk.state w c.args.tables.now (c.get_mut.follows.lender c.start.new.self) c.args.table c.start.new.self c.in-Some.hosted.now c.in-Some.ensures.value
    (c.get_mut.follows.holds c.start.new.self) h
    f.0.store f.0.history f.0.made c.args.outs.now c.start.new.outs f.1 t)
    (c.start.ensures.started (owner_of w c.args.table) (schema_at w c.args.table) c.args.table f.0 f.2)

pub returns-in-Some-clause-refused : goal.returns-in-Some-clause-refused
returns-in-Some-clause-refused g c w h failed =
    let f = found g.D.Disk.state w c.args.tables.now c.args.table c.in-Some.hosted.now h c.in-Some.ensures.value in
    let k = c.start.ensures.refused (owner_of w c.args.table) (schema_at w c.args.table) c.args.table f.0 f.2 failed in (
      same_tables g.D.Disk.state w c.args.tables.now (c.get_mut.follows.lender c.start.new.self) c.args.table c.start.new.self c.in-Some.hosted.now c.in-Some.ensures.value
          (c.get_mut.follows.holds c.start.new.self) h f.0 f.1 k.0,
      k.1,
    )

pub returns-in-Some-clause-cause : goal.returns-in-Some-clause-cause
returns-in-Some-clause-cause g c =
    tables_cause g.D.Disk.state c.args.tables.now (c.get_mut.follows.lender c.start.new.self) c.args.table c.start.new.self c.in-Some.hosted.now c.in-Some.ensures.value
    ((c.get_mut.follows.holds c.start.new.self).3 (some_there _ _ c.in-Some.ensures.value)).0 c.start.result c.start.ensures.cause

pub returns-in-Some-clause-left : goal.returns-in-Some-clause-left
returns-in-Some-clause-left g c w h =
    still_at g.D.Disk.state g.D.Disk.images (λ d image left. g.met.D.Disk.only_now (inner_of d) image left) w c.args.tables.now h (c.get_mut.follows.lender c.start.new.self) c.args.table
    c.start.new.self c.in-Some.hosted.now c.in-Some.ensures.value
    (c.get_mut.follows.holds c.start.new.self) (λ hosted k made. c.start.ensures.left _ _ _ hosted k made)

pub returns-in-None-clause-left : goal.returns-in-None-clause-left
returns-in-None-clause-left g c w h =
    subst (λ (t : tree.BTreeMap ℕ (Hosted g.row.D.Denot)). AreStill g.D.Disk.state g.D.Disk.images w c.args.tables.now t) (sym c.get_mut.follows.holds-at-none)
    (none_still g.D.Disk.state g.D.Disk.images (λ d image left. g.met.D.Disk.only_now (inner_of d) image left) w c.args.tables.now h)
