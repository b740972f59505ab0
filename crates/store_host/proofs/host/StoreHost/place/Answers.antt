use Rattle.std.proofs.Common.{Err, rules, refl, ap}
use Rattle.store_node.specs.Sides.{put_of}
use Rattle.world_tables.specs.World.{table_falls}
use Rattle.store_host.proofs.Moving.{then_take_cause}
use Rattle.store_host.proofs.Serving.{up_table, owned, placed_well, placed_falling, placed_parts}
use Rattle.store_host.proofs.Froms.{fall_from}
use Rattle.store_host.proofs.Lefts.{still_left, read_falls}
use Rattle.store_host.proofs.host.StoreHost.place.Goals as goal

pub place_at-requires-clause-held : goal.place_at-requires-clause-held
place_at-requires-clause-held g c = let n = c.requires.held in (n.0, n.1.tables)

pub place_at-requires-clause-up : goal.place_at-requires-clause-up
place_at-requires-clause-up g c = let n = c.requires.held in up_table g.D.Disk.state n.0 c.args.self.now n.1 c.args.table c.requires.up

pub returns-in-Ok-clause-puts : goal.returns-in-Ok-clause-puts
returns-in-Ok-clause-puts g c w h =
    placed_well g.D.Disk.state w c.args.self.now h c.args.table (put_of c.args.put) c.place_at.new.tables _ (λ is. cc) (c.in-Ok.ensures.placed w h.tables)

pub fall-requires : goal.fall-requires
fall-requires g c =
    let n = c.requires.held in
    let o = owned g.D.Disk.state n.0 c.args.self.now n.1 c.args.table c.requires.up c.owner-store.result c.args.table c.owner-store.ensures.there refl (c.in-Err-Disk.ensures.there (ap Err c.in-Err-Disk.field-0-is)) in (
      _,
      placed_parts g.D.Disk.state n.0 c.args.self.now n.1 c.args.table (put_of c.args.put) c.place_at.new.tables c.owner-store.result o.0 c.in-Err-Disk.field-0 c.in-Err-Disk.field-0-is
          (c.in-Err-Disk.ensures.placed n.0 n.1.tables),
    )

pub returns-in-Err-Disk-clause-puts : goal.returns-in-Err-Disk-clause-puts
returns-in-Err-Disk-clause-puts g c w h =
    let o = owned g.D.Disk.state w c.args.self.now h c.args.table c.requires.up c.owner-store.result c.args.table c.owner-store.ensures.there refl (c.in-Err-Disk.ensures.there (ap Err c.in-Err-Disk.field-0-is)) in
    placed_falling g.D.Disk.state w c.args.self.now h c.args.table (put_of c.args.put) c.place_at.new.tables c.owner-store.result o.0 o.1 c.fall.new.self c.in-Err-Disk.field-0 c.in-Err-Disk.field-0-is
    (c.in-Err-Disk.ensures.placed w h.tables) c.fall.ensures.fallen

pub returns-in-Err-Disk-clause-up : goal.returns-in-Err-Disk-clause-up
returns-in-Err-Disk-clause-up g c = λ other. absurd (other refl)

pub returns-in-Err-Disk-clause-cause : goal.returns-in-Err-Disk-clause-cause
returns-in-Err-Disk-clause-cause g c =
    then_take_cause g.D.Disk.state c.args.self.now.tables c.place_at.new.tables c.fall.new.self.tables c.fall.ensures.counted c.in-Err-Disk.field-0 c.in-Err-Disk.field-0-is c.in-Err-Disk.ensures.cause

pub returns-in-Err-clause-puts : goal.returns-in-Err-clause-puts
returns-in-Err-clause-puts g c w h =
    placed_well g.D.Disk.state w c.args.self.now h c.args.table (put_of c.args.put) c.place_at.new.tables _ (search rules) (c.in-Err.ensures.placed w h.tables)

pub returns-in-Ok-clause-left : goal.returns-in-Ok-clause-left
returns-in-Ok-clause-left g c w h = still_left g.D.Disk.state g.D.Disk.images w c.args.self.now.tables c.place_at.new.tables (c.in-Ok.ensures.left w h.tables)

pub returns-in-Err-clause-left : goal.returns-in-Err-clause-left
returns-in-Err-clause-left g c w h = still_left g.D.Disk.state g.D.Disk.images w c.args.self.now.tables c.place_at.new.tables (c.in-Err.ensures.left w h.tables)

pub returns-in-Err-Disk-clause-left : goal.returns-in-Err-Disk-clause-left
returns-in-Err-Disk-clause-left g c w h =
    let old = c.args.self.now in
    let table = c.args.table in
    let o = owned g.D.Disk.state w old h table c.requires.up c.owner-store.result table c.owner-store.ensures.there refl (c.in-Err-Disk.ensures.there (ap Err c.in-Err-Disk.field-0-is)) in
    let k = c.in-Err-Disk.ensures.placed w h.tables in
    let f = k.fallen (ap Err c.in-Err-Disk.field-0-is) in
    read_falls g.D.Disk.state g.D.Disk.images w (table_falls table w).world old.tables c.place_at.new.tables c.fall.new.self.tables h.tables f.held
    (c.fall.ensures.left (table_falls table w).world (placed_parts g.D.Disk.state w old h table (put_of c.args.put) c.place_at.new.tables c.owner-store.result o.0 c.in-Err-Disk.field-0 c.in-Err-Disk.field-0-is k))
    (fall_from w table) (c.in-Err-Disk.ensures.left w h.tables)
