use Rattle.std.proofs.Common.{Err, rules, refl, ap, ◌∙◌}
use Rattle.store_host.proofs.Moving.{then_take_cause}
use Rattle.store_host.proofs.Serving.{up_table, owned, took, took_falling, took_parts}
use Rattle.world_tables.specs.World.{table_falls}
use Rattle.store_host.specs.Calls.{table_in}
use Rattle.store_host.proofs.Froms.{fall_from}
use Rattle.store_host.proofs.Lefts.{still_left, read_falls}
use Rattle.store_host.proofs.host.StoreHost.deliver.Goals as goal

pub deliver_to-requires-clause-held : goal.deliver_to-requires-clause-held
deliver_to-requires-clause-held g c = let n = c.requires.held in (n.0, n.1.tables)

pub deliver_to-requires-clause-up : goal.deliver_to-requires-clause-up
deliver_to-requires-clause-up g c = let n = c.requires.held in up_table g.D.Disk.state n.0 c.args.self.now n.1 (table_in c.args.message.now) c.requires.up

pub returns-in-Ok-clause-takes : goal.returns-in-Ok-clause-takes
returns-in-Ok-clause-takes g c w h =
    took g.D.Disk.state w c.args.self.now h c.args.from c.args.message.now c.deliver_to.new.tables c.deliver_to.new.outs _ (λ is. cc) (c.in-Ok.ensures.taken w h.tables)

pub fall-requires : goal.fall-requires
fall-requires g c =
    let n = c.requires.held in
    let o = owned g.D.Disk.state n.0 c.args.self.now n.1 (table_in c.args.message.now) c.requires.up c.owner-store.result c.table_of.result c.owner-store.ensures.there c.table_of.ensures
    (c.in-Err-Disk.ensures.there (ap Err c.in-Err-Disk.field-0-is)) in (
      _,
      took_parts g.D.Disk.state n.0 c.args.self.now n.1 c.args.from c.args.message.now c.deliver_to.new.tables c.deliver_to.new.outs c.owner-store.result o.0 c.in-Err-Disk.field-0 c.in-Err-Disk.field-0-is
          (c.in-Err-Disk.ensures.taken n.0 n.1.tables),
    )

pub returns-in-Err-Disk-clause-takes : goal.returns-in-Err-Disk-clause-takes
returns-in-Err-Disk-clause-takes g c w h =
    let o = owned g.D.Disk.state w c.args.self.now h (table_in c.args.message.now) c.requires.up c.owner-store.result c.table_of.result c.owner-store.ensures.there c.table_of.ensures
    (c.in-Err-Disk.ensures.there (ap Err c.in-Err-Disk.field-0-is)) in
    took_falling g.D.Disk.state w c.args.self.now h c.args.from c.args.message.now c.deliver_to.new.tables c.deliver_to.new.outs c.owner-store.result o.0 o.1 c.fall.new.self c.in-Err-Disk.field-0
    c.in-Err-Disk.field-0-is (c.in-Err-Disk.ensures.taken w h.tables) c.fall.ensures.fallen

pub returns-in-Err-Disk-clause-outs : goal.returns-in-Err-Disk-clause-outs
returns-in-Err-Disk-clause-outs g c =
    let n = c.requires.held in
    let k = c.in-Err-Disk.ensures.taken n.0 n.1.tables in
    c.fall.ensures.outs ∙ (k.fallen (ap Err c.in-Err-Disk.field-0-is)).1

pub returns-in-Err-Disk-clause-up : goal.returns-in-Err-Disk-clause-up
returns-in-Err-Disk-clause-up g c = λ other. absurd (other refl)

pub returns-in-Err-Disk-clause-cause : goal.returns-in-Err-Disk-clause-cause
returns-in-Err-Disk-clause-cause g c =
    then_take_cause g.D.Disk.state c.args.self.now.tables c.deliver_to.new.tables c.fall.new.self.tables c.fall.ensures.counted c.in-Err-Disk.field-0 c.in-Err-Disk.field-0-is c.in-Err-Disk.ensures.cause

pub returns-in-Err-clause-takes : goal.returns-in-Err-clause-takes
returns-in-Err-clause-takes g c w h =
    took g.D.Disk.state w c.args.self.now h c.args.from c.args.message.now c.deliver_to.new.tables c.deliver_to.new.outs _ (search rules) (c.in-Err.ensures.taken w h.tables)

pub returns-in-Err-clause-outs : goal.returns-in-Err-clause-outs
returns-in-Err-clause-outs g c =
    let n = c.requires.held in
    let k = c.in-Err.ensures.taken n.0 n.1.tables in
    (k.refused (search rules)).1

pub returns-in-Ok-clause-left : goal.returns-in-Ok-clause-left
returns-in-Ok-clause-left g c w h = still_left g.D.Disk.state g.D.Disk.images w c.args.self.now.tables c.deliver_to.new.tables (c.in-Ok.ensures.left w h.tables)

pub returns-in-Err-clause-left : goal.returns-in-Err-clause-left
returns-in-Err-clause-left g c w h = still_left g.D.Disk.state g.D.Disk.images w c.args.self.now.tables c.deliver_to.new.tables (c.in-Err.ensures.left w h.tables)

pub returns-in-Err-Disk-clause-left : goal.returns-in-Err-Disk-clause-left
returns-in-Err-Disk-clause-left g c w h =
    let old = c.args.self.now in
    let table = table_in c.args.message.now in
    let o = owned g.D.Disk.state w old h table c.requires.up c.owner-store.result c.table_of.result c.owner-store.ensures.there c.table_of.ensures (c.in-Err-Disk.ensures.there (ap Err c.in-Err-Disk.field-0-is)) in
    let taken = c.in-Err-Disk.ensures.taken w h.tables in
    let f = (taken.fallen (ap Err c.in-Err-Disk.field-0-is)).0 in
    read_falls g.D.Disk.state g.D.Disk.images w (table_falls table w).world old.tables c.deliver_to.new.tables c.fall.new.self.tables h.tables f.held
    (c.fall.ensures.left (table_falls table w).world (took_parts g.D.Disk.state w old h c.args.from c.args.message.now c.deliver_to.new.tables c.deliver_to.new.outs c.owner-store.result o.0 c.in-Err-Disk.field-0
    c.in-Err-Disk.field-0-is taken))
    (fall_from w table) (c.in-Err-Disk.ensures.left w h.tables)
