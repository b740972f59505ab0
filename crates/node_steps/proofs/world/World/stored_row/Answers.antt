use Rattle.store_host.specs.Holds.{AreLeft}
use Rattle.node_steps.proofs.Found.{table_up, table_there, row_found, row_fallen, fallen_tables}
use Rattle.node_steps.proofs.world.World.stored_row.Goals as goal

pub row-requires-clause-held : goal.row-requires-clause-held
row-requires-clause-held g c = let k = c.requires.held in (k.0, k.1.store)

pub row-requires-clause-up : goal.row-requires-clause-up
row-requires-clause-up g c = let k = c.requires.held in table_up g.D.Disk.state k.0 c.args.self.now k.1 c.args.table k.2

pub row-requires-clause-there : goal.row-requires-clause-there
row-requires-clause-there g c = let k = c.requires.held in table_there g.D.Disk.state k.0 c.args.self.now k.1 c.args.table k.2

pub returns-in-Ok-clause-read : goal.returns-in-Ok-clause-read
returns-in-Ok-clause-read g c w h =
    let k = c.requires.held in
    let gives = c.in-Ok.ensures.gives w h.store in
    row_found g.D.Disk.state w c.args.self.now h c.args.table c.args.row.now c.row.new.self c.in-Ok.found (table_there g.D.Disk.state k.0 c.args.self.now k.1 c.args.table k.2)
    (λ hosted at. gives.given hosted at) (gives.stays (λ e. absurd cc)) c.in-Ok.ensures.outs (c.in-Ok.ensures.cause.counted (λ e. absurd cc))

pub returns-in-Err-Disk-clause-read : goal.returns-in-Err-Disk-clause-read
returns-in-Err-Disk-clause-read g c w h =
    row_fallen g.D.Disk.state w c.args.self.now h c.args.table c.args.row.now c.row.new.self c.store_fallen.new.self c.store_fallen.result
    ((c.in-Err-Disk.ensures.gives w h.store).fallen (let is = c.in-Err-Disk.field-0-is in cc)) (c.in-Err-Disk.ensures.cause.cause (let is = c.in-Err-Disk.field-0-is in cc))
    c.store_fallen.ensures.told

pub returns-in-Err-Disk-clause-rows : goal.returns-in-Err-Disk-clause-rows
returns-in-Err-Disk-clause-rows g c w h =
    fallen_tables (AreLeft g.D.Disk.state g.D.Disk.images w c.args.self.now.store.tables) c.args.self.now c.store_fallen.new.self c.row.new.self c.store_fallen.result
    (c.in-Err-Disk.ensures.left w h.store) c.store_fallen.ensures.told
