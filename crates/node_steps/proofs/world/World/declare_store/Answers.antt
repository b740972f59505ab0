use Rattle.node_steps.proofs.Declared.{store_declared}
use Rattle.store_host.proofs.Lefts.{still_left}
use Rattle.node_steps.proofs.world.World.declare_store.Goals as goal

pub declare_store-requires : goal.declare_store-requires
declare_store-requires g c = let k = c.requires.held in record { held = (k.0, k.1.store) }

pub returns-in-Ok-clause-done : goal.returns-in-Ok-clause-done
returns-in-Ok-clause-done g c w h =
    store_declared g.D.Disk.state w c.args.self.now c.args.store c.declare_store.new.self c.silent.result h c.silent.ensures (c.in-Ok.ensures.declared w h.store) c.in-Ok.ensures.outs c.in-Ok.ensures.counted

pub returns-in-Ok-clause-rows : goal.returns-in-Ok-clause-rows
returns-in-Ok-clause-rows g c w h =
    still_left g.D.Disk.state g.D.Disk.images w c.args.self.now.store.tables c.declare_store.new.self.tables (c.in-Ok.ensures.left w h.store)
