use Rattle.std.proofs.Common.{sym, ◌∙◌, ap}
use Rattle.std.specs.Prelude.{not}
use Rattle.node_steps.proofs.Found.{idle_is, not_idle}
use Rattle.node_steps.proofs.world.World.is_table_idle.Goals as goal

pub returns-then-has : goal.returns-then-has
returns-then-has g c w h =
    ap not (c.is_busy.ensures w h.store) ∙ idle_is g.D.Disk.state w c.args.self.now h c.args.table c.requires.up (sym c.if-has.true ∙ c.has.ensures.held w h.store)

pub returns : goal.returns
returns g c w h = not_idle g.D.Disk.state w c.args.self.now h c.args.table (sym c.if-has.false ∙ c.has.ensures.held w h.store)
