use Rattle.std.proofs.Common.{sym, ◌∙◌, refl}
use Rattle.world_tables.specs.World.{store_shows}
use Rattle.node_steps.proofs.Counted.{only_counted}
use Rattle.node_steps.proofs.Showing.{comes_there, comes_not_there, there_now}
use Rattle.store_host.specs.Holds.{AreLeft}
use Rattle.node_steps.proofs.Rows.{any_ok, none_left}
use Rattle.node_steps.proofs.world.World.store_show.Goals as goal

pub returns-then-has-clause-done : goal.returns-then-has-clause-done
returns-then-has-clause-done g c w h =
    comes_there g.D.Disk.state w c.args.table (λ lucks o. store_shows w c.args.table c.args.row.now lucks.calls o) c.show_there.result _ (sym c.if-has.true ∙ c.has.ensures.held w h.store)
    (λ hosted at. c.show_there.ensures.done w hosted h at)

pub show_there-requires-clause-there : goal.show_there-requires-clause-there
show_there-requires-clause-there g c =
    there_now _ (sym c.if-has.true ∙ c.has.ensures.there)

pub returns-clause-done : goal.returns-clause-done
returns-clause-done g c w h =
    comes_not_there g.D.Disk.state w c.args.self.now h c.args.table (λ lucks o. store_shows w c.args.table c.args.row.now lucks.calls o) (λ lucks. refl) c.only.result
    (sym c.if-has.false ∙ c.has.ensures.held w h.store) c.only.ensures.lines

pub returns-clause-counted : goal.returns-clause-counted
returns-clause-counted g c =
    only_counted g.D.Disk.state c.only.result _ c.args.self.now c.args.self.now refl refl refl c.only.ensures.lines

pub returns-clause-rows : goal.returns-clause-rows
returns-clause-rows g c w h =
    any_ok c.only.result (AreLeft g.D.Disk.state g.D.Disk.images w c.args.self.now.store.tables c.args.self.now.store.tables)
    (none_left g.D.Disk.state g.D.Disk.images g.met.D.Disk.only_now w c.args.self.now.store h.store)
