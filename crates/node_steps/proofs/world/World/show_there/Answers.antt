use Rattle.std.proofs.Common.{◌≡◌, ℕ, true, refl, sym, ◌∙◌, subst}
use Rattle.stab_base.specs.declared.node.Node.TheVariants as nodes
use Rattle.world_tables.specs.World.{row_read, first_luck, unless_down}
use Rattle.store_host.specs.Holds.{AreLeft, is_up_at}
use Rattle.node_steps.specs.Calls.{Comes}
use Rattle.node_steps.proofs.Counted.{only_counted}
use Rattle.node_steps.proofs.Done.{down_refused, up_goes_on}
use Rattle.node_steps.proofs.Rows.{any_ok, none_left}
use Rattle.node_steps.proofs.Showing.{up_for}
use Rattle.node_steps.proofs.world.World.show_there.Goals as goal

pub show_stored-requires-clause-up : goal.show_stored-requires-clause-up
show_stored-requires-clause-up g c =
    up_for c.args.self.now.store c.args.table
    (subst (λ (n : ℕ). is_up_at c.args.self.now.store n ≡ true) c.owner.ensures.there (c.is_down.ensures.up c.if-is_down.false))

pub returns-then-is_down-clause-done : goal.returns-then-is_down-clause-done
returns-then-is_down-clause-done g c w hosted h at =
    let table = c.args.table in let row = c.args.row.now in
    subst (λ (n : ℕ). Comes g.D.Disk.state w (λ lucks. unless_down w (nodes.Store n) (row_read w table hosted row (first_luck lucks.calls))) c.refuse.result c.args.self.now)
    (c.owner.ensures.held w hosted h.store at)
    (down_refused g.D.Disk.state w (nodes.Store c.owner.result) (λ lucks. row_read w table hosted row (first_luck lucks.calls)) c.refuse.result c.args.self.now h
    (sym c.if-is_down.true ∙ c.is_down.ensures.held w h) c.refuse.ensures.lines)

pub returns-clause-done : goal.returns-clause-done
returns-clause-done g c w hosted h at =
    let table = c.args.table in let row = c.args.row.now in
    subst (λ (n : ℕ). Comes g.D.Disk.state w (λ lucks. unless_down w (nodes.Store n) (row_read w table hosted row (first_luck lucks.calls))) c.show_stored.result c.show_stored.new.self)
    (c.owner.ensures.held w hosted h.store at)
    (up_goes_on g.D.Disk.state w (nodes.Store c.owner.result) (λ lucks. row_read w table hosted row (first_luck lucks.calls)) c.show_stored.result c.show_stored.new.self
    (sym c.if-is_down.false ∙ c.is_down.ensures.held w h) (c.show_stored.ensures.done w hosted h at))

pub returns-then-is_down-clause-counted : goal.returns-then-is_down-clause-counted
returns-then-is_down-clause-counted g c =
    only_counted g.D.Disk.state c.refuse.result _ c.args.self.now c.args.self.now refl refl refl c.refuse.ensures.lines

pub returns-then-is_down-clause-rows : goal.returns-then-is_down-clause-rows
returns-then-is_down-clause-rows g c w h =
    any_ok c.refuse.result (AreLeft g.D.Disk.state g.D.Disk.images w c.args.self.now.store.tables c.args.self.now.store.tables)
    (none_left g.D.Disk.state g.D.Disk.images g.met.D.Disk.only_now w c.args.self.now.store h.store)
