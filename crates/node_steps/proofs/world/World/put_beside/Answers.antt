use Rattle.std.proofs.Common.{sym, ◌∙◌, refl}
use Rattle.stab_base.specs.declared.node.Node.TheVariants as nodes
use Rattle.step_tables.specs.StoreMoves.{Place}
use Rattle.store_node.specs.Sides.{put_of}
use Rattle.world_tables.specs.World.{to_hosted, hosted_by, move_table}
use Rattle.store_host.specs.Holds.{AreLeft}
use Rattle.node_steps.proofs.Counted.{only_counted}
use Rattle.node_steps.proofs.Done.{down_refused, up_goes_on}
use Rattle.node_steps.proofs.Rows.{any_ok, none_left, over_first_ok}
use Rattle.node_steps.proofs.world.World.put_beside.Goals as goal

pub put_up-requires-clause-up : goal.put_up-requires-clause-up
put_up-requires-clause-up g c = c.is_down.ensures.up c.if-is_down.false

pub returns-then-is_down-clause-done : goal.returns-then-is_down-clause-done
returns-then-is_down-clause-done g c w h =
    down_refused g.D.Disk.state w (nodes.Store c.args.store) (λ lucks. to_hosted w c.args.table (Place (put_of c.args.put)) lucks.calls (hosted_by w c.args.store c.args.table)) c.refuse.result
    c.args.self.now h (sym c.if-is_down.true ∙ c.is_down.ensures.held w h) c.refuse.ensures.lines

pub returns-clause-done : goal.returns-clause-done
returns-clause-done g c w h =
    up_goes_on g.D.Disk.state w (nodes.Store c.args.store) (λ lucks. to_hosted w c.args.table (Place (put_of c.args.put)) lucks.calls (hosted_by w c.args.store c.args.table)) c.put_up.result
    c.put_up.new.self (sym c.if-is_down.false ∙ c.is_down.ensures.held w h) (c.put_up.ensures.done w h)

pub returns-then-is_down-clause-counted : goal.returns-then-is_down-clause-counted
returns-then-is_down-clause-counted g c =
    only_counted g.D.Disk.state c.refuse.result _ c.args.self.now c.args.self.now refl refl refl c.refuse.ensures.lines

pub returns-then-is_down-clause-rows : goal.returns-then-is_down-clause-rows
returns-then-is_down-clause-rows g c w h =
    let tables = c.args.self.now.store.tables in
    over_first_ok g.D.Disk.state g.D.Disk.images c.refuse.result w (move_table c.args.table (Place (put_of c.args.put)) w).world tables tables
    (any_ok c.refuse.result (AreLeft g.D.Disk.state g.D.Disk.images w tables tables) (none_left g.D.Disk.state g.D.Disk.images g.met.D.Disk.only_now w c.args.self.now.store h.store))
