use Rattle.std.proofs.Common.{Bool, None, refl, sym, ◌∙◌, ap}
use Rattle.std.specs.Prelude.{if◌then◌else◌}
use Rattle.step_tables.specs.Facts as facts
use Rattle.step_tables.specs.StoreMoves.{Place}
use Rattle.store_node.specs.Sides.{put_of}
use Rattle.world_tables.specs.World.{answered, to_hosted, hosted_at, hosted_by, move_table}
use Rattle.store_host.specs.Holds.{AreLeft}
use Rattle.node_steps.proofs.Counted.{only_counted}
use Rattle.node_steps.proofs.Done.{comes_as, stays}
use Rattle.node_steps.proofs.Rows.{any_ok, none_left, over_first_ok}
use Rattle.node_steps.proofs.Showing.{kept_here, not_here}
use Rattle.node_steps.proofs.world.World.put_up.Goals as goal

pub returns-then-owner-store-clause-done : goal.returns-then-owner-store-clause-done
returns-then-owner-store-clause-done g c w h =
    let move = Place (put_of c.args.put) in
    let own = sym (c.owner.ensures.held w h) ∙ c.if-owner-store.true in
    comes_as g.D.Disk.state w (λ lucks. to_hosted w c.args.table move lucks.calls (hosted_by w c.args.store c.args.table))
    (λ lucks. to_hosted w c.args.table move lucks.calls (hosted_at w c.args.table)) c.place.result c.place.new.self
    (λ lucks. ap (to_hosted w c.args.table move lucks.calls) (kept_here w c.args.store c.args.table own)) (c.place.ensures.done w h)

pub returns-clause-done : goal.returns-clause-done
returns-clause-done g c w h =
    let move = Place (put_of c.args.put) in
    let off = not_here w c.args.store c.args.table (λ own. c.if-owner-store.false (c.owner.ensures.held w h ∙ own)) in
    comes_as g.D.Disk.state w (λ lucks. to_hosted w c.args.table move lucks.calls (hosted_by w c.args.store c.args.table)) (λ lucks. answered w facts.Done) c.only.result c.args.self.now
    (λ lucks. ap (λ (b : Bool). to_hosted w c.args.table move lucks.calls (if b then hosted_at w c.args.table else None)) off)
    (stays g.D.Disk.state w c.args.self.now h facts.Done c.only.result c.only.ensures.lines)

pub returns-clause-counted : goal.returns-clause-counted
returns-clause-counted g c =
    only_counted g.D.Disk.state c.only.result _ c.args.self.now c.args.self.now refl refl refl c.only.ensures.lines

pub returns-clause-rows : goal.returns-clause-rows
returns-clause-rows g c w h =
    let tables = c.args.self.now.store.tables in
    over_first_ok g.D.Disk.state g.D.Disk.images c.only.result w (move_table c.args.table (Place (put_of c.args.put)) w).world tables tables
    (any_ok c.only.result (AreLeft g.D.Disk.state g.D.Disk.images w tables tables) (none_left g.D.Disk.state g.D.Disk.images g.met.D.Disk.only_now w c.args.self.now.store h.store))
