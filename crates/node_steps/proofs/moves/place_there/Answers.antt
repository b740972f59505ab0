use Rattle.std.proofs.Common.{◌≡◌, ℕ, true, refl, sym, subst}
use Rattle.step_tables.specs.StoreMoves.{TableStore, Place}
use Rattle.store_node.specs.Sides.{put_of}
use Rattle.world_tables.specs.World.{move_table}
use Rattle.store_host.proofs.Froms.{move_from}
use Rattle.store_host.specs.Holds.{is_up_at}
use Rattle.node_steps.proofs.Showing.{up_for, table_owner}
use Rattle.node_steps.proofs.Taken.{takes_put, done_ok, busy, fallen}
use Rattle.node_steps.proofs.Counted.{follow_counted}
use Rattle.node_steps.proofs.Rows.{over_first, over_then_ok}
use Rattle.node_steps.proofs.moves.place_there.Goals as goal

-- nothing is said of a table's states
abbrev Any : TableStore → TableStore → Type 0
Any s t = Unit {0}

pub place-requires-clause-up : goal.place-requires-clause-up
place-requires-clause-up g c =
    up_for c.args.stores.now c.args.table (subst (λ (n : ℕ). is_up_at c.args.stores.now n ≡ true) (sym c.requires.owner) c.requires.up)

pub follow_table-requires-clause-held : goal.follow_table-requires-clause-held
follow_table-requires-clause-held g c =
    let k = c.requires.held in (_, (c.in-Ok.ensures.puts k.0 k.1).done.held)

pub returns-in-Ok-clause-done : goal.returns-in-Ok-clause-done
returns-in-Ok-clause-done g c w hosted h is at =
    let k = c.in-Ok.ensures.puts w h in
    done_ok g.D.Disk.state w c.args.stores.now h c.args.table (Place (put_of c.args.put)) (takes_put (put_of c.args.put)) c.args.store c.place.new.self c.follow_table.new.stores hosted at
    (k.idle (λ b. let e = b.1 in absurd cc) hosted at) k.done c.args.is_held (table_owner g.D.Disk.state w c.args.stores.now.tables c.args.table hosted h.tables at c.args.store c.requires.owner) is
    c.args.table refl c.follow_table.result c.follow_table.ensures.done

pub returns-in-Err-Busy-clause-done : goal.returns-in-Err-Busy-clause-done
returns-in-Err-Busy-clause-done g c w hosted h is at =
    let k = c.in-Err-Busy.ensures.puts w h in let e = c.in-Err-Busy.field-0-is in
    busy g.D.Disk.state w c.args.stores.now h c.args.table (Place (put_of c.args.put)) (takes_put (put_of c.args.put)) c.in-Err-Busy.with ((k.busy c.in-Err-Busy.with).0 cc) c.place.new.self
    (k.refused (λ no. absurd cc)) c.in-Err-Busy.ensures.outs _ refl

pub returns-in-Err-Disk-clause-done : goal.returns-in-Err-Disk-clause-done
returns-in-Err-Disk-clause-done g c w hosted h is at =
    let k = c.in-Err-Disk.ensures.puts w h in let e = c.in-Err-Disk.field-0-is in
    fallen g.D.Disk.state w c.args.stores.now h c.args.table (Place (put_of c.args.put)) hosted at c.place.new.self (k.idle (λ b. let f = b.1 in absurd cc) hosted at) (k.fallen cc) _ refl

pub returns-in-Ok-clause-counted : goal.returns-in-Ok-clause-counted
returns-in-Ok-clause-counted g c =
    follow_counted g.D.Disk.state c.args.stores.now.tables c.place.new.self.tables c.follow_table.new.stores.tables c.follow_table.result (c.in-Ok.ensures.cause.counted (λ e. absurd cc))
    c.follow_table.ensures.counted

pub returns-in-Ok-clause-rows : goal.returns-in-Ok-clause-rows
returns-in-Ok-clause-rows g c w h =
    let move = Place (put_of c.args.put) in
    let v = (move_table c.args.table move w).world in
    let moved = (c.in-Ok.ensures.puts w h).done in
    over_then_ok g.D.Disk.state g.D.Disk.images Any w v v c.args.stores.now.tables c.place.new.self.tables h.tables moved.held.tables
    (move_from Any (λ s. tt) move (λ x table hosted. tt) w c.args.table) (λ table hosted at. at) c.follow_table.result c.follow_table.new.stores.tables (c.in-Ok.ensures.left w h)
    (c.follow_table.ensures.rows v moved.held)

pub returns-in-Err-Busy-clause-rows : goal.returns-in-Err-Busy-clause-rows
returns-in-Err-Busy-clause-rows g c w h =
    over_first g.D.Disk.state g.D.Disk.images w (move_table c.args.table (Place (put_of c.args.put)) w).world c.args.stores.now.tables c.place.new.self.tables (c.in-Err-Busy.ensures.left w h)

pub returns-in-Err-Disk-clause-rows : goal.returns-in-Err-Disk-clause-rows
returns-in-Err-Disk-clause-rows g c w h =
    over_first g.D.Disk.state g.D.Disk.images w (move_table c.args.table (Place (put_of c.args.put)) w).world c.args.stores.now.tables c.place.new.self.tables (c.in-Err-Disk.ensures.left w h)
