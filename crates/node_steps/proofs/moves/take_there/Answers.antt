use Rattle.std.proofs.Common.{◌≡◌, ℕ, true, refl, sym, subst}
use Rattle.step_tables.specs.Messages.{table_of}
use Rattle.step_tables.specs.StoreMoves.{TableStore, Take}
use Rattle.step_tables.specs.Travels.{message_of}
use Rattle.world_tables.specs.World.{move_table}
use Rattle.store_host.proofs.Froms.{move_from}
use Rattle.store_host.specs.Holds.{is_up_at}
use Rattle.node_steps.proofs.Showing.{up_for, table_owner}
use Rattle.node_steps.proofs.Taken.{takes_message, done_ok, busy, fallen}
use Rattle.node_steps.proofs.Counted.{follow_counted}
use Rattle.node_steps.proofs.Rows.{over_first, over_then_ok}
use Rattle.node_steps.proofs.moves.take_there.Goals as goal

-- nothing is said of a table's states
abbrev Any : TableStore → TableStore → Type 0
Any s t = Unit {0}

pub deliver-requires-clause-up : goal.deliver-requires-clause-up
deliver-requires-clause-up g c =
    up_for c.args.stores.now _ (subst (λ (n : ℕ). is_up_at c.args.stores.now n ≡ true) (sym c.requires.owner) c.requires.up)

pub follow_table-requires-clause-held : goal.follow_table-requires-clause-held
follow_table-requires-clause-held g c =
    let k = c.requires.held in (_, ((c.in-Ok.ensures.takes k.0 k.1).done k.2).held)

pub returns-in-Ok-clause-done : goal.returns-in-Ok-clause-done
returns-in-Ok-clause-done g c w hosted h is fits at =
    let k = c.in-Ok.ensures.takes w h in
    let m = message_of c.args.message.now in
    done_ok g.D.Disk.state w c.args.stores.now h (table_of m) (Take c.args.from m) (takes_message c.args.from m) c.args.store c.deliver.new.self c.follow_table.new.stores hosted at
    (k.idle (λ b. let e = b.1 in absurd cc) hosted at) (k.done fits) c.args.is_held (table_owner g.D.Disk.state w c.args.stores.now.tables _ hosted h.tables at c.args.store c.requires.owner) is c.table_of.result c.table_of.ensures
    c.follow_table.result c.follow_table.ensures.done

pub returns-in-Err-Busy-clause-done : goal.returns-in-Err-Busy-clause-done
returns-in-Err-Busy-clause-done g c w hosted h is fits at =
    let k = c.in-Err-Busy.ensures.takes w h in let e = c.in-Err-Busy.field-0-is in
    let m = message_of c.args.message.now in
    busy g.D.Disk.state w c.args.stores.now h (table_of m) (Take c.args.from m) (takes_message c.args.from m) c.in-Err-Busy.with ((k.busy c.in-Err-Busy.with).0 cc) c.deliver.new.self (k.refused (λ no. absurd cc))
    c.in-Err-Busy.ensures.outs _ refl

pub returns-in-Err-Disk-clause-done : goal.returns-in-Err-Disk-clause-done
returns-in-Err-Disk-clause-done g c w hosted h is fits at =
    let k = c.in-Err-Disk.ensures.takes w h in let e = c.in-Err-Disk.field-0-is in
    let m = message_of c.args.message.now in
    fallen g.D.Disk.state w c.args.stores.now h (table_of m) (Take c.args.from m) hosted at c.deliver.new.self (k.idle (λ b. let f = b.1 in absurd cc) hosted at) (k.fallen cc) _ refl

pub returns-in-Ok-clause-counted : goal.returns-in-Ok-clause-counted
returns-in-Ok-clause-counted g c =
    follow_counted g.D.Disk.state c.args.stores.now.tables c.deliver.new.self.tables c.follow_table.new.stores.tables c.follow_table.result (c.in-Ok.ensures.cause.counted (λ e. absurd cc))
    c.follow_table.ensures.counted

pub returns-in-Ok-clause-rows : goal.returns-in-Ok-clause-rows
returns-in-Ok-clause-rows g c w h fits =
    let m = message_of c.args.message.now in
    let v = (move_table (table_of m) (Take c.args.from m) w).world in
    let moved = (c.in-Ok.ensures.takes w h).done fits in
    over_then_ok g.D.Disk.state g.D.Disk.images Any w v v c.args.stores.now.tables c.deliver.new.self.tables h.tables moved.held.tables
    (move_from Any (λ s. tt) (Take c.args.from m) (λ x table hosted. tt) w (table_of m)) (λ table hosted at. at) c.follow_table.result c.follow_table.new.stores.tables (c.in-Ok.ensures.left w h)
    (c.follow_table.ensures.rows v moved.held)

pub returns-in-Err-Busy-clause-rows : goal.returns-in-Err-Busy-clause-rows
returns-in-Err-Busy-clause-rows g c w h fits =
    let m = message_of c.args.message.now in
    over_first g.D.Disk.state g.D.Disk.images w (move_table (table_of m) (Take c.args.from m) w).world c.args.stores.now.tables c.deliver.new.self.tables (c.in-Err-Busy.ensures.left w h)

pub returns-in-Err-Disk-clause-rows : goal.returns-in-Err-Disk-clause-rows
returns-in-Err-Disk-clause-rows g c w h fits =
    let m = message_of c.args.message.now in
    over_first g.D.Disk.state g.D.Disk.images w (move_table (table_of m) (Take c.args.from m) w).world c.args.stores.now.tables c.deliver.new.self.tables (c.in-Err-Disk.ensures.left w h)
