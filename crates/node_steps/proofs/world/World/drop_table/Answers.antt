use Rattle.std.proofs.Common.{◌≡◌, ℕ, refl, sym, subst}
use Rattle.std.specs.Prelude.{IfOk}
use Rattle.stab_base.specs.declared.node.Node.{Node}
use Rattle.table_model.specs.declared.event.Event.TheVariants as events
use Rattle.table_model.specs.declared.table_state.TableState.TheVariants as states
use Rattle.step_tables.specs.Facts as facts
use Rattle.step_tables.specs.StoreMoves.{Place, PutState}
use Rattle.world_tables.specs.World.{step, move_table}
use Rattle.store_host.specs.Holds.{AreLeft}
use Rattle.node_steps.specs.Calls.{Comes}
use Rattle.node_steps.specs.Steps.{SpendsAt, SpendsNumber}
use Rattle.node_steps.proofs.Clients.{either_spent, memory_never, memory_other, plans_more}
use Rattle.node_steps.proofs.Counted.{only_counted}
use Rattle.node_steps.proofs.Done.{stays}
use Rattle.node_steps.proofs.Rows.{any_ok, same_tables, none_left, over_first_ok}
use Rattle.node_steps.proofs.world.World.drop_table.Goals as goal

pub put_beside-requires-clause-held : goal.put_beside-requires-clause-held
put_beside-requires-clause-held g c = let k = c.requires.held in (k.0, k.1)

pub close_table-requires : goal.close_table-requires
close_table-requires g c = record { held = c.requires.held }

pub returns-in-Store-clause-done : goal.returns-in-Store-clause-done
returns-in-Store-clause-done g c w h =
    subst (λ (n : Node). Comes g.D.Disk.state w (step w (events.Drop n c.args.table)) c.put_beside.result c.put_beside.new.self) (sym c.in-Store.is) (c.put_beside.ensures.done w h)

pub returns-in-Client-clause-done : goal.returns-in-Client-clause-done
returns-in-Client-clause-done g c w h =
    subst (λ (n : Node). Comes g.D.Disk.state w (step w (events.Drop n c.args.table)) c.close_table.result c.close_table.new.self) (sym c.in-Client.is) (c.close_table.ensures.done w h)

pub returns-in-Gate-clause-done : goal.returns-in-Gate-clause-done
returns-in-Gate-clause-done g c w h =
    subst (λ (n : Node). Comes g.D.Disk.state w (step w (events.Drop n c.args.table)) c.only.result c.args.self.now)
    (sym c.in-Gate.is) (stays g.D.Disk.state w c.args.self.now h facts.Done c.only.result c.only.ensures.lines)

pub returns-in-Gate-clause-counted : goal.returns-in-Gate-clause-counted
returns-in-Gate-clause-counted g c =
    only_counted g.D.Disk.state c.only.result _ c.args.self.now c.args.self.now refl refl refl c.only.ensures.lines

pub returns-in-Client-clause-rows : goal.returns-in-Client-clause-rows
returns-in-Client-clause-rows g c w h =
    let old = c.args.self.now in
    over_first_ok g.D.Disk.state g.D.Disk.images c.close_table.result w (move_table c.args.table (Place (PutState states.Dropped)) w).world old.store.tables
    c.close_table.new.self.store.tables
    (same_tables (AreLeft g.D.Disk.state g.D.Disk.images w old.store.tables) c.close_table.result old c.close_table.new.self
    (none_left g.D.Disk.state g.D.Disk.images g.met.D.Disk.only_now w old.store h.store) (any_ok c.close_table.result _ c.close_table.ensures.store))

pub returns-in-Gate-clause-rows : goal.returns-in-Gate-clause-rows
returns-in-Gate-clause-rows g c w h =
    let tables = c.args.self.now.store.tables in
    over_first_ok g.D.Disk.state g.D.Disk.images c.only.result w (move_table c.args.table (Place (PutState states.Dropped)) w).world tables tables
    (any_ok c.only.result (AreLeft g.D.Disk.state g.D.Disk.images w tables tables) (none_left g.D.Disk.state g.D.Disk.images g.met.D.Disk.only_now w c.args.self.now.store h.store))

pub returns-in-Store-clause-left : goal.returns-in-Store-clause-left
returns-in-Store-clause-left g c w h = memory_other _ c.put_beside.result c.put_beside.ensures.memory

pub returns-in-Store-clause-limit : goal.returns-in-Store-clause-limit
returns-in-Store-clause-limit g c w n h plans =
    memory_never c.put_beside.result (λ code. (code ≡ 11) × SpendsAt n w c.args.node) c.put_beside.ensures.memory

pub returns-in-Client-clause-limit : goal.returns-in-Client-clause-limit
returns-in-Client-clause-limit g c w n h plans =
    either_spent c.close_table.result (SpendsNumber n w c.in-Client.client) (SpendsAt n w c.args.node) (λ x. subst (SpendsAt n w) (sym c.in-Client.is) x)
    (c.close_table.ensures.limit w n h plans)

pub returns-in-Store-clause-plans : goal.returns-in-Store-clause-plans
returns-in-Store-clause-plans g c n plans =
    plans_more g.D.Disk.state c.args.self.now c.put_beside.new.self n c.put_beside.ensures.clients plans

pub returns-in-Gate-clause-plans : goal.returns-in-Gate-clause-plans
returns-in-Gate-clause-plans g c n plans =
    plans_more g.D.Disk.state c.args.self.now c.args.self.now n refl plans
