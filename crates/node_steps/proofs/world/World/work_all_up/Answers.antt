use Rattle.std.proofs.Common.{sym, refl, subst}
use Rattle.stab_base.specs.declared.node.Node.{Node}
use Rattle.step_tables.specs.Facts as facts
use Rattle.world_tables.specs.World.{all_worked}
use Rattle.store_host.specs.Holds.{AreLeft}
use Rattle.node_steps.specs.Calls.{Comes}
use Rattle.node_steps.specs.Holds.{IsUpStore}
use Rattle.node_steps.proofs.Clients.{plans_same}
use Rattle.node_steps.proofs.Counted.{only_counted}
use Rattle.node_steps.proofs.Done.{stays}
use Rattle.node_steps.proofs.Rows.{any_ok, none_left, same_tables}
use Rattle.node_steps.proofs.world.World.work_all_up.Goals as goal

pub work_store_all-requires-clause-up : goal.work_store_all-requires-clause-up
work_store_all-requires-clause-up g c = subst (λ (n : Node). IsUpStore c.args.self.now.store n) c.in-Store.is c.requires.up

pub returns-in-Store-clause-done : goal.returns-in-Store-clause-done
returns-in-Store-clause-done g c w h =
    subst (λ (n : Node). Comes g.D.Disk.state w (λ lucks. all_worked w lucks.calls n) c.work_store_all.result c.work_store_all.new.self) (sym c.in-Store.is) (c.work_store_all.ensures.done w h)

pub returns-in-Client-clause-done : goal.returns-in-Client-clause-done
returns-in-Client-clause-done g c w h =
    subst (λ (n : Node). Comes g.D.Disk.state w (λ lucks. all_worked w lucks.calls n) c.work_client_all.result c.work_client_all.new.self) (sym c.in-Client.is) (c.work_client_all.ensures.done w h)

pub returns-in-Gate-clause-done : goal.returns-in-Gate-clause-done
returns-in-Gate-clause-done g c w h =
    subst (λ (n : Node). Comes g.D.Disk.state w (λ lucks. all_worked w lucks.calls n) c.only.result c.args.self.now) (sym c.in-Gate.is)
    (stays g.D.Disk.state w c.args.self.now h (facts.Number 0) c.only.result c.only.ensures.lines)

pub returns-in-Gate-clause-counted : goal.returns-in-Gate-clause-counted
returns-in-Gate-clause-counted g c =
    only_counted g.D.Disk.state c.only.result _ c.args.self.now c.args.self.now refl refl refl c.only.ensures.lines

pub returns-in-Client-clause-rows : goal.returns-in-Client-clause-rows
returns-in-Client-clause-rows g c w h =
    same_tables (AreLeft g.D.Disk.state g.D.Disk.images w c.args.self.now.store.tables) c.work_client_all.result c.args.self.now c.work_client_all.new.self
    (none_left g.D.Disk.state g.D.Disk.images g.met.D.Disk.only_now w c.args.self.now.store h.store) (any_ok c.work_client_all.result _ c.work_client_all.ensures.store)

pub returns-in-Gate-clause-rows : goal.returns-in-Gate-clause-rows
returns-in-Gate-clause-rows g c w h =
    any_ok c.only.result (AreLeft g.D.Disk.state g.D.Disk.images w c.args.self.now.store.tables c.args.self.now.store.tables)
    (none_left g.D.Disk.state g.D.Disk.images g.met.D.Disk.only_now w c.args.self.now.store h.store)

pub returns-in-Store-clause-plans : goal.returns-in-Store-clause-plans
returns-in-Store-clause-plans g c n plans =
    plans_same g.D.Disk.state c.args.self.now c.work_store_all.new.self n c.work_store_all.ensures.clients plans
