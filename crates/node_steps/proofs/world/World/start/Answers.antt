use Rattle.std.proofs.Common.{sym, refl, subst}
use Rattle.stab_base.specs.declared.node.Node.{Node}
use Rattle.step_tables.specs.Facts as facts
use Rattle.world_tables.specs.World.{started}
use Rattle.world_tables.specs.Passed.{started_at}
use Rattle.store_host.specs.Holds.{AreLeft}
use Rattle.node_steps.specs.Calls.{Comes}
use Rattle.node_steps.specs.Rows.{ComesLeft}
use Rattle.node_steps.proofs.Clients.{plans_same}
use Rattle.node_steps.proofs.Counted.{only_counted}
use Rattle.node_steps.proofs.Done.{stays}
use Rattle.node_steps.proofs.Rows.{any_ok, none_left, same_tables, comes_still}
use Rattle.node_steps.proofs.world.World.start.Goals as goal

pub returns-in-Store-clause-done : goal.returns-in-Store-clause-done
returns-in-Store-clause-done g c w h =
    subst (λ (n : Node). ComesLeft g.D.Disk.state g.D.Disk.images w (λ lucks. started w lucks.shape lucks.calls n) (λ lucks. started_at w lucks.calls n) c.start_store.result c.args.self.now c.start_store.new.self)
    (sym c.in-Store.is) (c.start_store.ensures.done w h)

pub returns-in-Client-clause-done : goal.returns-in-Client-clause-done
returns-in-Client-clause-done g c w h =
    comes_still g.D.Disk.state g.D.Disk.images w (λ lucks. started w lucks.shape lucks.calls c.args.node) (λ lucks. started_at w lucks.calls c.args.node) c.start_client.result c.args.self.now c.start_client.new.self
    (subst (λ (n : Node). Comes g.D.Disk.state w (λ lucks. started w lucks.shape lucks.calls n) c.start_client.result c.start_client.new.self) (sym c.in-Client.is) (c.start_client.ensures.done w h))
    (same_tables (AreLeft g.D.Disk.state g.D.Disk.images w c.args.self.now.store.tables) c.start_client.result c.args.self.now c.start_client.new.self
    (none_left g.D.Disk.state g.D.Disk.images g.met.D.Disk.only_now w c.args.self.now.store h.store) (any_ok c.start_client.result _ c.start_client.ensures.store))

pub returns-in-Gate-clause-done : goal.returns-in-Gate-clause-done
returns-in-Gate-clause-done g c w h =
    comes_still g.D.Disk.state g.D.Disk.images w (λ lucks. started w lucks.shape lucks.calls c.args.node) (λ lucks. started_at w lucks.calls c.args.node) c.only.result c.args.self.now c.args.self.now
    (subst (λ (n : Node). Comes g.D.Disk.state w (λ lucks. started w lucks.shape lucks.calls n) c.only.result c.args.self.now) (sym c.in-Gate.is)
    (stays g.D.Disk.state w c.args.self.now h facts.Done c.only.result c.only.ensures.lines))
    (any_ok c.only.result (AreLeft g.D.Disk.state g.D.Disk.images w c.args.self.now.store.tables c.args.self.now.store.tables)
    (none_left g.D.Disk.state g.D.Disk.images g.met.D.Disk.only_now w c.args.self.now.store h.store))

pub returns-in-Gate-clause-counted : goal.returns-in-Gate-clause-counted
returns-in-Gate-clause-counted g c =
    only_counted g.D.Disk.state c.only.result _ c.args.self.now c.args.self.now refl refl refl c.only.ensures.lines

pub returns-in-Store-clause-plans : goal.returns-in-Store-clause-plans
returns-in-Store-clause-plans g c n plans =
    plans_same g.D.Disk.state c.args.self.now c.start_store.new.self n c.start_store.ensures.clients plans
