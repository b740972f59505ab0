use Rattle.std.proofs.Common.{false, sym, refl, subst}
use Rattle.stab_base.specs.declared.node.Node.{Node}
use Rattle.step_tables.specs.Facts as facts
use Rattle.world_tables.specs.World.{answered, crashed}
use Rattle.world_tables.specs.Faults.{fails_crash}
use Rattle.store_host.specs.Holds.{AreLeft}
use Rattle.node_steps.specs.Faults.{ComesCounted}
use Rattle.node_steps.specs.Holds.{IsUpStore}
use Rattle.node_steps.proofs.Clients.{plans_same}
use Rattle.node_steps.proofs.Counted.{counted_still}
use Rattle.node_steps.proofs.Done.{stays}
use Rattle.node_steps.proofs.Rows.{any_ok, none_left, same_tables}
use Rattle.node_steps.proofs.world.World.crash_up.Goals as goal

pub crash_store-requires-clause-up : goal.crash_store-requires-clause-up
crash_store-requires-clause-up g c = subst (λ (n : Node). IsUpStore c.args.self.now.store n) c.in-Store.is c.requires.up

pub returns-in-Store-clause-done : goal.returns-in-Store-clause-done
returns-in-Store-clause-done g c w h =
    subst (λ (n : Node). ComesCounted g.D.Disk.state w (λ lucks. crashed w c.args.calls lucks.calls n) (λ lucks. fails_crash w lucks.calls n) c.crash_store.result c.args.self.now c.crash_store.new.self)
    (sym c.in-Store.is) (c.crash_store.ensures.done w h)

pub returns-in-Client-clause-done : goal.returns-in-Client-clause-done
returns-in-Client-clause-done g c w h =
    subst (λ (n : Node). ComesCounted g.D.Disk.state w (λ lucks. crashed w c.args.calls lucks.calls n) (λ lucks. fails_crash w lucks.calls n) c.crash_client.result c.args.self.now c.crash_client.new.self)
    (sym c.in-Client.is) (c.crash_client.ensures.done w h)

pub returns-in-Gate-clause-done : goal.returns-in-Gate-clause-done
returns-in-Gate-clause-done g c w h =
    subst (λ (n : Node). ComesCounted g.D.Disk.state w (λ lucks. crashed w c.args.calls lucks.calls n) (λ lucks. fails_crash w lucks.calls n) c.only.result c.args.self.now c.args.self.now) (sym c.in-Gate.is)
    (counted_still g.D.Disk.state w (λ lucks. answered w facts.Done) (λ lucks. answered w facts.Done) (λ lucks. false) (λ lucks. false) c.only.result c.args.self.now c.args.self.now
    (λ lucks. refl) refl refl (stays g.D.Disk.state w c.args.self.now h facts.Done c.only.result c.only.ensures.lines))

pub returns-in-Client-clause-rows : goal.returns-in-Client-clause-rows
returns-in-Client-clause-rows g c w h =
    same_tables (AreLeft g.D.Disk.state g.D.Disk.images w c.args.self.now.store.tables) c.crash_client.result c.args.self.now c.crash_client.new.self
    (none_left g.D.Disk.state g.D.Disk.images g.met.D.Disk.only_now w c.args.self.now.store h.store) (any_ok c.crash_client.result _ c.crash_client.ensures.store)

pub returns-in-Gate-clause-rows : goal.returns-in-Gate-clause-rows
returns-in-Gate-clause-rows g c w h =
    any_ok c.only.result (AreLeft g.D.Disk.state g.D.Disk.images w c.args.self.now.store.tables c.args.self.now.store.tables)
    (none_left g.D.Disk.state g.D.Disk.images g.met.D.Disk.only_now w c.args.self.now.store h.store)

pub returns-in-Store-clause-plans : goal.returns-in-Store-clause-plans
returns-in-Store-clause-plans g c n plans =
    plans_same g.D.Disk.state c.args.self.now c.crash_store.new.self n c.crash_store.ensures.clients plans
