use Rattle.std.proofs.Common.{◌⊎◌, inl, inr, ℕ, refl, sym, subst}
use Rattle.std.specs.Prelude.{IfOk}
use Rattle.stab_base.specs.declared.node.Node.{Node}
use Rattle.step_tables.specs.Facts as facts
use Rattle.world_tables.specs.World.{carried}
use Rattle.world_tables.specs.Passed.{taken_by}
use Rattle.store_host.specs.Holds.{AreLeft}
use Rattle.node_steps.specs.Calls.{Comes}
use Rattle.node_steps.specs.Fits.{FitsNode, packet_with}
use Rattle.node_steps.specs.Rows.{AreLeftOver}
use Rattle.node_steps.specs.Steps.{IsFull, SpendsNumber}
use Rattle.node_steps.proofs.Clients.{either_spent, plans_more}
use Rattle.node_steps.proofs.Counted.{only_counted}
use Rattle.node_steps.proofs.Done.{stays}
use Rattle.node_steps.proofs.Rows.{any_ok, same_tables, none_left, over_first_ok}
use Rattle.node_steps.proofs.world.World.carry.Goals as goal

pub carry_to_store-requires : goal.carry_to_store-requires
carry_to_store-requires g c =
    let k = c.requires.held in
    record { held = (k.0, k.1, subst (λ (n : Node). FitsNode k.0 n c.args.message) c.in-Store.is k.2) }

pub carry_to_client-requires : goal.carry_to_client-requires
carry_to_client-requires g c =
    let k = c.requires.held in record { held = (k.0, k.1, subst (λ (n : Node). FitsNode k.0 n c.args.message) c.in-Client.is k.2) }

pub returns-in-Store-clause-done : goal.returns-in-Store-clause-done
returns-in-Store-clause-done g c w h fits =
    let is = c.in-Store.is in
    subst (λ (n : Node). Comes g.D.Disk.state w (λ lucks. carried w (packet_with c.args.from n c.args.message) lucks.shape lucks.calls n) c.carry_to_store.result c.carry_to_store.new.self)
    (sym is) (c.carry_to_store.ensures.done w h (subst (λ (n : Node). FitsNode w n c.args.message) is fits))

pub returns-in-Client-clause-done : goal.returns-in-Client-clause-done
returns-in-Client-clause-done g c w h fits =
    let is = c.in-Client.is in
    subst (λ (n : Node). Comes g.D.Disk.state w (λ lucks. carried w (packet_with c.args.from n c.args.message) lucks.shape lucks.calls n) c.carry_to_client.result c.carry_to_client.new.self)
    (sym is) (c.carry_to_client.ensures.done w h (subst (λ (n : Node). FitsNode w n c.args.message) is fits))

pub returns-in-Gate-clause-done : goal.returns-in-Gate-clause-done
returns-in-Gate-clause-done g c w h fits =
    subst (λ (n : Node). Comes g.D.Disk.state w (λ lucks. carried w (packet_with c.args.from n c.args.message) lucks.shape lucks.calls n) c.only.result c.args.self.now)
    (sym c.in-Gate.is) (stays g.D.Disk.state w c.args.self.now h facts.Done c.only.result c.only.ensures.lines)

pub returns-in-Gate-clause-counted : goal.returns-in-Gate-clause-counted
returns-in-Gate-clause-counted g c =
    only_counted g.D.Disk.state c.only.result _ c.args.self.now c.args.self.now refl refl refl c.only.ensures.lines

pub returns-in-Store-clause-rows : goal.returns-in-Store-clause-rows
returns-in-Store-clause-rows g c w h fits =
    let is = c.in-Store.is in
    subst (λ (n : Node). IfOk c.carry_to_store.result
    (λ told. AreLeftOver g.D.Disk.state g.D.Disk.images w (taken_by w (packet_with c.args.from n c.args.message) n) c.args.self.now.store.tables c.carry_to_store.new.self.store.tables))
    (sym is) (c.carry_to_store.ensures.rows w h (subst (λ (n : Node). FitsNode w n c.args.message) is fits))

pub returns-in-Client-clause-rows : goal.returns-in-Client-clause-rows
returns-in-Client-clause-rows g c w h fits =
    let old = c.args.self.now in
    over_first_ok g.D.Disk.state g.D.Disk.images c.carry_to_client.result w (taken_by w (packet_with c.args.from c.args.to c.args.message) c.args.to) old.store.tables
    c.carry_to_client.new.self.store.tables
    (same_tables (AreLeft g.D.Disk.state g.D.Disk.images w old.store.tables) c.carry_to_client.result old c.carry_to_client.new.self
    (none_left g.D.Disk.state g.D.Disk.images g.met.D.Disk.only_now w old.store h.store) (any_ok c.carry_to_client.result _ c.carry_to_client.ensures.store))

pub returns-in-Gate-clause-rows : goal.returns-in-Gate-clause-rows
returns-in-Gate-clause-rows g c w h fits =
    let tables = c.args.self.now.store.tables in
    over_first_ok g.D.Disk.state g.D.Disk.images c.only.result w (taken_by w (packet_with c.args.from c.args.to c.args.message) c.args.to) tables tables
    (any_ok c.only.result (AreLeft g.D.Disk.state g.D.Disk.images w tables tables) (none_left g.D.Disk.state g.D.Disk.images g.met.D.Disk.only_now w c.args.self.now.store h.store))

pub returns-in-Store-clause-limit : goal.returns-in-Store-clause-limit
returns-in-Store-clause-limit g c w n h fits plans =
    either_spent c.carry_to_store.result (IsFull w) (IsFull w ⊎ ((q : ℕ) × SpendsNumber n w q)) (λ x. inl x) (c.carry_to_store.ensures.limit w h)

pub returns-in-Client-clause-limit : goal.returns-in-Client-clause-limit
returns-in-Client-clause-limit g c w n h fits plans =
    either_spent c.carry_to_client.result (SpendsNumber n w c.in-Client.client) (IsFull w ⊎ ((q : ℕ) × SpendsNumber n w q)) (λ x. inr (c.in-Client.client, x))
    (c.carry_to_client.ensures.limit w n h (subst (λ (m : Node). FitsNode w m c.args.message) c.in-Client.is fits) plans)

pub returns-in-Store-clause-plans : goal.returns-in-Store-clause-plans
returns-in-Store-clause-plans g c n plans =
    plans_more g.D.Disk.state c.args.self.now c.carry_to_store.new.self n c.carry_to_store.ensures.clients plans

pub returns-in-Gate-clause-plans : goal.returns-in-Gate-clause-plans
returns-in-Gate-clause-plans g c n plans =
    plans_more g.D.Disk.state c.args.self.now c.args.self.now n refl plans
