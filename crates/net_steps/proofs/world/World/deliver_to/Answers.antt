use Rattle.std.proofs.Common.{refl}
use Rattle.table_model.specs.declared.event.Event.TheVariants as events
use Rattle.message_parts.specs.Parts.{part_of}
use Rattle.gated_tables.specs.Net.{net_step, to_client, to_store}
use Rattle.net_steps.proofs.Brought.{counted_apart}
use Rattle.net_steps.proofs.Coming.{comes, step_to_client, step_to_store}
use Rattle.net_steps.proofs.Delivered.{comes_as, comes_by}
use Rattle.net_steps.proofs.world.World.deliver_to.Goals as goal

pub to_store-requires-clause-coming : goal.to_store-requires-clause-coming
to_store-requires-clause-coming g c =
    let k = c.requires.held in
    comes g.D.Disk.state (g.P.Depot.state c.args.depot.now).is_out c.args.number c.args.way c.args.self.now k.0 k.1 (c.requires.way k.0 k.1.held) _ c.in-Store.is (c.requires.up k.0 k.1.held)

pub to_store-requires-clause-to : goal.to_store-requires-clause-to
to_store-requires-clause-to g c = c.in-Store.is

pub to_client-requires : goal.to_client-requires
to_client-requires g c =
    let k = c.requires.held in
    record {
      coming = comes g.D.Disk.state (g.P.Depot.state c.args.depot.now).is_out c.args.number c.args.way c.args.self.now k.0 k.1 (c.requires.way k.0 k.1.held) _ c.in-Client.is (c.requires.up k.0 k.1.held);
    }

pub returns-in-Store-clause-comes : goal.returns-in-Store-clause-comes
returns-in-Store-clause-comes g c n at =
    let is_out = (g.P.Depot.state c.args.depot.now).is_out in
    let way = c.requires.way n at.held in
    let up = c.requires.up n at.held in
    let x = comes g.D.Disk.state is_out c.args.number c.args.way c.args.self.now n at way _ c.in-Store.is up in
    comes_as g.D.Disk.state g.D.Disk.images n (net_step n (events.Deliver c.args.number)) (λ lucks. to_store n c.in-Store.store x.one lucks (part_of x.one.message))
    (step_to_store g.D.Disk.state is_out c.args.number c.args.way c.args.self.now n at way c.in-Store.store c.in-Store.is up) c.to_store.result (g.P.Depot.state c.to_store.new.depot).is_out
    c.args.self.now c.to_store.new.self (c.to_store.ensures.comes x)

pub returns-in-Client-clause-comes : goal.returns-in-Client-clause-comes
returns-in-Client-clause-comes g c n at =
    let is_out = (g.P.Depot.state c.args.depot.now).is_out in
    let way = c.requires.way n at.held in
    let up = c.requires.up n at.held in
    let x = comes g.D.Disk.state is_out c.args.number c.args.way c.args.self.now n at way _ c.in-Client.is up in
    comes_as g.D.Disk.state g.D.Disk.images n (net_step n (events.Deliver c.args.number)) (λ lucks. to_client n c.in-Client.client x.one lucks (part_of x.one.message))
    (step_to_client g.D.Disk.state is_out c.args.number c.args.way c.args.self.now n at way c.in-Client.client c.in-Client.is up) c.to_client.result (g.P.Depot.state c.to_client.new.depot).is_out
    c.args.self.now c.to_client.new.self (c.to_client.ensures.comes x)

pub returns-in-Gate-clause-comes : goal.returns-in-Gate-clause-comes
returns-in-Gate-clause-comes g c n at =
    let is_out = (g.P.Depot.state c.args.depot.now).is_out in
    let k = c.hand.ensures in
    comes_by g.D.Disk.state g.D.Disk.images n (net_step n (events.Deliver c.args.number)) c.hand.result is_out c.args.self.now c.hand.new.self (record {
      done = k.done is_out n at;
      over = k.over is_out n at;
      limit = λ m below. k.limit is_out n m at below;
      plans = λ m below. k.plans is_out n m at below;
      apart = k.apart;
    })

pub returns-in-Gate-clause-depot : goal.returns-in-Gate-clause-depot
returns-in-Gate-clause-depot g c = counted_apart _ _ refl c.hand.result c.hand.ensures.apart
