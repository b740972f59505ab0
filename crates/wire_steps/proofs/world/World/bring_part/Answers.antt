use Rattle.step_tables.specs.Travels.{message_of}
use Rattle.wire_steps.proofs.Answered.{limited_later, plans_later}
use Rattle.wire_steps.proofs.Coming.{at_node, gate_takes_nothing, idle_carry, idle_comes, idle_ends}
use Rattle.wire_steps.proofs.world.World.bring_part.Goals as goal

pub bring_to_store-requires : goal.bring_to_store-requires
bring_to_store-requires g c =
    record { brought = at_node g.D.Disk.state c.args.self.now c.args.from c.args.to c.args.part c.requires.brought _ c.in-Store.is }

pub returns-in-Store-clause-done : goal.returns-in-Store-clause-done
returns-in-Store-clause-done g c x =
    c.bring_to_store.ensures.done (at_node g.D.Disk.state c.args.self.now c.args.from c.args.to c.args.part x _ c.in-Store.is)

pub returns-in-Store-clause-ends : goal.returns-in-Store-clause-ends
returns-in-Store-clause-ends g c x =
    c.bring_to_store.ensures.ends (at_node g.D.Disk.state c.args.self.now c.args.from c.args.to c.args.part x _ c.in-Store.is)

pub returns-in-Store-clause-limit : goal.returns-in-Store-clause-limit
returns-in-Store-clause-limit g c x n below =
    let more = c.bring_to_store.ensures.limit (at_node g.D.Disk.state c.args.self.now c.args.from c.args.to c.args.part x _ c.in-Store.is) n below in
    limited_later _ x.v.world c.bring_to_store.result (limited_later n x.v.world c.bring_to_store.result more)

pub bring_to_client-requires : goal.bring_to_client-requires
bring_to_client-requires g c = record { brought = at_node g.D.Disk.state c.args.self.now c.args.from c.args.to c.args.part c.requires.brought _ c.in-Client.is }

pub returns-in-Client-clause-done : goal.returns-in-Client-clause-done
returns-in-Client-clause-done g c x = c.bring_to_client.ensures.done (at_node g.D.Disk.state c.args.self.now c.args.from c.args.to c.args.part x _ c.in-Client.is)

pub returns-in-Client-clause-ends : goal.returns-in-Client-clause-ends
returns-in-Client-clause-ends g c x = c.bring_to_client.ensures.ends (at_node g.D.Disk.state c.args.self.now c.args.from c.args.to c.args.part x _ c.in-Client.is)

pub returns-in-Client-clause-limit : goal.returns-in-Client-clause-limit
returns-in-Client-clause-limit g c x n below = c.bring_to_client.ensures.limit (at_node g.D.Disk.state c.args.self.now c.args.from c.args.to c.args.part x _ c.in-Client.is) n below

pub bring-requires : goal.bring-requires
bring-requires g c =
    let x = c.requires.brought in
    record {
      carried = idle_carry g.D.Disk.state c.args.self.now c.args.from c.args.to c.args.part x c.table_of.result (c.table_of.ensures x.p.part x.part_is) (message_of c.any_of.result)
          c.any_of.ensures (gate_takes_nothing x.v.world c.table_of.result c.args.to _ c.in-Gate.is);
    }

pub returns-in-Gate-clause-done : goal.returns-in-Gate-clause-done
returns-in-Gate-clause-done g c x =
    let nothing = gate_takes_nothing x.v.world c.table_of.result c.args.to _ c.in-Gate.is in
    idle_comes g.D.Disk.state c.args.self.now c.args.from c.args.to c.args.part x c.table_of.result (c.table_of.ensures x.p.part x.part_is) (message_of c.any_of.result) c.any_of.ensures nothing
    g.D.Disk.images c.bring.new.self c.bring.result
    (c.bring.ensures.done (idle_carry g.D.Disk.state c.args.self.now c.args.from c.args.to c.args.part x c.table_of.result (c.table_of.ensures x.p.part x.part_is) (message_of c.any_of.result)
    c.any_of.ensures nothing))

pub returns-in-Gate-clause-ends : goal.returns-in-Gate-clause-ends
returns-in-Gate-clause-ends g c x =
    let nothing = gate_takes_nothing x.v.world c.table_of.result c.args.to _ c.in-Gate.is in
    idle_ends g.D.Disk.state c.args.self.now c.args.from c.args.to c.args.part x c.table_of.result (c.table_of.ensures x.p.part x.part_is) (message_of c.any_of.result) c.any_of.ensures nothing
    g.D.Disk.images c.bring.new.self c.bring.result
    (c.bring.ensures.ends (idle_carry g.D.Disk.state c.args.self.now c.args.from c.args.to c.args.part x c.table_of.result (c.table_of.ensures x.p.part x.part_is) (message_of c.any_of.result)
    c.any_of.ensures nothing))

pub returns-in-Gate-clause-limit : goal.returns-in-Gate-clause-limit
returns-in-Gate-clause-limit g c x n below =
    let nothing = gate_takes_nothing x.v.world c.table_of.result c.args.to _ c.in-Gate.is in
    let more = c.bring.ensures.limit (idle_carry g.D.Disk.state c.args.self.now c.args.from c.args.to c.args.part x c.table_of.result (c.table_of.ensures x.p.part x.part_is)
    (message_of c.any_of.result) c.any_of.ensures nothing) n below in
    limited_later _ x.v.world c.bring.result (limited_later n x.v.world c.bring.result more)

pub returns-in-Store-clause-plans : goal.returns-in-Store-clause-plans
returns-in-Store-clause-plans g c n below =
    plans_later g.D.Disk.state _ c.bring_to_store.new.self.nodes (plans_later g.D.Disk.state _ c.bring_to_store.new.self.nodes (c.bring_to_store.ensures.plans n below))

pub returns-in-Gate-clause-plans : goal.returns-in-Gate-clause-plans
returns-in-Gate-clause-plans g c n below = plans_later g.D.Disk.state _ c.bring.new.self.nodes (plans_later g.D.Disk.state _ c.bring.new.self.nodes (c.bring.ensures.plans n below))
