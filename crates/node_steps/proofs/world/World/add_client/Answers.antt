use Rattle.table_model.specs.declared.event.Event.TheVariants as events
use Rattle.world_tables.specs.Passed.{first_part}
use Rattle.node_steps.proofs.Closing.{client_small}
use Rattle.node_steps.proofs.Declared.{join_ok, are_to_open, client_not_out, has_schemas}
use Rattle.node_steps.proofs.Rows.{none_left, over_first, stay_over}
use Rattle.node_steps.proofs.world.World.add_client.Goals as goal

pub hand_out_three-requires-clause-small : goal.hand_out_three-requires-clause-small
hand_out_three-requires-clause-small g c = client_small c.args.client c.requires.numbered.most

pub hand_out_three-requires-clause-free : goal.hand_out_three-requires-clause-free
hand_out_three-requires-clause-free g c =
    let k = c.requires.held in
    client_not_out g.D.Disk.state k.0 c.args.self.now k.1 c.args.client (g.P.Depot.state c.args.depot.now).is_out k.2 c.requires.absent c.requires.numbered.least

pub join-requires-clause-made : goal.join-requires-clause-made
join-requires-clause-made g c =
    let k = c.requires.held in are_to_open g.D.Disk.state k.0 c.args.self.now k.1 k.3

pub returns-in-Ok-clause-done : goal.returns-in-Ok-clause-done
returns-in-Ok-clause-done g c w gate reached h out =
    let event = events.Client c.args.client gate c.args.tables.now in
    let new = record c.args.self.now { clients = c.join.new.self } in
    let k = c.in-Ok.ensures.joined w h.clients (has_schemas g.D.Disk.state w c.args.self.now h) in
    join_ok g.D.Disk.state g.D.Disk.images w c.args.client gate c.args.tables.now (g.P.Depot.state c.args.depot.now).is_out c.silent.result c.silent.ensures (g.P.Depot.state c.hand_out_three.new.depot).is_out c.args.self.now c.join.new.self c.in_ok-disks.disks h out c.requires.absent
    c.requires.numbered c.in_ok-disks.ensures.out c.in_ok-disks.ensures.sound k c.join.ensures.others c.join.ensures.outs
    (λ lucks. stay_over g.D.Disk.state g.D.Disk.images w reached event lucks c.args.self.now new (over_first g.D.Disk.state g.D.Disk.images w (first_part w event lucks) c.args.self.now.store.tables c.args.self.now.store.tables
    (none_left g.D.Disk.state g.D.Disk.images g.met.D.Disk.only_now w c.args.self.now.store h.store)))
