use Rattle.std.proofs.Common.{refl}
use Rattle.disk_trait.specs.Fuse.{inner_of}
use Rattle.step_tables.specs.ClientMoves.{Alter, Opens}
use Rattle.step_tables.specs.Facts as facts
use Rattle.client_node.proofs.AlteredTables.{may_take}
use Rattle.client_node.proofs.Answering.{does_node}
use Rattle.client_node.proofs.Rooms.{devices_up, node_ready}
use Rattle.client_node.proofs.node.ClientNode.open_table.Goals as goal

pub prepare_open-found-requires-clause-up : goal.prepare_open-found-requires-clause-up
prepare_open-found-requires-clause-up g c = let n = c.requires.node in devices_up g.D.Disk.state c.args.self.now n.0.disk n.0.agenda n.1

pub prepare_open-found-requires-clause-ready : goal.prepare_open-found-requires-clause-ready
prepare_open-found-requires-clause-ready g c = let n = c.requires.node in node_ready g.D.Disk.state c.args.self.now n.0.disk n.0.agenda n.1 c.requires.up

pub alter-requires : goal.alter-requires
alter-requires g c =
    let n = c.requires.node in
    let call = c.prepare_open-found in
    may_take g.D.Disk.state g.D.Disk.images (λ f image left. g.met.D.Disk.only_now (inner_of f) image left) c.args.self.now c.args.table (Opens c.args.schema) call.result call.new.devs call.ensures.looks call.ensures.alters n.0.disk n.0.agenda n.1 c.requires.up

pub returns-clause-does : goal.returns-clause-does
returns-clause-does g c s t =
    let call = c.prepare_open-found in
    c.alter.ensures.does c.args.self.now s c.args.table (Opens c.args.schema) refl t c.requires.up call.ensures.looks call.ensures.alters

pub returns-clause-node : goal.returns-clause-node
returns-clause-node g c =
    let n = c.requires.node in does_node g.D.Disk.state g.D.Disk.images n.0 (Alter c.args.table (Opens c.args.schema)) (λ value. facts.Done) c.args.self.now _ _ (returns-clause-does g c n.0 n.1)
