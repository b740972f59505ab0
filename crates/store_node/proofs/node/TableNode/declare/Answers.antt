use Rattle.std.proofs.Common.{map, Ok, Err, sym, ap, subst}
use Rattle.step_tables.specs.Travels.{send_of}
use Rattle.store_node.specs.Due.{fact_of}
use Rattle.store_node.specs.Node.{HasBlankDisks}
use Rattle.store_node.specs.declared.fault.NodeFault.{NodeFault}
use Rattle.store_node.specs.Calls.{Declares}
use Rattle.store_node.proofs.Handing.{devices_up}
use Rattle.store_node.proofs.Recovering.{declare_done, declare_failed}
use Rattle.store_node.proofs.Nodes.{declares_node}
use Rattle.store_node.proofs.node.TableNode.declare.Goals as goal

pub make_table-requires-clause-up : goal.make_table-requires-clause-up
make_table-requires-clause-up g c = let n = c.requires.node in devices_up g.D.Disk.state g.D.Disk.images c.args.self.now n.0.disk n.0.agenda n.1

pub make_table-requires-clause-spelled : goal.make_table-requires-clause-spelled
make_table-requires-clause-spelled g c = c.requires.node.1.spelled

pub make_table-requires-clause-short : goal.make_table-requires-clause-short
make_table-requires-clause-short g c = c.requires.node.1.short

pub returns-in-Ok-clause-declares : goal.returns-in-Ok-clause-declares
returns-in-Ok-clause-declares g c s t = let old = c.args.self.now in declare_done g.D.Disk.state g.D.Disk.images (HasBlankDisks g.D.Disk.state old) old s.disk s.agenda t c.requires.undeclared c.make_table.new.table c.in-Ok.ensures

pub returns-in-Err-clause-declares : goal.returns-in-Err-clause-declares
returns-in-Err-clause-declares g c s t =
    let old = c.args.self.now in
    let f = c.fall.ensures in
    subst (λ (f : NodeFault). Declares g.D.Disk.state g.D.Disk.images s old c.fall.new.self (Err f)) (sym c.from.ensures)
    (declare_failed g.D.Disk.state g.D.Disk.images (HasBlankDisks g.D.Disk.state old) old s.disk s.agenda t c.requires.undeclared (record old { devs = c.make_table.new.table }) c.fall.new.self c.in-Err.fault c.in-Err.ensures f.falls
    (record { told = ap (λ x. map fact_of x.items.items) f.facts; sent = ap (λ x. map send_of x.items.items) f.messages; same = record { store = f.same.store; table = f.same.table; schema = f.same.schema }; declared = f.declared; state = f.state }) f.down)

pub returns-in-Ok-clause-node : goal.returns-in-Ok-clause-node
returns-in-Ok-clause-node g c = let n = c.requires.node in declares_node g.D.Disk.state g.D.Disk.images n.0 c.args.self.now _ (Ok tt) (returns-in-Ok-clause-declares g c n.0 n.1)

pub returns-in-Err-clause-node : goal.returns-in-Err-clause-node
returns-in-Err-clause-node g c = let n = c.requires.node in declares_node g.D.Disk.state g.D.Disk.images n.0 c.args.self.now c.fall.new.self (Err c.from.result) (returns-in-Err-clause-declares g c n.0 n.1)
