use Rattle.std.proofs.Common.{Option, Ok, Err, sym, subst}
use Rattle.disk_trait.specs.Fuse.{inner_of, behind}
use Rattle.store_commit.specs.Standing.{writes_of}
use Rattle.store_node.specs.Calls.{Gives}
use Rattle.store_node.specs.declared.fault.NodeFault.{NodeFault}
use Rattle.store_node.specs.declared.showing.WholeRow.{WholeRow}
use Rattle.store_node.proofs.Onlys.{ready_looked}
use Rattle.store_node.proofs.Handing.{devices_up, node_ready, node_hidden}
use Rattle.store_node.proofs.Shown.{found_gives, refused_gives, gives_node}
use Rattle.store_node.proofs.node.TableNode.row.Goals as goal

pub read_row-requires : goal.read_row-requires
read_row-requires g c =
    let old = c.args.self.now in
    let n = c.requires.node in
    record {
      up = devices_up g.D.Disk.state g.D.Disk.images old n.0.disk n.0.agenda n.1;
      looked = ready_looked (behind g.D.Disk.state) (λ f. g.D.Disk.images (inner_of f)) old.devs (writes_of old.devs) (node_ready g.D.Disk.state g.D.Disk.images old n.0.disk n.0.agenda n.1 c.requires.up);
      hidden = node_hidden g.D.Disk.state g.D.Disk.images old n.0.disk n.0.agenda n.1 c.requires.up;
    }

pub returns-in-Ok-clause-gives : goal.returns-in-Ok-clause-gives
returns-in-Ok-clause-gives g c s t =
    found_gives g.D.Disk.state g.D.Disk.images c.args.self.now c.args.row.now c.read_row.new.table c.requires.up s.disk s.agenda t c.in-Ok.found c.in-Ok.ensures.reads c.in-Ok.ensures.row

pub returns-in-Ok-clause-node : goal.returns-in-Ok-clause-node
returns-in-Ok-clause-node g c =
    let n = c.requires.node in
    gives_node g.D.Disk.state g.D.Disk.images n.0 c.args.row.now c.args.self.now _ (Ok c.in-Ok.found) (returns-in-Ok-clause-gives g c n.0 n.1)

pub returns-in-Err-clause-gives : goal.returns-in-Err-clause-gives
returns-in-Err-clause-gives g c s t =
    subst (λ (f : NodeFault). Gives g.D.Disk.state g.D.Disk.images s c.args.row.now c.args.self.now c.fail.new.self (Err f)) (sym c.fail.ensures.fault)
    (refused_gives g.D.Disk.state g.D.Disk.images c.args.self.now c.args.row.now c.read_row.new.table c.requires.up {T = Option WholeRow} s.disk s.agenda t c.in-Err.fault c.fail.new.self c.in-Err.ensures.reads c.fail.ensures.disk c.fail.ensures.other)

pub returns-in-Err-clause-node : goal.returns-in-Err-clause-node
returns-in-Err-clause-node g c =
    let n = c.requires.node in
    gives_node g.D.Disk.state g.D.Disk.images n.0 c.args.row.now c.args.self.now c.fail.new.self (Err c.fail.result) (returns-in-Err-clause-gives g c n.0 n.1)
