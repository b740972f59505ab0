use Rattle.std.proofs.Common.{◌≡◌, Option, Result, sym, subst}
use Rattle.std.specs.Prelude.{IfErr, IfOk, option_map}
use Rattle.disk_trait.specs.Fuse.{behind, inner_of}
use Rattle.step_tables.specs.ClientMoves.{table_at, seen}
use Rattle.client_node.specs.declared.calls.held.RowHeld.{RowHeld}
use Rattle.client_node.specs.declared.fault.CallFault.{CallFault}
use Rattle.client_node.specs.Answers.{IsFault}
use Rattle.client_node.specs.HeldRows.{row_held}
use Rattle.client_node.specs.Looks.{Looks}
use Rattle.client_node.proofs.Asked.{stands_now, steady_now}
use Rattle.client_node.proofs.NamedChunks.{only_reads, reads_node}
use Rattle.client_node.proofs.Rooms.{devices_up, node_ready}
use Rattle.client_node.proofs.node.ClientNode.held_row.Goals as goal

pub held_of-found-requires-clause-up : goal.held_of-found-requires-clause-up
held_of-found-requires-clause-up g c = let n = c.requires.node in devices_up g.D.Disk.state c.args.self.now n.0.disk n.0.agenda n.1

pub held_of-found-requires-clause-ready : goal.held_of-found-requires-clause-ready
held_of-found-requires-clause-ready g c = let n = c.requires.node in node_ready g.D.Disk.state c.args.self.now n.0.disk n.0.agenda n.1 c.requires.up

pub returns-clause-held : goal.returns-clause-held
returns-clause-held g c s t =
    let old = c.args.self.now in
    subst (λ (r : Result (Option RowHeld) CallFault). IfOk r (λ found. found ≡ option_map (row_held c.args.row.now) (table_at (seen s.disk) c.args.table))) (sym c.settle.ensures.same)
    (c.held_of-found.ensures.held old.number s.disk old.waiting (stands_now g.D.Disk.state g.D.Disk.images old s.disk s.agenda t c.requires.up) (steady_now g.D.Disk.state g.D.Disk.images old s.disk s.agenda t c.requires.up))

pub returns-clause-reads : goal.returns-clause-reads
returns-clause-reads g c s t =
    let old = c.args.self.now in
    let call = c.held_of-found in
    let same = sym c.settle.ensures.same in
    let k = subst (λ (r : Result (Option RowHeld) CallFault). Looks (λ f. behind g.D.Disk.state f) (λ f. g.D.Disk.images (inner_of f)) old.devs call.new.devs r) same call.ensures.looks in
    only_reads g.D.Disk.state g.D.Disk.images (λ f image left. g.met.D.Disk.only_now (inner_of f) image left) old s.disk s.agenda t c.requires.up c.settle.result call.new.devs k
    (subst (λ (r : Result (Option RowHeld) CallFault). IfErr r IsFault) same call.ensures.refused) c.settle.new.self c.settle.ensures.disk c.settle.ensures.other

pub returns-clause-node : goal.returns-clause-node
returns-clause-node g c = let n = c.requires.node in reads_node g.D.Disk.state g.D.Disk.images n.0 c.args.self.now _ _ (returns-clause-reads g c n.0 n.1)
