use Rattle.std.proofs.Common.{◌≡◌, Bool, Result, sym, subst}
use Rattle.std.specs.Prelude.{IfErr, IfOk}
use Rattle.disk_trait.specs.Fuse.{behind, inner_of}
use Rattle.step_tables.specs.ClientMoves.{table_at, seen}
use Rattle.client_node.specs.declared.fault.CallFault.{CallFault}
use Rattle.client_node.specs.Answers.{IsFault}
use Rattle.client_node.specs.Closed.{closed_in}
use Rattle.client_node.specs.Looks.{Looks}
use Rattle.client_node.proofs.Asked.{stands_now}
use Rattle.client_node.proofs.Closing.{reads_below}
use Rattle.client_node.proofs.NamedChunks.{only_reads, reads_node}
use Rattle.client_node.proofs.Rooms.{devices_up, node_ready}
use Rattle.client_node.proofs.node.ClientNode.has_closed.Goals as goal

pub is_closed-found-requires-clause-up : goal.is_closed-found-requires-clause-up
is_closed-found-requires-clause-up g c = let n = c.requires.node in devices_up g.D.Disk.state c.args.self.now n.0.disk n.0.agenda n.1

pub is_closed-found-requires-clause-ready : goal.is_closed-found-requires-clause-ready
is_closed-found-requires-clause-ready g c = let n = c.requires.node in node_ready g.D.Disk.state c.args.self.now n.0.disk n.0.agenda n.1 c.requires.up

pub returns-clause-held : goal.returns-clause-held
returns-clause-held g c s t =
    let old = c.args.self.now in
    subst (λ (r : Result Bool CallFault). IfOk r (λ found. found ≡ closed_in (table_at (seen s.disk) c.args.table))) (sym c.settle.ensures.same)
    (c.is_closed-found.ensures.closed old.number s.disk (stands_now g.D.Disk.state g.D.Disk.images old s.disk s.agenda t c.requires.up))

pub returns-clause-reads : goal.returns-clause-reads
returns-clause-reads g c s t =
    let old = c.args.self.now in
    let call = c.is_closed-found in
    let same = sym c.settle.ensures.same in
    let k = subst (λ (r : Result Bool CallFault). Looks (λ f. behind g.D.Disk.state f) (λ f. g.D.Disk.images (inner_of f)) old.devs call.new.devs r) same call.ensures.looks in
    only_reads g.D.Disk.state g.D.Disk.images (λ f image left. g.met.D.Disk.only_now (inner_of f) image left) old s.disk s.agenda t c.requires.up c.settle.result call.new.devs k
    (subst (λ (r : Result Bool CallFault). IfErr r IsFault) same call.ensures.refused) c.settle.new.self c.settle.ensures.disk c.settle.ensures.other

pub returns-clause-node : goal.returns-clause-node
returns-clause-node g c = let n = c.requires.node in reads_node g.D.Disk.state g.D.Disk.images n.0 c.args.self.now _ _ (returns-clause-reads g c n.0 n.1)

pub returns-clause-plans : goal.returns-clause-plans
returns-clause-plans g c n below =
    let a = c.requires.node in
    let old = c.args.self.now in
    let call = c.is_closed-found in
    let same = sym c.settle.ensures.same in
    reads_below g.D.Disk.state g.D.Disk.images old c.settle.new.self call.new.devs a.0.disk a.0.agenda a.1 c.requires.up c.settle.result
    (subst (λ (r : Result Bool CallFault). Looks (λ f. behind g.D.Disk.state f) (λ f. g.D.Disk.images (inner_of f)) old.devs call.new.devs r) same call.ensures.looks) c.settle.ensures.other n below
