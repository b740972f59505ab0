use Rattle.std.proofs.Common.{◌≡◌, Result, sym, subst}
use Rattle.std.specs.Prelude.{IfErr, ◌⊎◌}
use Rattle.disk_trait.specs.Fuse.{behind, inner_of}
use Rattle.table_model.specs.declared.line.Shown.{Shown}
use Rattle.step_tables.specs.ClientMoves.{Show, table_at, seen, show_in}
use Rattle.step_tables.specs.Facts as facts
use Rattle.step_tables.specs.Lines.{shown_of}
use Rattle.client_node.specs.declared.fault.CallFault.{CallFault}
use Rattle.client_node.specs.declared.fault.CallFault.TheVariants as call_faults
use Rattle.client_node.specs.Answers.{IsFault, IsAnswered}
use Rattle.client_node.specs.Looks.{Looks}
use Rattle.client_node.proofs.Answering.{does_node}
use Rattle.client_node.proofs.Asked.{stands_now}
use Rattle.client_node.proofs.Rooms.{devices_up, node_ready}
use Rattle.client_node.proofs.Readers.{shows}
use Rattle.client_node.proofs.node.ClientNode.read.Goals as goal

pub show-shown-requires-clause-up : goal.show-shown-requires-clause-up
show-shown-requires-clause-up g c = let n = c.requires.node in devices_up g.D.Disk.state c.args.self.now n.0.disk n.0.agenda n.1

pub show-shown-requires-clause-ready : goal.show-shown-requires-clause-ready
show-shown-requires-clause-ready g c = let n = c.requires.node in node_ready g.D.Disk.state c.args.self.now n.0.disk n.0.agenda n.1 c.requires.up

pub returns-clause-does : goal.returns-clause-does
returns-clause-does g c s t =
    let old = c.args.self.now in
    let call = c.show-shown in
    let same = sym c.settle.ensures.same in
    let k = subst (λ (r : Result Shown CallFault). Looks (λ f. behind g.D.Disk.state f) (λ f. g.D.Disk.images (inner_of f)) old.devs call.new.devs r) same call.ensures.looks in
    let few = subst (λ (r : Result Shown CallFault). IfErr r (λ e. (e ≡ call_faults.NoTable) ⊎ ((e ≡ call_faults.NoRow) ⊎ IsFault e))) same call.ensures.refused in
    let a = subst (λ (r : Result Shown CallFault). IsAnswered (λ shown. facts.Shows (shown_of shown)) (show_in c.args.row.now (table_at (seen s.disk) c.args.table)) r) same
    (call.ensures.answered old.number s.disk (stands_now g.D.Disk.state g.D.Disk.images old s.disk s.agenda t c.requires.up)) in
    shows g.D.Disk.state g.D.Disk.images (λ f image left. g.met.D.Disk.only_now (inner_of f) image left) old s.disk c.args.table c.args.row.now c.settle.result call.new.devs k few c.settle.new.self c.settle.ensures.disk c.settle.ensures.other
    (λ shown. facts.Shows (shown_of shown)) s.agenda t c.requires.up a

pub returns-clause-node : goal.returns-clause-node
returns-clause-node g c = let n = c.requires.node in does_node g.D.Disk.state g.D.Disk.images n.0 (Show c.args.table c.args.row.now) (λ shown. facts.Shows (shown_of shown)) c.args.self.now _ _ (returns-clause-does g c n.0 n.1)
