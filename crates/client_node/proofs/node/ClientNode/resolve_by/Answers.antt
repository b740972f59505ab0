use Rattle.std.proofs.Common.{Bool, refl, sym, subst}
use Rattle.disk_trait.specs.Fuse.{behind, inner_of}
use Rattle.client_journal.specs.Standing.{devs}
use Rattle.step_tables.specs.ClientMoves.{Resolve, slots_of, seen}
use Rattle.step_tables.specs.Facts as facts
use Rattle.client_node.specs.Phases.{is_open}
use Rattle.client_node.specs.Preparing.{Prepares}
use Rattle.client_node.proofs.Answering.{does_node}
use Rattle.client_node.proofs.Asked.{stands_now, steady_now}
use Rattle.client_node.proofs.MadeChoices.{choice_in, is_choice_in}
use Rattle.client_node.proofs.Opened.{record_spelled}
use Rattle.client_node.proofs.Rooms.{devices_up, node_ready}
use Rattle.client_node.proofs.TakenOn.{may_begin}
use Rattle.client_node.proofs.node.ClientNode.resolve_by.Goals as goal

pub prepare_by-found-requires-clause-up : goal.prepare_by-found-requires-clause-up
prepare_by-found-requires-clause-up g c = let n = c.requires.node in devices_up g.D.Disk.state c.args.self.now n.0.disk n.0.agenda n.1

pub prepare_by-found-requires-clause-ready : goal.prepare_by-found-requires-clause-ready
prepare_by-found-requires-clause-ready g c = let n = c.requires.node in node_ready g.D.Disk.state c.args.self.now n.0.disk n.0.agenda n.1 c.requires.up

pub prepare_by-found-requires-clause-spelled : goal.prepare_by-found-requires-clause-spelled
prepare_by-found-requires-clause-spelled g c =
    let n = c.requires.node in
    let old = c.args.self.now in
    record_spelled old.number (devs (λ f. behind g.D.Disk.state f) old.devs) n.0.disk (stands_now g.D.Disk.state g.D.Disk.images old n.0.disk n.0.agenda n.1 c.requires.up) old.waiting
    (steady_now g.D.Disk.state g.D.Disk.images old n.0.disk n.0.agenda n.1 c.requires.up) c.args.table

pub take_on-requires : goal.take_on-requires
take_on-requires g c =
    let n = c.requires.node in
    let old = c.args.self.now in
    let call = c.prepare_by-found in
    let gate = c.gate_of-gate.ensures in
    let slots = slots_of (seen n.0.disk) c.args.table c.args.row in
    let choice = choice_in c.args.by c.args.row slots.main slots.conflict in
    let there = stands_now g.D.Disk.state g.D.Disk.images old n.0.disk n.0.agenda n.1 c.requires.up in
    let prepares = subst (λ (b : Bool). Prepares (λ f. behind g.D.Disk.state f) old.devs old.waiting (is_open old) b old.number (Resolve c.args.table c.args.row c.args.seen choice) call.result) gate.linked
    (call.ensures.prepares n.0.disk there choice (is_choice_in c.args.by c.args.row slots) old.waiting (is_open old) (sym gate.open)) in
    may_begin g.D.Disk.state g.D.Disk.images (λ f image left. g.met.D.Disk.only_now (inner_of f) image left) old n.0.disk (Resolve c.args.table c.args.row c.args.seen choice) call.result call.new.devs call.ensures.looks prepares n.0.agenda n.1 c.requires.up

pub returns-clause-does : goal.returns-clause-does
returns-clause-does g c s choice t chosen =
    let old = c.args.self.now in
    let call = c.prepare_by-found in
    let gate = c.gate_of-gate.ensures in
    let there = stands_now g.D.Disk.state g.D.Disk.images old s.disk s.agenda t c.requires.up in
    let prepares = subst (λ (b : Bool). Prepares (λ f. behind g.D.Disk.state f) old.devs old.waiting (is_open old) b old.number (Resolve c.args.table c.args.row c.args.seen choice) call.result) gate.linked
    (call.ensures.prepares s.disk there choice chosen old.waiting (is_open old) (sym gate.open)) in
    c.take_on.ensures.does old s (Resolve c.args.table c.args.row c.args.seen choice) refl t c.requires.up call.ensures.looks prepares

pub returns-clause-node : goal.returns-clause-node
returns-clause-node g c =
    let n = c.requires.node in
    let slots = slots_of (seen n.0.disk) c.args.table c.args.row in
    let choice = choice_in c.args.by c.args.row slots.main slots.conflict in
    does_node g.D.Disk.state g.D.Disk.images n.0 (Resolve c.args.table c.args.row c.args.seen choice) (λ number. facts.Number number) c.args.self.now _ _
    (returns-clause-does g c n.0 choice n.1 (is_choice_in c.args.by c.args.row slots))
