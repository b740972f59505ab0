use Rattle.std.proofs.Common.{Bool, refl, sym, subst}
use Rattle.disk_trait.specs.Fuse.{behind, inner_of}
use Rattle.conflicts.specs.declared.pair.Choice.{Choice}
use Rattle.client_journal.specs.Standing.{devs}
use Rattle.step_tables.specs.ClientMoves.{Resolve, slots_of, seen}
use Rattle.step_tables.specs.Facts as facts
use Rattle.client_node.specs.Does.{Does}
use Rattle.client_node.specs.Phases.{is_open}
use Rattle.client_node.specs.Preparing.{Prepares}
use Rattle.client_node.proofs.Answering.{does_node}
use Rattle.client_node.proofs.Asked.{stands_now, steady_now}
use Rattle.client_node.proofs.MadeChoices.{any_choice, by_answer_then}
use Rattle.client_node.proofs.Opened.{record_spelled}
use Rattle.client_node.proofs.Rooms.{devices_up, node_ready}
use Rattle.client_node.proofs.TakenOn.{may_begin}
use Rattle.client_node.proofs.node.ClientNode.resolve_with.Goals as goal

pub prepare_with-found-requires-clause-up : goal.prepare_with-found-requires-clause-up
prepare_with-found-requires-clause-up g c = let n = c.requires.node in devices_up g.D.Disk.state c.args.self.now n.0.disk n.0.agenda n.1

pub prepare_with-found-requires-clause-ready : goal.prepare_with-found-requires-clause-ready
prepare_with-found-requires-clause-ready g c = let n = c.requires.node in node_ready g.D.Disk.state c.args.self.now n.0.disk n.0.agenda n.1 c.requires.up

pub prepare_with-found-requires-clause-spelled : goal.prepare_with-found-requires-clause-spelled
prepare_with-found-requires-clause-spelled g c =
    let n = c.requires.node in
    let old = c.args.self.now in
    record_spelled old.number (devs (λ f. behind g.D.Disk.state f) old.devs) n.0.disk (stands_now g.D.Disk.state g.D.Disk.images old n.0.disk n.0.agenda n.1 c.requires.up) old.waiting
    (steady_now g.D.Disk.state g.D.Disk.images old n.0.disk n.0.agenda n.1 c.requires.up) c.args.table

pub prepare_with-found-requires-clause-fits : goal.prepare_with-found-requires-clause-fits
prepare_with-found-requires-clause-fits g c =
    let n = c.requires.node in
    (n.0.disk, stands_now g.D.Disk.state g.D.Disk.images c.args.self.now n.0.disk n.0.agenda n.1 c.requires.up, c.requires.fits n.0 n.1)

pub take_on-requires : goal.take_on-requires
take_on-requires g c =
    let n = c.requires.node in
    let old = c.args.self.now in
    let call = c.prepare_with-found in
    let gate = c.gate_of-gate.ensures in
    let slots = slots_of (seen n.0.disk) c.args.table c.args.row in
    let there = stands_now g.D.Disk.state g.D.Disk.images old n.0.disk n.0.agenda n.1 c.requires.up in
    let P : Bool → Choice → Type 0 = λ b choice. Prepares (λ f. behind g.D.Disk.state f) old.devs old.waiting (is_open old) b old.number (Resolve c.args.table c.args.row c.args.seen choice) call.result in
    let some = any_choice (g.R.Resolver.answers c.args.by.now) c.args.row slots call.result call.result (P c.gate_of-gate.result.is_linked) (P c.gate_of-gate.result.is_linked) (call.ensures.prepares n.0.disk there old.waiting (is_open old) (sym gate.open)) in
    may_begin g.D.Disk.state g.D.Disk.images (λ f image left. g.met.D.Disk.only_now (inner_of f) image left) old n.0.disk (Resolve c.args.table c.args.row c.args.seen some.0) call.result call.new.devs call.ensures.looks
    (subst (λ (b : Bool). P b some.0) gate.linked some.1) n.0.agenda n.1 c.requires.up

pub returns-clause-does : goal.returns-clause-does
returns-clause-does g c s t =
    let old = c.args.self.now in
    let call = c.prepare_with-found in
    let gate = c.gate_of-gate.ensures in
    let slots = slots_of (seen s.disk) c.args.table c.args.row in
    let there = stands_now g.D.Disk.state g.D.Disk.images old s.disk s.agenda t c.requires.up in
    let P : Bool → Choice → Type 0 = λ b choice. Prepares (λ f. behind g.D.Disk.state f) old.devs old.waiting (is_open old) b old.number (Resolve c.args.table c.args.row c.args.seen choice) call.result in
    let Q : Choice → Type 0 = λ choice. Does g.D.Disk.state g.D.Disk.images s (Resolve c.args.table c.args.row c.args.seen choice) (λ number. facts.Number number) old c.take_on.new.self c.take_on.result in
    by_answer_then (g.R.Resolver.answers c.args.by.now) c.args.row slots call.result c.take_on.result (P c.gate_of-gate.result.is_linked) Q c.take_on.ensures.refused
    (λ choice prepares. c.take_on.ensures.does old s (Resolve c.args.table c.args.row c.args.seen choice) refl t c.requires.up call.ensures.looks (subst (λ (b : Bool). P b choice) gate.linked prepares))
    (call.ensures.prepares s.disk there old.waiting (is_open old) (sym gate.open))

pub returns-clause-node : goal.returns-clause-node
returns-clause-node g c =
    let n = c.requires.node in
    let old = c.args.self.now in
    let slots = slots_of (seen n.0.disk) c.args.table c.args.row in
    let Q : Choice → Type 0 = λ choice. Does g.D.Disk.state g.D.Disk.images n.0 (Resolve c.args.table c.args.row c.args.seen choice) (λ number. facts.Number number) old c.take_on.new.self c.take_on.result in
    let some = any_choice (g.R.Resolver.answers c.args.by.now) c.args.row slots c.take_on.result c.take_on.result Q Q (returns-clause-does g c n.0 n.1) in
    does_node g.D.Disk.state g.D.Disk.images n.0 (Resolve c.args.table c.args.row c.args.seen some.0) (λ number. facts.Number number) old _ _ some.1
