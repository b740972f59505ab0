use Rattle.std.proofs.Common.{ℕ, Bool, List, refl, sym, subst}
use Rattle.disk_trait.specs.Fuse.{behind, inner_of}
use Rattle.client_journal.specs.Standing.{devs, writes_of}
use Rattle.step_tables.specs.ClientMoves.{Write}
use Rattle.step_tables.specs.Facts as facts
use Rattle.client_node.specs.Phases.{is_open}
use Rattle.client_node.specs.Preparing.{Prepares}
use Rattle.client_node.specs.Requesting.{ArePassed}
use Rattle.client_node.specs.Waiting.{TakesOff}
use Rattle.client_node.proofs.Answering.{does_node}
use Rattle.client_node.proofs.Asked.{stands_now, steady_now}
use Rattle.client_node.proofs.Forgotten.{does_less, passed_over, prepares_less}
use Rattle.client_node.proofs.Opened.{record_spelled}
use Rattle.client_node.proofs.Rooms.{devices_up, node_ready}
use Rattle.client_node.proofs.SyncDone.{node_idle}
use Rattle.client_node.proofs.TakenOn.{may_begin}
use Rattle.client_node.proofs.node.ClientNode.write.Goals as goal

pub prepare_write-found-requires-clause-up : goal.prepare_write-found-requires-clause-up
prepare_write-found-requires-clause-up g c = let n = c.requires.node in devices_up g.D.Disk.state c.args.self.now n.0.disk n.0.agenda n.1

pub prepare_write-found-requires-clause-ready : goal.prepare_write-found-requires-clause-ready
prepare_write-found-requires-clause-ready g c = let n = c.requires.node in node_ready g.D.Disk.state c.args.self.now n.0.disk n.0.agenda n.1 c.requires.up

pub prepare_write-found-requires-clause-idle : goal.prepare_write-found-requires-clause-idle
prepare_write-found-requires-clause-idle g c =
    let n = c.requires.node in
    node_idle g.D.Disk.state g.D.Disk.images (λ f image left. g.met.D.Disk.only_now (inner_of f) image left) c.args.self.now c.args.table n.0.disk n.0.agenda n.1 c.requires.up

pub prepare_write-found-requires-clause-spelled : goal.prepare_write-found-requires-clause-spelled
prepare_write-found-requires-clause-spelled g c =
    let n = c.requires.node in
    let old = c.args.self.now in
    record_spelled old.number (devs (λ f. behind g.D.Disk.state f) old.devs) n.0.disk (stands_now g.D.Disk.state g.D.Disk.images old n.0.disk n.0.agenda n.1 c.requires.up) old.waiting
    (steady_now g.D.Disk.state g.D.Disk.images old n.0.disk n.0.agenda n.1 c.requires.up) c.args.table

pub take_on-requires : goal.take_on-requires
take_on-requires g c =
    let n = c.requires.node in
    let old = c.args.self.now in
    let call = c.prepare_write-found in
    let gate = c.gate_of-gate.ensures in
    let prepares = subst (λ (b : Bool). Prepares (λ f. behind g.D.Disk.state f) old.devs old.waiting (is_open old) b old.number (Write c.args.table c.args.row c.args.content) call.result) gate.linked (call.ensures.prepares (is_open old) (sym gate.open)) in
    may_begin g.D.Disk.state g.D.Disk.images (λ f image left. g.met.D.Disk.only_now (inner_of f) image left) old n.0.disk (Write c.args.table c.args.row c.args.content) call.result call.new.devs call.ensures.looks prepares n.0.agenda n.1
    c.requires.up

pub returns-clause-does : goal.returns-clause-does
returns-clause-does g c s t =
    let st = g.D.Disk.state in
    let im = g.D.Disk.images in
    let old = c.args.self.now in
    let call = c.prepare_write-found in
    let less = c.forget_outs.new.self in
    let gate = c.gate_of-gate.ensures in
    let move = Write c.args.table c.args.row c.args.content in
    let prepares = subst (λ (b : Bool). Prepares (λ f. behind st f) old.devs old.waiting (is_open old) b old.number move call.result) gate.linked (call.ensures.prepares (is_open old) (sym gate.open)) in
    let passed = call.ensures.stale (subst (ArePassed (devs (λ f. behind st f) old.devs) (writes_of old.devs) c.args.table) (sym c.new-stale.ensures.items) tt) in
    let off = subst (λ (rows : List (List ℕ)). TakesOff c.args.table rows old.waiting.outs less.outs) c.as_slice.ensures.value c.forget_outs.ensures.outs in
    let here = passed_over st im (λ f image left. g.met.D.Disk.only_now (inner_of f) image left) old c.requires.up less c.args.table call.new.stale.items passed off c.forget_outs.ensures.ready c.forget_outs.ensures.conflicts in
    does_less st im old less s move (λ number. facts.Number number) c.take_on.new.self c.take_on.result
    (c.take_on.ensures.does (record old { waiting = less }) s move refl (here.client s t) c.requires.up call.ensures.looks
    (prepares_less (λ f. behind st f) old.devs old.waiting less here.more (is_open old) old.is_linked old.number move call.result prepares))

pub returns-clause-node : goal.returns-clause-node
returns-clause-node g c =
    let n = c.requires.node in does_node g.D.Disk.state g.D.Disk.images n.0 (Write c.args.table c.args.row c.args.content) (λ number. facts.Number number) c.args.self.now _ _
    (returns-clause-does g c n.0 n.1)
