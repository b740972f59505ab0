use Rattle.std.proofs.Common.{◌≡◌, ◌++◌, ℕ, ◌+◌, map, length, [], Some, None, Ok, Err, refl, sym, ◌∙◌, ap, subst}
use Rattle.std.proofs.lemmas.List.{length-map}
use Rattle.std.proofs.lemmas.Result.{err_from_is_err_and}
use Rattle.disk_trait.specs.Fuse.{behind, inner_of}
use Rattle.client_journal.specs.NamedSlots.{IsAtRest}
use Rattle.client_journal.specs.Plan.{IsPlan}
use Rattle.client_journal.specs.Standing.{devs, writes_of, AreUp, IsReady}
use Rattle.step_tables.specs.ClientMoves.{Sync}
use Rattle.step_tables.specs.Facts as facts
use Rattle.step_tables.specs.Lines.{fact_of}
use Rattle.step_tables.specs.Travels.{send_of}
use Rattle.client_node.specs.declared.fault.CallFault.TheVariants as call
use Rattle.client_node.proofs.Answering.{does_node}
use Rattle.client_node.proofs.Rooms.{devices_up, node_ready}
use Rattle.client_node.proofs.SyncDone.{as_count, by_err, may_carry, node_idle}
use Rattle.client_node.proofs.SyncKept.{short_kept, alone_kept, carried_kept}
use Rattle.client_node.proofs.node.ClientNode.sync_now.Goals as goal

pub sync-found-requires-clause-up : goal.sync-found-requires-clause-up
sync-found-requires-clause-up g c = let n = c.requires.node in devices_up g.D.Disk.state c.args.self.now n.0.disk n.0.agenda n.1

pub sync-found-requires-clause-ready : goal.sync-found-requires-clause-ready
sync-found-requires-clause-ready g c = let n = c.requires.node in node_ready g.D.Disk.state c.args.self.now n.0.disk n.0.agenda n.1 c.requires.up

pub sync-found-requires-clause-idle : goal.sync-found-requires-clause-idle
sync-found-requires-clause-idle g c idle =
    let n = c.requires.node in
    node_idle g.D.Disk.state g.D.Disk.images (λ f image left. g.met.D.Disk.only_now (inner_of f) image left) c.args.self.now c.args.table n.0.disk n.0.agenda n.1 c.requires.up idle

pub returns-in_err-synced-clause-does : goal.returns-in_err-synced-clause-does
returns-in_err-synced-clause-does g c s t =
    let p = err_from_is_err_and c.from_residual.result c.from_residual.ensures.1 in
    let k = c.sync-found.ensures in
    let e = c.in_err-synced.ensures in
    rw (p.1, p.2) (by_err g.D.Disk.state g.D.Disk.images (λ f image left. g.met.D.Disk.only_now (inner_of f) image left) c.args.self.now c.args.table s.disk c.sync-found.result c.sync-found.new.devs k.looks k.sends k.idle s.agenda t c.requires.up c.in_err-synced.field-0.0 e.same c.settle.new.self e.disk e.other)

pub returns-in_err-send-in-None-clause-does : goal.returns-in_err-send-in-None-clause-does
returns-in_err-send-in-None-clause-does g c s t =
    let p = err_from_is_err_and c.from_residual-in_err-send-in-None.result c.from_residual-in_err-send-in-None.ensures.1 in
    let k = c.sync-found.ensures in
    let is = c.in_ok-synced.ensures.other (λ no. cc) in
    let e = c.in_err-send-in-None.ensures in
    rw (p.1, p.2) (short_kept g.D.Disk.state g.D.Disk.images (λ f image left. g.met.D.Disk.only_now (inner_of f) image left) c.args.self.now c.args.table c.sync-found.result c.sync-found.new.devs k.looks k.sends k.idle c.requires.up c.in_ok-synced.synced c.in_ok-synced.ensures.same
    c.settle.new.self is c.forget.new.self c.forget.ensures.outs c.forget.ensures.ready c.forget.ensures.conflicts s.disk s.agenda t c.send.new.self (e.devs ∙ ap (λ x. x.devs) is)
    (record {
      number = e.number ∙ ap (λ x. x.number) is;
      linked = e.linked ∙ ap (λ x. x.is_linked) is;
      up = e.up ∙ ap (λ x. x.is_up) is;
      declared = e.declared ∙ ap (λ x. x.is_declared) is;
      told = ap (λ x. map fact_of x.items.items) (e.facts ∙ ap (λ x. x.facts) is);
      sent = ap (map send_of) (e.unsent ∙ ap (λ x. x.messages.items.items) is);
      owed = e.owed ∙ ap (λ x. x.owed) is;
      fact_room = rw (e.facts, is) (λ h. h);
      message_room = λ h. e.kept _ (rw is h);
      more = rw e.waiting (record { outs = λ key h. h; ready = λ key h. h; conflicts = λ key h. h });
    }))

pub returns-in-None-clause-does : goal.returns-in-None-clause-does
returns-in-None-clause-does g c s t =
    let k = c.sync-found.ensures in
    let x = c.in_ok-synced.synced in
    let is = c.in_ok-synced.ensures.other (λ no. cc) in
    let e = c.in_ok-send-in-None.ensures in
    alone_kept g.D.Disk.state g.D.Disk.images (λ f image left. g.met.D.Disk.only_now (inner_of f) image left) c.args.self.now c.args.table c.sync-found.result c.sync-found.new.devs k.looks k.sends k.idle c.requires.up c.in_ok-synced.synced c.in_ok-synced.ensures.same
    c.settle.new.self is c.forget.new.self c.forget.ensures.outs c.forget.ensures.ready c.forget.ensures.conflicts s.disk s.agenda t c.in-None.is _ (c.len-count.ensures ∙ (x.again.ok.0 ∙ sym (length-map x.again.items send_of))) c.send.new.self (e.devs ∙ ap (λ x. x.devs) is)
    (record {
      sent = e.sent ∙ ap (λ y. y ++ map send_of x.again.items) (ap (λ y. map send_of y.messages.items.items) is);
      told = ap (λ y. map fact_of y.items.items) (e.facts ∙ ap (λ y. y.facts) is);
      no_facts = e.no_facts;
      no_messages = e.no_messages;
      fact_room = e.fact_room;
      message_room = e.message_room;
      number = e.number ∙ ap (λ y. y.number) is;
      linked = e.linked ∙ ap (λ y. y.is_linked) is;
      up = e.up ∙ ap (λ y. y.is_up) is;
      declared = e.declared ∙ ap (λ y. y.is_declared) is;
      waiting = e.waiting;
    })

pub returns-in_err-carry_out-in-Some-clause-does : goal.returns-in_err-carry_out-in-Some-clause-does
returns-in_err-carry_out-in-Some-clause-does g c s t =
    let p = err_from_is_err_and c.from_residual-in_err-carry_out-in-Some.result c.from_residual-in_err-carry_out-in-Some.ensures.1 in
    let k = c.sync-found.ensures in
    let is = c.in_ok-synced.ensures.other (λ no. cc) in
    rw (p.1, p.2) (carried_kept g.D.Disk.state g.D.Disk.images (λ f image left. g.met.D.Disk.only_now (inner_of f) image left) c.args.self.now c.args.table c.sync-found.result c.sync-found.new.devs k.looks k.sends k.idle c.requires.up c.in_ok-synced.synced c.in_ok-synced.ensures.same
    c.settle.new.self is c.forget.new.self c.forget.ensures.outs c.forget.ensures.ready c.forget.ensures.conflicts s.disk s.agenda t c.in-Some.planned c.in-Some.is c.carry_out.new.self (Err c.in_err-carry_out-in-Some.field-0.0) c.in_err-carry_out-in-Some.ensures.carries _ refl (Err c.in_err-carry_out-in-Some.field-0.0) (λ e same. as_count c.in_err-carry_out-in-Some.field-0.0 e (Err c.in_err-carry_out-in-Some.field-0.0) refl same (Err c.in_err-carry_out-in-Some.field-0.0) refl) (λ same. absurd cc))

pub returns-clause-does : goal.returns-clause-does
returns-clause-does g c s t =
    let k = c.sync-found.ensures in
    let x = c.in_ok-synced.synced in
    let is = c.in_ok-synced.ensures.other (λ no. cc) in
    carried_kept g.D.Disk.state g.D.Disk.images (λ f image left. g.met.D.Disk.only_now (inner_of f) image left) c.args.self.now c.args.table c.sync-found.result c.sync-found.new.devs k.looks k.sends k.idle c.requires.up c.in_ok-synced.synced c.in_ok-synced.ensures.same
    c.settle.new.self is c.forget.new.self c.forget.ensures.outs c.forget.ensures.ready c.forget.ensures.conflicts s.disk s.agenda t c.in-Some.planned c.in-Some.is c.carry_out.new.self (Ok tt) c.in_ok-carry_out-in-Some.ensures.carries _ (ap (λ n. n + 1) (c.len-count.ensures ∙ (x.again.ok.0 ∙ sym (length-map x.again.items send_of)))) _ (λ e same. absurd cc) (λ same. refl)

pub carry_out-requires-clause-up : goal.carry_out-requires-clause-up
carry_out-requires-clause-up g c =
    let n = c.requires.node in
    let k = c.sync-found.ensures in
    let is = c.in_ok-synced.ensures.other (λ no. cc) in
    subst (λ d. AreUp d) (sym (ap (λ y. y.devs) is)) (may_carry g.D.Disk.state g.D.Disk.images (λ f image left. g.met.D.Disk.only_now (inner_of f) image left) c.args.self.now c.args.table n.0.disk c.sync-found.result c.sync-found.new.devs k.looks k.sends k.idle n.0.agenda n.1 c.requires.up c.in_ok-synced.synced c.in_ok-synced.ensures.same c.in-Some.planned c.in-Some.is).up

pub carry_out-requires-clause-idle : goal.carry_out-requires-clause-idle
carry_out-requires-clause-idle g c =
    let n = c.requires.node in
    let k = c.sync-found.ensures in
    let is = c.in_ok-synced.ensures.other (λ no. cc) in
    subst (λ d. writes_of d ≡ []) (sym (ap (λ y. y.devs) is)) (may_carry g.D.Disk.state g.D.Disk.images (λ f image left. g.met.D.Disk.only_now (inner_of f) image left) c.args.self.now c.args.table n.0.disk c.sync-found.result c.sync-found.new.devs k.looks k.sends k.idle n.0.agenda n.1 c.requires.up c.in_ok-synced.synced c.in_ok-synced.ensures.same c.in-Some.planned c.in-Some.is).idle

pub carry_out-requires-clause-ready : goal.carry_out-requires-clause-ready
carry_out-requires-clause-ready g c =
    let n = c.requires.node in
    let k = c.sync-found.ensures in
    let is = c.in_ok-synced.ensures.other (λ no. cc) in
    subst (λ d. IsReady (λ f. behind g.D.Disk.state f) d (writes_of d)) (sym (ap (λ y. y.devs) is)) (may_carry g.D.Disk.state g.D.Disk.images (λ f image left. g.met.D.Disk.only_now (inner_of f) image left) c.args.self.now c.args.table n.0.disk c.sync-found.result c.sync-found.new.devs k.looks k.sends k.idle n.0.agenda n.1 c.requires.up c.in_ok-synced.synced c.in_ok-synced.ensures.same c.in-Some.planned c.in-Some.is).ready

pub carry_out-requires-clause-rests : goal.carry_out-requires-clause-rests
carry_out-requires-clause-rests g c =
    let n = c.requires.node in
    let k = c.sync-found.ensures in
    let is = c.in_ok-synced.ensures.other (λ no. cc) in
    subst (λ d. IsAtRest (devs (λ f. behind g.D.Disk.state f) d)) (sym (ap (λ y. y.devs) is)) (may_carry g.D.Disk.state g.D.Disk.images (λ f image left. g.met.D.Disk.only_now (inner_of f) image left) c.args.self.now c.args.table n.0.disk c.sync-found.result c.sync-found.new.devs k.looks k.sends k.idle n.0.agenda n.1 c.requires.up c.in_ok-synced.synced c.in_ok-synced.ensures.same c.in-Some.planned c.in-Some.is).rests

pub carry_out-requires-clause-plan : goal.carry_out-requires-clause-plan
carry_out-requires-clause-plan g c =
    let n = c.requires.node in
    let k = c.sync-found.ensures in
    let is = c.in_ok-synced.ensures.other (λ no. cc) in
    subst (λ d. IsPlan (devs (λ f. behind g.D.Disk.state f) d) c.in-Some.planned.plan) (sym (ap (λ y. y.devs) is)) (may_carry g.D.Disk.state g.D.Disk.images (λ f image left. g.met.D.Disk.only_now (inner_of f) image left) c.args.self.now c.args.table n.0.disk c.sync-found.result c.sync-found.new.devs k.looks k.sends k.idle n.0.agenda n.1 c.requires.up c.in_ok-synced.synced c.in_ok-synced.ensures.same c.in-Some.planned c.in-Some.is).plan

pub returns-in_err-synced-clause-node : goal.returns-in_err-synced-clause-node
returns-in_err-synced-clause-node g c = let n = c.requires.node in does_node g.D.Disk.state g.D.Disk.images n.0 (Sync c.args.table) (λ count. facts.Number count) c.args.self.now _ _ (returns-in_err-synced-clause-does g c n.0 n.1)

pub returns-in_err-send-in-None-clause-node : goal.returns-in_err-send-in-None-clause-node
returns-in_err-send-in-None-clause-node g c = let n = c.requires.node in does_node g.D.Disk.state g.D.Disk.images n.0 (Sync c.args.table) (λ count. facts.Number count) c.args.self.now _ _ (returns-in_err-send-in-None-clause-does g c n.0 n.1)

pub returns-in-None-clause-node : goal.returns-in-None-clause-node
returns-in-None-clause-node g c = let n = c.requires.node in does_node g.D.Disk.state g.D.Disk.images n.0 (Sync c.args.table) (λ count. facts.Number count) c.args.self.now _ _ (returns-in-None-clause-does g c n.0 n.1)

pub returns-in_err-carry_out-in-Some-clause-node : goal.returns-in_err-carry_out-in-Some-clause-node
returns-in_err-carry_out-in-Some-clause-node g c = let n = c.requires.node in does_node g.D.Disk.state g.D.Disk.images n.0 (Sync c.args.table) (λ count. facts.Number count) c.args.self.now _ _ (returns-in_err-carry_out-in-Some-clause-does g c n.0 n.1)

pub returns-clause-node : goal.returns-clause-node
returns-clause-node g c = let n = c.requires.node in does_node g.D.Disk.state g.D.Disk.images n.0 (Sync c.args.table) (λ count. facts.Number count) c.args.self.now _ _ (returns-clause-does g c n.0 n.1)
