use Rattle.std.proofs.Common.{◌++◌, map, [], refl, sym, ◌∙◌, ap, append-nil}
use Rattle.std.proofs.lemmas.Result.{err_from_is_err_and}
use Rattle.disk_trait.specs.Fuse.{inner_of}
use Rattle.step_tables.specs.ClientMoves.{Next}
use Rattle.step_tables.specs.Facts as facts
use Rattle.step_tables.specs.Lines.{fact_of}
use Rattle.step_tables.specs.Travels.{send_of}
use Rattle.client_node.proofs.Answering.{does_node}
use Rattle.client_node.proofs.Rooms.{devices_up, node_ready}
use Rattle.client_node.proofs.Sent.{by_err, by_short, by_ok}
use Rattle.client_node.proofs.node.ClientNode.pull_now.Goals as goal

pub pull-found-requires-clause-up : goal.pull-found-requires-clause-up
pull-found-requires-clause-up g c = let n = c.requires.node in devices_up g.D.Disk.state c.args.self.now n.0.disk n.0.agenda n.1

pub pull-found-requires-clause-ready : goal.pull-found-requires-clause-ready
pull-found-requires-clause-ready g c = let n = c.requires.node in node_ready g.D.Disk.state c.args.self.now n.0.disk n.0.agenda n.1 c.requires.up

pub returns-in_err-sends-clause-does : goal.returns-in_err-sends-clause-does
returns-in_err-sends-clause-does g c s t =
    let old = c.args.self.now in
    let p = err_from_is_err_and c.from_residual.result c.from_residual.ensures.1 in
    let k = c.in_err-sends.ensures in
    rw (p.1, p.2) (by_err g.D.Disk.state g.D.Disk.images (λ f image left. g.met.D.Disk.only_now (inner_of f) image left) old s.disk (Next c.args.table [] []) (λ shape s. refl) (λ sends. facts.Done) (λ sends. []) (λ sends. map send_of sends.items) (λ value. facts.Done)
    c.pull-found.result c.pull-found.new.devs c.pull-found.ensures.looks c.pull-found.ensures.sends s.agenda t c.requires.up c.in_err-sends.field-0.0 k.same c.settle.new.self k.disk k.other)

pub returns-in_err-send-clause-does : goal.returns-in_err-send-clause-does
returns-in_err-send-clause-does g c s t =
    let old = c.args.self.now in
    let p = err_from_is_err_and c.from_residual-in_err-send.result c.from_residual-in_err-send.ensures.1 in
    let k = c.in_ok-sends.ensures in
    let is = k.other (λ no. cc) in
    let e = c.in_err-send.ensures in
    rw (p.1, p.2) (by_short g.D.Disk.state g.D.Disk.images (λ f image left. g.met.D.Disk.only_now (inner_of f) image left) old s.disk (Next c.args.table [] []) (λ shape s. refl) (λ sends. facts.Done) (λ sends. []) (λ sends. map send_of sends.items) (λ value. facts.Done)
    c.pull-found.result c.pull-found.new.devs c.pull-found.ensures.looks c.pull-found.ensures.sends s.agenda t c.requires.up c.in_ok-sends.sends k.same c.send.new.self (e.devs ∙ ap (λ x. x.devs) is)
    (record {
      number = e.number ∙ ap (λ x. x.number) is;
      linked = e.linked ∙ ap (λ x. x.is_linked) is;
      up = e.up ∙ ap (λ x. x.is_up) is;
      declared = e.declared ∙ ap (λ x. x.is_declared) is;
      told = ap (λ x. map fact_of x.items.items) (e.facts ∙ ap (λ x. x.facts) is);
      sent = ap (map send_of) (e.unsent ∙ ap (λ x. x.messages.items.items) is);
      owed = e.owed ∙ ap (λ x. x.owed) is;
      fact_room = rw (e.facts, is) (λ h. h);
      message_room = λ h. e.kept _ (rw is h);
      more = rw (e.waiting, is) (record { outs = λ key h. h; ready = λ key h. h; conflicts = λ key h. h });
    }))

pub returns-clause-does : goal.returns-clause-does
returns-clause-does g c s t =
    let old = c.args.self.now in
    let k = c.in_ok-sends.ensures in
    let is = k.other (λ no. cc) in
    let e = c.in_ok-send.ensures in
    by_ok g.D.Disk.state g.D.Disk.images (λ f image left. g.met.D.Disk.only_now (inner_of f) image left) old s.disk (Next c.args.table [] []) (λ shape s. refl) (λ sends. facts.Done) (λ sends. []) (λ sends. map send_of sends.items) (λ value. facts.Done)
    c.pull-found.result c.pull-found.new.devs c.pull-found.ensures.looks c.pull-found.ensures.sends s.agenda t c.requires.up c.in_ok-sends.sends _ k.same refl c.send.new.self (e.devs ∙ ap (λ x. x.devs) is)
    (record {
      sent = e.sent ∙ ap (λ x. x ++ map send_of c.in_ok-sends.sends.items) (ap (λ x. map send_of x.messages.items.items) is);
      told = ap (λ x. map fact_of x.items.items) (e.facts ∙ ap (λ x. x.facts) is) ∙ sym (append-nil (map fact_of old.facts.items.items));
      no_facts = e.no_facts;
      no_messages = e.no_messages;
      fact_room = e.fact_room;
      message_room = e.message_room;
      number = e.number ∙ ap (λ x. x.number) is;
      linked = e.linked ∙ ap (λ x. x.is_linked) is;
      up = e.up ∙ ap (λ x. x.is_up) is;
      declared = e.declared ∙ ap (λ x. x.is_declared) is;
      waiting = e.waiting ∙ ap (λ x. x.waiting) is;
    })

pub returns-in_err-sends-clause-node : goal.returns-in_err-sends-clause-node
returns-in_err-sends-clause-node g c = let n = c.requires.node in does_node g.D.Disk.state g.D.Disk.images n.0 (Next c.args.table [] []) (λ value. facts.Done) c.args.self.now _ _ (returns-in_err-sends-clause-does g c n.0 n.1)

pub returns-in_err-send-clause-node : goal.returns-in_err-send-clause-node
returns-in_err-send-clause-node g c = let n = c.requires.node in does_node g.D.Disk.state g.D.Disk.images n.0 (Next c.args.table [] []) (λ value. facts.Done) c.args.self.now _ _ (returns-in_err-send-clause-does g c n.0 n.1)

pub returns-clause-node : goal.returns-clause-node
returns-clause-node g c = let n = c.requires.node in does_node g.D.Disk.state g.D.Disk.images n.0 (Next c.args.table [] []) (λ value. facts.Done) c.args.self.now _ _ (returns-clause-does g c n.0 n.1)
