use Rattle.std.proofs.Common.{◌++◌, map, refl, ◌∙◌, ap}
use Rattle.std.proofs.lemmas.Result.{err_from_is_err_and}
use Rattle.disk_trait.specs.Fuse.{inner_of}
use Rattle.step_tables.specs.ClientMoves.{Next}
use Rattle.step_tables.specs.Facts as facts
use Rattle.step_tables.specs.Lines.{fact_of}
use Rattle.step_tables.specs.Travels.{send_of}
use Rattle.client_node.proofs.Answering.{does_node}
use Rattle.client_node.proofs.Rooms.{devices_up, node_ready}
use Rattle.client_node.proofs.Sent.{by_err, by_short, by_ok}
use Rattle.client_node.proofs.node.ClientNode.ask_whole.Goals as goal

pub torn_rows-found-requires-clause-up : goal.torn_rows-found-requires-clause-up
torn_rows-found-requires-clause-up g c = let n = c.requires.node in devices_up g.D.Disk.state c.args.self.now n.0.disk n.0.agenda n.1

pub torn_rows-found-requires-clause-ready : goal.torn_rows-found-requires-clause-ready
torn_rows-found-requires-clause-ready g c = let n = c.requires.node in node_ready g.D.Disk.state c.args.self.now n.0.disk n.0.agenda n.1 c.requires.up

pub returns-in_err-torn-clause-does : goal.returns-in_err-torn-clause-does
returns-in_err-torn-clause-does g c s t =
    let old = c.args.self.now in
    let p = err_from_is_err_and c.from_residual.result c.from_residual.ensures.1 in
    let k = c.in_err-torn.ensures in
    rw (p.1, p.2) (by_err g.D.Disk.state g.D.Disk.images (λ f image left. g.met.D.Disk.only_now (inner_of f) image left) old s.disk (Next c.args.table c.args.tears.now c.args.asks.now) (λ shape s. refl) (λ torn. facts.Done) (λ torn. map fact_of torn.facts.items) (λ torn. map send_of torn.requests.items) (λ value. facts.Done)
    c.torn_rows-found.result c.torn_rows-found.new.devs c.torn_rows-found.ensures.looks c.torn_rows-found.ensures.sends s.agenda t c.requires.up c.in_err-torn.field-0.0 k.same c.settle.new.self k.disk k.other)

pub returns-in_err-tell_and_send-clause-does : goal.returns-in_err-tell_and_send-clause-does
returns-in_err-tell_and_send-clause-does g c s t =
    let old = c.args.self.now in
    let p = err_from_is_err_and c.from_residual-in_err-tell_and_send.result c.from_residual-in_err-tell_and_send.ensures.1 in
    let k = c.in_ok-torn.ensures in
    let is = k.other (λ no. cc) in
    let e = c.in_err-tell_and_send.ensures in
    rw (p.1, p.2) (by_short g.D.Disk.state g.D.Disk.images (λ f image left. g.met.D.Disk.only_now (inner_of f) image left) old s.disk (Next c.args.table c.args.tears.now c.args.asks.now) (λ shape s. refl) (λ torn. facts.Done) (λ torn. map fact_of torn.facts.items) (λ torn. map send_of torn.requests.items) (λ value. facts.Done)
    c.torn_rows-found.result c.torn_rows-found.new.devs c.torn_rows-found.ensures.looks c.torn_rows-found.ensures.sends s.agenda t c.requires.up c.in_ok-torn.torn k.same c.tell_and_send.new.self (e.devs ∙ ap (λ x. x.devs) is)
    (record {
      number = e.number ∙ ap (λ x. x.number) is;
      linked = e.linked ∙ ap (λ x. x.is_linked) is;
      up = e.up ∙ ap (λ x. x.is_up) is;
      declared = e.declared ∙ ap (λ x. x.is_declared) is;
      told = ap (map fact_of) (e.untold ∙ ap (λ x. x.facts.items.items) is);
      sent = ap (map send_of) (e.unsent ∙ ap (λ x. x.messages.items.items) is);
      owed = e.owed ∙ ap (λ x. x.owed) is;
      fact_room = λ h. e.facts_kept _ (rw is h);
      message_room = λ h. e.kept _ (rw is h);
      more = rw (e.waiting, is) (record { outs = λ key h. h; ready = λ key h. h; conflicts = λ key h. h });
    }))

pub returns-clause-does : goal.returns-clause-does
returns-clause-does g c s t =
    let old = c.args.self.now in
    let k = c.in_ok-torn.ensures in
    let is = k.other (λ no. cc) in
    let e = c.in_ok-tell_and_send.ensures in
    by_ok g.D.Disk.state g.D.Disk.images (λ f image left. g.met.D.Disk.only_now (inner_of f) image left) old s.disk (Next c.args.table c.args.tears.now c.args.asks.now) (λ shape s. refl) (λ torn. facts.Done) (λ torn. map fact_of torn.facts.items) (λ torn. map send_of torn.requests.items) (λ value. facts.Done)
    c.torn_rows-found.result c.torn_rows-found.new.devs c.torn_rows-found.ensures.looks c.torn_rows-found.ensures.sends s.agenda t c.requires.up c.in_ok-torn.torn _ k.same refl c.tell_and_send.new.self (e.devs ∙ ap (λ x. x.devs) is)
    (record {
      sent = e.sent ∙ ap (λ x. x ++ map send_of c.in_ok-torn.torn.requests.items) (ap (λ x. map send_of x.messages.items.items) is);
      told = e.told ∙ ap (λ x. x ++ map fact_of c.in_ok-torn.torn.facts.items) (ap (λ x. map fact_of x.facts.items.items) is);
      no_facts = e.no_facts;
      no_messages = e.no_messages;
      fact_room = e.fact_room;
      message_room = e.message_room;
      number = e.number ∙ ap (λ x. x.number) is;
      linked = e.linked ∙ ap (λ x. x.is_linked) is;
      up = e.up ∙ ap (λ x. x.is_up) is;
      declared = e.declared ∙ ap (λ x. x.is_declared) is;
      waiting = e.waiting ∙ ap (λ x. x.waiting) is;
    })

pub returns-in_err-torn-clause-node : goal.returns-in_err-torn-clause-node
returns-in_err-torn-clause-node g c = let n = c.requires.node in does_node g.D.Disk.state g.D.Disk.images n.0 (Next c.args.table c.args.tears.now c.args.asks.now) (λ value. facts.Done) c.args.self.now _ _ (returns-in_err-torn-clause-does g c n.0 n.1)

pub returns-in_err-tell_and_send-clause-node : goal.returns-in_err-tell_and_send-clause-node
returns-in_err-tell_and_send-clause-node g c = let n = c.requires.node in does_node g.D.Disk.state g.D.Disk.images n.0 (Next c.args.table c.args.tears.now c.args.asks.now) (λ value. facts.Done) c.args.self.now _ _ (returns-in_err-tell_and_send-clause-does g c n.0 n.1)

pub returns-clause-node : goal.returns-clause-node
returns-clause-node g c = let n = c.requires.node in does_node g.D.Disk.state g.D.Disk.images n.0 (Next c.args.table c.args.tears.now c.args.asks.now) (λ value. facts.Done) c.args.self.now _ _ (returns-clause-does g c n.0 n.1)
