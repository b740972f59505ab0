use Rattle.std.proofs.Common.{◌≡◌, ◌++◌, [], map, Some, None, Ok, Err, refl, sym, ◌∙◌, ap, subst}
use Rattle.std.proofs.lemmas.Result.{err_from_is_err_and}
use Rattle.disk_trait.specs.Fuse.{behind, inner_of}
use Rattle.client_journal.specs.NamedSlots.{IsAtRest}
use Rattle.client_journal.specs.Plan.{IsPlan}
use Rattle.client_journal.specs.Standing.{devs, writes_of, AreUp, IsReady}
use Rattle.step_tables.specs.Lines.{fact_of}
use Rattle.step_tables.specs.Travels.{message_of, send_of}
use Rattle.client_node.specs.Carrying.{Carries}
use Rattle.client_node.proofs.Delivered.{by_offline, by_busy, node_idle, by_fault, by_ignored, by_sent, by_short, by_carried, carry_idle, carry_plan, takes_node, fits_or_not}
use Rattle.client_node.proofs.Rooms.{devices_up, node_ready}
use Rattle.client_node.proofs.node.ClientNode.deliver.Goals as goal

pub returns-in_err-check_link-clause-takes : goal.returns-in_err-check_link-clause-takes
returns-in_err-check_link-clause-takes g c s t =
    let p = err_from_is_err_and c.from_residual.result c.from_residual.ensures.1 in
    let b = c.in_err-check_link.ensures.down in
    rw (p.1, p.2) (by_offline g.D.Disk.state g.D.Disk.images (λ f image left. g.met.D.Disk.only_now (inner_of f) image left) c.args.self.now c.args.message s.disk s.agenda t c.requires.up c.in_err-check_link.field-0.0 b.0 b.1)

pub check_idle-requires-clause-up : goal.check_idle-requires-clause-up
check_idle-requires-clause-up g c = let n = c.requires.node in devices_up g.D.Disk.state c.args.self.now n.0.disk n.0.agenda n.1

pub check_idle-requires-clause-ready : goal.check_idle-requires-clause-ready
check_idle-requires-clause-ready g c = let n = c.requires.node in node_ready g.D.Disk.state c.args.self.now n.0.disk n.0.agenda n.1 c.requires.up

pub returns-in_err-check_idle-clause-takes : goal.returns-in_err-check_idle-clause-takes
returns-in_err-check_idle-clause-takes g c s t =
    let p = err_from_is_err_and c.from_residual-in_err-check_idle.result c.from_residual-in_err-check_idle.ensures.1 in
    let b = c.in_err-check_idle.ensures.busy in
    rw (p.1, p.2) (by_busy g.D.Disk.state g.D.Disk.images (λ f image left. g.met.D.Disk.only_now (inner_of f) image left) c.args.self.now c.args.message s.disk s.agenda t c.requires.up c.in_err-check_idle.field-0.0 c.in_ok-check_link.ensures.up b.0 b.1)

pub prepare-found-requires-clause-up : goal.prepare-found-requires-clause-up
prepare-found-requires-clause-up g c = let n = c.requires.node in devices_up g.D.Disk.state c.args.self.now n.0.disk n.0.agenda n.1

pub prepare-found-requires-clause-ready : goal.prepare-found-requires-clause-ready
prepare-found-requires-clause-ready g c = let n = c.requires.node in node_ready g.D.Disk.state c.args.self.now n.0.disk n.0.agenda n.1 c.requires.up

pub prepare-found-requires-clause-idle : goal.prepare-found-requires-clause-idle
prepare-found-requires-clause-idle g c =
    let n = c.requires.node in
    node_idle g.D.Disk.state g.D.Disk.images (λ f image left. g.met.D.Disk.only_now (inner_of f) image left) c.args.self.now c.args.message n.0.disk n.0.agenda n.1 c.requires.up c.in_ok-check_idle.ensures.idle

pub returns-in_err-reaction-clause-takes : goal.returns-in_err-reaction-clause-takes
returns-in_err-reaction-clause-takes g c s t =
    let p = err_from_is_err_and c.from_residual-in_err-reaction.result c.from_residual-in_err-reaction.ensures.1 in
    let k = c.prepare-found.ensures in
    let e = c.in_err-reaction.ensures in
    rw (p.1, p.2) (by_fault g.D.Disk.state g.D.Disk.images (λ f image left. g.met.D.Disk.only_now (inner_of f) image left) c.args.self.now c.args.message c.in_ok-check_link.ensures.up c.in_ok-check_idle.ensures.idle c.prepare-found.result c.prepare-found.new.devs k.looks s.disk s.agenda t c.requires.up
    c.in_err-reaction.field-0.0 e.same k.refused c.settle.new.self e.disk e.other)

pub returns-in-Nothing-clause-takes : goal.returns-in-Nothing-clause-takes
returns-in-Nothing-clause-takes g c s t =
    let k = c.prepare-found.ensures in
    let e = c.in_ok-reaction.ensures in
    by_ignored g.D.Disk.state g.D.Disk.images (λ f image left. g.met.D.Disk.only_now (inner_of f) image left) c.args.self.now c.args.message c.in_ok-check_link.ensures.up c.in_ok-check_idle.ensures.idle c.prepare-found.result c.prepare-found.new.devs k.looks s.disk s.agenda t c.requires.up
    c.in_ok-reaction.reaction e.same k.reacts c.in-Nothing.is c.settle.new.self (e.other (λ no. cc))

pub returns-in_err-send-in-Sends-clause-takes : goal.returns-in_err-send-in-Sends-clause-takes
returns-in_err-send-in-Sends-clause-takes g c s t =
    let p = err_from_is_err_and c.from_residual-in_err-send-in-Sends.result c.from_residual-in_err-send-in-Sends.ensures.1 in
    let k = c.prepare-found.ensures in
    let is = c.in_ok-reaction.ensures.other (λ no. cc) in
    let e = c.in_err-send-in-Sends.ensures in
    rw (p.1, p.2) (by_short g.D.Disk.state g.D.Disk.images (λ f image left. g.met.D.Disk.only_now (inner_of f) image left) c.args.self.now c.args.message c.in_ok-check_link.ensures.up c.in_ok-check_idle.ensures.idle c.prepare-found.result c.prepare-found.new.devs k.looks s.disk s.agenda t c.requires.up
    c.in_ok-reaction.reaction c.in_ok-reaction.ensures.same c.send.new.self (e.devs ∙ ap (λ x. x.devs) is)
    (record {
      number = e.number ∙ ap (λ x. x.number) is;
      linked = e.linked ∙ ap (λ x. x.is_linked) is;
      up = e.up ∙ ap (λ x. x.is_up) is;
      declared = e.declared ∙ ap (λ x. x.is_declared) is;
      told = ap (λ x. map fact_of x.items.items) (e.facts ∙ ap (λ x. x.facts) is);
      sent = ap (map send_of) (e.unsent ∙ ap (λ x. x.messages.items.items) is);
      owed = e.owed ∙ ap (λ x. x.owed) is;
      fact_room = rw (e.facts, is) (λ h. h);
      message_room = λ h. e.kept _ (rw is h);
      more = rw (e.waiting, is) (record { outs = λ key h. h; ready = λ key h. h; conflicts = λ key h. h });
    }))

pub returns-in-Sends-clause-takes : goal.returns-in-Sends-clause-takes
returns-in-Sends-clause-takes g c s t =
    let k = c.prepare-found.ensures in
    let is = c.in_ok-reaction.ensures.other (λ no. cc) in
    let e = c.in_ok-send-in-Sends.ensures in
    by_sent g.D.Disk.state g.D.Disk.images (λ f image left. g.met.D.Disk.only_now (inner_of f) image left) c.args.self.now c.args.message c.in_ok-check_link.ensures.up c.in_ok-check_idle.ensures.idle c.prepare-found.result c.prepare-found.new.devs k.looks s.disk s.agenda t c.requires.up
    c.in_ok-reaction.reaction c.in_ok-reaction.ensures.same k.reacts c.in-Sends.sends c.in-Sends.is c.send.new.self (e.devs ∙ ap (λ x. x.devs) is)
    (record {
      sent = e.sent ∙ ap (λ y. y ++ map send_of c.in-Sends.sends.items) (ap (λ y. map send_of y.messages.items.items) is);
      told = ap (λ y. map fact_of y.items.items) (e.facts ∙ ap (λ y. y.facts) is);
      no_facts = e.no_facts;
      no_messages = e.no_messages;
      fact_room = e.fact_room;
      message_room = e.message_room;
      number = e.number ∙ ap (λ y. y.number) is;
      linked = e.linked ∙ ap (λ y. y.is_linked) is;
      up = e.up ∙ ap (λ y. y.is_up) is;
      declared = e.declared ∙ ap (λ y. y.is_declared) is;
      waiting = e.waiting ∙ ap (λ y. y.waiting) is;
    })

pub returns-clause-takes : goal.returns-clause-takes
returns-clause-takes g c s t =
    let k = c.prepare-found.ensures in
    let e = c.in_ok-reaction.ensures in
    by_carried g.D.Disk.state g.D.Disk.images (λ f image left. g.met.D.Disk.only_now (inner_of f) image left) c.args.self.now c.args.message c.in_ok-check_link.ensures.up c.in_ok-check_idle.ensures.idle c.prepare-found.result c.prepare-found.new.devs k.looks s.disk s.agenda t c.requires.up
    c.in_ok-reaction.reaction e.same k.reacts c.in-Begins.planned c.in-Begins.is c.carry_out.result c.settle.new.self c.carry_out.new.self (e.other (λ no. cc)) (subst (λ l. Carries g.D.Disk.state g.D.Disk.images c.settle.new.self c.carry_out.new.self c.in-Begins.planned l c.carry_out.result) (ap (map send_of) c.new-none.ensures.items) c.carry_out.ensures.carries)

pub carry_out-requires-clause-up : goal.carry_out-requires-clause-up
carry_out-requires-clause-up g c =
    let n = c.requires.node in
    let e = c.in_ok-reaction.ensures in
    subst (λ d. AreUp d) (sym (ap (λ y. y.devs) (e.other (λ no. cc)))) (carry_idle g.D.Disk.state g.D.Disk.images (λ f image left. g.met.D.Disk.only_now (inner_of f) image left) c.args.self.now c.args.message c.in_ok-check_link.ensures.up c.in_ok-check_idle.ensures.idle c.prepare-found.result c.prepare-found.new.devs c.prepare-found.ensures.looks n.0.disk n.0.agenda n.1 c.requires.up c.in_ok-reaction.reaction e.same).0

pub carry_out-requires-clause-idle : goal.carry_out-requires-clause-idle
carry_out-requires-clause-idle g c =
    let n = c.requires.node in
    let e = c.in_ok-reaction.ensures in
    subst (λ d. writes_of d ≡ []) (sym (ap (λ y. y.devs) (e.other (λ no. cc)))) (carry_idle g.D.Disk.state g.D.Disk.images (λ f image left. g.met.D.Disk.only_now (inner_of f) image left) c.args.self.now c.args.message c.in_ok-check_link.ensures.up c.in_ok-check_idle.ensures.idle c.prepare-found.result c.prepare-found.new.devs c.prepare-found.ensures.looks n.0.disk n.0.agenda n.1 c.requires.up c.in_ok-reaction.reaction e.same).1

pub carry_out-requires-clause-ready : goal.carry_out-requires-clause-ready
carry_out-requires-clause-ready g c =
    let n = c.requires.node in
    let e = c.in_ok-reaction.ensures in
    subst (λ d. IsReady (λ f. behind g.D.Disk.state f) d (writes_of d)) (sym (ap (λ y. y.devs) (e.other (λ no. cc)))) (carry_idle g.D.Disk.state g.D.Disk.images (λ f image left. g.met.D.Disk.only_now (inner_of f) image left) c.args.self.now c.args.message c.in_ok-check_link.ensures.up c.in_ok-check_idle.ensures.idle c.prepare-found.result c.prepare-found.new.devs c.prepare-found.ensures.looks n.0.disk n.0.agenda n.1 c.requires.up c.in_ok-reaction.reaction e.same).2

pub carry_out-requires-clause-rests : goal.carry_out-requires-clause-rests
carry_out-requires-clause-rests g c =
    let n = c.requires.node in
    let e = c.in_ok-reaction.ensures in
    subst (λ d. IsAtRest (devs (λ f. behind g.D.Disk.state f) d)) (sym (ap (λ y. y.devs) (e.other (λ no. cc)))) (carry_idle g.D.Disk.state g.D.Disk.images (λ f image left. g.met.D.Disk.only_now (inner_of f) image left) c.args.self.now c.args.message c.in_ok-check_link.ensures.up c.in_ok-check_idle.ensures.idle c.prepare-found.result c.prepare-found.new.devs c.prepare-found.ensures.looks n.0.disk n.0.agenda n.1 c.requires.up c.in_ok-reaction.reaction e.same).3

pub carry_out-requires-clause-plan : goal.carry_out-requires-clause-plan
carry_out-requires-clause-plan g c =
    let n = c.requires.node in
    let e = c.in_ok-reaction.ensures in
    subst (λ d. IsPlan (devs (λ f. behind g.D.Disk.state f) d) c.in-Begins.planned.plan) (sym (ap (λ y. y.devs) (e.other (λ no. cc)))) (carry_plan g.D.Disk.state g.D.Disk.images (λ f image left. g.met.D.Disk.only_now (inner_of f) image left) c.args.self.now c.args.message c.in_ok-check_link.ensures.up c.in_ok-check_idle.ensures.idle c.prepare-found.result c.prepare-found.new.devs c.prepare-found.ensures.looks n.0.disk n.0.agenda n.1 c.requires.up c.in-Begins.planned (ap (λ o. Ok o) (sym c.in-Begins.is) ∙ e.same) c.prepare-found.ensures.reacts)

pub returns-in_err-check_link-clause-node : goal.returns-in_err-check_link-clause-node
returns-in_err-check_link-clause-node g c = let n = c.requires.node in takes_node g.D.Disk.state g.D.Disk.images n.0 (message_of c.args.message) c.args.self.now _ _ (returns-in_err-check_link-clause-takes g c n.0 n.1) (fits_or_not n.0 (message_of c.args.message))

pub returns-in_err-check_idle-clause-node : goal.returns-in_err-check_idle-clause-node
returns-in_err-check_idle-clause-node g c = let n = c.requires.node in takes_node g.D.Disk.state g.D.Disk.images n.0 (message_of c.args.message) c.args.self.now _ _ (returns-in_err-check_idle-clause-takes g c n.0 n.1) (fits_or_not n.0 (message_of c.args.message))

pub returns-in_err-reaction-clause-node : goal.returns-in_err-reaction-clause-node
returns-in_err-reaction-clause-node g c = let n = c.requires.node in takes_node g.D.Disk.state g.D.Disk.images n.0 (message_of c.args.message) c.args.self.now _ _ (returns-in_err-reaction-clause-takes g c n.0 n.1) (fits_or_not n.0 (message_of c.args.message))

pub returns-in-Nothing-clause-node : goal.returns-in-Nothing-clause-node
returns-in-Nothing-clause-node g c = let n = c.requires.node in takes_node g.D.Disk.state g.D.Disk.images n.0 (message_of c.args.message) c.args.self.now _ _ (returns-in-Nothing-clause-takes g c n.0 n.1) (fits_or_not n.0 (message_of c.args.message))

pub returns-clause-node : goal.returns-clause-node
returns-clause-node g c = let n = c.requires.node in takes_node g.D.Disk.state g.D.Disk.images n.0 (message_of c.args.message) c.args.self.now _ _ (returns-clause-takes g c n.0 n.1) (fits_or_not n.0 (message_of c.args.message))

pub returns-in_err-send-in-Sends-clause-node : goal.returns-in_err-send-in-Sends-clause-node
returns-in_err-send-in-Sends-clause-node g c = let n = c.requires.node in takes_node g.D.Disk.state g.D.Disk.images n.0 (message_of c.args.message) c.args.self.now _ _ (returns-in_err-send-in-Sends-clause-takes g c n.0 n.1) (fits_or_not n.0 (message_of c.args.message))

pub returns-in-Sends-clause-node : goal.returns-in-Sends-clause-node
returns-in-Sends-clause-node g c = let n = c.requires.node in takes_node g.D.Disk.state g.D.Disk.images n.0 (message_of c.args.message) c.args.self.now _ _ (returns-in-Sends-clause-takes g c n.0 n.1) (fits_or_not n.0 (message_of c.args.message))
