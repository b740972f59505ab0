use Rattle.std.proofs.Common.{◌≡◌, map, refl, ap}
use Rattle.disk_trait.specs.Fuse.{inner_of}
use Rattle.store_commit.specs.Standing.{writes_of}
use Rattle.step_tables.specs.Travels.{send_of}
use Rattle.store_node.specs.Due.{fact_of, told_at, sent_at, is_last_of}
use Rattle.store_node.proofs.Following.{last_is}
use Rattle.store_node.proofs.Handing.{put_told, put_room, due_room, devices_up, node_ready, node_hidden, fact_due_room, message_due_room}
use Rattle.store_node.proofs.Working.{idle_works, work_done, work_failed}
use Rattle.store_node.proofs.Nodes.{works_node}
use Rattle.store_node.proofs.node.TableNode.work.Goals as goal

pub returns-then-idle-clause-works : goal.returns-then-idle-clause-works
returns-then-idle-clause-works g c s t =
    idle_works g.D.Disk.state g.D.Disk.images (λ f image left. g.met.D.Disk.only_now (inner_of f) image left) c.args.self.now s.disk s.agenda t c.requires.up c.if-idle.ensures

pub work-requires : goal.work-requires
work-requires g c =
    let n = c.requires.node in
    record { ready = λ up. node_ready g.D.Disk.state g.D.Disk.images c.args.self.now n.0.disk n.0.agenda n.1 c.requires.up }

pub put_if-requires : goal.put_if-requires
put_if-requires g c =
    let old = c.args.self.now in
    let n = c.requires.node in
    let up = devices_up g.D.Disk.state g.D.Disk.images old n.0.disk n.0.agenda n.1 in
    let last : c.idle-is_last.result ≡ is_last_of (writes_of c.work.new.self) = last_is c.idle-is_last.result (writes_of c.work.new.self) c.idle-is_last.ensures in
    due_room fact_of old.facts c.fact_due-fact.result (told_at old.table old.owed c.in-Ok.step c.idle-is_last.result) c.fact_due-fact.ensures
    (fact_due_room g.D.Disk.state g.D.Disk.images old (writes_of old.devs) refl c.if-idle.ensures n.0.disk n.0.agenda n.1 c.requires.up c.work.new.self c.in-Ok.step c.idle-is_last.result (c.in-Ok.ensures.works up) last)

pub put_if-requires-in-Ok : goal.put_if-requires-in-Ok
put_if-requires-in-Ok g c =
    let old = c.args.self.now in
    let n = c.requires.node in
    let up = devices_up g.D.Disk.state g.D.Disk.images old n.0.disk n.0.agenda n.1 in
    due_room send_of old.messages c.answer_due-answer.result (sent_at old.table old.owed c.in-Ok.step) c.answer_due-answer.ensures
    (message_due_room g.D.Disk.state g.D.Disk.images old (writes_of old.devs) refl c.if-idle.ensures n.0.disk n.0.agenda n.1 c.requires.up c.work.new.self c.in-Ok.step (c.in-Ok.ensures.works up))

pub returns-in-Ok-clause-works : goal.returns-in-Ok-clause-works
returns-in-Ok-clause-works g c s t =
    let old = c.args.self.now in
    let up = devices_up g.D.Disk.state g.D.Disk.images old s.disk s.agenda t in
    let last : c.idle-is_last.result ≡ is_last_of (writes_of c.work.new.self) = last_is c.idle-is_last.result (writes_of c.work.new.self) c.idle-is_last.ensures in
    let fact_due = told_at old.table old.owed c.in-Ok.step c.idle-is_last.result in
    let answer_due = sent_at old.table old.owed c.in-Ok.step in
    work_done g.D.Disk.state g.D.Disk.images (λ f image left. g.met.D.Disk.only_now (inner_of f) image left) old (writes_of old.devs) refl c.if-idle.ensures s.disk s.agenda t c.requires.up
    c.work.new.self c.put_if.new.self c.put_if-in-Ok.new.self c.state_behind-self.result c.in-Ok.step c.idle-is_last.result c.state_behind-self.ensures (c.in-Ok.ensures.works up) c.in-Ok.ensures.fuse (c.work.ensures.hidden (node_hidden g.D.Disk.state g.D.Disk.images old s.disk s.agenda t c.requires.up)) last
    (put_told fact_of old.facts.items.items c.put_if.new.self.items.items c.fact_due-fact.result fact_due c.put_if.ensures.added c.fact_due-fact.ensures)
    (put_told send_of old.messages.items.items c.put_if-in-Ok.new.self.items.items c.answer_due-answer.result answer_due c.put_if-in-Ok.ensures.added c.answer_due-answer.ensures)
    (put_room fact_of old.facts c.put_if.new.self c.fact_due-fact.result fact_due c.fact_due-fact.ensures c.put_if.ensures.room)
    (put_room send_of old.messages c.put_if-in-Ok.new.self c.answer_due-answer.result answer_due c.answer_due-answer.ensures c.put_if-in-Ok.ensures.room)

pub returns-in-Err-clause-works : goal.returns-in-Err-clause-works
returns-in-Err-clause-works g c s t =
    let old = c.args.self.now in
    let up = devices_up g.D.Disk.state g.D.Disk.images old s.disk s.agenda t in
    let f = c.fall.ensures in
    work_failed g.D.Disk.state g.D.Disk.images (λ f image left. g.met.D.Disk.only_now (inner_of f) image left) old (writes_of old.devs) refl c.if-idle.ensures s.disk s.agenda t c.requires.up
    (record old { devs = c.work.new.self }) c.fall.new.self _ (c.in-Err.ensures.works up) c.in-Err.ensures.fuse f.falls
    (record { told = ap (λ x. map fact_of x.items.items) f.facts; sent = ap (λ x. map send_of x.items.items) f.messages; same = record { store = f.same.store; table = f.same.table; schema = f.same.schema }; declared = f.declared; state = f.state }) f.down

pub returns-in-Ok-clause-node : goal.returns-in-Ok-clause-node
returns-in-Ok-clause-node g c = let n = c.requires.node in works_node g.D.Disk.state g.D.Disk.images n.0 c.args.self.now _ _ (returns-in-Ok-clause-works g c n.0 n.1)

pub returns-in-Err-clause-node : goal.returns-in-Err-clause-node
returns-in-Err-clause-node g c = let n = c.requires.node in works_node g.D.Disk.state g.D.Disk.images n.0 c.args.self.now _ _ (returns-in-Err-clause-works g c n.0 n.1)
