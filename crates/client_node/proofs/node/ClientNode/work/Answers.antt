use Rattle.std.proofs.Common.{◌≡◌, ◌++◌, length, map, refl, sym, ◌∙◌, ap, subst}
use Rattle.disk_trait.specs.Fuse.{inner_of}
use Rattle.client_journal.specs.Standing.{writes_of}
use Rattle.step_tables.specs.Travels.{send_of}
use Rattle.gathering.specs.Room.{HasRoom}
use Rattle.step_tables.specs.Lines.{fact_of}
use Rattle.client_node.specs.Due.{sent_at, is_last_of}
use Rattle.client_node.proofs.Following.{last_is}
use Rattle.client_node.proofs.Rooms.{devices_up, node_ready, rooms}
use Rattle.client_node.proofs.Working.{Gathers, idle_works, work_done, work_failed}
use Rattle.client_node.proofs.Nodes.{works_node}
use Rattle.client_node.proofs.node.ClientNode.work.Goals as goal

pub returns-then-idle-clause-works : goal.returns-then-idle-clause-works
returns-then-idle-clause-works g c s t =
    idle_works g.D.Disk.state g.D.Disk.images (λ f image left. g.met.D.Disk.only_now (inner_of f) image left) c.args.self.now s.disk s.agenda t c.requires.up c.if-idle.ensures

pub work-requires : goal.work-requires
work-requires g c = let n = c.requires.node in record { ready = λ up. node_ready g.D.Disk.state c.args.self.now n.0.disk n.0.agenda n.1 c.requires.up }

pub tell-requires : goal.tell-requires
tell-requires g c = let n = c.requires.node in (rooms g.D.Disk.state c.args.self.now n.0.disk n.0.agenda n.1 c.requires.up).0

pub returns-in-Ok-clause-works : goal.returns-in-Ok-clause-works
returns-in-Ok-clause-works g c s t =
    let old = c.args.self.now in
    let up = devices_up g.D.Disk.state old s.disk s.agenda t in
    let is_last = c.idle-is_last.result in
    let last : is_last ≡ is_last_of (writes_of c.work.new.self) = last_is is_last (writes_of c.work.new.self) c.idle-is_last.ensures in
    let a = c.tell.ensures in
    let b = c.send.ensures in
    let gathers : Gathers old c.tell.new.facts c.send.new.messages c.send.new.owed c.in-Ok.step is_last = record {
      told = a.told;
      sent = b.sent ∙ ap (λ m. map send_of old.messages.items.items ++ sent_at (map send_of m.items) is_last) a.messages;
      when = b.when ∙ a.when;
      left = ap (λ f. map fact_of f.items) b.facts ∙ a.left;
      sends = λ no. ap (λ m. map send_of m.items) (b.left no ∙ a.messages);
      fact_room = subst (λ f. HasRoom c.tell.new.facts (length f.items)) (sym b.facts) a.room;
      message_room = b.room;
    } in
    work_done g.D.Disk.state g.D.Disk.images (λ f image left. g.met.D.Disk.only_now (inner_of f) image left) old (writes_of old.devs) refl c.if-idle.ensures s.disk s.agenda t c.requires.up
    c.work.new.self c.tell.new.facts c.send.new.messages c.send.new.owed c.in-Ok.step is_last (c.in-Ok.ensures.works up) c.work.ensures.fuse last gathers

pub returns-in-Err-clause-works : goal.returns-in-Err-clause-works
returns-in-Err-clause-works g c s t =
    let old = c.args.self.now in
    let up = devices_up g.D.Disk.state old s.disk s.agenda t in
    let f = c.fall.ensures in
    work_failed g.D.Disk.state g.D.Disk.images (λ f image left. g.met.D.Disk.only_now (inner_of f) image left) old (writes_of old.devs) refl c.if-idle.ensures s.disk s.agenda t c.requires.up
    (record old { devs = c.work.new.self }) c.fall.new.self _ (c.in-Err.ensures.works up) c.work.ensures.fuse f.falls
    (record { told = ap (λ x. map fact_of x.items.items) f.facts; sent = ap (λ x. map send_of x.items.items) f.messages; same = record { number = f.same.number; linked = f.same.linked }; declared = f.declared }) f.down

pub returns-in-Ok-clause-node : goal.returns-in-Ok-clause-node
returns-in-Ok-clause-node g c = let n = c.requires.node in works_node g.D.Disk.state g.D.Disk.images n.0 c.args.self.now _ _ (returns-in-Ok-clause-works g c n.0 n.1)

pub returns-in-Err-clause-node : goal.returns-in-Err-clause-node
returns-in-Err-clause-node g c = let n = c.requires.node in works_node g.D.Disk.state g.D.Disk.images n.0 c.args.self.now _ _ (returns-in-Err-clause-works g c n.0 n.1)
