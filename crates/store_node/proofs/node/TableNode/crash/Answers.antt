use Rattle.std.proofs.Common.{◌≡◌, map, List, refl, sym, ap, subst}
use Rattle.disk_trait.specs.Fuse.{behind, inner_of}
use Rattle.store_commit.specs.Devs.{Write}
use Rattle.store_commit.specs.Standing.{write_of, writes_of, IsReady, WorksOn}
use Rattle.step_tables.specs.Travels.{send_of}
use Rattle.store_node.specs.Due.{fact_of}
use Rattle.store_node.proofs.Handing.{devices_up, node_ready}
use Rattle.store_node.proofs.Falling.{ready_synced, ready_sound}
use Rattle.store_node.proofs.Crashing.{crash_done}
use Rattle.store_node.proofs.Nodes.{crashes_node}
use Rattle.store_node.proofs.node.TableNode.crash.Goals as goal

pub work-requires : goal.work-requires
work-requires g c =
    let n = c.requires.node in
    let old = c.args.self.now in
    let same : writes_of c.stop_after.new.self ≡ writes_of old.devs = ap (λ a. map write_of a.items) c.stop_after.ensures.agenda in
    let ready = node_ready g.D.Disk.state g.D.Disk.images old n.0.disk n.0.agenda n.1 c.requires.up in
    record { ready = λ up. c.stop_after.ensures.ready (writes_of c.stop_after.new.self) (subst (λ (l : List Write). IsReady (behind g.D.Disk.state) old.devs l) (sym same) ready) }

pub returns-clause-crashes : goal.returns-clause-crashes
returns-clause-crashes g c s t =
    let old = c.args.self.now in
    let stopped = c.stop_after.new.self in
    let up = devices_up g.D.Disk.state g.D.Disk.images old s.disk s.agenda t in
    let ready = node_ready g.D.Disk.state g.D.Disk.images old s.disk s.agenda t c.requires.up in
    let same : writes_of stopped ≡ writes_of old.devs = ap (λ a. map write_of a.items) c.stop_after.ensures.agenda in
    let mid = record old { devs = c.work.new.self } in
    let f = c.fall.ensures in
    let works = subst (λ (l : List Write). WorksOn (behind g.D.Disk.state) (λ d. g.D.Disk.images (inner_of d)) stopped c.work.new.self c.work.result l) same (c.work.ensures.works (c.stop_after.ensures.up up)) in
    crash_done g.D.Disk.state g.D.Disk.images (λ d image left. g.met.D.Disk.only_now (inner_of d) image left) old (writes_of old.devs) refl s.disk s.agenda t c.requires.up
    stopped mid c.fall.new.self c.args.calls c.args.pick c.work.result c.stop_after.ensures.stops c.stop_after.ensures.same
    (c.stop_after.ensures.rows_left up (ready_synced g.D.Disk.state g.D.Disk.images old.devs (writes_of old.devs) ready)
    (ready_sound g.D.Disk.state g.D.Disk.images old.devs (writes_of old.devs) ready)) works c.work.ensures.once f.falls
    (record { told = ap (λ x. map fact_of x.items.items) f.facts; sent = ap (λ x. map send_of x.items.items) f.messages; same = record { store = f.same.store; table = f.same.table; schema = f.same.schema }; declared = f.declared; state = f.state }) f.down

pub returns-clause-node : goal.returns-clause-node
returns-clause-node g c = let n = c.requires.node in crashes_node g.D.Disk.state g.D.Disk.images c.args.calls n.0 c.args.self.now _ (returns-clause-crashes g c n.0 n.1)
