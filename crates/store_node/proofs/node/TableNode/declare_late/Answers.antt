use Rattle.std.proofs.Common.{map, true, Err, arith, sym, ap, subst, refl}
use Rattle.std.proofs.lemmas.Result.{err_from_is_err_and}
use Rattle.disk_trait.specs.Fuse.{inner_of}
use Rattle.step_tables.specs.Travels.{send_of}
use Rattle.store_node.specs.Due.{fact_of}
use Rattle.store_node.specs.Node.{HoldsNone}
use Rattle.store_node.specs.declared.fault.NodeFault.{NodeFault}
use Rattle.store_node.specs.declared.owed.Owed.TheVariants as owed
use Rattle.store_node.specs.Calls.{DeclaresLate}
use Rattle.store_node.proofs.Beginning.{late_short, late_node, late_done, late_failed}
use Rattle.store_node.proofs.Handing.{devices_up}
use Rattle.store_node.proofs.Recovering.{declare_done, declare_failed}
use Rattle.store_node.proofs.Starting.{no_room}
use Rattle.store_node.proofs.node.TableNode.declare_late.Goals as goal

pub returns-in_err-reserve-clause-declares : goal.returns-in_err-reserve-clause-declares
returns-in_err-reserve-clause-declares g c s t =
    let p = err_from_is_err_and c.from_residual.result c.from_residual.ensures.1 in
    rw (p.1, p.2) (late_short g.D.Disk.state g.D.Disk.images (λ d image left. g.met.D.Disk.only_now (inner_of d) image left) c.args.self.now c.reserve.new.self s.disk s.agenda c.reserve.ensures.same t c.requires.undeclared)

pub remake_table-requires-clause-up : goal.remake_table-requires-clause-up
remake_table-requires-clause-up g c = let n = c.requires.node in devices_up g.D.Disk.state g.D.Disk.images c.args.self.now n.0.disk n.0.agenda n.1

pub remake_table-requires-clause-spelled : goal.remake_table-requires-clause-spelled
remake_table-requires-clause-spelled g c = c.requires.node.1.spelled

pub remake_table-requires-clause-short : goal.remake_table-requires-clause-short
remake_table-requires-clause-short g c = c.requires.node.1.short

pub put-requires : goal.put-requires
put-requires g c = let room = c.in_ok-reserve.ensures.room.now in omega (arith, room)

pub returns-in-Ok-clause-declares : goal.returns-in-Ok-clause-declares
returns-in-Ok-clause-declares g c s t =
    let st = g.D.Disk.state in
    let images = g.D.Disk.images in
    let old = c.args.self.now in
    let reserved = record old { facts = c.reserve.new.self } in
    let u = late_node st images old c.reserve.new.self s.disk s.agenda t c.requires.undeclared in
    let made = record reserved { is_declared = true; is_up = true; devs = c.remake_table.new.table; owed = owed.Nothing } in
    late_done st images (λ d image left. g.met.D.Disk.only_now (inner_of d) image left) old c.reserve.new.self c.put.new.self made s c.reserve.ensures.same
    (declare_done st images (HoldsNone st old) reserved s.disk s.agenda u c.requires.undeclared c.remake_table.new.table c.in-Ok.ensures) refl c.put.ensures.added (no_room c.put.new.self)

pub returns-in-Err-clause-declares : goal.returns-in-Err-clause-declares
returns-in-Err-clause-declares g c s t =
    let st = g.D.Disk.state in
    let images = g.D.Disk.images in
    let old = c.args.self.now in
    let reserved = record old { facts = c.reserve.new.self } in
    let u = late_node st images old c.reserve.new.self s.disk s.agenda t c.requires.undeclared in
    let f = c.fall.ensures in
    subst (λ (f : NodeFault). DeclaresLate st images s old c.fall.new.self (Err f)) (sym c.from.ensures)
    (late_failed st images (λ d image left. g.met.D.Disk.only_now (inner_of d) image left) old c.reserve.new.self c.fall.new.self s _ c.reserve.ensures.same
    (declare_failed st images (HoldsNone st old) reserved s.disk s.agenda u c.requires.undeclared (record reserved { devs = c.remake_table.new.table }) c.fall.new.self c.in-Err.fault c.in-Err.ensures f.falls
    (record { told = ap (λ x. map fact_of x.items.items) f.facts; sent = ap (λ x. map send_of x.items.items) f.messages; same = record { store = f.same.store; table = f.same.table; schema = f.same.schema }; declared = f.declared; state = f.state }) f.down))
