use Rattle.std.proofs.Common.{◌≡◌, refl, sym, ap, ◌∙◌, false, true, Result, subst}
use Rattle.std.specs.Prelude.{OnOk, not, ◌==◌, ◌||◌, ◌&&◌}
use Rattle.std.specs.Ordering.{nat_cmp}
use Rattle.std.specs.BTreeSet.{BTreeSet, keys, contains}
use Rattle.std.proofs.lemmas.Result.{err_from_is_err_and}
use Rattle.disk_trait.specs.Fuse.{inner_of}
use Rattle.step_tables.specs.ClientMoves.{EndCr}
use Rattle.step_tables.specs.Facts as facts
use Rattle.client_node.specs.declared.fault.CallFault.{CallFault}
use Rattle.client_node.specs.declared.fault.CallFault.TheVariants as call
use Rattle.client_node.proofs.Answering.{does_node}
use Rattle.client_node.proofs.Phased.{ends, one_less, by_err, by_ok}
use Rattle.client_node.proofs.Rooms.{devices_up, node_ready}
use Rattle.client_node.proofs.node.ClientNode.end_cr.Goals as goal

pub check_end-found-requires-clause-up : goal.check_end-found-requires-clause-up
check_end-found-requires-clause-up g c = let n = c.requires.node in devices_up g.D.Disk.state c.args.self.now n.0.disk n.0.agenda n.1

pub check_end-found-requires-clause-ready : goal.check_end-found-requires-clause-ready
check_end-found-requires-clause-ready g c = let n = c.requires.node in node_ready g.D.Disk.state c.args.self.now n.0.disk n.0.agenda n.1 c.requires.up

pub returns-in_err-settle-clause-does : goal.returns-in_err-settle-clause-does
returns-in_err-settle-clause-does g c s t =
    let old = c.args.self.now in
    let p = err_from_is_err_and c.from_residual.result c.from_residual.ensures.1 in
    let k = c.in_err-settle.ensures in
    let check = c.check_end-found in
    rw (p.1, p.2) (by_err g.D.Disk.state g.D.Disk.images (λ f image left. g.met.D.Disk.only_now (inner_of f) image left) old s.disk c.args.table (EndCr c.args.table) call.NotInResolution (not c.contains-is_open.result)
    (λ tasks. ends old s.disk tasks c.args.table c.contains-is_open.result c.contains-is_open.ensures) check.result check.new.devs check.ensures.looks check.ensures.refused s.agenda t c.requires.up
    c.in_err-settle.field-0.0 k.same c.settle.new.self k.disk k.other)

pub returns-in_err-settle-clause-node : goal.returns-in_err-settle-clause-node
returns-in_err-settle-clause-node g c =
    let n = c.requires.node in does_node g.D.Disk.state g.D.Disk.images n.0 (EndCr c.args.table) (λ value. facts.Done) c.args.self.now _ _ (returns-in_err-settle-clause-does g c n.0 n.1)

pub returns-clause-does : goal.returns-clause-does
returns-clause-does g c s t =
    let old = c.args.self.now in
    let k = c.in_ok-settle.ensures in
    let check = c.check_end-found in
    by_ok g.D.Disk.state g.D.Disk.images (λ f image left. g.met.D.Disk.only_now (inner_of f) image left) old s.disk c.args.table (EndCr c.args.table) call.NotInResolution (not c.contains-is_open.result)
    (λ tasks. ends old s.disk tasks c.args.table c.contains-is_open.result c.contains-is_open.ensures) check.result check.new.devs check.ensures.looks k.same c.settle.new.self (k.other (λ no. cc)) c.remove.new.self
    check.ensures.opened (subst (λ (r : Result (Unit {0}) CallFault). OnOk r (not c.contains-is_open.result ≡ false)) k.same (ap not (subst (λ (r : Result (Unit {0}) CallFault). OnOk r (c.contains-is_open.result ≡ true)) (sym k.same) check.ensures.open))) s.agenda t c.requires.up

pub returns-clause-node : goal.returns-clause-node
returns-clause-node g c = let n = c.requires.node in does_node g.D.Disk.state g.D.Disk.images n.0 (EndCr c.args.table) (λ value. facts.Done) c.args.self.now _ _ (returns-clause-does g c n.0 n.1)

pub returns-clause-ends : goal.returns-clause-ends
returns-clause-ends g c =
    let is = c.in_ok-settle.ensures.other (λ no. cc) in
    λ q. one_less c.settle.new.self.phases c.remove.new.self c.args.table c.remove.ensures.updates q ∙ ap (λ x. not (c.args.table == q) && contains nat_cmp x.phases q) is
