use Rattle.std.proofs.Common.{◌≡◌, List, [], map, sym, ◌∙◌, ap, subst}
use Rattle.std.proofs.lemmas.Result.{err_from_is_err_and}
use Rattle.disk_trait.specs.Fuse.{behind, inner_of}
use Rattle.client_journal.specs.NamedSlots.{IsAtRest}
use Rattle.client_journal.specs.Plan.{IsPlan}
use Rattle.client_journal.specs.Standing.{devs, writes_of, AreUp, IsReady}
use Rattle.step_tables.specs.Messages.{Send}
use Rattle.step_tables.specs.Travels.{send_of}
use Rattle.client_node.specs.declared.node.ClientNode.{ClientNode}
use Rattle.client_node.specs.Altering.{MayTake}
use Rattle.client_node.specs.Calls.{Fell}
use Rattle.client_node.specs.Carrying.{Carries}
use Rattle.client_node.proofs.AlteredTables.{made_so, by_err, by_none, by_carried}
use Rattle.client_node.proofs.node.ClientNode.alter.Goals as goal

pub returns-in_err-made-clause-does : goal.returns-in_err-made-clause-does
returns-in_err-made-clause-does g c old s table change is client up l a =
    let p = err_from_is_err_and c.from_residual.result c.from_residual.ensures.1 in
    let k = c.in_err-made.ensures in
    rw (p.1, p.2) (by_err g.D.Disk.state g.D.Disk.images (λ f image left. g.met.D.Disk.only_now (inner_of f) image left) old table change c.args.found c.args.self.now.devs l a s.disk s.agenda client up c.in_err-made.field-0.0 k.same
    c.settle.new.self (λ no. subst (λ (n : ClientNode g.row.D.Denot). Fell g.D.Disk.state g.D.Disk.images n c.settle.new.self) is (k.disk no)) (λ no. k.other no ∙ is))

pub returns-in-None-clause-does : goal.returns-in-None-clause-does
returns-in-None-clause-does g c old s table change is client up l a =
    let k = c.in_ok-made.ensures in
    by_none g.D.Disk.state g.D.Disk.images (λ f image left. g.met.D.Disk.only_now (inner_of f) image left) old table change c.args.found c.args.self.now.devs l a s.disk s.agenda client up c.in_ok-made.made k.same c.in-None.is
    c.settle.new.self (k.other (λ no. cc) ∙ is)

pub carry_out-requires-clause-up : goal.carry_out-requires-clause-up
carry_out-requires-clause-up g c =
    let k = c.in_ok-made.ensures in
    let m = made_so (MayTake (λ f. behind g.D.Disk.state f) c.args.self.now.devs) c.args.found c.in_ok-made.made c.in-Some.planned k.same c.in-Some.is c.requires in
    subst (λ (n : ClientNode g.row.D.Denot). AreUp n.devs) (sym (k.other (λ no. cc))) m.up

pub carry_out-requires-clause-idle : goal.carry_out-requires-clause-idle
carry_out-requires-clause-idle g c =
    let k = c.in_ok-made.ensures in
    let m = made_so (MayTake (λ f. behind g.D.Disk.state f) c.args.self.now.devs) c.args.found c.in_ok-made.made c.in-Some.planned k.same c.in-Some.is c.requires in
    subst (λ (n : ClientNode g.row.D.Denot). writes_of n.devs ≡ []) (sym (k.other (λ no. cc))) m.idle

pub carry_out-requires-clause-ready : goal.carry_out-requires-clause-ready
carry_out-requires-clause-ready g c =
    let k = c.in_ok-made.ensures in
    let m = made_so (MayTake (λ f. behind g.D.Disk.state f) c.args.self.now.devs) c.args.found c.in_ok-made.made c.in-Some.planned k.same c.in-Some.is c.requires in
    subst (λ (n : ClientNode g.row.D.Denot). IsReady (λ f. behind g.D.Disk.state f) n.devs (writes_of n.devs)) (sym (k.other (λ no. cc))) m.ready

pub carry_out-requires-clause-rests : goal.carry_out-requires-clause-rests
carry_out-requires-clause-rests g c =
    let k = c.in_ok-made.ensures in
    let m = made_so (MayTake (λ f. behind g.D.Disk.state f) c.args.self.now.devs) c.args.found c.in_ok-made.made c.in-Some.planned k.same c.in-Some.is c.requires in
    subst (λ (n : ClientNode g.row.D.Denot). IsAtRest (devs (λ f. behind g.D.Disk.state f) n.devs)) (sym (k.other (λ no. cc))) m.rests

pub carry_out-requires-clause-plan : goal.carry_out-requires-clause-plan
carry_out-requires-clause-plan g c =
    let k = c.in_ok-made.ensures in
    let m = made_so (MayTake (λ f. behind g.D.Disk.state f) c.args.self.now.devs) c.args.found c.in_ok-made.made c.in-Some.planned k.same c.in-Some.is c.requires in
    subst (λ (n : ClientNode g.row.D.Denot). IsPlan (devs (λ f. behind g.D.Disk.state f) n.devs) c.in-Some.planned.plan) (sym (k.other (λ no. cc))) m.plan

pub returns-in-Some-clause-does : goal.returns-in-Some-clause-does
returns-in-Some-clause-does g c old s table change is client up l a =
    let st = g.D.Disk.state in
    let im = g.D.Disk.images in
    let k = c.in_ok-made.ensures in
    by_carried st im (λ f image left. g.met.D.Disk.only_now (inner_of f) image left) old table change c.args.found c.args.self.now.devs l a s.disk s.agenda client up c.in_ok-made.made k.same c.in-Some.planned c.in-Some.is c.carry_out.result
    c.settle.new.self c.carry_out.new.self (k.other (λ no. cc) ∙ is) (subst (λ (l : List Send). Carries st im c.settle.new.self c.carry_out.new.self c.in-Some.planned l c.carry_out.result) (ap (map send_of) c.new-none.ensures.items) c.carry_out.ensures.carries)
