use Rattle.std.proofs.Common.{◌≡◌, ℕ, List, [], map, Result, Ok, Err, refl, sym, ◌∙◌, ap, subst}
use Rattle.std.specs.Prelude.{IfOk}
use Rattle.std.proofs.lemmas.Result.{err_from_is_err_and}
use Rattle.disk_trait.specs.Fuse.{behind, inner_of}
use Rattle.client_journal.specs.NamedSlots.{IsAtRest}
use Rattle.client_journal.specs.Plan.{IsPlan}
use Rattle.client_journal.specs.Standing.{devs, writes_of, AreUp, IsReady}
use Rattle.step_tables.specs.Messages.{Send}
use Rattle.step_tables.specs.Travels.{send_of}
use Rattle.client_node.specs.declared.fault.CallFault.{CallFault}
use Rattle.client_node.specs.declared.node.ClientNode.{ClientNode}
use Rattle.client_node.specs.declared.preparing.Prepared.{Prepared}
use Rattle.client_node.specs.Calls.{Fell}
use Rattle.client_node.specs.Carrying.{Carries}
use Rattle.client_node.specs.Preparing.{MayBegin}
use Rattle.client_node.proofs.TakenOn.{handed_on, none_handed_on, is_unprepared, is_carried}
use Rattle.client_node.proofs.SyncDone.{as_count}
use Rattle.client_node.proofs.node.ClientNode.take_on.Goals as goal

pub returns-in_err-number-clause-does : goal.returns-in_err-number-clause-does
returns-in_err-number-clause-does g c old s move is up_client up l a =
    let p = err_from_is_err_and c.from_residual.result c.from_residual.ensures.1 in
    let k = c.in_err-number.ensures in
    rw (p.1, p.2) (is_unprepared g.D.Disk.state g.D.Disk.images (λ f image left. g.met.D.Disk.only_now (inner_of f) image left) old s.disk move c.args.found
    c.args.self.now.devs l a s.agenda up_client up c.in_err-number.field-0.0 k.same
    c.settle.new.self (λ no. subst (λ (n : ClientNode g.row.D.Denot). Fell g.D.Disk.state g.D.Disk.images n c.settle.new.self) is (k.disk no)) (λ no. k.other no ∙ is))

pub carry_out-requires-clause-up : goal.carry_out-requires-clause-up
carry_out-requires-clause-up g c =
    let k = c.in_ok-number.ensures in
    let m = subst (λ (r : Result Prepared CallFault). IfOk r (MayBegin (λ f. behind g.D.Disk.state f) c.args.self.now.devs)) (sym k.same) c.requires in
    subst (λ (n : ClientNode g.row.D.Denot). AreUp n.devs) (sym (k.other (λ no. cc))) m.up

pub carry_out-requires-clause-idle : goal.carry_out-requires-clause-idle
carry_out-requires-clause-idle g c =
    let k = c.in_ok-number.ensures in
    let m = subst (λ (r : Result Prepared CallFault). IfOk r (MayBegin (λ f. behind g.D.Disk.state f) c.args.self.now.devs)) (sym k.same) c.requires in
    subst (λ (n : ClientNode g.row.D.Denot). writes_of n.devs ≡ []) (sym (k.other (λ no. cc))) m.idle

pub carry_out-requires-clause-ready : goal.carry_out-requires-clause-ready
carry_out-requires-clause-ready g c =
    let k = c.in_ok-number.ensures in
    let m = subst (λ (r : Result Prepared CallFault). IfOk r (MayBegin (λ f. behind g.D.Disk.state f) c.args.self.now.devs)) (sym k.same) c.requires in
    subst (λ (n : ClientNode g.row.D.Denot). IsReady (λ f. behind g.D.Disk.state f) n.devs (writes_of n.devs)) (sym (k.other (λ no. cc))) m.ready

pub carry_out-requires-clause-rests : goal.carry_out-requires-clause-rests
carry_out-requires-clause-rests g c =
    let k = c.in_ok-number.ensures in
    let m = subst (λ (r : Result Prepared CallFault). IfOk r (MayBegin (λ f. behind g.D.Disk.state f) c.args.self.now.devs)) (sym k.same) c.requires in
    subst (λ (n : ClientNode g.row.D.Denot). IsAtRest (devs (λ f. behind g.D.Disk.state f) n.devs)) (sym (k.other (λ no. cc))) m.rests

pub carry_out-requires-clause-plan : goal.carry_out-requires-clause-plan
carry_out-requires-clause-plan g c =
    let k = c.in_ok-number.ensures in
    let x = c.in_ok-number.field-0 in
    let m = subst (λ (r : Result Prepared CallFault). IfOk r (MayBegin (λ f. behind g.D.Disk.state f) c.args.self.now.devs)) (sym k.same) c.requires in
    subst (λ (n : ClientNode g.row.D.Denot). IsPlan (devs (λ f. behind g.D.Disk.state f) n.devs) x.planned.plan) (sym (k.other (λ no. cc))) m.plan

pub returns-in_err-carry_out-clause-does : goal.returns-in_err-carry_out-clause-does
returns-in_err-carry_out-clause-does g c old s move is up_client up l a =
    let st = g.D.Disk.state in
    let im = g.D.Disk.images in
    let p = err_from_is_err_and c.from_residual-in_err-carry_out.result c.from_residual-in_err-carry_out.ensures.1 in
    let k = c.in_ok-number.ensures in
    let x = c.in_ok-number.field-0 in
    let e = c.in_err-carry_out.field-0.0 in
    let carries = subst (λ (l : List Send). Carries st im c.settle.new.self c.carry_out.new.self x.planned l (Err e)) (ap (map send_of) c.new-none.ensures.items) c.in_err-carry_out.ensures.carries in
    rw (p.1, p.2) (is_carried st im (λ f image left. g.met.D.Disk.only_now (inner_of f) image left) old s.disk move c.args.found c.args.self.now.devs l a s.agenda up_client up x k.same
    c.settle.new.self c.carry_out.new.self (k.other (λ no. cc) ∙ is) (Err e) carries (Err e) (λ f same. as_count e f (Err e) refl same (Err e) refl) (λ same. absurd cc))

pub returns-clause-does : goal.returns-clause-does
returns-clause-does g c old s move is up_client up l a =
    let st = g.D.Disk.state in
    let im = g.D.Disk.images in
    let k = c.in_ok-number.ensures in
    let x = c.in_ok-number.field-0 in
    let carries = subst (λ (l : List Send). Carries st im c.settle.new.self c.carry_out.new.self x.planned l (Ok tt)) (ap (map send_of) c.new-none.ensures.items) c.in_ok-carry_out.ensures.carries in
    is_carried st im (λ f image left. g.met.D.Disk.only_now (inner_of f) image left) old s.disk move c.args.found c.args.self.now.devs l a s.agenda up_client up x k.same
    c.settle.new.self c.carry_out.new.self (k.other (λ no. cc) ∙ is) (Ok tt) carries (Ok x.number) (λ f same. absurd cc) (λ same. refl)

pub returns-in_err-number-clause-refused : goal.returns-in_err-number-clause-refused
returns-in_err-number-clause-refused g c =
    let p = err_from_is_err_and c.from_residual.result c.from_residual.ensures.1 in
    rw (p.1, p.2) (handed_on ℕ c.args.found c.in_err-number.field-0.0 c.in_err-number.ensures.same)

pub returns-in_err-carry_out-clause-refused : goal.returns-in_err-carry_out-clause-refused
returns-in_err-carry_out-clause-refused g c = none_handed_on {S = ℕ} c.args.found c.in_ok-number.field-0 _ c.in_ok-number.ensures.same

pub returns-clause-refused : goal.returns-clause-refused
returns-clause-refused g c = none_handed_on {S = ℕ} c.args.found c.in_ok-number.field-0 _ c.in_ok-number.ensures.same
