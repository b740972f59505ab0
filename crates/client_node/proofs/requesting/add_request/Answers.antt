use Rattle.std.proofs.Common.{Ok, Err, sym, subst, ap, ◌∙◌}
use Rattle.std.proofs.lemmas.Result.{err_from_is_err_and, on_ok_weaker}
use Rattle.client_journal.specs.Devs.{ClientDevs}
use Rattle.client_journal.specs.NamedSlots.{NamedSlots}
use Rattle.client_journal.specs.Standing.{devs}
use Rattle.held_contents.specs.Reading.{AreThere}
use Rattle.client_node.specs.declared.fault.CallFault.TheVariants as call
use Rattle.client_node.proofs.Serving.{looks_err, looks_other, looks_then}
use Rattle.client_node.proofs.AskedAgain.{ok_not, out_there, asks_one, asks_none, waits_none}
use Rattle.client_node.proofs.requesting.add_request.Goals as goal

pub returns-in_err-slots-clause-looks : goal.returns-in_err-slots-clause-looks
returns-in_err-slots-clause-looks g c =
    let p = err_from_is_err_and c.from_residual.result c.from_residual.ensures.1 in
    rw (p.1, p.2) (looks_err g.D.Disk.state g.D.Disk.images c.args.devs.now c.row_slots.new.devs c.requires.up c.requires.ready c.in_err-slots.field-0.0 c.in_err-slots.ensures.looks)

pub returns-in_err-push-in-None-clause-looks : goal.returns-in_err-push-in-None-clause-looks
returns-in_err-push-in-None-clause-looks g c =
    let p = err_from_is_err_and c.from_residual-in_err-push-in-None.result c.from_residual-in_err-push-in-None.ensures.1 in
    rw (p.1, p.2) (looks_other g.D.Disk.state g.D.Disk.images c.args.devs.now c.row_slots.new.devs c.requires.up c.requires.ready c.in_ok-slots.slots (Err call.Memory) c.in_ok-slots.ensures.looks (λ no. cc))

pub returns-in-None-clause-looks : goal.returns-in-None-clause-looks
returns-in-None-clause-looks g c = looks_other g.D.Disk.state g.D.Disk.images c.args.devs.now c.row_slots.new.devs c.requires.up c.requires.ready c.in_ok-slots.slots (Ok tt) c.in_ok-slots.ensures.looks (ok_not tt)

pub returns-in-None-clause-adds : goal.returns-in-None-clause-adds
returns-in-None-clause-adds g c meaning named = asks_none meaning c.args.client (devs g.D.Disk.state c.args.devs.now) c.args.table c.args.row.now c.in_ok-slots.slots c.in_ok-slots.ensures.slots c.in-None.is c.args.sends.now.items

pub returns-in-None-clause-stale : goal.returns-in-None-clause-stale
returns-in-None-clause-stale g c =
    waits_none (devs g.D.Disk.state c.args.devs.now) c.args.table c.args.row.now c.in_ok-slots.slots c.in_ok-slots.ensures.slots c.in-None.is c.args.stale.now.items c.push.new.self.items c.in_ok-push-in-None.ensures.items

pub ask_again-requires-clause-up : goal.ask_again-requires-clause-up
ask_again-requires-clause-up g c = c.in_ok-slots.ensures.looks.serves.up (λ is. cc)

pub ask_again-requires-clause-ready : goal.ask_again-requires-clause-ready
ask_again-requires-clause-ready g c = c.in_ok-slots.ensures.looks.serves.ready (λ is. cc)

pub returns-clause-looks : goal.returns-clause-looks
returns-clause-looks g c = looks_then g.D.Disk.state g.D.Disk.images c.args.devs.now c.ask_again.new.devs c.requires.up c.requires.ready c.row_slots.new.devs c.in_ok-slots.slots c.ask_again.result c.in_ok-slots.ensures.looks c.ask_again.ensures.looks

pub returns-clause-adds : goal.returns-clause-adds
returns-clause-adds g c =
    let d = devs g.D.Disk.state c.args.devs.now in
    let same = c.in_ok-slots.ensures.looks.serves.same (λ is. cc) in
    on_ok_weaker c.ask_again.result
    (λ adds meaning named. asks_one meaning c.args.client d c.args.table c.args.row.now c.in_ok-slots.slots c.in_ok-slots.ensures.slots c.in-Some.out c.in-Some.is c.args.sends.now.items c.ask_again.new.sends.items
    (adds meaning (subst (λ (x : ClientDevs). AreThere meaning x c.in-Some.out.content) (sym same) (out_there meaning d named c.args.table c.args.row.now c.in_ok-slots.slots c.in_ok-slots.ensures.slots c.in-Some.out c.in-Some.is)))) c.ask_again.ensures.adds
