use Rattle.std.proofs.Common.{◌≡◌, ℕ, map, Option, Some, None, Result, Ok, Err, ⊎_elim, inr, refl, sym, ◌∙◌, ap, subst, [], ◌∷◌}
use Rattle.std.specs.Prelude.{IsSome}
use Rattle.std.proofs.lemmas.Result.{err_from_is_err_and, IfOk-weaker}
use Rattle.slot_store.specs.declared.held.TableRecord.{TableRecord}
use Rattle.client_journal.specs.Devs.{ClientDevs}
use Rattle.client_journal.specs.Redone.{redone}
use Rattle.client_journal.specs.Standing.{devs}
use Rattle.step_tables.specs.Travels.{send_of}
use Rattle.held_contents.specs.Reading.{AreThere}
use Rattle.client_node.specs.declared.fault.CallFault.TheVariants as call
use Rattle.client_node.specs.Answers.{record_at, held_at}
use Rattle.client_node.specs.Readied.{IsIdle}
use Rattle.client_node.proofs.Serving.{looks_err, looks_other, looks_then}
use Rattle.client_node.specs.Syncing.{IsSendOf, IsNextOf}
use Rattle.client_node.proofs.AskedAgain.{first_held}
use Rattle.client_node.proofs.calls.sending.next_plan.Goals as goal

pub returns-in_err-first-clause-looks : goal.returns-in_err-first-clause-looks
returns-in_err-first-clause-looks g c =
    let p = err_from_is_err_and c.from_residual.result c.from_residual.ensures.1 in
    rw (p.1, p.2) (looks_err g.D.Disk.state g.D.Disk.images c.args.devs.now c.first_ready.new.devs c.requires.up c.requires.ready c.in_err-first.field-0.0 c.in_err-first.ensures.looks)

pub returns-in-None-clause-looks : goal.returns-in-None-clause-looks
returns-in-None-clause-looks g c = looks_other g.D.Disk.state g.D.Disk.images c.args.devs.now c.first_ready.new.devs c.requires.up c.requires.ready c.in_ok-first.first (Ok None) c.in_ok-first.ensures.looks (λ no. cc)

pub returns-in-None-clause-next : goal.returns-in-None-clause-next
returns-in-None-clause-next g c =
    let d = devs g.D.Disk.state c.args.devs.now in
    let f = c.in_ok-first.ensures.found in
    record { rows = f.rows; noted = f.noted; is = subst (λ o. IsNextOf d c.args.client c.args.table o None) (sym c.in-None.is ∙ f.is) refl }

pub plan_of_send-requires-clause-up : goal.plan_of_send-requires-clause-up
plan_of_send-requires-clause-up g c = c.in_ok-first.ensures.looks.serves.up (λ is. cc)

pub plan_of_send-requires-clause-ready : goal.plan_of_send-requires-clause-ready
plan_of_send-requires-clause-ready g c = c.in_ok-first.ensures.looks.serves.ready (λ is. cc)

pub plan_of_send-requires-clause-idle : goal.plan_of_send-requires-clause-idle
plan_of_send-requires-clause-idle g c = subst (λ (d : ClientDevs). IsIdle d c.args.client) (sym (c.in_ok-first.ensures.looks.serves.same (λ is. cc))) c.requires.idle

pub plan_of_send-requires-clause-opened : goal.plan_of_send-requires-clause-opened
plan_of_send-requires-clause-opened g c = ap (λ (d : ClientDevs). record_at d c.args.table) (c.in_ok-first.ensures.looks.serves.same (λ is. cc)) ∙ c.requires.opened

pub plan_of_send-requires-clause-sends : goal.plan_of_send-requires-clause-sends
plan_of_send-requires-clause-sends g c = (first_held (devs g.D.Disk.state c.args.devs.now) c.args.table c.in_ok-first.ensures.found.rows (c.in-Some.row, c.in-Some.slots) (sym c.in_ok-first.ensures.found.is ∙ c.in-Some.is)).1

pub plan_of_send-requires-clause-held : goal.plan_of_send-requires-clause-held
plan_of_send-requires-clause-held g c =
    (first_held (devs g.D.Disk.state c.args.devs.now) c.args.table c.in_ok-first.ensures.found.rows (c.in-Some.row, c.in-Some.slots) (sym c.in_ok-first.ensures.found.is ∙ c.in-Some.is)).0
    ∙ ap (λ (d : ClientDevs). held_at d c.args.table c.in-Some.row) (sym (c.in_ok-first.ensures.looks.serves.same (λ is. cc)))

pub returns-clause-looks : goal.returns-clause-looks
returns-clause-looks g c = looks_then g.D.Disk.state g.D.Disk.images c.args.devs.now c.plan_of_send.new.devs c.requires.up c.requires.ready c.first_ready.new.devs c.in_ok-first.first c.plan_of_send.result c.in_ok-first.ensures.looks c.plan_of_send.ensures.looks

pub returns-clause-next : goal.returns-clause-next
returns-clause-next g c =
    let d = devs g.D.Disk.state c.args.devs.now in
    let same = c.in_ok-first.ensures.looks.serves.same (λ is. cc) in
    let f = c.in_ok-first.ensures.found in
    let is = sym f.is ∙ c.in-Some.is in
    IfOk-weaker c.plan_of_send.result _ _
    (λ o k. record { rows = f.rows; noted = f.noted; is = subst (λ f. IsNextOf d c.args.client c.args.table f o) (sym is) (subst (λ (x : ClientDevs). IsSendOf x c.args.client c.args.table c.in-Some.row o) same k) }) c.plan_of_send.ensures.plan
