use Rattle.std.proofs.Common.{◌≡◌, ℕ, List, map, Option, Some, None, Result, Ok, Err, ⊎_elim, inr, refl, sym, ◌∙◌, ap, subst, [], ◌∷◌}
use Rattle.std.specs.Prelude.{IsSome}
use Rattle.std.proofs.lemmas.Result.{err_from_is_err_and, IfOk-weaker}
use Rattle.slot_store.specs.declared.held.TableRecord.{TableRecord}
use Rattle.client_journal.specs.Devs.{ClientDevs, Write}
use Rattle.client_journal.specs.NamedSlots.{NamedSlots}
use Rattle.client_journal.specs.Plan.{plan_at_work}
use Rattle.client_journal.specs.Standing.{devs, writes_of}
use Rattle.client_node.specs.declared.fault.CallFault.{CallFault}
use Rattle.client_node.specs.declared.fault.CallFault.TheVariants as call
use Rattle.client_node.specs.Answers.{record_at, held_at}
use Rattle.client_node.specs.Readied.{IsIdle}
use Rattle.client_node.proofs.Serving.{looks_err, looks_none, looks_other, looks_then}
use Rattle.client_node.specs.NotedRows.{AreNotedRows}
use Rattle.client_node.specs.Requesting.{first_ready, all_asked_again, NoneWaits, NoneSends}
use Rattle.client_node.specs.Syncing.{IsNextOf}
use Rattle.client_node.proofs.Syncs.{table_small, syncs_of}
use Rattle.client_node.proofs.calls.sending.sync_opened.Goals as goal

pub rows_in-requires : goal.rows_in-requires
rows_in-requires g c = table_small (devs g.D.Disk.state c.args.devs.now) c.args.client c.args.table c.requires.idle c.args.opened.now c.requires.opened

pub returns-in_err-rows-clause-looks : goal.returns-in_err-rows-clause-looks
returns-in_err-rows-clause-looks g c =
    let p = err_from_is_err_and c.from_residual.result c.from_residual.ensures.1 in
    rw (p.1, p.2) (looks_none g.D.Disk.state g.D.Disk.images g.met.D.Disk.only_now c.args.devs.now c.requires.up c.requires.ready (Err call.Memory) (λ no. cc))

pub returns-in_err-again-clause-looks : goal.returns-in_err-again-clause-looks
returns-in_err-again-clause-looks g c =
    let p = err_from_is_err_and c.from_residual-in_err-again.result c.from_residual-in_err-again.ensures.1 in
    rw (p.1, p.2) (looks_err g.D.Disk.state g.D.Disk.images c.args.devs.now c.requests.new.devs c.requires.up c.requires.ready c.in_err-again.field-0.0 c.in_err-again.ensures.looks)

pub next_plan-requires-clause-up : goal.next_plan-requires-clause-up
next_plan-requires-clause-up g c = c.in_ok-again.ensures.looks.serves.up (λ is. cc)

pub next_plan-requires-clause-ready : goal.next_plan-requires-clause-ready
next_plan-requires-clause-ready g c = c.in_ok-again.ensures.looks.serves.ready (λ is. cc)

pub next_plan-requires-clause-idle : goal.next_plan-requires-clause-idle
next_plan-requires-clause-idle g c = subst (λ (d : ClientDevs). IsIdle d c.args.client) (sym (c.in_ok-again.ensures.looks.serves.same (λ is. cc))) c.requires.idle

pub next_plan-requires-clause-opened : goal.next_plan-requires-clause-opened
next_plan-requires-clause-opened g c = ap (λ (d : ClientDevs). record_at d c.args.table) (c.in_ok-again.ensures.looks.serves.same (λ is. cc)) ∙ c.requires.opened

pub next_plan-requires-clause-small : goal.next_plan-requires-clause-small
next_plan-requires-clause-small g c = table_small (devs g.D.Disk.state c.args.devs.now) c.args.client c.args.table c.requires.idle c.args.opened.now c.requires.opened

pub returns-in_err-next-clause-looks : goal.returns-in_err-next-clause-looks
returns-in_err-next-clause-looks g c =
    let s = g.D.Disk.state in
    let im = g.D.Disk.images in
    let mid = c.requests.new.devs in
    let l = c.in_ok-again.ensures.looks in
    let p = err_from_is_err_and c.from_residual-in_err-next.result c.from_residual-in_err-next.ensures.1 in
    rw (p.1, p.2) (looks_then s im c.args.devs.now c.next_plan.new.devs c.requires.up c.requires.ready mid c.in_ok-again.again (Err c.in_err-next.field-0.0) l
    (looks_err s im mid c.next_plan.new.devs (l.serves.up (λ is. cc)) (l.serves.ready (λ is. cc)) c.in_err-next.field-0.0 c.in_err-next.ensures.looks))

pub returns-clause-looks : goal.returns-clause-looks
returns-clause-looks g c =
    let s = g.D.Disk.state in
    let im = g.D.Disk.images in
    looks_other s im c.args.devs.now c.next_plan.new.devs c.requires.up c.requires.ready c.in_ok-next.next (Ok _) (looks_then s im c.args.devs.now c.next_plan.new.devs c.requires.up c.requires.ready c.requests.new.devs c.in_ok-again.again (Ok c.in_ok-next.next) c.in_ok-again.ensures.looks c.in_ok-next.ensures.looks) (λ no. cc)

pub returns-clause-syncs : goal.returns-clause-syncs
returns-clause-syncs g c =
    let s = g.D.Disk.state in
    let same = c.in_ok-again.ensures.looks.serves.same (λ is. cc) in
    let n = c.in_ok-next.ensures.next in
    let next = subst (λ (d : ClientDevs). IsNextOf d c.args.client c.args.table (first_ready d c.args.table n.rows) c.in_ok-next.next) same n.is in
    syncs_of s c.args.devs.now c.args.client c.args.table c.args.opened.now c.requires.opened c.args.waiting.now c.in_ok-rows.rows.items n.rows c.in_ok-rows.ensures n.noted
    (record { again = c.in_ok-again.again; next = c.in_ok-next.next; stale = record { outs = c.requests.new.stale; ready = c.next_plan.new.stale } })
    (λ meaning named. c.in_ok-again.ensures.sends meaning named ∙ ap (all_asked_again meaning c.args.client (devs s c.args.devs.now) c.args.table) c.as_slice.ensures.value) next

pub returns-clause-stale : goal.returns-clause-stale
returns-clause-stale g c =
    let s = g.D.Disk.state in
    let same = c.in_ok-again.ensures.looks.serves.same (λ is. cc) in
    let none = c.new-outs.ensures.items in
    let free = c.new-ready.ensures.items in
    record {
      outs = c.in_ok-again.ensures.stale (subst (NoneWaits (devs s c.args.devs.now) c.args.table) (sym none) tt);
      ready = subst (λ (d : ClientDevs). NoneSends d c.args.table c.next_plan.new.stale.items) same (c.in_ok-next.ensures.stale (subst (NoneSends (devs s c.requests.new.devs) c.args.table) (sym free) tt));
    }
