use Rattle.std.proofs.Common.{inr, Some, None, Ok, Err, sym, ◌∙◌, subst}
use Rattle.std.proofs.lemmas.Result.{err_from_is_err_and}
use Rattle.held_value.specs.declared.tell.Tell.TheVariants as tell
use Rattle.table_model.specs.declared.line.ClientFact.TheVariants as client
use Rattle.client_journal.specs.Devs.{ClientDevs}
use Rattle.client_journal.specs.Redone.{redone}
use Rattle.client_journal.specs.Standing.{devs}
use Rattle.client_node.specs.Altering.{IsOfTable}
use Rattle.client_node.proofs.AlteredPlans.{closes_none, closes_some}
use Rattle.client_node.proofs.Serving.{looks_err, looks_other, looks_then}
use Rattle.client_node.proofs.calls.altering.prepare_close.Goals as goal

pub returns-in_err-there-clause-looks : goal.returns-in_err-there-clause-looks
returns-in_err-there-clause-looks g c =
    let p = err_from_is_err_and c.from_residual.result c.from_residual.ensures.1 in
    rw (p.1, p.2) (looks_err g.D.Disk.state g.D.Disk.images c.args.devs.now c.find_idle.new.devs c.requires.up c.requires.ready c.in_err-there.field-0.0 c.in_err-there.ensures.looks)

pub returns-in_err-there-clause-alters : goal.returns-in_err-there-clause-alters
returns-in_err-there-clause-alters g c =
    let p = err_from_is_err_and c.from_residual.result c.from_residual.ensures.1 in
    rw (p.1, p.2) (record { idle = tt; alters = tt; refused = c.in_err-there.ensures.refused })

pub returns-in-None-clause-looks : goal.returns-in-None-clause-looks
returns-in-None-clause-looks g c = looks_other g.D.Disk.state g.D.Disk.images c.args.devs.now c.find_idle.new.devs c.requires.up c.requires.ready c.in_ok-there.there (Ok None) c.in_ok-there.ensures.looks (λ no. cc)

pub returns-in-None-clause-alters : goal.returns-in-None-clause-alters
returns-in-None-clause-alters g c = record {
  idle = c.in_ok-there.ensures.idle;
  alters = closes_none (devs g.D.Disk.state c.args.devs.now) c.args.client c.args.table c.in_ok-there.there c.in_ok-there.ensures.found (sym c.open_record.ensures ∙ c.in-None.is);
  refused = tt;
}

pub plan_change-requires-clause-up : goal.plan_change-requires-clause-up
plan_change-requires-clause-up g c = c.in_ok-there.ensures.looks.serves.up (λ is. cc)

pub plan_change-requires-clause-ready : goal.plan_change-requires-clause-ready
plan_change-requires-clause-ready g c = c.in_ok-there.ensures.looks.serves.ready (λ is. cc)

pub returns-in_err-planned-in-Some-clause-looks : goal.returns-in_err-planned-in-Some-clause-looks
returns-in_err-planned-in-Some-clause-looks g c =
    let p = err_from_is_err_and c.from_residual-in_err-planned-in-Some.result c.from_residual-in_err-planned-in-Some.ensures.1 in
    let e = c.in_err-planned-in-Some.field-0.0 in
    rw (p.1, p.2) (looks_err g.D.Disk.state g.D.Disk.images c.args.devs.now c.plan_change.new.devs c.requires.up c.requires.ready e
    (looks_then g.D.Disk.state g.D.Disk.images c.args.devs.now c.plan_change.new.devs c.requires.up c.requires.ready c.find_idle.new.devs c.in_ok-there.there (Err e) c.in_ok-there.ensures.looks c.in_err-planned-in-Some.ensures.looks))

pub returns-in_err-planned-in-Some-clause-alters : goal.returns-in_err-planned-in-Some-clause-alters
returns-in_err-planned-in-Some-clause-alters g c =
    let p = err_from_is_err_and c.from_residual-in_err-planned-in-Some.result c.from_residual-in_err-planned-in-Some.ensures.1 in
    rw (p.1, p.2) (record { idle = tt; alters = tt; refused = inr c.in_err-planned-in-Some.ensures.refused })

pub returns-in_ok-planned-in-Some-clause-looks : goal.returns-in_ok-planned-in-Some-clause-looks
returns-in_ok-planned-in-Some-clause-looks g c =
    let x = c.in_ok-planned-in-Some.planned in
    looks_other g.D.Disk.state g.D.Disk.images c.args.devs.now c.plan_change.new.devs c.requires.up c.requires.ready x (Ok (Some x))
    (looks_then g.D.Disk.state g.D.Disk.images c.args.devs.now c.plan_change.new.devs c.requires.up c.requires.ready c.find_idle.new.devs c.in_ok-there.there (Ok x) c.in_ok-there.ensures.looks c.in_ok-planned-in-Some.ensures.looks) (λ no. cc)

pub returns-in_ok-planned-in-Some-clause-alters : goal.returns-in_ok-planned-in-Some-clause-alters
returns-in_ok-planned-in-Some-clause-alters g c =
    let d = devs g.D.Disk.state c.args.devs.now in
    let same = c.in_ok-there.ensures.looks.serves.same (λ is. cc) in
    record {
      idle = c.in_ok-there.ensures.idle;
      alters = closes_some d c.args.client c.args.table c.in_ok-there.there c.in_ok-there.ensures.found c.in-Some.opened (sym c.open_record.ensures ∙ c.in-Some.is) c.in_ok-planned-in-Some.planned
          (subst (λ (e : ClientDevs). IsOfTable c.args.table (redone e).last (record { state = 2; schema = c.in-Some.opened.schema }) tell.Dropped (client.Dropped c.args.client c.args.table) c.in_ok-planned-in-Some.planned) same c.in_ok-planned-in-Some.ensures.plan);
      refused = tt;
    }
