use Rattle.std.proofs.Common.{inr, Some, None, Ok, Err, ◌∙◌, subst}
use Rattle.std.proofs.lemmas.Result.{err_from_is_err_and}
use Rattle.held_value.specs.declared.tell.Tell.TheVariants as tell
use Rattle.table_model.specs.declared.line.ClientFact.TheVariants as client
use Rattle.client_journal.specs.Devs.{ClientDevs}
use Rattle.client_journal.specs.Redone.{redone}
use Rattle.client_journal.specs.Standing.{devs}
use Rattle.client_node.specs.Altering.{IsOfTable}
use Rattle.client_node.proofs.AlteredPlans.{opens_none, opens_some}
use Rattle.client_node.proofs.Serving.{looks_err, looks_other, looks_then}
use Rattle.client_node.proofs.calls.altering.prepare_open.Goals as goal

pub returns-in_err-found-clause-looks : goal.returns-in_err-found-clause-looks
returns-in_err-found-clause-looks g c =
    let p = err_from_is_err_and c.from_residual.result c.from_residual.ensures.1 in
    rw (p.1, p.2) (looks_err g.D.Disk.state g.D.Disk.images c.args.devs.now c.find_idle.new.devs c.requires.up c.requires.ready c.in_err-found.field-0.0 c.in_err-found.ensures.looks)

pub returns-in_err-found-clause-alters : goal.returns-in_err-found-clause-alters
returns-in_err-found-clause-alters g c =
    let p = err_from_is_err_and c.from_residual.result c.from_residual.ensures.1 in
    rw (p.1, p.2) (record { idle = tt; alters = tt; refused = c.in_err-found.ensures.refused })

pub returns-in-Some-clause-looks : goal.returns-in-Some-clause-looks
returns-in-Some-clause-looks g c = looks_other g.D.Disk.state g.D.Disk.images c.args.devs.now c.find_idle.new.devs c.requires.up c.requires.ready c.in_ok-found.found (Ok None) c.in_ok-found.ensures.looks (λ no. cc)

pub returns-in-Some-clause-alters : goal.returns-in-Some-clause-alters
returns-in-Some-clause-alters g c = record {
  idle = c.in_ok-found.ensures.idle;
  alters = opens_none (devs g.D.Disk.state c.args.devs.now) c.args.client c.args.table c.args.schema _ (c.in_ok-found.ensures.found ∙ c.in-Some.is);
  refused = tt;
}

pub plan_change-requires-clause-up : goal.plan_change-requires-clause-up
plan_change-requires-clause-up g c = c.in_ok-found.ensures.looks.serves.up (λ is. cc)

pub plan_change-requires-clause-ready : goal.plan_change-requires-clause-ready
plan_change-requires-clause-ready g c = c.in_ok-found.ensures.looks.serves.ready (λ is. cc)

pub returns-in_err-planned-in-None-clause-looks : goal.returns-in_err-planned-in-None-clause-looks
returns-in_err-planned-in-None-clause-looks g c =
    let p = err_from_is_err_and c.from_residual-in_err-planned-in-None.result c.from_residual-in_err-planned-in-None.ensures.1 in
    let e = c.in_err-planned-in-None.field-0.0 in
    rw (p.1, p.2) (looks_err g.D.Disk.state g.D.Disk.images c.args.devs.now c.plan_change.new.devs c.requires.up c.requires.ready e
    (looks_then g.D.Disk.state g.D.Disk.images c.args.devs.now c.plan_change.new.devs c.requires.up c.requires.ready c.find_idle.new.devs c.in_ok-found.found (Err e) c.in_ok-found.ensures.looks c.in_err-planned-in-None.ensures.looks))

pub returns-in_err-planned-in-None-clause-alters : goal.returns-in_err-planned-in-None-clause-alters
returns-in_err-planned-in-None-clause-alters g c =
    let p = err_from_is_err_and c.from_residual-in_err-planned-in-None.result c.from_residual-in_err-planned-in-None.ensures.1 in
    rw (p.1, p.2) (record { idle = tt; alters = tt; refused = inr c.in_err-planned-in-None.ensures.refused })

pub returns-in_ok-planned-in-None-clause-looks : goal.returns-in_ok-planned-in-None-clause-looks
returns-in_ok-planned-in-None-clause-looks g c =
    let x = c.in_ok-planned-in-None.planned in
    looks_other g.D.Disk.state g.D.Disk.images c.args.devs.now c.plan_change.new.devs c.requires.up c.requires.ready x (Ok (Some x))
    (looks_then g.D.Disk.state g.D.Disk.images c.args.devs.now c.plan_change.new.devs c.requires.up c.requires.ready c.find_idle.new.devs c.in_ok-found.found (Ok x) c.in_ok-found.ensures.looks c.in_ok-planned-in-None.ensures.looks) (λ no. cc)

pub returns-in_ok-planned-in-None-clause-alters : goal.returns-in_ok-planned-in-None-clause-alters
returns-in_ok-planned-in-None-clause-alters g c =
    let d = devs g.D.Disk.state c.args.devs.now in
    let same = c.in_ok-found.ensures.looks.serves.same (λ is. cc) in
    record {
      idle = c.in_ok-found.ensures.idle;
      alters = opens_some d c.args.client c.args.table c.args.schema c.requires.opens (c.in_ok-found.ensures.found ∙ c.in-None.is) c.in_ok-planned-in-None.planned
          (subst (λ (e : ClientDevs). IsOfTable c.args.table (redone e).last (record { state = 1; schema = c.args.schema }) tell.Opened (client.Opened c.args.client c.args.table) c.in_ok-planned-in-None.planned) same c.in_ok-planned-in-None.ensures.plan);
      refused = tt;
    }
