use Rattle.std.proofs.Common.{Ok, sym, ◌∙◌, ap, subst}
use Rattle.std.proofs.lemmas.Result.{err_from_is_err_and, IfOk-weaker}
use Rattle.client_journal.specs.Devs.{ClientDevs}
use Rattle.client_journal.specs.Standing.{devs}
use Rattle.step_tables.specs.declared.message.Message.TheVariants.{TornRowResponse}
use Rattle.client_node.specs.Answers.{record_at}
use Rattle.client_node.specs.declared.planning.Reaction.TheVariants.{Nothing}
use Rattle.client_node.specs.Readied.{IsIdle, Reacts}
use Rattle.client_node.proofs.Serving.{looks_err, looks_other, looks_then}
use Rattle.client_node.proofs.WholeRows.{torn_closed}
use Rattle.client_node.proofs.torn.place_torn.Goals as goal

pub returns-in_err-found-clause-looks : goal.returns-in_err-found-clause-looks
returns-in_err-found-clause-looks g c =
    let p = err_from_is_err_and c.from_residual.result c.from_residual.ensures.1 in
    rw (p.1, p.2) (looks_err g.D.Disk.state g.D.Disk.images c.args.devs.now c.find_table.new.devs c.requires.up c.requires.ready c.in_err-found.field-0.0 c.in_err-found.ensures.looks)

pub returns-in-None-clause-looks : goal.returns-in-None-clause-looks
returns-in-None-clause-looks g c = looks_other g.D.Disk.state g.D.Disk.images c.args.devs.now c.find_table.new.devs c.requires.up c.requires.ready _ (Ok Nothing) c.in_ok-found.ensures.looks (λ no. cc)

pub returns-in-None-clause-reacts : goal.returns-in-None-clause-reacts
returns-in-None-clause-reacts g c = torn_closed (devs g.D.Disk.state c.args.devs.now) c.args.client c.args.answer.now (c.in_ok-found.ensures.found ∙ c.in-None.is)

pub place_header-requires-clause-up : goal.place_header-requires-clause-up
place_header-requires-clause-up g c = c.in_ok-found.ensures.looks.serves.up (λ is. cc)

pub place_header-requires-clause-ready : goal.place_header-requires-clause-ready
place_header-requires-clause-ready g c = c.in_ok-found.ensures.looks.serves.ready (λ is. cc)

pub place_header-requires-clause-idle : goal.place_header-requires-clause-idle
place_header-requires-clause-idle g c = subst (λ (d : ClientDevs). IsIdle d c.args.client) (sym (c.in_ok-found.ensures.looks.serves.same (λ is. cc))) c.requires.idle

pub place_header-requires-clause-opened : goal.place_header-requires-clause-opened
place_header-requires-clause-opened g c =
    let same = c.in_ok-found.ensures.looks.serves.same (λ is. cc) in
    ap (λ (d : ClientDevs). record_at d c.args.answer.now.table) same ∙ (c.in_ok-found.ensures.found ∙ c.in-Some.is)

pub returns-clause-looks : goal.returns-clause-looks
returns-clause-looks g c = looks_then g.D.Disk.state g.D.Disk.images c.args.devs.now c.place_header.new.devs c.requires.up c.requires.ready c.find_table.new.devs c.in_ok-found.found c.place_header.result c.in_ok-found.ensures.looks c.place_header.ensures.looks

pub returns-clause-reacts : goal.returns-clause-reacts
returns-clause-reacts g c =
    let same = c.in_ok-found.ensures.looks.serves.same (λ is. cc) in
    IfOk-weaker c.place_header.result _ _ (λ o r. subst (λ (d : ClientDevs). Reacts d c.args.client (TornRowResponse c.args.answer.now) o) same r) c.place_header.ensures.reacts
