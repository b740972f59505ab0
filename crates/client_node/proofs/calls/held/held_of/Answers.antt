use Rattle.std.proofs.Common.{Ok, None, sym, ◌∙◌, ap, subst}
use Rattle.std.proofs.lemmas.Result.{err_from_is_err_and}
use Rattle.client_journal.specs.Devs.{ClientDevs}
use Rattle.client_journal.specs.Standing.{devs}
use Rattle.client_node.specs.Answers.{record_at}
use Rattle.client_node.specs.Node.{StandsFor}
use Rattle.client_node.proofs.NamedChunks.{not_held}
use Rattle.client_node.proofs.Serving.{looks_then, looks_err, looks_other}
use Rattle.client_node.proofs.calls.held.held_of.Goals as goal

pub returns-in_err-found-clause-looks : goal.returns-in_err-found-clause-looks
returns-in_err-found-clause-looks g c =
    let p = err_from_is_err_and c.from_residual.result c.from_residual.ensures.1 in
    rw (p.1, p.2) (looks_err g.D.Disk.state g.D.Disk.images c.args.devs.now c.find_table.new.devs c.requires.up c.requires.ready c.in_err-found.field-0.0 c.in_err-found.ensures.looks)

pub returns-in-None-clause-looks : goal.returns-in-None-clause-looks
returns-in-None-clause-looks g c = looks_other g.D.Disk.state g.D.Disk.images c.args.devs.now c.find_table.new.devs c.requires.up c.requires.ready _ (Ok None) c.in_ok-found.ensures.looks (λ no. cc)

pub returns-in-None-clause-held : goal.returns-in-None-clause-held
returns-in-None-clause-held g c client disk w st steady = not_held client (devs g.D.Disk.state c.args.devs.now) disk st w steady c.args.table c.args.row.now (c.in_ok-found.ensures.found ∙ c.in-None.is)

pub held_in-requires-clause-up : goal.held_in-requires-clause-up
held_in-requires-clause-up g c = c.in_ok-found.ensures.looks.serves.up (λ is. cc)

pub held_in-requires-clause-ready : goal.held_in-requires-clause-ready
held_in-requires-clause-ready g c = c.in_ok-found.ensures.looks.serves.ready (λ is. cc)

pub held_in-requires-clause-opened : goal.held_in-requires-clause-opened
held_in-requires-clause-opened g c =
    let same = c.in_ok-found.ensures.looks.serves.same (λ is. cc) in
    ap (λ (d : ClientDevs). record_at d c.args.table) same ∙ (c.in_ok-found.ensures.found ∙ c.in-Some.is)

pub returns-clause-looks : goal.returns-clause-looks
returns-clause-looks g c = looks_then g.D.Disk.state g.D.Disk.images c.args.devs.now c.held_in.new.devs c.requires.up c.requires.ready c.find_table.new.devs c.in_ok-found.found c.held_in.result c.in_ok-found.ensures.looks c.held_in.ensures.looks

pub returns-clause-held : goal.returns-clause-held
returns-clause-held g c client disk w st steady =
    let same = c.in_ok-found.ensures.looks.serves.same (λ is. cc) in
    c.held_in.ensures.held client disk w (subst (λ (d : ClientDevs). StandsFor client d disk) (sym same) st) steady
