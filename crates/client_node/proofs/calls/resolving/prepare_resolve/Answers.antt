use Rattle.std.proofs.Common.{◌∙◌}
use Rattle.std.proofs.lemmas.Result.{err_from_is_err_and}
use Rattle.client_journal.specs.Standing.{devs}
use Rattle.client_node.proofs.Looked.{opened_spelled}
use Rattle.client_node.proofs.MadeChoices.{resolves}
use Rattle.client_node.proofs.Serving.{looks_then, looks_err}
use Rattle.client_node.proofs.calls.resolving.prepare_resolve.Goals as goal

pub returns-in_err-at-clause-looks : goal.returns-in_err-at-clause-looks
returns-in_err-at-clause-looks g c =
    let p = err_from_is_err_and c.from_residual.result c.from_residual.ensures.1 in
    rw (p.1, p.2) (looks_err g.D.Disk.state g.D.Disk.images c.args.devs.now c.open_contended.new.devs c.requires.up c.requires.ready c.in_err-at.field-0.0 c.in_err-at.ensures.looks)

pub returns-in_err-at-clause-prepares : goal.returns-in_err-at-clause-prepares
returns-in_err-at-clause-prepares g c waiting phase is_open =
    let p = err_from_is_err_and c.from_residual.result c.from_residual.ensures.1 in
    rw (p.1, p.2) (c.in_err-at.ensures.refused c.args.client waiting phase c.args.gate.is_linked c.args.seen c.args.choice is_open)

pub resolve_row-requires-clause-up : goal.resolve_row-requires-clause-up
resolve_row-requires-clause-up g c = c.in_ok-at.ensures.looks.serves.up (λ is. cc)

pub resolve_row-requires-clause-ready : goal.resolve_row-requires-clause-ready
resolve_row-requires-clause-ready g c = c.in_ok-at.ensures.looks.serves.ready (λ is. cc)

pub resolve_row-requires-clause-spelled : goal.resolve_row-requires-clause-spelled
resolve_row-requires-clause-spelled g c = opened_spelled (devs g.D.Disk.state c.args.devs.now) c.args.table c.args.row c.in_ok-at.at c.in_ok-at.ensures.opened c.requires.spelled

pub returns-clause-looks : goal.returns-clause-looks
returns-clause-looks g c =
    looks_then g.D.Disk.state g.D.Disk.images c.args.devs.now c.resolve_row.new.devs c.requires.up c.requires.ready c.open_contended.new.devs c.in_ok-at.at c.resolve_row.result c.in_ok-at.ensures.looks
    c.resolve_row.ensures.looks

pub returns-clause-prepares : goal.returns-clause-prepares
returns-clause-prepares g c waiting phase is_open =
    let k = c.in_ok-at.ensures in
    resolves g.D.Disk.state c.args.devs.now c.args.table c.args.row c.in_ok-at.at k.opened k.idle waiting phase (is_open ∙ k.open) c.args.gate.is_linked c.args.client c.args.seen c.args.choice c.open_contended.new.devs
    (k.looks.serves.same (λ is. cc)) k.looks.agenda c.requires.spelled c.resolve_row.result c.resolve_row.ensures.resolved c.resolve_row.ensures.refused
