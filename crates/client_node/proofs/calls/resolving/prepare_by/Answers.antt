use Rattle.std.proofs.Common.{◌≡◌, Err, ◌∙◌, subst}
use Rattle.std.proofs.lemmas.Result.{err_from_is_err_and}
use Rattle.conflicts.specs.declared.pair.Choice.{Choice}
use Rattle.conflicts.specs.declared.pair.Pair.{Pair}
use Rattle.conflicts.specs.Stored.{chosen}
use Rattle.client_journal.specs.Devs.{ClientDevs}
use Rattle.client_journal.specs.Standing.{devs}
use Rattle.client_node.specs.Resolving.{ChoosesSo}
use Rattle.client_node.proofs.Looked.{opened_spelled}
use Rattle.client_node.proofs.MadeChoices.{chooses_there, same_choice, resolved_so, unresolved_so, resolves, unread}
use Rattle.client_node.proofs.Serving.{looks_then, looks_err}
use Rattle.client_node.proofs.calls.resolving.prepare_by.Goals as goal

pub returns-in_err-at-clause-looks : goal.returns-in_err-at-clause-looks
returns-in_err-at-clause-looks g c =
    let p = err_from_is_err_and c.from_residual.result c.from_residual.ensures.1 in
    rw (p.1, p.2) (looks_err g.D.Disk.state g.D.Disk.images c.args.devs.now c.open_contended.new.devs c.requires.up c.requires.ready c.in_err-at.field-0.0 c.in_err-at.ensures.looks)

pub returns-in_err-at-clause-prepares : goal.returns-in_err-at-clause-prepares
returns-in_err-at-clause-prepares g c disk st choice by waiting phase is_open =
    let p = err_from_is_err_and c.from_residual.result c.from_residual.ensures.1 in
    rw (p.1, p.2) (c.in_err-at.ensures.refused c.args.client waiting phase c.args.gate.is_linked c.args.seen choice is_open)

pub choose_by-requires-clause-up : goal.choose_by-requires-clause-up
choose_by-requires-clause-up g c = c.in_ok-at.ensures.looks.serves.up (λ is. cc)

pub choose_by-requires-clause-ready : goal.choose_by-requires-clause-ready
choose_by-requires-clause-ready g c = c.in_ok-at.ensures.looks.serves.ready (λ is. cc)

pub returns-in_err-choice-clause-looks : goal.returns-in_err-choice-clause-looks
returns-in_err-choice-clause-looks g c =
    let s = g.D.Disk.state in
    let im = g.D.Disk.images in
    let mid = c.open_contended.new.devs in
    let l = c.in_ok-at.ensures.looks in
    let p = err_from_is_err_and c.from_residual-in_err-choice.result c.from_residual-in_err-choice.ensures.1 in
    let e = c.in_err-choice.field-0.0 in
    rw (p.1, p.2) (looks_then s im c.args.devs.now c.choose_by.new.devs c.requires.up c.requires.ready mid c.in_ok-at.at (Err e) l
    (looks_err s im mid c.choose_by.new.devs (l.serves.up (λ is. cc)) (l.serves.ready (λ is. cc)) e c.in_err-choice.ensures.looks))

pub returns-in_err-choice-clause-prepares : goal.returns-in_err-choice-clause-prepares
returns-in_err-choice-clause-prepares g c disk st choice by waiting phase is_open =
    let k = c.in_ok-at.ensures in
    let p = err_from_is_err_and c.from_residual-in_err-choice.result c.from_residual-in_err-choice.ensures.1 in
    rw (p.1, p.2) (unread g.D.Disk.state c.args.devs.now c.args.table c.args.row c.in_ok-at.at k.opened k.idle waiting phase (is_open ∙ k.open) c.args.gate.is_linked c.args.client c.args.seen choice c.in_err-choice.field-0.0 c.in_err-choice.ensures.refused)

pub resolve_row-requires-clause-up : goal.resolve_row-requires-clause-up
resolve_row-requires-clause-up g c = c.in_ok-choice.ensures.looks.serves.up (λ is. cc)

pub resolve_row-requires-clause-ready : goal.resolve_row-requires-clause-ready
resolve_row-requires-clause-ready g c = c.in_ok-choice.ensures.looks.serves.ready (λ is. cc)

pub resolve_row-requires-clause-spelled : goal.resolve_row-requires-clause-spelled
resolve_row-requires-clause-spelled g c = opened_spelled (devs g.D.Disk.state c.args.devs.now) c.args.table c.args.row c.in_ok-at.at c.in_ok-at.ensures.opened c.requires.spelled

pub returns-clause-looks : goal.returns-clause-looks
returns-clause-looks g c =
    let s = g.D.Disk.state in
    let im = g.D.Disk.images in
    let mid = c.open_contended.new.devs in
    let l = c.in_ok-at.ensures.looks in
    looks_then s im c.args.devs.now c.resolve_row.new.devs c.requires.up c.requires.ready mid c.in_ok-at.at c.resolve_row.result l
    (looks_then s im mid c.resolve_row.new.devs (l.serves.up (λ is. cc)) (l.serves.ready (λ is. cc)) c.choose_by.new.devs c.in_ok-choice.choice c.resolve_row.result c.in_ok-choice.ensures.looks c.resolve_row.ensures.looks)

pub returns-clause-prepares : goal.returns-clause-prepares
returns-clause-prepares g c disk st choice by waiting phase is_open =
    let s = g.D.Disk.state in
    let old = c.args.devs.now in
    let k = c.in_ok-at.ensures in
    let still = k.looks.serves.same (λ is. cc) in
    let at = c.in_ok-at.at in
    let made = c.in_ok-choice.choice in
    let n = c.args.client in
    let d = devs s old in
    let P : Pair → Choice → Type 0 = λ pair x. x ≡ chosen c.args.by pair in
    let there = chooses_there n d disk st c.args.table c.args.row at k.opened P made (subst (λ (e : ClientDevs). ChoosesSo e at P made) still c.in_ok-choice.ensures.chosen) in
    let equal = same_choice n d disk st c.args.table c.args.row at k.opened (chosen c.args.by) made choice there by in
    let now = devs s c.choose_by.new.devs in
    let r = c.resolve_row.result in
    resolves s old c.args.table c.args.row at k.opened k.idle waiting phase (is_open ∙ k.open) c.args.gate.is_linked n c.args.seen choice c.choose_by.new.devs (c.in_ok-choice.ensures.looks.serves.same (λ is. cc) ∙ still)
    (c.in_ok-choice.ensures.looks.agenda ∙ k.looks.agenda) c.requires.spelled r (resolved_so now n at c.args.seen made choice equal r c.resolve_row.ensures.resolved) (unresolved_so now n at c.args.seen made choice equal r c.resolve_row.ensures.refused)
