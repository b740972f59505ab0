use Rattle.std.proofs.Common.{Ok, Err, sym, ◌∙◌, ap}
use Rattle.std.specs.Prelude.{option_copied}
use Rattle.std.proofs.lemmas.Result.{err_from_is_err_and}
use Rattle.client_tables.specs.declared.shown.ShownAs.TheVariants as as_shown
use Rattle.client_journal.specs.Standing.{devs}
use Rattle.client_node.proofs.Serving.{looks_ok, looks_fault, looks_none}
use Rattle.client_node.proofs.Shown.{shown_so}
use Rattle.client_node.proofs.reading.read_shown.Goals as goal

pub returns-in_default-clause-looks : goal.returns-in_default-clause-looks
returns-in_default-clause-looks g c = looks_none g.D.Disk.state g.D.Disk.images g.met.D.Disk.only_now c.args.devs.now c.requires.up c.requires.ready _ (λ no. cc)

pub returns-in_err-content-clause-looks : goal.returns-in_err-content-clause-looks
returns-in_err-content-clause-looks g c =
    let p = err_from_is_err_and c.from_residual.result c.from_residual.ensures.1 in
    rw (p.1, p.2) (looks_fault g.D.Disk.state g.D.Disk.images c.args.devs.now c.read_whole.new.devs c.requires.up c.requires.ready c.in_err-content.field-0.0 c.in_err-content.ensures.asks)

pub returns-in-Clean-clause-looks : goal.returns-in-Clean-clause-looks
returns-in-Clean-clause-looks g c = looks_ok g.D.Disk.state g.D.Disk.images c.args.devs.now c.read_whole.new.devs c.requires.up c.requires.ready _ c.in_ok-content.ensures.asks _ (λ no. cc)

pub returns-in-Clean-clause-shown : goal.returns-in-Clean-clause-shown
returns-in-Clean-clause-shown g c =
    shown_so (devs g.D.Disk.state c.args.devs.now) c.args.slots.now c.in-Some.held.now c.in_ok-content.content (as_shown.Clean c.in-Clean.version) (sym c.shown_as.ensures ∙ c.in-Clean.is)
    (sym c.shown_content.ensures ∙ ap option_copied c.in-Some.is) c.in_ok-content.ensures.whole

pub returns-in-Mine-clause-looks : goal.returns-in-Mine-clause-looks
returns-in-Mine-clause-looks g c = looks_ok g.D.Disk.state g.D.Disk.images c.args.devs.now c.read_whole.new.devs c.requires.up c.requires.ready _ c.in_ok-content.ensures.asks _ (λ no. cc)

pub returns-in-Mine-clause-shown : goal.returns-in-Mine-clause-shown
returns-in-Mine-clause-shown g c =
    shown_so (devs g.D.Disk.state c.args.devs.now) c.args.slots.now c.in-Some.held.now c.in_ok-content.content (as_shown.Mine c.in-Mine.number) (sym c.shown_as.ensures ∙ c.in-Mine.is)
    (sym c.shown_content.ensures ∙ ap option_copied c.in-Some.is) c.in_ok-content.ensures.whole

pub returns-in-Conflict-clause-looks : goal.returns-in-Conflict-clause-looks
returns-in-Conflict-clause-looks g c = looks_ok g.D.Disk.state g.D.Disk.images c.args.devs.now c.read_whole.new.devs c.requires.up c.requires.ready _ c.in_ok-content.ensures.asks _ (λ no. cc)

pub returns-in-Conflict-clause-shown : goal.returns-in-Conflict-clause-shown
returns-in-Conflict-clause-shown g c =
    shown_so (devs g.D.Disk.state c.args.devs.now) c.args.slots.now c.in-Some.held.now c.in_ok-content.content (as_shown.Conflict c.in-Conflict.number c.in-Conflict.version) (sym c.shown_as.ensures ∙ c.in-Conflict.is)
    (sym c.shown_content.ensures ∙ ap option_copied c.in-Some.is) c.in_ok-content.ensures.whole
