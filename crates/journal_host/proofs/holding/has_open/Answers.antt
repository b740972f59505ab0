use Rattle.std.proofs.Common.{Bool, Ok, ap, ◌∙◌}
use Rattle.std.proofs.lemmas.Result.{err_from_is_err_and}
use Rattle.std.specs.Prelude.{is_some}
use Rattle.journal_host.proofs.Shut.{look_fails, look_closed, look_open, still_up}
use Rattle.journal_host.proofs.holding.has_open.Goals as goal

pub returns-in_err-closed : goal.returns-in_err-closed
returns-in_err-closed g c =
    let p = err_from_is_err_and c.from_residual.result c.from_residual.ensures.1 in
    rw (p.1, p.2) (look_fails g.D.Disk.state g.D.Disk.images c.args.table (λ opened. is_some opened) c.args.node.now c.has_closed.new.self c.has_closed.result c.has_closed.ensures.held c.has_closed.ensures.reads
    c.has_closed.ensures.phases c.in_err-closed.field-0.0 c.in_err-closed.was)

pub returns-then-closed : goal.returns-then-closed
returns-then-closed g c =
    look_closed g.D.Disk.state g.D.Disk.images c.args.table (λ opened. is_some opened) c.args.node.now c.has_closed.new.self c.has_closed.result c.has_closed.ensures.held c.has_closed.ensures.reads c.has_closed.ensures.phases
    (c.in_ok-closed.was ∙ ap (λ (b : Bool). Ok b) c.if-closed.true)

pub has_opened-requires : goal.has_opened-requires
has_opened-requires g c = record {
  node = c.has_closed.ensures.node;
  up = still_up g.D.Disk.state g.D.Disk.images c.args.table (λ opened. is_some opened) c.args.node.now c.has_closed.new.self c.has_closed.result c.has_closed.ensures.held c.has_closed.ensures.reads c.has_closed.ensures.phases
      (c.in_ok-closed.was ∙ ap (λ (b : Bool). Ok b) c.if-closed.false) c.requires.node c.requires.up;
}

pub returns : goal.returns
returns g c =
    look_open g.D.Disk.state g.D.Disk.images c.args.table (λ opened. is_some opened) c.args.node.now c.has_closed.new.self c.has_closed.result c.has_closed.ensures.held c.has_closed.ensures.reads c.has_closed.ensures.phases
    (c.in_ok-closed.was ∙ ap (λ (b : Bool). Ok b) c.if-closed.false) c.requires.node c.requires.up c.has_opened.new.self c.has_opened.result c.has_closed.ensures.plans c.has_opened.ensures.held c.has_opened.ensures.reads
    c.has_opened.ensures.phases
