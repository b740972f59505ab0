use Rattle.std.proofs.Common.{Bool, Ok, ap, ◌∙◌}
use Rattle.std.proofs.lemmas.Result.{err_from_is_err_and}
use Rattle.std.specs.Prelude.{option_map}
use Rattle.client_node.specs.HeldRows.{row_held}
use Rattle.journal_host.proofs.Shut.{look_fails, look_closed, look_open, still_up}
use Rattle.journal_host.proofs.holding.open_row.Goals as goal

pub returns-in_err-closed : goal.returns-in_err-closed
returns-in_err-closed g c =
    let p = err_from_is_err_and c.from_residual.result c.from_residual.ensures.1 in
    rw (p.1, p.2) (look_fails g.D.Disk.state g.D.Disk.images c.args.table (option_map (row_held c.args.row.now)) c.args.node.now c.has_closed.new.self c.has_closed.result c.has_closed.ensures.held c.has_closed.ensures.reads
    c.has_closed.ensures.phases c.in_err-closed.field-0.0 c.in_err-closed.was)

pub returns-then-closed : goal.returns-then-closed
returns-then-closed g c =
    look_closed g.D.Disk.state g.D.Disk.images c.args.table (option_map (row_held c.args.row.now)) c.args.node.now c.has_closed.new.self c.has_closed.result c.has_closed.ensures.held c.has_closed.ensures.reads c.has_closed.ensures.phases
    (c.in_ok-closed.was ∙ ap (λ (b : Bool). Ok b) c.if-closed.true)

pub held_row-requires : goal.held_row-requires
held_row-requires g c = record {
  node = c.has_closed.ensures.node;
  up = still_up g.D.Disk.state g.D.Disk.images c.args.table (option_map (row_held c.args.row.now)) c.args.node.now c.has_closed.new.self c.has_closed.result c.has_closed.ensures.held c.has_closed.ensures.reads c.has_closed.ensures.phases
      (c.in_ok-closed.was ∙ ap (λ (b : Bool). Ok b) c.if-closed.false) c.requires.node c.requires.up;
}

pub returns : goal.returns
returns g c =
    look_open g.D.Disk.state g.D.Disk.images c.args.table (option_map (row_held c.args.row.now)) c.args.node.now c.has_closed.new.self c.has_closed.result c.has_closed.ensures.held c.has_closed.ensures.reads c.has_closed.ensures.phases
    (c.in_ok-closed.was ∙ ap (λ (b : Bool). Ok b) c.if-closed.false) c.requires.node c.requires.up c.held_row.new.self c.held_row.result c.has_closed.ensures.plans c.held_row.ensures.held c.held_row.ensures.reads
    c.held_row.ensures.phases
