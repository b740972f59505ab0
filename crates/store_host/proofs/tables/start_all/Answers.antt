use Rattle.std.proofs.Common.{Err, ◌+◌, drop, refl, ◌∙◌, rules}
use Rattle.std.proofs.lemmas.Result.{err_from_is_err_and}
use Rattle.std.specs.Prelude.{slice_index_or}
use Rattle.store_host.proofs.Moving.{later_cause, begins, begins_next, ends_well, ends_badly, drop_next, drop_done}
use Rattle.disk_trait.specs.Fuse.{inner_of}
use Rattle.store_host.proofs.Froms.{SameDisk}
use Rattle.store_host.proofs.Lefts.{none_still, still_then}
use Rattle.store_host.proofs.tables.start_all.Goals as goal

pub loop-table-init : goal.loop-table-init
loop-table-init g c = record {
  begun = λ w h. begins g.D.Disk.state w c.args.numbers.now c.args.outs.now c.args.tables.now h;
  left = λ w h. none_still g.D.Disk.state g.D.Disk.images
      (λ d image left. g.met.D.Disk.only_now (inner_of d) image left) w c.args.tables.now h;
  counted = λ q. refl;
}

pub start_at-requires : goal.start_at-requires
start_at-requires g c = let n = c.requires in let b = c.loop-table.invariant.begun n.0 n.1 in (b.here, b.held)

pub loop-table-preserved : goal.loop-table-preserved
loop-table-preserved g c =
    let ns = c.args.numbers.now in
    let i = c.loop-table.table-index in
    record {
      begun = λ w h.
          let b = c.loop-table.invariant.begun w h in
          begins_next g.D.Disk.state w ns c.args.outs.now c.loop-table.tables c.start_at.new.tables c.loop-table.outs c.start_at.new.outs (slice_index_or ns i 0) (drop i ns) (drop (i + 1) ns)
          (drop_next ns i (search rules)) b
          (c.in_ok-start_at.ensures.started b.here b.held);
      left = λ w h.
          let b = c.loop-table.invariant.begun w h in
          still_then g.D.Disk.state g.D.Disk.images SameDisk w b.here c.args.tables.now c.loop-table.tables c.start_at.new.tables h b.held b.from (λ s t q. q)
          (c.loop-table.invariant.left w h)
          (c.in_ok-start_at.ensures.left b.here b.held);
      counted = λ q. c.in_ok-start_at.ensures.cause.counted (λ e. absurd cc) q ∙ c.loop-table.invariant.counted q;
    }

pub returns-in_err-start_at-clause-refused : goal.returns-in_err-start_at-clause-refused
returns-in_err-start_at-clause-refused g c w h =
    let p = err_from_is_err_and c.from_residual.result c.from_residual.ensures.1 in
    let ns = c.args.numbers.now in
    let i = c.loop-table.table-index in
    let b = c.loop-table.invariant.begun w h in
    rw (p.1, p.2) (λ failed.
    let k = c.in_err-start_at.ensures.refused b.here b.held failed in
    ends_badly g.D.Disk.state w ns c.args.outs.now c.loop-table.tables c.start_at.new.tables c.loop-table.outs c.start_at.new.outs (slice_index_or ns i 0) (drop i ns) (drop (i + 1) ns)
    (drop_next ns i (search rules)) b k.0 k.1)

pub returns-in_err-start_at-clause-cause : goal.returns-in_err-start_at-clause-cause
returns-in_err-start_at-clause-cause g c =
    let p = err_from_is_err_and c.from_residual.result c.from_residual.ensures.1 in
    rw (p.1, p.2) (later_cause g.D.Disk.state c.args.tables.now c.loop-table.tables c.start_at.new.tables (Err c.in_err-start_at.field-0.0) c.loop-table.invariant.counted c.in_err-start_at.ensures.cause)

pub returns-clause-started : goal.returns-clause-started
returns-clause-started g c w h =
    let ns = c.args.numbers.now in
    let i = c.loop-table.table-index in
    ends_well g.D.Disk.state w ns c.args.outs.now c.loop-table.tables c.loop-table.outs (drop i ns) (drop_done ns i (search rules)) (c.loop-table.invariant.begun w h)

pub returns-in_err-start_at-clause-left : goal.returns-in_err-start_at-clause-left
returns-in_err-start_at-clause-left g c w h =
    let b = c.loop-table.invariant.begun w h in
    still_then g.D.Disk.state g.D.Disk.images SameDisk w b.here c.args.tables.now c.loop-table.tables c.start_at.new.tables h b.held b.from (λ s t q. q) (c.loop-table.invariant.left w h)
    (c.in_err-start_at.ensures.left b.here b.held)

pub returns-clause-left : goal.returns-clause-left
returns-clause-left g c w h = c.loop-table.invariant.left w h
