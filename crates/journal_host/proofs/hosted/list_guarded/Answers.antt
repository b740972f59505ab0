use Rattle.std.proofs.Common.{◌≡◌, inl, inr, Bool, true, false, Some, Ok, refl, ap, ◌∙◌}
use Rattle.table_model.specs.declared.line.Answer.TheVariants as answers
use Rattle.table_model.specs.declared.line.Refusal.TheVariants as refusals
use Rattle.step_tables.specs.ClientMoves.{Conflicts, no_shape, table_at, seen}
use Rattle.client_node.specs.Closed.{closed_in}
use Rattle.client_node.specs.Node.{HasPlansBelow}
use Rattle.client_node.specs.Phases.{is_open}
use Rattle.client_node.proofs.PlanNumbers.{next_below}
use Rattle.journal_host.proofs.Shut.{up_still, hosted_still, not_disk, ok_so, on_so, open_same, cause_then, looks_err}
use Rattle.journal_host.proofs.Shut.{shut_made, fault_falls, fault_spent, fault_kept, fault_cause, reads_looks, shut_listed, open_lists, phases_then}
use Rattle.journal_host.proofs.hosted.list_guarded.Goals as goal

pub list_up-requires : goal.list_up-requires
list_up-requires g c =
    let st = g.D.Disk.state in
    let old = c.args.node.now in
    let found = c.has_closed.result in
    let mid = c.has_closed.new.self in
    let here = (c.in-Ok-false.is ∙ ap (λ (b : Bool). Ok b) c.in-Ok-false.field-0-test) in
    let n = c.requires.node in
    let k = reads_looks st g.D.Disk.images n.0 old mid found (c.has_closed.ensures.reads n.0 n.1) in
    record { node = c.has_closed.ensures.node; up = up_still st n.0 old mid found false here k n.1 c.requires.up }

pub returns-in-Ok-false : goal.returns-in-Ok-false
returns-in-Ok-false g c =
    let number = c.args.client in
    let st = g.D.Disk.state in
    let old = c.args.node.now in
    let before = c.args.outs.now.items in
    let found = c.has_closed.result in
    let mid = c.has_closed.new.self in
    let new = c.list_up.new.node in
    let after = c.list_up.new.outs.items in
    let here = (c.in-Ok-false.is ∙ ap (λ (b : Bool). Ok b) c.in-Ok-false.field-0-test) in
    record {
      listed = λ cut s h.
          let k = reads_looks st g.D.Disk.images s old mid found (c.has_closed.ensures.reads s h.client) in
          let there = (hosted_still st cut number s old mid h found false here k) in
          let same = (open_same st s old mid c.has_closed.ensures.phases (up_still st s old mid found false here k h.client c.requires.up)) in
          let free = shut_listed s c.args.table false (ok_so (λ closed. closed ≡ closed_in (table_at (seen s.disk) c.args.table)) found false here (c.has_closed.ensures.held s h.client)) in
          open_lists st cut number s old mid h new before after c.args.table same free c.list_up.new.pairs c.args.pairs.now c.list_up.result
          (c.list_up.ensures.listed cut s there);
      spent = λ cut s n h below.
          let k = reads_looks st g.D.Disk.images s old mid found (c.has_closed.ensures.reads s h.client) in
          c.list_up.ensures.spent cut s n (hosted_still st cut c.args.client s old mid h found false here k)
          (on_so (HasPlansBelow st n mid) found false here (c.has_closed.ensures.plans n below));
      phases =
          let n = c.requires.node in
          let k = reads_looks st g.D.Disk.images n.0 old mid found (c.has_closed.ensures.reads n.0 n.1) in
          phases_then st n.0 old mid new c.has_closed.ensures.phases (up_still st n.0 old mid found false here k n.1 c.requires.up) c.list_up.ensures.phases;
      ends = record {
        kept = λ cut s h.
            let k = reads_looks st g.D.Disk.images s old mid found (c.has_closed.ensures.reads s h.client) in
            c.list_up.ensures.ends.kept cut s (hosted_still st cut c.args.client s old mid h found false here k);
        cause =
            let n = c.requires.node in
            let k = reads_looks st g.D.Disk.images n.0 old mid found (c.has_closed.ensures.reads n.0 n.1) in
            cause_then st n.0 old mid new c.list_up.result (k.counted (not_disk found false here)) c.list_up.ensures.ends.cause;
        plans = λ n below.
            c.list_up.ensures.ends.plans n (on_so (HasPlansBelow st n mid) found false here (c.has_closed.ensures.plans n below));
      };
    }

pub returns-in-Ok-true : goal.returns-in-Ok-true
returns-in-Ok-true g c =
    let number = c.args.client in
    let st = g.D.Disk.state in
    let old = c.args.node.now in
    let before = c.args.outs.now.items in
    let found = c.has_closed.result in
    let mid = c.has_closed.new.self in
    let here = (c.in-Ok-true.is ∙ ap (λ (b : Bool). Ok b) c.in-Ok-true.field-0-test) in
    record {
      listed = λ cut s h.
          let k = reads_looks st g.D.Disk.images s old mid found (c.has_closed.ensures.reads s h.client) in
          let there = (hosted_still st cut number s old mid h found true here k) in
          let closed = shut_listed s c.args.table true (ok_so (λ closed. closed ≡ closed_in (table_at (seen s.disk) c.args.table)) found true here (c.has_closed.ensures.held s h.client)) in
          inr (refl, inl (shut_made st cut number s old mid h before before refl (is_open old) (Conflicts c.args.table) (answers.Refused refusals.NoTable) closed there (no_shape, refl)));
      spent = λ cut s n h below. tt;
      phases = c.has_closed.ensures.phases;
      ends = record {
        kept = λ cut s h. tt;
        cause =
            let n = c.requires.node in
            let k = reads_looks st g.D.Disk.images n.0 old mid found (c.has_closed.ensures.reads n.0 n.1) in
            record { counted = λ none. k.counted (not_disk found true here); cause = λ bad. absurd cc };
        plans = λ n below.
            next_below st n mid (on_so (HasPlansBelow st n mid) found true here (c.has_closed.ensures.plans n below));
      };
    }

pub returns-in-Err : goal.returns-in-Err
returns-in-Err g c =
    let st = g.D.Disk.state in
    let old = c.args.node.now in
    let before = c.args.outs.now.items in
    let found = c.has_closed.result in
    let mid = c.has_closed.new.self in
    record {
      listed = λ cut s h.
          let k = looks_err st s old mid {T = Bool} found c.in-Err.fault c.in-Err.is (reads_looks st g.D.Disk.images s old mid found (c.has_closed.ensures.reads s h.client)) in
          rw c.answered.ensures (fault_falls st cut c.args.client s old mid h before before refl c.in-Err.fault k _ (λ answer x. inr (refl, inr x)));
      spent = λ cut s n h below.
          let k = looks_err st s old mid {T = Bool} found c.in-Err.fault c.in-Err.is (reads_looks st g.D.Disk.images s old mid found (c.has_closed.ensures.reads s h.client)) in
          rw c.answered.ensures (fault_spent st s old mid c.in-Err.fault k n (Some s));
      phases = c.has_closed.ensures.phases;
      ends = record {
        kept = λ cut s h.
            let k = looks_err st s old mid {T = Bool} found c.in-Err.fault c.in-Err.is (reads_looks st g.D.Disk.images s old mid found (c.has_closed.ensures.reads s h.client)) in
            rw c.answered.ensures (fault_kept st cut c.args.client s old mid h before before refl c.in-Err.fault k);
        cause =
            let n = c.requires.node in
            let k = looks_err st n.0 old mid {T = Bool} found c.in-Err.fault c.in-Err.is (reads_looks st g.D.Disk.images n.0 old mid found (c.has_closed.ensures.reads n.0 n.1)) in
            rw c.answered.ensures (fault_cause st n.0 old mid c.in-Err.fault k);
        plans = λ n below.
            let a = c.requires.node in (reads_looks st g.D.Disk.images a.0 old mid found (c.has_closed.ensures.reads a.0 a.1)).plans n below;
      };
    }
