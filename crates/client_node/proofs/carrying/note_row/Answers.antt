use Rattle.std.proofs.lemmas.Result.{err_from_is_err_and}
use Rattle.slot_store.specs.Data.{key_at}
use Rattle.client_node.proofs.NotedAtStart.{more_then}
use Rattle.client_node.proofs.carrying.note_row.Goals as goal

pub returns-in_err-note_ready-clause-more : goal.returns-in_err-note_ready-clause-more
returns-in_err-note_ready-clause-more c = more_then c.args.waiting.now c.note_out.new.waiting c.note_ready.new.waiting c.in_ok-note_out.ensures.more c.in_err-note_ready.ensures.more

pub returns-in_err-note_conflict-clause-more : goal.returns-in_err-note_conflict-clause-more
returns-in_err-note_conflict-clause-more c =
    more_then c.args.waiting.now c.note_out.new.waiting c.note_conflict.new.waiting c.in_ok-note_out.ensures.more
    (more_then c.note_out.new.waiting c.note_ready.new.waiting c.note_conflict.new.waiting c.in_ok-note_ready.ensures.more c.in_err-note_conflict.ensures.more)

pub returns-clause-more : goal.returns-clause-more
returns-clause-more c =
    more_then c.args.waiting.now c.note_out.new.waiting c.note_conflict.new.waiting c.in_ok-note_out.ensures.more
    (more_then c.note_out.new.waiting c.note_ready.new.waiting c.note_conflict.new.waiting c.in_ok-note_ready.ensures.more c.in_ok-note_conflict.ensures.more)

pub returns-clause-noted : goal.returns-clause-noted
returns-clause-noted c =
    let key = key_at c.args.table c.args.change.now.row in
    let m = c.in_ok-note_conflict.ensures.more in
    record {
      out = λ some. m.outs key (c.in_ok-note_ready.ensures.more.outs key (c.in_ok-note_out.ensures.noted some));
      ready = λ can. m.ready key (c.in_ok-note_ready.ensures.noted can);
      conflict = c.in_ok-note_conflict.ensures.noted;
      sized = c.in_ok-note_conflict.ensures.sized;
    }
