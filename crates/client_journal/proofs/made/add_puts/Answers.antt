use Rattle.std.proofs.Common.{◌∙◌, [], ◌∷◌, map, ap, arith}
use Rattle.std.proofs.lemmas.List.{map-append, length_push}
use Rattle.client_journal.specs.Standing.{write_of}
use Rattle.client_journal.proofs.Tasks.{puts_more}
use Rattle.client_journal.proofs.made.add_puts.Goals as goal

pub loop-bytes-preserved : goal.loop-bytes-preserved
loop-bytes-preserved c = record {
  count = omega (arith, c.loop-bytes.invariant.count, length_push c.loop-bytes.yielded c.in-Some.bytes);
  done = puts_more c.args.plan (map write_of c.args.tasks.now.items) (map write_of c.loop-bytes.tasks.items) (map write_of c.push_back.new.self.items) c.loop-bytes.yielded c.in-Some.bytes c.loop-bytes.ordinal c.loop-bytes.invariant.count c.loop-bytes.invariant.done
      (ap (map write_of) c.in_ok-push_back.ensures.items ∙ map-append write_of c.loop-bytes.tasks.items (_ ∷ []));
}
