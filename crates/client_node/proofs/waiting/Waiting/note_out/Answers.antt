use Rattle.std.proofs.Common.{◌≡◌}
use Rattle.std.proofs.lemmas.Result.{err_from_is_err_and}
use Rattle.slot_store.specs.Data.{key_at}
use Rattle.client_node.proofs.MoreKeys.{one_more, none_more}
use Rattle.client_node.proofs.waiting.Waiting.note_out.Goals as goal

pub returns-in_err-insert-clause-more : goal.returns-in_err-insert-clause-more
returns-in_err-insert-clause-more c = record { outs = none_more c.args.self.now.outs c.insert.new.self c.in_err-insert.ensures.err; ready = λ key is. is; conflicts = λ key is. is }

pub returns-clause-more : goal.returns-clause-more
returns-clause-more c =
    record { outs = one_more c.args.self.now.outs c.insert.new.self (key_at c.args.table c.args.row) c.in_ok-insert.ensures.updates; ready = λ key is. is; conflicts = λ key is. is }

pub returns-clause-noted : goal.returns-clause-noted
returns-clause-noted c = c.in_ok-insert.ensures.updates.1
