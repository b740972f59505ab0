use Rattle.std.proofs.Common.{◌≡◌, ℕ, true, List, subst}
use Rattle.std.specs.BTreeSet.{contains}
use Rattle.std.proofs.lemmas.Result.{err_from_is_err_and}
use Rattle.slot_store.specs.Data.{key_cmp, key_at}
use Rattle.client_node.proofs.MoreKeys.{one_more, none_more}
use Rattle.client_node.proofs.waiting.Waiting.note_conflict.Goals as goal

pub returns-in_err-insert-clause-more : goal.returns-in_err-insert-clause-more
returns-in_err-insert-clause-more c = record { conflicts = none_more c.args.self.now.conflicts c.insert.new.self c.in_err-insert.ensures.err; outs = λ key is. is; ready = λ key is. is }

pub returns-clause-more : goal.returns-clause-more
returns-clause-more c =
    record { conflicts = one_more c.args.self.now.conflicts c.insert.new.self (key_at c.args.table c.of_16_bytes-row.result) c.in_ok-insert.ensures.updates; outs = λ key is. is; ready = λ key is. is }

pub returns-clause-noted : goal.returns-clause-noted
returns-clause-noted c = subst (λ (row : List ℕ). contains key_cmp c.insert.new.self (key_at c.args.table row) ≡ true) c.of_16_bytes-row.ensures.same c.in_ok-insert.ensures.updates.1
