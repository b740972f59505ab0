use Rattle.part_client.proofs.Settled.{row_whole, row_waits}
use Rattle.part_client.proofs.table.TableParts.settle_row.Goals as goal

pub returns-in-Whole-clause-settled : goal.returns-in-Whole-clause-settled
returns-in-Whole-clause-settled c table a k all =
    rw c.in-Whole.is (row_whole table a c.args.self.now k c.args.row c.in-Whole.message c.remove.new.self c.remove-in-Whole-2.new.self c.remove.ensures.updates.0 c.remove-in-Whole-2.ensures.updates.0)

pub returns-in_ok-insert-in-Waits-clause-settled : goal.returns-in_ok-insert-in-Waits-clause-settled
returns-in_ok-insert-in-Waits-clause-settled c table a k all =
    rw c.in-Waits.is (row_waits table a c.args.self.now k c.args.row c.in-Waits.x c.insert.new.self (rw c.in-Waits.is at all) c.in_ok-insert-in-Waits.ensures.updates.0)
