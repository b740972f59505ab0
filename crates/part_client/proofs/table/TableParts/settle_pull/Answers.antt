use Rattle.part_client.proofs.Settled.{whole_settled, tears_settled, waits_settled}
use Rattle.part_client.proofs.table.TableParts.settle_pull.Goals as goal

pub returns-in-Whole-clause-settled : goal.returns-in-Whole-clause-settled
returns-in-Whole-clause-settled c table a k all = rw c.in-Whole.is (whole_settled table a c.args.self.now k c.in-Whole.message)

pub returns-in_ok-_is_new-in-Tears-clause-settled : goal.returns-in_ok-_is_new-in-Tears-clause-settled
returns-in_ok-_is_new-in-Tears-clause-settled c table a k all =
    rw c.in-Tears.is (tears_settled table a c.args.self.now k c.in-Tears.row c.insert.new.self c.in_ok-_is_new-in-Tears.ensures.updates.0)

pub returns-in-Waits-clause-settled : goal.returns-in-Waits-clause-settled
returns-in-Waits-clause-settled c table a k all = rw c.in-Waits.is (waits_settled table a c.args.self.now k c.in-Waits.x (rw c.in-Waits.is at all))
