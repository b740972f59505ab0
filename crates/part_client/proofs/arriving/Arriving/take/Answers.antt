use Rattle.std.proofs.Common.{sym, ap}
use Rattle.std.specs.Prelude.{is_some}
use Rattle.std.proofs.lemmas.Result.{IfOk-weaker}
use Rattle.part_client.specs.declared.arriving.Arriving.{Arriving}
use Rattle.part_client.proofs.Settled.{err_weaker}
use Rattle.part_client.proofs.Keepings.{part_there, part_taken, part_left}
use Rattle.part_client.proofs.arriving.Arriving.take.Goals as goal

pub returns-in-Some-clause-taken : goal.returns-in-Some-clause-taken
returns-in-Some-clause-taken c opened a p k e h =
    let new : Arriving = record { tables = c.get_mut.follows.lender c.take.new.self; alloc = c.args.self.now.alloc } in
    let same = c.table_of-table.ensures p e in
    IfOk-weaker c.take.result _ _
    (part_taken c.args.self.now c.table_of-table.result p a same k new c.take.new.self ((c.get_mut.follows.holds c.take.new.self).3 (ap is_some (sym c.in-Some.ensures.value))).0 opened)
    (c.take.ensures.taken opened a p e (part_there c.args.self.now c.table_of-table.result p a same k c.in-Some.it.now (sym c.in-Some.ensures.value)) h)

pub returns-in-Some-clause-memory : goal.returns-in-Some-clause-memory
returns-in-Some-clause-memory c a p k e =
    let new : Arriving = record { tables = c.get_mut.follows.lender c.take.new.self; alloc = c.args.self.now.alloc } in
    let same = c.table_of-table.ensures p e in
    err_weaker c.take.result _ _
    (part_left c.args.self.now c.table_of-table.result p a same k new c.take.new.self ((c.get_mut.follows.holds c.take.new.self).3 (ap is_some (sym c.in-Some.ensures.value))).0)
    (c.take.ensures.memory a p e (part_there c.args.self.now c.table_of-table.result p a same k c.in-Some.it.now (sym c.in-Some.ensures.value)))
