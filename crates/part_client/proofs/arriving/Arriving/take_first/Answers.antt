use Rattle.part_client.specs.declared.arriving.Arriving.{Arriving}
use Rattle.part_client.specs.Calls.{table_of}
use Rattle.part_client.proofs.Keepings.{part_nowhere, part_taken}
use Rattle.part_client.proofs.arriving.Arriving.take_first.Goals as goal

pub returns-clause-taken : goal.returns-clause-taken
returns-clause-taken c opened a p k none e same h =
    let new : Arriving = record { tables = c.insert.new.self; alloc = c.args.self.now.alloc } in
    part_taken c.args.self.now c.args.table p a same k new c.take.new.self c.in_ok-insert.ensures.updates.0 opened c.in_ok-taken.taken
    (c.in_ok-taken.ensures.taken opened a p e (c.new-it.ensures (table_of p) a (part_nowhere c.args.self.now c.args.table p a same k none)) h)
