use Rattle.message_parts.specs.Parts.{fragment_of}
use Rattle.part_client.proofs.Bringing.{row_grows}
use Rattle.part_client.proofs.table.grow_row.Goals as goal

pub returns-in-Some-clause-grown : goal.returns-in-Some-clause-grown
returns-in-Some-clause-grown c xs keeps =
    row_grows (fragment_of c.args.f) xs c.args.rows.now (c.get_mut.follows.lender
    (record { head = c.in-Some.x.now.head; came = c.take_chunk.new.came })) c.in-Some.x.now c.take_chunk.new.came keeps c.in-Some.ensures.value
    (c.get_mut.follows.holds (record { head = c.in-Some.x.now.head; came = c.take_chunk.new.came })) c.take_chunk.ensures.came
