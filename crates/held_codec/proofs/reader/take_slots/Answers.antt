use Rattle.std.proofs.Common.{drop, arith}
use Rattle.stab_base.specs.Codec.{IsBytes}
use Rattle.value_codec.proofs.Answering.{found, refused}
use Rattle.held_codec.specs.Spelling.{slots_spelling, HasSlots}
use Rattle.held_codec.specs.Reading.{slots_at}
use Rattle.held_codec.proofs.HeldCodecs.{slots_codec}
use Rattle.held_codec.proofs.reader.take_slots.Goals as goal

pub returns-clause-found : goal.returns-clause-found
returns-clause-found c =
    let fits : IsBytes c.args.bytes.now = λ i. omega (arith, c.type_inv.bytes i) in
    found HasSlots slots_spelling slots_at slots_codec.reads c.args.bytes.now c.args.at c.read_slots.result fits c.read_slots.ensures.value

pub returns-clause-refused : goal.returns-clause-refused
returns-clause-refused c =
    let fits : IsBytes c.args.bytes.now = λ i. omega (arith, c.type_inv.bytes i) in
    refused HasSlots slots_spelling slots_at slots_codec.stops c.args.bytes.now c.args.at (λ x. (x.0, drop x.1 c.args.bytes.now)) c.read_slots.result fits c.read_slots.ensures.value
