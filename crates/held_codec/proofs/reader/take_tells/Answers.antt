use Rattle.std.proofs.Common.{drop, arith}
use Rattle.stab_base.specs.Codec.{IsBytes}
use Rattle.value_codec.proofs.Answering.{found, refused}
use Rattle.value_codec.specs.Spelling.{list_spelling}
use Rattle.field_codec.specs.Fields.{all_at}
use Rattle.field_codec.specs.Forms.{AreEach}
use Rattle.field_codec.proofs.FieldCodecs.{list_codec}
use Rattle.held_codec.specs.Spelling.{tell_spelling, HasTell}
use Rattle.held_codec.specs.Reading.{tell_at}
use Rattle.held_codec.proofs.HeldCodecs.{tell_codec}
use Rattle.held_codec.proofs.reader.take_tells.Goals as goal

pub returns-clause-found : goal.returns-clause-found
returns-clause-found c =
    let fits : IsBytes c.args.bytes.now = λ i. omega (arith, c.type_inv.bytes i) in
    found (AreEach HasTell) (list_spelling tell_spelling) (all_at tell_at) (list_codec tell_codec).reads c.args.bytes.now c.args.at c.take_list.result fits c.take_list.ensures.value

pub returns-clause-refused : goal.returns-clause-refused
returns-clause-refused c =
    let fits : IsBytes c.args.bytes.now = λ i. omega (arith, c.type_inv.bytes i) in
    refused (AreEach HasTell) (list_spelling tell_spelling) (all_at tell_at) (list_codec tell_codec).stops c.args.bytes.now c.args.at (λ x. (x.0, drop x.1 c.args.bytes.now)) c.take_list.result fits c.take_list.ensures.value
