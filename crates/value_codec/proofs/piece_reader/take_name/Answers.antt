use Rattle.std.proofs.Common.{drop, arith}
use Rattle.stab_base.specs.Codec.{IsBytes}
use Rattle.value_codec.specs.Spelling.{HasNameSpelling, name_spelling}
use Rattle.value_codec.specs.Reading.{name_at}
use Rattle.value_codec.proofs.PieceReads.{name_reads}
use Rattle.value_codec.proofs.ValueStops.{name_stop}
use Rattle.value_codec.proofs.Answering.{found, only, refused}
use Rattle.value_codec.proofs.piece_reader.take_name.Goals as goal

pub returns-clause-found : goal.returns-clause-found
returns-clause-found c =
    let fits : IsBytes c.args.bytes.now = λ i. omega (arith, c.type_inv.bytes i) in
    found HasNameSpelling name_spelling name_at name_reads c.args.bytes.now c.args.at c.read_name.result fits c.read_name.ensures.value

pub returns-clause-only : goal.returns-clause-only
returns-clause-only c = only HasNameSpelling name_spelling name_at name_reads c.args.bytes.now c.args.at c.read_name.result c.read_name.ensures.value

pub returns-clause-refused : goal.returns-clause-refused
returns-clause-refused c =
    let fits : IsBytes c.args.bytes.now = λ i. omega (arith, c.type_inv.bytes i) in
    refused HasNameSpelling name_spelling name_at name_stop c.args.bytes.now c.args.at (λ x. (x.0, drop x.1 c.args.bytes.now)) c.read_name.result fits c.read_name.ensures.value
