use Rattle.std.proofs.Common.{drop, arith}
use Rattle.stab_base.specs.Codec.{IsBytes}
use Rattle.value_codec.specs.Spelling.{HasKeptSpelling, content_spelling}
use Rattle.value_codec.specs.Reading.{kept_content_at}
use Rattle.value_codec.proofs.ContentReads.{kept_reads}
use Rattle.value_codec.proofs.ValueStops.{kept_stop}
use Rattle.value_codec.proofs.Answering.{found, only, refused}
use Rattle.value_codec.proofs.content_reader.take_kept_content.Goals as goal

pub returns-clause-found : goal.returns-clause-found
returns-clause-found c =
    let fits : IsBytes c.args.bytes.now = λ i. omega (arith, c.type_inv.bytes i) in
    found HasKeptSpelling content_spelling kept_content_at kept_reads c.args.bytes.now c.args.at c.read_content.result fits c.read_content.ensures.value

pub returns-clause-only : goal.returns-clause-only
returns-clause-only c = only HasKeptSpelling content_spelling kept_content_at kept_reads c.args.bytes.now c.args.at c.read_content.result c.read_content.ensures.value

pub returns-clause-refused : goal.returns-clause-refused
returns-clause-refused c =
    let fits : IsBytes c.args.bytes.now = λ i. omega (arith, c.type_inv.bytes i) in
    refused HasKeptSpelling content_spelling kept_content_at kept_stop c.args.bytes.now c.args.at (λ x. (x.0, drop x.1 c.args.bytes.now)) c.read_content.result fits c.read_content.ensures.value
