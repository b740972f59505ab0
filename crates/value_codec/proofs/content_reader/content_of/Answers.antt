use Rattle.std.proofs.Common.{arith}
use Rattle.stab_base.specs.Codec.{IsBytes}
use Rattle.value_codec.specs.Spelling.{HasContentSpelling, content_spelling}
use Rattle.value_codec.specs.Reading.{content_at}
use Rattle.value_codec.proofs.ContentReads.{content_reads}
use Rattle.value_codec.proofs.ValueStops.{content_stop}
use Rattle.value_codec.proofs.Answering.{whole_found, whole_only, whole_refused}
use Rattle.value_codec.proofs.content_reader.content_of.Goals as goal

pub returns-clause-found : goal.returns-clause-found
returns-clause-found c =
    let fits : IsBytes c.args.bytes.now = λ i. omega (arith, c.type_inv.bytes i) in
    whole_found HasContentSpelling content_spelling content_at content_reads c.args.bytes.now c.whole_content.result fits c.whole_content.ensures

pub returns-clause-only : goal.returns-clause-only
returns-clause-only c = whole_only HasContentSpelling content_spelling content_at content_reads c.args.bytes.now c.whole_content.result c.whole_content.ensures

pub returns-clause-refused : goal.returns-clause-refused
returns-clause-refused c =
    let fits : IsBytes c.args.bytes.now = λ i. omega (arith, c.type_inv.bytes i) in
    whole_refused HasContentSpelling content_spelling content_at content_reads content_stop c.args.bytes.now c.whole_content.result fits c.whole_content.ensures
