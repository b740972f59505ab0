use Rattle.std.proofs.Common.{drop, arith}
use Rattle.stab_base.specs.Codec.{IsBytes}
use Rattle.value_codec.specs.SchemaSpelling.{HasSchemaSpelling, schema_spelling}
use Rattle.value_codec.specs.SchemaReading.{schema_at}
use Rattle.value_codec.proofs.SchemaReads.{schema_reads}
use Rattle.value_codec.proofs.SchemaStops.{schema_stop}
use Rattle.value_codec.proofs.Answering.{found, only, refused}
use Rattle.value_codec.proofs.schema_reader.take_schema.Goals as goal

pub returns-clause-found : goal.returns-clause-found
returns-clause-found c =
    let fits : IsBytes c.args.bytes.now = λ i. omega (arith, c.type_inv.bytes i) in
    found HasSchemaSpelling schema_spelling schema_at schema_reads c.args.bytes.now c.args.at c.read_schema.result fits c.read_schema.ensures.value

pub returns-clause-only : goal.returns-clause-only
returns-clause-only c = only HasSchemaSpelling schema_spelling schema_at schema_reads c.args.bytes.now c.args.at c.read_schema.result c.read_schema.ensures.value

pub returns-clause-refused : goal.returns-clause-refused
returns-clause-refused c =
    let fits : IsBytes c.args.bytes.now = λ i. omega (arith, c.type_inv.bytes i) in
    refused HasSchemaSpelling schema_spelling schema_at schema_stop c.args.bytes.now c.args.at (λ x. (x.0, drop x.1 c.args.bytes.now)) c.read_schema.result fits c.read_schema.ensures.value
