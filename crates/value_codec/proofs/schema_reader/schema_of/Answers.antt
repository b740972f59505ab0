use Rattle.std.proofs.Common.{arith}
use Rattle.stab_base.specs.Codec.{IsBytes}
use Rattle.value_codec.specs.SchemaSpelling.{HasSchemaSpelling, schema_spelling}
use Rattle.value_codec.specs.SchemaReading.{schema_at}
use Rattle.value_codec.proofs.SchemaReads.{schema_reads}
use Rattle.value_codec.proofs.SchemaStops.{schema_stop}
use Rattle.value_codec.proofs.Answering.{whole_found, whole_only, whole_refused}
use Rattle.value_codec.proofs.schema_reader.schema_of.Goals as goal

pub returns-clause-found : goal.returns-clause-found
returns-clause-found c =
    let fits : IsBytes c.args.bytes.now = λ i. omega (arith, c.type_inv.bytes i) in
    whole_found HasSchemaSpelling schema_spelling schema_at schema_reads c.args.bytes.now c.whole_schema.result fits c.whole_schema.ensures

pub returns-clause-only : goal.returns-clause-only
returns-clause-only c = whole_only HasSchemaSpelling schema_spelling schema_at schema_reads c.args.bytes.now c.whole_schema.result c.whole_schema.ensures

pub returns-clause-refused : goal.returns-clause-refused
returns-clause-refused c =
    let fits : IsBytes c.args.bytes.now = λ i. omega (arith, c.type_inv.bytes i) in
    whole_refused HasSchemaSpelling schema_spelling schema_at schema_reads schema_stop c.args.bytes.now c.whole_schema.result fits c.whole_schema.ensures
