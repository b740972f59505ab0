use Rattle.value_codec.proofs.FieldReads.{id_read}
use Rattle.value_codec.proofs.field_reader.take_id.Goals as goal

pub returns-clause-value : goal.returns-clause-value
returns-clause-value c = id_read c.args.bytes.now c.args.at c.id_of-id.result c.requires c.id_of-id.ensures c.if-rest-lt16.false
