use Rattle.status_log.proofs.Fields.{id_read}
use Rattle.status_log.proofs.payload.take_id.Goals as goal

pub returns-clause-value : goal.returns-clause-value
returns-clause-value c = id_read c.args.bytes.now c.args.at c.id_of-id.result c.id_of-id.ensures c.if-rest-lt16.false
