use Rattle.gated_tables.proofs.SameSchemas.{schemas_equal, schema_same}
use Rattle.gated_tables.proofs.schemas.same_schemas_are_equal.Goals as goal

pub returns-clause-equal : goal.returns-clause-equal
returns-clause-equal c = schemas_equal

pub returns-clause-same : goal.returns-clause-same
returns-clause-same c = schema_same
