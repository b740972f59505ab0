use Rattle.value_codec.proofs.ValueStops.{cell_stop, name_stop, piece_stop, content_stop}
use Rattle.value_codec.proofs.SchemaStops.{schema_stop}
use Rattle.value_codec.proofs.laws.faults_are_the_first_bad_places.Goals as goal

pub returns-clause-cell : goal.returns-clause-cell
returns-clause-cell c = cell_stop.fails

pub returns-clause-name : goal.returns-clause-name
returns-clause-name c = name_stop.fails

pub returns-clause-piece : goal.returns-clause-piece
returns-clause-piece c = piece_stop.fails

pub returns-clause-content : goal.returns-clause-content
returns-clause-content c = content_stop.fails

pub returns-clause-schema : goal.returns-clause-schema
returns-clause-schema c = schema_stop.fails
