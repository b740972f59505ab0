use Rattle.value_codec.proofs.SchemaReads.{schema_reads}
use Rattle.value_codec.proofs.CellReads.{cell_reads}
use Rattle.value_codec.proofs.PieceReads.{name_reads, piece_reads}
use Rattle.value_codec.proofs.ContentReads.{content_reads}
use Rattle.value_codec.proofs.laws.values_are_read_again.Goals as goal

pub returns-clause-cell : goal.returns-clause-cell
returns-clause-cell c = cell_reads.again

pub returns-clause-name : goal.returns-clause-name
returns-clause-name c = name_reads.again

pub returns-clause-piece : goal.returns-clause-piece
returns-clause-piece c = piece_reads.again

pub returns-clause-content : goal.returns-clause-content
returns-clause-content c = content_reads.again

pub returns-clause-schema : goal.returns-clause-schema
returns-clause-schema c = schema_reads.again
