use Rattle.value_codec.proofs.SchemaReads.{schema_reads}
use Rattle.value_codec.proofs.CellReads.{cell_reads}
use Rattle.value_codec.proofs.PieceReads.{name_reads, piece_reads}
use Rattle.value_codec.proofs.ContentReads.{content_reads}
use Rattle.value_codec.proofs.laws.values_were_spelled_so.Goals as goal

pub returns-clause-cell : goal.returns-clause-cell
returns-clause-cell c = λ bytes rest x fits e. cell_reads.takes bytes x rest fits e

pub returns-clause-name : goal.returns-clause-name
returns-clause-name c = λ bytes rest x fits e. name_reads.takes bytes x rest fits e

pub returns-clause-piece : goal.returns-clause-piece
returns-clause-piece c = λ bytes rest x fits e. piece_reads.takes bytes x rest fits e

pub returns-clause-content : goal.returns-clause-content
returns-clause-content c = λ bytes rest x fits e. content_reads.takes bytes x rest fits e

pub returns-clause-schema : goal.returns-clause-schema
returns-clause-schema c = λ bytes rest x fits e. schema_reads.takes bytes x rest fits e
