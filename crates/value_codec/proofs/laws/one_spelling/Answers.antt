use Rattle.value_codec.specs.SchemaSpelling.{HasSchemaSpelling, schema_spelling}
use Rattle.value_codec.specs.SchemaReading.{schema_at}
use Rattle.value_codec.proofs.SchemaReads.{schema_reads}
use Rattle.value_codec.specs.Spelling.{HasCellSpelling, cell_spelling, HasNameSpelling, name_spelling, HasPieceSpelling, piece_spelling, HasContentSpelling, content_spelling}
use Rattle.value_codec.specs.Reading.{cell_at, name_at, piece_at, content_at}
use Rattle.value_codec.proofs.CellReads.{cell_reads}
use Rattle.value_codec.proofs.PieceReads.{name_reads, piece_reads}
use Rattle.value_codec.proofs.ContentReads.{content_reads}
use Rattle.value_codec.proofs.FieldReads.{one_value}
use Rattle.value_codec.proofs.laws.one_spelling.Goals as goal

pub returns-clause-cell : goal.returns-clause-cell
returns-clause-cell c = one_value HasCellSpelling cell_spelling cell_at cell_reads

pub returns-clause-name : goal.returns-clause-name
returns-clause-name c = one_value HasNameSpelling name_spelling name_at name_reads

pub returns-clause-piece : goal.returns-clause-piece
returns-clause-piece c = one_value HasPieceSpelling piece_spelling piece_at piece_reads

pub returns-clause-content : goal.returns-clause-content
returns-clause-content c = one_value HasContentSpelling content_spelling content_at content_reads

pub returns-clause-schema : goal.returns-clause-schema
returns-clause-schema c = one_value HasSchemaSpelling schema_spelling schema_at schema_reads
