use Rattle.std.proofs.Common.{drop, arith}
use Rattle.stab_base.specs.Codec.{IsBytes}
use Rattle.value_codec.specs.Spelling.{HasCellSpelling, cell_spelling}
use Rattle.value_codec.specs.Reading.{cell_at}
use Rattle.value_codec.proofs.CellReads.{cell_reads}
use Rattle.value_codec.proofs.ValueStops.{cell_stop}
use Rattle.value_codec.proofs.Answering.{found, only, refused}
use Rattle.value_codec.proofs.cell_reader.take_cell.Goals as goal

pub returns-clause-found : goal.returns-clause-found
returns-clause-found c =
    let fits : IsBytes c.args.bytes.now = λ i. omega (arith, c.type_inv.bytes i) in
    found HasCellSpelling cell_spelling cell_at cell_reads c.args.bytes.now c.args.at c.read_cell.result fits c.read_cell.ensures.value

pub returns-clause-only : goal.returns-clause-only
returns-clause-only c = only HasCellSpelling cell_spelling cell_at cell_reads c.args.bytes.now c.args.at c.read_cell.result c.read_cell.ensures.value

pub returns-clause-refused : goal.returns-clause-refused
returns-clause-refused c =
    let fits : IsBytes c.args.bytes.now = λ i. omega (arith, c.type_inv.bytes i) in
    refused HasCellSpelling cell_spelling cell_at cell_stop c.args.bytes.now c.args.at (λ x. (x.0, drop x.1 c.args.bytes.now)) c.read_cell.result fits c.read_cell.ensures.value
