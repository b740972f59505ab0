use Rattle.std.proofs.Common.{drop, arith}
use Rattle.stab_base.specs.Codec.{IsBytes}
use Rattle.value_codec.specs.Spelling.{HasPieceSpelling, piece_spelling}
use Rattle.value_codec.specs.Reading.{piece_at}
use Rattle.value_codec.proofs.PieceReads.{piece_reads}
use Rattle.value_codec.proofs.ValueStops.{piece_stop}
use Rattle.value_codec.proofs.Answering.{found, only, refused}
use Rattle.value_codec.proofs.piece_reader.take_piece.Goals as goal

pub returns-clause-found : goal.returns-clause-found
returns-clause-found c =
    let fits : IsBytes c.args.bytes.now = λ i. omega (arith, c.type_inv.bytes i) in
    found HasPieceSpelling piece_spelling piece_at piece_reads c.args.bytes.now c.args.at c.read_piece.result fits c.read_piece.ensures.value

pub returns-clause-only : goal.returns-clause-only
returns-clause-only c = only HasPieceSpelling piece_spelling piece_at piece_reads c.args.bytes.now c.args.at c.read_piece.result c.read_piece.ensures.value

pub returns-clause-refused : goal.returns-clause-refused
returns-clause-refused c =
    let fits : IsBytes c.args.bytes.now = λ i. omega (arith, c.type_inv.bytes i) in
    refused HasPieceSpelling piece_spelling piece_at piece_stop c.args.bytes.now c.args.at (λ x. (x.0, drop x.1 c.args.bytes.now)) c.read_piece.result fits c.read_piece.ensures.value
