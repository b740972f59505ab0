-- A part that has a frame has columns and places of 32 bits.
use Rattle.std.proofs.Common.{◌≡◌, ◌+◌, ◌<◌, ◌≤◌, true, List, [], ◌∷◌, length, Option, Some, None, refl, arith, length-append}
use Rattle.std.specs.Prelude.{◌^◌, nat_lt, option_map}
use Rattle.std.specs.List.{AllByRecursion, list_all, flat_map}
use Rattle.std.proofs.lemmas.Bool.Decides.{nat_tests}
use Rattle.row_value.specs.declared.content.Cell.{Cell}
use Rattle.row_value.specs.declared.content.Cell.TheVariants as cells
use Rattle.row_value.specs.declared.pieces.Piece.{Piece}
use Rattle.row_value.specs.declared.pieces.PieceObject.{PieceObject}
use Rattle.row_value.specs.declared.pieces.PieceContent.{PieceContent}
use Rattle.row_value.specs.declared.pieces.PieceContent.TheVariants.{Gone, Row}
use Rattle.value_codec.specs.Spelling.{list_spelling, cell_spelling, object_spelling, content_spelling, HasObjectSpelling, HasContentSpelling}
use Rattle.field_codec.specs.Forms.{IsOption, option_spelling}
use Rattle.sync_msgs.specs.Spelling.{header_spelling, HasHeaderSpelling}
use Rattle.assemblies.specs.Places.{has_few, has_places}
use Rattle.part_tables.specs.Parts.{Part, Asks, Responds, Pulls, Answers, BringsUp, BringsDown, AsksTorn, AnswersTorn, RowHead}
use Rattle.part_store.specs.Calls as at_store
use Rattle.part_client.specs.Calls as at_client
use Rattle.message_parts.specs.Parts.{row_header_at}
use Rattle.part_network.specs.Packets.{HasPartFrame}
use Rattle.frame_laws.proofs.Said.{two_true}
use Rattle.frame_laws.proofs.Bodies.{request_len, pulled_len, torn_answer_len, header_len}

-- ---- a content of a message that a frame has room for

each_cell : (some : List Cell) → length some ≤ length (flat_map cell_spelling some)
each_cell [] = omega arith
each_cell (cell ∷ some) = omega (arith, one cell, each_cell some, length-append (cell_spelling cell) (flat_map cell_spelling some))
  where
    one : (cell : Cell) → 1 ≤ length (cell_spelling cell)
    one (cells.Int n) = omega arith
    one (cells.Bool b) = omega arith
    one (cells.Text text) = omega arith

each_object : (objects : List PieceObject) → length objects ≤ length (flat_map object_spelling objects)
each_object [] = omega arith
each_object (object ∷ objects) = omega (arith, each_object objects, length-append (object_spelling object) (flat_map object_spelling objects))

few_pieces : (objects : List PieceObject) → AllByRecursion HasObjectSpelling objects → list_all has_few objects ≡ true
few_pieces [] all = refl
few_pieces (object ∷ objects) all = two_true (has_few object) (list_all has_few objects) (few object.pieces all.0.count) (few_pieces objects all.1)
  where
    few : (pieces : List Piece) → length pieces < 2 ^ 32 → nat_lt (length pieces) (2 ^ 32) ≡ true
    few pieces low = grind (arith, nat_tests)

places : (content : PieceContent) → HasContentSpelling content → length (content_spelling content) < 1048576 → has_places content ≡ true
places Gone h few = refl
places (Row some objects) h few =
    two_true (nat_lt (length some + length objects) (2 ^ 32)) (list_all has_few objects)
    (let low : length some + length objects < 2 ^ 32 =
    omega (arith, few, each_cell some, each_object objects, length-append (list_spelling cell_spelling some) (list_spelling object_spelling objects)) in
    grind (arith, nat_tests))
    (few_pieces objects h.each_object)

row_places : (o : Option RowHead) → IsOption HasHeaderSpelling (option_map row_header_at o) → length (option_spelling header_spelling (option_map row_header_at o)) < 1048576
    → at_client.row_has_places o ≡ true
row_places None h few = refl
row_places (Some row) h few = places row.content h.1.1.1.1.spelled (omega (arith, few, header_len (row_header_at row)))

-- ---- parts

pub gathered_at_store : (p : Part) → HasPartFrame p → at_store.may_gather (Some p) ≡ true
gathered_at_store (Asks head) f = places head.content f.spelled.1.1.1.1.1.1
    (omega (
      arith,
      f.room,
      request_len (record {
        client = head.client;
        token = 0;
        table = head.table;
        row = head.row;
        number = head.number;
        base = head.base;
        content = head.content;
      }),
    ))
gathered_at_store (Responds response) f = refl
gathered_at_store (Pulls pull) f = refl
gathered_at_store (Answers head) f = refl
gathered_at_store (BringsUp fragment) f = refl
gathered_at_store (BringsDown fragment) f = refl
gathered_at_store (AsksTorn torn) f = refl
gathered_at_store (AnswersTorn head) f = refl

pub gathered_at_client : (p : Part) → HasPartFrame p → at_client.may_gather (Some p) ≡ true
gathered_at_client (Asks head) f = refl
gathered_at_client (Responds response) f = refl
gathered_at_client (Pulls pull) f = refl
gathered_at_client (Answers head) f = row_places head.header f.spelled.1.1.1.1.1
    (omega (
      arith,
      f.room,
      pulled_len (record {
        client = head.client;
        table = head.table;
        from = head.from;
        to = head.to;
        latest = head.latest;
        header = option_map row_header_at head.header;
      }),
    ))
gathered_at_client (BringsUp fragment) f = refl
gathered_at_client (BringsDown fragment) f = refl
gathered_at_client (AsksTorn torn) f = refl
gathered_at_client (AnswersTorn head) f = row_places head.header f.spelled.1.1.1
    (omega (
      arith,
      f.room,
      torn_answer_len (record {
        client = head.client;
        table = head.table;
        row = head.row;
        header = option_map row_header_at head.header;
      }),
    ))
