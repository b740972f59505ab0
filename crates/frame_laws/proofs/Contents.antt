-- A row of a table by pieces: it can be split, has a short spelling, and its chunks go as fragments.
use Rattle.std.proofs.Common.{◌≡◌, ℕ, suc, ◌+◌, ◌<◌, ◌≤◌, Bool, true, List, [], ◌∷◌, ◌++◌, length, refl, sym, ap, subst, arith, length-append}
use Rattle.std.specs.Prelude.{◌&&◌, ◌^◌, nat_lt, sum_by}
use Rattle.std.specs.List.{list_all, AllByRecursion}
use Rattle.std.proofs.lemmas.Bool.Decides.{nat_tests}
use Rattle.std.proofs.lemmas.List.Sums.{sum_by-cons}
use Rattle.row_value.specs.declared.schema.Schema.{Schema}
use Rattle.row_value.specs.declared.content.Cell.{Cell}
use Rattle.row_value.specs.declared.content.Content.{Content}
use Rattle.row_value.specs.declared.content.Content.TheVariants as contents
use Rattle.row_value.specs.declared.pieces.Piece.{Piece}
use Rattle.value_codec.specs.Spelling.{HasPieceSpelling, HasObjectSpelling, HasContentSpelling, CountsFrom, fresh_in, pieces_of, content_spelling}
use Rattle.value_codec.specs.SchemaSpelling.{HasSchemaSpelling}
use Rattle.assemblies.specs.Places.{awaited_of}
use Rattle.step_tables.specs.Chunks.{cut, flat, is_of_each, objects_of}
use Rattle.part_tables.specs.Parts.{objects_by, spelled_by}
use Rattle.message_parts.specs.Splits.{is_short, has_words}
use Rattle.frame_laws.specs.Sizes.{IsRowOf}
use Rattle.frame_laws.proofs.Fits.{IsWithin, row_within, cells_spelled}
use Rattle.frame_laws.proofs.Said.{parts_said, as_many_said, two_true, said_short, objects_short, AreSpelled, pieces_back}
use Rattle.frame_laws.proofs.Chunks.{size_some, IsSizedChunk, of_row}
use Rattle.frame_laws.proofs.Lengths.{row_most}

-- ---- its chunks are few

few_said : {X : Type 0} (schema : Schema) (table : HasSchemaSpelling schema) (some : List Cell) (objects : List (List ℕ)) (said : List (List X)) → IsWithin schema some objects
    → is_of_each schema.chunk said objects ≡ true → length (flat said) ≤ 32768
few_said schema table some objects said w each = omega (arith, w.chunks, (as_many_said schema.chunk said objects (size_some schema.chunk table.size) each).0)

cuts_few : {X : Type 0} (size : ℕ) (said : List (List X)) (objects : List (List ℕ)) → is_of_each size said objects ≡ true → length (flat said) < 2 ^ 32
    → AllByRecursion (λ (object : List ℕ). length (cut size object) < 2 ^ 32) objects
cuts_few size said [] each few = tt
cuts_few size [] (object ∷ objects) each few = absurd cc
cuts_few size (here ∷ said) (object ∷ objects) each few =
    let both = parts_said size here said object objects each in
    let sum = length-append here (flat said) in
    (omega (arith, both.0, sum, few), cuts_few size said objects both.1 (omega (arith, sum, few)))

none_more : {X : Type 0} (size : ℕ) (said : List (List X)) → is_of_each size said [] ≡ true → length (flat said) ≡ 0
none_more size [] each = refl
none_more size (here ∷ said) each = absurd cc

pub few_pieces : (schema : Schema) (content : Content) (pieces : List (List Piece)) → HasSchemaSpelling schema → IsRowOf schema content
    → is_of_each schema.chunk pieces (objects_of content) ≡ true → length (flat pieces) < 2 ^ 32
few_pieces schema contents.Gone pieces table row each = omega (arith, none_more schema.chunk pieces each)
few_pieces schema (contents.Row some objects) pieces table row each = omega (arith, few_said schema table some objects pieces (row_within schema some objects row.fit) each)

-- ---- a content whose chunks are told can be split

pub can_split : {X : Type 0} (schema : Schema) (content : Content) (said : List (List X)) → HasSchemaSpelling schema → IsRowOf schema content
    → is_of_each schema.chunk said (objects_of content) ≡ true → has_words content said ≡ true
can_split schema contents.Gone said table row each = refl
can_split schema (contents.Row some objects) said table row each =
    let w = row_within schema some objects row.fit in
    let few = few_said schema table some objects said w each in
    let columns : nat_lt (length some + length objects) (2 ^ 32) ≡ true =
    (let low : length some + length objects < 2 ^ 32 = omega (arith, w.cells_few, w.objects_few, table.most) in grind (arith, nat_tests)) in
    two_true (nat_lt (length some + length objects) (2 ^ 32)) (list_all is_short objects && list_all is_short said) columns
    (two_true (list_all is_short objects) (list_all is_short said) (objects_short objects (omega (arith, w.len))) (said_short said (omega (arith, few))))

-- ---- its spelling

all_parts : {X : Type 0} (P : X → Type 0) (xs ys : List X) → AllByRecursion P (xs ++ ys) → AllByRecursion P xs × AllByRecursion P ys
all_parts P [] ys all = (tt, all)
all_parts P (x ∷ xs) ys all = let rest = all_parts P xs ys all.1 in ((all.0, rest.0), rest.1)

objects_spelled : (size : ℕ) (objects : List (List ℕ)) (pieces : List (List Piece)) → is_of_each size pieces objects ≡ true → sum_by length objects < 2 ^ 32
    → length (flat pieces) < 2 ^ 32 → AllByRecursion HasPieceSpelling (flat pieces) → AllByRecursion HasObjectSpelling (objects_by objects pieces)
objects_spelled size [] pieces each short few all = tt
objects_spelled size (object ∷ objects) [] each short few all = absurd cc
objects_spelled size (object ∷ objects) (here ∷ pieces) each short few all =
    let both = parts_said size here pieces object objects each in
    let spelled = all_parts HasPieceSpelling here (flat pieces) all in
    let lens = sum_by-cons length object objects in
    let count = length-append here (flat pieces) in (
      record { len = omega (arith, lens, short); count = omega (arith, count, few); each_piece = spelled.0 },
      objects_spelled size objects pieces both.1 (omega (arith, lens, short)) (omega (arith, count, few)) spelled.1,
    )

as_many_objects : (objects : List (List ℕ)) (pieces : List (List Piece)) → length (objects_by objects pieces) ≡ length objects
as_many_objects [] pieces = refl
as_many_objects (object ∷ objects) [] = ap suc (as_many_objects objects [])
as_many_objects (object ∷ objects) (here ∷ pieces) = ap suc (as_many_objects objects pieces)

-- a content whose pieces have spellings
pub record IsSplit (size : ℕ) (content : Content) (pieces : List (List Piece)) : Type 0 where
  pub spelled : HasContentSpelling (spelled_by content pieces)
  pub short : length (content_spelling (spelled_by content pieces)) ≤ 950537
  pub chunks : (sends : Piece → Bool) → AllByRecursion (IsSizedChunk size content) (awaited_of sends size (spelled_by content pieces))

pub splits : (schema : Schema) (content : Content) (pieces : List (List Piece)) → HasSchemaSpelling schema → IsRowOf schema content → AreSpelled schema.chunk (objects_of content) pieces
    → IsSplit schema.chunk content pieces
splits schema contents.Gone pieces table row h = record { spelled = tt; short = omega arith; chunks = λ sends. tt }
splits schema (contents.Row some objects) pieces table row h =
    let w = row_within schema some objects row.fit in
    let few = few_said schema table some objects pieces w h.each in
    let count = as_many_objects objects pieces in
    let back : pieces_of (objects_by objects pieces) ≡ flat pieces = pieces_back schema.chunk objects pieces h.each in
    let as_many : length (pieces_of (objects_by objects pieces)) ≡ length (flat pieces) = ap length back in
    record {
      spelled = record {
        cell_count = omega (arith, w.cells_few, table.most);
        each_cell = cells_spelled schema some objects row.fit row.words;
        object_count = omega (arith, count, w.objects_few, table.most);
        each_object = objects_spelled schema.chunk objects pieces h.each (omega (arith, w.len)) (omega (arith, few)) h.spelled;
        fresh = subst (λ (l : List Piece). CountsFrom 0 (fresh_in l)) (sym back) h.fresh;
      };
      short = row_most some (objects_by objects pieces) (omega (arith, w.spelled)) (omega (arith, count, w.objects_few, table.most)) (omega (arith, as_many, few));
      chunks = λ sends. of_row sends schema.chunk some objects pieces table.size h.each (omega (arith, w.cells_few, w.objects_few, table.most))
          (cuts_few schema.chunk pieces objects h.each (omega (arith, few)));
    }
