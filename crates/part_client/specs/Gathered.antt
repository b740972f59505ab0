-- A row by its pieces, with what has come of its chunks that travel.
use Rattle.std.specs.Prelude.{ℕ, ◌==◌, ◌&&◌, Bool, List}
use Rattle.row_value.specs.declared.pieces.Piece.{Piece}
use Rattle.table_model.specs.History.{same_row}
use Rattle.table_model.specs.declared.message.RowHeader.{RowHeader}
use Rattle.assemblies.specs.Places.{awaited_of}
use Rattle.assemblies.specs.Gathering.{Slot, waiting, taken}
use Rattle.part_contents.specs.Counted as counted
use Rattle.part_tables.specs.Parts.{RowHead}
use Rattle.message_parts.specs.Parts.{row_head_of}

pub record GatheredRow : Type 0 where
  pub row : RowHead
  pub slots : List Slot

-- nothing has come
abbrev pub nothing_came : (Piece → Bool) → ℕ → RowHeader → GatheredRow
nothing_came sends chunk header = record {
  row = row_head_of header;
  slots = waiting (awaited_of sends chunk header.content);
}

-- its row, at this version
abbrev pub is_for : List ℕ → ℕ → GatheredRow → Bool
is_for row key x = same_row x.row.row row && (x.row.version == key)

abbrev pub with_chunk : ℕ → ℕ → List ℕ → GatheredRow → GatheredRow
with_chunk column place bytes x = record x { slots = taken column place bytes x.slots }

-- one chunk at most hasn't come
abbrev pub lacks_few : GatheredRow → Bool
lacks_few x = counted.lacks_few x.slots
