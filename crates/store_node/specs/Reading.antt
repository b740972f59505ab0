-- What a node reads from its devices.
use Rattle.std.specs.Prelude.{◌≡◌, ℕ, List, [], ◌∷◌, map, Option, option_map, Result, unwrap_or}
use Rattle.std.specs.List.{concat}
use Rattle.disk_trait.specs.Calls.{DiskState}
use Rattle.stab_base.specs.declared.chunk_name.ChunkName.{ChunkName}
use Rattle.row_value.specs.declared.content.Content.{Content}
use Rattle.row_value.specs.declared.content.Content.TheVariants as contents
use Rattle.row_value.specs.declared.pieces.Piece.{Piece}
use Rattle.row_value.specs.declared.pieces.Piece.TheVariants.{Keep, Fresh}
use Rattle.row_value.specs.declared.pieces.PieceObject.{PieceObject}
use Rattle.row_value.specs.declared.pieces.PieceContent.{PieceContent}
use Rattle.row_value.specs.declared.pieces.PieceContent.TheVariants.{Gone, Row}
use Rattle.chunk_store.specs.Standing.{chunk_in}
use Rattle.row_store.specs.declared.stored.StoredRow.{StoredRow}
use Rattle.row_store.specs.Data.{row_of}
use Rattle.store_commit.specs.declared.devs.TableDevs.{TableDevs}
use Rattle.store_commit.specs.declared.fault.CommitFault.{CommitFault}
use Rattle.store_commit.specs.Devs.{Devs}
use Rattle.store_commit.specs.Scan.{Asks}
use Rattle.step_tables.specs.Chunks.{Named}
use Rattle.step_tables.specs.Store.{Stored}
use Rattle.store_node.specs.declared.showing.WholeRow.{WholeRow}
use Rattle.store_node.specs.declared.showing.ShownRow.{ShownRow}

-- the bytes of a chunk; a name that has none stands for no bytes
abbrev pub bytes_in : Devs → ChunkName → List ℕ
bytes_in d name = unwrap_or (chunk_in d.chunks name) []

-- the chunks that pieces name, with their bytes
abbrev pub named_in : Devs → List Piece → List Named
named_in d [] = []
named_in d (Keep name ∷ pieces) = (name, bytes_in d name) ∷ named_in d pieces
named_in d (Fresh ordinal ∷ pieces) = named_in d pieces

abbrev pub held_by : Devs → List PieceObject → List (List Named)
held_by d objects = map (λ (object : PieceObject). named_in d object.pieces) objects

abbrev pub held_in : Devs → PieceContent → List (List Named)
held_in d Gone = []
held_in d (Row some objects) = held_by d objects

-- an object of its chunks, and a content of those of its objects
abbrev pub whole_object : List Named → List ℕ
whole_object held = concat (map (λ (chunk : Named). chunk.1) held)

abbrev pub whole_of : PieceContent → List (List Named) → Content
whole_of Gone held = contents.Gone
whole_of (Row some objects) held = contents.Row some (map whole_object held)

-- the names of the chunks of each object
abbrev pub names_held : List (List Named) → List (List ChunkName)
names_held held = map (λ (chunks : List Named). map (λ (chunk : Named). chunk.0) chunks) held

-- a row of the devices with its content whole, and what is shown of it
abbrev pub whole_row : Devs → StoredRow → WholeRow
whole_row d stored = record {
  row = stored.row;
  version = stored.version;
  content = whole_of stored.content (held_in d stored.content);
  names = names_held (held_in d stored.content);
  pairs = stored.pairs;
}

abbrev pub whole_at : Devs → List ℕ → Option WholeRow
whole_at d row = option_map (whole_row d) (row_of d.held row)

abbrev pub shown_row : WholeRow → ShownRow
shown_row found = record { version = found.version; content = found.content }

-- what is shown of a row's last write
abbrev pub shown_of : Stored → ShownRow
shown_of item = record { version = item.entry.version; content = item.content }

-- A call that only reads: the rows that are hidden stay.
pub record Only {D T : Type 0} (state : D → DiskState) (images : D → ℕ → List ℕ → Type 0) (old new : TableDevs D)
    (result : Result T CommitFault) : Type 0 where
  pub asks : Asks state images old new result
  pub scanned : new.scanned ≡ old.scanned
