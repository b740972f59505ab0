-- A small table: a row with two objects, written twice. The second write keeps two chunks, drops one and brings one.
use Rattle.std.specs.Prelude.{ℕ, List, [], ◌∷◌, map, Some, None}
use Rattle.stab_base.specs.declared.chunk_name.ChunkName.{ChunkName}
use Rattle.row_value.specs.declared.schema.Schema.{Schema}
use Rattle.row_value.specs.declared.schema.Scheme.TheVariants.{Strong}
use Rattle.row_value.specs.declared.content.Content.TheVariants as contents
use Rattle.row_value.specs.declared.pieces.Piece.TheVariants.{Keep, Fresh}
use Rattle.row_value.specs.declared.pieces.PieceContent.TheVariants.{Row}
use Rattle.row_store.specs.declared.stored.LastWrite.{LastWrite}
use Rattle.row_store.specs.declared.stored.StoredRow.{StoredRow}
use Rattle.store_commit.specs.Devs.{Devs}
use Rattle.table_model.specs.declared.table_state.TableState.{TableState}
use Rattle.table_model.specs.declared.table_state.TableState.TheVariants as states
use Rattle.step_tables.specs.Messages.{Request}
use Rattle.step_tables.specs.Store.{Stored}
use Rattle.step_tables.specs.StoreMoves.{StoreDisk, StoreTask, StoreChange, item_for, new_disk}
use Rattle.device_laws.specs.Stands.{state_number}

-- ---- a table without a row

abbrev pub nothing_in : Schema → TableState → Devs
nothing_in schema state = record {
  chunks = [];
  held = record { rows = []; table = Some (schema, state_number state); subs = [] };
  pending = None;
}

-- ---- the small table

-- chunks of two bytes
abbrev pub small : Schema
small = record { name = []; scheme = Strong; chunk = 2; columns = [] }

abbrev pub row_id : List ℕ
row_id = 7 ∷ []

abbrev pub name : ℕ → ℕ → ChunkName
name version ordinal = record { version = version; ordinal = ordinal }

-- client 3 writes two objects
abbrev pub first_request : Request
first_request = record {
  client = 3;
  table = 1;
  row = row_id;
  number = 1;
  base = 0;
  content = contents.Row [] ((1 ∷ 2 ∷ 3 ∷ []) ∷ (4 ∷ []) ∷ []);
  pieces = (Fresh 0 ∷ Fresh 1 ∷ []) ∷ (Fresh 2 ∷ []) ∷ [];
}

-- and another last byte of the first one: it keeps the first chunk and the last one
abbrev pub second_request : Request
second_request = record {
  client = 3;
  table = 1;
  row = row_id;
  number = 2;
  base = 1;
  content = contents.Row [] ((1 ∷ 2 ∷ 5 ∷ []) ∷ (4 ∷ []) ∷ []);
  pieces = (Keep (name 1 0) ∷ Fresh 0 ∷ []) ∷ (Keep (name 1 2) ∷ []) ∷ [];
}

abbrev pub first_item : Stored
first_item = item_for [] first_request

abbrev pub second_item : Stored
second_item = item_for (first_item ∷ []) second_request

abbrev pub last_write : ℕ → LastWrite
last_write version = record { client = 3; number = version; version = version }

abbrev pub first_row : StoredRow
first_row = record {
  row = row_id;
  version = 1;
  content = Row [] (record { len = 3; pieces = Keep (name 1 0) ∷ Keep (name 1 1) ∷ [] }
      ∷ record { len = 1; pieces = Keep (name 1 2) ∷ [] } ∷ []);
  pairs = last_write 1 ∷ [];
}

abbrev pub second_row : StoredRow
second_row = record {
  row = row_id;
  version = 2;
  content = Row [] (record { len = 3; pieces = Keep (name 1 0) ∷ Keep (name 2 0) ∷ [] }
      ∷ record { len = 1; pieces = Keep (name 1 2) ∷ [] } ∷ []);
  pairs = last_write 2 ∷ [];
}

abbrev pub holding : StoredRow → List (ChunkName × List ℕ) → Devs
holding stored chunks = record {
  chunks = chunks;
  held = record { rows = (row_id, stored) ∷ []; table = Some (small, 2); subs = [] };
  pending = None;
}

abbrev pub first_chunks : List (ChunkName × List ℕ)
first_chunks = (name 1 0, 1 ∷ 2 ∷ []) ∷ (name 1 1, 3 ∷ []) ∷ (name 1 2, 4 ∷ []) ∷ []

abbrev pub second_chunks : List (ChunkName × List ℕ)
second_chunks = (name 1 0, 1 ∷ 2 ∷ []) ∷ (name 1 2, 4 ∷ []) ∷ (name 2 0, 5 ∷ []) ∷ []

abbrev pub chunks_too_many : List (ChunkName × List ℕ)
chunks_too_many = (name 1 0, 1 ∷ 2 ∷ []) ∷ (name 1 1, 3 ∷ []) ∷ (name 1 2, 4 ∷ []) ∷ (name 2 0, 5 ∷ []) ∷ []

abbrev pub chunks_too_few : List (ChunkName × List ℕ)
chunks_too_few = (name 1 0, 1 ∷ 2 ∷ []) ∷ (name 1 2, 4 ∷ []) ∷ []

abbrev pub without_last : StoredRow
without_last = record {
  row = row_id;
  version = 2;
  content = second_row.content;
  pairs = [];
}

abbrev pub closed_with : List Stored → StoreDisk
closed_with items = record (new_disk states.Live) { items = items }

abbrev pub first_disk : StoreDisk
first_disk = closed_with (first_item ∷ [])

abbrev pub second_disk : StoreDisk
second_disk = closed_with (first_item ∷ second_item ∷ [])

abbrev pub changes : List StoreTask → List StoreChange
changes tasks = map (λ (task : StoreTask). task.change) tasks
