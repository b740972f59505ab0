-- What a table has of a row, as the step table has it.
use Rattle.std.specs.Prelude.{◌≡◌, ℕ, List, map, Some}
use Rattle.step_tables.specs.Chunks.{Named, flat, chunks_of}
use Rattle.step_tables.specs.Messages.{Pair}
use Rattle.step_tables.specs.Store.{Stored, current_of}
use Rattle.step_tables.specs.StoreMoves.{version_of, yours_in}
use Rattle.step_tables.specs.declared.message.Yours.{Yours}
use Rattle.part_tables.specs.ClientParts.{Held}
use Rattle.part_store.specs.declared.view.RowView.{RowView}

abbrev pub pair_of : Yours → Pair
pair_of yours = record { number = yours.number; version = yours.version }

-- chunks that are held, each under its name
abbrev pub under_names : List Named → List Held
under_names chunks = map (λ (chunk : Named). (Some chunk.0, chunk.1)) chunks

-- of this row, for this client
pub record IsViewOf (size : ℕ) (items : List Stored) (client : ℕ) (row : List ℕ) (view : RowView) : Type 0 where
  pub version_is : view.version ≡ version_of (current_of items row)
  pub yours_is : pair_of view.yours ≡ yours_in items client row
  pub chunks_are : view.chunks.items ≡ under_names (flat (chunks_of size items row))
