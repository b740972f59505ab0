-- Which chunks a table's device has.
use Rattle.std.specs.Prelude.{◌⊎◌, ℕ, List}
use Rattle.std.specs.List.Sorted.{IsStrictlySortedBy}
use Rattle.stab_base.specs.declared.chunk_name.ChunkName.{ChunkName}
use Rattle.chunk_store.specs.Payload.{name_cmp}
use Rattle.store_commit.specs.NamedChunks.{Among}
use Rattle.step_tables.specs.Chunks.{names_of, chunks_of}
use Rattle.step_tables.specs.StoreMoves.{StoreDisk}

-- a row names it, or it is left
abbrev pub IsKept : ℕ → StoreDisk → ChunkName → Type 0
IsKept size disk name = ((row : List ℕ) × Among name (names_of (chunks_of size disk.items row))) ⊎ Among name disk.left

-- the names of all chunks, in rising order
pub record AreKept (size : ℕ) (disk : StoreDisk) (names : List ChunkName) : Type 0 where
  pub rising : IsStrictlySortedBy name_cmp names
  pub only : (name : ChunkName) → Among name names → IsKept size disk name
  pub all : (name : ChunkName) → IsKept size disk name → Among name names
