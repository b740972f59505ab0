-- Named chunks on the lines: what the Store's list of a table's chunk names says, by what was said before it.
use Rattle.std.specs.Prelude.{◌≡◌, ◌⊎◌, ℕ, ◌<◌, ◌==◌, Bool, ◌&&◌, List, [], ◌∷◌, length, filter, Option, Some, None}
use Rattle.std.specs.List.{AllByRecursion, list_any}
use Rattle.stab_base.specs.declared.chunk_name.ChunkName.{ChunkName}
use Rattle.row_value.specs.declared.content.Content.{Content}
use Rattle.row_value.specs.declared.content.Content.TheVariants.{Gone, Row}
use Rattle.row_value.specs.Fit.{chunks_of}
use Rattle.table_model.specs.declared.entry.Entry.{Entry}
use Rattle.table_model.specs.History.{same_row, current}
use Rattle.step_tables.specs.Members.{Among}
use Rattle.step_tables.specs.Sayings.{Said}
use Rattle.world_tables.specs.Sound.{content_at}

-- names are ordered by version, then by number
abbrev pub IsBefore : ChunkName → ChunkName → Type 0
IsBefore a b = (a.version < b.version) ⊎ ((a.version ≡ b.version) × (a.ordinal < b.ordinal))

-- each name is before all behind it, so that they are different
abbrev pub Rise : List ChunkName → Type 0
Rise [] = Unit {0}
Rise (name ∷ more) = AllByRecursion (IsBefore name) more × Rise more

-- whether a row has an entry of this version
abbrev pub has_version : List Entry → List ℕ → ℕ → Bool
has_version history row version =
    list_any (λ (entry : Entry). same_row entry.row row && (entry.version == version)) history

-- the names of a row's versions
abbrev pub names_of : List Entry → List ℕ → List ChunkName → List ChunkName
names_of history row names = filter (λ (name : ChunkName). has_version history row name.version) names

-- how many chunks of a size a content has
abbrev pub chunks_in : ℕ → Option Content → ℕ
chunks_in size None = 0
chunks_in size (Some Gone) = 0
chunks_in size (Some (Row some objects)) = chunks_of size objects

-- the chunks of a table whose chunks have this size: different names in rising order; each name's version is an
-- entry's; and the names of a row's versions are as many as its current content has chunks
pub record AreChunks (s : Said) (table size : ℕ) (names : List ChunkName) : Type 0 where
  pub rise : Rise names
  pub versions : (name : ChunkName) → Among names name
      → (entry : Entry) × Among (s.history table) entry × (entry.version ≡ name.version)
  pub counted : (row : List ℕ) → length (names_of (s.history table) row names)
      ≡ chunks_in size (content_at s table (current (s.history table) row))
