-- The chunks of a row as they are noted by their names.
use Rattle.std.specs.Prelude.{ℕ, List, [], ◌∷◌, map}
use Rattle.std.specs.BTreeMap.{insert_entry}
use Rattle.stab_base.specs.declared.chunk_name.ChunkName.{ChunkName}
use Rattle.chunk_store.specs.Payload.{name_cmp}
use Rattle.step_tables.specs.Chunks.{Named}

-- these chunks, and then those
abbrev pub noted : List (ChunkName × List ℕ) → List Named → List (ChunkName × List ℕ)
noted found [] = found
noted found (chunk ∷ chunks) = noted (insert_entry name_cmp found chunk.0 chunk.1) chunks

-- the same keys, with what is read of their values
abbrev pub values_by : {K X Y : Type 0} → List (K × X) → (X → Y) → List (K × Y)
values_by {K} {X} {Y} entries f = map (λ (e : K × X). (e.0, f e.1)) entries
