-- What a device of chunks keeps in memory: for each name the index of its payload, and the length of its chunk.
use Rattle.std.specs.Prelude.{◌≡◌, ℕ, ◌<◌, ◌≤◌, List, [], length, drop, slice_index_or, Option, Some, None}
use Rattle.stab_base.specs.declared.chunk_name.ChunkName.{ChunkName}
use Rattle.spare_map.specs.Late.{entries_of, spare_of}
use Rattle.spare_map.specs.Values.{AllValues, with_values}
use Rattle.chunk_store.specs.declared.index.ChunkIndex.{ChunkIndex}
use Rattle.chunk_store.specs.declared.index.Place.{Place}
use Rattle.chunk_store.specs.declared.payload.Change.{Change}
use Rattle.chunk_store.specs.declared.payload.Change.TheVariants.{Put, Gone}
use Rattle.chunk_store.specs.Payload.{name_cmp, change_of, chunks_of}

-- the chunk in the payload of this place
abbrev pub bytes_at : List (List ℕ) → Place → List ℕ
bytes_at payloads place = drop 13 (slice_index_or payloads place.index [])

-- the payload of this place is there, and has a chunk of its length behind the name
pub record IsPlace (payloads : List (List ℕ)) (place : Place) : Type 0 where
  pub within : place.index < length payloads
  pub long : 13 ≤ length (slice_index_or payloads place.index [])
  pub len : length (bytes_at payloads place) ≡ place.len

pub record IsIndex (index : ChunkIndex) (payloads : List (List ℕ)) : Type 0 where
  pub chunks : chunks_of payloads ≡ with_values (bytes_at payloads) (entries_of name_cmp index.places)
  pub places : AllValues (IsPlace payloads) (entries_of name_cmp index.places)

abbrev pub HasSpare : ChunkIndex → ℕ → ℕ → Type 0
HasSpare index payloads bytes = payloads ≤ spare_of index.places

-- what an index needs to know of a change
abbrev pub shape_of : Option (ChunkName × Option (List ℕ)) → Option Change
shape_of None = None
shape_of (Some (name, Some bytes)) = Some (Put name)
shape_of (Some (name, None)) = Some (Gone name)

abbrev pub Says : List ℕ → Option Change → Type 0
Says payload change = change ≡ shape_of (change_of payload)
