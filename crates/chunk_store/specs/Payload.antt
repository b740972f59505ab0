-- What a payload does to a map of chunks.
use Rattle.std.specs.Prelude.{ℕ, ◌==◌, ◌&&◌, nat_lt, if◌then◌else◌, List, [], ◌∷◌, ◌++◌, length, Option, Some, None}
use Rattle.std.specs.Prelude.{Result, Ok, Err, fold}
use Rattle.std.specs.declared.cmp.Ordering.{Ordering}
use Rattle.std.specs.Ordering.{nat_cmp, ordering_then}
use Rattle.std.specs.Int.{w32, w64, to_be_bytes}
use Rattle.stab_base.specs.declared.chunk_name.ChunkName.{ChunkName}
use Rattle.stab_base.specs.declared.codec.TakeFault.{TakeFault}
use Rattle.stab_base.specs.declared.limits.TheConstants.{NUMBER_MAX}
use Rattle.stab_base.specs.Codec.{◌>>=◌, byte_at, number_at}
use Rattle.spare_map.specs.Late.{changed}

-- names by version, then by ordinal
abbrev pub name_cmp : ChunkName → ChunkName → Ordering
name_cmp a b = ordering_then (nat_cmp a.version b.version) (nat_cmp a.ordinal b.ordinal)

-- a name is eight bytes of version and four of ordinal
abbrev pub spelled : ChunkName → List ℕ
spelled name = to_be_bytes w64 name.version ++ to_be_bytes w32 name.ordinal

-- a put is 1, the name, and the chunk's bytes to the end
abbrev pub put_payload : ChunkName → List ℕ → List ℕ
put_payload name bytes = 1 ∷ (spelled name ++ bytes)

-- a drop is 2, the name, and nothing behind it
abbrev pub drop_payload : ChunkName → List ℕ
drop_payload name = 2 ∷ spelled name

-- the first byte, the name, and what follows them
unfoldable pub head_at : List ℕ → Result (ℕ × ChunkName × List ℕ) TakeFault
head_at payload = do
  tag ← byte_at payload
  version ← number_at w64 tag.1
  ordinal ← number_at w32 version.1
  Ok (tag.0, record { version = version.0; ordinal = ordinal.0 }, ordinal.1)

-- a name's new bytes, or that it has none; nothing where the payload is no spelling, or its version passes the limit
abbrev pub change_for : ℕ → ChunkName → List ℕ → Option (ChunkName × Option (List ℕ))
change_for tag name rest =
    if nat_lt NUMBER_MAX name.version then None
    else (if tag == 1 then Some (name, Some rest)
    else (if (tag == 2) && (length rest == 0) then Some (name, None) else None))

unfoldable pub change_of : List ℕ → Option (ChunkName × Option (List ℕ))
change_of payload = elim (head_at payload) [
  | Ok head ↦ change_for head.0 head.1 head.2
  | Err fault ↦ None
]

abbrev pub step : List (ChunkName × List ℕ) → Option (ChunkName × Option (List ℕ)) → List (ChunkName × List ℕ)
step map None = map
step map (Some change) = changed name_cmp map change.0 change.1

-- The map of a list of payloads, as its entries in the order of their names: the last payload of a name stands.
unfoldable pub chunks_of : List (List ℕ) → List (ChunkName × List ℕ)
chunks_of payloads = fold (λ map payload. step map (change_of payload)) [] payloads
