-- Finding a name's payload.
use Rattle.std.proofs.Common.{◌≡◌, ℕ, List, Option, Some, None, sym, ◌∙◌, ap}
use Rattle.std.specs.Prelude.{option_map, IfNone, IfSome}
use Rattle.std.specs.BTreeMap.{is_at}
use Rattle.std.specs.Map.{lookup, keys_of}
use Rattle.stab_base.specs.declared.chunk_name.ChunkName.{ChunkName}
use Rattle.spare_map.specs.Late.{entries_of}
use Rattle.spare_map.proofs.Values.{lookup_with, keys_with, value_found}
use Rattle.chunk_store.specs.Payload.{name_cmp, chunks_of}
use Rattle.chunk_store.specs.Index.{IsPlace, IsIndex, bytes_at}
use Rattle.chunk_store.specs.Standing.{chunk_in}
use Rattle.chunk_store.specs.declared.index.ChunkIndex.{ChunkIndex}
use Rattle.chunk_store.specs.declared.index.Place.{Place}

module _ (index : ChunkIndex) (ps : List (List ℕ)) (fit : IsIndex index ps) where
  chunk_is : (name : ChunkName) (found : Option Place) → found ≡ lookup (is_at (name_cmp name)) (entries_of name_cmp index.places) → chunk_in (chunks_of ps) name ≡ option_map (bytes_at ps) found
  chunk_is name found is =
      ap (λ (map : List (ChunkName × List ℕ)). chunk_in map name) fit.chunks
      ∙ (lookup_with (bytes_at ps) (is_at (name_cmp name)) (entries_of name_cmp index.places) ∙ ap (option_map (bytes_at ps)) (sym is))

  pub none_is : (name : ChunkName) (found : Option Place) → found ≡ lookup (is_at (name_cmp name)) (entries_of name_cmp index.places) → IfNone found (chunk_in (chunks_of ps) name ≡ None)
  none_is name None is = chunk_is name None is
  none_is name (Some i) is = tt

  pub some_is : (name : ChunkName) (found : Option Place) → found ≡ lookup (is_at (name_cmp name)) (entries_of name_cmp index.places)
      → IfSome found (λ i. chunk_in (chunks_of ps) name ≡ Some (bytes_at ps i))
  some_is name None is = tt
  some_is name (Some i) is = chunk_is name (Some i) is

  pub place_at : (name : ChunkName) (found : Option Place) → found ≡ lookup (is_at (name_cmp name)) (entries_of name_cmp index.places) → IfSome found (IsPlace ps)
  place_at name None is = tt
  place_at name (Some i) is = value_found (IsPlace ps) (is_at (name_cmp name)) (entries_of name_cmp index.places) i fit.places (sym is)

  pub keys_are : keys_of (chunks_of ps) ≡ keys_of (entries_of name_cmp index.places)
  keys_are = ap (λ (map : List (ChunkName × List ℕ)). keys_of map) fit.chunks ∙ keys_with (bytes_at ps) (entries_of name_cmp index.places)
