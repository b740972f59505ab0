-- The chunks of a row's objects and their names, and how a request spells them by pieces.
use Rattle.std.specs.Prelude.{ℕ, zero, suc, ◌+◌, ◌==◌, ◌&&◌, not, Bool, true, false, List, [], ◌∷◌, length, take}
use Rattle.std.specs.Prelude.{drop, map, zip, filter, Option, Some, None, if◌then◌else◌}
use Rattle.std.specs.List.{flat_map, list_any, list_all}
use Rattle.std.specs.Str.{bytes_eq}
use Rattle.std.specs.Ordering.{nat_cmp, ordering_then}
use Rattle.std.specs.BTreeMap.{insert_entry}
use Rattle.std.specs.declared.cmp.Ordering.{Ordering}
use Rattle.stab_base.specs.declared.chunk_name.ChunkName.{ChunkName}
use Rattle.row_value.specs.declared.content.Content.{Content}
use Rattle.row_value.specs.declared.content.Content.TheVariants.{Gone, Row}
use Rattle.row_value.specs.declared.pieces.Piece.{Piece}
use Rattle.row_value.specs.declared.pieces.Piece.TheVariants.{Keep, Fresh}
use Rattle.step_tables.specs.Store.{Stored, current_of}

-- ---- names

abbrev pub name_cmp : ChunkName → ChunkName → Ordering
name_cmp a b = ordering_then (nat_cmp a.version b.version) (nat_cmp a.ordinal b.ordinal)

abbrev pub same_name : ChunkName → ChunkName → Bool
same_name a b = (a.version == b.version) && (a.ordinal == b.ordinal)

abbrev pub is_among : List ChunkName → ChunkName → Bool
is_among names name = list_any (same_name name) names

abbrev pub without_names : List ChunkName → List ChunkName → List ChunkName
without_names gone names = filter (λ name. not (is_among gone name)) names

-- whether no name stands twice
abbrev pub are_apart : List ChunkName → Bool
are_apart [] = true
are_apart (name ∷ names) = not (is_among names name) && are_apart names

-- each once, in rising order
abbrev pub rising : List ChunkName → List ChunkName
rising names = map (λ e. e.0) (entries names)
  where
    entries : List ChunkName → List (ChunkName × Unit {0})
    entries [] = []
    entries (name ∷ more) = insert_entry name_cmp (entries more) name tt

-- ---- an object

-- a chunk with its name
abbrev pub Named : Type 0
Named = ChunkName × List ℕ

-- chunks of this size, of which the last may be shorter, at most so many
abbrev pub cut_up_to : ℕ → ℕ → List ℕ → List (List ℕ)
cut_up_to zero size object = []
cut_up_to (suc most) size [] = []
cut_up_to (suc most) size (byte ∷ bytes) =
    take size (byte ∷ bytes) ∷ cut_up_to most size (drop size (byte ∷ bytes))

abbrev pub cut : ℕ → List ℕ → List (List ℕ)
cut size object = cut_up_to (length object) size object

abbrev pub name_of_new : ℕ → ℕ → ChunkName
name_of_new version ordinal = record { version = version; ordinal = ordinal }

abbrev pub is_of_version : ℕ → ChunkName → Bool
is_of_version version name = name.version == version

-- ---- a row: what is said of the chunks of each of its objects stands in a list an object

abbrev pub objects_of : Content → List (List ℕ)
objects_of Gone = []
objects_of (Row cells objects) = objects

abbrev pub first_of : {X : Type 0} → List (List X) → List X
first_of [] = []
first_of (here ∷ more) = here

abbrev pub others_of : {X : Type 0} → List (List X) → List (List X)
others_of [] = []
others_of (here ∷ more) = more

-- the chunks of each object, each with what is said of it
abbrev pub each_chunk : {X : Type 0} → ℕ → List (List X) → List (List ℕ) → List (List (X × List ℕ))
each_chunk size said [] = []
each_chunk size said (object ∷ objects) =
    zip (first_of said) (cut size object) ∷ each_chunk size (others_of said) objects

-- whether something is said of each chunk, and of nothing else
abbrev pub is_of_each : {X : Type 0} → ℕ → List (List X) → List (List ℕ) → Bool
is_of_each size [] [] = true
is_of_each size [] (object ∷ objects) = false
is_of_each size (here ∷ said) [] = false
is_of_each size (here ∷ said) (object ∷ objects) =
    (length here == length (cut size object)) && is_of_each size said objects

-- of all objects, one behind the other
abbrev pub flat : {X : Type 0} → List (List X) → List X
flat lists = flat_map (λ list. list) lists

abbrev pub names_of : List (List Named) → List ChunkName
names_of objects = map (λ (held : Named). held.0) (flat objects)

-- ---- the rows of a table

abbrev pub chunks_with : ℕ → Stored → List (List Named)
chunks_with size item = each_chunk size item.names (objects_of item.content)

abbrev pub chunks_in : ℕ → Option Stored → List (List Named)
chunks_in size None = []
chunks_in size (Some item) = chunks_with size item

-- the chunks of a row, as these items leave it
abbrev pub chunks_of : ℕ → List Stored → List ℕ → List (List Named)
chunks_of size items row = chunks_in size (current_of items row)

-- ---- what an item brings and leaves, behind these

abbrev pub names_before : ℕ → List Stored → Stored → List ChunkName
names_before size items item = names_of (chunks_of size items item.entry.row)

abbrev pub names_with : ℕ → Stored → List ChunkName
names_with size item = names_of (chunks_with size item)

-- by rising ordinal
abbrev pub new_names : ℕ → Stored → List ChunkName
new_names size item = filter (is_of_version item.entry.version) (names_with size item)

-- those of the row that it names no more
abbrev pub old_names : ℕ → List Stored → Stored → List ChunkName
old_names size items item = without_names (names_with size item) (names_before size items item)

-- ---- pieces

-- the name of a chunk that was accepted at a version: its own where it was kept, else that of its number at the version
abbrev pub name_at : ℕ → Piece → ChunkName
name_at version (Keep name) = name
name_at version (Fresh ordinal) = name_of_new version ordinal

abbrev pub names_at : ℕ → List (List Piece) → List (List ChunkName)
names_at version pieces = map (λ (object : List Piece). map (name_at version) object) pieces

-- the names that are kept
abbrev pub kept_in : List Piece → List ChunkName
kept_in [] = []
kept_in (Keep name ∷ pieces) = name ∷ kept_in pieces
kept_in (Fresh ordinal ∷ pieces) = kept_in pieces

-- whether the new chunks are numbered in order from here on
abbrev pub are_counted : ℕ → List Piece → Bool
are_counted next [] = true
are_counted next (Keep name ∷ pieces) = are_counted next pieces
are_counted next (Fresh ordinal ∷ pieces) = (ordinal == next) && are_counted (next + 1) pieces

-- WHETHER A REQUEST SPELLS ITS CHUNKS: a piece for each, the new ones numbered in order, and no name kept twice
abbrev pub is_spelled : ℕ → Content → List (List Piece) → Bool
is_spelled size content pieces =
    is_of_each size pieces (objects_of content)
    && (are_counted 0 (flat pieces) && are_apart (kept_in (flat pieces)))

-- and whether a row names them: a name for each, and none twice
abbrev pub is_named : ℕ → Content → List (List ChunkName) → Bool
is_named size content names = is_of_each size names (objects_of content) && are_apart (flat names)

abbrev pub is_there : List Named → Piece × List ℕ → Bool
is_there row (Fresh ordinal, chunk) = true
is_there row (Keep name, chunk) = list_any (λ (held : Named). same_name held.0 name && bytes_eq held.1 chunk) row

-- whether the row has each chunk that is kept
abbrev pub has_kept : ℕ → List (List Named) → Content → List (List Piece) → Bool
has_kept size held content pieces =
    list_all (is_there (flat held)) (flat (each_chunk size pieces (objects_of content)))

-- ---- a content by pieces: a chunk is kept where what was read last has the same bytes at its place and the Store's
-- name is known

abbrev pub kept_as : List (Option ChunkName × List ℕ) → List ℕ → Option ChunkName
kept_as [] chunk = None
kept_as (held ∷ old) chunk = if bytes_eq held.1 chunk then held.0 else None

abbrev pub piece_by : ℕ → Option ChunkName → Piece
piece_by next None = Fresh next
piece_by next (Some name) = Keep name

abbrev pub next_by : ℕ → Option ChunkName → ℕ
next_by next None = next + 1
next_by next (Some name) = next

-- the new chunks are numbered from `next` on
abbrev pub against : ℕ → List (Option ChunkName × List ℕ) → List (List ℕ) → List Piece
against next old [] = []
against next old (chunk ∷ chunks) =
    piece_by next (kept_as old chunk) ∷ against (next_by next (kept_as old chunk)) (drop 1 old) chunks

abbrev pub next_behind : ℕ → List Piece → ℕ
next_behind next [] = next
next_behind next (Keep name ∷ pieces) = next_behind next pieces
next_behind next (Fresh ordinal ∷ pieces) = next_behind (next + 1) pieces

abbrev pub all_against : ℕ → List (List (Option ChunkName × List ℕ)) → List (List (List ℕ)) → List (List Piece)
all_against next old [] = []
all_against next old (object ∷ objects) =
    against next (first_of old) object
    ∷ all_against (next_behind next (against next (first_of old) object)) (others_of old) objects

-- ---- all chunks sent

abbrev pub fresh_from : ℕ → List Piece → List Piece
fresh_from next [] = []
fresh_from next (piece ∷ pieces) = Fresh next ∷ fresh_from (next + 1) pieces

abbrev pub all_fresh : ℕ → List (List Piece) → List (List Piece)
all_fresh next [] = []
all_fresh next (object ∷ objects) = fresh_from next object ∷ all_fresh (next + length object) objects
