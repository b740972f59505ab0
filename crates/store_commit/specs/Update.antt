-- A write that is to be taken on: what is asked of it, and what it makes of what the devices hold.
use Rattle.std.specs.Prelude.{◌≡◌, ℕ, ◌+◌, ◌*◌, ◌≤◌, ◌&&◌, Bool, true, false, not, nat_lt, if◌then◌else◌, List, [], ◌∷◌}
use Rattle.std.specs.Prelude.{◌++◌}
use Rattle.std.specs.Prelude.{length, filter, sum_by, is_some, slice_get, Option, Some, None, unwrap_or}
use Rattle.std.specs.List.{AllByRecursion}
use Rattle.std.specs.BTreeSet.{BTreeSet, contains}
use Rattle.stab_base.specs.declared.chunk_name.ChunkName.{ChunkName}
use Rattle.row_value.specs.Fit.{spelled_len}
use Rattle.row_value.specs.declared.pieces.Piece.{Piece}
use Rattle.row_value.specs.declared.pieces.Piece.TheVariants.{Keep, Fresh}
use Rattle.row_value.specs.declared.pieces.PieceContent.{PieceContent}
use Rattle.row_value.specs.declared.pieces.PieceContent.TheVariants.{Gone, Row}
use Rattle.value_codec.specs.Spelling.{HasContentSpelling, pieces_of, fresh_in}
use Rattle.chunk_store.specs.Payload.{name_cmp}
use Rattle.chunk_store.specs.Standing.{chunk_in}
use Rattle.row_store.specs.declared.stored.LastWrite.{LastWrite}
use Rattle.row_store.specs.declared.stored.StoredRow.{StoredRow}
use Rattle.row_store.specs.Data.{TableData, row_of, IsTableVersion}
use Rattle.row_store.specs.Spelling.{IsClient}
use Rattle.status_log.specs.Entry.{Entry}
use Rattle.store_commit.specs.declared.update.Update.{Update}
use Rattle.store_commit.specs.Devs.{Devs, Write, OpenEntry}
use Rattle.store_commit.specs.NamedChunks.{Among, AreDifferent, is_among, names_of}
use Rattle.store_commit.specs.There.{lacks, misfits}
use Rattle.store_commit.specs.Agenda.{named_content}

-- ---- the row that stands

abbrev pub names_if : Option StoredRow → List ChunkName
names_if None = []
names_if (Some stored) = names_of stored.content

abbrev pub lasts_if : Option StoredRow → List LastWrite
lasts_if None = []
lasts_if (Some stored) = stored.pairs

-- ---- what it makes of them

-- The last writes with this one: those of smaller clients, this one, and those of greater clients.
abbrev pub with_last : List LastWrite → LastWrite → List LastWrite
with_last lasts last =
    filter (λ other. nat_lt other.client last.client) lasts
    ++ (last ∷ filter (λ other. nat_lt last.client other.client) lasts)

-- the set has these names
pub record HasNames (names : List ChunkName) (set : BTreeSet ChunkName) : Type 0 where
  pub same : (name : ChunkName) → contains name_cmp set name ≡ is_among name names

-- A name is met, where these were before: it is one of the old ones if there is one and it wasn't met.
pub record Meets (there : ChunkName → Bool) (name : ChunkName) (met met_then : BTreeSet ChunkName)
    (old old_then : List ChunkName) : Type 0 where
  pub added : (seen : List ChunkName) → HasNames seen met → there name && not (is_among name seen) ≡ true
      → (old_then ≡ old ++ name ∷ []) × HasNames (name ∷ seen) met_then
  pub kept : (seen : List ChunkName) → HasNames seen met → there name && not (is_among name seen) ≡ false
      → (old_then ≡ old) × HasNames seen met_then

-- of these names those that there are and that weren't met, each once
abbrev pub unmet : (ChunkName → Bool) → List ChunkName → List ChunkName → List ChunkName
unmet there met [] = []
unmet there met (name ∷ names) = if there name && not (is_among name met) then name ∷ unmet there (name ∷ met) names
    else unmet there met names

-- the chunks of the row that stands which the new content doesn't name, in the order of its pieces
abbrev pub old_names : Devs → Update → List ChunkName
old_names d update =
    unmet (λ name. is_some (chunk_in d.chunks name)) (names_of update.content) (names_if (row_of d.held update.row))

abbrev pub entry_for : Devs → ℕ → Update → Entry
entry_for d version update = record {
  version = version;
  row = update.row;
  client = update.client;
  number = update.number;
  base = update.base;
  fresh = length update.fresh;
  old = old_names d update;
}

abbrev pub stored_for : Devs → ℕ → Update → StoredRow
stored_for d version update = record {
  row = update.row;
  version = version;
  content = named_content version update.content;
  pairs = with_last (lasts_if (row_of d.held update.row))
      (record { client = update.client; number = update.number; version = version });
}

-- one above the greatest of all rows
abbrev pub IsNextVersion : TableData → ℕ → Type 0
IsNextVersion held version = (last : ℕ) × IsTableVersion held last × (version ≡ last + 1)

-- ---- what is asked of it

-- what a piece of an update stands for: a chunk that the device has, or a new one
abbrev pub brought : (ChunkName → Option (List ℕ)) → List (List ℕ) → Piece → Option (List ℕ)
brought chunk fresh (Keep name) = chunk name
brought chunk fresh (Fresh ordinal) = slice_get fresh ordinal

-- how many bytes spell a content each piece of which names a chunk
abbrev pub content_size : PieceContent → ℕ
content_size Gone = 1
content_size (Row some objects) =
    9 + (sum_by spelled_len some + sum_by (λ object. 8 + 13 * length object.pieces) objects)

-- a payload of the rows has room for such a content, beside the row's id, its version and 64 last writes
abbrev pub content_most : ℕ
content_most = 8387299

-- the largest chunk
abbrev pub chunk_most : ℕ
chunk_most = 65536

abbrev pub fresh_of : PieceContent → List ℕ
fresh_of Gone = []
fresh_of (Row some objects) = fresh_in (pieces_of objects)

pub record IsUpdate (d : Devs) (update : Update) : Type 0 where
  pub client : IsClient update.client
  -- the content is one that a message can have: its new chunks count 0, 1, 2 and so on
  pub content : HasContentSpelling update.content
  pub short : content_size update.content ≤ content_most
  -- the names in it are different, and each is one of the row that stands
  pub different : AreDifferent (names_of update.content)
  pub kept : (name : ChunkName) → Among name (names_of update.content)
      → Among name (names_if (row_of d.held update.row))
  -- one new chunk for each
  pub fresh : length update.fresh ≡ length (fresh_of update.content)
  pub chunks : AllByRecursion (λ bytes. length bytes ≤ chunk_most) update.fresh
  -- the content fits the table's schema; each object has as many pieces as one of its length has chunks, and each
  -- chunk, kept or new, has the length of its place
  pub fits : misfits d.held.table update.content ≡ false
  pub lens : lacks (brought (chunk_in d.chunks) update.fresh) d.held.table update.content ≡ false

-- ---- the version at work

abbrev pub version_if : Option Entry → ℕ
version_if None = 0
version_if (Some entry) = entry.version

-- the version of the entry that a write opens
abbrev pub version_opened : Write → Option ℕ
version_opened (OpenEntry entry) = Some entry.version
version_opened _ = None

abbrev pub opened_first : List Write → Option ℕ
opened_first [] = None
opened_first (w ∷ ws) = version_opened w

-- that of the entry which is opened next or is open, else 0
abbrev pub at_work : Devs → List Write → ℕ
at_work d ws = unwrap_or (opened_first ws) (version_if d.pending)
