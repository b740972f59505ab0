-- What a table at the Store, up and with no write to be done, makes of parts: of each client it keeps its last request
-- that waits for fragments, with what has come of it. What it completes, or answers before, is a request, which its
-- step table takes.
use Rattle.std.specs.Prelude.{ℕ, ◌==◌, nat_lt, ◌&&◌, ◌||◌, not, Bool, true, List, [], ◌∷◌, length, filter, Option, Some}
use Rattle.std.specs.Prelude.{None, if◌then◌else◌}
use Rattle.std.specs.List.{find, list_any, list_all}
use Rattle.stab_base.specs.declared.chunk_name.ChunkName.{ChunkName}
use Rattle.row_value.specs.declared.content.Content.{Content}
use Rattle.row_value.specs.declared.pieces.Piece.{Piece}
use Rattle.row_value.specs.declared.pieces.Piece.TheVariants.{Keep, Fresh}
use Rattle.row_value.specs.declared.pieces.PieceContent.{PieceContent}
use Rattle.row_value.specs.declared.schema.Scheme.{Scheme}
use Rattle.table_model.specs.History.{same_row}
use Rattle.chunker.specs.Sized.{sized}
use Rattle.assemblies.specs.declared.sent.Sent.TheVariants as sents
use Rattle.assemblies.specs.Travel.{is_sent}
use Rattle.assemblies.specs.Places.{awaited_of}
use Rattle.assemblies.specs.Gathering.{Slot, waiting, taken, takes, is_whole}
use Rattle.assemblies.specs.Gathering as gathering
use Rattle.assemblies.specs.Parts.{joined}
use Rattle.step_tables.specs.Store.{Stored, current_of}
use Rattle.step_tables.specs.Chunks.{Named, same_name, flat, objects_of, each_chunk, chunks_of, is_spelled}
use Rattle.step_tables.specs.StoreMoves.{takes as scheme_takes, version_of, yours_in}
use Rattle.step_tables.specs.Messages.{Request, Pair, Message, SyncRequest, PullRequest, TornRowRequest}
use Rattle.part_tables.specs.Parts.{Part, Asks, Responds, Pulls, Answers, BringsUp, BringsDown, AsksTorn, AnswersTorn}
use Rattle.part_tables.specs.Parts.{RequestHead, Fragment, pieces_in}

-- a request that waits for fragments, with what has come of its chunks that travel
pub record Gathering : Type 0 where
  pub head : RequestHead
  pub slots : List Slot

-- a part makes a whole message, or it is kept or dropped
pub data Taken : Type 0 where
  Whole : (message : Message) → Taken
  Waits : Taken

pub record StoreTaken : Type 0 where
  pub taken : Taken
  pub gatherings : List Gathering

abbrev pub is_of_client : ℕ → Gathering → Bool
is_of_client client g = g.head.client == client

abbrev pub without_client : ℕ → List Gathering → List Gathering
without_client client gs = filter (λ (g : Gathering). not (is_of_client client g)) gs

-- the request of a header, with this content
abbrev pub request_with : RequestHead → Content → Request
request_with head content = record {
  client = head.client;
  table = head.table;
  row = head.row;
  number = head.number;
  base = head.base;
  content = content;
  pieces = pieces_in head.content;
}

-- ---- kept chunks, by name and length alone

abbrev pub is_as_long : List Named → Piece × List ℕ → Bool
is_as_long row (Fresh ordinal, chunk) = true
is_as_long row (Keep name, chunk) =
    list_any (λ (held : Named). same_name held.0 name && (length held.1 == length chunk)) row

-- whether the row has each chunk that is kept, as long as its place
abbrev pub has_kept_by_len : ℕ → List (List Named) → PieceContent → Bool
has_kept_by_len size held content =
    list_all (is_as_long (flat held)) (flat (each_chunk size (pieces_in content) (objects_of (sized content))))

abbrev pub bytes_in : Option Named → List ℕ
bytes_in None = []
bytes_in (Some held) = held.1

-- the bytes of a chunk of the row
abbrev pub bytes_of : List (List Named) → ChunkName → List ℕ
bytes_of held name = bytes_in (find (λ (chunk : Named). same_name chunk.0 name) (flat held))

-- ---- a request

-- it is answered at once: a repeat, a late one, over another base than the scheme takes, or one that keeps what the row
-- hasn't
abbrev pub is_answered : Scheme → ℕ → List Stored → RequestHead → Bool
is_answered g size items head =
    let yours : Pair = yours_in items head.client head.row in
    (yours.number == head.number) || (nat_lt head.number yours.number
    || (not (scheme_takes g head.base (version_of (current_of items head.row)))
    || not (has_kept_by_len size (chunks_of size items head.row) head.content)))

-- the content of a header whose chunks have come, where the kept ones are the row's
abbrev pub assembled : ℕ → List Stored → Gathering → Content
assembled size items g = joined (bytes_of (chunks_of size items g.head.row)) (is_sent sents.Fresh) g.head.content
    (gathering.chunks_of g.slots)

-- a request comes, or a chunk of one: it is answered, or complete, or goes on to wait. Where it is answered its bytes
-- don't matter
abbrev pub weighed : Scheme → ℕ → List Stored → List Gathering → Gathering → StoreTaken
weighed g size items others x =
    if is_answered g size items x.head
    then record { taken = Whole (SyncRequest (request_with x.head (sized x.head.content))); gatherings = others }
    else (if is_whole x.slots
    then record { taken = Whole (SyncRequest (request_with x.head (assembled size items x))); gatherings = others }
    else record { taken = Waits; gatherings = x ∷ others })

-- a request takes the place of the one of its client that waits; one that doesn't spell its chunks is dropped
abbrev pub asked : Scheme → ℕ → List Stored → List Gathering → RequestHead → StoreTaken
asked g size items gs head =
    if is_spelled size (sized head.content) (pieces_in head.content)
    then weighed g size items (without_client head.client gs)
    (record { head = head; slots = waiting (awaited_of (is_sent sents.Fresh) size head.content) })
    else record { taken = Waits; gatherings = gs }

-- ---- a fragment

abbrev pub waits_for : Fragment → Gathering → Bool
waits_for f x = same_row x.head.row f.row && ((x.head.number == f.key) && takes f.column f.place f.bytes x.slots)

abbrev pub brought_to : Scheme → ℕ → List Stored → List Gathering → Fragment → Option Gathering → StoreTaken
brought_to g size items gs f None = record { taken = Waits; gatherings = gs }
brought_to g size items gs f (Some x) =
    if waits_for f x
    then (if is_whole (taken f.column f.place f.bytes x.slots)
    then weighed g size items (without_client f.client gs) (record x { slots = taken f.column f.place f.bytes x.slots })
    else record {
      taken = Waits;
      gatherings = record x { slots = taken f.column f.place f.bytes x.slots } ∷ without_client f.client gs;
    })
    else record { taken = Waits; gatherings = gs }

-- what a part comes to
abbrev pub parted : Scheme → ℕ → List Stored → List Gathering → Part → StoreTaken
parted g size items gs (Asks head) = asked g size items gs head
parted g size items gs (Responds response) = record { taken = Waits; gatherings = gs }
parted g size items gs (Pulls pull) = record { taken = Whole (PullRequest pull); gatherings = gs }
parted g size items gs (Answers head) = record { taken = Waits; gatherings = gs }
parted g size items gs (BringsUp f) = brought_to g size items gs f (find (is_of_client f.client) gs)
parted g size items gs (BringsDown f) = record { taken = Waits; gatherings = gs }
parted g size items gs (AsksTorn torn) = record { taken = Whole (TornRowRequest torn); gatherings = gs }
parted g size items gs (AnswersTorn head) = record { taken = Waits; gatherings = gs }
