-- What a client with an opened table, up, linked and with no write to be done, makes of parts of answers to its pulls:
-- of each table it keeps the last answer that waits for fragments, with what has come of it. What it completes, or
-- doesn't have to wait for, is an answer, which its step table takes; an answer that keeps a chunk that isn't held
-- tears its row.
use Rattle.std.specs.Prelude.{ℕ, ◌==◌, nat_le, ◌&&◌, not, Bool, true, false, List, [], ◌∷◌, ◌++◌, length, map, filter}
use Rattle.std.specs.Prelude.{Option, Some, None, if◌then◌else◌}
use Rattle.std.specs.List.{find, list_any, list_all}
use Rattle.stab_base.specs.declared.chunk_name.ChunkName.{ChunkName}
use Rattle.row_value.specs.declared.content.Content.{Content}
use Rattle.row_value.specs.declared.pieces.Piece.{Piece}
use Rattle.row_value.specs.declared.pieces.Piece.TheVariants.{Keep, Fresh}
use Rattle.row_value.specs.declared.pieces.PieceContent.{PieceContent}
use Rattle.table_model.specs.History.{same_row}
use Rattle.chunker.specs.Sized.{sized}
use Rattle.assemblies.specs.declared.sent.Sent.TheVariants as sents
use Rattle.assemblies.specs.Travel.{is_sent}
use Rattle.assemblies.specs.Places.{awaited_of}
use Rattle.assemblies.specs.Gathering.{Slot, waiting, taken, takes, is_whole}
use Rattle.assemblies.specs.Gathering as gathering
use Rattle.assemblies.specs.Parts.{joined}
use Rattle.step_tables.specs.Chunks.{same_name, flat, objects_of, each_chunk, kept_in, is_named}
use Rattle.step_tables.specs.ClientMoves.{Slots, TableDisk, chunks_read, slots_at, top}
use Rattle.step_tables.specs.Messages.{Header, Message, SyncResponse, PullResponse}
use Rattle.part_tables.specs.Parts.{Part, Asks, Responds, Pulls, Answers, BringsUp, BringsDown, AsksTorn, AnswersTorn}
use Rattle.part_tables.specs.Parts.{PulledHead, RowHead, Fragment, pieces_in}

-- an answer that waits for fragments, its row, and what has come of the chunks that travel
pub record Answering : Type 0 where
  pub head : PulledHead
  pub row : RowHead
  pub slots : List Slot

-- a part makes a whole message, or tears a row, or it is kept or dropped
pub data Taken : Type 0 where
  Whole : (message : Message) → Taken
  Tears : (row : List ℕ) → Taken
  Waits : Taken

pub record ClientTaken : Type 0 where
  pub taken : Taken
  pub answerings : List Answering

abbrev pub is_of_table : ℕ → Answering → Bool
is_of_table table x = x.head.table == table

abbrev pub without_table : ℕ → List Answering → List Answering
without_table table xs = filter (λ (x : Answering). not (is_of_table table x)) xs

abbrev pub names_in : PieceContent → List (List ChunkName)
names_in content = map kept_in (pieces_in content)

-- the answer of a header, with this content
abbrev pub header_with : RowHead → Content → Header
header_with row content = record {
  row = row.row;
  version = row.version;
  yours = row.yours;
  content = content;
  names = names_in row.content;
}

abbrev pub answer_with : PulledHead → RowHead → Content → Message
answer_with head row content = PullResponse (record {
  client = head.client;
  table = head.table;
  from = head.from;
  to = head.to;
  latest = head.latest;
  header = Some (header_with row content);
})

-- ---- chunks that the client holds under the Store's names: those of the rows that it has from the Store

abbrev pub Held : Type 0
Held = Option ChunkName × List ℕ

abbrev pub held_in : ℕ → Slots → List Held
held_in size slots = flat (chunks_read size slots.shadow) ++ flat (chunks_read size slots.conflict)

abbrev pub is_under : ChunkName → Option ChunkName → Bool
is_under name None = false
is_under name (Some other) = same_name other name

-- a chunk that doesn't travel is held, as long as its place
abbrev pub is_as_long : (Piece → Bool) → List Held → Piece × List ℕ → Bool
is_as_long sends held (Fresh ordinal, chunk) = true
is_as_long sends held (Keep name, chunk) =
    if sends (Keep name) then true
    else list_any (λ (own : Held). is_under name own.0 && (length own.1 == length chunk)) held

abbrev pub has_held : (Piece → Bool) → ℕ → List Held → PieceContent → Bool
has_held sends size held content =
    list_all (is_as_long sends held) (flat (each_chunk size (pieces_in content) (objects_of (sized content))))

abbrev pub bytes_in : Option Held → List ℕ
bytes_in None = []
bytes_in (Some own) = own.1

abbrev pub bytes_of : List Held → ChunkName → List ℕ
bytes_of held name = bytes_in (find (λ (own : Held). is_under name own.0) held)

-- ---- an answer

abbrev pub sends_of : PulledHead → Piece → Bool
sends_of head = is_sent (sents.Above head.from)

abbrev pub assembled : ℕ → Slots → Answering → Content
assembled size slots x =
    joined (bytes_of (held_in size slots)) (sends_of x.head) x.row.content (gathering.chunks_of x.slots)

-- an answer comes, or a chunk of one: its row isn't newer than the one that was read, so that its bytes don't matter;
-- or it keeps a chunk that isn't held; or it is complete, or goes on to wait
abbrev pub weighed : ℕ → Slots → List Answering → Answering → ClientTaken
weighed size slots others x =
    if nat_le x.row.version (top slots.conflict slots.shadow)
    then record { taken = Whole (answer_with x.head x.row (sized x.row.content)); answerings = others }
    else (if not (has_held (sends_of x.head) size (held_in size slots) x.row.content)
    then record { taken = Tears x.row.row; answerings = others }
    else (if is_whole x.slots
    then record { taken = Whole (answer_with x.head x.row (assembled size slots x)); answerings = others }
    else record { taken = Waits; answerings = x ∷ others }))

-- an answer to another position, or one that doesn't name the chunks of its row, is dropped; another takes the place of
-- the one that waits
abbrev pub answered : TableDisk → List Answering → PulledHead → Option RowHead → ClientTaken
answered opened xs head None = record { taken = Waits; answerings = xs }
answered opened xs head (Some row) =
    if (head.from == opened.position)
    && is_named opened.schema.chunk (sized row.content) (names_in row.content)
    then weighed opened.schema.chunk (slots_at opened row.row) (without_table head.table xs) (record {
      head = head;
      row = row;
      slots = waiting (awaited_of (sends_of head) opened.schema.chunk row.content);
    })
    else record { taken = Waits; answerings = xs }

-- ---- a fragment

abbrev pub waits_for : Fragment → Answering → Bool
waits_for f x = same_row x.row.row f.row && ((x.row.version == f.key) && takes f.column f.place f.bytes x.slots)

abbrev pub brought_to : TableDisk → List Answering → Fragment → Option Answering → ClientTaken
brought_to opened xs f None = record { taken = Waits; answerings = xs }
brought_to opened xs f (Some x) =
    if waits_for f x
    then (if is_whole (taken f.column f.place f.bytes x.slots)
    then weighed opened.schema.chunk (slots_at opened f.row) (without_table f.table xs)
    (record x { slots = taken f.column f.place f.bytes x.slots })
    else record {
      taken = Waits;
      answerings = record x { slots = taken f.column f.place f.bytes x.slots } ∷ without_table f.table xs;
    })
    else record { taken = Waits; answerings = xs }

-- what a part that comes for an opened table comes to, where no row was asked for whole
abbrev pub parted : TableDisk → List Answering → Part → ClientTaken
parted opened xs (Asks head) = record { taken = Waits; answerings = xs }
parted opened xs (Responds response) = record { taken = Whole (SyncResponse response); answerings = xs }
parted opened xs (Pulls pull) = record { taken = Waits; answerings = xs }
parted opened xs (Answers head) = answered opened xs head head.header
parted opened xs (BringsUp f) = record { taken = Waits; answerings = xs }
parted opened xs (BringsDown f) = brought_to opened xs f (find (is_of_table f.table) xs)
parted opened xs (AsksTorn torn) = record { taken = Waits; answerings = xs }
parted opened xs (AnswersTorn head) = record { taken = Waits; answerings = xs }
