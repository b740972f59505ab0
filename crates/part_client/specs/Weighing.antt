-- What an answer to a pull, or a row that was asked for whole, comes to by what is held of its row.
use Rattle.std.specs.Prelude.{ℕ, nat_le, not, List, [], ◌∷◌, Option, Some, if◌then◌else◌}
use Rattle.chunker.specs.Sized.{sized}
use Rattle.assemblies.specs.Gathering.{is_whole, chunks_of}
use Rattle.assemblies.specs.Parts.{joined}
use Rattle.step_tables.specs.Messages.{Header, Message, PullResponse, TornRowResponse}
use Rattle.step_tables.specs.Travels.{message_of}
use Rattle.part_tables.specs.ClientParts.{Held, Answering, Taken, Whole, Tears, Waits, ClientTaken, header_with}
use Rattle.part_tables.specs.ClientParts.{answer_with, sends_of, has_held, bytes_of}
use Rattle.part_tables.specs.Arriving.{WholeRow, torn_answer, assembled}
use Rattle.part_client.specs.declared.pulls.PullHead.{PullHead}
use Rattle.part_client.specs.declared.pulls.Pulling.{Pulling}
use Rattle.part_client.specs.declared.pulls.Weighed.{Weighed}
use Rattle.part_client.specs.declared.pulls.Weighed.TheVariants as pulls
use Rattle.part_client.specs.declared.rows.RowAsked.{RowAsked}
use Rattle.part_client.specs.declared.rows.TornRow.{TornRow}
use Rattle.part_client.specs.declared.rows.RowWeighed.{RowWeighed}
use Rattle.part_client.specs.declared.rows.RowWeighed.TheVariants as rows

-- ---- an answer to a pull

abbrev pub answering_of : Pulling → Answering
answering_of x = record {
  head = record {
    client = x.head.client;
    table = x.head.table;
    from = x.head.from;
    to = x.head.to;
    latest = x.head.latest;
    header = Some x.came.row;
  };
  row = x.came.row;
  slots = x.came.slots;
}

-- the message with this header
abbrev pub pull_answer : PullHead → Header → Message
pull_answer head header = PullResponse (record {
  client = head.client;
  table = head.table;
  from = head.from;
  to = head.to;
  latest = head.latest;
  header = Some header;
})

abbrev pub weighed_of : Weighed → ClientTaken
weighed_of (pulls.Whole message) = record { taken = Whole (message_of message); answerings = [] }
weighed_of (pulls.Tears row) = record { taken = Tears row; answerings = [] }
weighed_of (pulls.Waits x) = record { taken = Waits; answerings = answering_of x ∷ [] }

-- what it comes to, and what waits then, where its bytes matter and what it keeps is held
abbrev pub came_weighed : List Held → Answering → ClientTaken
came_weighed held x =
    if is_whole x.slots
    then record {
      taken = Whole (answer_with x.head x.row
          (joined (bytes_of held) (sends_of x.head) x.row.content (chunks_of x.slots)));
      answerings = [];
    }
    else record { taken = Waits; answerings = x ∷ [] }

abbrev pub pull_weighed : ℕ → ℕ → List Held → Answering → ClientTaken
pull_weighed size read held x =
    if nat_le x.row.version read
    then record { taken = Whole (answer_with x.head x.row (sized x.row.content)); answerings = [] }
    else (if not (has_held (sends_of x.head) size held x.row.content)
    then record { taken = Tears x.row.row; answerings = [] }
    else came_weighed held x)

-- ---- a row that was asked for whole

pub record WholeTaken : Type 0 where
  pub taken : Taken
  pub rows : List WholeRow

abbrev pub whole_of : TornRow → WholeRow
whole_of x = record {
  head = record { client = x.head.client; table = x.head.table; row = x.head.row; header = Some x.came.row };
  row = x.came.row;
  slots = x.came.slots;
}

abbrev pub whole_answer : RowAsked → Option Header → Message
whole_answer head header =
    TornRowResponse (record { client = head.client; table = head.table; row = head.row; header = header })

abbrev pub row_weighed_of : RowWeighed → WholeTaken
row_weighed_of (rows.Whole message) = record { taken = Whole (message_of message); rows = [] }
row_weighed_of (rows.Waits x) = record { taken = Waits; rows = whole_of x ∷ [] }

abbrev pub row_came : WholeRow → WholeTaken
row_came x =
    if is_whole x.slots
    then record { taken = Whole (torn_answer x.head (Some (header_with x.row (assembled x)))); rows = [] }
    else record { taken = Waits; rows = x ∷ [] }

abbrev pub row_weighed : ℕ → WholeRow → WholeTaken
row_weighed read x =
    if nat_le x.row.version read
    then record { taken = Whole (torn_answer x.head (Some (header_with x.row (sized x.row.content)))); rows = [] }
    else row_came x
